-- The lines of one period in a list that is in order.
use Rattle.std.specs.Prelude.{ℕ, ◌-◌, ◌≤◌, ◌<◌, ◌≡◌, ◌≢◌, List}
use Rattle.words.specs.Range.{largest}
use Rattle.words.specs.Rows.{rows}
use Rattle.words.specs.Lists.{line_size, period_of, copies_of}

-- the lines from k to below j have the period of k, and line j, if there is one, has another; `most` is their largest copy count
pub record Blocks (l : List ℕ) (k j most : ℕ) : Type 0 where
  pub some : k < j
  pub high : j ≤ rows line_size l
  pub same : (h : ℕ) → k ≤ h → h < j → period_of l h ≡ period_of l k
  pub other : j < rows line_size l → period_of l j ≢ period_of l k
  pub most_is : most ≡ largest (copies_of l) (j - k) k
