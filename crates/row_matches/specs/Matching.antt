-- A list compared, part by part, with what it should be: `Ok` while they agree and `Err` once they differed, with how many numbers of the list are passed either way.
use Rattle.std.specs.Prelude.{ℕ, ◌+◌, ◌≤◌, ◌≡◌, Bool, false, cond, eqb, Result, Ok, Err, List, ◌++◌, length, take, drop}
use Rattle.std.specs.Result.{result_eq}
use Rattle.words.specs.Reads.{same}

-- how many numbers of the list are passed
abbrev pub reached : Result ℕ ℕ → ℕ
reached (Ok at) = at
reached (Err at) = at

-- so many numbers more; what stands there later mends no difference
abbrev pub further : ℕ → Result ℕ ℕ → Result ℕ ℕ
further n (Ok at) = Ok (at + n)
further n (Err at) = Err (at + n)

-- before the first part
abbrev pub nothing : Result ℕ ℕ
nothing = Ok 0

-- one part more, which stands there or not
unfoldable pub passed : List ℕ → List ℕ → Result ℕ ℕ → Result ℕ ℕ
passed part list m = cond (same part (take (length part) (drop (reached m) list))) (further (length part) m) (Err (reached m))

-- do they agree, if this is all that is still to come?
unfoldable pub ends : List ℕ → Result ℕ ℕ → List ℕ → Bool
ends list (Ok at) rest = same rest (drop at list)
ends list (Err at) rest = false

-- do they agree, if nothing is still to come?
abbrev pub at_end : List ℕ → Result ℕ ℕ → Bool
at_end list m = result_eq eqb eqb m (Ok (length list))

-- parts were compared: whatever comes after them, the answer is as before
pub record Passes (parts list : List ℕ) (m n : Result ℕ ℕ) : Type 0 where
  pub inside : reached n ≤ length list
  pub left : (rest : List ℕ) → ends list m (parts ++ rest) ≡ ends list n rest
