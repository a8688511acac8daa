-- The bytes that are made free for the text of one width hold it, and the buffer has them. Assumes nothing.
use Prim.Native.Nat.{ℕ, ◌+◌, ◌*◌, ◌^◌, ◌≤◌, ◌<◌}
use mathlib.Core.Path.{◌≡◌}
use mathlib.Core.List.{List}
use native.Mathlib.Omega.{arith}
use lib.ListN.{length, get_or}
use Rattle.words.specs.Rows.{rows}
use Rattle.words.specs.Lists.{line_size}
use Rattle.words.specs.Moves.{move_size}
use Rattle.words_runs.specs.Runs.{run_size}
use Rattle.text_views.specs.Views.{width_text, width_room}
use Rattle.text_views.proofs.Bounds.{width_bound}
use Rattle.bench_shows.specs.Collecting.{longest}
use Rattle.bench_shows.specs.Places.{Brief}

-- m moves, k lines and f runs, as the code counts them
module _ (t moves lines runs : List ℕ) (b : Brief t moves lines runs) {m k f : ℕ}
    (movers : m ≡ rows move_size moves) (starts : k ≡ rows line_size lines) (firsts : f ≡ rows run_size runs) where
  pub need_few : 27 * (length t + m) + 57 * (k + f) + 64 ≤ longest
  need_few = omega (arith, b.names, movers, b.movers, starts, b.starts, firsts, b.firsts)

  pub need_holds : (w : ℕ) → w < 2 ^ 64 → ((i : ℕ) → get_or moves i 0 < 2 ^ 16) → ((i : ℕ) → get_or lines i 0 < 2 ^ 16) → ((i : ℕ) → get_or runs i 0 < 2 ^ 16)
      → length (width_text w t moves lines runs) ≤ 27 * (length t + m) + 57 * (k + f) + 64
  unfolding width_room
  need_holds w h a d e = rw (movers, starts, firsts) (width_bound w t moves lines runs h b.names a d e)
