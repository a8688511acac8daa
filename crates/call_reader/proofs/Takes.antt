-- One call of the log reader, apart by its two cases: at a whole entry, and past the last one. Assumes nothing.
use Prim.Native.Nat.{ℕ, ◌+◌, ◌≤◌, ◌<◌}
use mathlib.Core.Path.{◌≡◌, refl}
use mathlib.Core.List.{List}
use borrow.Author.Tests.{le-ltb, lt-ltb}
use Rattle.words.specs.Rows.{rows}
use Rattle.words.specs.Moves.{move_size, width_of, name_of, place_of}
use Rattle.words.specs.Calls.{reader_takes}
use Rattle.std.specs.Prelude.{Some, None}

module _ (l : List ℕ) (k : ℕ) where
  pub takes_entry : k < rows move_size l → reader_takes l k ≡ record { entry = Some (record { width = (width_of l k); name = (name_of l k); position = (place_of l k) }); at = k + 1 }
  unfolding reader_takes
  takes_entry h = rw (lt-ltb k (rows move_size l) h) refl

  pub takes_ended : rows move_size l ≤ k → reader_takes l k ≡ record { entry = None; at = k }
  unfolding reader_takes
  takes_ended h = rw (le-ltb k (rows move_size l) h) refl
