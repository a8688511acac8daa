-- A log l walked from place 0: each call goes on from the place that the one before it gave.
use Rattle.std.specs.Prelude.{ℕ, zero, suc, List}
use Rattle.words.specs.Calls.{reader_takes}
use Rattle.words.specs.declared.Taken.{Taken}

-- what call k answers, counted from 0
unfoldable pub call : List ℕ → ℕ → Taken
call l zero = reader_takes l 0
call l (suc k) = reader_takes l (call l k).at
