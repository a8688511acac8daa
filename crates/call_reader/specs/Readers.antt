-- Document 01, "a reader that holds the lent log and the place reached": one call on it, and the reader elsewhere.
use Rattle.std.specs.Prelude.{ℕ}
use Rattle.words.specs.Calls.{reader_takes}
use Rattle.words.specs.declared.Taken.{Taken}
use Rattle.call_reader.specs.declared.LogReader.{LogReader}

-- what one call gives: the next entry or the end, and the place to go on from
abbrev pub takes : LogReader → Taken
takes d = reader_takes d.log.now d.at

-- the reader of the same log at another place
abbrev pub placed : LogReader → ℕ → LogReader
placed d k = record { log = d.log; at = k }
