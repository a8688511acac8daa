-- What a call answers as numbers side by side, in document 01's own numbers.
use Rattle.std.specs.Prelude.{ℕ, length, get_or, ltb, Option}
use Rattle.words.specs.Range.{bit}
use Rattle.words.specs.Answers.{Answer as Says, entry_says}
use Rattle.words.specs.declared.Taken.{Taken}
use Rattle.words_index.specs.Calls.{looked_says}
use Rattle.words_index.specs.declared.Looked.{Looked}
use Rattle.call_answers.specs.declared.Answer.{Answer}
use Rattle.call_answers.specs.declared.Move.{Move}
use Rattle.call_answers.specs.declared.Found.{Found}

-- the number and the two values, 0 where an answer has fewer
unfoldable pub plain : Says → Answer
plain a = record { number = a.number; value = get_or a.values 0 0; more = get_or a.values 1 0 }

-- what the reader says of an entry, side by side, and the place to go on from; all 0 but the place where there is no value
unfoldable pub entry_move : Says → ℕ → Move
entry_move a k =
    record {
      at = k;
      found = bit (ltb 0 (length a.values));
      width = get_or a.values 0 0;
      name = get_or a.values 1 0;
      position = get_or a.values 2 0;
    }

-- what the log reader takes
unfoldable pub plain_move : Taken → Move
plain_move t = entry_move (entry_says t.entry) t.at

-- what a lookup says of an entry, side by side; all 0 where there is no value
unfoldable pub entry_found : Says → Found
entry_found a =
    record {
      found = bit (ltb 0 (length a.values));
      place = get_or a.values 0 0;
      first = get_or a.values 1 0;
      lines = get_or a.values 2 0;
      largest = get_or a.values 3 0;
    }

-- what a lookup gives
unfoldable pub plain_looked : Option Looked → Found
plain_looked a = entry_found (looked_says a)
