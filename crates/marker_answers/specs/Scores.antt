-- A score as numbers side by side, in document 02's own numbers.
use Rattle.std.specs.Prelude.{ℕ, suc, ◌-◌, ◌^◌, get_or, ℤ, pos, negsuc}
use Rattle.words_markers.specs.Calls.{Score}
use Rattle.call_answers.specs.declared.Answer.{Answer}

-- a signed number in 64 bits, in two's complement: one that is negative counts down from 2^64
unfoldable pub in_twos : ℤ → ℕ
in_twos (pos n) = n
in_twos (negsuc n) = 2 ^ 64 - suc n

-- the number and its value, and the difference as the second value
unfoldable pub plain_score : Score → Answer
plain_score s = record { number = s.answer.number; value = get_or s.answer.values 0 0; more = in_twos s.difference }
