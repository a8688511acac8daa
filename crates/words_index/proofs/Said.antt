-- No two answers of `list_index` say the same. Assumes nothing.
use mathlib.Core.Path.{◌≡◌, refl, ap}
use lib.ListN.{get_or}
use Rattle.std.specs.Prelude.{Result}
use Rattle.words.specs.Answers.{Answer, both}
use Rattle.words.specs.declared.Refusal.{Refusal}
use Rattle.words.proofs.Said.{Tells, said_once}
use Rattle.words_index.specs.Calls.{counts_say, list_indexed_says}
use Rattle.words_index.specs.declared.ListIndexed.{ListIndexed}

counts_back : Answer → ListIndexed
counts_back a = record { lines = get_or a.values 0 0; entries = get_or a.values 1 0 }

counts : Tells counts_say
unfolding counts_say both counts_back
counts = record { zero = λ t. refl; once = λ t s e. ap counts_back e }

pub list_indexed_once : (r s : Result ListIndexed Refusal) → list_indexed_says r ≡ list_indexed_says s → r ≡ s
list_indexed_once r s e = said_once counts_say counts r s e
