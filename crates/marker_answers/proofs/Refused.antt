-- A refusal of a read says the same side by side as any other refusal does: it has one value, and no difference. Assumes nothing.
use mathlib.Core.Path.{◌≡◌, refl}
use Rattle.std.specs.Prelude.{Err}
use Rattle.words.specs.Answers.{refusal, refused_says}
use Rattle.words.specs.declared.Refusal.{Refusal}
use Rattle.words_markers.specs.Calls.{scored_says}
use Rattle.call_answers.specs.Plain.{plain}
use Rattle.marker_answers.specs.Scores.{in_twos, plain_score}

pub refused_plain : (why : Refusal) → plain (refused_says why) ≡ plain_score (scored_says (Err why))
unfolding plain plain_score in_twos scored_says refused_says refusal
refused_plain (Refusal.TooLong n) = refl
refused_plain (Refusal.OutOfRange n) = refl
refused_plain (Refusal.ListFull n) = refl
refused_plain (Refusal.NoRoom n) = refl
refused_plain (Refusal.BadEntry n) = refl
refused_plain (Refusal.OutOfPlace n) = refl
refused_plain (Refusal.IndexFull n) = refl
refused_plain (Refusal.BadLength n) = refl
refused_plain (Refusal.Foreign n) = refl
refused_plain (Refusal.Missing s) = refl
refused_plain (Refusal.MoreThanOnce s) = refl
refused_plain Refusal.OutOfOrder = refl
refused_plain Refusal.NoRepeat = refl
refused_plain Refusal.Several = refl
