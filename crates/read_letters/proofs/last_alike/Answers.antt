-- `read_letters::last_alike` meets its contract: the test is the definition's, and an odd letter is kept at its byte. Assumes nothing.
use mathlib.Core.Path.{sym, ap, ◌∙◌}
use Rattle.read_letters.specs.Seen.{place_of}
use Rattle.read_letters.proofs.Kept.{latest_even, latest_odd, with_even, with_odd, place_none, place_some, odd_half}
use Rattle.read_letters.proofs.last_alike.Goals as goal

pub returns-then-letter-eq0 : goal.returns-then-letter-eq0
returns-then-letter-eq0 c =
    let e = c.if-letter-eq0.true in
    rw (← c.letter.ensures) (sym (place_none _ (latest_even _ _ e)), sym (with_even _ _ _ e))

pub returns-then-l-eq0 : goal.returns-then-l-eq0
returns-then-l-eq0 c =
    let e = c.letter.ensures in
    let odd = c.if-letter-eq0.false in
    let half = odd_half _ _ _ e odd in
    rw (← e) (sym (place_none _ (latest_odd _ _ _ half odd ∙ c.if-l-eq0.true)), sym (with_odd _ _ _ _ half odd))

pub returns-else-l-eq0 : goal.returns-else-l-eq0
returns-else-l-eq0 c =
    let e = c.letter.ensures in
    let odd = c.if-letter-eq0.false in
    let half = odd_half _ _ _ e odd in
    rw (← e) (sym (ap place_of (latest_odd _ _ _ half odd) ∙ place_some _ c.if-l-eq0.false), sym (with_odd _ _ _ _ half odd))
