-- Document 02, item 7, over the contract of `score`: a read is scored exactly if one and only one repeat fits, and each refusal is given exactly when its rule and its place in the order say.
-- Each time a holds the arguments of a call, r is what it returns, and e holds the arguments afterwards. Open this file first. Assumes nothing.
use Prim.Native.Nat.{ℕ, ◌+◌, ◌*◌, ◌≤◌, ◌<◌}
use mathlib.Core.Path.{◌≡◌, refl, sym, subst}
use mathlib.Core.Logic.{◌↔◌, ◌≢◌}
use mathlib.Core.Bool.{true}
use mathlib.Core.List.{List}
use lib.ListN.{length}
use lib.IntN.{sub_ℕ}
use Rattle.std.specs.Prelude.{Result}
use Rattle.words.specs.Reads.{at, unread}
use Rattle.words.specs.Repeats.{primitive, repeats}
use Rattle.words.specs.Rows.{rows}
use Rattle.words.specs.Lists.{line_of, line_size}
use Rattle.words.specs.Answers.{success, refusal, counted_says, refused_says}
use Rattle.words.proofs.Rows.{Has}
use Rattle.words.proofs.Afterwards.{front}
use Rattle.words_markers.specs.Calls.{scored_says}
use Rattle.words.specs.declared.Refusal.{Refusal}
use Rattle.words_markers.specs.declared.Scored.{Scored}
use Rattle.words_markers.proofs.Fitting.{Fits}
use Rattle.words_markers.proofs.Seated.{Between}
use Rattle.words_markers.proofs.Truth.{Why, Alone}
use Rattle.words_markers.proofs.Scores.{OneFits, Tells, score_exactly, copies_exactly, why_exactly, difference_is, one_motif}
use Rattle.marker_calls.proofs.score.Reads as score-call
use Rattle.call_lists.proofs.list.Reads as list-call
use Rattle.lister.proofs.Demands.{list_is_crochemores}

-- the call takes any input
pub every_read_is_answered : (κs : _) (a : _) → score-call.Asked κs a
every_read_is_answered κs a = tt

-- a read is scored if and only if each primer sits exactly once, left before right without overlap, and one and only one leading repeat has the motif and lies wholly between them; and its
-- copies are the score
pub a_score_exactly_for_the_only_repeat_that_fits : (κs : _) (a : _) (r : _) (e : _) → score-call.Learnt κs a r e → (c : ℕ)
    → ((scored_says r).answer ≡ success c) ↔ OneFits a.0.now a.1.0.now a.1.1.0.now a.1.1.1.0.now c
a_score_exactly_for_the_only_repeat_that_fits κs a r e h c = copies_exactly _ _ _ _ _ r h c

-- each refusal is given if and only if its rule holds and none before it in the order does, with what it returns
pub each_refusal_exactly_when_its_rule_says : (κs : _) (a : _) (r : _) (e : _) → score-call.Learnt κs a r e → (why : Refusal)
    → ((scored_says r).answer ≡ refused_says why) ↔ Why a.0.now a.1.0.now a.1.1.0.now a.1.1.1.0.now why
each_refusal_exactly_when_its_rule_says κs a r e h why = why_exactly _ _ _ _ _ r h why

-- the signed difference is how many more than the reference the copies are
pub the_difference_is_from_the_reference : (κs : _) (a : _) (r : _) (e : _) → score-call.Learnt κs a r e → (c : ℕ)
    → (scored_says r).answer ≡ success c → (scored_says r).difference ≡ sub_ℕ c a.1.1.1.1.0
the_difference_is_from_the_reference κs a r e h c q = difference_is _ _ _ _ _ r h c q

-- 13 exactly when the primers are placed and no repeat fits, 14 exactly when two or more do
pub thirteen_exactly_when_none_fits : (κs : _) (a : _) (r : _) (e : _) → score-call.Learnt κs a r e
    → let x = a.0.now in let u = a.1.0.now in let v = a.1.1.0.now in let m = a.1.1.1.0.now in
    ((scored_says r).answer ≡ refusal 13 0) ↔ ((lo hi : ℕ) × Between x u v lo hi × ((i p c : ℕ) → Fits x m lo hi i p c → ⊥))
unfolding refused_says
thirteen_exactly_when_none_fits κs a r e h = each_refusal_exactly_when_its_rule_says κs a r e h Refusal.NoRepeat

pub fourteen_exactly_when_more_fit : (κs : _) (a : _) (r : _) (e : _) → score-call.Learnt κs a r e
    → let x = a.0.now in let u = a.1.0.now in let v = a.1.1.0.now in let m = a.1.1.1.0.now in
    ((scored_says r).answer ≡ refusal 14 0) ↔ ((lo hi : ℕ) × Between x u v lo hi × ((i p c j q d : ℕ) × Fits x m lo hi i p c × Fits x m lo hi j q d × (i < j)))
unfolding refused_says
fourteen_exactly_when_more_fit κs a r e h = each_refusal_exactly_when_its_rule_says κs a r e h Refusal.Several

-- the answers leave none over: of any read and marker what the answer given says is so, and what another one says is not
pub the_answers_leave_none_over : (κs : _) (a : _) (r : _) (e : _) → score-call.Learnt κs a r e
    → let T : Result Scored Refusal → Type 0 = Tells a.0.now a.1.0.now a.1.1.0.now a.1.1.1.0.now a.1.1.1.1.0 in T r × ((s : Result Scored Refusal) → T s → s ≡ r)
the_answers_leave_none_over κs a r e h = ((score_exactly _ _ _ _ _ r h r).0 refl, λ s t. sym ((score_exactly _ _ _ _ _ r h s).1 t))

-- a motif that is empty, longer than half the read, a shorter one repeated, or has an N, is never scored
pub a_scored_motif_is_a_repeats : (κs : _) (a : _) (r : _) (e : _) → score-call.Learnt κs a r e → (c : ℕ) → (scored_says r).answer ≡ success c
    → let m = a.1.1.1.0.now in
    (1 ≤ length m) × (2 * length m ≤ length a.0.now) × (primitive m 1 (length m) ≡ true) × ((k : ℕ) → k < length m → at m (1 + k) ≢ unread)
a_scored_motif_is_a_repeats κs a r e h c q = one_motif _ _ _ _ a.1.1.1.1.0 c ((a_score_exactly_for_the_only_repeat_that_fits κs a r e h c).0 q)

-- where the list call succeeds on the read in mode 0, the repeat that is scored is a line of that list, which has as many lines as the call answers, with so many copies
pub a_score_is_a_line_of_the_list : (κs : _) (a : _) (r : _) (e : _) → list-call.Learnt κs a r e → (counted_says r).number ≡ 0 → a.1.0 ≡ 0
    → (ls : _) (b : _) (q : _) (f : _) → score-call.Learnt ls b q f → b.0.now ≡ a.0.now → (c : ℕ) → (scored_says q).answer ≡ success c
    → let x = b.0.now in let m = b.1.1.1.0.now in
    (made : List ℕ) × (e.1.1.0.now ≡ front made a.1.1.0.now) × (counted_says r ≡ success (rows line_size made))
    × ((lo hi : ℕ) × Between x b.1.0.now b.1.1.0.now lo hi × ((i p : ℕ) × Alone x m lo hi i p c × Has line_size made (line_of i p c)))
a_score_is_a_line_of_the_list κs a r e h ok mode ls b q f g same c s =
    let L = list_is_crochemores κs a r e h ok in
    let o = (a_score_exactly_for_the_only_repeat_that_fits ls b q f g c).0 s in
    let w = o.3 in
    (L.0, L.1, L.2, (o.0, o.1, o.2, (w.0, w.1, w.2, (L.3.full mode w.0 w.1 c).1 (subst (λ (x : List ℕ). repeats x w.0 w.1 c ≡ true) same w.2.0.repeat))))
