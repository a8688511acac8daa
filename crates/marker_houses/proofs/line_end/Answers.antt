-- `marker_houses::line_end` meets its contract: the place that `position` gives is the first newline's. Assumes nothing.
use Rattle.std.proofs.Common.{◌≡◌, ℕ, ◌+◌, ◌-◌, ◌≤◌, ◌<◌, false, true, eqb, List, length, get_or, drop, sym, ap, ◌∙◌, arith, rules, tests, Option, Some, None, length-drop}
use Rattle.std.specs.List.{AllWithin, HoldsAt}
use Rattle.std.specs.Option.{MatchOption, unwrap_or}
use Rattle.std.proofs.lemmas.Grind.{common_steps}
use Rattle.std.proofs.lemmas.List.{get_or-drop}
use Rattle.std.proofs.lemmas.Iterator.{IsFirst-from_position, YieldsList-from_slice}
use Rattle.words.proofs.Searches.{first_hit, first_ended}
use Rattle.words_markers.specs.Houses.{newline, breaks, line_end}
use Rattle.words_markers.proofs.Houses.{end_low, end_high}
use Rattle.marker_houses.proofs.line_end.Goals as goal

-- byte b ends a line, or does not
abbrev Ends : ℕ → Type 0
Ends b = eqb b newline ≡ true

abbrev Stays : ℕ → Type 0
Stays b = eqb b newline ≡ false

module _ (h : List ℕ) (a : ℕ) where
  byte : (k : ℕ) → a ≤ k → get_or (drop a h) (k - a) 0 ≡ get_or h k 0
  byte k l = let e : a + (k - a) ≡ k = omega arith in get_or-drop a h (k - a) 0 ∙ ap (λ (v : ℕ). get_or h v 0) e

  stays : (n k : ℕ) → AllWithin Stays (drop a h) 0 n → a ≤ k → k < a + n → breaks h k ≡ false
  unfolding breaks
  stays n k m l u = rw (sym (byte k l)) (m (k - a) 0 (omega arith) (omega arith))

  first_of : (w : List ℕ) (r : Option ℕ) → w ≡ drop a h → a ≤ length h → MatchOption r (AllWithin Stays w 0 (length w)) (λ i. (i < length w) × HoldsAt Ends w i × AllWithin Stays w 0 i) → a + unwrap_or r (length w) ≡ line_end h a
  unfolding line_end breaks
  first_of w r e l = rw e (go r)
    where
      go : (r : Option ℕ) → MatchOption r (AllWithin Stays (drop a h) 0 (length (drop a h))) (λ i. (i < length (drop a h)) × HoldsAt Ends (drop a h) i × AllWithin Stays (drop a h) 0 i) → a + unwrap_or r (length (drop a h)) ≡ line_end h a
      go None m = sym (first_ended (breaks h) _ _ _ (λ k x y. stays _ k m x y) (omega (arith, length-drop {A = ℕ})))
      go (Some i) m = sym (first_hit (breaks h) _ _ _ (λ k x y. stays _ k m.2 x y) (omega arith) (omega (arith, m.0, length-drop {A = ℕ})) (rw (sym (get_or-drop a h i 0)) (m.1 0)))

pub returns : goal.returns
returns c =
    let p = IsFirst-from_position _ _ _ Ends Stays c.position.ensures.ran (YieldsList-from_slice _ c.iter.ensures.rest) (λ x q k. search (rules, tests)) (λ x q k. search (rules, tests)) in
    let e = ap (λ (v : ℕ). c.args.from + v) c.unwrap_or.ensures ∙ first_of c.args.house.now c.args.from _ _ (grind (arith, common_steps)) c.requires p in
    (e, omega (arith, e, end_low c.args.house.now c.args.from), omega (arith, e, end_high c.args.house.now c.args.from c.requires))
