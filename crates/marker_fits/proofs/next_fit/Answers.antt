-- `marker_fits::next_fit` meets its contract: none fits before the position that `find` gives, and behind the last one tried there is no room. Assumes nothing.
use Rattle.std.proofs.Common.{◌≡◌, ℕ, suc, ◌+◌, ◌-◌, ◌*◌, ◌≤◌, ◌<◌, Bool, true, false, List, length, sym, arith, rules, tests, Option, Some, None}
use mathlib.Core.Logic.{⊎_elim}
use Rattle.std.specs.Option.{IfSome, MatchOption, unwrap_or}
use Rattle.std.proofs.lemmas.Iterator.{first_from_Range}
use Rattle.words.specs.Range.{first}
use Rattle.words.proofs.Tests.{lt_or_ge}
use Rattle.words.proofs.Searches.{first_hit, first_ended}
use Rattle.words_markers.specs.Fits.{fitting}
use Rattle.words_markers.proofs.Starts.{too_late}
use Rattle.marker_fits.proofs.next_fit.Goals as goal

-- what `find` gives over the positions tried
module _ (x m : List ℕ) (from to end : ℕ) (inside : from ≤ suc (length x)) (low : to ≤ suc (length x)) (some : 1 ≤ length m) (e : end ≡ to + 1 - 2 * length m) where
  abbrev fits : ℕ → Bool
  fits = fitting x m 0 to

  first_of : (r : Option ℕ) → MatchOption r ((k : ℕ) → from ≤ k → k < end → fits k ≡ false) (λ i. (from ≤ i) × (i < end) × (fits i ≡ true) × ((k : ℕ) → from ≤ k → k < i → fits k ≡ false)) → (unwrap_or r (suc (length x)) ≡ first fits (suc (length x) - from) from) × IfSome r (λ i. i ≤ length x)
  first_of None h = (sym (first_ended _ _ _ _ (λ k a b. ⊎_elim (h k a) (λ l. too_late _ _ _ _ k (omega arith)) (lt_or_ge k end)) (omega arith)), tt)
  first_of (Some i) h = (sym (first_hit _ _ _ _ h.3 h.0 (omega (arith, h.1)) h.2), omega (arith, h.1))

pub returns : goal.returns
returns c =
    let stands = λ (k : ℕ). fitting c.args.read.now c.args.motif.now 0 c.args.to k in
    first_of _ _ _ _ _ c.requires.1 c.requires.4 c.requires.2 c.saturating_sub-end.ensures _
    (first_from_Range _ _ _ _ (λ k. stands k ≡ true) (λ k. stands k ≡ false) c.find.ensures.ran (λ k q e. search (rules, tests)) (λ k q e. search (rules, tests)))
