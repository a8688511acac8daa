-- `primer_judges::first_foreign` meets its contract: the place that `position` gives is the first foreign letter's. Assumes nothing.
use Rattle.std.proofs.Common.{◌≡◌, ℕ, ◌<◌, false, true, eqb, List, length, sym, ◌∙◌, arith, rules, tests, Option, Some, None}
use Rattle.std.specs.List.{AllWithin, HoldsAt}
use Rattle.std.specs.Option.{MatchOption, unwrap_or}
use Rattle.std.proofs.lemmas.Iterator.{IsFirst-from_position, YieldsList-from_slice}
use Rattle.words.proofs.Searches.{first_hit, first_ended}
use Rattle.words_primers.specs.Bases.{set_of}
use Rattle.words_primers.specs.Primers.{foreign, first_foreign}
use Rattle.primer_judges.proofs.first_foreign.Goals as goal

-- letter b is foreign, or is not
abbrev Foreign : ℕ → Type 0
Foreign b = eqb (set_of b) 0 ≡ true

abbrev Own : ℕ → Type 0
Own b = eqb (set_of b) 0 ≡ false

first_of : (u : List ℕ) (r : Option ℕ) → MatchOption r (AllWithin Own u 0 (length u)) (λ i. (i < length u) × HoldsAt Foreign u i × AllWithin Own u 0 i) → unwrap_or r (length u) ≡ first_foreign u
unfolding first_foreign foreign
first_of u None h = sym (first_ended _ _ 0 _ (λ k a l. h k 0 a l) (omega arith))
first_of u (Some i) h = sym (first_hit _ _ 0 i (λ k a l. h.2 k 0 a l) (omega arith) (omega arith) (h.1 0))

pub returns : goal.returns
returns c =
    let p = IsFirst-from_position _ _ _ Foreign Own c.position.ensures.ran (YieldsList-from_slice c.args.primer.now cc) (λ x q k. search (rules, tests)) (λ x q k. search (rules, tests)) in
    c.unwrap_or.ensures ∙ first_of _ _ p
