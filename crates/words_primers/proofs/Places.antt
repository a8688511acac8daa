-- Where a primer sits: what it means in the document's words, and that the list of places has exactly those, rising. Assumes nothing.
use Prim.Native.Nat.{ℕ, suc, ◌+◌, ◌≤◌, ◌<◌}
use mathlib.Core.Path.{◌≡◌, refl, sym, ap, ◌∙◌}
use mathlib.Core.Logic.{◌≢◌, ◌↔◌}
use mathlib.Core.Bool.{true, false}
use mathlib.Core.List.{List, []}
use native.Mathlib.Omega.{arith}
use lib.ListN.{length, get_or}
use lib.Dec.{leb}
use borrow.Author.Tests.{le-leb, lt-leb, leb-true, eqb-true, not-true}
use Rattle.words.specs.Range.{every}
use Rattle.words.specs.Reads.{at, unread, fits}
use Rattle.words.proofs.Tests.{and_left, and_right, and_both, fails}
use Rattle.words.proofs.Ranges.{every-at, every_of}
use Rattle.words.proofs.Passing.{In, Rising, passes, passing-none, passing_stop}
use Rattle.words_primers.specs.Bases.{set_of, letter_for, matches}
use Rattle.words_primers.specs.Primers.{lets_in, sits, places}
use Rattle.words_primers.proofs.Letters.{letter-back, unread-set, set_small}
use Rattle.words_primers.proofs.Sets.{Among, matches_means, all_match}

-- the read's letter at position i is one of the code, and each of its bases is one of the primer letter's
abbrev pub Under : List ℕ → ℕ → ℕ → Type 0
Under x i c = (set_of (at x i) ≢ 0) × Among (set_of (at x i)) (set_of c)

module _ (x u : List ℕ) (i : ℕ) where
  pub lets_in_is : (k : ℕ) → lets_in x u i k ≡ matches (set_of (at x (i + k))) (set_of (get_or u k 0))
  unfolding lets_in
  lets_in_is k = refl

  -- a primer that ends inside the read sits there exactly if all its letters let in
  pub sits-inside : i + length u ≤ suc (length x) → sits x u i ≡ every (lets_in x u i) (length u) 0
  unfolding sits fits
  sits-inside h = rw (le-leb (i + length u) (suc (length x)) h)

  -- one that does not sits nowhere
  pub sits-outside : suc (length x) < i + length u → sits x u i ≡ false
  unfolding sits fits
  sits-outside h = rw (lt-leb (i + length u) (suc (length x)) h)

  pub sits_means : (sits x u i ≡ true) ↔ ((i + length u ≤ suc (length x)) × ((k : ℕ) → k < length u → Under x (i + k) (get_or u k 0)))
  unfolding sits fits lets_in
  sits_means = (
    λ t.
        let f = and_left (leb (i + length u) (suc (length x))) (every (lets_in x u i) (length u) 0) t in
        let e = and_right (leb (i + length u) (suc (length x))) (every (lets_in x u i) (length u) 0) t in
        (leb-true _ _ f, λ k l. (matches_means _ _).0 (every-at (lets_in x u i) (length u) 0 e k (omega arith) (omega arith))),
    λ m. and_both (leb (i + length u) (suc (length x))) (every (lets_in x u i) (length u) 0)
        (le-leb _ _ m.0)
        (every_of (lets_in x u i) (length u) 0 (λ k a b. (matches_means _ _).1 (m.1 k (omega arith)))),
  )

  -- a letter of the read that is none of the code is let in nowhere
  pub outside_nowhere : (k : ℕ) → k < length u → set_of (at x (i + k)) ≡ 0 → sits x u i ≡ false
  outside_nowhere k l z = not-true (sits x u i) (fails (sits x u i) (λ t. ((sits_means.0 t).1 k l).0 z))

-- an unread base, which is any of the four, is let in by N alone
pub unread_under_n_alone : (c : ℕ) → matches (set_of unread) (set_of c) ≡ true → c ≡ unread
unread_under_n_alone c t =
    let all : matches 15 (set_of c) ≡ true = rw unread-set at t in
    let e : set_of c ≡ 15 = eqb-true (set_of c) 15 (sym (all_match (set_of c) (set_small c)) ∙ all) in
    sym (letter-back c (λ z. omega (arith, e, z))) ∙ ap letter_for (e ∙ sym unread-set) ∙ letter-back unread (λ z. omega (arith, unread-set, z))

-- the primer ends inside the read, and each read letter there is one of the code, and each of its bases one of the primer letter's
abbrev pub Sits : List ℕ → List ℕ → ℕ → Type 0
Sits x u i = (1 ≤ i) × (i + length u ≤ suc (length x)) × ((k : ℕ) → k < length u → Under x (i + k) (get_or u k 0))

module _ (x u : List ℕ) where
  -- a number stands in the list exactly if it is a position at which the primer sits
  pub places_exactly : (i : ℕ) → In (places x u) i ↔ ((1 ≤ i) × (i ≤ length x) × (sits x u i ≡ true))
  unfolding places
  places_exactly i =
      let P = (passes (sits x u) (length x) 1).exactly i in (
        λ w. let o = P.0 w in (o.0, omega (arith, o.1), o.2),
        λ m. P.1 (m.0, omega (arith, m.1), m.2),
      )

  -- a primer longer than the read sits nowhere
  pub longer_nowhere : length x < length u → places x u ≡ []
  unfolding places
  longer_nowhere h = passing_stop (sits x u) 0 (length x) (omega arith) (λ k a b. sits-outside x u k (omega arith)) ∙ passing-none (sits x u) 1

  -- strictly ascending
  pub places_rise : (h k : ℕ) → h < k → k < length (places x u) → get_or (places x u) h 0 < get_or (places x u) k 0
  unfolding places
  places_rise = (passes (sits x u) (length x) 1).rises

  -- the same in words, of a primer that has a letter
  pub places_sit : 1 ≤ length u → Rising (Sits x u) (places x u)
  places_sit some = record {
    exactly = λ i. (
      λ w. let p = (places_exactly i).0 w in let s = (sits_means x u i).0 p.2 in (p.0, s.0, s.1),
      λ s. (places_exactly i).1 (s.0, omega (arith, s.1, some), (sits_means x u i).1 (s.1, s.2)),
    );
    rises = places_rise;
  }
