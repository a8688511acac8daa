-- Document 02, item 6, over the contracts of the calls: the list of places has exactly those at which the primer sits, in order; the reverse complement taken twice gives the
-- primer back; and both strands have the same places. Each time a holds the arguments of a call, r is what it returns, and e holds the arguments afterwards. Assumes nothing.
use Prim.Native.Nat.{ℕ, ◌≤◌, ◌<◌}
use mathlib.Core.Path.{◌≡◌, refl, sym, ap, ◌∙◌}
use mathlib.Core.Logic.{◌↔◌}
use mathlib.Core.List.{List}
use native.Mathlib.Omega.{arith}
use lib.ListN.{length, get_or, take}
use lib.Seq.{take-append_seam}
use Rattle.words.specs.Answers.{Answer, success, refusal, counted_says}
use Rattle.words.proofs.Passing.{In, Rising}
use Rattle.words.proofs.Afterwards.{front}
use Rattle.words_primers.specs.Primers.{first_foreign, places, reverse_complement}
use Rattle.words_primers.proofs.Turning.{Primer, none-foreign, all_own, FirstForeign, first-foreign, reverse_complement_twice, reverse_complement_primer, reverse-length}
use Rattle.words_primers.proofs.Places.{Sits, places_exactly, places_sit}
use Rattle.words_primers.proofs.Mirror.{Mirrored, sits_mirrored}
use Rattle.call_primers.proofs.find_primer.Reads as find-call
use Rattle.call_primers.proofs.reverse_complement.Reads as turn-call
use Rattle.lister.proofs.Refusals.{GoodPrimer}
use Rattle.lister.proofs.Demands.{every_call_is_answered}

-- a primer that is not refused is one
good_primer : (u : List ℕ) → GoodPrimer u → Primer u
good_primer u g = record { some = g.0; few = g.1; own = none-foreign u g.2 }

-- where the call succeeds, the front of the slice is exactly the places, ascending, the rest is as it was, and the answer is their number
pub places_are_where_it_sits : (κs : _) (a : _) (r : _) (e : _) → find-call.Learnt κs a r e → (counted_says r).number ≡ 0
    → (made : List ℕ) × (e.1.1.0.now ≡ front made a.1.1.0.now) × (counted_says r ≡ success (length made)) × Rising (Sits a.0.now a.1.0.now) made
unfolding success refusal
places_are_where_it_sits κs a r e h ok =
    let B = (every_call_is_answered.find κs a).1 r e h in
    let w = (B.exactly 0).0 ok in
    let g = B.gives 0 w in
    (places a.0.now a.1.0.now, g.1, g.0, places_sit a.0.now a.1.0.now w.1.0)

index-foreign : (u : List ℕ) (k : ℕ) (t : Answer) → t ≡ refusal 9 k → first_foreign u < length u → t ≡ refusal 9 (first_foreign u) → FirstForeign u k
unfolding refusal
index-foreign u k t q h g = rw (ap (λ (v : Answer). get_or v.values 0 0) (sym q ∙ g)) (first-foreign u h)

-- the index that comes with refusal 9 is that of the first foreign letter, of either call
pub the_index_found_is_of_the_first_foreign_letter : (κs : _) (a : _) (r : _) (e : _) → find-call.Learnt κs a r e → (k : ℕ) → counted_says r ≡ refusal 9 k → FirstForeign a.1.0.now k
unfolding refusal
the_index_found_is_of_the_first_foreign_letter κs a r e h k q =
    let B = (every_call_is_answered.find κs a).1 r e h in
    let w = (B.exactly 9).0 (ap (λ (t : Answer). t.number) q) in
    index-foreign a.1.0.now k (counted_says r) q w.1.2 (B.gives 9 w).0

pub the_index_turned_is_of_the_first_foreign_letter : (κs : _) (a : _) (r : _) (e : _) → turn-call.Learnt κs a r e → (k : ℕ) → counted_says r ≡ refusal 9 k → FirstForeign a.0.now k
unfolding refusal
the_index_turned_is_of_the_first_foreign_letter κs a r e h k q =
    let B = (every_call_is_answered.turn κs a).1 r e h in
    let w = (B.exactly 9).0 (ap (λ (t : Answer). t.number) q) in
    index-foreign a.0.now k (counted_says r) q w.2 (B.gives 9 w).0

-- where the call succeeds, what it was given and what it wrote to the front are primers, as long as each other, and each is the other's reverse complement
pub the_reverse_complement_is_a_primer : (κs : _) (a : _) (r : _) (e : _) → turn-call.Learnt κs a r e → (counted_says r).number ≡ 0
    → (made : List ℕ) × (e.1.0.now ≡ front made a.1.0.now) × (counted_says r ≡ success (length made)) × Primer a.0.now × Primer made
    × (made ≡ reverse_complement a.0.now) × (reverse_complement made ≡ a.0.now)
unfolding success refusal
the_reverse_complement_is_a_primer κs a r e h ok =
    let u = a.0.now in
    let B = (every_call_is_answered.turn κs a).1 r e h in
    let w = (B.exactly 0).0 ok in
    let g = B.gives 0 w in
    let P : Primer u = good_primer u w.0 in
    (reverse_complement u, g.1, g.0 ∙ ap success (sym (reverse-length u)), P, reverse_complement_primer u P, refl, reverse_complement_twice u P.own)

-- handed back to the call, what it wrote gives the primer, where there is room for it
pub taken_twice_it_gives_the_primer_back : (κs : _) (a : _) (r : _) (e : _) → turn-call.Learnt κs a r e → (counted_says r).number ≡ 0 → (ls : _) (b : _) (q : _) (f : _) → turn-call.Learnt ls b q f
    → b.0.now ≡ take (length a.0.now) e.1.0.now → length a.0.now ≤ length b.1.0.now
    → (counted_says q ≡ success (length a.0.now)) × (f.1.0.now ≡ front a.0.now b.1.0.now)
unfolding success refusal
taken_twice_it_gives_the_primer_back κs a r e h ok ls b q f g same room =
    let u = a.0.now in
    let T = the_reverse_complement_is_a_primer κs a r e h ok in
    let n : length T.0 ≡ length u = ap length T.5 ∙ reverse-length u in
    let old = a.1.0.now in
    let v : b.0.now ≡ T.0 =
    same
    ∙ ap (take (length u)) T.1
    ∙ ap (λ (k : ℕ). take k (front T.0 old)) (sym n)
    ∙ take-append_seam T.0 _ in
    let P : Primer b.0.now = rw v T.4 in
    let B = (every_call_is_answered.turn ls b).1 q f g in
    let G = B.gives 0 ((P.some, P.few, all_own b.0.now P.own), omega (arith, room, n, ap length v)) in
    (G.0 ∙ ap success (ap length v ∙ n), G.1 ∙ ap (λ (s : List ℕ). front s b.1.0.now) (ap reverse_complement v ∙ T.6))

-- a place on one strand is one on the other: where both calls succeed, on a read and on its reverse complement, with a primer and with its reverse complement
pub both_strands_have_the_places : (κs : _) (a : _) (r : _) (e : _) → find-call.Learnt κs a r e → (counted_says r).number ≡ 0 → (ls : _) (b : _) (q : _) (f : _) → find-call.Learnt ls b q f → (counted_says q).number ≡ 0
    → b.0.now ≡ reverse_complement a.0.now → b.1.0.now ≡ reverse_complement a.1.0.now
    → (made other : List ℕ) × (e.1.1.0.now ≡ front made a.1.1.0.now) × (counted_says r ≡ success (length made)) × (f.1.1.0.now ≡ front other b.1.1.0.now) × (counted_says q ≡ success (length other))
    × ((i j : ℕ) → Mirrored (length a.0.now) (length a.1.0.now) i j → In made i ↔ In other j)
unfolding success refusal
both_strands_have_the_places κs a r e h ok ls b q f g fine ex eu =
    let x = a.0.now in
    let u = a.1.0.now in
    let A = (every_call_is_answered.find κs a).1 r e h in
    let B = (every_call_is_answered.find ls b).1 q f g in
    let w = (A.exactly 0).0 ok in
    let here = A.gives 0 w in
    let there = B.gives 0 ((B.exactly 0).0 fine) in (
      places x u,
      places b.0.now b.1.0.now,
      here.1,
      here.0,
      there.1,
      there.0,
      λ i j M.
          let m = sits_mirrored x u i j M in
          rw (ex, eu) (
            λ p. (places_exactly (reverse_complement x) (reverse_complement u) j).1 (M.1, omega (arith, M.0, M.2, w.1.0, reverse-length x), sym m ∙ ((places_exactly x u i).0 p).2),
            λ p. (places_exactly x u i).1 (M.0, omega (arith, M.1, M.2, w.1.0), m ∙ ((places_exactly (reverse_complement x) (reverse_complement u) j).0 p).2),
          ),
    )
