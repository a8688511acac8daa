-- What the scan keeps, one position more at a time: the fronts that end there, and the places so far. Assumes nothing.
use Prim.Native.Nat.{ℕ, suc, ◌+◌, ◌-◌, ◌*◌, ◌≤◌, ◌<◌}
use mathlib.Core.Path.{◌≡◌, refl, sym, ap, subst, ◌∙◌}
use mathlib.Core.Logic.{⊎_elim}
use mathlib.Core.Bool.{true, false}
use mathlib.Core.List.{List, [], ◌∷◌, ◌++◌}
use native.Mathlib.Omega.{arith}
use lib.ListN.{length, get_or}
use lib.Bits.{bit_and}
use Rattle.bits.specs.Bits.{has}
use Rattle.words.specs.Range.{passing}
use Rattle.words.specs.Reads.{at}
use Rattle.words.proofs.Tests.{clash, lt_or_ge}
use Rattle.words.proofs.Passing.{passing-none, next_passes, next_fails, passing_stop}
use Rattle.words_primers.specs.Bases.{set_of}
use Rattle.words_primers.specs.Primers.{sits, places}
use Rattle.words_primers.proofs.Places.{sits-outside}
use Rattle.row_cells.specs.Listing.{Listing, Adds}
use Rattle.primer_scans.specs.Fronts.{AllLet, front, Fronts}
use Rattle.primer_scans.proofs.Fronts.{fronts_start, fronts_more, front_whole, front_short}

module _ (x u : List ℕ) where
  -- the places of primers that end at position j, or before it
  abbrev pub places_to : ℕ → List ℕ
  places_to j = passing (sits x u) (j + 1 - length u) 1

  module _ (some : 1 ≤ length u) where
    module _ (j w : ℕ) (F : Fronts x u (suc j) w) (inside : suc j ≤ length x) where
      shown : has w (length u - 1) ≡ front x u (suc j) (length u - 1)
      shown = F.each (length u - 1) (omega arith)

      onward : length u ≤ suc j → suc j + 1 - length u ≡ j + 1 - length u + 1
      onward l = omega arith

      -- the last bit tells whether the primer sits where it ends here
      tells : length u ≤ suc j → has w (length u - 1) ≡ sits x u (j + 1 - length u + 1)
      tells l = shown ∙ front_whole x u (suc j) some l inside ∙ ap (sits x u) (onward l)

      -- it does: its place is one more
      place_here : has w (length u - 1) ≡ true → (length u ≤ suc j) × (places_to (suc j) ≡ places_to j ++ ((suc j - (length u - 1)) ∷ []))
      place_here t = ⊎_elim (λ l. clash (sym shown ∙ t) (front_short x u (suc j) some l)) (λ l. (l, more l)) (lt_or_ge (suc j) (length u))
        where
          more : length u ≤ suc j → places_to (suc j) ≡ places_to j ++ ((suc j - (length u - 1)) ∷ [])
          more l = let e : suc j - (length u - 1) ≡ j + 1 - length u + 1 = omega arith in rw (onward l, e) (next_passes (sits x u) (j + 1 - length u) (sym (tells l) ∙ t))

      -- it does not
      no_place_here : has w (length u - 1) ≡ false → places_to (suc j) ≡ places_to j
      no_place_here f = ⊎_elim (λ l. ap (λ (v : ℕ). passing (sits x u) v 1) (omega arith)) more (lt_or_ge (suc j) (length u))
        where
          more : length u ≤ suc j → places_to (suc j) ≡ places_to j
          more l = ap (λ (v : ℕ). passing (sits x u) v 1) (onward l) ∙ next_fails (sits x u) (j + 1 - length u) (sym (tells l) ∙ f)

    -- none ends before the first position, and all end in the read
    places_start : places_to 0 ≡ []
    places_start = let e : 0 + 1 - length u ≡ 0 = omega arith in rw e (passing-none (sits x u) 1)

    places-end : places_to (length x) ≡ places x u
    unfolding places
    places-end =
        sym (passing_stop (sits x u) (length x + 1 - length u) (length x) (omega arith) (λ k a b. sits-outside x u k (omega arith)))

-- what the scan keeps: the fronts that end at position j, and the places so far, in a slice that was `old`
pub record Scanned (x u old : List ℕ) (j w count : ℕ) (out : List ℕ) : Type 0 where
  pub inside : j ≤ length x
  pub few : count ≤ j
  pub fronts : Fronts x u j w
  pub listed : Listing 1 old (places_to x u j) count out

module _ (x u old : List ℕ) (some : 1 ≤ length u) where
  pub scanned_start : Scanned x u old 0 0 0 old
  scanned_start =
      record {
        inside = omega arith;
        few = omega arith;
        fronts = fronts_start x u;
        listed = rw (places_start x u some) (record { same = refl; count = omega arith; front = λ h. refl });
      }

  pub scanned_end : (j w count : ℕ) (out : List ℕ) → Scanned x u old j w count out → length x ≤ j → Listing 1 old (places x u) count out
  scanned_end j w count out S h =
      let e : j ≡ length x = omega (arith, S.inside, h) in
      subst (λ (l : List ℕ). Listing 1 old l count out) (ap (places_to x u) e ∙ places-end x u some) S.listed

  -- the next position has a letter of the set s, and `all` has the letters that let it in
  module _ (j w count : ℕ) (out : List ℕ) (S : Scanned x u old j w count out) (inside : j < length x) (all : List ℕ) (A : AllLet u (length u) all) (s : ℕ) (low : s < 16) (here : s ≡ set_of (get_or x j 0)) where
    abbrev next : ℕ
    next = bit_and (2 * w + 1) (get_or all s 0)

    one : suc j ≡ j + 1
    one = omega arith

    next_fronts : Fronts x u (suc j) next
    unfolding at
    next_fronts = let e : suc j - 1 ≡ j = omega arith in fronts_more x u j w s (get_or all s 0) S.fronts (A.each s low) (A.words.fits s low) (ap (λ (v : ℕ). set_of (get_or x v 0)) e ∙ sym here)

    -- the whole primer has let in
    pub scanned_place : has next (length u - 1) ≡ true → (out' : List ℕ) → Adds 1 count (count + 1) ((j + 1 - (length u - 1)) ∷ []) out out' → Scanned x u old (j + 1) next (count + 1) out'
    scanned_place t out' add =
        let p = (place_here x u some j next next_fronts (omega arith) t).1 in
        subst (λ (v : ℕ). Scanned x u old v next (count + 1) out') one
        (record {
          inside = omega arith;
          few = omega (arith, S.few);
          fronts = next_fronts;
          listed = subst (λ (l : List ℕ). Listing 1 old l (count + 1) out') (ap (λ (v : ℕ). places_to x u j ++ ((v - (length u - 1)) ∷ [])) (sym one) ∙ sym p) (add old (places_to x u j) S.listed);
        })

    -- it has not
    pub scanned_none : has next (length u - 1) ≡ false → Scanned x u old (j + 1) next count out
    scanned_none f =
        subst (λ (v : ℕ). Scanned x u old v next count out) one
        (record {
          inside = omega arith;
          few = omega (arith, S.few);
          fronts = next_fronts;
          listed = subst (λ (l : List ℕ). Listing 1 old l count out) (sym (no_place_here x u some j next next_fronts (omega arith) f)) S.listed;
        })

    -- there is a place for the primer to start at
    pub place_inside : has next (length u - 1) ≡ true → length u ≤ j + 1
    place_inside t = omega (arith, (place_here x u some j next next_fronts (omega arith) t).0)
