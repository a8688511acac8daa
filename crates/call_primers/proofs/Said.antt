-- What `find_primer` and `reverse_complement` answer and leave, way by way: each answer says what document 02 says there. Assumes nothing.
use Prim.Native.Nat.{ℕ, ◌≤◌, ◌<◌}
use mathlib.Core.Path.{◌≡◌, refl, sym, ap, ◌∙◌}
use mathlib.Core.Logic.{inl, inr}
use mathlib.Core.Bool.{false}
use mathlib.Core.List.{List, ◌++◌}
use native.Mathlib.Omega.{arith}
use lib.ListN.{length, drop, replicate}
use lib.Dec.{eqb, ltb}
use borrow.Author.Tests.{lt-ltb, le-ltb}
use Rattle.words.specs.Reads.{most}
use Rattle.std.specs.Prelude.{Result, Ok, Err}
use Rattle.words.specs.Answers.{Answer, success, refusal, refused_says, says, counted_says}
use Rattle.words.specs.declared.Refusal.{Refusal}
use Rattle.words.specs.Calls.{refuse, too_long, afterwards, list_afterwards}
use Rattle.words.proofs.Within.{within_is, within-not}
use Rattle.words.proofs.Afterwards.{success-front, success_list, list_full, refused-same, refused_list}
use Rattle.words_primers.specs.Primers.{longest, first_foreign, places, reverse_complement}
use Rattle.words_primers.specs.Calls.{judged, find_answer, find_leaves, turn_answer, turn_leaves}
use Rattle.words_primers.proofs.Judged.{length-judged, foreign-judged, good-judged}
use Rattle.words_primers.proofs.Turning.{BadLength, reverse-length}
use Rattle.row_cells.specs.Listing.{Listing}
use Rattle.call_primers.specs.Judged.{IsRefused}

-- ---- the places

-- the contract of `find_primer`: what it answers, and what it leaves in the slice
abbrev pub Finds : List ℕ → List ℕ → List ℕ → Result ℕ Refusal → List ℕ → Type 0
Finds x u out a out' = (counted_says a ≡ find_answer x u out) × (out' ≡ find_leaves x u out)

module _ (x u out : List ℕ) where
  -- a refusal but the third
  refused : (a : Result ℕ Refusal) (k v : ℕ) → counted_says a ≡ refusal k v → find_answer x u out ≡ refusal k v → eqb k 0 ≡ false → eqb k 3 ≡ false → Finds x u out a out
  unfolding find_leaves
  refused a k v s e z t = (s ∙ sym e, sym (ap (λ (b : Answer). list_afterwards b (places x u) out) e ∙ refused_list (places x u) out k v z t))

  pub long_said : most < length x → Finds x u out (Err (Refusal.TooLong (length x))) out
  unfolding says refused_says find_answer refuse too_long
  long_said l = refused (Err (Refusal.TooLong (length x))) 1 (length x) refl (rw (lt-ltb most (length x) l) refl) refl refl

  -- what comes after the primer is judged
  abbrev room : Answer
  room = refuse (ltb (length out) (length (places x u))) 3 (length (places x u)) (success (length (places x u)))

  module _ (few : length x ≤ most) where
    short : find_answer x u out ≡ judged u room
    unfolding find_answer refuse too_long
    short = rw (le-ltb most (length x) few) refl

    pub length_said : BadLength u → Finds x u out (Err (Refusal.BadLength (length u))) out
    unfolding says refused_says
    length_said h = refused (Err (Refusal.BadLength (length u))) 8 (length u) refl (short ∙ length-judged u room h) refl refl

    module _ (some : 1 ≤ length u) (low : length u ≤ longest) where
      pub foreign_said : first_foreign u < length u → Finds x u out (Err (Refusal.Foreign (first_foreign u))) out
      unfolding says refused_says
      foreign_said h = refused (Err (Refusal.Foreign (first_foreign u))) 9 (first_foreign u) refl (short ∙ foreign-judged u room some low h) refl refl

      module _ (own : length u ≤ first_foreign u) (r : ℕ) (out' : List ℕ) (L : Listing 1 out (places x u) r out') where
        counted : r ≡ length (places x u)
        counted = omega (arith, L.count)

        pub full_said : length out' < r → Finds x u out (Err (Refusal.ListFull r)) (replicate (length out') 0)
        unfolding says refused_says find_leaves refuse
        full_said h =
            let e : find_answer x u out ≡ refusal 3 r = short ∙ good-judged u room some low own ∙ rw (lt-ltb (length out) (length (places x u)) (omega (arith, h, L.same, counted)), counted) refl in
            (sym e, ap (λ (k : ℕ). replicate k 0) L.same ∙ sym (ap (λ (b : Answer). list_afterwards b (places x u) out) e ∙ list_full (places x u) out r))

        pub places_said : r ≤ length out' → Finds x u out (Ok r) out'
        unfolding says refused_says find_leaves refuse
        places_said h =
            let e : find_answer x u out ≡ success r = short ∙ good-judged u room some low own ∙ rw (le-ltb (length out) (length (places x u)) (omega (arith, h, L.same, counted)), counted) refl in
            (sym e, L.front (omega (arith, h, L.same, counted)) ∙ sym (ap (λ (b : Answer). list_afterwards b (places x u) out) e ∙ success_list (places x u) out r))

-- ---- the reverse complement

-- the contract of `reverse_complement`
abbrev pub Turns : List ℕ → List ℕ → Result ℕ Refusal → List ℕ → Type 0
Turns u out a out' = (counted_says a ≡ turn_answer u out) × (out' ≡ turn_leaves u out)

module _ (u out : List ℕ) where
  unturned : (a : Result ℕ Refusal) (k v : ℕ) → counted_says a ≡ refusal k v → turn_answer u out ≡ refusal k v → eqb k 0 ≡ false → Turns u out a out
  unfolding turn_leaves
  unturned a k v s e z = (s ∙ sym e, sym (ap (λ (b : Answer). afterwards b (reverse_complement u) out) e ∙ refused-same (reverse_complement u) out k v z))

  abbrev length-room : Answer
  length-room = refuse (ltb (length out) (length u)) 4 (length u) (success (length u))

  pub length-turned : BadLength u → Turns u out (Err (Refusal.BadLength (length u))) out
  unfolding says refused_says turn_answer
  length-turned h = unturned (Err (Refusal.BadLength (length u))) 8 (length u) refl (length-judged u length-room h) refl

  module _ (some : 1 ≤ length u) (low : length u ≤ longest) where
    pub foreign-turned : first_foreign u < length u → Turns u out (Err (Refusal.Foreign (first_foreign u))) out
    unfolding says refused_says turn_answer
    foreign-turned h = unturned (Err (Refusal.Foreign (first_foreign u))) 9 (first_foreign u) refl (foreign-judged u length-room some low h) refl

    module _ (own : length u ≤ first_foreign u) where
      pub room-turned : length out < length u → Turns u out (Err (Refusal.NoRoom (length u))) out
      unfolding says refused_says turn_answer refuse
      room-turned h = unturned (Err (Refusal.NoRoom (length u))) 4 (length u) refl (good-judged u length-room some low own ∙ rw (lt-ltb (length out) (length u) h) refl) refl

      pub letters-turned : length u ≤ length out → Turns u out (Ok (length u)) (reverse_complement u ++ drop (length u) out)
      unfolding says refused_says turn_answer turn_leaves refuse
      letters-turned h =
          let e : turn_answer u out ≡ success (length u) = good-judged u length-room some low own ∙ rw (le-ltb (length out) (length u) h) refl in (
            sym e,
            sym (ap (λ (b : Answer). afterwards b (reverse_complement u) out) e ∙ success-front (reverse_complement u) out (length u) ∙ ap (λ (k : ℕ). reverse_complement u ++ drop k out) (reverse-length u)),
          )

-- ---- a primer that is refused

module _ (x u out : List ℕ) (why : Refusal) where
  pub judged_said : length x ≤ most → IsRefused u why → Finds x u out (Err why) out
  judged_said few (inl j) = rw j.1 (length_said x u out few (within-not _ _ _ j.0))
  judged_said few (inr j) = let g = within_is 1 longest (length u) j.0 in rw j.2 (foreign_said x u out few g.0 g.1 j.1)

module _ (u out : List ℕ) (why : Refusal) where
  pub judged-turned : IsRefused u why → Turns u out (Err why) out
  judged-turned (inl j) = rw j.1 (length-turned u out (within-not _ _ _ j.0))
  judged-turned (inr j) = let g = within_is 1 longest (length u) j.0 in rw j.2 (foreign-turned u out g.0 g.1 j.1)
