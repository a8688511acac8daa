-- What lies between the primers of a read, or why nothing does: what each answer says, in the document's words, and that it is given if and only if that is so. Assumes nothing.
use Prim.Native.Nat.{ℕ, suc, ◌+◌, ◌≤◌, ◌<◌}
use mathlib.Core.Path.{◌≡◌, refl, ◌∙◌}
use mathlib.Core.Logic.{◌⊎◌, inl, inr, ⊎_elim, ◌↔◌}
use mathlib.Core.List.{List}
use native.Mathlib.Omega.{arith}
use lib.ListN.{length}
use Rattle.std.specs.Prelude.{Result, Ok, Err}
use Rattle.words.specs.Reads.{most}
use Rattle.words.proofs.Tests.{lt_or_ge}
use Rattle.words.proofs.Told.{told_exactly}
use Rattle.words.proofs.Within.{within_yes, within_no}
use Rattle.words.proofs.Passing.{Rising}
use Rattle.words_primers.specs.Primers.{longest, first_foreign, places}
use Rattle.words_primers.proofs.Turning.{GoodLength, BadLength, AllOwn, Primer, none-foreign, all_own, FirstForeign, first-foreign, first_foreign_is}
use Rattle.words_primers.proofs.Places.{Sits, places_sit}
use Rattle.words_markers.specs.Sites.{seat, behind, seated, seats}
use Rattle.words.specs.declared.Refusal.{Refusal}
use Rattle.words_markers.specs.declared.Seats.{Seats}
use Rattle.words_markers.proofs.Counts.{Nowhere, Once, Often, some_is, is_some, none_is, is_none, one_is, is_one, more_is, is_more}
use Rattle.words_markers.proofs.Seating.{left_missing, right_missing, left_often, right_often, out_of_order, in_order_lem, too_long_lem, left-length, right_length, left-foreign, right_foreign, judged-seats}

-- ---- the words

-- it sits somewhere
abbrev pub Somewhere : List ℕ → List ℕ → Type 0
Somewhere x u = (i : ℕ) × Sits x u i

-- the library has nothing to refuse: the read has 1,000 bytes or fewer, and both primers are primers
pub record Good (x u v : List ℕ) : Type 0 where
  pub few : length x ≤ most
  pub left : Primer u
  pub right : Primer v

-- each primer sits exactly once, left before right without overlap: lo is the first position behind the left one, and hi the first of the right one
pub record Between (x u v : List ℕ) (lo hi : ℕ) : Type 0 where
  pub good : Good x u v
  pub place : ℕ
  pub left : Once (Sits x u) place
  pub right : Once (Sits x v) hi
  pub from : lo ≡ place + length u
  pub order : lo ≤ hi

-- why nothing lies between them
abbrev pub Unseated : List ℕ → List ℕ → List ℕ → Refusal → Type 0
Unseated x u v (Refusal.TooLong n) = (most < length x) × (n ≡ length x)
Unseated x u v (Refusal.BadLength k) = (length x ≤ most) × ((BadLength u × (k ≡ length u)) ⊎ (GoodLength u × BadLength v × (k ≡ length v)))
Unseated x u v (Refusal.Foreign k) = (length x ≤ most) × GoodLength u × GoodLength v × (FirstForeign u k ⊎ (AllOwn u × FirstForeign v k))
Unseated x u v (Refusal.Missing s) = Good x u v × ((Nowhere (Sits x u) × (s ≡ 1)) ⊎ (Somewhere x u × Nowhere (Sits x v) × (s ≡ 2)))
Unseated x u v (Refusal.MoreThanOnce s) = Good x u v × Somewhere x v × ((Often (Sits x u) × (s ≡ 1)) ⊎ ((i : ℕ) × Once (Sits x u) i × Often (Sits x v) × (s ≡ 2)))
Unseated x u v Refusal.OutOfOrder = Good x u v × ((i j : ℕ) × Once (Sits x u) i × Once (Sits x v) j × (j < i + length u))
Unseated x u v Refusal.NoRepeat = ⊥
Unseated x u v Refusal.Several = ⊥
-- the others are of calls that write or judge a list
Unseated x u v (Refusal.OutOfRange n) = ⊥
Unseated x u v (Refusal.ListFull n) = ⊥
Unseated x u v (Refusal.NoRoom n) = ⊥
Unseated x u v (Refusal.BadEntry n) = ⊥
Unseated x u v (Refusal.OutOfPlace n) = ⊥
Unseated x u v (Refusal.IndexFull n) = ⊥

abbrev pub SeatsSay : List ℕ → List ℕ → List ℕ → Result Seats Refusal → Type 0
SeatsSay x u v (Ok s) = Between x u v s.from s.to
SeatsSay x u v (Err why) = Unseated x u v why

module _ (x u v : List ℕ) where
  -- a position between lies in the read, or right behind it
  pub between-inside : (lo hi : ℕ) → Between x u v lo hi → (1 ≤ lo) × (lo ≤ suc (length x)) × (hi ≤ suc (length x)) × (length x ≤ most)
  between-inside lo hi b =
      let l = b.left.0 in
      (omega (arith, b.from, l.0), omega (arith, b.from, l.1), omega (arith, b.right.0.1), b.good.few)

  -- ---- what is so is told

  module _ (g : Good x u v) where
    -- what the library does not refuse is judged by the places of the primers
    judged : seats x u v ≡ seated x u v
    judged = judged-seats x u v g.few (within_yes _ _ _ g.left.some g.left.few) (within_yes _ _ _ g.right.some g.right.few) (all_own u g.left.own) (all_own v g.right.own)

    lefts : Rising (Sits x u) (places x u)
    lefts = places_sit x u g.left.some

    rights : Rising (Sits x v) (places x v)
    rights = places_sit x v g.right.some

    missing_told : (s : ℕ) → (Nowhere (Sits x u) × (s ≡ 1)) ⊎ (Somewhere x u × Nowhere (Sits x v) × (s ≡ 2)) → seats x u v ≡ Err (Refusal.Missing s)
    missing_told s (inl n) = judged ∙ left_missing x u v (is_none _ _ lefts n.0) ∙ rw n.1
    missing_told s (inr n) = judged ∙ right_missing x u v (is_some _ _ lefts n.0.0 n.0.1) (is_none _ _ rights n.1) ∙ rw n.2

    often_told : (s : ℕ) → Somewhere x v → (Often (Sits x u) × (s ≡ 1)) ⊎ ((i : ℕ) × Once (Sits x u) i × Often (Sits x v) × (s ≡ 2)) → seats x u v ≡ Err (Refusal.MoreThanOnce s)
    often_told s w (inl n) = judged ∙ left_often x u v (is_more _ _ lefts n.0) (is_some _ _ rights w.0 w.1) ∙ rw n.1
    often_told s w (inr n) = judged ∙ right_often x u v (is_one _ _ lefts n.0 n.1).0 (is_more _ _ rights n.2) ∙ rw n.3

    module _ (i j : ℕ) (a : Once (Sits x u) i) (b : Once (Sits x v) j) where
      left-seat : behind x u ≡ i + length u
      unfolding behind seat
      left-seat = omega (arith, (is_one _ _ lefts i a).1)

      right_seat : seat x v ≡ j
      unfolding seat
      right_seat = (is_one _ _ rights j b).1

      order_told : j < i + length u → seats x u v ≡ Err Refusal.OutOfOrder
      order_told o = judged ∙ out_of_order x u v (is_one _ _ lefts i a).0 (is_one _ _ rights j b).0 (omega (arith, left-seat, right_seat, o))

      between_told : i + length u ≤ j → seats x u v ≡ Ok (record { from = (i + length u); to = j })
      between_told o =
          judged
          ∙ in_order_lem x u v (is_one _ _ lefts i a).0 (is_one _ _ rights j b).0 (omega (arith, left-seat, right_seat, o))
          ∙ rw (left-seat, right_seat) refl

  length_told : (k : ℕ) → length x ≤ most → (BadLength u × (k ≡ length u)) ⊎ (GoodLength u × BadLength v × (k ≡ length v)) → seats x u v ≡ Err (Refusal.BadLength k)
  length_told k few (inl n) = left-length x u v few (within_no _ _ _ n.0) ∙ rw n.1 refl
  length_told k few (inr n) = right_length x u v few (within_yes _ _ _ n.0.0 n.0.1) (within_no _ _ _ n.1) ∙ rw n.2 refl

  foreign_told : (k : ℕ) → length x ≤ most → GoodLength u → GoodLength v → FirstForeign u k ⊎ (AllOwn u × FirstForeign v k) → seats x u v ≡ Err (Refusal.Foreign k)
  foreign_told k few a b (inl f) =
      let q = first_foreign_is u k f in
      left-foreign x u v few (within_yes _ _ _ a.0 a.1) (within_yes _ _ _ b.0 b.1) (omega (arith, q, f.0)) ∙ rw q refl
  foreign_told k few a b (inr f) =
      let q = first_foreign_is v k f.1 in
      right_foreign x u v few (within_yes _ _ _ a.0 a.1) (within_yes _ _ _ b.0 b.1) (all_own u f.0) (omega (arith, q, f.1.0)) ∙ rw q refl

  seats_told : (s : Result Seats Refusal) → SeatsSay x u v s → seats x u v ≡ s
  seats_told (Ok t) s = between_told s.good s.place t.to s.left s.right (omega (arith, s.from, s.order)) ∙ rw (← s.from) refl
  seats_told (Err (Refusal.TooLong n)) s = too_long_lem x u v s.0 ∙ rw s.1 refl
  seats_told (Err (Refusal.BadLength k)) s = length_told k s.0 s.1
  seats_told (Err (Refusal.Foreign k)) s = foreign_told k s.0 s.1 s.2 s.3
  seats_told (Err (Refusal.Missing k)) s = missing_told s.0 k s.1
  seats_told (Err (Refusal.MoreThanOnce k)) s = often_told s.0 k s.1 s.2
  seats_told (Err Refusal.OutOfOrder) s = order_told s.0 s.1.0 s.1.1 s.1.2 s.1.3 s.1.4
  seats_told (Err Refusal.NoRepeat) s = absurd s
  seats_told (Err Refusal.Several) s = absurd s
  seats_told (Err (Refusal.OutOfRange n)) s = absurd s
  seats_told (Err (Refusal.ListFull n)) s = absurd s
  seats_told (Err (Refusal.NoRoom n)) s = absurd s
  seats_told (Err (Refusal.BadEntry n)) s = absurd s
  seats_told (Err (Refusal.OutOfPlace n)) s = absurd s
  seats_told (Err (Refusal.IndexFull n)) s = absurd s

  -- ---- of one answer what it says is so

  -- the number of places of each primer decides
  seated_so : (g : Good x u v) → (s : Result Seats Refusal) × SeatsSay x u v s
  seated_so g = ⊎_elim (λ a. (Err (Refusal.Missing 1), (g, inl (none_is _ _ (lefts g) (omega arith), refl)))) (λ a. some_left a (lt_or_ge (length (places x v)) 1)) (lt_or_ge (length (places x u)) 1)
    where
      once : (i j : ℕ) → Once (Sits x u) i → Once (Sits x v) j → (s : Result Seats Refusal) × SeatsSay x u v s
      once i j a b =
          ⊎_elim (λ o. (Err Refusal.OutOfOrder, (g, (i, j, a, b, o))))
          (λ o. (Ok (record { from = (i + length u); to = j }), record { good = g; place = i; left = a; right = b; from = refl; order = o }))
          (lt_or_ge j (i + length u))

      one_left : length (places x u) ≡ 1 → 1 ≤ length (places x v) → (1 < length (places x v)) ⊎ (length (places x v) ≤ 1) → (s : Result Seats Refusal) × SeatsSay x u v s
      one_left a b (inl c) = (Err (Refusal.MoreThanOnce 2), (g, (_, some_is _ _ (rights g) b), inr (_, one_is _ _ (lefts g) a, more_is _ _ (rights g) c, refl)))
      one_left a b (inr c) = once _ _ (one_is _ _ (lefts g) a) (one_is _ _ (rights g) (omega arith))

      some_left : 1 ≤ length (places x u) → (length (places x v) < 1) ⊎ (1 ≤ length (places x v)) → (s : Result Seats Refusal) × SeatsSay x u v s
      some_left a (inl b) = (Err (Refusal.Missing 2), (g, inr ((_, some_is _ _ (lefts g) a), none_is _ _ (rights g) (omega arith), refl)))
      some_left a (inr b) =
          ⊎_elim (λ c. (Err (Refusal.MoreThanOnce 1), (g, (_, some_is _ _ (rights g) b), inl (more_is _ _ (lefts g) c, refl))))
          (λ c. one_left (omega arith) b (lt_or_ge 1 (length (places x v))))
          (lt_or_ge 1 (length (places x u)))

  -- a length is good or bad
  length_of : (w : List ℕ) → BadLength w ⊎ GoodLength w
  length_of w = ⊎_elim (λ l. inl (inl l)) (λ l. ⊎_elim (λ h. inl (inr h)) (λ h. inr (l, h)) (lt_or_ge longest (length w))) (lt_or_ge (length w) 1)

  pub seats_so : (s : Result Seats Refusal) × SeatsSay x u v s
  seats_so = ⊎_elim (λ l. (Err (Refusal.TooLong (length x)), (l, refl))) (λ few. lengths few (length_of u) (length_of v)) (lt_or_ge most (length x))
    where
      letters : length x ≤ most → GoodLength u → GoodLength v → (first_foreign u < length u) ⊎ (length u ≤ first_foreign u) → (first_foreign v < length v) ⊎ (length v ≤ first_foreign v) → (s : Result Seats Refusal) × SeatsSay x u v s
      letters few a b (inl c) d = (Err (Refusal.Foreign (first_foreign u)), (few, a, b, inl (first-foreign u c)))
      letters few a b (inr c) (inl d) = (Err (Refusal.Foreign (first_foreign v)), (few, a, b, inr (none-foreign u c, first-foreign v d)))
      letters few a b (inr c) (inr d) =
          seated_so (record { few = few; left = record { some = a.0; few = a.1; own = none-foreign u c }; right = record { some = b.0; few = b.1; own = none-foreign v d } })

      lengths : length x ≤ most → BadLength u ⊎ GoodLength u → BadLength v ⊎ GoodLength v → (s : Result Seats Refusal) × SeatsSay x u v s
      lengths few (inl a) b = (Err (Refusal.BadLength (length u)), (few, inl (a, refl)))
      lengths few (inr a) (inl b) = (Err (Refusal.BadLength (length v)), (few, inr (a, b, refl)))
      lengths few (inr a) (inr b) = letters few a b (lt_or_ge (first_foreign u) (length u)) (lt_or_ge (first_foreign v) (length v))

  pub seats_exactly : (s : Result Seats Refusal) → (seats x u v ≡ s) ↔ SeatsSay x u v s
  seats_exactly = told_exactly (seats x u v) (SeatsSay x u v) seats_told seats_so
