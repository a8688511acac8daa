-- The turns of `group_all`: the start, one turn more, and the end, at which what stays of every group has its name and its size. A turn stores at a
-- position that stays and lies in its group, so it disturbs neither a part that moved nor another group. Assumes nothing.
use Prim.Native.Nat.{ℕ, ◌+◌, ◌≤◌, ◌<◌}
use mathlib.Core.Path.{◌≡◌, refl, sym, ap, ◌∙◌}
use mathlib.Core.Logic.{inl, inr, ⊎_elim, by_cases, ◌≢◌}
use mathlib.Core.Bool.{true, false}
use mathlib.Core.List.{List, [], ◌∷◌}
use native.Mathlib.Decide.{ℕ_discrete}
use native.Mathlib.Omega.{arith}
use lib.ListN.{length}
use Rattle.words.specs.Reads.{at}
use Rattle.words.specs.Groups.{Least, size}
use Rattle.words.proofs.Tests.{either, clash, lt_or_ge}
use Rattle.slots.specs.Slots.{put_some}
use Rattle.slots.proofs.Laws.{view-at, put_same, put_other, some_same, some_other}
use Rattle.step1_rows.specs.Rows.{row, among, inside, Only, NAME, SIZE, DIST, QUE, TAIL, REST, MANY, TOUCHED}
use Rattle.step1_rows.proofs.Laws.{only_none, only_trans, only_more, only_row}
use Rattle.refine.specs.Refine.{has, Lined, next_of, stayer, stayers}
use Rattle.refine.specs.Leaving.{Splits}
use Rattle.refine.proofs.Queues.{has-inside}
use Rattle.refine.proofs.Next.{next-length, next-least}
use Rattle.refine.proofs.Count.{stayers-places}
use Rattle.refine.proofs.Moved.{Stays, stayer_is, stays-stayer, next-kept, kept_same, next-name, next-name-kept, name-stays, size-kept, size_nameless}
use Rattle.step8_groups.specs.Sweep.{Walkable, Swept}
use Rattle.step8_groups.specs.Turns.{Due, Done, Waits, Weighed, TurnedTo}
use Rattle.step8_groups.specs.Groups.{Turnable, Regrouped}
use Rattle.step8_groups.proofs.Turning.{WRITTEN, stored-rows}

-- after the turn of c all others wait that waited
pub waits_more : {que : List ℕ} {h q c s : ℕ} → c ≡ at que (q + 1) → Waits que h q s → s ≢ c → Waits que h (q + 1) s
waits_more {que} {h} {q} e W ne =
    let d : W.place ≢ q + 1 = λ z. ne (sym W.is ∙ ap (at que) z ∙ sym e) in
    record { place = W.place; low = omega (arith, W.low); high = W.high; is = W.is }

-- what stands at a place after a store that may be none: the number stored, or what stood there
some_cases : (x : List ℕ) (i v s y : ℕ) → i ≤ length x → 1 ≤ s → (s ≡ i → v ≡ y) → (s ≢ i → at x s ≡ y) → at (put_some x i v) s ≡ y
some_cases x i v s y high p same other =
    by_cases (ℕ_discrete s i)
    (λ e. ap (at (put_some x i v)) e ∙ some_same x i v (omega arith) high ∙ same e)
    (λ ne. some_other x i v s p ne ∙ other ne)

module _ {t S : List ℕ} {n h g : ℕ} {a : List (List ℕ)} (R : Turnable t S n h g a) where
  abbrev u : List ℕ
  u = next_of t S

  abbrev T : List ℕ
  T = row a TOUCHED

  L : Least t
  L = R.known.least

  N : Lined t S
  N = R.known.lined

  few : length t ≤ 1000
  few = omega (arith, R.known.long, R.known.few)

  -- ---- what stays of a group: it gets the name of its least position, and nothing else gets that name

  -- a position that names no group has no stayers
  stayers_nameless : (s : ℕ) → at t s ≢ s → stayers t S s ≡ 0
  stayers_nameless s ne = omega (arith, stayers-places t S N s, size_nameless t L s ne)

  -- an old name that stays is the least that stays
  stayer-old : (k : ℕ) → 1 ≤ k → k ≤ length t → at t k ≡ k → has S k ≡ false → stayer t S k ≡ k
  stayer-old k b c e f = stays-stayer t S k k (record { low = b; high = c; of = e; kept = f; least = λ i d l z. absurd (omega (arith, z, L.high i d (omega arith))) })

  -- l is the least position of the old group k that stays
  module _ (k l : ℕ) (e : stayer t S k ≡ l) (p : 1 ≤ l) where
    W : Stays t S k l
    W = stayer_is t S k l e p

    stayer-named : at u l ≡ l
    stayer-named = sym (next-name-kept t S L N l p W.high W.kept) ∙ ap (stayer t S) W.of ∙ e

    stayer-kept : (i : ℕ) → 1 ≤ i → i ≤ length t → at u i ≡ l → (has S i ≡ false) × (at t i ≡ k)
    stayer-kept i b c s = let m = next-kept t S L N l i p W.high b c W.kept (s ∙ sym stayer-named) in (m.0, m.1 ∙ W.of)

    -- so as many have it as stay
    stayer-size : size u l ≡ stayers t S k
    stayer-size = size-kept t S L N l p W.high W.kept stayer-named ∙ ap (stayers t S) W.of

  -- ---- the start

  -- at first every group that a position moves out of waits
  waits_first : (k : ℕ) → Splits t S k → Waits T g 0 k
  waits_first k X = let w = R.groups.all k X in record { place = w.0; low = w.1; high = w.2; is = w.3 }

  -- one that loses its least position is such a group
  splits : (s : ℕ) → 1 ≤ s → s ≤ length t → has S (at t s) ≡ true → Splits t S (at t s)
  splits s b c f = record { who = at t s; moves = f; of = L.own s b c }

  pub turns_begin : TurnedTo t S g 0 a a
  turns_begin =
      record {
        long = R.long;
        only = only_none WRITTEN a;
        moved = λ i f. let w = has-inside S t N i f in old-name i w.0 (omega (arith, w.1));
        kept = λ i b c f no.
            let d = ⊎_elim (λ d. no (waits_first (at t i) (splits i b c d))) (λ d. d) (either (has S (at t i))) in
            let high : at t i ≤ length t = omega (arith, L.high i b c) in
            old-name i b c
            ∙ sym (kept_same t S L N i (at t i) b c (L.low i b c) high f d (sym (L.own i b c)) ∙ name-stays t S L N (at t i) (L.low i b c) high (L.own i b c));
        no_names = rw R.known.long R.beyond;
        weighed = λ k X no. absurd (no (waits_first k X));
        sizes = λ s b c f. R.sizes.held s b c;
        no_sizes = R.sizes.beyond;
        many = R.many;
        cleared = λ k b c no. R.tails.none k b c (λ i f e. no (waits_first k (record { who = i; moves = f; of = e })));
      }
    where
      old-name : (i : ℕ) → 1 ≤ i → i ≤ length t → at (row a NAME) i ≡ at t i
      old-name i b c = sym (view-at n (row a NAME) i b (omega (arith, R.known.long))) ∙ ap (λ (x : List ℕ). at x i) R.names

  -- ---- one turn more: that of the group k

  module _ {q k : ℕ} {b : List (List ℕ)} (l : q < g) (M : TurnedTo t S g q a b) (d : k ≡ at (row b TOUCHED) (q + 1)) where
    abbrev x : ℕ
    x = stayer t S k

    e : k ≡ at T (q + 1)
    unfolding among
    e = rw (only_row WRITTEN a b TOUCHED M.only refl) at d

    X : Splits t S k
    X = rw e (R.groups.group (q + 1) (omega arith) (omega arith))

    own : (1 ≤ k) × (k ≤ length t) × (at t k ≡ k)
    own =
        let w = has-inside S t N X.who X.moves in
        let c : X.who ≤ length t = omega (arith, w.1) in
        rw (← X.of) (L.low X.who w.0 c, omega (arith, L.high X.who w.0 c), L.own X.who w.0 c)

    high : x ≤ length t
    high = ⊎_elim (λ p. (stayer_is t S k x refl p).high) (λ p. omega arith) (lt_or_ge 0 x)

    rest : at (row b REST) k ≡ x
    unfolding among
    rest = rw (only_row WRITTEN a b REST M.only refl) (R.rests k X)

    walkable : 1 ≤ x → Walkable u (row b DIST) x
    unfolding among
    walkable p =
        record {
          few = rw (next-length t S) few;
          least = next-least t S;
          gaps = rw (only_row WRITTEN a b DIST M.only refl) R.gaps;
          low = p;
          high = rw (next-length t S) high;
          own = stayer-named k x refl p;
        }

    pub turn_asked : Due b k
    turn_asked = record { long = M.long; low = own.0; high = omega (arith, own.1, few); rest_high = rw rest (omega (arith, high, few)); walk = rw rest (λ p. (u, walkable p)) }

    module _ {c : List (List ℕ)} (D : Done b c k) where
      -- the size that is stored
      size_is : at (row b SIZE) k ≡ stayers t S k
      size_is = M.sizes k own.0 own.1 (inl own.2)

      at_size : (s y : ℕ) → 1 ≤ s → (s ≡ x → stayers t S k ≡ y) → (s ≢ x → at (row b SIZE) s ≡ y) → at (row c SIZE) s ≡ y
      unfolding among
      at_size s y p f f' =
          rw (only_row (NAME ∷ []) _ c SIZE D.rows refl, (stored-rows b k _ M.long).1, rest, size_is)
          (some_cases (row b SIZE) x (stayers t S k) s y (omega (arith, high, few, M.long.each SIZE (omega arith))) p f f')

      at-many : (s y : ℕ) → 1 ≤ s → (s ≡ x → stayers t S k ≡ y) → (s ≢ x → at (row b MANY) s ≡ y) → at (row c MANY) s ≡ y
      unfolding among
      at-many s y p f f' =
          rw (only_row (NAME ∷ []) _ c MANY D.rows refl, (stored-rows b k _ M.long).2, rest, size_is)
          (some_cases (row b MANY) x (stayers t S k) s y (omega (arith, high, few, M.long.each MANY (omega arith))) p f f')

      at_tail : (s : ℕ) → 1 ≤ s → (s ≢ k → at (row b TAIL) s ≡ 0) → at (row c TAIL) s ≡ 0
      unfolding among
      at_tail s p f =
          rw (only_row (NAME ∷ []) _ c TAIL D.rows refl, (stored-rows b k (at (row b REST) k) M.long).3)
          (by_cases (ℕ_discrete s k)
          (λ z. rw z (put_same (row b TAIL) k 0 own.0 (omega (arith, own.1, few, M.long.each TAIL (omega arith)))))
          (λ ne. put_other (row b TAIL) k 0 s own.0 p ne ∙ f ne))

      swept : 1 ≤ x → x ≢ k → Swept u (row b NAME) (row c NAME) x (length u)
      swept p ne = (rw rest at D.names) p ne u (walkable p)

      -- a name is as it was, or the old name of k moves and what stays of it is named
      at_name : (i y : ℕ) → at (row b NAME) i ≡ y → (1 ≤ x → x ≢ k → at (row c NAME) i ≡ y) → at (row c NAME) i ≡ y
      at_name i y old f =
          ⊎_elim
          (λ p. by_cases (ℕ_discrete x k) (λ z. ap (λ (r : List ℕ). at r i) (D.idle (inr (rest ∙ z))) ∙ old) (f p))
          (λ p. ap (λ (r : List ℕ). at r i) (D.idle (inl (omega (arith, rest)))) ∙ old)
          (lt_or_ge 0 x)

      -- where the size is stored lies in the group and stays
      there : (s : ℕ) → 1 ≤ s → s ≡ x → Stays t S k s
      there s p f = stayer_is t S k s (sym f) p

      name_on : (i : ℕ) → 1 ≤ i → i ≤ length t → has S i ≡ false → (Waits T g (q + 1) (at t i) → has S (at t i) ≡ false) → at (row c NAME) i ≡ at u i
      name_on i p m f late =
          by_cases (ℕ_discrete (at t i) k)
          (λ z.
          ⊎_elim
          (λ gone.
          let y : x ≡ at u i = ap (stayer t S) (sym z) ∙ next-name-kept t S L N i p m f in
          let low : 1 ≤ x = rw y (next-name t S L N i p m).0 in
          (swept low (λ v. clash gone (there k own.0 (sym v)).kept)).named i p (rw (next-length t S) m) (sym y) ∙ y)
          (λ stay. at_name i _ (M.kept i p m f (λ _. rw z stay)) (λ _ ne. absurd (ne (stayer-old k own.0 own.1 own.2 stay))))
          (either (has S k)))
          (λ ne.
          let o = M.kept i p m f (λ w. late (waits_more e w ne)) in
          at_name i _ o (λ low nk. (swept low nk).other i p (rw (next-length t S) m) (λ z. ne (stayer-kept k x refl low i p m z).1) ∙ o))

      pub turn-made : TurnedTo t S g (q + 1) a c
      unfolding among inside
      turn-made =
          record {
            long = D.long;
            only = only_trans WRITTEN a b c M.only (only_trans WRITTEN b _ c (stored-rows b k _ M.long).0 (only_more (NAME ∷ []) WRITTEN _ c refl D.rows));
            moved = λ i f.
                let w = has-inside S t N i f in
                let m : i ≤ length t = omega (arith, w.1) in
                at_name i _ (M.moved i f) (λ p ne. (swept p ne).other i w.0 (rw (next-length t S) m) (λ z. clash f (stayer-kept k x refl p i w.0 m z).0) ∙ M.moved i f);
            kept = name_on;
            no_names = λ i p m. at_name i 0 (M.no_names i p m) (λ low ne. (swept low ne).beyond i (rw (next-length t S) p) m ∙ M.no_names i p m);
            weighed = λ j Y no p.
                let same : stayer t S j ≡ x → stayers t S k ≡ stayers t S j = λ f. ap (stayers t S) (sym (there (stayer t S j) p f).of ∙ (stayer_is t S j (stayer t S j) refl p).of) in
                let old : stayer t S j ≢ x → Weighed t S j (row b SIZE) (row b MANY) = λ ne. M.weighed j Y (λ w. no (waits_more e w (λ z. ne (ap (stayer t S) z)))) p in
                record { held = at_size _ _ p same (λ ne. (old ne).held); part = at-many _ _ p same (λ ne. (old ne).part) };
            sizes = λ s p m f.
                at_size s _ p
                (λ z.
                let o = (there s p z).of in
                ⊎_elim (λ w. ap (stayers t S) (sym o ∙ w)) (λ ne. absurd (ne (ap (stayer t S) o ∙ sym z))) f)
                (λ ne. M.sizes s p m f);
            no_sizes = λ i p m. at_size i 0 (omega arith) (λ z. absurd (omega (arith, high))) (λ ne. M.no_sizes i p m);
            many = λ s w. let p = (has-inside S t N s w.moves).0 in at-many s _ p (λ z. clash w.moves (there s p z).kept) (λ ne. M.many s w);
            cleared = λ s p m no. at_tail s p (λ ne. M.cleared s p m (λ w. no (waits_more e w ne)));
          }

  -- ---- the end

  module _ {q : ℕ} {b : List (List ℕ)} (l : g ≤ q) (M : TurnedTo t S g q a b) where
    none : {A : Type 0} {s : ℕ} → Waits T g q s → A
    none w = absurd (omega (arith, w.low, w.high))

    -- the sizes of all but the parts that moved
    sizes_are : (s : ℕ) → 1 ≤ s → s ≤ length t → (at u s ≡ s → has S s ≡ false) → at (row b SIZE) s ≡ size u s
    sizes_are s p c f =
        by_cases (ℕ_discrete (at u s) s)
        (λ z.
        let y : stayer t S (at t s) ≡ s = next-name-kept t S L N s p c (f z) ∙ z in
        by_cases (ℕ_discrete (at t s) s)
        (λ o. M.sizes s p c (inl o) ∙ ap (stayers t S) (sym o))
        (λ ne.
        let high : at t s ≤ length t = omega (arith, L.high s p c) in
        let gone = ⊎_elim (λ d. d) (λ d. absurd (ne (sym (stayer-old (at t s) (L.low s p c) high (L.own s p c) d) ∙ y))) (either (has S (at t s))) in
        rw y at (M.weighed (at t s) (splits s p c gone) none (rw y p)).held)
        ∙ sym (stayer-size (at t s) s y p))
        (λ ne.
        M.sizes s p c (inr (λ z. ne (stayer-named (at t s) s z p)))
        ∙ stayers_nameless s (λ z. ne (name-stays t S L N s p c z))
        ∙ sym (size_nameless u (next-least t S) s ne))

    pub turns_end : Regrouped t S n h b × Only WRITTEN a b
    unfolding among
    turns_end = (
      record {
        known = R.known;
        long = M.long;
        names = record { long = M.long.each NAME (omega arith); moved = M.moved; kept = λ i p c f. M.kept i p c f none; beyond = M.no_names };
        gaps = rw (only_row WRITTEN a b DIST M.only refl) R.gaps;
        sizes = λ s p c no. sizes_are s p (rw R.known.long c) (λ z. ⊎_elim (λ f. absurd (no (record { moves = f; named = z }))) (λ f. f) (either (has S s)));
        beyond = rw R.known.long at M.no_sizes;
        many = M.many;
        left = λ k s p. (M.weighed k s none p).part ∙ sym (stayer-size k (stayer t S k) refl p);
        rests = λ k s. rw (only_row WRITTEN a b REST M.only refl) (R.rests k s);
        tails = record { long = M.long.each TAIL (omega arith); none = λ k p c. M.cleared k p c none };
        parts = rw (only_row WRITTEN a b QUE M.only refl) R.parts;
      },
      M.only,
    )
