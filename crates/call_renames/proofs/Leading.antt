-- The leaders of the parts that marks split a table into, met one position at a time, in order of the mark, then the position: the first of a part that is
-- met is its leader, and the part that was met last of a group is the only one that can have more. Assumes nothing.
use Prim.Native.Nat.{ℕ, ◌≤◌, ◌<◌}
use mathlib.Core.Path.{◌≡◌, refl, sym, ap, ◌∙◌}
use mathlib.Core.Logic.{◌⊎◌, inl, inr, ⊎_elim, by_cases, ◌≢◌}
use mathlib.Core.Bool.{true, false}
use mathlib.Core.List.{List}
use native.Mathlib.Decide.{ℕ_discrete}
use native.Mathlib.Nat.{eq-or-lt_of_le}
use native.Mathlib.Omega.{arith}
use lib.ListN.{length}
use lib.Dec.{ltb, eqb}
use borrow.Author.Tests.{eqb-true, eq-eqb, lt-ltb, ltb-true}
use Rattle.words.specs.Range.{column, leader}
use Rattle.words.specs.Reads.{at}
use Rattle.words.specs.Groups.{Least}
use Rattle.words.proofs.Tests.{either, clash, and_left, and_right, and_both}
use Rattle.words.proofs.Ranges.{at-column, length-column}
use Rattle.words.proofs.Leaders.{Equivalence, leader_low, leader_high, leader_joins, leader-least, leader-same, leader-own, leaders-least}
use Rattle.slots.proofs.Laws.{put-length, put_same, put_other}
use Rattle.refine.specs.Phases.{Clean}
use Rattle.call_names.specs.Heads.{joined, head_of, lead_of}
use Rattle.call_renames.specs.Split.{joint, split, Torn, Head, Leading}
use Rattle.words.proofs.Rule.{at_ext}

module _ (t mark : List ℕ) where
  joint_is : (i j : ℕ) → joint t mark i j ≡ true → (at t i ≡ at t j) × (at mark i ≡ at mark j)
  unfolding joint
  joint_is i j e = (
    eqb-true (at t i) (at t j) (and_left (eqb (at t i) (at t j)) (eqb (at mark i) (at mark j)) e),
    eqb-true (at mark i) (at mark j) (and_right (eqb (at t i) (at t j)) (eqb (at mark i) (at mark j)) e),
  )

  is_joint : (i j : ℕ) → at t i ≡ at t j → at mark i ≡ at mark j → joint t mark i j ≡ true
  unfolding joint
  is_joint i j e f = and_both (eqb (at t i) (at t j)) (eqb (at mark i) (at mark j)) (eq-eqb (at t i) (at t j) e) (eq-eqb (at mark i) (at mark j) f)

  joint_equivalence : Equivalence (joint t mark)
  joint_equivalence =
      record {
        same = λ i. is_joint i i refl refl;
        turn = λ i j h. is_joint j i (sym (joint_is i j h).0) (sym (joint_is i j h).1);
        join = λ i j k g h. is_joint i k ((joint_is i j g).0 ∙ (joint_is j k h).0) ((joint_is i j g).1 ∙ (joint_is j k h).1);
      }

  pub leader-own-leads : (i : ℕ) → 1 ≤ i → leader (joint t mark) (leader (joint t mark) i) ≡ leader (joint t mark) i
  leader-own-leads i a = leader-own (joint t mark) joint_equivalence i a

  pub leader-named : (i : ℕ) → 1 ≤ i → at t (leader (joint t mark) i) ≡ at t i
  leader-named i a = (joint_is (leader (joint t mark) i) i (leader_joins (joint t mark) joint_equivalence i a)).0

  pub leader-inside : (i : ℕ) → 1 ≤ i → (1 ≤ leader (joint t mark) i) × (leader (joint t mark) i ≤ i)
  leader-inside i a = (leader_low (joint t mark) joint_equivalence i, leader_high (joint t mark) joint_equivalence i a)

  -- a list of the leaders is the table that is split, which has least names
  pub leaders-split : (u : List ℕ) → length u ≡ length t → ((i : ℕ) → 1 ≤ i → i ≤ length t → at u i ≡ leader (joint t mark) i) → u ≡ split t mark
  unfolding split
  leaders-split u e h =
      at_ext u (column (leader (joint t mark)) (length t)) (e ∙ sym (length-column (leader (joint t mark)) (length t)))
      (λ i a b. let c : i ≤ length t = omega arith in h i a c ∙ sym (at-column (leader (joint t mark)) (length t) i a c))

  pub split-least : Least (split t mark)
  unfolding split
  split-least = leaders-least (joint t mark) joint_equivalence (length t)

  -- if the position that names the group stays, it leads those that stay
  pub whole_leader : Least t → (i : ℕ) → 1 ≤ i → i ≤ length t → at mark i ≡ 0 → at mark (at t i) ≡ 0 → leader (joint t mark) i ≡ at t i
  whole_leader L i a b e f =
      let E = joint_equivalence in
      let k : ℕ = at t i in
      let j : ℕ = leader (joint t mark) i in
      let low : j ≤ k = leader-least (joint t mark) E i k (L.low i a b) (is_joint k i (L.own i a b) (f ∙ sym e)) in
      let own : at t j ≡ k = (joint_is j i (leader_joins (joint t mark) E i a)).0 in
      omega (arith, L.high j (leader_low (joint t mark) E i) (omega (arith, leader_high (joint t mark) E i a)))

  -- none is done, and nothing leads
  pub leading_start : (done : ℕ → Type 0) (lead : List ℕ) → Clean lead → ((i : ℕ) → 1 ≤ i → i ≤ length t → done i → Torn t mark i → ⊥) → Leading t mark done lead
  leading_start done lead C none =
      record {
        long = C.long;
        led = λ i a b d w. absurd (none i a b d w);
        heads = λ k a b c. absurd (omega (arith, C.none k a b));
      }

  -- the same torn positions, said in another way
  pub leading_same : (done done' : ℕ → Type 0) (lead : List ℕ) → ((i : ℕ) → 1 ≤ i → i ≤ length t → done i → done' i) → ((i : ℕ) → 1 ≤ i → i ≤ length t → Torn t mark i → done' i → done i)
      → Leading t mark done lead → Leading t mark done' lead
  leading_same done done' lead to from M =
      record {
        long = M.long;
        led = λ i a b d w. M.led i a b (from i a b w d) w;
        heads = λ k a b c.
            let H = M.heads k a b c in
            record { high = H.high; named = H.named; met = to (at lead k) c H.high H.met; torn = H.torn; first = H.first };
      }

-- position i is next: it is torn, all before it in the order are done, and no other
pub record Next (t mark : List ℕ) (done done' : ℕ → Type 0) (i : ℕ) : Type 0 where
  pub low : 1 ≤ i
  pub high : i ≤ length t
  pub torn : Torn t mark i
  pub now : done' i
  pub more : (j : ℕ) → done j → done' j
  pub only : (j : ℕ) → 1 ≤ j → j ≤ length t → done' j → (j ≡ i) ⊎ done j
  pub before : (j : ℕ) → 1 ≤ j → j < i → at mark j ≡ at mark i → done j
  pub below : (j : ℕ) → 1 ≤ j → j ≤ length t → done j → at mark j ≤ at mark i

module _ (t mark : List ℕ) (L : Least t) (few : length t ≤ 1000) (done : ℕ → Type 0) (lead : List ℕ) (M : Leading t mark done lead)
    (i : ℕ) (low : 1 ≤ i) (high : i ≤ length t) where
  old_low : 1 ≤ at t i
  old_low = L.low i low high

  old_high : at t i ≤ 1000
  old_high = omega (arith, L.high i low high)

module _ (t mark : List ℕ) (L : Least t) (few : length t ≤ 1000) (done done' : ℕ → Type 0) (lead : List ℕ) (M : Leading t mark done lead)
    (i : ℕ) (N : Next t mark done done' i) where
  abbrev k : ℕ
  k = at t i

  k_low : 1 ≤ k
  k_low = old_low t mark L few done lead M i N.low N.high

  k_high : k ≤ 1000
  k_high = old_high t mark L few done lead M i N.low N.high

  abbrev E : Equivalence (joint t mark)
  E = joint_equivalence t mark

  abbrev j : ℕ
  j = leader (joint t mark) i

  j-joint : (at t j ≡ k) × (at mark j ≡ at mark i)
  j-joint = joint_is t mark j i (leader_joins (joint t mark) E i N.low)

  j_low : 1 ≤ j
  j_low = leader_low (joint t mark) E i

  j_high : j ≤ i
  j_high = leader_high (joint t mark) E i N.low

  j_torn : Torn t mark j
  j_torn = ⊎_elim (λ p. inl (rw j-joint.1 p)) (λ p. inr (rw j-joint.0 p)) N.torn

  -- what leads the old group is the leader, if its mark is right; if it is not, nothing of the part was met
  pub joined_head : joined mark (at lead k) i ≡ true → (at mark (at lead k) ≡ at mark i) × Head t mark done k (at lead k)
  unfolding joined
  joined_head e = (
    eqb-true (at mark (at lead k)) (at mark i) (and_right (ltb 0 (at lead k)) (eqb (at mark (at lead k)) (at mark i)) e),
    M.heads k k_low k_high (ltb-true 0 (at lead k) (and_left (ltb 0 (at lead k)) (eqb (at mark (at lead k)) (at mark i)) e)),
  )

  pub joined-leads : joined mark (at lead k) i ≡ true → at lead k ≡ j
  unfolding joined
  joined-leads e =
      let H = joined_head e in
      sym H.1.first
      ∙ leader-same (joint t mark) E (at lead k) i (ltb-true 0 (at lead k) (and_left (ltb 0 (at lead k)) (eqb (at mark (at lead k)) (at mark i)) e)) N.low
      (is_joint t mark (at lead k) i H.1.named H.0)

  pub alone-leads : joined mark (at lead k) i ≡ false → i ≡ j
  unfolding joined
  alone-leads e =
      ⊎_elim
      (λ q. sym q)
      (λ l.
      let D = M.led j j_low (omega (arith, N.high)) (N.before j j_low l j-joint.1) j_torn in
      let p : 1 ≤ at lead k = rw j-joint.0 at D.0 in
      let H = M.heads k k_low k_high p in
      let r : at mark j ≤ at mark (at lead k) = rw j-joint.0 at D.1 in
      let s : at mark (at lead k) ≡ at mark i = omega (arith, r, j-joint.1, N.below (at lead k) p H.high H.met) in
      clash (and_both (ltb 0 (at lead k)) (eqb (at mark (at lead k)) (at mark i)) (lt-ltb 0 (at lead k) p) (eq-eqb (at mark (at lead k)) (at mark i) s)) e)
      (eq-or-lt_of_le j_high)

  pub head_leads : head_of lead mark k i ≡ j
  unfolding head_of
  head_leads = ⊎_elim (λ e. rw e (joined-leads e)) (λ e. rw e (alone-leads e)) (either (joined mark (at lead k) i))

  j_head : Head t mark done' k j
  j_head =
      record {
        high = omega (arith, j_high, N.high);
        named = j-joint.0;
        met = ⊎_elim (λ q. rw q N.now) (λ l. N.more j (N.before j j_low l j-joint.1)) (eq-or-lt_of_le j_high);
        torn = j_torn;
        first = leader-own (joint t mark) E i N.low;
      }

  abbrev lead_on : List ℕ
  lead_on = lead_of lead mark k i

  on_long : length lead_on ≡ 1000
  unfolding lead_of
  on_long = ⊎_elim (λ e. rw e M.long) (λ e. rw e (put-length lead k i ∙ M.long)) (either (joined mark (at lead k) i))

  k_led : at lead_on k ≡ j
  unfolding lead_of
  k_led =
      ⊎_elim
      (λ e. rw e (joined-leads e))
      (λ e. rw e (put_same lead k i k_low (omega (arith, k_high, M.long)) ∙ alone-leads e))
      (either (joined mark (at lead k) i))

  on_other : (m : ℕ) → 1 ≤ m → m ≢ k → at lead_on m ≡ at lead m
  unfolding lead_of
  on_other m a ne = ⊎_elim (λ e. rw e) (λ e. rw e (put_other lead k i m k_low a ne)) (either (joined mark (at lead k) i))

  pub leading_step : Leading t mark done' lead_on
  leading_step =
      record {
        long = on_long;
        led = λ m a b d w. by_cases (ℕ_discrete (at t m) k)
            (λ q. rw (q, k_led) (j_low, omega (arith, below m a b d, j-joint.1)))
            (λ q. rw (on_other (at t m) (L.low m a b) q) (M.led m a b (older m a b d (λ e. q (ap (at t) e))) w));
        heads = λ m a b c. by_cases (ℕ_discrete m k)
            (λ q. rw (q, k_led) j_head)
            (λ q.
            let other : at lead_on m ≡ at lead m = on_other m a q in
            let H = M.heads m a b (omega arith) in
            rw other (record { high = H.high; named = H.named; met = N.more (at lead m) H.met; torn = H.torn; first = H.first }));
      }
    where
      older : (m : ℕ) → 1 ≤ m → m ≤ length t → done' m → m ≢ i → done m
      older m a b d ne = ⊎_elim (λ q. absurd (ne q)) (λ q. q) (N.only m a b d)

      below : (m : ℕ) → 1 ≤ m → m ≤ length t → done' m → at mark m ≤ at mark i
      below m a b d = ⊎_elim (λ q. rw q (omega arith)) (N.below m a b) (N.only m a b d)
