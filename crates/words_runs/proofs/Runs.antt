-- A run, letter by letter: a stretch of least period p, at least two periods long, whose two neighbours do not carry the period on; and it ends where the period
-- stops. Assumes nothing.
use Prim.Native.Nat.{ℕ, suc, ◌+◌, ◌-◌, ◌*◌, ◌≤◌, ◌<◌}
use mathlib.Core.Path.{◌≡◌, refl, subst}
use mathlib.Core.Logic.{◌⊎◌, inl, inr, ⊎_elim, ◌≢◌}
use mathlib.Core.Bool.{true, ◌||◌, not}
use mathlib.Core.List.{List}
use native.Mathlib.Omega.{arith}
use lib.ListN.{length}
use lib.Dec.{leb, ltb, eqb}
use borrow.Author.Tests.{leb-true, le-leb, ltb-true, lt-ltb, eqb-true, eq-eqb, not-false}
use Rattle.words.specs.Range.{first}
use Rattle.words.specs.Reads.{letter}
use Rattle.words.proofs.Tests.{and_left, and_right, or_cases, or_left, or_right, lt_or_ge, clash, not-both}
use Rattle.words.proofs.Ranges.{every-at, every_of, found, Found}
use Rattle.words_runs.specs.Runs.{again, periodic, least_period, repetition, left_ends, right_ends, run, reach}

module _ (x : List ℕ) where
  -- p is a period of the stretch from a to b
  abbrev pub Periodic : ℕ → ℕ → ℕ → Type 0
  Periodic a b p = (k : ℕ) → a ≤ k → k + p ≤ b → letter x k ≡ letter x (k + p)

  periodic_is : (a b p : ℕ) → periodic x a b p ≡ true → Periodic a b p
  unfolding periodic again
  periodic_is a b p t k l m = eqb-true (letter x k) (letter x (k + p)) (every-at (again x p) (suc b - (a + p)) a t k l (omega arith))

  is_periodic : (a b p : ℕ) → Periodic a b p → periodic x a b p ≡ true
  unfolding periodic again
  is_periodic a b p h = every_of (again x p) (suc b - (a + p)) a (λ k l m. eq-eqb (letter x k) (letter x (k + p)) (h k l (omega arith)))

  -- no period of the stretch is smaller than p
  abbrev pub NoLess : ℕ → ℕ → ℕ → Type 0
  NoLess a b p = (d : ℕ) → 1 ≤ d → d < p → Periodic a b d → ⊥

  abbrev pub Least : ℕ → ℕ → ℕ → Type 0
  Least a b p = (1 ≤ p) × Periodic a b p × NoLess a b p

  sought : (a b : ℕ) → Found (periodic x a b) (b - a) 1 (least_period x a b)
  unfolding least_period
  sought a b = found (periodic x a b) (b - a) 1

  pub least_is : (a b : ℕ) → a ≤ b → Least a b (least_period x a b)
  least_is a b l =
      let f = sought a b in (
        f.low,
        λ k u v. ⊎_elim (λ m. periodic_is a b (least_period x a b) (f.pass m) k u v) (λ m. absurd (omega arith)) (lt_or_ge (least_period x a b) (1 + (b - a))),
        λ d u v h. clash (is_periodic a b d h) (f.least d u v),
      )

  pub is_least : (a b p : ℕ) → a ≤ b → Least a b p → least_period x a b ≡ p
  is_least a b p l h = go (lt_or_ge (least_period x a b) p) (lt_or_ge p (least_period x a b))
    where
      m : Least a b (least_period x a b)
      m = least_is a b l

      go : (least_period x a b < p) ⊎ (p ≤ least_period x a b) → (p < least_period x a b) ⊎ (least_period x a b ≤ p) → least_period x a b ≡ p
      go (inl u) v = absurd (h.2 (least_period x a b) m.0 u m.1)
      go (inr u) (inl v) = absurd (m.2 p h.0 v h.1)
      go (inr u) (inr v) = omega arith

  -- a longer stretch has a larger least period exactly if it does not have this one
  grows : (p a b c d : ℕ) → a ≤ b → c ≤ a → b ≤ d → Least a b p → (Periodic c d p → ⊥) → p < least_period x c d
  grows p a b c d l u v h f = go (lt_or_ge p (least_period x c d)) (lt_or_ge (least_period x c d) p)
    where
      m : Least c d (least_period x c d)
      m = least_is c d (omega arith)

      go : (p < least_period x c d) ⊎ (least_period x c d ≤ p) → (least_period x c d < p) ⊎ (p ≤ least_period x c d) → p < least_period x c d
      go (inl g) w = g
      go (inr g) (inl w) = absurd (h.2 (least_period x c d) m.0 w (λ k r s. m.1 k (omega arith) (omega arith)))
      go (inr g) (inr w) = absurd (f (subst (Periodic c d) (omega arith) m.1))

  grown : (p a b : ℕ) → a ≤ b → 1 ≤ p → p < least_period x a b → Periodic a b p → ⊥
  grown p a b l h g r = (least_is a b l).2 p h g r

  -- a stretch of period p with one base more that carries it on has the period p
  pub longer_left : (a b p : ℕ) → Periodic a b p → letter x (a - 1) ≡ letter x (a - 1 + p) → Periodic (a - 1) b p
  longer_left a b p h e k u v = ⊎_elim (λ y. h k (omega arith) v) (λ y. let o : k ≡ a - 1 = omega arith in rw o e) (lt_or_ge (a - 1) k)

  pub longer_right : (a b p : ℕ) → Periodic a b p → letter x (suc b - p) ≡ letter x (suc b - p + p) → Periodic a (suc b) p
  longer_right a b p h e k u v = ⊎_elim (λ y. h k u (omega arith)) (λ y. let o : k ≡ suc b - p = omega arith in rw o e) (lt_or_ge (k + p) (suc b))

  -- a run, letter by letter
  pub record Run (a b p : ℕ) : Type 0 where
    pub start : 1 ≤ a
    pub stop : b ≤ length x
    pub pos : 1 ≤ p
    pub twice : a + 2 * p ≤ suc b
    pub period : Periodic a b p
    pub least : NoLess a b p
    pub left : (a ≤ 1) ⊎ (letter x (a - 1) ≢ letter x (a - 1 + p))
    pub right : (length x ≤ b) ⊎ (letter x (suc b - p) ≢ letter x (suc b - p + p))

  pub run_is : (a b p : ℕ) → run x a b p ≡ true → Run a b p
  unfolding run repetition left_ends right_ends
  run_is a b p t =
      go (search (and_left, and_right, leb-true) depth 9) (search (and_left, and_right, leb-true) depth 9) (search (and_left, and_right, leb-true) depth 9)
      (eqb-true (least_period x a b) p (search (and_left, and_right) depth 9)) (search (and_left, and_right, leb-true) depth 9)
      (or_cases (leb a 1) (ltb (least_period x a b) (least_period x (a - 1) b)) (search (and_left, and_right) depth 9))
      (or_cases (leb (length x) b) (ltb (least_period x a b) (least_period x a (suc b))) (search (and_left, and_right) depth 9))
    where
      go : 1 ≤ a → a ≤ b → b ≤ length x → least_period x a b ≡ p → 2 * least_period x a b ≤ suc b - a
          → (leb a 1 ≡ true) ⊎ (ltb (least_period x a b) (least_period x (a - 1) b) ≡ true)
          → (leb (length x) b ≡ true) ⊎ (ltb (least_period x a b) (least_period x a (suc b)) ≡ true) → Run a b p
      go h l s e w u v =
          let m : Least a b p = rw e at (least_is a b l) in
          record {
            start = h;
            stop = s;
            pos = m.0;
            twice = omega (arith, l, e);
            period = m.1;
            least = m.2;
            left = ⊎_elim
                (λ q. inl (leb-true a 1 q))
                (λ q. inr (λ d. grown p (a - 1) b (omega arith) m.0 (omega (arith, e, ltb-true (least_period x a b) (least_period x (a - 1) b) q)) (longer_left a b p m.1 d)))
                u;
            right = ⊎_elim
                (λ q. inl (leb-true (length x) b q))
                (λ q. inr (λ d. grown p a (suc b) (omega arith) m.0 (omega (arith, e, ltb-true (least_period x a b) (least_period x a (suc b)) q)) (longer_right a b p m.1 d)))
                v;
          }

  pub is_run : (a b p : ℕ) → Run a b p → run x a b p ≡ true
  unfolding run repetition left_ends right_ends
  is_run a b p r =
      let l : a ≤ b = omega (arith, r.twice, r.pos) in
      let m : Least a b p = (r.pos, r.period, r.least) in
      let e : least_period x a b ≡ p = is_least a b p l m in
      let u : leb a 1 || ltb p (least_period x (a - 1) b) ≡ true =
      ⊎_elim
      (λ q. or_left (leb a 1) (ltb p (least_period x (a - 1) b)) (le-leb a 1 q))
      (λ q. or_right (leb a 1) (ltb p (least_period x (a - 1) b)) (lt-ltb p (least_period x (a - 1) b) (grows p a b (a - 1) b l (omega arith) (omega arith) m (λ h. q (h (a - 1) (omega arith) (omega (arith, r.twice)))))))
      r.left in
      let v : leb (length x) b || ltb p (least_period x a (suc b)) ≡ true =
      ⊎_elim
      (λ q. or_left (leb (length x) b) (ltb p (least_period x a (suc b))) (le-leb (length x) b q))
      (λ q. or_right (leb (length x) b) (ltb p (least_period x a (suc b))) (lt-ltb p (least_period x a (suc b)) (grows p a b a (suc b) l (omega arith) (omega arith) m (λ h. q (h (suc b - p) (omega (arith, r.twice)) (omega (arith, r.twice)))))))
      r.right in
      rw e
      (cc (
        le-leb 1 a r.start,
        le-leb a b l,
        le-leb b (length x) r.stop,
        eq-eqb p p refl,
        le-leb (2 * p) (suc b - a) (omega (arith, r.twice)),
        u,
        v,
      ))

  -- a run ends where its period stops
  pub run-reach : (a b p : ℕ) → Run a b p → reach x p a ≡ b
  unfolding reach again
  run-reach a b p r = go (lt_or_ge c (suc b - p)) (lt_or_ge (suc b - p) c)
    where
      c : ℕ
      c = first (λ k. not (again x p k)) (suc (length x) - (a + p)) a

      f : Found (λ k. not (again x p k)) (suc (length x) - (a + p)) a c
      f = found (λ k. not (again x p k)) (suc (length x) - (a + p)) a

      go : (c < suc b - p) ⊎ (suc b - p ≤ c) → (suc b - p < c) ⊎ (c ≤ suc b - p) → c + p - 1 ≡ b
      go (inl l) m = absurd (not-both (eqb (letter x c) (letter x (c + p))) (f.pass (omega (arith, r.stop, r.twice))) (eq-eqb (letter x c) (letter x (c + p)) (r.period c f.low (omega arith))))
      go (inr l) (inl m) =
          absurd
          (⊎_elim
          (λ q. omega (arith, q, m, f.high, r.twice, r.stop))
          (λ ne. ne (eqb-true (letter x (suc b - p)) (letter x (suc b - p + p)) (not-false (eqb (letter x (suc b - p)) (letter x (suc b - p + p))) (f.least (suc b - p) (omega (arith, r.twice)) m))))
          r.right)
      go (inr l) (inr m) = omega (arith, r.twice)

  -- document 004, Lemma 1: two runs of one period overlap by fewer bases than the period has
  pub runs_overlap : (a b c d p : ℕ) → Run a b p → Run c d p → a < c → suc b < c + p
  runs_overlap a b c d p r s l = go (lt_or_ge (suc b) (c + p)) (lt_or_ge b d)
    where
      go : (suc b < c + p) ⊎ (c + p ≤ suc b) → (b < d) ⊎ (d ≤ b) → suc b < c + p
      go (inl h) m = h
      -- the second would carry the first on, ..
      go (inr h) (inl m) =
          absurd (⊎_elim (λ q. omega (arith, q, s.stop)) (λ ne. ne (s.period (suc b - p) (omega arith) (omega (arith, r.twice)))) r.right)
      -- .. or the first the second, on its left
      go (inr h) (inr m) =
          absurd (⊎_elim (λ q. omega (arith, q, r.start)) (λ ne. ne (r.period (c - 1) (omega arith) (omega (arith, s.twice, s.pos)))) s.left)
