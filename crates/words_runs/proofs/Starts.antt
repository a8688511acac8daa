-- The runs of period p, read off the distances at width p: a run is a longest row of neighbouring starts of distance p, and reaches two periods from the last of
-- them. Assumes nothing.
use Prim.Native.Nat.{ℕ, zero, suc, ◌+◌, ◌-◌, ◌*◌, ◌≤◌, ◌<◌}
use mathlib.Core.Path.{◌≡◌, sym, ap, ◌∙◌}
use mathlib.Core.Logic.{◌⊎◌, inl, inr, ⊎_elim, ◌≢◌, ◌↔◌}
use mathlib.Core.Bool.{true}
use mathlib.Core.List.{List}
use native.Mathlib.Omega.{arith}
use lib.ListN.{length}
use Rattle.words.specs.Reads.{letter}
use Rattle.words.specs.Groups.{table, gap}
use Rattle.words.proofs.Tests.{lt_or_ge}
use Rattle.words.proofs.Stretches.{Alike}
use Rattle.words.proofs.Groups.{Twin}
use Rattle.words.proofs.Repeats.{Next, gap-next, next-gap}
use Rattle.words_runs.specs.Runs.{run}
use Rattle.words_runs.proofs.Runs.{Periodic, NoLess, longer_left, longer_right, Run, run_is, is_run}

module _ (x : List ℕ) where
  -- a distance d at which p letters of a stretch of period p stand again is a period of the whole stretch
  module _ (a b p i d : ℕ) (per : Periodic x a b p) (la : a ≤ i) (lb : i + 2 * p ≤ suc b) (ld : d < p) (al : Alike x p i (i + d)) where
    window : (k : ℕ) → i ≤ k → k < i + p → letter x k ≡ letter x (k + d)
    window k l m = ap (letter x) (omega arith) ∙ al (k - i) (omega arith) ∙ ap (letter x) (omega arith)

    after : (fuel k : ℕ) → k ≤ fuel → i ≤ k → k + d ≤ b → letter x k ≡ letter x (k + d)
    after zero k f l m = window k l (omega arith)
    after (suc fuel) k f l m =
        ⊎_elim
        (λ n. window k l n)
        (λ n.
        ap (letter x) (omega arith) ∙ sym (per (k - p) (omega arith) (omega arith)) ∙ after fuel (k - p) (omega arith) (omega arith) (omega arith)
        ∙ per (k - p + d) (omega arith) (omega arith) ∙ ap (letter x) (omega arith))
        (lt_or_ge k (i + p))

    before : (fuel k : ℕ) → i ≤ k + fuel → a ≤ k → k + d ≤ b → letter x k ≡ letter x (k + d)
    before zero k f l m = after k k (omega arith) (omega arith) m
    before (suc fuel) k f l m =
        ⊎_elim
        (λ n.
        per k l (omega arith) ∙ before fuel (k + p) (omega arith) (omega arith) (omega arith) ∙ ap (letter x) (omega arith) ∙ sym (per (k + d) (omega arith) (omega arith)))
        (λ n. after k k (omega arith) n m)
        (lt_or_ge k i)

    spread : Periodic x a b d
    spread k l m = before i k (omega arith) l m

  -- in a stretch of period p, the p letters from a place stand again p further, and where one place has none nearer, no place has
  module _ (a b p : ℕ) (h : 1 ≤ p) (per : Periodic x a b p) (stop : b ≤ length x) where
    twin_in : (i : ℕ) → a ≤ i → i + 2 * p ≤ suc b → Twin x p i (i + p)
    twin_in i l m = (omega arith, omega arith, λ k lk. per (i + k) (omega arith) (omega arith) ∙ ap (letter x) (omega arith))

    alike_in : (d i : ℕ) → d < p → Periodic x a b d → a ≤ i → i + 2 * p ≤ suc b → Twin x p i (i + d)
    alike_in d i ld q l m = (omega arith, omega arith, λ k lk. q (i + k) (omega arith) (omega arith) ∙ ap (letter x) (omega arith))

    next-least : NoLess x a b p → (i : ℕ) → a ≤ i → i + 2 * p ≤ suc b → Next x p i
    next-least f i l m = (twin_in i l m, λ q hq lq u. f q hq lq (spread a b p i q per l m lq u.2))

    least-next : (i : ℕ) → a ≤ i → i + 2 * p ≤ suc b → Next x p i → NoLess x a b p
    least-next i l m n d hd ld q = n.1 d hd ld (alike_in d i ld q l m)

    next_in_lem : (i j : ℕ) → a ≤ i → i + 2 * p ≤ suc b → a ≤ j → j + 2 * p ≤ suc b → Next x p i → Next x p j
    next_in_lem i j li mi lj mj n = next-least (least-next i li mi n) j lj mj

  -- the starts of period p from s to t stand side by side, with none before s and none after t
  pub record Row (p s t : ℕ) : Type 0 where
    pub pos : 1 ≤ p
    pub low : 1 ≤ s
    pub some : s ≤ t
    pub starts : (i : ℕ) → s ≤ i → i ≤ t → gap (table x p) i ≡ p
    pub first : (s ≤ 1) ⊎ (gap (table x p) (s - 1) ≢ p)
    pub last : gap (table x p) (suc t) ≢ p

  module _ (p s t : ℕ) (R : Row p s t) where
    abbrev end : ℕ
    end = t + 2 * p - 1

    at_start : (i : ℕ) → s ≤ i → i ≤ t → Next x p i
    at_start i l m = gap-next x p i R.pos (omega (arith, R.low)) (R.starts i l m)

    end-inside : end ≤ length x
    end-inside = omega (arith, (at_start t R.some (omega arith)).0.1, R.pos)

    carried : Periodic x s end p
    carried k l m =
        ⊎_elim
        (λ q. ap (letter x) (omega arith) ∙ (at_start k l (omega arith)).0.2 0 R.pos ∙ ap (letter x) (omega arith))
        (λ q. ap (letter x) (omega (arith, q)) ∙ (at_start t R.some (omega arith)).0.2 (k - t) (omega (arith, R.pos)) ∙ ap (letter x) (omega (arith, q)))
        (lt_or_ge k t)

    -- one letter more on a side would make one start more
    no_left : letter x (s - 1) ≡ letter x (s - 1 + p) → 1 < s → gap (table x p) (s - 1) ≡ p
    no_left e l =
        next-gap x p (s - 1) R.pos (omega arith)
        (next_in_lem (s - 1) end p R.pos (longer_left x s end p carried e) end-inside s (s - 1) (omega arith) (omega (arith, R.some, R.pos)) (omega arith) (omega (arith, R.some, R.pos)) (at_start s (omega arith) R.some))

    no_right : letter x (suc end - p) ≡ letter x (suc end - p + p) → suc end ≤ length x → gap (table x p) (suc t) ≡ p
    no_right e l =
        next-gap x p (suc t) R.pos (omega arith)
        (next_in_lem s (suc end) p R.pos (longer_right x s end p carried e) l s (suc t) (omega arith) (omega (arith, R.some, R.pos)) (omega (arith, R.some)) (omega (arith, R.pos)) (at_start s (omega arith) R.some))

    pub row-run : Run x s end p
    row-run =
        record {
          start = R.low;
          stop = end-inside;
          pos = R.pos;
          twice = omega (arith, R.some, R.pos);
          period = carried;
          least = least-next s end p R.pos carried end-inside s (omega arith) (omega (arith, R.some, R.pos)) (at_start s (omega arith) R.some);
          left = ⊎_elim inl (λ ne. ⊎_elim (λ l. inr (λ e. ne (no_left e l))) inl (lt_or_ge 1 s)) R.first;
          right = ⊎_elim (λ l. inr (λ e. R.last (no_right e l))) inl (lt_or_ge end (length x));
        }

  pub run_row : (a b p : ℕ) → Run x a b p → (t : ℕ) × (t + 2 * p ≡ suc b) × Row p a t
  run_row a b p r = (
    suc b - 2 * p,
    omega (arith, r.twice),
    record {
      pos = r.pos;
      low = r.start;
      some = omega (arith, r.twice);
      starts = λ i l m. next-gap x p i r.pos (omega (arith, r.start)) (next-least a b p r.pos r.period r.stop r.least i l (omega (arith, r.twice)));
      first = ⊎_elim inl (λ ne. ⊎_elim (λ l. inr (λ g. ne (ap (letter x) (omega arith) ∙ (gap-next x p (a - 1) r.pos (omega arith) g).0.2 0 r.pos ∙ ap (letter x) (omega arith)))) inl (lt_or_ge 1 a)) r.left;
      last = λ g.
          let n : Next x p (suc (suc b - 2 * p)) = gap-next x p (suc (suc b - 2 * p)) r.pos (omega arith) g in
          ⊎_elim
          (λ l. omega (arith, l, n.0.1, r.twice))
          (λ ne. ne (ap (letter x) (omega (arith, r.twice, r.pos)) ∙ n.0.2 (p - 1) (omega (arith, r.pos)) ∙ ap (letter x) (omega (arith, r.twice, r.pos))))
          r.right;
    },
  )

  -- (a, b, p) is a run if and only if the starts of distance p at width p stand side by side from a to t, as far as they go, and b is two periods from t
  pub runs_by_starts : (a b p : ℕ) → (run x a b p ≡ true) ↔ ((t : ℕ) × (t + 2 * p ≡ suc b) × Row p a t)
  runs_by_starts a b p = (
    λ t. run_row a b p (run_is x a b p t),
    λ h. let e : h.0 + 2 * p - 1 ≡ b = omega (arith, h.1) in is_run x a b p (rw e at (row-run p a h.0 h.2)),
  )
