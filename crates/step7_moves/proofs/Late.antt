-- No distance falls: while the queue moves none is above the one that the position has at the next width, where it has one. Assumes nothing.
use Prim.Native.Nat.{ℕ, ◌+◌, ◌≤◌}
use mathlib.Core.Path.{◌≡◌, sym, ap, ◌∙◌}
use mathlib.Core.Logic.{◌⊎◌, inl, inr, ⊎_elim}
use mathlib.Core.List.{List}
use native.Mathlib.Omega.{arith}
use lib.ListN.{length}
use Rattle.words.specs.Reads.{at}
use Rattle.words.specs.Groups.{gap}
use Rattle.words.proofs.Tests.{lt_or_ge}
use Rattle.refine.specs.Refine.{next_of}
use Rattle.refine.specs.Leaving.{Known}
use Rattle.refine.proofs.Next.{next-length, next-same, next_refines}
use Rattle.refine.proofs.Links.{Nearest, gap_nearest, gap-reach, gap_grows}
use Rattle.refine.proofs.Moved.{next-moved, next-name}
use Rattle.step7_moves.specs.Relink.{codes, Past}
use Rattle.step7_moves.proofs.Codes.{codes-length, codes_at, codes-moved}
use Rattle.step7_moves.proofs.Prior.{past_has, past_before}

module _ {t S : List ℕ} {n : ℕ} (K : Known t S n) (i : ℕ) (a : 1 ≤ i) (some : 1 ≤ gap (next_of t S) i) (s : ℕ) (b : s ≤ length S) where
  abbrev u : List ℕ
  u = next_of t S

  abbrev c : List ℕ
  c = codes t u S s

  -- the next position of its new group
  abbrev e : ℕ
  e = i + gap u i

  inside : i ≤ length t
  inside = omega (arith, (gap_grows t u (next_refines t S) i a some).0, next-length t S)

  N : Nearest u i (gap u i)
  N = gap_nearest u i (omega (arith, inside, next-length t S))

  e_high : e ≤ length t
  e_high = omega (arith, N.high, next-length t S)

  near : at c e ≡ at c i → gap c i ≤ gap u i
  near q = (gap-reach c i (gap u i) some (omega (arith, codes-length K s, e_high)) q).1

  -- i has moved and the next of its part has not: then none of its part behind it has
  alone : Past S s i → (Past S s e → ⊥) → at c i ≡ 1000 + at u i → gap c i ≤ gap u i
  alone p n q = ⊎_elim (λ l. absurd (none l)) (λ l. omega arith) (lt_or_ge 0 (gap c i))
    where
      none : 1 ≤ gap c i → ⊥
      none l =
          let G = gap_nearest c i (omega (arith, codes-length K s, inside)) in
          let k = i + gap c i in
          let high : k ≤ length t = omega (arith, G.high, codes-length K s) in
          let moves = past_has S s i b p in
          let M = codes-moved K s k (at u i) b (omega arith) high (next-name t S K.least K.lined i a inside).0 (G.same ∙ q) in
          let m = next-moved t S K.least K.lined i e a inside (omega arith) e_high moves N.same in
          let right = m.2 ∙ sym (next-moved t S K.least K.lined i k a inside (omega arith) high moves M.1).2 in
          ⊎_elim
          (λ o. n (past_before s K b M.0 (omega (arith, M.0.2)) m.0 o right))
          (λ o. ⊎_elim (λ z. N.free k (omega arith) z M.1) (λ z. let same : k ≡ e = omega arith in n (rw same at M.0)) (lt_or_ge k e))
          (lt_or_ge e k)

  -- after the first s places of the queue
  pub late : gap c i ≤ gap u i
  late = go (codes_at K s i b a) (codes_at K s e b (omega arith))
    where
      go : (Past S s i × (at c i ≡ 1000 + at u i)) ⊎ ((Past S s i → ⊥) × (at c i ≡ at t i)) → (Past S s e × (at c e ≡ 1000 + at u e)) ⊎ ((Past S s e → ⊥) × (at c e ≡ at t e))
          → gap c i ≤ gap u i
      go (inl p) (inl q) = near (q.1 ∙ ap (λ (v : ℕ). 1000 + v) N.same ∙ sym p.1)
      go (inl p) (inr q) = alone p.0 q.0 p.1
      go (inr p) (inl q) =
          let m = next-moved t S K.least K.lined e i (omega arith) e_high a inside (past_has S s e b q.0) (sym N.same) in
          absurd (p.0 (past_before s K b q.0 (omega (arith, q.0.2)) m.0 (omega arith) m.2))
      go (inr p) (inr q) = near (q.1 ∙ (next-same t S e i (omega arith) e_high a inside N.same).0 ∙ sym p.1)
