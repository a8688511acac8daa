-- The part of the read that the motif call hands back: it lies in the read from the claimed start on, is the motif or its root, and has no N. Assumes nothing.
use Prim.Native.Nat.{ℕ, suc, ◌+◌, ◌-◌, ◌≤◌, ◌<◌}
use mathlib.Core.Path.{◌≡◌, refl, sym, ap, ◌∙◌}
use mathlib.Core.Logic.{◌≢◌}
use mathlib.Core.List.{List, []}
use native.Mathlib.Omega.{arith}
use lib.ListN.{length, get_or, take, drop, length-take}
use lib.Seq.{get_or-take, get_or-drop}
use borrow.Author.Tests.{ne_eqb}
use Rattle.words.specs.Reads.{most, at, unread}
use Rattle.words.proofs.Repeats.{repeat_is}
use Rattle.words_claims.specs.Calls.{verdict, shown_of, motif_length, motif_from, motif}
use Rattle.std.specs.Prelude.{Result, Ok, Err}
use Rattle.words.specs.declared.Refusal.{Refusal}
use Rattle.words_claims.specs.declared.Verdict.{Verdict}
use Rattle.words_claims.proofs.Verdicts.{Inside, inside-fits}
use Rattle.words_claims.proofs.Truth.{Says, told_if_so, unread_told}

module _ (x : List ℕ) (i p e : ℕ) where
  -- by the verdict
  pub length_of : (v : Result Verdict Refusal) → verdict x i p e ≡ v → motif_length x i p e ≡ shown_of p v
  unfolding motif_length
  length_of v q = ap (shown_of p) q

  -- some bytes are shown: the claim lies in the read, and they are no more than the motif
  pub shown-inside : 1 ≤ motif_length x i p e → (length x ≤ most) × Inside x i p e × (motif_length x i p e ≤ p)
  unfolding motif_length shown_of
  shown-inside l = go (verdict x i p e) ((told_if_so x i p e (verdict x i p e)).0 refl) l
    where
      go : (v : Result Verdict Refusal) → Says x i p e v → 1 ≤ shown_of p v → (length x ≤ most) × Inside x i p e × (shown_of p v ≤ p)
      go (Ok Verdict.Yes) s l = let r = repeat_is x i p e s.1 in (s.0, (r.start, r.period, omega (arith, r.twice), r.stand.0), omega arith)
      go (Ok (Verdict.Copies c)) s l = absurd (omega arith)
      go (Ok (Verdict.Shorter d)) s l = (s.0, s.1, omega (arith, s.3))
      go (Ok Verdict.Outside) s l = absurd (omega arith)
      go (Err r) s l = absurd (omega arith)

  module _ (l : 1 ≤ motif_length x i p e) where
    pub shown-fits : (1 ≤ i) × (i + motif_length x i p e ≤ suc (length x))
    shown-fits = let s = shown-inside l in (s.1.0, omega (arith, s.2, inside-fits x i p e s.1))

    pub shown_from : motif_from x i p e ≡ i - 1
    unfolding motif_from
    shown_from = rw (ne_eqb (motif_length x i p e) 0 (omega arith))

    pub shown_bytes : motif x i p e ≡ take (motif_length x i p e) (drop (i - 1) x)
    unfolding motif
    shown_bytes = rw shown_from

  module _ (z : motif_length x i p e ≡ 0) where
    pub hidden_from : motif_from x i p e ≡ 0
    unfolding motif_from
    hidden_from = rw z

    pub hidden_bytes : motif x i p e ≡ []
    unfolding motif
    hidden_bytes = rw z

  -- not one of the bytes is an N: a motif with one is told its count
  pub motif_read : (k : ℕ) → k < length (motif x i p e) → get_or (motif x i p e) k 0 ≢ unread
  unfolding at shown_of motif
  motif_read k l n = let s = shown-inside some in omega (arith, some, length_of (Ok (Verdict.Copies 1)) (unread_told x i p e s.0 s.1 k (omega (arith, here, s.2)) byte))
    where
      here : k < motif_length x i p e
      here = omega (arith, length-take (motif_length x i p e) (drop (motif_from x i p e) x))

      some : 1 ≤ motif_length x i p e
      some = omega (arith, here)

      byte : get_or x (i + k - 1) 0 ≡ unread
      byte =
          ap (λ (v : ℕ). get_or x v 0) (omega (arith, (shown-fits some).0))
          ∙ sym (get_or-drop (i - 1) x k 0)
          ∙ sym (get_or-take (motif_length x i p e) (drop (i - 1) x) k 0 here)
          ∙ ap (λ (u : List ℕ). get_or u k 0) (sym (shown_bytes some))
          ∙ n
