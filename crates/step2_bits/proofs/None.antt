-- 17 words of zero hold no place. Assumes nothing.
use Prim.Native.Nat.{ℕ, ◌-◌, ◌/◌, ◌%◌, ◌<◌}
use mathlib.Core.Path.{◌≡◌, ap, ◌∙◌}
use native.Mathlib.Omega.{arith}
use lib.ListN.{get_or, replicate, length-replicate, get_or-replicate}
use Rattle.bits.specs.Bits.{bit}
use Rattle.bits.proofs.Digits.{bit-zero}
use Rattle.step2_bits.specs.Sets.{flag, flags, Sound, Empty}
use Rattle.step2_bits.proofs.Flags.{flags-at}

word-zero : (b : ℕ) → b < 17 → get_or {A = ℕ} (replicate 17 0) b 0 ≡ 0
word-zero b h = get_or-replicate {A = ℕ} 17 b 0 0 h

flag-none : (s : ℕ) → (s - 1) / 64 < 17 → flag (replicate 17 0) s ≡ 0
unfolding flag
flag-none s h = ap (λ (x : ℕ). bit x ((s - 1) % 64)) (word-zero ((s - 1) / 64) h) ∙ bit-zero ((s - 1) % 64)

pub sound_none : Sound (replicate 17 0)
sound_none = record {
  long = length-replicate {A = ℕ} 17 0;
  fits = λ b h. rw (word-zero b (omega arith)) (omega arith);
  within = λ s h l. flag-none s (omega arith);
  top = omega arith;
  told = λ b h. rw (word-zero b (omega arith)) (bit-zero b);
}

pub flags-none : Empty (flags (replicate 17 0))
flags-none = record { none = λ s h l. flags-at (replicate 17 0) s h l ∙ flag-none s (omega arith) }
