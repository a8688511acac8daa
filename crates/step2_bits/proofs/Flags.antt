-- A set as 1,000 numbers: what each is, and that one of them changes, and the words are sound again, when the words change in one bit.
-- Assumes nothing.
use Prim.Native.Nat.{ℕ, ◌-◌, ◌/◌, ◌%◌, ◌≤◌, ◌<◌, min}
use mathlib.Core.Path.{◌≡◌, sym, ap, ◌∙◌}
use mathlib.Core.Logic.{◌≢◌, by_cases}
use mathlib.Core.List.{List}
use native.Mathlib.Decide.{ℕ_discrete}
use native.Mathlib.Omega.{arith}
use lib.ListN.{length, length-set, get_or, set}
use lib.Seq.{get_or-set_same, get_or-set_other}
use Rattle.words.specs.Reads.{at}
use Rattle.words.proofs.Ranges.{length-column, at-column}
use Rattle.words.proofs.Rule.{at_ext}
use Rattle.slots.specs.Slots.{put}
use Rattle.slots.proofs.Laws.{put-length, put_same, put_other}
use Rattle.bits.specs.Bits.{bit, Bit}
use Rattle.step2_bits.specs.Sets.{flag, flags, Sound}

pub flags-length : (set : List ℕ) → length (flags set) ≡ 1000
unfolding flags
flags-length set = length-column (flag set) 1000

pub flags-at : (set : List ℕ) (s : ℕ) → 1 ≤ s → s ≤ 1000 → at (flags set) s ≡ flag set s
unfolding flags
flags-at set s h l = at-column (flag set) 1000 s h l

-- word b is w now, and the last word is t
pub record Renewed (old : List ℕ) (b w t : ℕ) (new : List ℕ) : Type 0 where
  pub long : length new ≡ 17
  pub word : get_or new b 0 ≡ w
  pub rest : (c : ℕ) → c < 16 → c ≢ b → get_or new c 0 ≡ get_or old c 0
  pub last : get_or new 16 0 ≡ t

module _ (old : List ℕ) (b w : ℕ) (long : length old ≡ 17) (below : b < 16) where
  pub renewed_one : Renewed old b w (get_or old 16 0) (set old b w)
  renewed_one = record {
    long = length-set old b w ∙ long;
    word = get_or-set_same old b w 0 (rw long (omega arith));
    rest = λ c h ne. get_or-set_other old b c w 0 ne;
    last = get_or-set_other old b 16 w 0 (λ e. omega arith);
  }

  pub renewed_both : (t : ℕ) → Renewed old b w t (set (set old b w) 16 t)
  renewed_both t = record {
    long = length-set (set old b w) 16 t ∙ renewed_one.long;
    word = get_or-set_other (set old b w) 16 b t 0 (λ e. omega arith) ∙ renewed_one.word;
    rest = λ c h ne. get_or-set_other (set old b w) 16 c t 0 (λ e. omega arith) ∙ renewed_one.rest c h ne;
    last = get_or-set_same (set old b w) 16 t 0 (rw renewed_one.long (omega arith));
  }

module _ (old new : List ℕ) (s v w t : ℕ) (S : Sound old) (h : 1 ≤ s) (l : s ≤ 1000) (R : Renewed old ((s - 1) / 64) w t new)
    (B : Bit 64 (get_or old ((s - 1) / 64) 0) w ((s - 1) % 64) v) (T : Bit 16 (get_or old 16 0) t ((s - 1) / 64) (min 1 w)) where
  flag_hit : flag new s ≡ v
  unfolding flag
  flag_hit = ap (λ (x : ℕ). bit x ((s - 1) % 64)) R.word ∙ B.hit

  flag_miss : (r : ℕ) → 1 ≤ r → r ≤ 1024 → r ≢ s → flag new r ≡ flag old r
  unfolding flag
  flag_miss r a b ne =
      by_cases (ℕ_discrete ((r - 1) / 64) ((s - 1) / 64))
      (λ e. rw e (ap (λ (x : ℕ). bit x ((r - 1) % 64)) R.word ∙ B.miss ((r - 1) % 64) (λ f. ne (omega (arith, e, f)))))
      (λ e. ap (λ (x : ℕ). bit x ((r - 1) % 64)) (R.rest ((r - 1) / 64) (omega arith) e))

  pub renewed : Sound new × (flags new ≡ put (flags old) s v)
  renewed = (
    record {
      long = R.long;
      fits = λ c b. by_cases (ℕ_discrete c ((s - 1) / 64)) (λ e. rw (e, R.word) B.fits) (λ e. rw (R.rest c b e) (S.fits c b));
      within = λ r a b. flag_miss r (omega arith) b (λ e. omega arith) ∙ S.within r a b;
      top = rw R.last T.fits;
      told = λ c b. by_cases (ℕ_discrete c ((s - 1) / 64)) (λ e. rw (e, R.last, R.word) T.hit) (λ e. rw (R.last, R.rest c b e) (T.miss c e ∙ S.told c b));
    },
    at_ext (flags new) (put (flags old) s v) (flags-length new ∙ sym (put-length (flags old) s v ∙ flags-length old))
        (λ r a b.
        let c : r ≤ 1000 = rw (flags-length new) at b in
        by_cases (ℕ_discrete r s)
        (λ e. rw e (flags-at new s h l ∙ flag_hit ∙ sym (put_same (flags old) s v h (rw (flags-length old) l))))
        (λ e. flags-at new r a c ∙ flag_miss r a (omega arith) e ∙ sym (put_other (flags old) s v r h a e ∙ flags-at old r a c))),
  )
