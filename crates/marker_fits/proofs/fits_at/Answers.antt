-- `marker_fits::fits_at` meets its contract: each return is the test of the start, way by way. Assumes nothing.
use Prim.Native.Nat.{ℕ, suc, ◌+◌, ◌-◌, ◌*◌, ◌≤◌}
use mathlib.Core.Path.{◌≡◌, sym, ◌∙◌}
use mathlib.Core.List.{List}
use native.Mathlib.Omega.{arith}
use lib.ListN.{length, take, drop}
use borrow.Author.Tests.{lt-leb}
use Rattle.words.specs.Reads.{same}
use Rattle.words.proofs.Copies.{copies_stand}
use Rattle.words_markers.specs.Fits.{has_motif}
use Rattle.words_markers.proofs.Starts.{no_motif, not_leading, not-twice, in_time}
use Rattle.marker_fits.proofs.fits_at.Goals.{Then-twice, then-not-same_bytes-via-then-not-same_bytes, then-not-same_bytes-via-else-not-same_bytes+then-not-is_leading}
use Rattle.marker_fits.proofs.fits_at.Goals as goal

-- the part that is compared is the motif's stretch
part : (x m : List ℕ) (i p : ℕ) → same (take (i - 1 + p - (i - 1)) (drop (i - 1) x)) m ≡ has_motif x m i p
unfolding has_motif
part x m i p = let e : i - 1 + p - (i - 1) ≡ p = omega arith in rw e

-- the copies end in the read
ends : (c : Then-twice) → c.args.i + length c.args.motif.now * c.copies_at-copies.result ≤ suc (length c.args.read.now)
ends c = rw c.copies_at-copies.ensures (copies_stand c.args.read.now c.args.i (length c.args.motif.now) (omega arith)).0

pub returns-then-not-same_bytes : goal.returns-then-not-same_bytes
returns-then-not-same_bytes c =
    sym
    (elim c.then-not-same_bytes.branch [
      | then-not-same_bytes-via-then-not-same_bytes w ↦ no_motif _ _ _ _ _ (sym (part _ _ _ _) ∙ sym c.same_bytes.ensures ∙ w.if-not-same_bytes.true)
      | then-not-same_bytes-via-else-not-same_bytes+then-not-is_leading w ↦ not_leading _ _ _ _ _ (sym w.is_leading.ensures ∙ w.if-not-is_leading.true)
    ])

pub returns-else-twice : goal.returns-else-twice
returns-else-twice c = lt-leb _ _ c.if-twice.false ∙ sym (not-twice _ _ _ _ _ (omega (arith, c.copies_at-copies.ensures, c.if-twice.false)))

pub overflow_mul-result : goal.overflow_mul-result
overflow_mul-result c = omega (arith, ends (goal.at.overflow_mul-result c).Then-twice)

pub overflow_add-result : goal.overflow_add-result
overflow_add-result c = omega (arith, ends (goal.at.overflow_add-result c).Then-twice)

pub returns-then-twice : goal.returns-then-twice
returns-then-twice c =
    rw c.copies_at-copies.ensures
    (sym
    (in_time _ _ _ _ _ (omega arith) c.requires.0 c.requires.1 (omega arith) c.requires.5
    (sym (part _ _ _ _) ∙ sym c.same_bytes.ensures ∙ c.if-not-same_bytes.false)
    (sym c.is_leading.ensures ∙ c.if-not-is_leading.false)
    (omega (arith, c.copies_at-copies.ensures, c.if-twice.true))))
