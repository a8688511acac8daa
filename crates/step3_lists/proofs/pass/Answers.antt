-- `pass` meets its contract. The loop's invariant: what is left of the list begins at h, and who of distance w has left it is marked. The measure is what is
-- left of the list. Assumes nothing.
use mathlib.Core.Path.{◌≡◌, refl}
use Prim.Native.Nat.{◌≤◌}
use mathlib.Core.List.{[], ◌∷◌}
use native.Mathlib.Omega.{arith}
use Rattle.step1_rows.specs.Rows.{among, DIST, HEAD, AFTER}
use Rattle.step1_rows.proofs.Laws.{only_none, only-put, only_trans, only_row}
use Rattle.step2_bits.proofs.Flags.{flags-length}
use Rattle.step3_lists.proofs.Passing.{passing_start, passing_waits, passing-marked, passing_place, passing_low, passing_heads, passing-link, passing_on, passing-only, passing_less}
use Rattle.step3_lists.proofs.pass.Goals as goal

pub loop-h-init : goal.loop-h-init
loop-h-init c =
    let s = c.requires in
    (only_none (HEAD ∷ AFTER ∷ []) _, rw c.store.ensures (passing_start _ (s.2, s.3) _ s.0 s.1 _ c.load-h.ensures _))

pub load-b-requires : goal.load-b-requires
load-b-requires c =
    let s = c.requires in
    let p = passing_place _ (s.2, s.3) _ (omega (arith, c.loop-h-test.true)) c.loop-h.invariant.1 in
    (omega arith, p.0, p.1)

pub overflow_sub-b : goal.overflow_sub-b
overflow_sub-b c =
    let s = c.requires in
    omega (arith, c.load-b.ensures, passing-link _ (s.2, s.3) _ (omega (arith, c.loop-h-test.true)) c.loop-h.invariant.1)

pub release-requires : goal.release-requires
release-requires c =
    let s = c.requires in
    let I = c.loop-h.invariant in
    let h : 1 ≤ c.loop-h.h = omega (arith, c.loop-h-test.true) in
    let p = passing_place _ (s.2, s.3) _ h I.1 in
    (passing_heads _ (s.2, s.3) _ h I.1, p.0, p.1, passing_low _ (s.2, s.3) _ h I.1)

pub loop-h-smaller : goal.loop-h-smaller
loop-h-smaller c =
    let s = c.requires in
    rw (c.release.ensures.0, c.load-b.ensures) (passing_less _ (s.2, s.3) _ (omega (arith, c.loop-h-test.true)) c.loop-h.invariant.1)

pub loop-h-preserved : goal.loop-h-preserved
loop-h-preserved c =
    let s = c.requires in
    let I = c.loop-h.invariant in
    let h : 1 ≤ c.loop-h.h = omega (arith, c.loop-h-test.true) in
    let R = c.release.ensures in (
      rw R.0 (only_trans (HEAD ∷ AFTER ∷ []) _ _ _ I.0 (passing-only _ (s.2, s.3) _ h I.1)),
      rw (R.0, R.1, c.load-b.ensures) (passing_on _ (s.2, s.3) _ h I.1 (flags-length _)),
    )

pub returns : goal.returns
unfolding among
returns c =
    let s = c.requires in
    let I = c.loop-h.invariant in
    let z : c.loop-h.h ≡ 0 = omega (arith, c.loop-h-test.false) in
    let P = rw z at I.1 in
    let first = only-put (HEAD ∷ AFTER ∷ []) _ HEAD _ _ refl in
    let only = only_trans (HEAD ∷ AFTER ∷ []) _ _ _ first (rw c.store.ensures at I.0) in
    (P.long, only, passing_waits _ (s.2, s.3) _ P, rw (← only_row (HEAD ∷ AFTER ∷ []) _ _ DIST only refl) (passing-marked _ (s.2, s.3) _ P))
