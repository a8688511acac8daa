-- Two results x and y at the arguments a, both allowed by the contract of the function as the source states it, are equal, and so is the slice afterwards, in e and f, where it
-- has room for the places. Assumes nothing.
use Prim.Native.Nat.{◌≤◌}
use mathlib.Core.Path.{◌≡◌, sym, ◌∙◌}
use native.Mathlib.Omega.{arith}
use lib.ListN.{length}
use Rattle.words_primers.specs.Primers.{places}
use Rattle.row_cells.proofs.Listed.{listing_rows}
use Rattle.primer_scans.proofs.scan.Reads as scan

pub scan_settled : (κs : _) (a : _) (x y : _) (e f : _) → scan.Learnt κs a x e → scan.Learnt κs a y f →
    (x ≡ y) × (length (places a.1.0.now a.1.1.0.now) ≤ length a.0.now → e.0.now ≡ f.0.now)
scan_settled κs a x y e f p q = (sym (listing_rows _ _ _ _ _ (omega arith) p) ∙ listing_rows _ _ _ _ _ (omega arith) q, λ h. p.front h ∙ sym (q.front h))
