-- The rows that the code cuts out of a slice for one width: their end lies in the slice, not before their start, and they are as many as lie between. Assumes nothing.
use Prim.Native.Nat.{ℕ, ◌+◌, ◌-◌, ◌*◌, ◌≤◌}
use mathlib.Core.Path.{◌≡◌, ap, ◌∙◌}
use mathlib.Core.List.{List}
use native.Mathlib.Omega.{arith}
use lib.ListN.{length, length-drop, drop}
use lib.Seq.{length-take-le}
use Rattle.words.specs.Rows.{rows, part}
use Rattle.words.proofs.Ranges.{found}
use Rattle.words.proofs.Rows.{rows_times}
use Rattle.row_cells.proofs.Adding.{room_fits}
use Rattle.bench_agrees.specs.Parts.{differs, part_end, part_from}

module _ (c : ℕ) (l : List ℕ) (j w from : ℕ) where
  pub cut_order : from ≤ part_end c l j w from
  unfolding part_end
  cut_order = (found (differs c l j w) (rows c l - from) from).low

  pub cut_rows : from ≤ rows c l → part_end c l j w from ≤ rows c l
  unfolding part_end
  cut_rows h = omega (arith, h, (found (differs c l j w) (rows c l - from) from).high)

  -- so many rows were cut out that the next ones lie in the slice too
  pub part-inside : 1 ≤ c → from ≤ rows c l → from + rows c (part_from c l j w from) ≤ rows c l
  unfolding part_from part
  part-inside some h =
      let end : ℕ = part_end c l j w from in
      let d : ℕ = end - from in
      let far : c * end ≡ c * from + c * d = let e : end ≡ from + d = omega (arith, cut_order) in ap (λ (v : ℕ). c * v) e ∙ omega arith in
      let inside : c * end ≤ length l = room_fits c l end (cut_rows h) in
      let size : length (part_from c l j w from) ≡ c * d =
      length-take-le (c * end - c * from) (drop (c * from) l) (omega (arith, inside, length-drop (c * from) l)) ∙ omega (arith, far) in
      omega (arith, rows_times c (part_from c l j w from) d some size, cut_order, cut_rows h)
