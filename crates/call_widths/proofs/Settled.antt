-- Two results x and y at the arguments a, both allowed by the contract of the function as the source states it, are equal; of `list_widths` and `run_widths` the
-- slice afterwards too, where it has room for the rows. Assumes nothing.
use Prim.Native.Nat.{◌≤◌}
use mathlib.Core.Path.{◌≡◌, sym, ◌∙◌}
use lib.ListN.{length}
use Rattle.words.specs.Lists.{lines, in_mode}
use Rattle.words_runs.specs.Runs.{runs}
use Rattle.words.proofs.LineLayout.{line-some}
use Rattle.words_runs.proofs.RunLayout.{run-some}
use Rattle.row_cells.proofs.Listed.{listing_rows}
use Rattle.call_widths.proofs.list_widths.Reads as list-widths
use Rattle.call_widths.proofs.count_widths.Reads as count-widths
use Rattle.call_widths.proofs.run_widths.Reads as run-widths

pub list_widths_settled : (κs : _) (a : _) (x y : _) (e f : _) → list-widths.Learnt κs a x e → list-widths.Learnt κs a y f →
    (x.rows ≡ y.rows) × (x.periods ≡ y.periods) × (length (lines a.1.0.now (in_mode a.1.0.now a.1.1.0)) ≤ length a.0.now → e.0.now ≡ f.0.now)
list_widths_settled κs a x y e f p q =
    (sym (listing_rows _ _ _ _ _ line-some p.0) ∙ listing_rows _ _ _ _ _ line-some q.0, p.1 ∙ sym q.1, λ h. p.0.front h ∙ sym (q.0.front h))

pub count_widths_settled : (κs : _) (a : _) (x y : _) (e f : _) → count-widths.Learnt κs a x e → count-widths.Learnt κs a y f → (x.rows ≡ y.rows) × (x.periods ≡ y.periods)
count_widths_settled κs a x y e f p q = (p.0 ∙ sym q.0, p.1 ∙ sym q.1)

pub run_widths_settled : (κs : _) (a : _) (x y : _) (e f : _) → run-widths.Learnt κs a x e → run-widths.Learnt κs a y f →
    (x ≡ y) × (length (runs a.1.0.now) ≤ length a.0.now → e.0.now ≡ f.0.now)
run_widths_settled κs a x y e f p q = (sym (listing_rows _ _ _ _ _ run-some p) ∙ listing_rows _ _ _ _ _ run-some q, λ h. p.front h ∙ sym (q.front h))
