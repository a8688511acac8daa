-- A text put where the next text goes is collected behind what was there, and texts collected one after another are their joined text.
-- Assumes nothing.
use Prim.Native.Nat.{ℕ, ◌+◌, ◌≤◌}
use mathlib.Core.Path.{◌≡◌, refl, ap, ◌∙◌}
use mathlib.Core.List.{List, [], ◌++◌}
use native.Mathlib.Omega.{arith}
use lib.ListN.{length, length-append, take, drop}
use lib.Seq.{length-take-le, take_at}
use Rattle.words.specs.Range.{gather}
use Rattle.words.proofs.Ranges.{gather-next}
use Rattle.text_puts.specs.Puts.{placed, Room, Puts}
use Rattle.text_puts.proofs.Putting.{puts_length}
use Rattle.text_outs.specs.Outputs.{next_place, Adds}
use Rattle.text_outs.specs.declared.Out.{Out}
use Rattle.text_outs.proofs.Placing.{place_room}
use Rattle.text_outs.proofs.Telling.{adds_none, adds_text, adds_more}
use Rattle.bench_shows.specs.Collecting.{Collects}

module _ (need : ℕ) (s : Out) {buf text : List ℕ} {o : Out} (small : length text ≤ need) (fits : need ≤ length buf)
    (made : (o.used ≡ next_place need (length buf) s.used) × Adds buf s [] buf o) where
  pub text_room : Room buf o.used text
  text_room = record { fits = omega (arith, made.0, place_room need (length buf) s.used fits, small) }

  module _ {after : List ℕ} {end : ℕ} (p : Puts buf o.used text after end) where
    -- what stands before the end
    front : take end after ≡ take o.used buf ++ text
    unfolding placed
    front =
        let size : length (take o.used buf ++ text) ≡ end =
        length-append (take o.used buf) text ∙ omega (arith, p.stop, length-take-le o.used buf (omega (arith, text_room.fits))) in
        ap (take end) p.bytes ∙ take_at (take o.used buf ++ text) (drop (o.used + length text) buf) end size

    long : length after ≡ length buf
    long = puts_length p text_room

    pub text_collects : Collects buf s text after (record { used = end; ok = o.ok })
    text_collects = record { same = long; inside = omega (arith, p.stop, text_room.fits, long); adds = adds_more made.1 (adds_text front) }

pub collects_none : {buf : List ℕ} {o : Out} → o.used ≤ length buf → Collects buf o [] buf o
collects_none {buf} {o} h = record { same = refl; inside = h; adds = adds_none buf o }

pub collects_join : {buf a mid b new : List ℕ} {u v w : Out} → Collects buf u a mid v → Collects mid v b new w → Collects buf u (a ++ b) new w
collects_join p q = record { same = q.same ∙ p.same; inside = q.inside; adds = adds_more p.adds q.adds }

-- the texts of a range from 1 on, one more
pub collects_next : (f : ℕ → List ℕ) (d : ℕ) {buf mid new : List ℕ} {u v w : Out} → Collects buf u (gather f d 1) mid v → Collects mid v (f (d + 1)) new w
    → Collects buf u (gather f (d + 1) 1) new w
collects_next f d p q = rw (gather-next f d) (collects_join p q)
