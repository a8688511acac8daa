-- Two results x and y at the arguments a, both allowed by the contract of the function as the source states it, are equal as far as no read or
-- write call has a say: docs/EXCEPTIONS.md has the rest. Assumes nothing.
use Prim.Native.Nat.{ℕ, ◌+◌, ◌<◌}
use mathlib.Core.Bool.{true}
use Rattle.std.proofs.Common.{Some}
use mathlib.Core.Path.{◌≡◌, sym, ap, ◌∙◌}
use mathlib.Core.Logic.{⊎_elim}
use mathlib.Core.List.{List}
use native.Mathlib.Omega.{arith}
use Rattle.text_lines.specs.Lines.{Keeps}
use Rattle.text_streams.specs.Cuts.{end_of, reached, Turned}
use Rattle.text_streams.specs.declared.State.{State}
use Rattle.text_streams.specs.declared.Next.{Next}
use Rattle.text_streams.proofs.begin.Reads as begin
use Rattle.text_streams.proofs.goes_on.Reads as goes_on
use Rattle.text_streams.proofs.turn.Reads as turn

pub begin_settled : (κs : _) (a : _) (x y : _) (e f : _) → begin.Learnt κs a x e → begin.Learnt κs a y f → x ≡ y
begin_settled κs a x y e f p q = p ∙ sym q

pub goes_on_settled : (κs : _) (a : _) (x y : _) (e f : _) → goes_on.Learnt κs a x e → goes_on.Learnt κs a y f → x ≡ y
goes_on_settled κs a x y e f p q = p ∙ sym q

-- the place behind a newline, by the line's length
abbrev behind : List ℕ → State → ℕ → Next
behind input s len =
    record {
      line = Some len;
      state = record { source = record { from = end_of input s.source + 1; end = s.source.end; len = 0; more = true }; out = s.out };
    }

turned_is : {input line buf : List ℕ} {s : State} {input' line' : List ℕ} {r : Next} → Turned input line buf s input' line' r →
    end_of input s.source < s.source.end → r ≡ behind input s (reached r)
turned_is t h = ⊎_elim (λ c. c.turn) (λ w. absurd (omega (arith, h, w.plain))) t.goes

-- where a newline stands in the bytes that are there, a turn has no call to wait for: its line is found, of a settled length, and the input and
-- the output go on at settled places
pub turn_settled : (κs : _) (a : _) (x y : _) (e f : _) → turn.Learnt κs a x e → turn.Learnt κs a y f → (l : List ℕ) →
    Keeps l a.1.1.1.1.0.source.len a.1.1.0.now → end_of a.1.0.now a.1.1.1.1.0.source < a.1.1.1.1.0.source.end → x ≡ y
turn_settled κs a x y e f p q l k h =
    let n : reached x ≡ reached y = (p.keeps l k).size ∙ sym (q.keeps l k).size in
    turned_is p h ∙ ap (behind a.1.0.now a.1.1.1.1.0) n ∙ sym (turned_is q h)
