-- One turn: the line so far goes on with the part that was taken, up to a newline or, where there is none, to a read call. Assumes nothing.
use Prim.Native.Nat.{ℕ, ◌+◌, ◌≤◌, ◌<◌}
use mathlib.Core.Path.{◌≡◌, refl, sym, ap, ◌∙◌}
use mathlib.Core.Logic.{⊎_elim, inl, inr}
use mathlib.Core.Bool.{Bool, true, false, cond}
use Rattle.std.specs.Option.{unwrap_or}
use mathlib.Core.List.{List, [], ◌++◌}
use borrow.Author.Tests.{ltb-true, lt-ltb}
use Rattle.std.proofs.Common.{Some, None}
use Rattle.std.proofs.lemmas.Option.{cond_some, none-some}
use Rattle.words.proofs.Tests.{lt_or_ge}
use lib.ListN.{length, take}
use lib.Dec.{ltb}
use lib.Seq.{length-take-le}
use Rattle.text_lines.specs.Lines.{Keeps}
use Rattle.text_outs.specs.Outputs.{Adds}
use Rattle.text_streams.specs.Cuts.{chunk_of, Within, end_of, rest_of, reached, Waited, Turned}
use Rattle.text_lines.specs.Parts.{Taken}
use Rattle.text_streams.specs.declared.Source.{Source}
use Rattle.text_lines.specs.declared.Part.{Part}
use Rattle.text_outs.specs.declared.Out.{Out}
use Rattle.text_streams.specs.declared.State.{State}
use Rattle.text_streams.specs.declared.Next.{Next}

pub chunk_length : {input : List ℕ} {s : Source} → Within input s → length (take s.end input) ≡ s.end
chunk_length {input} {s} w = length-take-le s.end input w.inside

-- a line keeps its length while a read call is waited for
last_len : (b : Bool) (len : ℕ) → unwrap_or (cond b (Some len) None) len ≡ len
last_len true len = refl
last_len false len = refl

waited_len : (len : ℕ) (out : Out) {input : List ℕ} {r : Next} → Waited len out input r → len ≡ reached r
waited_len len out =
    ⊎_elim
    (λ f. sym (ap (λ (n : Next). reached n) f.turn))
    (⊎_elim (λ o. sym (ap (λ (n : Next). reached n) o.turn ∙ last_len (ltb 0 len) len)) (λ b. sym (ap (λ (n : Next). reached n) b.turn)))

module _ (input line buf : List ℕ) (s : State) (w : Within input s.source) {line' : List ℕ} {p : Part}
    (t : Taken (take s.source.end input) s.source.from line s.source.len line' p) where
  next_is : p.next ≡ cond (ltb (end_of input s.source) s.source.end) (Some (end_of input s.source + 1)) None
  unfolding end_of chunk_of
  next_is = rw (chunk_length w) at t.next

  goes_on : (x : List ℕ) → Keeps x s.source.len line → Keeps (x ++ rest_of input s.source) p.len line'
  unfolding rest_of chunk_of
  goes_on = t.keeps

  -- a newline was found, and the input goes on at a place
  abbrev found_at : ℕ → Next
  found_at from =
      record {
        line = Some p.len;
        state = record { source = record { from = from; end = s.source.end; len = 0; more = true }; out = s.out };
      }

  pub turned_cut : {from : ℕ} → p.next ≡ Some from → Turned input line buf s input line' (found_at from)
  turned_cut {from} h =
      let (b, n) = cond_some (ltb (end_of input s.source) s.source.end) _ _ (sym next_is ∙ h) in
      record { keeps = goes_on; goes = inl (record { newline = ltb-true _ _ b; untouched = refl; turn = ap found_at (sym n) }) }

  pub turned_spent : p.next ≡ None → {out : Out} → out.used ≡ 0 → Adds buf s.out [] buf out → {input' : List ℕ} {r : Next} →
      Waited p.len out input' r → Turned input line buf s input' line' r
  turned_spent h {out} e f g =
      let b : s.source.end ≤ end_of input s.source =
      ⊎_elim (λ (l : end_of input s.source < s.source.end). absurd (none-some (end_of input s.source + 1) (sym h ∙ next_is ∙ rw (lt-ltb _ _ l)))) (λ l. l) (lt_or_ge (end_of input s.source) s.source.end) in
      let l : p.len ≡ _ = waited_len p.len out g in
      record {
        keeps = λ x k. rw (sym l) (goes_on x k);
        goes = inr (record { plain = b; out = out; empty = e; told = f; waited = rw l at g });
      }
