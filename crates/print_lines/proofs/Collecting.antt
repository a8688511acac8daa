-- A text written to the rest of the buffer, from its place on, is collected behind what was there. Assumes nothing.
use Prim.Native.Nat.{ℕ, ◌+◌, ◌-◌, ◌*◌, ◌≤◌}
use mathlib.Core.Path.{◌≡◌, sym, ap, ◌∙◌}
use mathlib.Core.List.{List, [], ◌++◌, append_assoc}
use native.Mathlib.Omega.{arith}
use lib.ListN.{length, length-append, length-drop, take, drop}
use lib.Seq.{length-take-le, take_at}
use Rattle.words.specs.Rows.{rows}
use Rattle.words.specs.Lists.{line_size}
use Rattle.words.specs.Answers.{Answer}
use Rattle.text_answers.specs.Texts.{answer_text, Printable}
use Rattle.text_outs.specs.Outputs.{next_place, Adds}
use Rattle.text_outs.specs.declared.Out.{Out}
use Rattle.text_outs.proofs.Placing.{place_room}
use Rattle.text_outs.proofs.Telling.{adds_text, adds_more}
use Rattle.print_lines.specs.Output.{printed, Spacious, Collected}
use Rattle.print_lines.proofs.Hearing.{Heard}

module _ {line : List ℕ} {len : ℕ} {list buf : List ℕ} {s : Out} {a : Answer} {made : List ℕ} (h : Heard line len list a made)
    (ready : Spacious list buf s.used) (same : length made ≡ length list) {o : Out}
    (placed : (o.used ≡ next_place (6 * length made + 64) (length buf) s.used) × Adds buf s [] buf o) where
  abbrev rest : List ℕ
  rest = take (length buf - o.used) (drop o.used buf)

  pub place_inside : 6 * length list + 64 + o.used ≤ length buf
  place_inside = rw (placed.0, same) (place_room (6 * length list + 64) (length buf) s.used ready.room)

  rest-length : length rest ≡ length buf - o.used
  rest-length = length-take-le (length buf - o.used) (drop o.used buf) (omega (arith, length-drop o.used buf))

  pub printable : Printable a made rest
  printable =
      record {
        lines = λ z. rw same (h.lines z);
        room = rw (same, rest-length) (omega (arith, place_inside));
      }

  module _ {after : List ℕ} {n : ℕ} (w : (after ≡ answer_text a len made ++ drop n rest) × (n ≡ length (answer_text a len made)))
      (whole : length after ≡ length rest) where
    pub text_inside : o.used + n ≤ length buf
    text_inside =
        let l : length after ≡ n + length (drop n rest) = rw (w.0, length-append (answer_text a len made) (drop n rest)) (omega (arith, w.1)) in
        omega (arith, rest-length, whole, place_inside)

    front_length : length (take o.used buf ++ answer_text a len made) ≡ o.used + n
    front_length =
        rw (length-append (take o.used buf) (answer_text a len made), length-take-le o.used buf (omega (arith, place_inside))) (omega (arith, w.1))

    text_there : (more : List ℕ) → take (o.used + n) (take o.used buf ++ (after ++ more)) ≡ take o.used buf ++ answer_text a len made
    text_there more =
        let t : List ℕ = answer_text a len made in
        let r : List ℕ = drop n rest ++ more in
        let g : take o.used buf ++ (after ++ more) ≡ take o.used buf ++ t ++ r = rw w.0 (simp append_assoc) in
        ap (take (o.used + n)) g ∙ take_at (take o.used buf ++ t) r (o.used + n) front_length

    pub collected : (more : List ℕ) →
        Collected line len list buf s (take o.used buf ++ (after ++ more)) (record { used = o.used + n; ok = o.ok })
    collected more =
        record {
          inside = text_inside;
          adds = λ x k. rw (sym (h.text x k)) (adds_more placed.1 (adds_text (text_there more)));
        }

-- the slice of the list has the same room at every line
pub same-room : (list made : List ℕ) → length list ≡ length made → printed (rows line_size list) ≡ printed (rows line_size made)
unfolding rows
same-room list made e = rw e
