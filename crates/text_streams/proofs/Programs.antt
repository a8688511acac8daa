-- Turn by turn: what a program has answered are the lines of what came, and at the end what it has written is their texts. Assumes nothing.
use Prim.Native.Nat.{ℕ, suc, ◌+◌, ◌-◌, ◌^◌, ◌≤◌, ◌<◌}
use mathlib.Core.Path.{◌≡◌, refl, sym, ap, ◌∙◌}
use mathlib.Core.Logic.{◌⊎◌, inl, inr, ⊎_elim}
use mathlib.Core.Bool.{Bool, true, false, cond}
use mathlib.Core.List.{List, [], ◌∷◌, ◌++◌, append_assoc, append-nil}
use native.Mathlib.Omega.{arith}
use lib.ListN.{length, length-append}
use lib.IntN.{ℤ}
use lib.Dec.{eqb}
use Rattle.io.specs.Counts.{clamp_len}
use Rattle.text_puts.specs.Numbers.{newline}
use Rattle.text_pipes.specs.Accounts.{Call, moved, Read, Ended, Unread}
use Rattle.text_pipes.proofs.Accounts.{account_none, account_call, account_more}
use Rattle.text_lines.specs.Lines.{last_line, lines_of, Plain, Keeps}
use Rattle.text_streams.specs.Cuts.{chunk_of, Within, pending, end_of, rest_of, filled}
use Rattle.text_outs.specs.Outputs.{Begun, Told, Adds}
use Rattle.text_streams.specs.Programs.{texts, beginning, Stands, Stopped, Ran}
use Rattle.text_outs.specs.declared.Out.{Out}
use Rattle.text_streams.specs.declared.State.{State}
use Rattle.text_streams.specs.declared.Source.{Source}
use Rattle.text_lines.proofs.Keeping.{keeps_none}
use Rattle.text_lines.proofs.Plain.{plain-none, plain_more}
use Rattle.text_lines.proofs.Lines.{lines-plain, lines_cut}
use Rattle.text_streams.proofs.Pending.{rest_plain, pending_cut, pending-plain}
use Rattle.text_outs.proofs.Telling.{told_none}

-- the texts of lines and of one line more
pub texts_more : (text : List ℕ → List ℕ) (xs : List (List ℕ)) (x : List ℕ) → texts text (xs ++ x ∷ []) ≡ texts text xs ++ text x
texts_more text [] x = append-nil (text x)
texts_more text (y ∷ xs) x = rw (texts_more text xs x) (sym (append_assoc (text y) (texts text xs) (text x)))

-- a last line is one at most
last_few : (x : List ℕ) → length (last_line x) ≤ 1
unfolding last_line
last_few x = go (eqb (length x) 0)
  where
    go : (b : Bool) → length (cond b [] (x ∷ [])) ≤ 1
    go true = omega arith
    go false = omega arith

-- before the first turn
pub stands-first : (text : List ℕ → List ℕ) (input line buf : List ℕ) → Stands text 0 input line buf beginning
unfolding pending chunk_of
stands-first text input line buf =
    record {
      bytes = [];
      came = account_none;
      answered = [];
      turns = refl;
      x = [];
      plain = plain-none;
      keeps = keeps_none line;
      lines = λ more. refl;
      told = told_none buf;
    }

-- a program stops where a write failed, or where its turns are spent
pub stands_stop : {text : List ℕ → List ℕ} {k : ℕ} {input line buf : List ℕ} {s : State} → Stands text k input line buf s →
    (s.out.ok ≡ false) ⊎ (2 ^ 64 - 1 ≤ k) → Stopped text buf s.out
stands_stop {input = input} {s = s} t why =
    record {
      bytes = t.bytes;
      came = t.came;
      answered = t.answered;
      left = lines_of (t.x ++ (pending input s.source ++ []));
      lines = ap lines_of (sym (append-nil t.bytes)) ∙ t.lines [];
      told = t.told;
      why = inr (inr (⊎_elim (λ e. inl e) (λ l. inr (omega (arith, t.turns))) why));
    }

-- a turn
module _ {text : List ℕ → List ℕ} {k : ℕ} {input line buf : List ℕ} {s : State} (w : Within input s.source) (t : Stands text k input line buf s) where
  -- the line so far with the bytes that were there
  abbrev pub so_far : List ℕ
  so_far = t.x ++ rest_of input s.source

  so_far-plain : Plain so_far
  so_far-plain = plain_more t.x (rest_of input s.source) t.plain (rest_plain input s.source w)

  -- a newline ended it, and its text was made
  module _ (b : end_of input s.source < s.source.end) where
    abbrev pub next : Source
    next = record { from = end_of input s.source + 1; end = s.source.end; len = 0; more = true }

    bytes_cut : (more : List ℕ) → t.x ++ (pending input s.source ++ more) ≡ so_far ++ newline ∷ (pending input next ++ more)
    bytes_cut more = rw (pending_cut input s.source w b 0) (simp append_assoc)

    pub stands_cut : (line' : List ℕ) {buf' : List ℕ} {o : Out} → Adds buf s.out (text so_far) buf' o →
        Stands text (suc k) input line' buf' (record { source = next; out = o })
    stands_cut line' a =
        record {
          bytes = t.bytes;
          came = t.came;
          answered = t.answered ++ so_far ∷ [];
          turns = omega (arith, t.turns, length-append t.answered (so_far ∷ []));
          x = [];
          plain = plain-none;
          keeps = keeps_none line';
          lines = λ more.
              t.lines more
              ∙ ap (λ (l : List ℕ). t.answered ++ lines_of l) (bytes_cut more)
              ∙ ap (λ (l : List (List ℕ)). t.answered ++ l) (lines_cut so_far (pending input next ++ more) so_far-plain)
              ∙ sym (append_assoc t.answered (so_far ∷ []) (lines_of (pending input next ++ more)));
          told = rw (texts_more text t.answered so_far) (a.to (texts text t.answered) t.told);
        }

  -- there was none
  module _ (b : s.source.end ≤ end_of input s.source) where
    lines_spent : (more : List ℕ) → lines_of (t.bytes ++ more) ≡ t.answered ++ lines_of (so_far ++ more)
    lines_spent more =
        t.lines more
        ∙ ap (λ (l : List ℕ). t.answered ++ lines_of l) (rw (pending-plain input s.source w b) (sym (append_assoc t.x (rest_of input s.source) more)))

    lines_last : lines_of t.bytes ≡ t.answered ++ last_line so_far
    lines_last =
        ap lines_of (sym (append-nil t.bytes))
        ∙ lines_spent []
        ∙ ap (λ (l : List (List ℕ)). t.answered ++ l) (ap lines_of (append-nil so_far) ∙ lines-plain so_far so_far-plain)

    module _ {out : Out} (f : Adds buf s.out [] buf out) where
      told_spent : Told (texts text t.answered) buf out
      told_spent = rw (append-nil (texts text t.answered)) at (f.to (texts text t.answered) t.told)

      -- a read call gave bytes
      pub stands-filled : {input' line' : List ℕ} {len : ℕ} (got : ℤ) → Keeps so_far len line' → Read (record { bytes = input'; got = got }) →
          Stands text (suc k) input' line' buf (filled (clamp_len got (length input')) len out).state
      unfolding pending chunk_of
      stands-filled {input'} {line'} {len} got kept gave =
          let c : Call = record { bytes = input'; got = got } in
          record {
            bytes = t.bytes ++ moved c;
            came = account_more t.came (account_call c gave);
            answered = t.answered;
            turns = omega (arith, t.turns, length-append t.came.calls (c ∷ []));
            x = so_far;
            plain = so_far-plain;
            keeps = kept;
            lines = λ more. rw (append_assoc t.bytes (moved c) more) (lines_spent (moved c ++ more));
            told = told_spent;
          }

      -- the input ended, and the last line does not count
      pub stopped_none : Ended → last_line so_far ≡ [] → Stopped text buf out
      stopped_none e z =
          record {
            bytes = t.bytes;
            came = t.came;
            answered = t.answered;
            left = [];
            lines = lines_last ∙ ap (λ (l : List (List ℕ)). t.answered ++ l) z;
            told = told_spent;
            why = inl (refl, e);
          }

      -- .. or it does, and its text was made
      pub stopped_last : Ended → last_line so_far ≡ so_far ∷ [] → {buf' : List ℕ} {o : Out} → Adds buf out (text so_far) buf' o → Stopped text buf' o
      stopped_last e z a =
          record {
            bytes = t.bytes;
            came = t.came;
            answered = t.answered ++ so_far ∷ [];
            left = [];
            lines = lines_last ∙ ap (λ (l : List (List ℕ)). t.answered ++ l) z ∙ sym (append-nil (t.answered ++ so_far ∷ []));
            told = rw (texts_more text t.answered so_far) (a.to (texts text t.answered) told_spent);
            why = inl (refl, e);
          }

      -- a call failed
      pub stopped_broken : Unread ⊎ (out.ok ≡ false) → Stopped text buf out
      stopped_broken why =
          record {
            bytes = t.bytes;
            came = t.came;
            answered = t.answered;
            left = last_line so_far;
            lines = lines_last;
            told = told_spent;
            why = ⊎_elim (λ u. inr (inl (last_few so_far, u))) (λ e. inr (inr (inl e))) why;
          }

-- all that was still collected is written out
pub ran : {text : List ℕ → List ℕ} {buf : List ℕ} {o r : Out} → Stopped text buf o → (r.used ≡ 0) × Adds buf o [] buf r → Ran text
ran {text} {buf} {o} {r} t f =
    record {
      bytes = t.bytes;
      came = t.came;
      out = told.out;
      took = told.took;
      answered = t.answered;
      left = t.left;
      lines = t.lines;
      written = go r.ok refl;
      why = ⊎_elim (λ e. inl e) (λ q. inr (⊎_elim (λ u. inl u) (λ v. inr (⊎_elim (λ e. inl (t.told.begun e).stuck) (λ l. inr l) v)) q)) t.why;
    }
  where
    told : Told (texts text t.answered) buf r
    told = rw (append-nil (texts text t.answered)) at (f.1.to (texts text t.answered) t.told)

    go : (b : Bool) → r.ok ≡ b → (told.out ≡ texts text t.answered) ⊎ Begun told.out (texts text t.answered)
    go true e = inl (sym (told.whole e ∙ rw f.0 (append-nil told.out)))
    go false e = inr (told.begun e)
