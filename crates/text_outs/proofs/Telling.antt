-- The account of the output: what is collected may be written out at any time, and a text goes behind it; after a failed write the text that
-- was made is only begun, and stays so. Assumes nothing.
use Prim.Native.Nat.{ℕ}
use mathlib.Core.Path.{◌≡◌, refl, sym}
use mathlib.Core.Bool.{true}
use mathlib.Core.List.{List, [], ◌++◌, append_assoc, append-nil}
use native.Mathlib.Omega.{arith}
use lib.ListN.{length, take}
use lib.Seq.{take_all}
use Rattle.words.proofs.Tests.{clash}
use Rattle.text_pipes.specs.Accounts.{Handed}
use Rattle.text_pipes.proofs.Accounts.{account_none, account_more}
use Rattle.text_outs.specs.Outputs.{Begun, Told, Adds}
use Rattle.text_outs.specs.declared.Out.{Out}

-- before the first text
pub told_none : (buf : List ℕ) → Told [] buf (record { used = 0; ok = true })
told_none buf = record { out = []; took = account_none; whole = λ e. refl; begun = λ e. clash refl e }

-- a text that is only begun stays so when more is made
begun_more : {out text : List ℕ} (more : List ℕ) → Begun out text → Begun out (text ++ more)
begun_more {out} more b = record { rest = b.rest ++ more; whole = rw b.whole (append_assoc out b.rest more); stuck = b.stuck }

pub adds_none : (buf : List ℕ) (o : Out) → Adds buf o [] buf o
adds_none buf o = record { to = λ text t. rw (append-nil text) t }

-- a text behind what is collected
pub adds_text : {buf : List ℕ} {o : Out} {more buf' : List ℕ} {end : ℕ} → take end buf' ≡ take o.used buf ++ more →
    Adds buf o more buf' (record { used = end; ok = o.ok })
adds_text {buf} {o} {more} e =
    record {
      to = λ text t.
          record {
            out = t.out;
            took = t.took;
            whole = λ h. rw (t.whole h, e) (append_assoc t.out (take o.used buf) more);
            begun = λ h. begun_more more (t.begun h);
          };
    }

-- one text behind another
pub adds_more : {a : List ℕ} {o : Out} {s b : List ℕ} {p : Out} {t c : List ℕ} {q : Out} → Adds a o s b p → Adds b p t c q → Adds a o (s ++ t) c q
adds_more {s = s} {t = t} f g = record { to = λ text h. rw (sym (append_assoc text s t)) (g.to (text ++ s) (f.to text h)) }

-- what is collected was written out
module _ (buf : List ℕ) (o : Out) (e : o.ok ≡ true) where
  abbrev all : List ℕ
  all = take o.used buf

  pub adds_written : Handed all (length all) → Adds buf o [] buf (record { used = 0; ok = true })
  adds_written h =
      let w : take (length all) all ≡ all = take_all (length all) all (omega arith) in
      record {
        to = λ text t.
            record {
              out = t.out ++ take (length all) all;
              took = account_more t.took h.took;
              whole = λ q. rw (append-nil text, append-nil (t.out ++ take (length all) all), w) (t.whole e);
              begun = λ q. clash refl q;
            };
      }
