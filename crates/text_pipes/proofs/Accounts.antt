-- Accounts add up: no call moves nothing, and the calls of two accounts, one behind the other, move the bytes of both. Assumes nothing.
use mathlib.Core.Path.{◌≡◌, refl, sym, ap, ◌∙◌}
use mathlib.Core.List.{List, [], ◌∷◌, ◌++◌, append_assoc}
use Prim.Native.Nat.{ℕ, ◌+◌, ◌-◌, ◌≤◌, ◌<◌}
use native.Mathlib.Omega.{arith}
use lib.ListN.{length, length-drop, take, drop}
use lib.Seq.{take-add, take_all}
use lib.IntN.{ℤ, pos, negsuc}
use Rattle.std.proofs.Common.{Ok}
use Rattle.std.proofs.Math.Nat.{min-eq_left}
use Rattle.io.specs.Counts.{clamp_len}
use Rattle.words.proofs.Ranges.{append-nil}
use Rattle.text_pipes.specs.Accounts.{standard_output, Call, moved, moved_by, all, Account, Write, Put}

pub moved_more : (cs ds : List Call) → moved_by (cs ++ ds) ≡ moved_by cs ++ moved_by ds
moved_more [] ds = refl
moved_more (c ∷ cs) ds = rw (moved_more cs ds) (sym (append_assoc (moved c) (moved_by cs) (moved_by ds)))

pub all_more : (Made : Call → Type 0) (cs ds : List Call) → all Made cs → all Made ds → all Made (cs ++ ds)
all_more Made [] ds a b = b
all_more Made (c ∷ cs) ds a b = (a.0, all_more Made cs ds a.1 b)

abbrev pub account_none : {Made : Call → Type 0} → Account Made []
account_none = record { calls = []; made = tt; whole = refl }

abbrev pub account_call : {Made : Call → Type 0} (c : Call) → Made c → Account Made (moved c)
account_call c m = record { calls = c ∷ []; made = (m, tt); whole = sym (append-nil (moved c)) }

abbrev pub account_more : {Made : Call → Type 0} {a b : List ℕ} → Account Made a → Account Made b → Account Made (a ++ b)
account_more {Made} s t =
    record {
      calls = s.calls ++ t.calls;
      made = all_more Made s.calls t.calls s.made t.made;
      whole = rw (s.whole, t.whole) (sym (moved_more s.calls t.calls));
    }

-- a count lies in the buffer
pub clamped_inside : (got : ℤ) (n : ℕ) → clamp_len got n ≤ n
clamped_inside (pos k) n = omega arith
clamped_inside (negsuc k) n = omega arith

-- a call more takes bytes of what is left
module _ (bytes : List ℕ) (done : ℕ) (inside : done < length bytes) (took : Account Write (take done bytes)) where
  abbrev rest : List ℕ
  rest = take (length bytes - done) (drop done bytes)

  rest_is : rest ≡ drop done bytes
  rest_is = take_all (length bytes - done) (drop done bytes) (omega (arith, length-drop done bytes))

  module _ (k : ℕ) (put : Put standard_output rest (Ok k)) (fits : k ≤ length rest) where
    pub more_inside : done + k ≤ length bytes
    more_inside =
        let r : length rest ≡ length bytes - done = ap length rest_is ∙ length-drop done bytes in
        omega (arith, fits)

    pub took_more : Account Write (take (done + k) bytes)
    took_more =
        rw (take-add done k bytes, sym rest_is, ← min-eq_left fits) (account_more took (account_call (record { bytes = rest; got = pos k }) put))

-- a read call gave as many bytes as it said
pub said_count : (bytes : List ℕ) {n : ℕ} → n ≤ length bytes → n ≡ clamp_len (pos n) (length bytes)
said_count bytes fits = sym (min-eq_left fits)
