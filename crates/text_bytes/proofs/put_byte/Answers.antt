-- `text_bytes::put_byte` meets its contract: the byte itself or its digits, by the test. Assumes nothing.
use mathlib.Core.Path.{sym, ◌∙◌}
use native.Mathlib.Omega.{arith}
use Rattle.text_puts.proofs.Putting.{puts_byte}
use Rattle.text_bytes.proofs.Bytes.{byte_itself, byte_digits}
use Rattle.text_bytes.proofs.put_byte.Goals as goal

pub bounds-buf-at : goal.bounds-buf-at
bounds-buf-at c =
    let e = byte_itself _ (sym c.is_plain.ensures ∙ c.if-is_plain.true) in
    let r = rw e at c.requires in
    omega (arith, r.fits)

pub returns-then-is_plain : goal.returns-then-is_plain
returns-then-is_plain c =
    let e = byte_itself _ (sym c.is_plain.ensures ∙ c.if-is_plain.true) in
    rw e (puts_byte (rw e at c.requires))

pub put_digits-requires : goal.put_digits-requires
put_digits-requires c =
    rw (byte_digits _ (sym c.is_plain.ensures ∙ c.if-is_plain.false)) at c.requires

pub returns : goal.returns
returns c =
    rw (byte_digits _ (sym c.is_plain.ensures ∙ c.if-is_plain.false)) c.put_digits.ensures
