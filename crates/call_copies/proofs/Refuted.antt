-- A test that cannot pass is false. Assumes nothing.
use mathlib.Core.Path.{◌≡◌, sym}
use mathlib.Core.Bool.{Bool, true, false}
use borrow.Author.Tests.{not-true}
use Rattle.words.proofs.Tests.{fails}

pub test_refuted : (b : Bool) → (b ≡ true → ⊥) → false ≡ b
test_refuted b h = sym (not-true b (fails b h))
