-- `next_letter` meets its contract: the law `joined`, once what the loads, the stores and `file` ensure is put in. Assumes nothing.
use mathlib.Core.Path.{refl, ap}
use Prim.Native.Nat.{ℕ, ◌+◌}
use native.Mathlib.Omega.{arith}
use Rattle.step3_lists.proofs.Filing.{lists_heads}
use Rattle.step3_lists.proofs.Changing.{heads_put}
use Rattle.step4_fresh.proofs.Joining.{joined}
use Rattle.step4_fresh.proofs.next_letter.Goals as goal

pub file-requires : goal.file-requires
file-requires c =
    let s = c.requires in (
      rw (c.store-4.ensures, c.store-3.ensures, c.store-2.ensures, c.store.ensures)
          (heads_put _ _ _ _ refl (heads_put _ _ _ _ refl (heads_put _ _ _ _ refl (heads_put _ _ _ _ refl (lists_heads s.1))))),
      s.2,
      omega (arith, s.3, s.4),
      omega (arith, s.3),
      omega (arith, s.4),
    )

pub returns : goal.returns
returns c =
    let p = c.requires in
    rw (← c.load-s.ensures, c.file.ensures, c.store-4.ensures, c.store-3.ensures, c.store-2.ensures, c.store.ensures)
    (joined _ p.0 _ _ _ _ _ p.1 p.4 p.3 p.2 p.8 (ap (λ (v : ℕ). v + 1) c.load-z.ensures) refl)
