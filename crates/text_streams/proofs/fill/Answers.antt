-- `text_streams::fill` meets its contract: the bytes that the read call gave are all still to be taken.
use Rattle.std.proofs.Common.{ℕ, ap, pos, inl}
use Rattle.text_pipes.proofs.Accounts.{said_count}
use Rattle.text_streams.specs.Cuts.{filled}
use Rattle.text_streams.proofs.fill.Goals as goal

pub returns-in-Ok : goal.returns-in-Ok
returns-in-Ok c =
    inl
    (record {
      got = pos c.in-Ok.end;
      gave = c.in-Ok.ensures.asked;
      turn = ap (λ (n : ℕ). filled n c.args.len c.args.out) (said_count _ c.in-Ok.ensures.fits);
    })
