-- Document 02, item 2, over the contracts of the calls: nothing that is listed, claimed with a yes or shown rests on an N. Assumes nothing.
use Prim.Native.Nat.{ℕ, ◌*◌, ◌<◌}
use mathlib.Core.Path.{◌≡◌}
use mathlib.Core.Logic.{◌≢◌}
use mathlib.Core.List.{List}
use lib.ListN.{length, get_or}
use Rattle.words.specs.Rows.{rows}
use Rattle.words.specs.Reads.{unread}
use Rattle.words.specs.Lists.{line_of, line_size, lines, line_count, in_mode}
use Rattle.words.specs.Answers.{success, refusal, counted_says}
use Rattle.words_claims.specs.Calls.{claimed_says}
use Rattle.words.proofs.Rows.{Has}
use Rattle.words.proofs.Lists.{lines_exactly}
use Rattle.words.proofs.Afterwards.{front}
use Rattle.words.proofs.Unread.{Read, repeat_read}
use Rattle.words_claims.proofs.Motifs.{motif_read}
use Rattle.call_lists.proofs.list.Reads as list-call
use Rattle.call_claims.proofs.claim.Reads as claim-call
use Rattle.call_claims.proofs.motif.Reads as motif-call
use Rattle.lister.proofs.Demands.{every_call_is_answered}
use Rattle.lister.proofs.Claims.{yes_exactly_for_a_repeat}

-- where the list call succeeds, not one of the p·c bytes of a line (i, p, c) is an N, in either mode
pub no_line_rests_on_an_unread_base : (κs : _) (a : _) (r : _) (e : _) → list-call.Learnt κs a r e → (counted_says r).number ≡ 0
    → (made : List ℕ) × (e.1.1.0.now ≡ front made a.1.1.0.now) × (counted_says r ≡ success (rows line_size made))
    × ((i p c : ℕ) → Has line_size made (line_of i p c) → Read a.0.now (p * c) i)
unfolding success refusal line_count
no_line_rests_on_an_unread_base κs a r e h ok =
    let x = a.0.now in
    let test = in_mode x a.1.0 in
    let B = (every_call_is_answered.list κs a).1 r e h in
    let g = B.gives 0 ((B.exactly 0).0 ok) in
    (lines x test, g.1, g.0, λ i p c has. repeat_read x i p c ((lines_exactly x test i p c).0 has).0)

-- where the claim call says yes, not one of the bytes that it claims is an N
pub no_claim_rests_on_an_unread_base : (κs : _) (a : _) (r : _) (e : _) → claim-call.Learnt κs a r e → claimed_says r ≡ success 1
    → Read a.0.now (a.1.1.0 * a.1.1.1.0) a.1.0
no_claim_rests_on_an_unread_base κs a r e h said = repeat_read _ _ _ _ ((yes_exactly_for_a_repeat κs a r e h).0 said).1

-- the part of the read that the motif call hands back has no N
pub no_motif_shows_an_unread_base : (κs : _) (a : _) (r : _) (e : _) → motif-call.Learnt κs a r e → (k : ℕ) → k < length r.now → get_or r.now k 0 ≢ unread
no_motif_shows_an_unread_base κs a r e h = rw h.0 (motif_read a.0.now a.1.0 a.1.1.0 a.1.1.1.0)
