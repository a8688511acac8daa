-- Document 02, item 4, over the contracts of the calls: the claim check tells the truth that it found, and the motif call goes by it. Each time a holds the arguments of a call, r
-- is what it returns, and e holds the arguments afterwards; `Says` says of each answer what it says of the claim. Assumes nothing.
use Prim.Native.Nat.{ℕ, suc, ◌+◌, ◌/◌, ◌≤◌, ◌<◌}
use mathlib.Core.Path.{◌≡◌, refl, sym, ap, ◌∙◌}
use mathlib.Core.Logic.{◌⊎◌, inl, inr, ◌↔◌}
use mathlib.Core.Bool.{true, false}
use mathlib.Core.List.{List}
use native.Mathlib.Omega.{arith}
use lib.ListN.{length}
use Rattle.words.specs.Reads.{most, at, unread, stretch}
use Rattle.words.specs.Repeats.{stands, repeats, written}
use Rattle.words.specs.Rows.{rows}
use Rattle.words.specs.Lists.{line_of, line_size}
use Rattle.words.specs.Answers.{success, says, counted_says}
use Rattle.words.proofs.Rows.{Has}
use Rattle.words.proofs.Afterwards.{front}
use Rattle.words.proofs.Claims.{PrimitiveString}
use Rattle.words_claims.specs.Claims.{root}
use Rattle.words_claims.specs.Calls.{verdict, verdict_says, claimed_says}
use Rattle.std.specs.Prelude.{Result, Ok, Err}
use Rattle.words.specs.declared.Refusal.{Refusal}
use Rattle.words_claims.specs.declared.Verdict.{Verdict}
use Rattle.words_claims.proofs.Said.{claimed_once, said_verdict}
use Rattle.words_claims.proofs.Verdicts.{Inside, inside-fits}
use Rattle.words_claims.proofs.Truth.{Says, told_if_so, the_only_root, unread_told}
use Rattle.words_claims.proofs.Copies.{unread-root}
use Rattle.call_claims.proofs.claim.Reads as claim-call
use Rattle.call_claims.proofs.motif.Reads as motif-call
use Rattle.call_lists.proofs.list.Reads as list-call
use Rattle.lister.proofs.Handed.{Hands, motif_of}
use Rattle.lister.proofs.Demands.{every_call_is_answered, list_is_crochemores}

-- an answer is given if and only if what it says of the claim is so; so exactly one is true of any claim, and the verdicts leave none over
pub claim_tells_the_truth : (κs : _) (a : _) (r : _) (e : _) → claim-call.Learnt κs a r e → (v : Result Verdict Refusal) → (r ≡ v) ↔ Says a.0.now a.1.0 a.1.1.0 a.1.1.1.0 v
claim_tells_the_truth κs a r e h v =
    let q : r ≡ verdict a.0.now a.1.0 a.1.1.0 a.1.1.1.0 = said_verdict _ _ _ _ r h in
    (λ g. (told_if_so _ _ _ _ v).0 (sym q ∙ g), λ s. q ∙ (told_if_so _ _ _ _ v).1 s)

-- yes if and only if the claim is a repeat of document 01, of a read that is not too long
pub yes_exactly_for_a_repeat : (κs : _) (a : _) (r : _) (e : _) → claim-call.Learnt κs a r e
    → (claimed_says r ≡ success 1) ↔ ((length a.0.now ≤ most) × (repeats a.0.now a.1.0 a.1.1.0 a.1.1.1.0 ≡ true))
unfolding says verdict_says
yes_exactly_for_a_repeat κs a r e h = (
  λ said. (claim_tells_the_truth κs a r e h (Ok Verdict.Yes)).0 (claimed_once r (Ok Verdict.Yes) said),
  λ s. ap claimed_says ((claim_tells_the_truth κs a r e h (Ok Verdict.Yes)).1 s),
)

-- so it is yes if and only if the full list has that line, where the list call succeeds on the read
pub yes_exactly_for_a_line : (κs : _) (a : _) (r : _) (e : _) → list-call.Learnt κs a r e → (counted_says r).number ≡ 0 → a.1.0 ≡ 0 → (ls : _) (b : _) (q : _) (f : _) → claim-call.Learnt ls b q f → b.0.now ≡ a.0.now
    → (made : List ℕ) × (e.1.1.0.now ≡ front made a.1.1.0.now) × (counted_says r ≡ success (rows line_size made)) × ((claimed_says q ≡ success 1) ↔ Has line_size made (line_of b.1.0 b.1.1.0 b.1.1.1.0))
yes_exactly_for_a_line κs a r e h ok mode ls b q f g same =
    let L = list_is_crochemores κs a r e h ok in
    let line = L.3.full mode b.1.0 b.1.1.0 b.1.1.1.0 in
    let yes = rw same at (yes_exactly_for_a_repeat ls b q f g) in
    let short = ((((every_call_is_answered.list κs a).1 r e h).exactly 0).0 ok).0 in
    (L.0, L.1, L.2, (λ t. line.1 (yes.0 t).1, λ l. yes.1 (short, line.0 l)))

-- the root that is named is shorter than the motif, writes it, is primitive, and is the only primitive string that, written several times, is the motif
pub the_root_named_is_the_only : (κs : _) (a : _) (r : _) (e : _) → claim-call.Learnt κs a r e → (d : ℕ) → r ≡ Ok (Verdict.Shorter d)
    → let x = a.0.now in let i = a.1.0 in let p = a.1.1.0 in
    (1 ≤ d) × (d < p) × (stretch x p i ≡ written (p / d) (stretch x d i)) × PrimitiveString (stretch x d i)
    × ((u : List ℕ) (k : ℕ) → stretch x p i ≡ written k u → PrimitiveString u → u ≡ stretch x d i)
the_root_named_is_the_only κs a r e h d q =
    let s = (claim_tells_the_truth κs a r e h (Ok (Verdict.Shorter d))).0 q in
    (s.2, s.3, s.4, s.5, the_only_root _ _ _ _ d s)

-- the count that is named is the number of copies, and never 0: so often the motif stands in a row, and not once more
pub the_count_named_is_of_the_copies : (κs : _) (a : _) (r : _) (e : _) → claim-call.Learnt κs a r e → (c : ℕ) → r ≡ Ok (Verdict.Copies c)
    → let x = a.0.now in let i = a.1.0 in let p = a.1.1.0 in
    (1 ≤ c) × (stands x i p c ≡ true) × (stands x i p (suc c) ≡ false)
the_count_named_is_of_the_copies κs a r e h c q = let s = (claim_tells_the_truth κs a r e h (Ok (Verdict.Copies c))).0 q in (s.3, s.4, s.5)

-- the four verdicts leave none over: each claim on a read that is not too long gets one of them
pub four_verdicts_leave_none_over : (κs : _) (a : _) (r : _) (e : _) → claim-call.Learnt κs a r e → length a.0.now ≤ most
    → (r ≡ Ok Verdict.Yes) ⊎ (((c : ℕ) × (r ≡ Ok (Verdict.Copies c))) ⊎ (((d : ℕ) × (r ≡ Ok (Verdict.Shorter d))) ⊎ (r ≡ Ok Verdict.Outside)))
four_verdicts_leave_none_over κs a r e h m = go r ((claim_tells_the_truth κs a r e h r).0 refl)
  where
    go : (v : Result Verdict Refusal) → Says a.0.now a.1.0 a.1.1.0 a.1.1.1.0 v
        → (v ≡ Ok Verdict.Yes) ⊎ (((c : ℕ) × (v ≡ Ok (Verdict.Copies c))) ⊎ (((d : ℕ) × (v ≡ Ok (Verdict.Shorter d))) ⊎ (v ≡ Ok Verdict.Outside)))
    go (Ok Verdict.Yes) s = inl refl
    go (Ok (Verdict.Copies c)) s = inr (inl (c, refl))
    go (Ok (Verdict.Shorter d)) s = inr (inr (inl (d, refl)))
    go (Ok Verdict.Outside) s = inr (inr (inr refl))
    go (Err r) s = absurd (omega (arith, s.0))

-- a motif that holds an N, and lies in the read, stands there once, and is its own root
pub an_unread_motif_stands_once : (κs : _) (a : _) (r : _) (e : _) → claim-call.Learnt κs a r e → length a.0.now ≤ most → Inside a.0.now a.1.0 a.1.1.0 a.1.1.1.0
    → (k : ℕ) → k < a.1.1.0 → at a.0.now (a.1.0 + k) ≡ unread → (r ≡ Ok (Verdict.Copies 1)) × (root a.0.now a.1.0 a.1.1.0 ≡ a.1.1.0)
an_unread_motif_stands_once κs a r e h m n k l u = (
  said_verdict _ _ _ _ r h ∙ unread_told _ _ _ _ m n k l u,
  unread-root _ _ _ n.1 (inside-fits a.0.now a.1.0 a.1.1.0 a.1.1.1.0 n) k l u,
)

-- on the same read and numbers the motif call hands back what the answer of the claim call says: the motif, the root that it names at the claimed start, or nothing
pub motif_goes_by_the_claim : (κs : _) (a : _) (r : _) (e : _) → claim-call.Learnt κs a r e → (ls : _) (b : _) (m : _) (f : _) → motif-call.Learnt ls b m f
    → a.0.now ≡ b.0.now → a.1.0 ≡ b.1.0 → a.1.1.0 ≡ b.1.1.0 → a.1.1.1.0 ≡ b.1.1.1.0 → Hands b.0 b.1.0 b.1.1.0 r m
motif_goes_by_the_claim κs a r e h ls b m f g x i p c =
    motif_of b.0 b.1.0 b.1.1.0 b.1.1.1.0 m g.0 g.1 g.2 r (rw (x, i, p, c) at ((claim_tells_the_truth κs a r e h r).0 refl))
