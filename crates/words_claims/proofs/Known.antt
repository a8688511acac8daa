-- Known claims, by computation from the definitions: each verdict at its edge and in its place in the order, and the part that is handed back. Assumes nothing.
use mathlib.Core.Path.{◌≡◌, refl}
use mathlib.Core.List.{List, [], ◌∷◌}
use Prim.Native.Nat.{ℕ}
use lib.ListN.{replicate}
use Rattle.words.specs.Range.{first, every, gather, cells}
use Rattle.words.specs.Reads.{at, letter_of, letter, stretch, same, alike}
use Rattle.words.specs.Repeats.{stands, writes, copies}
use Rattle.words.specs.Answers.{success, both, refusal, refused_says, says}
use Rattle.words.specs.Calls.{too_long}
use Rattle.words.proofs.Known.{A, C}
use Rattle.words_claims.specs.Claims.{outside, root, shorter, counted}
use Rattle.words_claims.specs.Calls.{verdict, verdict_says, claim_answer, shown_of, motif_length, motif_from, motif}

abbrev N : ℕ
N = 78

abbrev ACAC : List ℕ
ACAC = A ∷ C ∷ A ∷ C ∷ []

-- R11's read
abbrev ACACACAC : List ℕ
ACACACAC = A ∷ C ∷ A ∷ C ∷ A ∷ C ∷ A ∷ C ∷ []

abbrev ACNACA : List ℕ
ACNACA = A ∷ C ∷ N ∷ A ∷ C ∷ A ∷ []

-- a read of 1,001 bytes
abbrev long : List ℕ
long = replicate 1001 65

pub record Known : Type 0 where
  pub four : (claim_answer ACAC 1 2 2 ≡ success 1) × (claim_answer ACAC 1 2 1 ≡ both 2 2) × (claim_answer ACAC 1 4 1 ≡ both 3 2) × (claim_answer ACAC 1 2 3 ≡ success 4)
  pub once : (claim_answer ACAC 3 1 1 ≡ both 2 1) × (claim_answer ACAC 3 1 2 ≡ both 2 1) × (claim_answer (A ∷ []) 1 1 1 ≡ both 2 1)
  pub eleven : (claim_answer ACACACAC 1 2 4 ≡ success 1) × (claim_answer ACACACAC 1 4 2 ≡ both 3 2) × (claim_answer ACACACAC 1 2 3 ≡ both 2 4)
  pub least : (claim_answer (replicate 8 A) 1 8 1 ≡ both 3 1) × (claim_answer (replicate 8 A) 1 4 2 ≡ both 3 1) × (claim_answer (replicate 8 A) 3 6 1 ≡ both 3 1)
  pub orders : (claim_answer (A ∷ C ∷ A ∷ C ∷ A ∷ C ∷ []) 1 4 2 ≡ success 4) × (claim_answer (A ∷ C ∷ A ∷ C ∷ A ∷ C ∷ []) 1 4 1 ≡ both 3 2)
  pub zeros : (claim_answer ACAC 0 2 2 ≡ success 4) × (claim_answer ACAC 1 0 2 ≡ success 4) × (claim_answer ACAC 1 2 0 ≡ success 4) × (claim_answer [] 0 0 0 ≡ success 4) × (claim_answer [] 1 1 1 ≡ success 4)
  pub large : (claim_answer ACAC 4294967295 4294967295 4294967295 ≡ success 4) × (claim_answer ACAC 1 4294967295 4294967295 ≡ success 4) × (claim_answer ACAC 1 1 4294967295 ≡ success 4)
  pub unread : (claim_answer ACNACA 1 3 1 ≡ both 2 1) × (claim_answer ACNACA 1 3 2 ≡ both 2 1) × (claim_answer ACNACA 3 1 1 ≡ both 2 1) × (claim_answer (N ∷ N ∷ []) 1 2 1 ≡ both 2 1) × (claim_answer (N ∷ N ∷ []) 1 1 2 ≡ both 2 1)
  pub refused : (claim_answer long 1 1 1001 ≡ refusal 1 1001) × (claim_answer long 0 0 0 ≡ refusal 1 1001)
  pub motifs : (motif ACAC 1 2 2 ≡ A ∷ C ∷ []) × (motif ACAC 1 4 1 ≡ A ∷ C ∷ []) × (motif ACAC 1 2 1 ≡ []) × (motif ACAC 1 2 3 ≡ []) × (motif long 2 1 1000 ≡ [])
  pub places : (motif_from ACACACAC 4 2 2 ≡ 3) × (motif ACACACAC 4 4 1 ≡ C ∷ A ∷ []) × (motif_from ACACACAC 4 4 1 ≡ 3) × (motif_from ACACACAC 4 2 1 ≡ 0) × (motif_from long 2 1 1000 ≡ 0)

pub known : Known
unfolding first every gather cells at letter_of letter stretch same alike stands writes copies success both refusal refused_says says too_long outside root shorter counted verdict verdict_says claim_answer shown_of motif_length motif_from motif
known =
    record {
      four = (refl, refl, refl, refl);
      once = (refl, refl, refl);
      eleven = (refl, refl, refl);
      least = (refl, refl, refl);
      orders = (refl, refl);
      zeros = (refl, refl, refl, refl, refl);
      large = (refl, refl, refl);
      unread = (refl, refl, refl, refl, refl);
      refused = (refl, refl);
      motifs = (refl, refl, refl, refl, refl);
      places = (refl, refl, refl, refl, refl);
    }
