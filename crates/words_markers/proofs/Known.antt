-- Known scores and parts, by computation from the definitions: each refusal in its place in the order, repeats at the edges of the primers, and the lines of a house list. Assumes nothing.
use Prim.Native.Nat.{ℕ}
use mathlib.Core.Path.{◌≡◌, refl}
use mathlib.Core.List.{List, [], ◌∷◌}
use lib.ListN.{replicate}
use lib.IntN.{pos, negsuc}
use Rattle.bits.specs.Bits.{bit, has}
use Rattle.std.specs.Prelude.{Some, None}
use Rattle.words.specs.Range.{first, every, sum, gather, cells, passing}
use Rattle.words.specs.Reads.{at, letter_of, letter, fits as fits_in, stretch, same, alike}
use Rattle.words.specs.Repeats.{stands, writes, primitive, repeats, leads, copies}
use Rattle.words.specs.Logs.{within}
use Rattle.words.specs.Answers.{success, refusal, refused_says}
use Rattle.words.specs.Calls.{too_long}
use Rattle.words.proofs.Known.{A, C}
use Rattle.words_primers.specs.Bases.{set_in, set_of, lies, matches}
use Rattle.words_primers.specs.Primers.{foreign, first_foreign, lets_in, sits, places}
use Rattle.words_markers.specs.Fits.{has_motif, between, fits, fitting, fittings}
use Rattle.words_markers.specs.Houses.{breaks, line_end, line_start, has_line, house_line, house_has}
use Rattle.words_markers.specs.Sites.{none, several, only, seat, behind, seated, seats, only_one, site_in, site}
use Rattle.words_markers.specs.Calls.{Score, score_of, score_at, score_answer, shown_for, shown}
use Rattle.words_markers.specs.declared.Shown.{Shown}

abbrev G : ℕ
G = 71

abbrev T : ℕ
T = 84

abbrev N : ℕ
N = 78

abbrev newline : ℕ
newline = 10

-- a read with Ac three times from behind its left primer GTT up to its right one TGG, and motifs
abbrev x : List ℕ
x = G ∷ T ∷ T ∷ A ∷ C ∷ A ∷ C ∷ A ∷ C ∷ T ∷ G ∷ G ∷ []

abbrev GTT : List ℕ
GTT = G ∷ T ∷ T ∷ []

abbrev TGG : List ℕ
TGG = T ∷ G ∷ G ∷ []

abbrev Ac : List ℕ
Ac = A ∷ C ∷ []

abbrev CA : List ℕ
CA = C ∷ A ∷ []

-- why a read is not scored
abbrev refused : ℕ → ℕ → Score
refused k v = record { answer = refusal k v; difference = pos 0 }

pub record Known : Type 0 where
  pub scored : (score_answer x GTT TGG Ac 1 ≡ record { answer = success 3; difference = pos 2 }) × (score_answer x GTT TGG Ac 5 ≡ record { answer = success 3; difference = negsuc 1 })
  pub motifs : (score_answer x GTT TGG [] 0 ≡ refused 13 0) × (score_answer x GTT TGG (A ∷ C ∷ A ∷ C ∷ []) 0 ≡ refused 13 0) × (score_answer x GTT TGG (A ∷ N ∷ []) 0 ≡ refused 13 0)
  -- one byte inside the left primer, the right one; leading in the read, not between the primers
  pub edges : (score_answer x (G ∷ T ∷ T ∷ A ∷ []) TGG Ac 0 ≡ refused 13 0) × (score_answer x GTT (C ∷ T ∷ G ∷ G ∷ []) Ac 0 ≡ refused 13 0) × (score_answer x (G ∷ T ∷ T ∷ A ∷ []) TGG CA 2 ≡ record { answer = success 2; difference = pos 0 })
  pub leading : (score_answer (G ∷ A ∷ C ∷ A ∷ C ∷ A ∷ C ∷ T ∷ []) (G ∷ A ∷ []) (T ∷ []) CA 2 ≡ record { answer = success 2; difference = pos 0 }) × (score_answer (G ∷ A ∷ C ∷ A ∷ C ∷ A ∷ C ∷ T ∷ []) (G ∷ A ∷ []) (T ∷ []) Ac 2 ≡ refused 13 0)
  pub more : score_answer (G ∷ A ∷ A ∷ C ∷ A ∷ A ∷ T ∷ []) (G ∷ []) (T ∷ []) (A ∷ []) 0 ≡ refused 14 0
  -- each for the left primer first, and the smaller number before that
  pub lengths : (score_answer x [] (replicate 61 A) Ac 0 ≡ refused 8 0) × (score_answer x (N ∷ 85 ∷ []) [] Ac 0 ≡ refused 8 0) × (score_answer x (N ∷ 85 ∷ []) (85 ∷ []) Ac 0 ≡ refused 9 1) × (score_answer x (A ∷ A ∷ []) (85 ∷ []) Ac 0 ≡ refused 9 0)
  pub seats_told : (score_answer x (A ∷ A ∷ []) Ac Ac 0 ≡ refused 10 1) × (score_answer x Ac (A ∷ A ∷ []) Ac 0 ≡ refused 10 2) × (score_answer x Ac Ac Ac 0 ≡ refused 11 1) × (score_answer x TGG Ac Ac 0 ≡ refused 11 2)
  pub orders : (score_answer x TGG GTT Ac 0 ≡ refused 12 0) × (score_answer x GTT GTT Ac 0 ≡ refused 12 0) × (score_answer x (G ∷ T ∷ T ∷ A ∷ []) (T ∷ A ∷ []) Ac 0 ≡ refused 12 0) × (score_answer x (G ∷ T ∷ []) (T ∷ A ∷ []) Ac 0 ≡ refused 13 0)
  pub long : score_answer (replicate 1001 A) [] (85 ∷ []) [] 0 ≡ refused 1 1001
  pub house : (shown x (C ∷ A ∷ newline ∷ A ∷ C ∷ []) 1 GTT TGG Ac ≡ Some (Shown.House 3)) × (shown x (C ∷ A ∷ newline ∷ A ∷ C ∷ newline ∷ []) 1 GTT TGG Ac ≡ Some (Shown.House 3)) × (shown x (newline ∷ A ∷ C ∷ newline ∷ []) 1 GTT TGG Ac ≡ Some (Shown.House 1))
  pub other : (shown x (C ∷ A ∷ newline ∷ A ∷ C ∷ []) 0 GTT TGG Ac ≡ Some (Shown.Read 3)) × (shown x (C ∷ A ∷ newline ∷ A ∷ C ∷ []) 2 GTT TGG Ac ≡ Some (Shown.Read 3)) × (shown x (A ∷ C ∷ 13 ∷ newline ∷ []) 0 GTT TGG Ac ≡ Some (Shown.Read 3)) × (shown x [] 0 GTT TGG Ac ≡ Some (Shown.Read 3))
  pub nothing : (shown x Ac 0 TGG GTT Ac ≡ None) × (shown x [] 0 GTT TGG [] ≡ None)

pub known : Known
unfolding bit has first every sum gather cells passing at letter_of letter fits_in stretch same alike stands writes primitive repeats leads copies within success refusal too_long set_in set_of lies matches foreign first_foreign lets_in sits places has_motif between fits fitting fittings breaks line_end line_start has_line house_line house_has none several only seat behind seated seats only_one site_in site refused_says score_of score_at score_answer shown_for shown
known =
    record {
      scored = (refl, refl);
      motifs = (refl, refl, refl);
      edges = (refl, refl, refl);
      leading = (refl, refl);
      more = refl;
      lengths = (refl, refl, refl, refl);
      seats_told = (refl, refl, refl, refl);
      orders = (refl, refl, refl, refl);
      long = refl;
      house = (refl, refl, refl);
      other = (refl, refl, refl, refl);
      nothing = (refl, refl);
    }
