-- Known places and reverse complements, and the calls at their edges, by computation from the definitions; the expected values are those of a separate program.
-- Assumes nothing.
use Prim.Native.Nat.{ℕ}
use mathlib.Core.Path.{◌≡◌, refl}
use mathlib.Core.List.{List, [], ◌∷◌, ◌++◌}
use lib.ListN.{replicate}
use Rattle.bits.specs.Bits.{bit, has}
use Rattle.words.specs.Range.{first, every, sum, gather, cells, passing}
use Rattle.words.specs.Reads.{at, fits}
use Rattle.words.specs.Logs.{within}
use Rattle.words.specs.Answers.{success, refusal}
use Rattle.words.specs.Calls.{refuse, too_long, afterwards, list_afterwards}
use Rattle.words_primers.specs.Bases.{set_in, letter_in, set_of, letter_for, lies, matches, complement_of}
use Rattle.words_primers.specs.Primers.{foreign, first_foreign, lets_in, sits, places, turned, reverse_complement}
use Rattle.words_primers.specs.Calls.{judged, find_answer, find_leaves, turn_answer, turn_leaves}

abbrev ACGTACGT : List ℕ
ACGTACGT = 65 ∷ 67 ∷ 71 ∷ 84 ∷ 65 ∷ 67 ∷ 71 ∷ 84 ∷ []

-- Ac, and the two-base letters over it
abbrev Ac : List ℕ
Ac = 65 ∷ 67 ∷ []

abbrev RY : List ℕ
RY = 82 ∷ 89 ∷ []

abbrev N : List ℕ
N = 78 ∷ []

-- A, U, a space, n, byte 0, T: only the first and the last are letters of the code
abbrev strange : List ℕ
strange = 65 ∷ 85 ∷ 32 ∷ 110 ∷ 0 ∷ 84 ∷ []

-- the fifteen letters by name: A B C D G H K M N R S T V W Y
abbrev fifteen : List ℕ
fifteen = 65 ∷ 66 ∷ 67 ∷ 68 ∷ 71 ∷ 72 ∷ 75 ∷ 77 ∷ 78 ∷ 82 ∷ 83 ∷ 84 ∷ 86 ∷ 87 ∷ 89 ∷ []

-- a primer of n letters A, and one with a foreign letter behind them
abbrev As : ℕ → List ℕ
As n = replicate n 65

abbrev foreign_after : ℕ → List ℕ
foreign_after n = As n ++ (85 ∷ [])

-- a slice of n numbers as the caller lends it
abbrev lent : ℕ → List ℕ
lent n = replicate n 7

pub record Known : Type 0 where
  pub twice : (places ACGTACGT Ac ≡ 1 ∷ 5 ∷ []) × (places ACGTACGT RY ≡ 1 ∷ 3 ∷ 5 ∷ 7 ∷ [])
  pub overlapping : places (As 4) (As 2) ≡ 1 ∷ 2 ∷ 3 ∷ []
  pub whole : (places Ac Ac ≡ 1 ∷ []) × (places Ac (As 3) ≡ []) × (places [] N ≡ [])
  pub outside : places strange N ≡ 1 ∷ 6 ∷ []
  pub unread : (places (65 ∷ 78 ∷ []) N ≡ 1 ∷ 2 ∷ []) × (places (65 ∷ 78 ∷ []) (65 ∷ []) ≡ 1 ∷ []) × (places (65 ∷ 78 ∷ []) (66 ∷ []) ≡ [])
  pub contained : (places fifteen (66 ∷ []) ≡ 2 ∷ 3 ∷ 5 ∷ 7 ∷ 11 ∷ 12 ∷ 15 ∷ []) × (places fifteen (68 ∷ []) ≡ 1 ∷ 4 ∷ 5 ∷ 7 ∷ 10 ∷ 12 ∷ 14 ∷ [])
  pub two : (places fifteen (75 ∷ []) ≡ 5 ∷ 7 ∷ 12 ∷ []) × (places fifteen (77 ∷ []) ≡ 1 ∷ 3 ∷ 8 ∷ []) × (places fifteen (82 ∷ []) ≡ 1 ∷ 5 ∷ 10 ∷ [])
  pub two_more : (places fifteen (83 ∷ []) ≡ 3 ∷ 5 ∷ 11 ∷ []) × (places fifteen (87 ∷ []) ≡ 1 ∷ 12 ∷ 14 ∷ []) × (places fifteen (89 ∷ []) ≡ 3 ∷ 12 ∷ 15 ∷ [])
  pub three : (places fifteen (72 ∷ []) ≡ 1 ∷ 3 ∷ 6 ∷ 8 ∷ 12 ∷ 14 ∷ 15 ∷ []) × (places fifteen (86 ∷ []) ≡ 1 ∷ 3 ∷ 5 ∷ 8 ∷ 10 ∷ 11 ∷ 13 ∷ [])
  pub reversed : reverse_complement fifteen ≡ 82 ∷ 87 ∷ 66 ∷ 65 ∷ 83 ∷ 89 ∷ 78 ∷ 75 ∷ 77 ∷ 68 ∷ 67 ∷ 72 ∷ 71 ∷ 86 ∷ 84 ∷ []
  pub own : (reverse_complement (65 ∷ 67 ∷ 71 ∷ 84 ∷ []) ≡ 65 ∷ 67 ∷ 71 ∷ 84 ∷ []) × (reverse_complement (65 ∷ 65 ∷ 67 ∷ []) ≡ 71 ∷ 84 ∷ 84 ∷ [])
  pub found : (find_answer ACGTACGT Ac (lent 3) ≡ success 2) × (find_leaves ACGTACGT Ac (lent 3) ≡ 1 ∷ 5 ∷ 7 ∷ [])
  pub full : (find_answer ACGTACGT Ac (lent 1) ≡ refusal 3 2) × (find_leaves ACGTACGT Ac (lent 1) ≡ 0 ∷ [])
  pub nowhere : (find_answer Ac (As 60) [] ≡ success 0) × (find_answer [] N [] ≡ success 0)
  pub lengths : (find_answer Ac [] [] ≡ refusal 8 0) × (find_answer Ac (As 61) [] ≡ refusal 8 61) × (find_answer Ac (foreign_after 60) [] ≡ refusal 8 61)
  pub foreigners : (find_answer Ac (foreign_after 59) [] ≡ refusal 9 59) × (find_answer Ac (65 ∷ 97 ∷ 85 ∷ []) [] ≡ refusal 9 1) × (find_leaves (As 2) (65 ∷ 85 ∷ []) (lent 1) ≡ lent 1)
  pub long : (find_answer (replicate 1001 65) [] [] ≡ refusal 1 1001) × (find_leaves (replicate 1001 65) [] (lent 2) ≡ lent 2)
  pub turns : (turn_answer (65 ∷ 67 ∷ 78 ∷ []) (lent 4) ≡ success 3) × (turn_leaves (65 ∷ 67 ∷ 78 ∷ []) (lent 4) ≡ 78 ∷ 71 ∷ 84 ∷ 7 ∷ [])
  pub no_room : (turn_answer (65 ∷ 67 ∷ 78 ∷ []) (lent 2) ≡ refusal 4 3) × (turn_leaves (65 ∷ 67 ∷ 78 ∷ []) (lent 2) ≡ lent 2)
  pub no_primer : (turn_answer [] [] ≡ refusal 8 0) × (turn_answer (As 61) [] ≡ refusal 8 61) × (turn_answer (65 ∷ 67 ∷ 110 ∷ []) [] ≡ refusal 9 2)

pub known : Known
unfolding bit has first every sum gather cells passing at fits within success refusal refuse too_long afterwards list_afterwards set_in letter_in set_of letter_for lies matches complement_of foreign first_foreign lets_in sits places turned reverse_complement judged find_answer find_leaves turn_answer turn_leaves
known =
    record {
      twice = (refl, refl);
      overlapping = refl;
      whole = (refl, refl, refl);
      outside = refl;
      unread = (refl, refl, refl);
      contained = (refl, refl);
      two = (refl, refl, refl);
      two_more = (refl, refl, refl);
      three = (refl, refl);
      reversed = refl;
      own = (refl, refl);
      found = (refl, refl);
      full = (refl, refl);
      nowhere = (refl, refl);
      lengths = (refl, refl, refl);
      foreigners = (refl, refl, refl);
      long = (refl, refl);
      turns = (refl, refl);
      no_room = (refl, refl);
      no_primer = (refl, refl, refl);
    }
