-- Document 02, item 6, "the fifteen IUPAC nucleotide letters, U left out: each is a set of bases out of A, C, G, T". A set is held as four bits: bit 0 is A, bit 1 C,
-- bit 2 G and bit 3 T.
use Rattle.std.specs.Prelude.{ℕ, ◌+◌, ◌-◌, ◌*◌, ◌^◌, Bool, ◌&&◌, ◌||◌, not, cond, List, [], ◌∷◌, eqb}
use Rattle.bits.specs.Bits.{bit, has}
use Rattle.words.specs.Range.{every, sum}

-- the sets of one base
abbrev pub only_a : ℕ
only_a = 1

abbrev pub only_c : ℕ
only_c = 2

abbrev pub only_g : ℕ
only_g = 4

abbrev pub only_t : ℕ
only_t = 8

-- the letters and their sets: A, C, G, T; R A or G, Y C or T, S C or G, W A or T, K G or T, M A or C; B all but A, D all but C, H all but G, V all but T; N all
abbrev pub code : List (ℕ × ℕ)
code =
    (65, only_a) ∷ (67, only_c) ∷ (71, only_g) ∷ (84, only_t)
    ∷ (82, only_a + only_g) ∷ (89, only_c + only_t) ∷ (83, only_c + only_g) ∷ (87, only_a + only_t) ∷ (75, only_g + only_t) ∷ (77, only_a + only_c)
    ∷ (66, only_c + only_g + only_t) ∷ (68, only_a + only_g + only_t) ∷ (72, only_a + only_c + only_t) ∷ (86, only_a + only_c + only_g)
    ∷ (78, only_a + only_c + only_g + only_t) ∷ []

-- the set beside a letter in such a list; the empty set, 0, if the letter is not there
unfoldable pub set_in : List (ℕ × ℕ) → ℕ → ℕ
set_in [] b = 0
set_in (e ∷ l) b = cond (eqb b e.0) e.1 (set_in l b)

-- the letter beside a set; 0 if the set is not there
unfoldable pub letter_in : List (ℕ × ℕ) → ℕ → ℕ
letter_in [] s = 0
letter_in (e ∷ l) s = cond (eqb s e.1) e.0 (letter_in l s)

-- the set of bases that a byte stands for; the empty set, which no letter has, if it is no letter of the code
unfoldable pub set_of : ℕ → ℕ
set_of b = set_in code b

-- the letter that stands for a set
unfoldable pub letter_for : ℕ → ℕ
letter_for s = letter_in code s

-- the set r lies inside the set p: each base of r is one of p
unfoldable pub lies : ℕ → ℕ → Bool
lies r p = every (λ k. not (has r k) || has p k) 4 0

-- a read letter of the set r matches a primer letter of the set p: it is a letter of the code, and its set lies inside
unfoldable pub matches : ℕ → ℕ → Bool
matches r p = not (eqb r 0) && lies r p

-- the complement of each base of a set: of bit k it is bit 3 - k, so that A and T change places, and C and G
unfoldable pub complement_of : ℕ → ℕ
complement_of s = sum (λ k. bit s (3 - k) * 2 ^ k) 4 0
