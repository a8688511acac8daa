-- The text of the groups of one width, from their table t.
use Rattle.std.specs.Prelude.{ℕ, Bool, cond, List, [], ◌∷◌, ◌++◌, length, leb, eqb}
use Rattle.words.specs.Range.{count, gather}
use Rattle.words.specs.Reads.{at}
use Rattle.words.specs.Groups.{size}
use Rattle.text_puts.specs.Ascii.{ascii}
use Rattle.text_puts.specs.Numbers.{space, decimal, number_text}

-- the byte after a name
abbrev pub colon : ℕ
colon = 58

-- a number after a space
unfoldable pub spaced : ℕ → List ℕ
spaced n = (space ∷ []) ++ decimal n

-- the same, where a test says so
unfoldable pub shown : Bool → ℕ → List ℕ
shown test n = cond test (spaced n) []

-- position j, if it is in the group named s
unfoldable pub member_text : List ℕ → ℕ → ℕ → List ℕ
member_text t s j = shown (eqb (at t j) s) j

-- the positions of the group named s
unfoldable pub members_text : List ℕ → ℕ → List ℕ
members_text t s = gather (member_text t s) (length t) 1

-- a group of two or more on a line, by name; no line for another
unfoldable pub group_text : List ℕ → ℕ → List ℕ
group_text t s = cond (leb 2 (size t s)) (ascii "  group " ++ number_text s colon ++ members_text t s ++ ascii "\n") []

-- the groups of two or more, by name
unfoldable pub groups_text : List ℕ → List ℕ
groups_text t = gather (group_text t) (length t) 1

-- position j is alone in its group
unfoldable pub alone : List ℕ → ℕ → Bool
alone t j = eqb (size t (at t j)) 1

-- position j, if it is alone
unfoldable pub single_text : List ℕ → ℕ → List ℕ
single_text t j = shown (alone t j) j

-- the positions that are alone
unfoldable pub singles_text : List ℕ → List ℕ
singles_text t = gather (single_text t) (length t) 1

-- the positions alone in their group, on one line; no line where there is none
unfoldable pub alone_text : List ℕ → List ℕ
alone_text t = cond (leb 1 (count (alone t) (length t) 1)) (ascii "  alone:" ++ singles_text t ++ ascii "\n") []
