-- An array of 1,000 numbers as places from 1: `at` of words reads a place.
use Rattle.std.specs.Prelude.{ℕ, ◌-◌, cond, List, set, take, ltb}

-- v stored at place i
unfoldable pub put : List ℕ → ℕ → ℕ → List ℕ
put a i v = set a (i - 1) v

-- the numbers at the places 1 to n
unfoldable pub view : ℕ → List ℕ → List ℕ
view n a = take n a

-- v stored at place j, if j is a place: 0 stands for none
unfoldable pub put_some : List ℕ → ℕ → ℕ → List ℕ
put_some a j v = cond (ltb 0 j) (put a j v) a
