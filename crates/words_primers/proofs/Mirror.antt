-- The other strand: a primer sits at a place of a read exactly if its reverse complement sits at the mirrored place of the reverse complement of the read. It holds of any read:
-- a letter outside the code turns into one outside the code, and lets in and is let in nowhere on either strand. Assumes nothing.
use Prim.Native.Nat.{ℕ, ◌+◌, ◌-◌, ◌≤◌, ◌<◌}
use mathlib.Core.Path.{◌≡◌, sym, ap, ap₂, ◌∙◌}
use mathlib.Core.Bool.{true}
use mathlib.Core.List.{List}
use native.Mathlib.Omega.{arith}
use lib.ListN.{length, get_or}
use Rattle.words.specs.Range.{every}
use Rattle.words.specs.Reads.{at}
use Rattle.words.proofs.Tests.{same_test}
use Rattle.words.proofs.Ranges.{every-at, every_of}
use Rattle.words_primers.specs.Bases.{set_of, matches}
use Rattle.words_primers.specs.Primers.{lets_in, sits, turned, reverse_complement}
use Rattle.words_primers.proofs.Letters.{set_small}
use Rattle.words_primers.proofs.Sets.{complement_matches}
use Rattle.words_primers.proofs.Turning.{turned_set, reverse-length, reverse-at}
use Rattle.words_primers.proofs.Places.{lets_in_is, sits-inside}

-- of m letters, those that stand at i on the one strand of n letters stand at j on the other: there are as many letters before the one place as behind the other
abbrev pub Mirrored : ℕ → ℕ → ℕ → ℕ → Type 0
Mirrored n m i j = (1 ≤ i) × (1 ≤ j) × (i + m + j ≡ n + 2)

turned-matches : (b c : ℕ) → matches (set_of (turned b)) (set_of (turned c)) ≡ matches (set_of b) (set_of c)
turned-matches b c = ap₂ matches (turned_set b) (turned_set c) ∙ complement_matches (set_of b) (set_of c) (set_small b) (set_small c)

-- letter k of those on the one strand is letter h on the other
across : (n m i j k h : ℕ) → Mirrored n m i j → k + h + 1 ≡ m → (j + h - 1 < n) × (n - 1 - (j + h - 1) ≡ i + k - 1)
across n m i j k h M e = (omega (arith, M.0, M.1, M.2), omega (arith, M.0, M.1, M.2))

module _ (x u : List ℕ) (i j : ℕ) (M : Mirrored (length x) (length u) i j) where
  abbrev y : List ℕ
  y = reverse_complement x

  abbrev v : List ℕ
  v = reverse_complement u

  lets_turned : (k h : ℕ) → k + h + 1 ≡ length u → lets_in y v j h ≡ lets_in x u i k
  unfolding at
  lets_turned k h e =
      let c = across (length x) (length u) i j k h M e in
      let d : length u - 1 - h ≡ k = omega arith in
      lets_in_is y v j h
      ∙ ap₂ (λ (a b : ℕ). matches (set_of a) (set_of b))
      (reverse-at x (j + h - 1) c.0 ∙ ap (λ (q : ℕ). turned (get_or x q 0)) c.1)
      (reverse-at u h (omega arith) ∙ ap (λ (q : ℕ). turned (get_or u q 0)) d)
      ∙ turned-matches (get_or x (i + k - 1) 0) (get_or u k 0)
      ∙ sym (lets_in_is x u i k)

  -- letter k is let in on the one strand, and the one across from it on the other
  all-turned : every (lets_in x u i) (length u) 0 ≡ every (lets_in y v j) (length v) 0
  all-turned =
      same_test _ _
      (λ t. every_of (lets_in y v j) (length v) 0 (λ h a b. there h (omega (arith, b, reverse-length u)) t))
      (λ t. every_of (lets_in x u i) (length u) 0 (λ k a b. here k (omega arith) t))
    where
      there : (h : ℕ) → h < length u → every (lets_in x u i) (length u) 0 ≡ true → lets_in y v j h ≡ true
      there h l t = let k : ℕ = length u - 1 - h in lets_turned k h (omega arith) ∙ every-at (lets_in x u i) (length u) 0 t k (omega arith) (omega arith)

      here : (k : ℕ) → k < length u → every (lets_in y v j) (length v) 0 ≡ true → lets_in x u i k ≡ true
      here k l t =
          let h : ℕ = length u - 1 - k in
          sym (lets_turned k h (omega arith)) ∙ every-at (lets_in y v j) (length v) 0 t h (omega arith) (omega (arith, reverse-length u))

  pub sits_mirrored : sits x u i ≡ sits y v j
  sits_mirrored =
      sits-inside x u i (omega (arith, M.1, M.2))
      ∙ all-turned
      ∙ sym (sits-inside y v j (omega (arith, M.0, M.2, reverse-length x, reverse-length u)))
