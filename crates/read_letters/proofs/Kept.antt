-- The last position of each letter, one position more at a time: what is kept for the next position's letter is the last that has it. Assumes nothing.
use Prim.Native.Nat.{ℕ, zero, suc, ◌+◌, ◌*◌, ◌/◌, ◌%◌, ◌≤◌, ◌<◌}
use mathlib.Core.Path.{◌≡◌, refl, sym, ap, ◌∙◌}
use mathlib.Core.Logic.{⊎_elim, by_cases, ◌≢◌}
use mathlib.Core.List.{List}
use native.Mathlib.Omega.{arith}
use native.Mathlib.Nat.{eq-or-lt_of_le}
use native.Mathlib.Decide.{ℕ_discrete}
use lib.ListN.{get_or, set, replicate, length-set, length-replicate}
use lib.Seq.{get_or-set_same, get_or-set_other}
use borrow.Author.Tests.{eq-eqb, ne_eqb}
use Rattle.words.specs.Reads.{at, unread, letter_of, letter}
use Rattle.words.proofs.Letters.{letter_is, letter_read, letter-unread, letters_tell}
use Rattle.std.specs.Prelude.{Some, None}
use Rattle.std.proofs.lemmas.Option.{none-some, same_Some}
use Rattle.read_letters.specs.Seen.{latest, seen_with, place_of, Latest, Seen}

-- an even letter is not kept, an odd one is kept at its byte
module _ (seen : List ℕ) (c : ℕ) where
  pub latest_even : c % 2 ≡ 0 → latest seen c ≡ 0
  unfolding latest
  latest_even e = rw (eq-eqb (c % 2) 0 e)

  pub latest_odd : (b : ℕ) → c / 2 ≡ b → c % 2 ≢ 0 → latest seen c ≡ get_or seen b 0
  unfolding latest
  latest_odd b half ne = rw (ne_eqb (c % 2) 0 ne, half)

  pub with_even : (i : ℕ) → c % 2 ≡ 0 → seen_with seen c i ≡ seen
  unfolding seen_with
  with_even i e = rw (eq-eqb (c % 2) 0 e)

  pub with_odd : (i b : ℕ) → c / 2 ≡ b → c % 2 ≢ 0 → seen_with seen c i ≡ set seen b i
  unfolding seen_with
  with_odd i b half ne = rw (ne_eqb (c % 2) 0 ne, half)

-- 0 is no position, and each other number is one
pub place_none : (j : ℕ) → j ≡ 0 → place_of j ≡ None
unfolding place_of
place_none j e = rw (eq-eqb j 0 e)

pub place_some : (j : ℕ) → j ≢ 0 → place_of j ≡ Some j
unfolding place_of
place_some j n = rw (ne_eqb j 0 n)

pub some_place : (j l : ℕ) → Some l ≡ place_of j → (1 ≤ l) × (l ≡ j)
some_place j l e =
    by_cases (ℕ_discrete j 0)
    (λ z. absurd (none-some l (sym (e ∙ place_none j z))))
    (λ n. let s = same_Some l j (e ∙ place_some j n) in (omega (arith, s, n), s))

pub no_place : (j : ℕ) → None ≡ place_of j → j ≡ 0
no_place j e = by_cases (ℕ_discrete j 0) (λ z. z) (λ n. absurd (none-some j (e ∙ place_some j n)))

-- an odd letter is that of its byte
pub odd_half : (b i c : ℕ) → c ≡ letter_of b i → c % 2 ≢ 0 → c / 2 ≡ b
odd_half b i c q ne = by_cases (ℕ_discrete b unread) (λ e. absurd (ne (omega (arith, letter-unread b i e)))) (λ n. omega (arith, letter_read b i n))

-- no position has been seen
zeros_at : (m k : ℕ) → get_or (replicate {A = ℕ} m 0) k 0 ≡ 0
zeros_at zero k = refl
zeros_at (suc m) zero = refl
zeros_at (suc m) (suc k) = zeros_at m k

pub seen_start : (x : List ℕ) → Seen x 0 (replicate 256 0)
seen_start x =
    record {
      long = length-replicate {A = ℕ} 256 0;
      last = λ b. rw (zeros_at 256 b) (record { high = omega arith; same = λ l. absurd (omega arith); free = λ k l m. absurd (omega arith) });
    }

latest_other : (x : List ℕ) (i c j : ℕ) → letter x (i + 1) ≢ c → Latest x i c j → Latest x (i + 1) c j
latest_other x i c j ne L =
    record {
      high = omega (arith, L.high);
      same = L.same;
      free = λ k l m e. ⊎_elim (λ (q : k ≡ i + 1). ne (sym (ap (letter x) q) ∙ e)) (λ h. L.free k l (omega arith) e) (eq-or-lt_of_le m);
    }

-- the next position has the byte b
module _ (x seen : List ℕ) (i b : ℕ) (has : at x (i + 1) ≡ b) (S : Seen x i seen) where
  here : letter x (i + 1) ≡ letter_of b (i + 1)
  here = letter_is x (i + 1) ∙ ap (λ (v : ℕ). letter_of v (i + 1)) has

  -- what is kept for its letter is the last position before it that has it
  seen_last : (l : ℕ) → l ≡ latest seen (letter_of b (i + 1)) → Latest x i (letter x (i + 1)) l
  seen_last l is =
      rw is
      (by_cases (ℕ_discrete b unread)
      (λ e.
      rw (latest_even seen (letter_of b (i + 1)) (omega (arith, letter-unread b (i + 1) e)))
      (record {
        high = omega arith;
        same = λ l. absurd (omega arith);
        free = λ k l m q. ⊎_elim (λ z. omega (arith, z, m)) (λ t. t.1 (t.0 ∙ has ∙ e)) (letters_tell x k (i + 1) q);
      }))
      (λ ne.
      let r = letter_read b (i + 1) ne in
      rw (latest_odd seen (letter_of b (i + 1)) b (omega (arith, r)) (λ z. omega (arith, z, r)), here, r) (S.last b)))

  -- and from then on it is that position
  seen_more : (seen' : List ℕ) → seen' ≡ seen_with seen (letter_of b (i + 1)) (i + 1) → b < 256 → Seen x (i + 1) seen'
  seen_more seen' is byte =
      rw is
      (by_cases (ℕ_discrete b unread)
      (λ e.
      let r = letter-unread b (i + 1) e in
      rw (with_even seen (letter_of b (i + 1)) (i + 1) (omega (arith, r)))
      (record { long = S.long; last = λ d. latest_other x i (2 * d + 1) (get_or seen d 0) (λ q. omega (arith, q, here, r)) (S.last d) }))
      (λ ne.
      let r = letter_read b (i + 1) ne in
      rw (with_odd seen (letter_of b (i + 1)) (i + 1) b (omega (arith, r)) (λ z. omega (arith, z, r)))
      (record {
        long = length-set seen b (i + 1) ∙ S.long;
        last = λ d. by_cases (ℕ_discrete d b)
            (λ q.
            rw (q, get_or-set_same seen b (i + 1) 0 (omega (arith, S.long)))
            (record { high = omega arith; same = λ l. here ∙ r; free = λ k l m. absurd (omega arith) }))
            (λ n. rw (get_or-set_other seen b d (i + 1) 0 n) (latest_other x i (2 * d + 1) (get_or seen d 0) (λ q. n (omega (arith, q, here, r))) (S.last d)));
      })))

  -- as `last_alike` promises both, where it finds a position and where it finds none
  pub seen_some : (l : ℕ) (seen' : List ℕ) → (Some l ≡ place_of (latest seen (letter_of b (i + 1)))) × (seen' ≡ seen_with seen (letter_of b (i + 1)) (i + 1)) → b < 256
      → (1 ≤ l) × Latest x i (letter x (i + 1)) l × Seen x (i + 1) seen'
  seen_some l seen' e byte = let s = some_place _ l e.0 in (s.0, seen_last l s.1, seen_more seen' e.1 byte)

  pub seen_none : (seen' : List ℕ) → (None ≡ place_of (latest seen (letter_of b (i + 1)))) × (seen' ≡ seen_with seen (letter_of b (i + 1)) (i + 1)) → b < 256
      → Latest x i (letter x (i + 1)) 0 × Seen x (i + 1) seen'
  seen_none seen' e byte = (seen_last 0 (sym (no_place _ e.0)), seen_more seen' e.1 byte)

-- the byte of the next position, as the code reads it
pub byte_is : (x : List ℕ) (i k : ℕ) → k ≡ i → at x (i + 1) ≡ get_or x k 0
unfolding at
byte_is x i k e = ap (λ (j : ℕ). get_or x j 0) (omega arith)
