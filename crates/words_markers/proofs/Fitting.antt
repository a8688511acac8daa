-- The leading repeats that have a motif and lie between two positions: what the test says, that the motif gives the period and the start the copies, and that whether the motif
-- is primitive can be asked of the motif alone. Assumes nothing.
use Prim.Native.Nat.{ℕ, suc, ◌+◌, ◌-◌, ◌*◌, ◌≤◌, ◌<◌}
use mathlib.Core.Path.{◌≡◌, sym, ap, subst, ◌∙◌}
use mathlib.Core.Logic.{⊎_elim, ◌≢◌}
use mathlib.Core.Bool.{true, false}
use mathlib.Core.List.{List}
use native.Mathlib.Omega.{arith}
use native.Mathlib.Nat.{mul-le-mul_left}
use lib.ListN.{length, get_or, take, drop, length-take, length-drop}
use lib.Seq.{get_or-take, get_or-drop, ext_get_or}
use borrow.Author.Tests.{leb-true, le-leb, not-true}
use Rattle.words.specs.Reads.{at, unread, stretch, same}
use Rattle.words.specs.Repeats.{primitive, repeats, leads, copies}
use Rattle.words.proofs.Tests.{and_left, and_right, same_test, fails}
use Rattle.words.proofs.Letters.{letter_is, letter_read, letters_tell}
use Rattle.words.proofs.Stretches.{same_is, same_self, stretch-at}
use Rattle.words.proofs.Repeats.{repeat_is}
use Rattle.words.proofs.Copies.{copies_stand, repeat_copies}
use Rattle.words.proofs.Claims.{PrimitiveString, stretch-length, primitive_means}
use Rattle.words_markers.specs.Fits.{has_motif, between, fits, fitting}

module _ (x m : List ℕ) where
  pub has_motif_is : (i p : ℕ) → has_motif x m i p ≡ true → take p (drop (i - 1) x) ≡ m
  unfolding has_motif
  has_motif_is i p t = same_is (take p (drop (i - 1) x)) m t

  pub is_has_motif : (i p : ℕ) → take p (drop (i - 1) x) ≡ m → has_motif x m i p ≡ true
  unfolding has_motif
  is_has_motif i p e = subst (λ (u : List ℕ). same (take p (drop (i - 1) x)) u ≡ true) e (same_self (take p (drop (i - 1) x)))

  -- a stretch inside the read that is the motif is as long as it
  pub motif-length : (i p : ℕ) → i + p ≤ suc (length x) → 1 ≤ i → has_motif x m i p ≡ true → p ≡ length m
  motif-length i p f a t = omega (arith, ap length (has_motif_is i p t), length-take p (drop (i - 1) x), length-drop (i - 1) x)

  module _ (lo hi : ℕ) where
    -- (i, p, e) is a leading repeat of document 01, its p bytes are the motif, and it lies wholly between
    pub record Fits (i p e : ℕ) : Type 0 where
      pub repeat : repeats x i p e ≡ true
      pub leading : leads x i p ≡ true
      pub motif : take p (drop (i - 1) x) ≡ m
      pub from : lo ≤ i
      pub to : i + p * e ≤ hi

    pub fits_is : (i p e : ℕ) → fits x m lo hi i p e ≡ true → Fits i p e
    unfolding fits between
    fits_is i p e t =
        record {
          repeat = search (and_left, and_right);
          leading = search (and_left, and_right);
          motif = has_motif_is i p (search (and_left, and_right));
          from = search (and_left, and_right, leb-true);
          to = search (and_left, and_right, leb-true);
        }

    pub is_fits : (i p e : ℕ) → Fits i p e → fits x m lo hi i p e ≡ true
    unfolding fits between
    is_fits i p e f = cc (f.repeat, f.leading, is_has_motif i p f.motif, le-leb lo i f.from, le-leb (i + p * e) hi f.to)

    -- two copies lie in the read
    pub fits-inside : (i p e : ℕ) → Fits i p e → (1 ≤ i) × (1 ≤ p) × (2 ≤ e) × (i + p * 2 ≤ i + p * e) × (i + p * e ≤ suc (length x))
    fits-inside i p e f = let r = repeat_is x i p e f.repeat in (r.start, r.period, r.twice, omega (arith, mul-le-mul_left p r.twice), r.stand.0)

    -- the motif gives the period, and the start the copies
    pub fits-only : (i p e : ℕ) → Fits i p e → (p ≡ length m) × (copies x i p ≡ e)
    fits-only i p e f = let n = fits-inside i p e f in (motif-length i p (omega (arith, n.3, n.4)) n.0 (is_has_motif i p f.motif), repeat_copies x i p e f.repeat)

    -- so one starts at i exactly if the test of i says so
    pub fits-fitting : (i p e : ℕ) → Fits i p e → fitting x m lo hi i ≡ true
    unfolding fitting
    fits-fitting i p e f =
        let o = fits-only i p e f in
        let g : Fits i p (copies x i p) = subst (λ (c : ℕ). Fits i p c) (sym o.1) f in
        is_fits i (length m) (copies x i (length m)) (subst (λ (q : ℕ). Fits i q (copies x i q)) o.0 g)

    pub fitting_is : (i : ℕ) → fitting x m lo hi i ≡ true → Fits i (length m) (copies x i (length m))
    unfolding fitting
    fitting_is i t = fits_is i (length m) (copies x i (length m)) t

    -- any that fits at i is the one of the motif's length and the copies there; so two that fit at one start are the same
    pub fits_here : (i p e : ℕ) → Fits i p e → Fits i (length m) (copies x i (length m))
    fits_here i p e f = fitting_is i (fits-fitting i p e f)

    pub fits-alike : (i p e : ℕ) → Fits i p e → (j q d : ℕ) → Fits j q d → j ≡ i → (q ≡ p) × (d ≡ e)
    fits-alike i p e f j q d g same =
        let a = fits-only i p e f in
        let b = fits-only j q d g in
        let s : q ≡ p = b.0 ∙ sym a.0 in
        (s, sym b.1 ∙ ap (copies x j) s ∙ ap (λ (k : ℕ). copies x k p) same ∙ a.1)

    pub fitting-not : (i : ℕ) → (Fits i (length m) (copies x i (length m)) → ⊥) → fitting x m lo hi i ≡ false
    fitting-not i h = not-true (fitting x m lo hi i) (fails (fitting x m lo hi i) (λ t. h (fitting_is i t)))

  -- ---- the motif as a read of its own

  -- where it stands twice no base of it is an N, and it is the stretch there
  module _ (i : ℕ) (a : 1 ≤ i) (f : i + length m ≤ suc (length x)) (h : take (length m) (drop (i - 1) x) ≡ m) (two : 2 ≤ copies x i (length m)) where
    byte : (k : ℕ) → k < length m → at x (i + k) ≡ at m (1 + k)
    unfolding at
    byte k l =
        ap (λ (v : ℕ). get_or x v 0) (omega arith)
        ∙ sym (get_or-drop (i - 1) x k 0)
        ∙ sym (get_or-take (length m) (drop (i - 1) x) k 0 l)
        ∙ ap (λ (u : List ℕ). get_or u k 0) h
        ∙ ap (λ (v : ℕ). get_or m v 0) (omega arith)

    read : (k : ℕ) → k < length m → at x (i + k) ≢ unread
    read k l =
        ⊎_elim (λ q. absurd (omega (arith, q, l))) (λ t. t.1)
        (letters_tell x (i + k) (i + length m * 1 + k) ((copies_stand x i (length m) (omega arith)).1 1 two k l))

    stretch-motif : stretch x (length m) i ≡ stretch m (length m) 1
    stretch-motif =
        ext_get_or 0 (stretch x (length m) i) (stretch m (length m) 1) (stretch-length x (length m) i ∙ sym (stretch-length m (length m) 1))
        (λ k b. cell k (rw (stretch-length x (length m) i) at b))
      where
        cell : (k : ℕ) → k < length m → get_or (stretch x (length m) i) k 0 ≡ get_or (stretch m (length m) 1) k 0
        cell k l =
            stretch-at x (length m) i k l
            ∙ letter_is x (i + k)
            ∙ letter_read (at x (i + k)) (i + k) (read k l)
            ∙ ap (λ (b : ℕ). 2 * b + 1) (byte k l)
            ∙ sym (letter_read (at m (1 + k)) (1 + k) (λ e. read k l (byte k l ∙ e)))
            ∙ sym (letter_is m (1 + k))
            ∙ sym (stretch-at m (length m) 1 k l)

    -- so it is primitive there exactly if it is by itself
    pub motif-primitive : 1 ≤ length m → primitive x i (length m) ≡ primitive m 1 (length m)
    motif-primitive some =
        let here = primitive_means x i (length m) some f in
        let alone = primitive_means m 1 (length m) some (omega arith) in
        same_test (primitive x i (length m)) (primitive m 1 (length m))
        (λ t. alone.1 (subst PrimitiveString stretch-motif (here.0 t)))
        (λ t. here.1 (subst PrimitiveString (sym stretch-motif) (alone.0 t)))

    -- and no byte of it is an N
    pub motif_read : (k : ℕ) → k < length m → at m (1 + k) ≢ unread
    motif_read k l e = read k l (byte k l ∙ e)
