-- The claim check tells the truth: what each answer says of the claim, and that it is given if and only if that is so; so one answer is, and none is left over. Assumes nothing.
use Prim.Native.Nat.{ℕ, suc, ◌+◌, ◌/◌, ◌≤◌, ◌<◌}
use mathlib.Core.Path.{◌≡◌, refl, sym, ap, ◌∙◌}
use mathlib.Core.Logic.{◌⊎◌, inl, inr, ⊎_elim, by_cases, ◌↔◌, ◌≢◌}
use mathlib.Core.Bool.{true, false}
use mathlib.Core.List.{List}
use native.Mathlib.Omega.{arith}
use native.Mathlib.Decide.{ℕ_discrete}
use lib.ListN.{length}
use lib.Dec.{leb}
use borrow.Author.Tests.{le-leb, not-true}
use Rattle.words.specs.Reads.{most, at, unread, stretch}
use Rattle.words.specs.Repeats.{stands, primitive, repeats, copies, written}
use Rattle.words.proofs.Tests.{and_both, clash, fails, lt_or_ge}
use Rattle.words.proofs.Told.{told_exactly}
use Rattle.words.proofs.Repeats.{Repeat, stands_is, is_stands, repeat_is, is_repeat, is_primitive}
use Rattle.words.proofs.Copies.{copies_stand, copies-end, copies_is, repeat_copies}
use Rattle.words.proofs.Lines.{copies_repeat}
use Rattle.words.proofs.Claims.{PrimitiveString, stretch-length}
use Rattle.words_claims.specs.Claims.{root}
use Rattle.words_claims.specs.Calls.{verdict}
use Rattle.std.specs.Prelude.{Result, Ok, Err}
use Rattle.words.specs.declared.Refusal.{Refusal}
use Rattle.words_claims.specs.declared.Verdict.{Verdict}
use Rattle.words_claims.proofs.Roots.{root-some, root_high, root_whole}
use Rattle.words_claims.proofs.RootStrings.{root-written, root_string, root_is_the_only}
use Rattle.words_claims.proofs.Copies.{copies-some, unread-root, unread-copies}
use Rattle.words_claims.proofs.Verdicts.{Outside, Inside, inside_or, inside-fits, tells_long, tells_outside, tells_shorter, tells_yes, tells_copies}

-- what an answer says of a claim of the read x
abbrev pub Says : List ℕ → ℕ → ℕ → ℕ → Result Verdict Refusal → Type 0
-- it is a repeat of document 01
Says x i p e (Ok Verdict.Yes) = (length x ≤ most) × (repeats x i p e ≡ true)
-- it lies in the read, and the motif is primitive and stands c times in a row and no more; but two copies or more, and so many, are not what is claimed
Says x i p e (Ok (Verdict.Copies c)) = (length x ≤ most) × Inside x i p e × (primitive x i p ≡ true) × (1 ≤ c) × (stands x i p c ≡ true) × (stands x i p (suc c) ≡ false) × (2 ≤ e → c ≢ e)
-- it lies in the read, and the motif is the string of its first d bytes, which is shorter and primitive, written several times
Says x i p e (Ok (Verdict.Shorter d)) = (length x ≤ most) × Inside x i p e × (1 ≤ d) × (d < p) × (stretch x p i ≡ written (p / d) (stretch x d i)) × PrimitiveString (stretch x d i)
-- it has a 0, or a last byte beyond the read
Says x i p e (Ok Verdict.Outside) = (length x ≤ most) × Outside x i p e
-- the read has more than 1,000 bytes, and so many are told
Says x i p e (Err r) = (most < length x) × (r ≡ Refusal.TooLong (length x))

module _ (x : List ℕ) (i p e : ℕ) where
  yes_told : length x ≤ most → repeats x i p e ≡ true → verdict x i p e ≡ Ok Verdict.Yes
  yes_told m t =
      let r : Repeat x i p e = repeat_is x i p e t in
      let n : Inside x i p e = (r.start, r.period, omega (arith, r.twice), r.stand.0) in
      let w : root x i p ≡ p = (root_whole x i p r.period (inside-fits x i p e n)).0 (is_primitive x i p r.prim) in
      tells_yes x i p e m n (omega arith) r.twice (repeat_copies x i p e t)

  copies_told : (c : ℕ) → Says x i p e (Ok (Verdict.Copies c)) → verdict x i p e ≡ Ok (Verdict.Copies c)
  copies_told c s =
      let n = s.1 in
      let q : copies x i p ≡ c = copies_is x i p c n.0 n.1 (stands_is x i p c s.4) (λ t. clash (is_stands x i p (suc c) t) s.5) in
      let w : root x i p ≡ p = (root_whole x i p n.1 (inside-fits x i p e n)).0 s.2 in
      tells_copies x i p e s.0 n (omega arith) (λ l g. s.6 l (sym q ∙ g)) ∙ ap (λ (c : ℕ). Ok (Verdict.Copies c)) q

  -- the root named is the only primitive string that writes the motif
  pub the_only_root : (d : ℕ) → Says x i p e (Ok (Verdict.Shorter d)) → (u : List ℕ) (k : ℕ) → stretch x p i ≡ written k u → PrimitiveString u → u ≡ stretch x d i
  the_only_root d s u k q n =
      let f : i + p ≤ suc (length x) = inside-fits x i p e s.1 in
      root_is_the_only x i p s.1.1 f u k q n ∙ sym (root_is_the_only x i p s.1.1 f (stretch x d i) (p / d) s.4 s.5)

  shorter_told : (d : ℕ) → Says x i p e (Ok (Verdict.Shorter d)) → verdict x i p e ≡ Ok (Verdict.Shorter d)
  shorter_told d s =
      let n = s.1 in
      let f : i + p ≤ suc (length x) = inside-fits x i p e n in
      let q : stretch x (root x i p) i ≡ stretch x d i = the_only_root d s _ _ (root-written x i p n.1 f) (root_string x i p n.1 f) in
      let w : root x i p ≡ d = sym (stretch-length x (root x i p) i) ∙ ap length q ∙ stretch-length x d i in
      tells_shorter x i p e s.0 n (omega (arith, s.3)) ∙ ap (λ (c : ℕ). Ok (Verdict.Shorter c)) w

  -- what is so is told
  pub truth_told : (v : Result Verdict Refusal) → Says x i p e v → verdict x i p e ≡ v
  truth_told (Ok Verdict.Yes) s = yes_told s.0 s.1
  truth_told (Ok (Verdict.Copies c)) s = copies_told c s
  truth_told (Ok (Verdict.Shorter d)) s = shorter_told d s
  truth_told (Ok Verdict.Outside) s = tells_outside x i p e s.0 s.1
  truth_told (Err r) s = tells_long x i p e s.0 ∙ ap (λ (r : Refusal). Err r) (sym s.1)

  -- a claim that lies in the read, of a motif that is its own root
  counts : length x ≤ most → Inside x i p e → root x i p ≡ p → (v : Result Verdict Refusal) × Says x i p e v
  counts m n w = by_cases (ℕ_discrete (copies x i p) e) (λ q. ⊎_elim (λ l. other (λ two. absurd (omega arith))) (λ two. same q two) (lt_or_ge e 2)) (λ ne. other (λ two. ne))
    where
      fits : i + p ≤ suc (length x)
      fits = inside-fits x i p e n

      prim : primitive x i p ≡ true
      prim = (root_whole x i p n.1 fits).1 w

      stand : stands x i p (copies x i p) ≡ true
      stand = is_stands x i p (copies x i p) (copies_stand x i p (omega (arith, fits)))

      end : stands x i p (suc (copies x i p)) ≡ false
      end = not-true _ (fails _ (λ t. copies-end x i p n.0 n.1 (stands_is x i p (suc (copies x i p)) t)))

      other : (2 ≤ e → copies x i p ≢ e) → (v : Result Verdict Refusal) × Says x i p e v
      other ne = (Ok (Verdict.Copies (copies x i p)), (m, n, prim, copies-some x i p n.1 fits n.0, stand, end, ne))

      same : copies x i p ≡ e → 2 ≤ e → (v : Result Verdict Refusal) × Says x i p e v
      same q two =
          let r : Repeat x i p (copies x i p) = copies_repeat x i p n.0 (omega (arith, fits, n.1)) n.1 (and_both (leb 2 (copies x i p)) (primitive x i p) (le-leb 2 (copies x i p) (omega arith)) prim) in
          (Ok Verdict.Yes, (m, is_repeat x i p e (rw q at r)))

  -- of every claim one answer says what is so: none is left over
  pub one_is_so : (v : Result Verdict Refusal) × Says x i p e v
  one_is_so = ⊎_elim (λ l. (Err (Refusal.TooLong (length x)), (l, refl))) (λ m. ⊎_elim (λ o. (Ok Verdict.Outside, (m, o))) (λ n. inside m n (lt_or_ge (root x i p) p)) (inside_or x i p e)) (lt_or_ge most (length x))
    where
      inside : length x ≤ most → Inside x i p e → (root x i p < p) ⊎ (p ≤ root x i p) → (v : Result Verdict Refusal) × Says x i p e v
      inside m n (inl l) =
          let f : i + p ≤ suc (length x) = inside-fits x i p e n in
          (Ok (Verdict.Shorter (root x i p)), (m, n, root-some x i p n.1, l, root-written x i p n.1 f, root_string x i p n.1 f))
      inside m n (inr l) = counts m n (omega (arith, l, root_high x i p n.1))

  -- an answer is given if and only if what it says is so
  pub told_if_so : (v : Result Verdict Refusal) → (verdict x i p e ≡ v) ↔ Says x i p e v
  told_if_so = told_exactly (verdict x i p e) (Says x i p e) truth_told one_is_so

  -- a claim of a motif that holds an N, and lies in the read, is told that it stands once
  pub unread_told : length x ≤ most → Inside x i p e → (k : ℕ) → k < p → at x (i + k) ≡ unread → verdict x i p e ≡ Ok (Verdict.Copies 1)
  unread_told m n k l u =
      let f : i + p ≤ suc (length x) = inside-fits x i p e n in
      let w : root x i p ≡ p = unread-root x i p n.1 f k l u in
      let c : copies x i p ≡ 1 = unread-copies x i p n.1 f k l u n.0 in
      tells_copies x i p e m n (omega arith) (λ two q. omega (arith, c, q)) ∙ ap (λ (c : ℕ). Ok (Verdict.Copies c)) c
