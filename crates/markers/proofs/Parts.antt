-- Document 02, item 7, over the contract of `shown`: the part handed back is the motif, and lies in the slice that the rule says; of a read not scored it is the empty part at its front.
-- Each time a holds the arguments of a call, r is what it returns, and e holds the arguments afterwards. Assumes nothing.
use Prim.Native.Nat.{ℕ, ◌+◌, ◌-◌, ◌≤◌}
use mathlib.Core.Path.{◌≡◌, refl, sym, ap, subst, ◌∙◌}
use mathlib.Core.Bool.{true, false, cond}
use mathlib.Core.List.{List}
use native.Mathlib.Omega.{arith}
use lib.ListN.{length}
use denote.Ref.{Bor}
use Rattle.std.specs.Prelude.{Result, Err, Option, Some, None}
use Rattle.words.specs.Range.{bit}
use Rattle.words.specs.Answers.{success, refused_says}
use Rattle.words_markers.specs.Houses.{line_start, house_has}
use Rattle.words_markers.specs.Calls.{scored_says, score_answer, shown, of_house, from_of, count_of, part_of}
use Rattle.words.specs.declared.Refusal.{Refusal}
use Rattle.words_markers.specs.declared.Scored.{Scored}
use Rattle.words_markers.specs.declared.Shown.{Shown}
use Rattle.words_markers.proofs.Seated.{Between}
use Rattle.words_markers.proofs.Truth.{Alone, told_if_so}
use Rattle.words_markers.proofs.Showing.{Shows, shows_told, read_shows, shown_exactly, house_part, read_part, part-inside}
use Rattle.words_markers.proofs.Scores.{one_site, copies_exactly, why_exactly}
use Rattle.marker_calls.specs.Parts.{shown_part}
use Rattle.marker_calls.specs.declared.ShownPart.{ShownPart}
use Rattle.marker_calls.proofs.score.Reads as score-call
use Rattle.marker_calls.proofs.shown.Reads as shown-call
use Rattle.marker_calls.proofs.shown_part.Reads as part-call
use Rattle.lister.proofs.Handed.{PartOf}

-- the call takes any input
pub every_marker_is_answered : (κs : _) (a : _) → shown-call.Asked κs a
every_marker_is_answered κs a = tt

-- r is handed back of the read x or of the house list h, for a motif m: it has the motif's bytes, and is the part of that slice which starts there; or it is the empty part at the
-- read's front
abbrev pub Hands : Bor (List ℕ) → Bor (List ℕ) → List ℕ → Option Shown → Bor (List ℕ) → Type 0
Hands x h m (Some (Shown.House a)) r = (r.now ≡ m) × PartOf h a (length m) r
Hands x h m (Some (Shown.Read a)) r = (r.now ≡ m) × PartOf x a (length m) r
Hands x h m None r = PartOf x 0 0 r

-- what the contract says, slice by slice
module _ (x h : Bor (List ℕ)) (k : ℕ) (u v m : List ℕ) (r : Bor (List ℕ)) where
  hands : (s : Option Shown) → shown x.now h.now k u v m ≡ s → r.now ≡ part_of x.now h.now m s
      → r.ref_ptr.0 ≡ (cond (of_house s) h x).ref_ptr.0 → r.ref_ptr.1 ≡ (cond (of_house s) h x).ref_ptr.1 + from_of s → Hands x h m s r
  unfolding part_of of_house from_of count_of
  hands (Some (Shown.House a)) q bytes block from = let e = bytes ∙ (house_part x.now h.now k u v m a q).1 in (e, (block, from, bytes, ap length e))
  hands (Some (Shown.Read a)) q bytes block from = let e = bytes ∙ (read_part x.now h.now k u v m a q).1 in (e, (block, from, bytes, ap length e))
  hands None q bytes block from = (block, from, bytes, ap length bytes)

-- the part shown has the motif's bytes and lies in the slice that the rule says, there where it says, or nothing is shown: of any input the one that is so, and no other is
pub the_part_shown_is_the_motif : (κs : _) (a : _) (r : _) (e : _) → shown-call.Learnt κs a r e
    → let x = a.0.now in let h = a.1.0.now in let k = a.1.1.0 in let u = a.1.1.1.0.now in let v = a.1.1.1.1.0.now in let m = a.1.1.1.1.1.0.now in
    (s : Option Shown) × Shows x h k u v m s × ((t : Option Shown) → Shows x h k u v m t → t ≡ s) × Hands a.0 a.1.0 m s r
the_part_shown_is_the_motif κs a r e l =
    let s = shown a.0.now a.1.0.now a.1.1.0 a.1.1.1.0.now a.1.1.1.1.0.now a.1.1.1.1.1.0.now in (
      s,
      (shown_exactly a.0.now a.1.0.now a.1.1.0 a.1.1.1.0.now a.1.1.1.1.0.now a.1.1.1.1.1.0.now s).0 refl,
      λ t w. sym (shows_told a.0.now a.1.0.now a.1.1.0 a.1.1.1.0.now a.1.1.1.1.0.now a.1.1.1.1.1.0.now t w),
      hands a.0 a.1.0 a.1.1.0 a.1.1.1.0.now a.1.1.1.1.0.now a.1.1.1.1.1.0.now r s refl l.0 l.1 l.2,
    )

-- what is shown as q of the read x or the house list h where r is the score by the same marker, of number k: from the house list if that has the marker, otherwise from the read,
-- the first copy of the repeat that is scored; and nothing of a read not scored
pub record GoesBy (x h : Bor (List ℕ)) (k : ℕ) (u v m : List ℕ) (r : Result Scored Refusal) (q : Bor (List ℕ)) : Type 0 where
  pub house : (c : ℕ) → (scored_says r).answer ≡ success c → house_has h.now k m ≡ true → Hands x h m (Some (Shown.House (line_start h.now k))) q
  pub read : (c : ℕ) → (scored_says r).answer ≡ success c → house_has h.now k m ≡ false
      → (lo hi : ℕ) × Between x.now u v lo hi × ((i p : ℕ) × Alone x.now m lo hi i p c × Hands x h m (Some (Shown.Read (i - 1))) q)
  pub nothing : (why : Refusal) → (scored_says r).answer ≡ refused_says why → Hands x h m None q

pub shown_goes_by_the_score : (κs : _) (a : _) (r : _) (e : _) → score-call.Learnt κs a r e → (ls : _) (b : _) (q : _) (f : _) → shown-call.Learnt ls b q f
    → a.0.now ≡ b.0.now → a.1.0.now ≡ b.1.1.1.0.now → a.1.1.0.now ≡ b.1.1.1.1.0.now → a.1.1.1.0.now ≡ b.1.1.1.1.1.0.now
    → GoesBy b.0 b.1.0 b.1.1.0 b.1.1.1.0.now b.1.1.1.1.0.now b.1.1.1.1.1.0.now r q
shown_goes_by_the_score κs a r e told ls b q f l ex eu ev em = record { house = house; read = read; nothing = nothing }
  where
    x : List ℕ
    x = b.0.now

    h : List ℕ
    h = b.1.0.now

    u : List ℕ
    u = b.1.1.1.0.now

    v : List ℕ
    v = b.1.1.1.1.0.now

    m : List ℕ
    m = b.1.1.1.1.1.0.now

    said : scored_says r ≡ score_answer x u v m a.1.1.1.1.0
    said = rw (ex, eu, ev, em) at told

    given : (s : Option Shown) → Shows x h b.1.1.0 u v m s → Hands b.0 b.1.0 m s q
    given s w =
        let S = shows_told x h b.1.1.0 u v m s w in
        subst (λ (t : Option Shown). Hands b.0 b.1.0 m t q) S (hands b.0 b.1.0 b.1.1.0 u v m q _ refl l.0 l.1 l.2)

    house : (c : ℕ) → (scored_says r).answer ≡ success c → house_has h b.1.1.0 m ≡ true → Hands b.0 b.1.0 m (Some (Shown.House (line_start h b.1.1.0))) q
    house c s t = given (Some (Shown.House _)) (_, one_site x u v m a.1.1.1.1.0 c ((copies_exactly x u v m _ r said c).0 s), t, refl)

    read : (c : ℕ) → (scored_says r).answer ≡ success c → house_has h b.1.1.0 m ≡ false
        → (lo hi : ℕ) × Between x u v lo hi × ((i p : ℕ) × Alone x m lo hi i p c × Hands b.0 b.1.0 m (Some (Shown.Read (i - 1))) q)
    read c s t =
        let o = (copies_exactly x u v m _ r said c).0 s in
        let w = o.3 in
        (o.0, o.1, o.2, (w.0, w.1, w.2, given (Some (Shown.Read _)) (read_shows x h b.1.1.0 u v m w.0 (one_site x u v m a.1.1.1.1.0 c o) t)))

    nothing : (why : Refusal) → (scored_says r).answer ≡ refused_says why → Hands b.0 b.1.0 m None q
    nothing why s = given None (why, (told_if_so x u v m (Err why)).1 ((why_exactly x u v m _ r said why).0 s))

-- ---- for those who are handed no part of a slice

module _ (x h m : List ℕ) (r : ShownPart) where
  named : (s : Option Shown) → r ≡ shown_part m s → from_of s + count_of m s ≤ length (cond (of_house s) h x) → (r.house ≡ 1 → r.from + r.count ≤ length h) × (r.house ≡ 0 → r.from + r.count ≤ length x)
  unfolding shown_part of_house from_of count_of
  named s e inside =
      let house : r.house ≡ bit (of_house s) = ap (λ (p : ShownPart). p.house) e in
      let from : r.from ≡ from_of s = ap (λ (p : ShownPart). p.from) e in
      let count : r.count ≡ count_of m s = ap (λ (p : ShownPart). p.count) e in
      go s house from count inside
    where
      go : (s : Option Shown) → r.house ≡ bit (of_house s) → r.from ≡ from_of s → r.count ≡ count_of m s → from_of s + count_of m s ≤ length (cond (of_house s) h x)
          → (r.house ≡ 1 → r.from + r.count ≤ length h) × (r.house ≡ 0 → r.from + r.count ≤ length x)
      go (Some (Shown.House a)) t f c i = (λ one. omega (arith, f, c, i), λ none. absurd (omega (arith, t, none)))
      go (Some (Shown.Read a)) t f c i = (λ one. absurd (omega (arith, t, one)), λ none. omega (arith, f, c, i))
      go None t f c i = (λ one. omega (arith, f, c), λ none. omega (arith, f, c))

-- the part that is named by its place and its count ends inside the slice that it is named of
pub the_part_named_lies_in_its_slice : (κs : _) (a : _) (r : _) (e : _) → part-call.Learnt κs a r e
    → (r.house ≡ 1 → r.from + r.count ≤ length a.1.0.now) × (r.house ≡ 0 → r.from + r.count ≤ length a.0.now)
the_part_named_lies_in_its_slice κs a r e l =
    named a.0.now a.1.0.now a.1.1.1.1.1.0.now r _ l (part-inside a.0.now a.1.0.now a.1.1.0 a.1.1.1.0.now a.1.1.1.1.0.now a.1.1.1.1.1.0.now)
