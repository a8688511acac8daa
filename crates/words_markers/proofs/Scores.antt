-- What a score says of a read and a marker, and that it is given if and only if that is so; by its case, and by its number and value alone. Assumes nothing.
use Prim.Native.Nat.{ℕ, suc, ◌+◌, ◌*◌, ◌≤◌, ◌<◌}
use mathlib.Core.Path.{◌≡◌, refl, sym, ap, ◌∙◌}
use mathlib.Core.Logic.{◌↔◌, ◌≢◌}
use mathlib.Core.Bool.{true}
use mathlib.Core.List.{List}
use native.Mathlib.Omega.{arith}
use lib.ListN.{length}
use lib.IntN.{ℤ, sub_ℕ}
use Rattle.std.specs.Prelude.{Result, Ok, Err}
use Rattle.words.specs.Reads.{at, unread}
use Rattle.words.specs.Answers.{success}
use Rattle.words.specs.Repeats.{primitive, copies}
use Rattle.words.proofs.Told.{told_exactly}
use Rattle.words.proofs.Repeats.{repeat_is, is_primitive}
use Rattle.words_markers.specs.Sites.{site}
use Rattle.words.specs.Answers.{refused_says}
use Rattle.words_markers.specs.Calls.{scored_says, score_of, score_answer}
use Rattle.words.specs.declared.Refusal.{Refusal}
use Rattle.words_markers.specs.declared.Scored.{Scored}
use Rattle.words_markers.proofs.Fitting.{fits-inside, fits-only, fits_here, motif-primitive, motif_read}
use Rattle.words_markers.proofs.Seated.{Between}
use Rattle.words_markers.proofs.Truth.{Why, Alone, Says, one_is_so, told_if_so}
use Rattle.words_markers.proofs.Said.{copies_said, not_said, said_once, copies_number, why_number}

-- one and only one repeat fits between the primers, and it has e copies
abbrev pub OneFits : List ℕ → List ℕ → List ℕ → List ℕ → ℕ → Type 0
OneFits x u v m e = (lo hi : ℕ) × Between x u v lo hi × ((i p : ℕ) × Alone x m lo hi i p e)

-- what a score says: one fits, and has so many copies, which are d more than the reference; or why the read is not scored
abbrev pub Tells : List ℕ → List ℕ → List ℕ → List ℕ → ℕ → Result Scored Refusal → Type 0
Tells x u v m reference (Ok s) = OneFits x u v m s.copies × (s.difference ≡ sub_ℕ s.copies reference)
Tells x u v m reference (Err why) = Why x u v m why

module _ (x u v m : List ℕ) (reference : ℕ) where
  score_so : (s : Result Scored Refusal) × Tells x u v m reference s
  score_so = go (one_is_so x u v m)
    where
      go : (s : Result ℕ Refusal) × Says x u v m s → (t : Result Scored Refusal) × Tells x u v m reference t
      go (Ok i, s) = (Ok (record { copies = s.3.1; difference = sub_ℕ s.3.1 reference }), ((s.0, s.1, s.2, (i, s.3.0, s.3.2)), refl))
      go (Err why, s) = (Err why, s)

  -- the one that fits is found, and its copies are said
  pub one_site : (e : ℕ) → (o : OneFits x u v m e) → site x u v m ≡ Ok o.3.0
  one_site e o = let w = o.3 in (told_if_so x u v m (Ok w.0)).1 (o.0, o.1, o.2, (w.1, e, w.2))

  one_said : (e : ℕ) → OneFits x u v m e → score_answer x u v m reference ≡ scored_says (Ok (record { copies = e; difference = sub_ℕ e reference }))
  unfolding score_of scored_says
  one_said e o =
      let w = o.3 in
      let n = fits-only x m o.0 o.1 w.0 w.1 e w.2.0 in
      let c : copies x w.0 (length m) ≡ e = ap (copies x w.0) (sym n.0) ∙ n.1 in
      copies_said x u v m reference w.0 (one_site e o) ∙ rw c refl

  module _ (r : Result Scored Refusal) (said : scored_says r ≡ score_answer x u v m reference) where
    score_told : (s : Result Scored Refusal) → Tells x u v m reference s → r ≡ s
    score_told (Ok t) s = said_once r (Ok t) (said ∙ one_said t.copies s.0 ∙ ap (λ (z : ℤ). scored_says (Ok (record { copies = t.copies; difference = z }))) (sym s.1))
    score_told (Err why) s = said_once r (Err why) (said ∙ not_said x u v m reference why ((told_if_so x u v m (Err why)).1 s))

    -- by its case
    pub score_exactly : (s : Result Scored Refusal) → (r ≡ s) ↔ Tells x u v m reference s
    score_exactly = told_exactly r (Tells x u v m reference) score_told score_so

    -- by its number and value: copies, or a refusal
    pub copies_exactly : (e : ℕ) → ((scored_says r).answer ≡ success e) ↔ OneFits x u v m e
    unfolding scored_says
    copies_exactly e = (
      λ q. ((score_exactly (Ok (record { copies = e; difference = (scored_says r).difference }))).0 (copies_number r e q)).0,
      λ o. ap (λ (s : Result Scored Refusal). (scored_says s).answer) (score_told (Ok (record { copies = e; difference = sub_ℕ e reference })) (o, refl)),
    )

    pub why_exactly : (why : Refusal) → ((scored_says r).answer ≡ refused_says why) ↔ Why x u v m why
    unfolding scored_says
    why_exactly why = (
      λ q. (score_exactly (Err why)).0 (why_number r why q),
      λ w. ap (λ (s : Result Scored Refusal). (scored_says s).answer) (score_told (Err why) w),
    )

    -- a score's difference is from the reference
    pub difference_is : (e : ℕ) → (scored_says r).answer ≡ success e → (scored_says r).difference ≡ sub_ℕ e reference
    difference_is e q = ((score_exactly (Ok (record { copies = e; difference = (scored_says r).difference }))).0 (copies_number r e q)).1

  -- the motif of a score: it has a byte, fits twice into the read, is no shorter one repeated, and holds no N
  pub one_motif : (e : ℕ) → OneFits x u v m e → (1 ≤ length m) × (2 * length m ≤ length x) × (primitive m 1 (length m) ≡ true) × ((k : ℕ) → k < length m → at m (1 + k) ≢ unread)
  one_motif e o =
      let w = o.3 in
      let f = fits_here x m o.0 o.1 w.0 w.1 e w.2.0 in
      let n = fits-inside x m o.0 o.1 w.0 _ _ f in
      let once : w.0 + length m ≤ suc (length x) = omega (arith, n.3, n.4) in
      let r = repeat_is x w.0 (length m) _ f.repeat in (
        n.1,
        omega (arith, n.0, n.3, n.4),
        sym (motif-primitive x m w.0 n.0 once f.motif n.2 n.1) ∙ is_primitive x w.0 (length m) r.prim,
        motif_read x m w.0 n.0 once f.motif n.2,
      )
