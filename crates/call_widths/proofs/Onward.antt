-- From width to width: the rows of one period more are those of the read, a width that is passed over has none, and past the last width all are there; and how
-- many periods have a row. Stated for both ways to look at a width. Assumes nothing.
use Prim.Native.Nat.{ℕ, suc, ◌+◌, ◌-◌, ◌≤◌, ◌<◌}
use mathlib.Core.Path.{◌≡◌, refl, sym, ap, subst, ◌∙◌}
use mathlib.Core.Logic.{⊎_elim, ◌≢◌}
use mathlib.Core.Bool.{Bool, true, false}
use mathlib.Core.List.{List, [], ◌∷◌, ◌++◌}
use native.Mathlib.Omega.{arith}
use native.Mathlib.Nat.{mul-le-mul_left}
use lib.ListN.{length, length-append}
use lib.Dec.{ltb}
use mir.Val.{bool_byte}
use borrow.Author.Tests.{ltb-true, lt-ltb}
use Rattle.words.specs.Range.{sum, bit, count, gather}
use Rattle.words.specs.Reads.{at}
use Rattle.words.specs.Lists.{in_mode}
use Rattle.words.specs.Groups.{table, gap}
use Rattle.words.specs.Moves.{top_of, top}
use Rattle.words.proofs.Tests.{lt_or_ge, same_test}
use Rattle.words.proofs.Sums.{count_le, count_more, count_stop}
use Rattle.words.proofs.LineLayout.{line-some}
use Rattle.words.proofs.Lines.{lines-at-none}
use Rattle.words.proofs.Ranges.{gather-next, gather_stop}
use Rattle.words.proofs.Stop.{stop_starts}
use Rattle.words_runs.proofs.RunLayout.{run-some}
use Rattle.words_runs.proofs.Lists.{runs-at-none}
use Rattle.row_cells.specs.Listing.{Listing, Adds}
use Rattle.slots.specs.Slots.{view}
use Rattle.step1_rows.specs.Rows.{row, among, Only, NAME, DIST, HEAD, AFTER}
use Rattle.step1_rows.proofs.Laws.{only_row}
use Rattle.step2_bits.specs.Sets.{Empty, Where}
use Rattle.step3_lists.specs.Filed.{Marked}
use Rattle.step3_lists.proofs.Passing.{marked_where}
use Rattle.refine.proofs.Links.{gap_nearest}
use Rattle.steps.specs.Held.{Held, Stands}
use Rattle.steps.specs.Walk.{Onward}
use Rattle.steps.proofs.Phases.{held_long}
use Rattle.steps.proofs.OfRead.{stands-gap}
use Rattle.start_places.specs.Starts.{Near, Gapped}
use Rattle.start_lines.specs.Lines.{lines_in}
use Rattle.start_lines.proofs.Lines.{lines_in_lem}
use Rattle.start_runs.specs.Runs.{runs_in}
use Rattle.start_runs.proofs.Runs.{runs_in_lem}
use Rattle.call_periods.specs.declared.Sight.{Sight}
use Rattle.call_periods.specs.declared.Sight.TheVariants.{Lines, Runs}
use Rattle.call_periods.specs.Periods.{row_size, row_in, rows_in}
use Rattle.call_widths.specs.Looks.{look_at, looked, seen_at}

-- a test as a number
pub byte-bit : (b : Bool) → bool_byte b ≡ bit b
byte-bit true = refl
byte-bit false = refl

pub byte_few : (b : Bool) (v : ℕ) → v ≡ bool_byte b → v ≤ 1
byte_few true v e = omega arith
byte_few false v e = omega arith

-- the next position of a group lies in the read
pub held_near : (n : ℕ) (a : List (List ℕ)) (small : List ℕ) → Held n a small → (p : ℕ) → 1 ≤ p → Near p (row a DIST)
held_near n a small H p l = record { some = l; long = H.long.each 3 (omega arith); inside = λ i b c e. ⊎_elim (λ h. absurd (omega (arith, l, e, H.dist_beyond i h c))) (inside i b e) (lt_or_ge n i) }
  where
    inside : (i : ℕ) → 1 ≤ i → at (row a DIST) i ≡ p → i ≤ n → i + p ≤ 1000
    inside i b e h =
        let t = view n (row a NAME) in
        let m : i ≤ length t = omega (arith, h, held_long n a small H) in
        omega (arith, (gap_nearest t i m).high, H.links.next i b m, e, held_long n a small H, H.few)

-- the places that were marked while a list was passed
pub passed_where : (a b : List (List ℕ)) (p : ℕ) (f g : List ℕ) → Only (HEAD ∷ AFTER ∷ []) a b → Empty f → Marked (row a DIST) p f g → Where (row b DIST) p g
unfolding among
passed_where a b p f g O E M = rw (only_row (HEAD ∷ AFTER ∷ []) a b DIST O refl) (marked_where (row a DIST) p f g E M)

-- a row takes some numbers
row-some : (sight : Sight) → 1 ≤ row_size sight
unfolding row_size
row-some (Lines mode) = line-some
row-some Runs = run-some

-- what is seen at a width is what is read off its distances
look_in : (x : List ℕ) (sight : Sight) (p : ℕ) (dist : List ℕ) → Near p dist → Gapped x p dist → look_at x sight p ≡ rows_in dist sight p
unfolding look_at rows_in row_in lines_in runs_in
look_in x (Lines mode) p dist N G = lines_in_lem dist mode p N x G
look_in x Runs p dist N G = runs_in_lem dist p N x G

-- and nothing where no position has the distance of the width
look_none : (x : List ℕ) (sight : Sight) (p : ℕ) → 1 ≤ p → ((i : ℕ) → 1 ≤ i → i ≤ length x → gap (table x p) i ≢ p) → look_at x sight p ≡ []
unfolding look_at
look_none x (Lines mode) p h ne = lines-at-none x (in_mode x mode) p h ne
look_none x Runs p h ne = runs-at-none x p ne

module _ (x : List ℕ) (sight : Sight) where
  -- a width that was passed over
  look_passed : (n p r end : ℕ) (a : List (List ℕ)) (small : List ℕ) → Onward x n p r end a small → (q : ℕ) → 1 ≤ q → p < q → q < r → q ≤ end → look_at x sight q ≡ []
  look_passed n p r end a small O q h b c d = look_none x sight q h (λ i e f. stop_starts x q q i (omega arith) (omega arith) (O.quiet q b c d) e)

  -- what is seen at the widths 1 to d
  abbrev pub up_to : ℕ → List ℕ
  up_to d = gather (look_at x sight) d 1

  -- nothing yet
  pub listing_none : (out : List ℕ) → Listing (row_size sight) out (up_to 0) 0 out
  unfolding gather
  listing_none out = record { same = refl; count = omega arith; front = λ h. refl }

  -- the rows of period p come after those of the periods below
  pub listing_more : (n p k r : ℕ) (a : List (List ℕ)) (small old out out' : List ℕ) → 1 ≤ p → Stands x p n a small → Listing (row_size sight) old (up_to (p - 1)) k out
      → Adds (row_size sight) k r (rows_in (row a DIST) sight p) out out' → Listing (row_size sight) old (up_to p) r out'
  listing_more n p k r a small old out out' h S L A =
      let q : p - 1 + 1 ≡ p = omega arith in
      let G : Gapped x p (row a DIST) = record { few = omega (arith, S.held.few, S.long); held = stands-gap x p n a small S; beyond = λ i b c. S.held.dist_beyond i (omega (arith, b, S.long)) c } in
      subst (λ (v : List ℕ). Listing (row_size sight) old v r out')
      (ap (λ (v : List ℕ). up_to (p - 1) ++ v) (sym (look_in x sight p (row a DIST) (held_near n a small S.held p h) G) ∙ ap (look_at x sight) (sym q)) ∙ sym (gather-next (look_at x sight) (p - 1)) ∙ ap up_to q)
      (A old (up_to (p - 1)) L)

  -- the widths that were passed over show nothing
  pub listing_on : (n p r end k : ℕ) (a : List (List ℕ)) (small old out : List ℕ) → p < r → r ≤ end + 1 → Onward x n p r end a small → Listing (row_size sight) old (up_to p) k out → Listing (row_size sight) old (up_to (r - 1)) k out
  listing_on n p r end k a small old out l m O L =
      subst (λ (v : List ℕ). Listing (row_size sight) old v k out)
      (sym (gather_stop (look_at x sight) p (r - 1) 1 (omega arith) (λ q b c. look_passed n p r end a small O q (omega arith) (omega arith) (omega arith) (omega arith))))
      L

  -- past the last width
  pub listing_whole : (p k n : ℕ) (old out : List ℕ) → n ≡ length x → top_of n < p → p ≤ top_of n + 1 → Listing (row_size sight) old (up_to (p - 1)) k out → Listing (row_size sight) old (looked x sight) k out
  unfolding top looked
  listing_whole p k n old out e l m L =
      let q : p - 1 ≡ top x = omega (arith, ap top_of e) in
      subst (λ (v : List ℕ). Listing (row_size sight) old v k out) (ap up_to q) L

  -- does a width show a row? How many of the widths 1 to d do
  abbrev pub some : ℕ → Bool
  some p = ltb 0 (length (look_at x sight p))

  pub counted_none : count some 0 1 ≡ 0
  unfolding count sum
  counted_none = refl

  -- one period more, if there are more rows than before
  pub counted_more : (p k r m : ℕ) (old out out' : List ℕ) → 1 ≤ p → Listing (row_size sight) old (up_to (p - 1)) k out → Listing (row_size sight) old (up_to p) r out' → m ≡ count some (p - 1) 1 →
      m + bit (ltb k r) ≡ count some p 1
  counted_more p k r m old out out' h L M e =
      ap (λ (t : Bool). m + bit t) same
      ∙ ap (λ (v : ℕ). v + bit (some p)) e
      ∙ sym (next ∙ ap (λ (v : ℕ). count some (p - 1) 1 + bit (some v)) here)
    where
      here : 1 + (p - 1) ≡ p
      here = omega arith

      next : count some p 1 ≡ count some (p - 1) 1 + bit (some (1 + (p - 1)))
      next = let q : p ≡ suc (p - 1) = omega arith in ap (λ (v : ℕ). count some v 1) q ∙ count_more some (p - 1) 1

      size : length (up_to p) ≡ length (up_to (p - 1)) + length (look_at x sight p)
      size =
          let q : p - 1 + 1 ≡ p = omega arith in
          ap (λ (v : ℕ). length (up_to v)) (sym q)
          ∙ ap length (gather-next (look_at x sight) (p - 1))
          ∙ length-append (up_to (p - 1)) (look_at x sight (p - 1 + 1))
          ∙ ap (λ (v : ℕ). length (up_to (p - 1)) + length (look_at x sight v)) q

      same : ltb k r ≡ some p
      same =
          same_test (ltb k r) (some p)
          (λ t.
          lt-ltb 0 (length (look_at x sight p))
          (omega (arith, size, L.count, M.count, row-some sight, mul-le-mul_left (row_size sight) (ltb-true k r t))))
          (λ t.
          lt-ltb k r
          (⊎_elim (λ b. b) (λ b. absurd (omega (arith, size, L.count, M.count, mul-le-mul_left (row_size sight) b, ltb-true 0 (length (look_at x sight p)) t))) (lt_or_ge k r)))

  -- the widths that were passed over show none
  pub counted_on : (n p r end m : ℕ) (a : List (List ℕ)) (small : List ℕ) → p < r → r ≤ end + 1 → Onward x n p r end a small → m ≡ count some p 1 → m ≡ count some (r - 1) 1
  counted_on n p r end m a small l b O e =
      e ∙ sym (count_stop some p (r - 1) 1 (omega arith)
      (λ q c d. rw (look_passed n p r end a small O q (omega arith) (omega arith) (omega arith) (omega arith))))

  -- past the last width
  pub counted_whole : (p m n : ℕ) → n ≡ length x → top_of n < p → p ≤ top_of n + 1 → m ≡ count some (p - 1) 1 → m ≡ seen_at x sight
  unfolding top seen_at
  counted_whole p m n e l b c =
      let q : p - 1 ≡ top x = omega (arith, ap top_of e) in
      c ∙ ap (λ (v : ℕ). count some v 1) q

  pub counted_byte : (p k r m v : ℕ) (old out out' : List ℕ) → 1 ≤ p → Listing (row_size sight) old (up_to (p - 1)) k out → Listing (row_size sight) old (up_to p) r out' → m ≡ count some (p - 1) 1
      → v ≡ bool_byte (ltb k r) → m + v ≡ count some p 1
  counted_byte p k r m v old out out' h L M e q = ap (λ (b : ℕ). m + b) (q ∙ byte-bit (ltb k r)) ∙ counted_more p k r m old out out' h L M e

  -- no more than the widths so far
  pub counted_few : (p m : ℕ) → m ≡ count some (p - 1) 1 → m ≤ p - 1
  counted_few p m e = omega (arith, e, count_le some (p - 1) 1)
