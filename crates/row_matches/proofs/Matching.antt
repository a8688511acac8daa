-- Parts compared one after another are their whole compared, and at its end the list is compared with all of it. Assumes nothing.
use Prim.Native.Nat.{ℕ, ◌+◌, ◌≤◌}
use mathlib.Core.Path.{◌≡◌, refl, sym, ap, ◌∙◌}
use mathlib.Core.Logic.{⊎_elim}
use mathlib.Core.Bool.{true, false, ◌&&◌}
use mathlib.Core.List.{List, [], ◌++◌, append_assoc}
use native.Mathlib.Omega.{arith}
use lib.ListN.{length, take, drop, length-take, length-drop}
use lib.Seq.{drop-drop}
use Rattle.std.specs.Prelude.{Result, Ok, Err}
use Rattle.words.specs.Range.{gather}
use Rattle.words.specs.Reads.{same}
use Rattle.words.specs.Lists.{line_of, line_size}
use Rattle.words.proofs.Tests.{either}
use Rattle.words.proofs.Ranges.{append-nil, gather_more}
use Rattle.words.proofs.Stretches.{same_is}
use Rattle.words.proofs.LineLayout.{line-length}
use Rattle.row_matches.specs.Matching.{reached, further, nothing, passed, ends, at_end, Passes}
use Rattle.row_matches.proofs.Same.{same_join, same_end}

-- at the end
ends_none : (list : List ℕ) (n : Result ℕ ℕ) → reached n ≤ length list → ends list n [] ≡ at_end list n
unfolding ends
ends_none list (Ok at) h = same_end list at h
ends_none list (Err at) h = refl

module _ {list : List ℕ} where
  pub passes_none : {m : Result ℕ ℕ} → reached m ≤ length list → Passes [] list m m
  passes_none h = record { inside = h; left = λ rest. refl }

  pub passes_join : {u v : List ℕ} {m n o : Result ℕ ℕ} → Passes u list m n → Passes v list n o → Passes (u ++ v) list m o
  passes_join {u} {v} {m} a b = record { inside = b.inside; left = λ rest. ap (ends list m) (append_assoc u v rest) ∙ a.left (v ++ rest) ∙ b.left rest }

  -- parts over a range: none, and one more
  pub range_none : (f : ℕ → List ℕ) (j : ℕ) {m : Result ℕ ℕ} → reached m ≤ length list → Passes (gather f 0 j) list m m
  unfolding gather
  range_none f j h = passes_none h

  pub range_next : (f : ℕ → List ℕ) (d j k : ℕ) {m n o : Result ℕ ℕ} → k ≡ j + d → Passes (gather f d j) list m n → Passes (f k) list n o → Passes (gather f (d + 1) j) list m o
  range_next f d j k {m} {n} {o} e a b =
      let more : gather f (d + 1) j ≡ gather f d j ++ f k = ap (λ (v : ℕ). gather f v j) (omega arith) ∙ gather_more f d j ∙ ap (λ (v : ℕ). gather f d j ++ f v) (sym e) in
      rw more (passes_join a b)

  -- all of it, from the beginning
  pub passes_all : {whole : List ℕ} {n : Result ℕ ℕ} → Passes whole list nothing n → same whole list ≡ at_end list n
  unfolding ends
  passes_all {whole} {n} p = ap (λ (l : List ℕ). same l list) (sym (append-nil whole)) ∙ p.left [] ∙ ends_none list n p.inside

-- one part: as it is compared, and what that says of all that may still come
module _ (part list : List ℕ) where
  -- the part, then the rest
  joined : (at : ℕ) (rest : List ℕ) → same (part ++ rest) (drop at list) ≡ same part (take (length part) (drop at list)) && same rest (drop (at + length part) list)
  joined at rest = same_join part rest (drop at list) ∙ rw (drop-drop (length part) at list)

  -- a part that stands there lies in the list
  lies_inside : (at : ℕ) → same part (take (length part) (drop at list)) ≡ true → at ≤ length list → at + length part ≤ length list
  lies_inside at s h =
      let q : part ≡ take (length part) (drop at list) = same_is part (take (length part) (drop at list)) s in
      omega (arith, h, ap length q, length-take (length part) (drop at list), length-drop at list)

  on_passes : (m : Result ℕ ℕ) → same part (take (length part) (drop (reached m) list)) ≡ true → reached m ≤ length list → Passes part list m (further (length part) m)
  unfolding ends
  on_passes (Ok at) s h = record { inside = lies_inside at s h; left = λ rest. joined at rest ∙ rw s }
  on_passes (Err at) s h = record { inside = lies_inside at s h; left = λ rest. refl }

  off_passes : (m : Result ℕ ℕ) → same part (take (length part) (drop (reached m) list)) ≡ false → reached m ≤ length list → Passes part list m (Err (reached m))
  unfolding ends
  off_passes (Ok at) s h = record { inside = h; left = λ rest. joined at rest ∙ rw s }
  off_passes (Err at) s h = record { inside = h; left = λ rest. refl }

  module _ (m : Result ℕ ℕ) where
    passed_on : same part (take (length part) (drop (reached m) list)) ≡ true → passed part list m ≡ further (length part) m
    unfolding passed
    passed_on s = rw s

    passed-off : same part (take (length part) (drop (reached m) list)) ≡ false → passed part list m ≡ Err (reached m)
    unfolding passed
    passed-off s = rw s

    pub passed_passes : reached m ≤ length list → Passes part list m (passed part list m)
    passed_passes h =
        ⊎_elim
        (λ (s : same part (take (length part) (drop (reached m) list)) ≡ true). rw (passed_on s) (on_passes m s h))
        (λ (s : same part (take (length part) (drop (reached m) list)) ≡ false). rw (passed-off s) (off_passes m s h))
        (either (same part (take (length part) (drop (reached m) list))))

-- a line
module _ (list : List ℕ) (m : Result ℕ ℕ) (i p e : ℕ) where
  pub line_on : same (line_of i p e) (take line_size (drop (reached m) list)) ≡ true → further line_size m ≡ passed (line_of i p e) list m
  line_on s = rw (← line-length i p e) (sym (passed_on (line_of i p e) list m (rw (line-length i p e) s)))

  pub line-off : same (line_of i p e) (take line_size (drop (reached m) list)) ≡ false → Err (reached m) ≡ passed (line_of i p e) list m
  line-off s = sym (passed-off (line_of i p e) list m (rw (line-length i p e) s))
