-- The part of the read that the motif call hands back, the entry that the log reader gives and the one that is looked up, and exactly when. Assumes nothing.
use Prim.Native.Nat.{ℕ, ◌+◌, ◌-◌, ◌≤◌, ◌<◌}
use mathlib.Core.Path.{◌≡◌, refl, ap, ◌∙◌}
use mathlib.Core.Logic.{◌⊎◌, inl, inr, ◌↔◌, ◌≢◌}
use mathlib.Core.Bool.{Bool, true, false}
use mathlib.Core.List.{List, []}
use native.Mathlib.Omega.{arith}
use lib.ListN.{length, take, drop, length-drop}
use lib.Seq.{length-take-le}
use lib.Dec.{eqb}
use borrow.Author.Tests.{lt-ltb, le-ltb, eq-eqb, ne_eqb}
use denote.Ref.{Bor}
use Rattle.words.specs.Range.{first}
use Rattle.words.specs.Rows.{rows, cell}
use Rattle.words.specs.Moves.{move_size, width_of, name_of, place_of}
use Rattle.words.specs.Calls.{reader_takes}
use Rattle.words.specs.declared.Entry.{Entry}
use Rattle.words.proofs.Tests.{clash, lt_or_ge}
use Rattle.words.proofs.Searches.{first_hit, first_ended}
use Rattle.words_index.specs.Index.{entry_size, first_entry}
use Rattle.words_index.specs.Calls.{lookup_gives}
use Rattle.words_index.specs.declared.Looked.{Looked}
use Rattle.words.proofs.Repeats.{repeat_is}
use Rattle.words_claims.specs.Calls.{shown_of, motif_length, motif_from, motif}
use Rattle.std.specs.Prelude.{Option, Some, None, Result, Ok, Err}
use Rattle.words.specs.declared.Refusal.{Refusal}
use Rattle.words_claims.specs.declared.Verdict.{Verdict}
use Rattle.words_claims.proofs.Truth.{Says, truth_told}
use Rattle.words_claims.proofs.Motifs.{length_of, shown-fits, shown_from, shown_bytes, hidden_from, hidden_bytes}

-- ---- the motif

-- r is the part of the slice s that has so many bytes from a place on, counted from 0
abbrev pub PartOf : Bor (List ℕ) → ℕ → ℕ → Bor (List ℕ) → Type 0
PartOf s from count r = (r.ref_ptr.0 ≡ s.ref_ptr.0) × (r.ref_ptr.1 ≡ s.ref_ptr.1 + from) × (r.now ≡ take count (drop from s.now)) × (length r.now ≡ count)

-- what is handed back as r of the read s where an answer to the claim is true: the motif for yes, the root where one is named, both at the claimed start; else the empty
-- part at the read's front
abbrev pub Hands : Bor (List ℕ) → ℕ → ℕ → Result Verdict Refusal → Bor (List ℕ) → Type 0
Hands s i p (Ok Verdict.Yes) r = PartOf s (i - 1) p r
Hands s i p (Ok (Verdict.Copies c)) r = PartOf s 0 0 r
Hands s i p (Ok (Verdict.Shorter d)) r = PartOf s (i - 1) d r
Hands s i p (Ok Verdict.Outside) r = PartOf s 0 0 r
Hands s i p (Err why) r = PartOf s 0 0 r

abbrev pub MotifOf : Bor (List ℕ) → ℕ → ℕ → ℕ → Bor (List ℕ) → Type 0
MotifOf s i p e r = (v : Result Verdict Refusal) → Says s.now i p e v → Hands s i p v r

pub motif_of : (s : Bor (List ℕ)) (i p e : ℕ) (r : Bor (List ℕ)) → r.now ≡ motif s.now i p e → r.ref_ptr.0 ≡ s.ref_ptr.0 → r.ref_ptr.1 ≡ s.ref_ptr.1 + motif_from s.now i p e → MotifOf s i p e r
unfolding shown_of
motif_of s i p e r bytes block from v q = by v q (length_of x i p e v (truth_told x i p e v q))
  where
    x : List ℕ
    x = s.now

    shows : (c : ℕ) → motif_length x i p e ≡ c → 1 ≤ c → PartOf s (i - 1) c r
    shows c w l =
        let some : 1 ≤ motif_length x i p e = omega arith in
        let fits = shown-fits x i p e some in
        let made : r.now ≡ take c (drop (i - 1) x) = rw w at (bytes ∙ shown_bytes x i p e some) in
        (block, rw (shown_from x i p e some) at from, made, ap length made ∙ length-take-le c (drop (i - 1) x) (omega (arith, length-drop (i - 1) x, fits, w)))

    hides : motif_length x i p e ≡ 0 → PartOf s 0 0 r
    hides w = let made : r.now ≡ [] = bytes ∙ hidden_bytes x i p e w in (block, rw (hidden_from x i p e w) at from, made, ap length made)

    by : (v : Result Verdict Refusal) → Says x i p e v → motif_length x i p e ≡ shown_of p v → Hands s i p v r
    by (Ok Verdict.Yes) q w = shows p w (repeat_is x i p e q.1).period
    by (Ok (Verdict.Copies c)) q w = hides w
    by (Ok (Verdict.Shorter d)) q w = shows d w q.2
    by (Ok Verdict.Outside) q w = hides w
    by (Err why) q w = hides w

-- ---- the log reader

-- one call on the log l at place k, which gives e and goes on from place k'
pub record TakesOf (l : List ℕ) (k : ℕ) (e : Option Entry) (k' : ℕ) : Type 0 where
  pub entry : k < rows move_size l → (e ≡ Some (record { width = width_of l k; name = name_of l k; position = place_of l k })) × (k' ≡ k + 1)
  pub ended : rows move_size l ≤ k → (e ≡ None) × (k' ≡ k)
  pub exactly : (e ≡ None) ↔ (rows move_size l ≤ k)

is_ended : Option Entry → Bool
is_ended (Some e) = false
is_ended None = true

pub takes_of : (l : List ℕ) (k : ℕ) (e : Option Entry) (k' : ℕ) → e ≡ (reader_takes l k).entry → k' ≡ (reader_takes l k).at → TakesOf l k e k'
unfolding reader_takes is_ended
takes_of l k e k' given at = record { entry = entry; ended = ended; exactly = (λ z. only z (lt_or_ge k (rows move_size l)), λ h. (ended h).0) }
  where
    entry : k < rows move_size l → (e ≡ Some (record { width = width_of l k; name = name_of l k; position = place_of l k })) × (k' ≡ k + 1)
    entry h = let t = lt-ltb k (rows move_size l) h in (given ∙ rw t, at ∙ rw t)

    ended : rows move_size l ≤ k → (e ≡ None) × (k' ≡ k)
    ended h = let t = le-ltb k (rows move_size l) h in (given ∙ rw t, at ∙ rw t)

    only : e ≡ None → (k < rows move_size l) ⊎ (rows move_size l ≤ k) → rows move_size l ≤ k
    only z (inl h) = clash (ap is_ended z) (ap is_ended (entry h).0)
    only z (inr h) = h

-- ---- the lookup

-- what a lookup of the period p in the slice s gives: its first entry, or that none has it
pub record LooksOf (s : List ℕ) (p : ℕ) (r : Option Looked) : Type 0 where
  pub entry : (k : ℕ) → k < rows entry_size s → cell entry_size s k 0 ≡ p → ((h : ℕ) → h < k → cell entry_size s h 0 ≢ p)
      → r ≡ Some (record { place = k; first = cell entry_size s k 1; lines = cell entry_size s k 2; largest = cell entry_size s k 3 })
  pub nothing : ((k : ℕ) → k < rows entry_size s → cell entry_size s k 0 ≢ p) → r ≡ None

pub looks_of : (s : List ℕ) (p : ℕ) (r : Option Looked) → r ≡ lookup_gives s p → LooksOf s p r
unfolding lookup_gives first_entry
looks_of s p r e = record { entry = entry; nothing = nothing }
  where
    entry : (k : ℕ) → k < rows entry_size s → cell entry_size s k 0 ≡ p → ((h : ℕ) → h < k → cell entry_size s h 0 ≢ p)
        → r ≡ Some (record { place = k; first = cell entry_size s k 1; lines = cell entry_size s k 2; largest = cell entry_size s k 3 })
    entry k b q m =
        let f : first (λ h. eqb (cell entry_size s h 0) p) (rows entry_size s) 0 ≡ k = first_hit (λ h. eqb (cell entry_size s h 0) p) (rows entry_size s) 0 k (λ h a c. ne_eqb (cell entry_size s h 0) p (m h c)) (omega arith) (omega arith) (eq-eqb (cell entry_size s k 0) p q) in
        e ∙ rw (f, lt-ltb k (rows entry_size s) b) refl

    nothing : ((k : ℕ) → k < rows entry_size s → cell entry_size s k 0 ≢ p) → r ≡ None
    nothing m =
        let n = rows entry_size s in
        let f : first (λ h. eqb (cell entry_size s h 0) p) n 0 ≡ n = first_ended (λ h. eqb (cell entry_size s h 0) p) n 0 n (λ h a c. ne_eqb (cell entry_size s h 0) p (m h c)) (omega arith) in
        e ∙ rw (f, le-ltb n n (omega arith)) refl
