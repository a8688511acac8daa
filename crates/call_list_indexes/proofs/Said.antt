-- What `list_index` answers and leaves in both slices: each answer says what document 02 says. Assumes nothing.
use Prim.Native.Nat.{ℕ, ◌*◌, ◌≤◌, ◌<◌}
use mathlib.Core.Path.{◌≡◌, sym, ap, ◌∙◌}
use mathlib.Core.Bool.{true}
use mathlib.Core.List.{List}
use native.Mathlib.Omega.{arith}
use lib.ListN.{length, take, drop, replicate}
use lib.Seq.{take_at}
use borrow.Author.Tests.{lt-ltb, le-ltb, le-leb, lt-leb}
use Rattle.words.specs.Reads.{most}
use Rattle.words.specs.Rows.{rows}
use Rattle.words.specs.Lists.{line_size, lines, line_count, in_mode}
use Rattle.words.specs.Moves.{top, top_of}
use Rattle.words.specs.Logs.{within}
use Rattle.std.specs.Prelude.{Result, Ok, Err}
use Rattle.words.specs.Answers.{both, refusal, refused_says, says}
use Rattle.words.specs.declared.Refusal.{Refusal}
use Rattle.words.specs.Calls.{refuse, too_long, afterwards, list_afterwards}
use Rattle.words.proofs.LineLayout.{line-some}
use Rattle.words_index.specs.Index.{in_order, entry_size, index, entry_count}
use Rattle.words_index.specs.Calls.{list_index_answer, list_index_leaves, list_index_beside, counts_say, list_indexed_says}
use Rattle.words_index.specs.declared.ListIndexed.{ListIndexed}
use Rattle.words_index.proofs.OfList.{lines_in_order, entries_top}
use Rattle.row_cells.specs.Listing.{Listing}
use Rattle.row_cells.proofs.Adding.{room_fits}
use Rattle.row_cells.proofs.Listed.{listing_rows, listing_room}
use Rattle.call_blocks.proofs.Indexing.{indexing_counted}

-- the contract of `list_index`: what it answers, and what it leaves in the slice of the list and in that of the index
abbrev pub Says : List ℕ → ℕ → List ℕ → List ℕ → Result ListIndexed Refusal → List ℕ → List ℕ → Type 0
Says x mode out s a out' s' =
    (list_indexed_says a ≡ list_index_answer x mode out s) × (out' ≡ list_index_leaves x mode out s) × (s' ≡ list_index_beside x mode out s)

module _ (x : List ℕ) (mode : ℕ) (out s : List ℕ) where
  pub long_said : most < length x → Says x mode out s (Err (Refusal.TooLong (length x))) out s
  unfolding says refused_says counts_say list_index_answer list_index_leaves list_index_beside list_afterwards afterwards refuse too_long refusal
  long_said l = let t = lt-ltb most (length x) l in (rw t, rw t, rw t)

  module _ (few : length x ≤ most) where
    pub mode_said : 1 < mode → Says x mode out s (Err (Refusal.OutOfRange mode)) out s
    unfolding says refused_says counts_say list_index_answer list_index_leaves list_index_beside list_afterwards afterwards refuse too_long refusal within
    mode_said l =
        let t = le-ltb most (length x) few in
        let u = le-leb 0 mode (omega arith) in
        let v = lt-leb mode 1 l in
        (rw (t, u, v), rw (t, u, v), rw (t, u, v))

    module _ (m : mode ≤ 1) where
      abbrev made : List ℕ
      made = lines x (in_mode x mode)

      abbrev count : ℕ
      count = line_count x (in_mode x mode)

      pub full_said : (c : ℕ) → c ≡ count → rows line_size out < c → (n : ℕ) → n ≡ length out → Says x mode out s (Err (Refusal.ListFull c)) (replicate n 0) s
      unfolding says refused_says counts_say list_index_answer list_index_leaves list_index_beside list_afterwards afterwards refuse too_long refusal within
      full_said c e l n q =
          let t = le-ltb most (length x) few in
          let u = le-leb 0 mode (omega arith) in
          let v = le-leb mode 1 m in
          let w = lt-ltb (rows line_size out) count (omega (arith, e, l)) in
          (rw (t, u, v, w, e), rw (t, u, v, w, q), rw (t, u, v, w))

      pub index_full_said : (e : ℕ) → count ≤ rows line_size out → e ≡ entry_count made → rows entry_size s < e → Says x mode out s (Err (Refusal.IndexFull e)) out s
      unfolding says refused_says counts_say list_index_answer list_index_leaves list_index_beside list_afterwards afterwards refuse too_long refusal within
      index_full_said e l q b =
          let t = le-ltb most (length x) few in
          let u = le-leb 0 mode (omega arith) in
          let v = le-leb mode 1 m in
          let w = le-ltb (rows line_size out) count l in
          let z = lt-ltb (rows entry_size s) (entry_count made) (omega (arith, q, b)) in
          (rw (t, u, v, w, z, q), rw (t, u, v, w, z), rw (t, u, v, w, z))

      -- the list is written
      module _ (c : ℕ) (out' : List ℕ) (L : Listing line_size out made c out') where
        pub lines-counted : c ≡ count
        unfolding line_count
        lines-counted = sym (listing_rows line_size out made out' c line-some L)

        pub same-room : rows line_size out ≡ rows line_size out'
        same-room = listing_room line_size out made out' c line-some L

        module _ (l : c ≤ rows line_size out) where
          pub size_fits : line_size * c ≤ length out'
          size_fits = omega (arith, room_fits line_size out c l, L.same)

          -- so its front is the list, which is in order
          pub front_list : take (line_size * c) out' ≡ made
          front_list =
              ap (take (line_size * c)) (L.front (omega (arith, L.count, room_fits line_size out c l)))
              ∙ take_at made (drop (length made) out) (line_size * c) L.count

          pub front_in_order : in_order (take (line_size * c) out') ≡ true
          front_in_order = rw front_list (lines_in_order x (in_mode x mode))

          pub both_said : entry_count made ≤ rows entry_size s → (e : ℕ) (s' : List ℕ) → Listing entry_size s (index (take (line_size * c) out')) e s' →
              Says x mode out s (Ok (record { lines = c; entries = e })) out' s'
          unfolding says refused_says counts_say list_index_answer list_index_leaves list_index_beside list_afterwards afterwards refuse too_long both within
          both_said b e s' M =
              let I : Listing entry_size s (index made) e s' = rw front_list at M in
              let q : entry_count made ≡ e = indexing_counted made s s' e I in
              let t = le-ltb most (length x) few in
              let u = le-leb 0 mode (omega arith) in
              let v = le-leb mode 1 m in
              let w = le-ltb (rows line_size out) count (omega (arith, l, lines-counted)) in
              let z = le-ltb (rows entry_size s) (entry_count made) b in (
                rw (t, u, v, w, z, lines-counted, q),
                rw (t, u, v, w, z) (L.front (omega (arith, L.count, room_fits line_size out c l))),
                rw (t, u, v, w, z) (I.front (omega (arith, I.count, room_fits entry_size s e (omega (arith, b, q))))),
              )

-- an index with room for an entry of each width has room for any
pub room_enough : (x : List ℕ) (mode : ℕ) (s : List ℕ) (t : ℕ) → t ≡ top_of (length x) → t ≤ rows entry_size s → entry_count (lines x (in_mode x mode)) ≤ rows entry_size s
unfolding top
room_enough x mode s t e h = omega (arith, e, h, entries_top x (in_mode x mode))
