-- How long the text of the moves can be: a u16 has at most 5 digits. Assumes nothing.
use Prim.Native.Nat.{ℕ, ◌*◌, ◌^◌, ◌≤◌, ◌<◌}
use mathlib.Core.List.{List, ◌++◌}
use native.Mathlib.Omega.{arith}
use lib.ListN.{length, get_or, length-append}
use Rattle.words.specs.Rows.{rows}
use Rattle.words.specs.Moves.{move_size, name_of, place_of}
use Rattle.row_moves.proofs.Read.{name-among, place_among}
use Rattle.text_puts.specs.Ascii.{ascii}
use Rattle.text_puts.specs.Numbers.{number_text}
use Rattle.text_puts.proofs.Decimals.{number_length}
use Rattle.text_puts.proofs.Bounds.{gather-bound}
use Rattle.text_groups.specs.Groups.{colon}
use Rattle.text_groups.proofs.Bounds.{cond-bound, spaced-bound}
use Rattle.text_moves.specs.Moves.{begins, ends, under_text, end_text, move_text, moves_text}

module _ (l : List ℕ) (small : (i : ℕ) → get_or l i 0 < 2 ^ 16) where
  move_bound : (k : ℕ) → length (move_text l k) ≤ 27
  unfolding move_text under_text end_text ascii
  move_bound k =
      let name : name_of l k < 2 ^ 16 = name-among (λ v. v < 2 ^ 16) l small k in
      let place : place_of l k < 2 ^ 16 = place_among (λ v. v < 2 ^ 16) l small k in
      simp length-append
      (omega (
        arith,
        cond-bound (begins l k) (ascii "  moved under " ++ number_text (name_of l k) colon) 20
            (simp length-append (omega (arith, number_length (name_of l k) 5 colon (omega arith) (omega arith)))),
        spaced-bound (place_of l k) 5 (omega arith) (omega arith),
        cond-bound (ends l k) (ascii "\n") 1 (omega arith),
      ))

  pub moves-bound : length (moves_text l) ≤ 27 * rows move_size l
  unfolding moves_text
  moves-bound = omega (arith, gather-bound (move_text l) (rows move_size l) 0 27 (λ k a b. move_bound k))
