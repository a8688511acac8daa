-- Document 01, "What a call says no to", and what the requests of document 02 add to it, as a table for each call. Its rows are the numbers from 0, which is success; each says when its number
-- is given: its own rule holds, and none before it in the order does.
use Prim.Native.Nat.{ℕ, zero, suc, ◌*◌, ◌≤◌, ◌<◌}
use mathlib.Core.Path.{◌≡◌}
use mathlib.Core.Logic.{◌⊎◌, ◌↔◌}
use mathlib.Core.Bool.{true, false}
use mathlib.Core.List.{List, [], ◌∷◌}
use lib.ListN.{length, replicate}
use Rattle.words.specs.Rows.{rows}
use Rattle.words.specs.Reads.{most}
use Rattle.words.specs.Lists.{line_size, lines, line_count, in_mode}
use Rattle.words.specs.Groups.{table}
use Rattle.words.specs.Moves.{top_of, move_size, log, M}
use Rattle.words.specs.Replay.{replay}
use Rattle.words.specs.Logs.{first_bad, well_formed}
use Rattle.words.specs.Answers.{Answer}
use Rattle.words.proofs.Afterwards.{front}
use Rattle.words_index.specs.Index.{first_loose, in_order, entry_size, index, entry_count}
use Rattle.words_runs.specs.Runs.{run_size, runs, run_count}
use Rattle.words_claims.specs.Calls.{verdict, claimed_says}
use Rattle.words_primers.specs.Primers.{longest, first_foreign, places, reverse_complement}
use Rattle.words_primers.proofs.Turning.{BadLength}

-- one row: when its number is given, what is returned with it, and the lent slice afterwards
pub record Row : Type 1 where
  pub when : Type 0
  pub returns : List ℕ
  pub leaves : List ℕ

abbrev pub row_of : Type 0 → ℕ → List ℕ → Row
row_of t v s = record { when = t; returns = v ∷ []; leaves = s }

-- a number that a call never gives
abbrev pub never : Row
never = row_of ⊥ 0 []

-- the row of number k; a number after the last row is never given
abbrev pub row_at : List Row → ℕ → Row
row_at [] k = never
row_at (r ∷ t) zero = r
row_at (r ∷ t) (suc k) = row_at t k

-- where row k says so, the answer is number k with its value, and the slice is as the row leaves it
abbrev pub Follows : List Row → Answer → List ℕ → Type 0
Follows t a s = (k : ℕ) → (row_at t k).when → (a ≡ record { number = k; values = (row_at t k).returns }) × (s ≡ (row_at t k).leaves)

-- an answer and a slice go by a table: each number is given exactly when its row says, with its value and its slice
pub record By (t : List Row) (a : Answer) (s : List ℕ) : Type 0 where
  pub exactly : (k : ℕ) → (a.number ≡ k) ↔ (row_at t k).when
  pub gives : Follows t a s

-- the list of a read x in a mode, with c lines
abbrev pub list_rows : List ℕ → ℕ → List ℕ → List Row
list_rows x mode out =
    let c = line_count x (in_mode x mode) in
    row_of ((length x ≤ most) × (mode ≤ 1) × (c ≤ rows line_size out)) c (front (lines x (in_mode x mode)) out)
    ∷ row_of (most < length x) (length x) out
    ∷ row_of ((length x ≤ most) × (1 < mode)) mode out
    ∷ row_of ((length x ≤ most) × (mode ≤ 1) × (rows line_size out < c)) c (replicate (length out) 0)
    ∷ []

-- the runs of a read x, c of them
abbrev pub runs_rows : List ℕ → List ℕ → List Row
runs_rows x out =
    let c = run_count x in
    row_of ((length x ≤ most) × (c ≤ rows run_size out)) c (front (runs x) out)
    ∷ row_of (most < length x) (length x) out
    ∷ never
    ∷ row_of ((length x ≤ most) × (rows run_size out < c)) c (replicate (length out) 0)
    ∷ []

-- the group table at a width
abbrev pub table_rows : List ℕ → ℕ → List ℕ → List Row
table_rows x w out =
    row_of ((length x ≤ most) × (1 ≤ w) × (w ≤ length x) × (length x ≤ length out)) (length x) (front (table x w) out)
    ∷ row_of (most < length x) (length x) out
    ∷ row_of ((length x ≤ most) × ((w < 1) ⊎ (length x < w))) w out
    ∷ never
    ∷ row_of ((length x ≤ most) × (1 ≤ w) × (w ≤ length x) × (length out < length x)) (length x) out
    ∷ []

-- the log
abbrev pub log_rows : List ℕ → List ℕ → List Row
log_rows x out =
    row_of ((length x ≤ most) × (move_size * M (length x) ≤ length out)) (rows move_size (log x)) (front (log x) out)
    ∷ row_of (most < length x) (length x) out
    ∷ never
    ∷ never
    ∷ row_of ((length x ≤ most) × (length out < move_size * M (length x))) (move_size * M (length x)) out
    ∷ []

-- w is a width up to which a log can be replayed, for a read of n bytes
abbrev pub ReplayWidth : ℕ → ℕ → Type 0
ReplayWidth n w = (1 ≤ n) × (1 ≤ w) × (w ≤ top_of n)

-- the replay of a log l up to a width
abbrev pub replay_rows : List ℕ → List ℕ → ℕ → List ℕ → List Row
replay_rows x l w out =
    let n = length x in
    row_of ((n ≤ most) × ReplayWidth n w × (n ≤ length out) × (well_formed n l ≡ true)) n (front (replay x l w) out)
    ∷ row_of (most < n) n out
    ∷ row_of ((n ≤ most) × ((n ≡ 0) ⊎ ((w < 1) ⊎ (top_of n < w)))) w out
    ∷ never
    ∷ row_of ((n ≤ most) × ReplayWidth n w × (length out < n)) n out
    ∷ row_of ((n ≤ most) × ReplayWidth n w × (n ≤ length out) × (well_formed n l ≡ false)) (first_bad n l) out
    ∷ []

-- the claim check, which has no slice; what it returns is the number of its verdict and what is told with it, and when each is given stands in Claims.antt
abbrev pub claim_rows : List ℕ → ℕ → ℕ → ℕ → List Row
claim_rows x i p e = record { when = length x ≤ most; returns = (claimed_says (verdict x i p e)).values; leaves = [] } ∷ row_of (most < length x) (length x) [] ∷ []

-- a primer of 1 to 60 letters, none of them foreign
abbrev pub GoodPrimer : List ℕ → Type 0
GoodPrimer u = (1 ≤ length u) × (length u ≤ longest) × (length u ≤ first_foreign u)

-- one with a foreign letter
abbrev pub HasForeign : List ℕ → Type 0
HasForeign u = (1 ≤ length u) × (length u ≤ longest) × (first_foreign u < length u)

-- the c places of a primer u in a read x
abbrev pub find_rows : List ℕ → List ℕ → List ℕ → List Row
find_rows x u out =
    let c = length (places x u) in
    row_of ((length x ≤ most) × GoodPrimer u × (c ≤ length out)) c (front (places x u) out)
    ∷ row_of (most < length x) (length x) out
    ∷ never
    ∷ row_of ((length x ≤ most) × GoodPrimer u × (length out < c)) c (replicate (length out) 0)
    ∷ never
    ∷ never
    ∷ never
    ∷ never
    ∷ row_of ((length x ≤ most) × BadLength u) (length u) out
    ∷ row_of ((length x ≤ most) × HasForeign u) (first_foreign u) out
    ∷ []

-- the reverse complement of a primer u
abbrev pub turn_rows : List ℕ → List ℕ → List Row
turn_rows u out =
    row_of (GoodPrimer u × (length u ≤ length out)) (length u) (front (reverse_complement u) out)
    ∷ never
    ∷ never
    ∷ never
    ∷ row_of (GoodPrimer u × (length out < length u)) (length u) out
    ∷ never
    ∷ never
    ∷ never
    ∷ row_of (BadLength u) (length u) out
    ∷ row_of (HasForeign u) (first_foreign u) out
    ∷ []

-- the index of a list l alone
abbrev pub index_rows : List ℕ → List ℕ → List Row
index_rows l s =
    row_of ((in_order l ≡ true) × (entry_count l ≤ rows entry_size s)) (entry_count l) (front (index l) s)
    ∷ never
    ∷ never
    ∷ never
    ∷ never
    ∷ never
    ∷ row_of (in_order l ≡ false) (first_loose l) s
    ∷ row_of ((in_order l ≡ true) × (rows entry_size s < entry_count l)) (entry_count l) s
    ∷ []

-- list and index in one call, for a slice that success leaves as `made`, refusal 3 as `full`, and any other refusal as it was
abbrev pub both_rows : List ℕ → ℕ → List ℕ → List ℕ → List ℕ → List ℕ → List ℕ → List Row
both_rows x mode out s made full old =
    let c = line_count x (in_mode x mode) in
    let e = entry_count (lines x (in_mode x mode)) in
    record { when = (length x ≤ most) × (mode ≤ 1) × (c ≤ rows line_size out) × (e ≤ rows entry_size s); returns = c ∷ e ∷ []; leaves = made }
    ∷ row_of (most < length x) (length x) old
    ∷ row_of ((length x ≤ most) × (1 < mode)) mode old
    ∷ row_of ((length x ≤ most) × (mode ≤ 1) × (rows line_size out < c)) c full
    ∷ never
    ∷ never
    ∷ never
    ∷ row_of ((length x ≤ most) × (mode ≤ 1) × (c ≤ rows line_size out) × (rows entry_size s < e)) e old
    ∷ []

-- for the slice of the list, and for that of the index
abbrev pub list_index_rows : List ℕ → ℕ → List ℕ → List ℕ → List Row
list_index_rows x mode out s = both_rows x mode out s (front (lines x (in_mode x mode)) out) (replicate (length out) 0) out

abbrev pub beside_rows : List ℕ → ℕ → List ℕ → List ℕ → List Row
beside_rows x mode out s = both_rows x mode out s (front (index (lines x (in_mode x mode))) s) s s
