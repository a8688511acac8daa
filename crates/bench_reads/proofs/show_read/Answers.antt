-- `bench_reads::show_read` meets its contract: the log and the runs of the read are made, whole.
use Rattle.std.proofs.Common.{◌*◌, ◌≤◌, ◌≡◌, ℕ, refl, sym, length, take, arith}
use lib.ListN.{length-replicate}
use lib.Seq.{length-take-le}
use Rattle.words.specs.Moves.{log}
use Rattle.words_runs.specs.Runs.{runs}
use Rattle.bench_reads.proofs.Made.{log-room, runs-room, log_made, runs_made, log_whole, runs_whole}
use Rattle.bench_reads.proofs.show_read.Goals.{After-move_size, After-run_size}
use Rattle.bench_reads.proofs.show_read.Goals as goal

-- the front that is cut off the log's array is the log, and lies in it
moves-made : (c : After-move_size) →
    (take (c.move_size.result * c.unwrap-found.result) c.log.new.out ≡ log c.args.read.now)
    × (c.move_size.result * c.unwrap-found.result ≤ length c.log.new.out)
moves-made c =
    rw c.move_size.ensures (log_whole _ _ c.requires.0 c.unwrap-found.ensures log-room c.log.ensures.0 c.log.ensures.1)

pub overflow_mul-moves : goal.overflow_mul-moves
overflow_mul-moves c =
    omega (arith, (moves-made (goal.at.overflow_mul-moves c).After-move_size).1, c.log.auto.out, length-replicate {A = ℕ} 29970 0)

-- and so is the front of the runs' array
runs-made : (c : After-run_size) →
    (take (c.run_size.result * c.unwrap-maximal.result) c.runs.new.out ≡ runs c.args.read.now)
    × (c.run_size.result * c.unwrap-maximal.result ≤ length c.runs.new.out)
runs-made c =
    rw c.run_size.ensures
    (runs_whole _ _ c.requires.0 c.unwrap-maximal.ensures runs-room c.requires.3 c.runs.ensures.0 c.runs.ensures.1)

pub overflow_mul-ran : goal.overflow_mul-ran
overflow_mul-ran c =
    omega (arith, (runs-made (goal.at.overflow_mul-ran c).After-run_size).1, c.runs.auto.out, length-replicate {A = ℕ} 30000 0)

pub slice_bounds-log-end-2 : goal.slice_bounds-log-end-2
slice_bounds-log-end-2 c = (moves-made (goal.at.slice_bounds-log-end-2 c).After-move_size).1

pub slice_bounds-show_lists-end : goal.slice_bounds-show_lists-end
slice_bounds-show_lists-end c = sym (length-take-le _ _ (moves-made (goal.at.slice_bounds-show_lists-end c).After-move_size).1)

pub slice_bounds-runs-end-2 : goal.slice_bounds-runs-end-2
slice_bounds-runs-end-2 c = (runs-made (goal.at.slice_bounds-runs-end-2 c).After-run_size).1

pub slice_bounds-show_lists-end-3 : goal.slice_bounds-show_lists-end-3
slice_bounds-show_lists-end-3 c = sym (length-take-le _ _ (runs-made (goal.at.slice_bounds-show_lists-end-3 c).After-run_size).1)

pub show_lists-requires : goal.show_lists-requires
show_lists-requires c =
    let at = goal.at.show_lists-requires c in (
      record {
        few = c.requires.0;
        log = (moves-made at.After-move_size).0;
        list = rw c.line_size.ensures c.requires.2;
        runs = (runs-made at.After-run_size).0;
      },
      c.requires.4,
    )

pub unwrap-found-requires : goal.unwrap-found-requires
unwrap-found-requires c = rw (log_made _ _ c.requires.0 log-room c.log.ensures.0) refl

pub unwrap-maximal-requires : goal.unwrap-maximal-requires
unwrap-maximal-requires c = rw (runs_made _ _ c.requires.0 runs-room c.requires.3 c.runs.ensures.0) refl
