-- `bench_widths::show_widths` meets its contract: each turn collects one width and replays the next one.
use Rattle.std.proofs.Common.{ℕ, List, ◌+◌, ◌-◌, ◌≤◌, ◌≡◌, refl, length, arith}
use lib.Seq.{length-take-le}
use Rattle.words.specs.Range.{gather}
use Rattle.text_outs.specs.declared.Out.{Out}
use Rattle.bench_shows.specs.Collecting.{Collects}
use Rattle.bench_shows.proofs.Collecting.{collects_none, collects_next}
use Rattle.bench_widths.specs.Views.{width_view, widths_of}
use Rattle.bench_widths.proofs.Reaching.{widths_few, reached-first, brief_own, moved_inside, listed-inside, ran-inside, width_collects, reached-next}
use Rattle.bench_widths.proofs.Replaying.{own_formed, replays_first, replays_table, replays_next}
use Rattle.bench_widths.proofs.show_widths.Goals.{After-widths-top}
use Rattle.bench_widths.proofs.show_widths.Goals as goal

-- the texts of the widths before w, and that of w
one_more : (f : ℕ → List ℕ) (w : ℕ) → 1 ≤ w → {buf mid new : List ℕ} {u v r : Out} → Collects buf u (gather f (w - 1) 1) mid v → Collects mid v (f w) new r
    → Collects buf u (gather f (w + 1 - 1) 1) new r
one_more f w low {buf} {mid} {new} {u} {v} {r} p q =
    let d : w - 1 + 1 ≡ w = omega arith in
    let e : w + 1 - 1 ≡ w - 1 + 1 = omega arith in
    rw e (collects_next f (w - 1) {new = new} {w = r} p (rw d q))

-- so few widths that u16 counts them
top_few : (c : After-widths-top) → c.widths-top.result ≤ 500
top_few c = omega (arith, c.widths-top.ensures, widths_few (length c.args.read.now) c.requires.0.few)

pub overflow_cast-top : goal.overflow_cast-top
overflow_cast-top c = omega (arith, top_few (goal.at.overflow_cast-top c).After-widths-top)

pub overflow_add-w-end : goal.overflow_add-w-end
overflow_add-w-end c = omega (arith, top_few (goal.at.overflow_add-w-end c).After-widths-top)

pub first_groups-requires : goal.first_groups-requires
first_groups-requires c = (c.requires.0.few, refl, c.empty_rooms-r.ensures.0)

pub loop-w-init : goal.loop-w-init
unfolding gather
loop-w-init c =
    let e = c.first_groups.ensures in (
      reached-first _ _,
      replays_first c.requires.0 e.0 e.1 c.empty_rooms-r.ensures.1,
      collects_none c.requires.1.inside,
    )

pub show_table-p-requires : goal.show_table-p-requires
show_table-p-requires c =
    let i = c.loop-w.invariant in
    let g = i.1.groups in
    let own = c.requires.0 in
    let here : c.loop-w.w ≤ widths_of (length c.args.read.now) = omega (arith, c.widths-top.ensures) in (
      brief_own own i.0 here _ (omega (arith, g.few, length-take-le (length c.args.read.now) c.loop-w.r.name (omega (arith, g.few, g.long)))),
      record { room = omega (arith, i.2.same, c.requires.1.room); inside = i.2.inside },
      moved_inside own i.0 here,
      listed-inside own i.0 here,
      ran-inside own i.0 here,
    )

pub replay_width-from-requires : goal.replay_width-from-requires
replay_width-from-requires c =
    let r = c.loop-w.invariant.1 in
    (r.groups, r.rooms, own_formed c.requires.0, r.splits)

pub loop-w-preserved : goal.loop-w-preserved
loop-w-preserved c =
    let i = c.loop-w.invariant in
    let own = c.requires.0 in
    let w = c.loop-w.w in
    let here : w ≤ widths_of (length c.args.read.now) = omega (arith, c.widths-top.ensures) in
    let e = replays_table own (omega arith) here i.1 in (
      reached-next own i.0 here e c.show_table-p.ensures,
      replays_next w (omega arith) i.1 c.replay_width-from.ensures,
      one_more (width_view c.args.read.now) w (omega arith) i.2 (width_collects own i.0 here e c.show_table-p.ensures),
    )

pub returns : goal.returns
returns c =
    let e : c.loop-w.w ≡ widths_of (length c.args.read.now) + 1 = omega (arith, c.widths-top.ensures) in
    let u : c.loop-w.w - 1 ≡ widths_of (length c.args.read.now) = omega arith in
    (rw e at c.loop-w.invariant.0, rw u at c.loop-w.invariant.2)
