-- `marker_fits::fit` meets its contract: each return is the definition's, way by way. Assumes nothing.
use Prim.Native.Nat.{ℕ, suc, ◌+◌, ◌-◌, ◌*◌, ◌/◌, ◌≤◌, ◌<◌}
use mathlib.Core.Path.{◌≡◌, sym, ap, ◌∙◌}
use mathlib.Core.Bool.{true, false}
use mathlib.Core.List.{List}
use native.Mathlib.Omega.{arith}
use lib.ListN.{length}
use Rattle.std.specs.Prelude.{Option, Some, None}
use Rattle.std.specs.Option.{IfSome, is_some, unwrap_or}
use Rattle.words.specs.Range.{first}
use Rattle.words.specs.Repeats.{primitive}
use Rattle.words_markers.specs.Fits.{fitting}
use Rattle.words_markers.proofs.Starts.{motif-some, motif_short, motif-written, none_start, none_found, more_found, one_found}
use Rattle.marker_fits.proofs.Whole.{whole, not_whole}
use Rattle.marker_fits.proofs.fit.Goals.{Else-read-p, Else-root_at-p, In-Some, then-p-lt1-via-then-p-lt1, then-p-lt1-via-else-p-lt1+then-read-p}
use Rattle.marker_fits.proofs.fit.Goals as goal

-- the motif that passed
short : (c : Else-read-p) → (1 ≤ length c.args.motif.now) × (2 * length c.args.motif.now ≤ length c.args.read.now)
short c =
    let l : length c.args.motif.now ≤ length c.args.read.now / 2 = c.if-read-p.false in
    (c.if-p-lt1.false, omega arith)

prim : (c : Else-root_at-p) → primitive c.args.motif.now 1 (length c.args.motif.now) ≡ true
prim c = whole _ c.if-p-lt1.false _ c.root_at.ensures c.if-root_at-p.false

-- what a search answers tells whether its first fit v is a position
told : (r : Option ℕ) (n v : ℕ) → (unwrap_or r (suc n) ≡ v) × IfSome r (λ k. k ≤ n) → (is_some r ≡ true → v < suc n) × (is_some r ≡ false → v ≡ suc n)
told None n v f = (λ t. cc, λ t. sym f.0)
told (Some k) n v f = (λ t. omega (arith, f.0, f.1), λ t. cc)

-- the second search starts behind the first fit, i
module _ (x m : List ℕ) (lo hi i : ℕ) where
  abbrev next : ℕ → ℕ
  next j = first (fitting x m 0 hi) (suc (length x) - j) j

  second : i ≡ next lo → (r : Option ℕ) → (unwrap_or r (suc (length x)) ≡ next (i + 1)) × IfSome r (λ k. k ≤ length x) → (is_some r ≡ true → next (suc (next lo)) < suc (length x)) × (is_some r ≡ false → next (suc (next lo)) ≡ suc (length x))
  second e r f = let q : i + 1 ≡ suc (next lo) = omega (arith, e) in rw (ap next q) at (told r (length x) (next (i + 1)) f)

pub returns-then-p-lt1 : goal.returns-then-p-lt1
returns-then-p-lt1 c = sym (none_start _ _ _ _ (λ i. elim c.then-p-lt1.branch [ then-p-lt1-via-then-p-lt1 w ↦ motif-some _ _ _ _ i w.if-p-lt1.true | then-p-lt1-via-else-p-lt1+then-read-p w ↦ motif_short _ _ _ _ i w.if-read-p.true ]))

pub returns-then-root_at-p : goal.returns-then-root_at-p
returns-then-root_at-p c =
    sym (none_start _ _ _ _ (λ i. motif-written _ _ _ _ i (not_whole _ c.if-p-lt1.false _ c.root_at.ensures c.if-root_at-p.true)))

pub next_fit-requires : goal.next_fit-requires
next_fit-requires c =
    let h = short (goal.at.next_fit-requires c).Else-read-p in
    (c.requires.0, c.requires.1, h.0, h.1, c.requires.2, c.requires.3, prim (goal.at.next_fit-requires c).Else-root_at-p)

pub returns-in_default : goal.returns-in_default
returns-in_default c = sym (none_found _ _ _ _ c.requires.0 c.requires.1 (sym (c.in_default.ensures {u = tt}).0))

pub next_fit-requires-2 : goal.next_fit-requires-2
next_fit-requires-2 c =
    let h = short (goal.at.next_fit-requires-2 c).Else-read-p in
    (omega arith, omega (arith, c.in-Some.ensures), h.0, h.1, omega (arith, c.in-Some.ensures), c.requires.3, prim (goal.at.next_fit-requires-2 c).Else-root_at-p)

pub returns-then-is_some : goal.returns-then-is_some
returns-then-is_some c =
    let e = c.in-Some.ensures in
    sym (more_found _ _ _ _ c.requires.0 c.requires.1 (omega (arith, e.0, e.1)) ((second _ _ _ _ _ e.0 _ c.next_fit-2.ensures).0 (sym c.is_some.ensures ∙ c.if-is_some.true)))

pub returns : goal.returns
returns c =
    let e = c.in-Some.ensures in
    rw e.0 (sym (one_found _ _ _ _ c.requires.0 c.requires.1 (omega (arith, e.0, e.1)) ((second _ _ _ _ _ e.0 _ c.next_fit-2.ensures).1 (sym c.is_some.ensures ∙ c.if-is_some.false))))
