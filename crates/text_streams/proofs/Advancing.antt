-- A turn of a program: with a line found and its text made, or with none found, the program goes on or has stopped. Assumes nothing.
use Prim.Native.Nat.{ℕ, ◌≤◌, ◌<◌}
use mathlib.Core.Path.{◌≡◌, refl, sym, ap, ◌∙◌}
use mathlib.Core.Logic.{inl, ⊎_elim}
use mathlib.Core.Bool.{Bool, true, false, false≢true, cond}
use mathlib.Core.List.{List, [], ◌∷◌}
use native.Mathlib.Omega.{arith}
use borrow.Author.Tests.{ltb-true, ltb-false, eq-eqb, ne_eqb}
use lib.ListN.{length}
use lib.Dec.{ltb}
use Rattle.std.proofs.Common.{Option, Some, None}
use Rattle.std.proofs.lemmas.Option.{cond_some, none-some}
use Rattle.text_pipes.proofs.Accounts.{clamped_inside}
use Rattle.io.specs.Counts.{clamp_len}
use Rattle.text_lines.specs.Lines.{last_line, counted, Keeps}
use Rattle.text_streams.specs.Cuts.{Within, stopped, last_found, reached, Cut, Filled, Over, Broken, Spent, Turned}
use Rattle.text_outs.specs.Outputs.{Adds}
use Rattle.text_streams.specs.Programs.{going, Stands, Stopped, Advances}
use Rattle.text_outs.specs.declared.Out.{Out}
use Rattle.text_streams.specs.declared.State.{State}
use Rattle.text_streams.specs.declared.Next.{Next}
use Rattle.text_streams.proofs.Pending.{cut_within}
use Rattle.text_streams.proofs.Programs.{stands_stop, so_far, stands_cut, stands-filled, stopped_none, stopped_last, stopped_broken}

-- a line that is counted as empty is empty
last_none : {x line : List ℕ} {len : ℕ} → Keeps x len line → ltb 0 len ≡ false → last_line x ≡ []
unfolding last_line counted
last_none {x} {len = len} k e = let z : length x ≡ 0 = omega (arith, k.size, ltb-false 0 len e) in rw (eq-eqb _ _ z)

last_one : {x line : List ℕ} {len : ℕ} → Keeps x len line → ltb 0 len ≡ true → last_line x ≡ x ∷ []
unfolding last_line counted
last_one {x} {len = len} k e =
    let z : 0 < length x = omega (arith, k.size, ltb-true 0 len e) in rw (ne_eqb (length x) 0 (λ q. absurd (omega arith)))

cond_none : (b : Bool) (x : ℕ) → cond b (Some x) None ≡ None → b ≡ false
cond_none true x e = absurd (none-some x (sym e))
cond_none false x e = refl

-- a program that has all it needs goes on, or its write failed
going_on : {text : List ℕ → List ℕ} {k : ℕ} {input line buf : List ℕ} {s : State} → s.source.more ≡ true → Stands text k input line buf s →
    going s ≡ false → Stopped text buf s.out
going_on {s = s} m t g = stands_stop t (inl (rw m at g))

-- where a program stands once the line that a turn found is answered
abbrev pub answering : Next → Out → State
answering r o = record { source = r.state.source; out = o }

module _ (text : List ℕ → List ℕ) (input line buf : List ℕ) (s : State) (w : Within input s.source) {input' line' : List ℕ} {r : Next}
    (u : Turned input line buf s input' line' r) where
  kept : {k : ℕ} (t : Stands text k input line buf s) → Keeps (so_far w t) (reached r) line'
  kept t = u.keeps t.x t.keeps

  -- a line was found, and its text made
  module _ {len : ℕ} (f : r.line ≡ Some len) {buf' : List ℕ} {o : Out} (room : o.used ≤ length buf')
      (made : (x : List ℕ) → Keeps x len line' → Adds buf r.state.out (text x) buf' o) where
    -- the line that is there is the one that was found
    kept_found : {k : ℕ} (t : Stands text k input line buf s) → Keeps (so_far w t) len line'
    kept_found t = rw f at (kept t)

    -- by a newline
    found_cut : Cut input s input' r → Advances text input line buf s input' line' buf' (answering r o)
    found_cut c =
        let e : r.state.out ≡ s.out = ap (λ (n : Next). n.state.out) c.turn in
        let adds : (k : ℕ) (t : Stands text k input line buf s) → Adds buf s.out (text (so_far w t)) buf' o = λ k t. rw e at (made _ (kept_found t)) in
        rw (ap (λ (n : Next). n.state.source) c.turn, c.untouched)
        (record {
          within = cut_within input s.source w c.newline 0;
          inside = room;
          on = λ k t g. stands_cut w t c.newline line' (adds k t);
          stop = λ k t g. going_on refl (stands_cut w t c.newline line' (adds k t)) g;
        })

    -- as the last one
    found_last : (sp : Spent input buf s input' r) → Over (reached r) sp.out r → Advances text input line buf s input' line' buf' (answering r o)
    found_last sp v =
        let e : r.state.out ≡ sp.out = ap (λ (n : Next). n.state.out) v.turn in
        let (l, _) = cond_some (ltb 0 (reached r)) _ _ (sym (ap (λ (n : Next). n.line) v.turn) ∙ f) in
        rw (ap (λ (n : Next). n.state.source) v.turn)
        (record {
          within = record { order = omega arith; inside = omega arith };
          inside = room;
          on = λ k t g. absurd (false≢true g);
          stop = λ k t g. stopped_last w t sp.plain sp.told v.ended (last_one (kept t) l) (rw e at (made _ (kept_found t)));
        })

    pub advances_found : Advances text input line buf s input' line' buf' (answering r o)
    advances_found =
        ⊎_elim
        found_cut
        (λ sp.
        ⊎_elim
        (λ g. absurd (none-some _ (sym (ap (λ (n : Next). n.line) g.turn) ∙ f)))
        (⊎_elim (found_last sp) (λ g. absurd (none-some _ (sym (ap (λ (n : Next). n.line) g.turn) ∙ f))))
        sp.waited)
        u.goes

  -- none was found yet
  module _ (f : r.line ≡ None) where
    none_filled : (sp : Spent input buf s input' r) → Filled (reached r) sp.out input' r → Advances text input line buf s input' line' buf r.state
    none_filled sp g =
        let c : clamp_len g.got (length input') ≤ length input' = clamped_inside g.got (length input') in
        rw (ap (λ (n : Next). n.state) g.turn)
        (record {
          within = record { order = omega arith; inside = c };
          inside = omega (arith, sp.empty);
          on = λ k t q. stands-filled w t sp.plain sp.told g.got (kept t) g.gave;
          stop = λ k t q. going_on refl (stands-filled w t sp.plain sp.told g.got (kept t) g.gave) q;
        })

    -- no line follows
    none_more : (sp : Spent input buf s input' r) (found : Option ℕ) → r ≡ stopped found (reached r) sp.out →
        ((k : ℕ) (t : Stands text k input line buf s) → Stopped text buf sp.out) → Advances text input line buf s input' line' buf r.state
    none_more sp found e stop =
        rw (ap (λ (n : Next). n.state) e)
        (record {
          within = record { order = omega arith; inside = omega arith };
          inside = omega (arith, sp.empty);
          on = λ k t q. absurd (false≢true q);
          stop = λ k t q. stop k t;
        })

    none_over : (sp : Spent input buf s input' r) → Over (reached r) sp.out r → Advances text input line buf s input' line' buf r.state
    none_over sp v =
        let l : last_found (reached r) ≡ None = sym (ap (λ (n : Next). n.line) v.turn) ∙ f in
        none_more sp _ v.turn (λ k t. stopped_none w t sp.plain sp.told v.ended (last_none (kept t) (cond_none (ltb 0 (reached r)) _ l)))

    none_broken : (sp : Spent input buf s input' r) → Broken (reached r) sp.out r → Advances text input line buf s input' line' buf r.state
    none_broken sp v = none_more sp _ v.turn (λ k t. stopped_broken w t sp.plain sp.told v.why)

    pub advances_none : Advances text input line buf s input' line' buf r.state
    advances_none =
        ⊎_elim
        (λ c. absurd (none-some _ (sym f ∙ ap (λ (n : Next). n.line) c.turn)))
        (λ sp. ⊎_elim (none_filled sp) (⊎_elim (none_over sp) (none_broken sp)) sp.waited)
        u.goes
