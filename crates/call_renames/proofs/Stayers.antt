-- The positions that stay, in order: one whose group keeps the position that names it keeps its name, and each other is the next of those of its
-- group that stay. Assumes nothing.
use Prim.Native.Nat.{ℕ, ◌+◌, ◌-◌, ◌≤◌, ◌<◌}
use mathlib.Core.Path.{◌≡◌, sym, ap, ◌∙◌}
use mathlib.Core.Logic.{inl, inr, ⊎_elim, by_cases}
use mathlib.Core.List.{List}
use native.Mathlib.Decide.{ℕ_discrete}
use native.Mathlib.Omega.{arith}
use lib.ListN.{length}
use Rattle.words.specs.Range.{leader}
use Rattle.words.specs.Reads.{at}
use Rattle.words.proofs.Tests.{lt_or_ge}
use Rattle.slots.specs.Slots.{put, view}
use Rattle.slots.proofs.Laws.{put-length, put_same, put_other, view-length, view-at}
use Rattle.refine.specs.Phases.{Clean}
use Rattle.call_names.specs.Heads.{head_of, lead_of, StayerRenamed}
use Rattle.call_renames.specs.Blocks.{Block}
use Rattle.call_renames.specs.Split.{Groups, joint, Table, Unmarked, Stayed, Unnamed}
use Rattle.call_renames.proofs.Leading.{Next, whole_leader, leading_start, leading_same, head_leads, leading_step}

pub groups-table : (n : ℕ) (name : List ℕ) → Groups n name → Table n (view n name)
groups-table n name G = record { few = G.few; size = view-length n name (omega (arith, G.few, G.long)); least = G.least }

module _ (n : ℕ) (name mark lead : List ℕ) (G : Groups n name) (C : Clean lead) where
  old_is : (i : ℕ) → 1 ≤ i → i ≤ n → at name i ≡ at (view n name) i
  old_is i a b = sym (view-at n name i a b)

  pub stayed_start : Stayed n (view n name) mark 0 name lead
  stayed_start =
      record {
        table = groups-table n name G;
        long = G.long;
        made = λ i a b e. absurd (omega arith);
        kept = λ i a b e. old_is i a b;
        leads = leading_start (view n name) mark (Unmarked mark 0) lead C (λ i a b d w. absurd (omega (arith, d.1)));
      }

  -- no group loses the position that names it
  pub stayed_all : (l : List ℕ) (from to : ℕ) → Block n l mark from to → Unnamed name l from to → Stayed n (view n name) mark n name lead
  stayed_all l from to R U =
      record {
        table = T;
        long = G.long;
        made = λ i a b e. old_is i a b ∙ sym (whole_leader (view n name) mark T.least i a (omega (arith, T.size)) e (stays i a b));
        kept = λ i a b e. old_is i a b;
        leads = leading_start (view n name) mark (Unmarked mark n) lead C
            (λ i a b d w. ⊎_elim (λ p. absurd (omega (arith, d.0))) (λ p. absurd (omega (arith, stays i a d.1))) w);
      }
    where
      T : Table n (view n name)
      T = groups-table n name G

      stays : (i : ℕ) → 1 ≤ i → i ≤ n → at mark (at (view n name) i) ≡ 0
      stays i a b =
          let c : i ≤ length (view n name) = omega (arith, T.size) in
          let k : ℕ = at (view n name) i in
          let low : 1 ≤ k = T.least.low i a c in
          let high : k ≤ n = omega (arith, T.least.high i a c) in
          ⊎_elim
          (λ p.
          let w = R.all k low (omega (arith, T.few)) p in
          absurd (U.other w.0 w.1 w.2 (ap (at name) w.3 ∙ old_is k low high ∙ T.least.own i a c ∙ sym w.3)))
          (λ p. omega arith)
          (lt_or_ge 0 (at mark k))

module _ (n : ℕ) (t mark : List ℕ) (a : ℕ) (inside : a < n) (name lead : List ℕ) (S : Stayed n t mark a name lead) where
  low : 1 ≤ a + 1
  low = omega arith

  high : a + 1 ≤ length t
  high = omega (arith, S.table.size)

  few : length t ≤ 1000
  few = omega (arith, S.table.size, S.table.few)

  old : at name (a + 1) ≡ at t (a + 1)
  old = S.kept (a + 1) low (omega arith) (let l : a < a + 1 = omega arith in inr l)

  -- the position does not change its name
  stayed_on : (at mark (a + 1) ≡ 0 → at mark (at t (a + 1)) ≡ 0) → Stayed n t mark (a + 1) name lead
  stayed_on whole =
      record {
        table = S.table;
        long = S.long;
        made = λ i b c e. by_cases (ℕ_discrete i (a + 1))
            (λ q. rw q (old ∙ sym (whole_leader t mark S.table.least (a + 1) low high (ap (at mark) (sym q) ∙ e) (whole (ap (at mark) (sym q) ∙ e)))))
            (λ q. S.made i b (omega arith) e);
        kept = λ i b c e. S.kept i b c (⊎_elim inl (λ p. let l : a < i = omega arith in inr l) e);
        leads = leading_same t mark (Unmarked mark a) (Unmarked mark (a + 1)) lead
            (λ i b c d. (d.0, omega (arith, d.1)))
            (λ i b c w d. by_cases (ℕ_discrete i (a + 1))
            (λ q.
            let e : at mark (a + 1) ≡ 0 = ap (at mark) (sym q) ∙ d.0 in
            absurd (⊎_elim (λ p. absurd (omega (arith, d.0))) (λ p. absurd (omega (arith, whole e, ap (λ (j : ℕ). at mark (at t j)) q))) w))
            (λ q. (d.0, omega (arith, d.1))))
            S.leads;
      }

  -- it is the next of its group that stays
  module _ (e : at mark (a + 1) ≡ 0) (torn : 1 ≤ at mark (at t (a + 1))) where
    stayer-next : Next t mark (Unmarked mark a) (Unmarked mark (a + 1)) (a + 1)
    stayer-next =
        record {
          low = low;
          high = high;
          torn = inr torn;
          now = (e, omega arith);
          more = λ j d. (d.0, omega (arith, d.1));
          only = λ j b c d. by_cases (ℕ_discrete j (a + 1)) inl (λ q. inr (d.0, omega (arith, d.1)));
          before = λ j b c m. (m ∙ e, omega arith);
          below = λ j b c d. omega (arith, d.0);
        }

    stayed_next : (name' lead' : List ℕ) → name' ≡ put name (a + 1) (leader (joint t mark) (a + 1)) → lead' ≡ lead_of lead mark (at t (a + 1)) (a + 1) → Stayed n t mark (a + 1) name' lead'
    stayed_next name' lead' p q =
        rw (p, q)
        (record {
          table = S.table;
          long = put-length name (a + 1) j ∙ S.long;
          made = λ i b c z. by_cases (ℕ_discrete i (a + 1))
              (λ g. rw g (put_same name (a + 1) j low (omega (arith, few, high, S.long))))
              (λ g. put_other name (a + 1) j i low b g ∙ S.made i b (omega arith) z);
          kept = λ i b c z.
              put_other name (a + 1) j i low b (λ g. ⊎_elim (λ (y : 1 ≤ at mark i). absurd (omega (arith, ap (at mark) g, e))) (λ y. absurd (omega arith)) z)
              ∙ S.kept i b c (⊎_elim inl (λ y. let l : a < i = omega arith in inr l) z);
          leads = leading_step t mark S.table.least few (Unmarked mark a) (Unmarked mark (a + 1)) lead S.leads (a + 1) stayer-next;
        })
      where
        j : ℕ
        j = leader (joint t mark) (a + 1)

    stayer-leads : head_of lead mark (at t (a + 1)) (a + 1) ≡ leader (joint t mark) (a + 1)
    stayer-leads = head_leads t mark S.table.least few (Unmarked mark a) (Unmarked mark (a + 1)) lead S.leads (a + 1) stayer-next

  pub stayed_step : (name' lead' : List ℕ) → StayerRenamed mark (a + 1) name lead name' lead' → Stayed n t mark (a + 1) name' lead'
  stayed_step name' lead' W =
      by_cases (ℕ_discrete (at mark (a + 1)) 0)
      (λ e. by_cases (ℕ_discrete (at mark (at t (a + 1))) 0)
      (λ f. let K = W.keeps e (rw old f) in rw (K.0, K.1) (stayed_on (λ z. f)))
      (λ f.
      let torn : 1 ≤ at mark (at t (a + 1)) = omega arith in
      let K = W.loses e (rw old torn) in
      stayed_next e torn name' lead'
      (K.name_is ∙ rw (old, stayer-leads e torn))
      (K.lead_is ∙ rw old)))
      (λ ne. let K = W.moves (omega arith) in rw (K.0, K.1) (stayed_on (λ z. absurd (ne z))))

-- the turn of position i, which ends where the next begins
pub stayed_turn : (n : ℕ) (t mark : List ℕ) (i b : ℕ) (name lead name' lead' : List ℕ) → Stayed n t mark (i - 1) name lead
    → StayerRenamed mark i name lead name' lead' → 1 ≤ i → i ≤ n → b ≡ i → Stayed n t mark b name' lead'
stayed_turn n t mark i b name lead name' lead' S W low high e =
    let q : i - 1 + 1 ≡ i = omega arith in
    rw e (rw q at (stayed_step n t mark (i - 1) (omega arith) name lead S name' lead' (rw q W)))
