-- The members of a group, one after another along their links: between a position and the next of its group nothing is put. Assumes nothing.
use Prim.Native.Nat.{ℕ, ◌+◌, ◌-◌, ◌≤◌, ◌<◌}
use mathlib.Core.Path.{◌≡◌, refl, sym}
use mathlib.Core.List.{List, []}
use native.Mathlib.Omega.{arith}
use lib.ListN.{length}
use borrow.Author.Tests.{eq-eqb}
use Rattle.std.specs.Prelude.{Option, Some, None, IfSome}
use Rattle.words.specs.Range.{gather}
use Rattle.words.specs.Reads.{at}
use Rattle.words.proofs.Ranges.{gather_stop}
use Rattle.bench_links.specs.Links.{next_in, or_none}
use Rattle.bench_links.proofs.Nexts.{next_known, none_after}
use Rattle.text_puts.specs.Puts.{Room, Puts}
use Rattle.text_puts.proofs.Pieces.{turn-room, turn_puts}
use Rattle.text_groups.specs.Groups.{spaced, member_text, members_text}
use Rattle.text_groups.proofs.Shapes.{shown_yes, shown_no}

-- how many positions stand before a link, all if it is none
unfoldable pub passed : List ℕ → Option ℕ → ℕ
passed t None = length t
passed t (Some i) = i - 1

-- the text of the members before a link
unfoldable pub passed_text : List ℕ → ℕ → Option ℕ → List ℕ
passed_text t s here = gather (member_text t s) (passed t here) 1

-- a link of the group named s: one of its positions, or none
abbrev pub Link : List ℕ → ℕ → Option ℕ → Type 0
Link t s here = IfSome here (λ i. (1 ≤ i) × (i ≤ length t) × (at t i ≡ s))

module _ (t : List ℕ) (s : ℕ) where
  -- the next position of the group after position j is a link
  pub next-link : (j : ℕ) (here : Option ℕ) → here ≡ or_none (next_in t s j) → Link t s here
  next-link j None e = tt
  next-link j (Some i) e = let h = (next_known t s j e).1 in (omega (arith, h.later), h.inside, h.same)

  -- from one position to the next
  walk_on : (i : ℕ) (here : Option ℕ) → i ≤ length t → here ≡ or_none (next_in t s i) → gather (member_text t s) i 1 ≡ passed_text t s here
  unfolding member_text passed_text passed
  walk_on i None h e =
      sym (gather_stop (member_text t s) i (length t) 1 h (λ j a b. shown_no j (none_after t s i (next_known t s i e) j (omega arith) (omega arith))))
  walk_on i (Some k) h e =
      let m = (next_known t s i e).1 in
      sym (gather_stop (member_text t s) i (k - 1) 1 (omega (arith, m.later)) (λ j a b. shown_no j (m.between j (omega arith) (omega arith))))

  pub walk_start : (here : Option ℕ) → here ≡ or_none (next_in t s 0) → passed_text t s here ≡ []
  unfolding gather
  walk_start here e = sym (walk_on 0 here (omega arith) e)

  pub walk_end : passed_text t s None ≡ members_text t s
  unfolding passed passed_text members_text
  walk_end = refl

  -- position i of the group
  module _ (i : ℕ) (h : Link t s (Some i)) where
    member_is : member_text t s i ≡ spaced i
    unfolding member_text
    member_is = shown_yes i (eq-eqb (at t i) s h.2)

    module _ {buf mid : List ℕ} {at here : ℕ} (r : Room buf at (members_text t s)) (p : Puts buf at (passed_text t s (Some i)) mid here) where
      whole : Room buf at (gather (member_text t s) (length t) 1)
      unfolding members_text
      whole = r

      front : Puts buf at (gather (member_text t s) (i - 1) 1) mid here
      unfolding passed passed_text
      front = p

      pub walk-room : Room mid here (spaced i)
      walk-room = rw member_is at (turn-room (member_text t s) 1 (omega (arith, h.0, h.1)) whole front {v = i} (omega (arith, h.0)))

    -- and the next
    module _ {next : Option ℕ} (e : next ≡ or_none (next_in t (at t i) i)) where
      on_is : next ≡ or_none (next_in t s i)
      on_is = rw h.2 at e

      pub walk-link : Link t s next
      walk-link = next-link i next on_is

      pub walk_less : length t - passed t next < length t - passed t (Some i)
      unfolding passed
      walk_less = go next on_is
        where
          go : (o : Option ℕ) → o ≡ or_none (next_in t s i) → length t - passed t o < length t - (i - 1)
          go None q = omega (arith, h.0, h.1)
          go (Some k) q = let m = (next_known t s i q).1 in omega (arith, h.0, m.later, m.inside)

      pub walk_puts : {buf mid new : List ℕ} {at here end : ℕ} → Room buf at (members_text t s) → Puts buf at (passed_text t s (Some i)) mid here
          → Puts mid here (spaced i) new end → Puts buf at (passed_text t s next) new end
      walk_puts r p q =
          let v : i - 1 + 1 ≡ i = omega (arith, h.0) in
          rw (← walk_on i next h.1 on_is, ← v)
          (turn_puts (member_text t s) 1 (omega (arith, h.0, h.1)) (whole r p) (front r p) {v = i} (omega (arith, h.0)) (rw member_is q))
