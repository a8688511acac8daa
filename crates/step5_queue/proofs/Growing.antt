-- A queue that grows: nothing, one number more, and one list behind another. Assumes nothing.
use Prim.Native.Nat.{ℕ, suc, ◌+◌, ◌<◌}
use mathlib.Core.Path.{◌≡◌, refl, sym, ap, ◌∙◌}
use mathlib.Core.List.{List, [], ◌∷◌, ◌++◌, append_assoc}
use native.Mathlib.Omega.{arith}
use native.Mathlib.Numerals.{add-one}
use lib.ListN.{length, take, set, length-append}
use lib.Seq.{take-suc-set}
use Rattle.words.proofs.Ranges.{append-nil}
use Rattle.slots.specs.Slots.{put, view}
use Rattle.step1_rows.specs.Rows.{row, put_at, Long, among, DIST, QUE}
use Rattle.step1_rows.proofs.Laws.{row_same, long-put, only_none, only-put, only_trans, only_row}
use Rattle.step5_queue.specs.Filling.{Grown, Grouped, Group}

-- what is stored behind the first k stands behind them
view-put : (k : ℕ) (a : List ℕ) (v : ℕ) → k < length a → view (suc k) (put a (suc k) v) ≡ view k a ++ (v ∷ [])
unfolding view put
view-put k a v h = ap (λ (i : ℕ). take (suc k) (set a i v)) (omega arith) ∙ take-suc-set a k v h

pub grown_none : (a : List (List ℕ)) (k : ℕ) → Long a → Grown a a k k []
grown_none a k L = record { long = L; only = only_none (QUE ∷ []) a; many = omega arith; held = sym (append-nil (view k (row a QUE))) }

pub grown_put : (a b : List (List ℕ)) (k r : ℕ) (l : List ℕ) (v : ℕ) → Grown a b k r l → r < 1000 → Grown a (put_at b QUE (r + 1) v) k (r + 1) (l ++ (v ∷ []))
unfolding among
grown_put a b k r l v g h =
    rw (add-one r)
    (record {
      long = long-put b QUE (suc r) v g.long;
      only = only_trans (QUE ∷ []) a b (put_at b QUE (suc r) v) g.only (only-put (QUE ∷ []) b QUE (suc r) v refl);
      many = rw (length-append l (v ∷ [])) (omega (arith, g.many));
      held = rw (row_same b QUE (suc r) v g.long (omega arith))
          (view-put r (row b QUE) v (omega (arith, g.long.each QUE (omega arith))) ∙ ap (λ (m : List ℕ). m ++ (v ∷ [])) g.held ∙ append_assoc (view k (row a QUE)) l (v ∷ []));
    })

pub grown_join : (a b c : List (List ℕ)) (k q r : ℕ) (l m : List ℕ) → Grown a b k q l → Grown b c q r m → Grown a c k r (l ++ m)
grown_join a b c k q r l m g h =
    record {
      long = h.long;
      only = only_trans (QUE ∷ []) a b c g.only h.only;
      many = rw (length-append l m) (omega (arith, g.many, h.many));
      held = h.held ∙ ap (λ (u : List ℕ). u ++ m) g.held ∙ append_assoc (view k (row a QUE)) l m;
    }

-- a queue that has grown leaves the groups
pub grown_grouped : (a b : List (List ℕ)) (k r : ℕ) (l : List ℕ) → Grown a b k r l → (t : List ℕ) → Grouped t a → Grouped t b
unfolding among
grown_grouped a b k r l g t G = record { long = g.long; few = G.few; least = G.least; gaps = rw (only_row (QUE ∷ []) a b DIST g.only refl) G.gaps }

pub grown_group : (a b : List (List ℕ)) (k r : ℕ) (l : List ℕ) → Grown a b k r l → (t : List ℕ) (s had : ℕ) → Group t a s had → Group t b s had
grown_group a b k r l g t s had G = record { all = grown_grouped a b k r l g t G.all; low = G.low; high = G.high; named = G.named; room = G.room }
