-- What a call of a reader hands to `take_at`, and hears from it: what a `LogReader` owns, beside its lifetime's token, gives what `take_at` asks of the slice and the number, and is kept; what `take_at` ensures is what a call on the reader gives.
-- The struct is Copy: what it owns is had twice, and of one copy what log owns goes to the callee. The lifetime's name m in MIR does not matter.
-- Assumes nothing.
use mathlib.Core.Path.{◌≡◌, refl}
use Prim.Native.Nat.{◌<◌, ◌^◌}
use mathlib.Core.List.{[], ◌∷◌}
use lib.ListN.{length}
use seplogic.Ra.Ura.{Ura}
use mir.Syntax.{Lifetime, named, w64}
use mir.Val.{Val, vint}
use base.Logic.{SProp, ent, sep, snd∗, ex_e}
use base.Fml.{Lft, Share, Fml, ftrue, flft}
use prog.Memory.{Memory}
use prog.Routine.{Routine}
use types.Logic.{Logic, sem}
use contract.Monad.{Fun, fact}
use types.Kit.{‵, raw, ◌⊛◌, given, ⋆, ◌$◌, ◌∵◌, !, qed, move, drop, use1, use2, split, join, learn, fjoin, frame, done}
use denote.RattleType.{owns}
use denote.Laws.{Is}
use denote.Plain.{uint_Makes}
use denote.Builtin.{u16, usize}
use denote.Ref.{NamedLft}
use denote.Slice.{slice_val, ShrSlice}
use denote.Steps.{owned, nothing}
use denote.Struct.Declared.{Declared}
use denote.Struct.Laws as LL
use denote.Struct.Rest.{all_own, field_own, rest, own_open, own_out}
use denote.Struct.Values.{Values}
use denote.Triple.Statement.{Contract}
use denote.Triple.Entry.{Vals, on_entry}
use denote.Triple.Spec.{triple_of}
use denote.Triple.Clauses.{ensured, lasts}
use Rattle.words.specs.declared.Taken.{Taken}
use Rattle.call_reader.specs.Readers.{takes}
use Rattle.call_reader.specs.declared.LogReader.{LogReader}
use Rattle.call_reader.specs.contracts.LogReader as T
use Rattle.call_reader.proofs.LogReader.TheLaws as T'
use Rattle.call_reader.specs.contracts.take_at as take_at

-- the machine value of a reader's log
abbrev v : LogReader → Val
v d = slice_val d.log.ref_ptr (length d.log.now)

-- what the callee is passed
abbrev passed : (κ : Lft) → LogReader → Vals take_at.signature (κ, tt)
passed κ d = (v d ∷ [], (vint w64 d.at ∷ [], tt))

module _ {M : Type 1} {𝓤 : Ura M} (𝓛 : Logic 𝓤) (mem : Memory → SProp 𝓤) (run : Routine → Fun 𝓤) where
  -- the contract that the walks cite
  abbrev pub TakeAt : Contract 𝓤
  TakeAt = triple_of 𝓛 take_at.signature (take_at.spec 𝓛 mem run)

  -- it, at a reader's slice and number
  abbrev pub to : Lft → Share → LogReader → TakeAt.Ghost
  to κ q d = (((κ, tt), (q, tt), tt, (d.log, (d.at, tt)), passed κ d), tt)

module _ {M : Type 1} {𝓤 : Ura M} (𝓛 : Logic 𝓤) (mem : Memory → SProp 𝓤) (run : Routine → Fun 𝓤) (m : Lifetime) (κ : Lft) (q : Share) (d : LogReader) where
  abbrev α : NamedLft
  α = record { mir = m; lft = κ }

  -- the struct's type and laws
  abbrev D : Declared
  D = T.the_type α

  abbrev L : LL.Laws D
  L = T'.the_laws α

  abbrev vd : Values D.parts
  vd = (d.log, (d.at, tt))

  abbrev Own : Fml
  Own = (T.the_row α).own_val d (T'.lowered d ∷ [])

  asked : ent 𝓤 (on_entry 𝓛 take_at.signature (κ, tt) (q, tt) (d.log, (d.at, tt)) (passed κ d)) ((TakeAt 𝓛 mem run).pre (to 𝓛 mem run κ q d))
  asked = qed 𝓛 ((‵ (flft κ q) ⊛ ‵ ftrue) ∷ ‵ (owns (ShrSlice (named 0) κ u16 ∷ usize ∷ []) (d.log, (d.at, tt)) (passed κ d)) ∷ []) ∵ join ! $ frame ! $ done !

  pub apart : d.at < 2 ^ 64 → ent 𝓤 (⋆ 𝓛 (‵ Own ∷ (‵ (flft κ q) ⊛ ‵ ftrue) ∷ [])) (sep 𝓤 ((TakeAt 𝓛 mem run).pre (to 𝓛 mem run κ q d)) (sem 𝓛 Own))
  apart fits =
      qed 𝓛 (‵ Own ∷ (‵ (flft κ q) ⊛ ‵ ftrue) ∷ []) ∵
      use1 𝓛 (‵ Own ⊛ ‵ Own) ((LL.copy D (T'.the_copy α) 𝓛).twice d (T'.lowered d ∷ [])) $ split ! $
      use1 𝓛 (given (T'.lowered d ∷ [] ≡ T'.lowered d ∷ []) (‵ (all_own D.parts L vd))) (own_open 𝓛 D L vd (T'.lowered d)) $ learn ! (λ _. use1 𝓛 (‵ (field_own D.parts L 0 d.log) ⊛ ‵ (rest D.parts L 0 vd)) (own_out 𝓛 D.parts L 0 vd) $ split ! $
      -- [what log owns; what at owns; what the struct owns; the token]
      move ! (1 ∷ []) $ drop ! $ nothing ! $ owned ! usize (Is usize) (uint_Makes 𝓛 w64) d.at _ (refl, fits) $ fjoin ! $ move ! (1 ∷ 0 ∷ []) $ fjoin ! $
      move ! (2 ∷ 0 ∷ []) $ use2 𝓛 (raw ((TakeAt 𝓛 mem run).pre (to 𝓛 mem run κ q d))) asked $ frame ! $ done !)

  -- of the callee's `ensured`, the clause alone: it has no `&mut`, so what is said of last values is dropped
  pub said : (r : Taken) → ent 𝓤 (ensured 𝓛 take_at.ended (take_at.clauses 𝓛 mem run) (κ, tt) (d.log, (d.at, tt)) tt r) (fact 𝓤 (r ≡ takes d))
  said r = ex_e 𝓤 _ (λ ws. snd∗ 𝓤 (sem 𝓛 (lasts take_at.ended (κ, tt) (d.log, (d.at, tt)) ws)) (fact 𝓤 (r ≡ takes d)))
