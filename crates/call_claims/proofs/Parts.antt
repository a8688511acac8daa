-- Where the motif of a claim starts and how many bytes it has: what the claim says where some are shown, else 0. Assumes nothing.
use Prim.Native.Nat.{ℕ, ◌-◌, ◌≤◌}
use mathlib.Core.Path.{◌≡◌, refl}
use mathlib.Core.List.{List}
use lib.ListN.{take, drop}
use Rattle.words_claims.specs.Calls.{motif_length, motif}
use Rattle.words_claims.proofs.Motifs.{shown_from, hidden_from}
use Rattle.call_claims.specs.Parts.{motif_part}

module _ (x : List ℕ) (i p e : ℕ) where
  pub part-shown : 1 ≤ motif_length x i p e → record { from = i - 1; count = motif_length x i p e } ≡ motif_part x i p e
  unfolding motif_part
  part-shown l = rw (shown_from x i p e l)

  pub part_hidden : motif_length x i p e ≡ 0 → record { from = 0; count = 0 } ≡ motif_part x i p e
  unfolding motif_part
  part_hidden z = rw (hidden_from x i p e z, z)

  -- the part has the motif's bytes
  pub part_bytes : take (motif_part x i p e).count (drop (motif_part x i p e).from x) ≡ motif x i p e
  unfolding motif_part motif
  part_bytes = refl
