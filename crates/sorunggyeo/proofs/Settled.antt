-- Two results x and y at the arguments a, both allowed by the contract of the call as the source states it, are equal, and so is the lent slice
-- afterwards, in e and f. Assumes nothing.
use mathlib.Core.Path.{◌≡◌, sym, ◌∙◌}
use Rattle.sorunggyeo.proofs.sorunggyeo_list.Reads as sorunggyeo-list
use Rattle.sorunggyeo.proofs.sorunggyeo_runs.Reads as sorunggyeo-runs
use Rattle.sorunggyeo.proofs.sorunggyeo_group_table.Reads as sorunggyeo-group-table
use Rattle.sorunggyeo.proofs.sorunggyeo_log.Reads as sorunggyeo-log
use Rattle.sorunggyeo.proofs.sorunggyeo_replay.Reads as sorunggyeo-replay
use Rattle.sorunggyeo.proofs.sorunggyeo_claim.Reads as sorunggyeo-claim
use Rattle.sorunggyeo.proofs.sorunggyeo_motif.Reads as sorunggyeo-motif
use Rattle.sorunggyeo.proofs.sorunggyeo_find_primer.Reads as sorunggyeo-find-primer
use Rattle.sorunggyeo.proofs.sorunggyeo_reverse_complement.Reads as sorunggyeo-reverse-complement
use Rattle.sorunggyeo.proofs.sorunggyeo_score.Reads as sorunggyeo-score
use Rattle.sorunggyeo.proofs.sorunggyeo_shown.Reads as sorunggyeo-shown
use Rattle.sorunggyeo.proofs.sorunggyeo_next.Reads as sorunggyeo-next
use Rattle.sorunggyeo.proofs.sorunggyeo_list_index.Reads as sorunggyeo-list-index
use Rattle.sorunggyeo.proofs.sorunggyeo_index.Reads as sorunggyeo-index
use Rattle.sorunggyeo.proofs.sorunggyeo_lookup.Reads as sorunggyeo-lookup

pub sorunggyeo_list_settled : (κs : _) (a : _) (x y : _) (e f : _) → sorunggyeo-list.Learnt κs a x e → sorunggyeo-list.Learnt κs a y f → (x ≡ y) × (e.1.1.0.now ≡ f.1.1.0.now)
sorunggyeo_list_settled κs a x y e f p q = (p.0 ∙ sym q.0, p.1 ∙ sym q.1)

pub sorunggyeo_runs_settled : (κs : _) (a : _) (x y : _) (e f : _) → sorunggyeo-runs.Learnt κs a x e → sorunggyeo-runs.Learnt κs a y f → (x ≡ y) × (e.1.0.now ≡ f.1.0.now)
sorunggyeo_runs_settled κs a x y e f p q = (p.0 ∙ sym q.0, p.1 ∙ sym q.1)

pub sorunggyeo_group_table_settled : (κs : _) (a : _) (x y : _) (e f : _) → sorunggyeo-group-table.Learnt κs a x e → sorunggyeo-group-table.Learnt κs a y f → (x ≡ y) × (e.1.1.0.now ≡ f.1.1.0.now)
sorunggyeo_group_table_settled κs a x y e f p q = (p.0 ∙ sym q.0, p.1 ∙ sym q.1)

pub sorunggyeo_log_settled : (κs : _) (a : _) (x y : _) (e f : _) → sorunggyeo-log.Learnt κs a x e → sorunggyeo-log.Learnt κs a y f → (x ≡ y) × (e.1.0.now ≡ f.1.0.now)
sorunggyeo_log_settled κs a x y e f p q = (p.0 ∙ sym q.0, p.1 ∙ sym q.1)

pub sorunggyeo_replay_settled : (κs : _) (a : _) (x y : _) (e f : _) → sorunggyeo-replay.Learnt κs a x e → sorunggyeo-replay.Learnt κs a y f → (x ≡ y) × (e.1.1.1.0.now ≡ f.1.1.1.0.now)
sorunggyeo_replay_settled κs a x y e f p q = (p.0 ∙ sym q.0, p.1 ∙ sym q.1)

pub sorunggyeo_claim_settled : (κs : _) (a : _) (x y : _) (e f : _) → sorunggyeo-claim.Learnt κs a x e → sorunggyeo-claim.Learnt κs a y f → x ≡ y
sorunggyeo_claim_settled κs a x y e f p q = p ∙ sym q

pub sorunggyeo_motif_settled : (κs : _) (a : _) (x y : _) (e f : _) → sorunggyeo-motif.Learnt κs a x e → sorunggyeo-motif.Learnt κs a y f → x ≡ y
sorunggyeo_motif_settled κs a x y e f p q = p ∙ sym q

pub sorunggyeo_find_primer_settled : (κs : _) (a : _) (x y : _) (e f : _) → sorunggyeo-find-primer.Learnt κs a x e → sorunggyeo-find-primer.Learnt κs a y f → (x ≡ y) × (e.1.1.0.now ≡ f.1.1.0.now)
sorunggyeo_find_primer_settled κs a x y e f p q = (p.0 ∙ sym q.0, p.1 ∙ sym q.1)

pub sorunggyeo_reverse_complement_settled : (κs : _) (a : _) (x y : _) (e f : _) → sorunggyeo-reverse-complement.Learnt κs a x e → sorunggyeo-reverse-complement.Learnt κs a y f → (x ≡ y) × (e.1.0.now ≡ f.1.0.now)
sorunggyeo_reverse_complement_settled κs a x y e f p q = (p.0 ∙ sym q.0, p.1 ∙ sym q.1)

pub sorunggyeo_score_settled : (κs : _) (a : _) (x y : _) (e f : _) → sorunggyeo-score.Learnt κs a x e → sorunggyeo-score.Learnt κs a y f → x ≡ y
sorunggyeo_score_settled κs a x y e f p q = p ∙ sym q

pub sorunggyeo_shown_settled : (κs : _) (a : _) (x y : _) (e f : _) → sorunggyeo-shown.Learnt κs a x e → sorunggyeo-shown.Learnt κs a y f → x ≡ y
sorunggyeo_shown_settled κs a x y e f p q = p ∙ sym q

pub sorunggyeo_next_settled : (κs : _) (a : _) (x y : _) (e f : _) → sorunggyeo-next.Learnt κs a x e → sorunggyeo-next.Learnt κs a y f → x ≡ y
sorunggyeo_next_settled κs a x y e f p q = p ∙ sym q

pub sorunggyeo_list_index_settled : (κs : _) (a : _) (x y : _) (e f : _) → sorunggyeo-list-index.Learnt κs a x e → sorunggyeo-list-index.Learnt κs a y f →
    (x ≡ y) × (e.1.1.0.now ≡ f.1.1.0.now) × (e.1.1.1.0.now ≡ f.1.1.1.0.now)
sorunggyeo_list_index_settled κs a x y e f p q = (p.0 ∙ sym q.0, p.1 ∙ sym q.1, p.2 ∙ sym q.2)

pub sorunggyeo_index_settled : (κs : _) (a : _) (x y : _) (e f : _) → sorunggyeo-index.Learnt κs a x e → sorunggyeo-index.Learnt κs a y f → (x ≡ y) × (e.1.0.now ≡ f.1.0.now)
sorunggyeo_index_settled κs a x y e f p q = (p.0 ∙ sym q.0, p.1 ∙ sym q.1)

pub sorunggyeo_lookup_settled : (κs : _) (a : _) (x y : _) (e f : _) → sorunggyeo-lookup.Learnt κs a x e → sorunggyeo-lookup.Learnt κs a y f → x ≡ y
sorunggyeo_lookup_settled κs a x y e f p q = p ∙ sym q
