-- Handles that were borrowed as a slice are as many as before, and still the queue's.
use Rattle.std.proofs.Common.{sym, ◌≡◌, refl, ℕ, zero, suc, ◌+◌, ◌-◌, ◌≤◌, ◌∷◌, [], ◌++◌, List, length, map, take, drop, min, ap, arith, ◌∙◌}
use Rattle.std.specs.List.{All}
use Rattle.std.proofs.lemmas.List.{length-append, length-drop, length-take, length-map}
use Rattle.std.proofs.lemmas.List.Elements.{All-append, All-drop, All-take}
use Rattle.job_queue.specs.declared.record.LaneRecord.{LaneRecord}
use Rattle.job_queue.specs.declared.record.PassRecord.{PassRecord}
use Rattle.job_queue.specs.Record.{fresh_lane, fresh_lanes, fresh_pass, fresh_passes}

pub lanes_count : (n : ℕ) → length (fresh_lanes n) ≡ n
lanes_count zero = refl
lanes_count (suc n) = omega (arith, length-append (fresh_lanes n) (fresh_lane n ∷ []), lanes_count n)

pub passes_count : (n : ℕ) → length (fresh_passes n) ≡ n
passes_count zero = refl
passes_count (suc n) = omega (arith, length-append (fresh_passes n) (fresh_pass n ∷ []), passes_count n)

-- A borrowed list comes back with as many elements.
lent_length : {A : Type 0} (n : ℕ) (old new : List A)
    → n ≡ length old
    → length (take n (new ++ drop (length new) old)) ≡ n
lent_length n old new is = omega (arith, is, length-take n (new ++ drop (length new) old), length-append new (drop (length new) old), length-drop (length new) old)

pub lent_all : {A : Type 0} (P : A → Type 0) (n : ℕ) (old new : List A)
    → All P old
    → All P new
    → All P (take n (new ++ drop (length new) old))
lent_all P n old new before after = All-take P n (new ++ drop (length new) old) (All-append P new (drop (length new) old) after (All-drop P (length new) old before))

pub lanes_lent : {A : Type 0} (record_of : A → LaneRecord) (n count : ℕ) (old new : List A)
    → n ≡ length old
    → map record_of old ≡ fresh_lanes count
    → length (take n (new ++ drop (length new) old)) ≡ count
lanes_lent record_of n count old new is fresh = lent_length n old new is ∙ (is ∙ (sym (length-map old record_of) ∙ (ap length fresh ∙ lanes_count count)))

pub passes_lent : {A : Type 0} (record_of : A → PassRecord) (n count : ℕ) (old new : List A)
    → n ≡ length old
    → map record_of old ≡ fresh_passes count
    → length (take n (new ++ drop (length new) old)) ≡ count
passes_lent record_of n count old new is fresh = lent_length n old new is ∙ (is ∙ (sym (length-map old record_of) ∙ (ap length fresh ∙ passes_count count)))
