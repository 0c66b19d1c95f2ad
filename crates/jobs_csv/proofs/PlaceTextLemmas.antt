-- The text of the places, rank by rank.
use Rattle.std.proofs.Common.{◌≡◌, ℕ, zero, suc, ◌+◌, ◌==◌, Bool, false, List, [], ◌∷◌, ◌++◌, map, if◌then◌else◌, refl, sym, ap, ◌∙◌, add-zero, append_assoc, arith}
use Rattle.std.specs.List.{join_with_byte, range_with_len}
use Rattle.std.proofs.lemmas.List.{map-append}
use Rattle.std.proofs.lemmas.Bool.Decides.{nat_tests}
use Rattle.job_types.specs.Collective.{result_at}
use Rattle.job_types.specs.Job.{JobData}
use Rattle.jobs_csv.specs.Replies.{places_text}
use Rattle.jobs_csv.specs.Text.{number_text}

-- one more piece after others
joined_push : (byte : ℕ) (first : List ℕ) (pieces : List (List ℕ)) (piece : List ℕ)
    → join_with_byte byte ((first ∷ pieces) ++ piece ∷ []) ≡ join_with_byte byte (first ∷ pieces)
    ++ (byte ∷ piece)
joined_push byte first [] piece = refl
joined_push byte first (second ∷ pieces) piece = ap (λ (rest : List ℕ). first ++ (byte ∷ rest)) (joined_push byte second pieces piece) ∙ sym (append_assoc first (byte ∷ join_with_byte byte (second ∷ pieces)) (byte ∷ piece))

range_push : (from n : ℕ) → range_with_len from (suc n) ≡ range_with_len from n ++ (from + n) ∷ []
range_push from zero = rw add-zero refl
range_push from (suc n) =
    let last : from + 1 + n ≡ from + suc n = omega arith in
    ap (λ (rest : List ℕ). from ∷ rest) (range_push (from + 1) n ∙ ap (λ (k : ℕ). range_with_len (from + 1) n ++ k ∷ []) last)

-- the numbers below the next one
pub range_more : (n : ℕ) → range_with_len 0 (n + 1) ≡ range_with_len 0 n ++ n ∷ []
range_more n =
    let more : n + 1 ≡ suc n = omega arith in
    let last : 0 + n ≡ n = omega arith in
    ap (range_with_len 0) more ∙ range_push 0 n ∙ ap (λ (k : ℕ). range_with_len 0 n ++ k ∷ []) last

-- the text with the place of one more rank
pub next_place : (rank : ℕ) (job : JobData)
    → places_text (rank + 1) job ≡ places_text rank job
    ++ ((if rank == 0 then [] else 32 ∷ []) ++ number_text (result_at job.kind job.items rank))
unfolding places_text
next_place zero job = refl
next_place (suc rank) job =
    let text : ℕ → List ℕ = λ k. number_text (result_at job.kind job.items k) in
    let more : suc rank + 1 ≡ suc (suc rank) = omega arith in
    let here : 0 + suc rank ≡ suc rank = omega arith in
    let behind : (suc rank == 0) ≡ false = grind (arith, nat_tests) in
    ap (λ (ranks : ℕ). join_with_byte 32 (map text (range_with_len 0 ranks))) more
    ∙ ap (λ (ranks : List ℕ). join_with_byte 32 (map text ranks)) (range_push 0 (suc rank))
    ∙ ap (λ (k : ℕ). join_with_byte 32 (map text (range_with_len 0 (suc rank) ++ k ∷ []))) here
    ∙ ap (join_with_byte 32) (map-append text (range_with_len 0 (suc rank)) (suc rank ∷ []))
    ∙ joined_push 32 (text 0) (map text (range_with_len 1 rank)) (text (suc rank))
    ∙ ap (λ (first : Bool). join_with_byte 32 (map text (range_with_len 0 (suc rank))) ++ ((if first then [] else 32 ∷ []) ++ text (suc rank))) (sym behind)

pub no_places : (job : JobData) → places_text 0 job ≡ []
unfolding places_text
no_places job = refl
