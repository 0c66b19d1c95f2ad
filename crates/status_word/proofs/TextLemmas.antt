-- The marks of one station more, and of stations that have none.
use Rattle.std.proofs.Common.{◌≡◌, ℕ, zero, suc, ◌+◌, ◌-◌, ◌<◌, ◌≤◌, [], ◌∷◌, ◌++◌, sym, ◌∙◌, ap, arith, add-zero, zero-add, append-nil}
use Rattle.std.specs.List.{flat_map, range_with_len}
use Rattle.std.proofs.lemmas.Grind.{flat_map-append}
use Rattle.std.specs.Prelude.{◌==◌, codes, if◌then◌else◌}
use Rattle.std.specs.Int.{bit_at}
use Rattle.std.specs.Fmt.{decimal}
use Rattle.status_word.specs.Word.{mark_bit}
use Rattle.status_word.specs.Text.{mark_text}

range-push : (a n : ℕ) → range_with_len a (n + 1) ≡ range_with_len a n ++ (a + n) ∷ []
range-push a zero = ap (λ x. x ∷ []) (sym (add-zero a))
range-push a (suc n) =
    let next : suc n + 1 ≡ suc (n + 1) = omega arith in
    let last : a + 1 + n ≡ a + suc n = omega arith in
    ap (range_with_len a) next ∙ ap (λ xs. a ∷ xs) (range-push (a + 1) n ∙ ap (λ x. range_with_len (a + 1) n ++ x ∷ []) last)

pub marks_push : (w n : ℕ)
    → flat_map (mark_text w) (range_with_len 0 (n + 1))
    ≡ flat_map (mark_text w) (range_with_len 0 n) ++ mark_text w n
marks_push w n =
    ap (flat_map (mark_text w)) (range-push 0 n ∙ ap (λ x. range_with_len 0 n ++ x ∷ []) (zero-add n))
    ∙ flat_map-append (mark_text w) (range_with_len 0 n) (n ∷ []) ∙ ap (λ xs. flat_map (mark_text w) (range_with_len 0 n) ++ xs) (append-nil (mark_text w n))

more_marks : (w n k : ℕ)
    → ((station : ℕ) → n ≤ station → station < n + k → mark_text w station ≡ [])
    → flat_map (mark_text w) (range_with_len 0 (n + k))
    ≡ flat_map (mark_text w) (range_with_len 0 n)
more_marks w n zero none = ap (λ end. flat_map (mark_text w) (range_with_len 0 end)) (add-zero n)
more_marks w n (suc k) none =
    let next : n + suc k ≡ n + k + 1 = omega arith in
    ap (λ end. flat_map (mark_text w) (range_with_len 0 end)) next ∙ marks_push w (n + k)
    ∙ ap (λ mark. flat_map (mark_text w) (range_with_len 0 (n + k)) ++ mark) (none (n + k) (omega arith) (omega arith))
    ∙ append-nil (flat_map (mark_text w) (range_with_len 0 (n + k)))
    ∙ more_marks w n k (λ station from below. none station from (omega arith))

-- stations without a mark at the end add nothing
pub marks_end : (w n end : ℕ)
    → n ≤ end
    → ((station : ℕ) → n ≤ station → station < end → mark_text w station ≡ [])
    → flat_map (mark_text w) (range_with_len 0 end) ≡ flat_map (mark_text w) (range_with_len 0 n)
marks_end w n end within none =
    let whole : end ≡ n + (end - n) = omega arith in
    ap (λ last. flat_map (mark_text w) (range_with_len 0 last)) whole
    ∙ more_marks w n (end - n) (λ station from below. none station from (omega arith))

-- a station has no text where its bit is not set
pub no_mark_text : (w station : ℕ) → bit_at w (mark_bit station) ≡ 0 → mark_text w station ≡ []
no_mark_text w station none = ap (λ bit. if bit == 1 then codes "+" ++ decimal station else []) none
