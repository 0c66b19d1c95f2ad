-- What each station was granted, and what the last one was granted in addition.
use Rattle.std.proofs.Common.{◌≡◌, ◌∷◌, [], ◌++◌, List, map, refl, sym, ap, ◌∙◌, append_assoc}
use Rattle.std.proofs.lemmas.List.{map-append, append-nil}
use Rattle.dispatcher.specs.Finished.{with_last}

pub with_last_end : {A : Type 0} (lists : List (List A)) (last more : List A)
    → with_last (lists ++ last ∷ []) more ≡ lists ++ (last ++ more) ∷ []
with_last_end [] last more = refl
with_last_end (xs ∷ []) last more = refl
with_last_end {A} (xs ∷ ys ∷ lists) last more = ap (λ (ls : List (List A)). xs ∷ ls) (with_last_end (ys ∷ lists) last more)

-- A station is granted one more block.
pub granted_one : {R A : Type 0} (region : R → A) (start now back : List A) (had has : List R)
    (reply : R)
    → now ≡ start ++ map region had
    → back ≡ now ++ region reply ∷ []
    → has ≡ had ++ reply ∷ []
    → back ≡ start ++ map region has
granted_one {R} {A} region start now back had has reply so_far gains pushed =
    gains
    ∙ (ap (λ (own : List A). own ++ region reply ∷ []) so_far
    ∙ (append_assoc start (map region had) (region reply ∷ []) ∙ ap (λ (own : List A). start ++ own) (sym (ap (map region) pushed ∙ map-append region had (reply ∷ [])))))

-- A station was granted nothing yet.
pub granted_none : {R A : Type 0} (region : R → A) (start : List A) (has : List R)
    → has ≡ []
    → start ≡ start ++ map region has
granted_none {R} {A} region start has none = sym (ap (λ (rs : List R). start ++ map region rs) none ∙ append-nil start)

-- What the last station was granted in addition.
pub granted_last : {S A : Type 0} (grants : S → List A) (before stations after : List S)
    (station back : S) (more : List A)
    → stations ≡ before ++ station ∷ []
    → after ≡ before ++ back ∷ []
    → grants back ≡ grants station ++ more
    → map grants after ≡ with_last (map grants stations) more
granted_last {S} {A} grants before stations after station back more popped pushed gains =
    ap (map grants) pushed
    ∙ (map-append grants before (back ∷ [])
    ∙ (ap (λ (own : List A). map grants before ++ own ∷ []) gains
    ∙ (sym (with_last_end (map grants before) (grants station) more)
    ∙ ap (λ (ls : List (List A)). with_last ls more) (sym (ap (map grants) popped ∙ map-append grants before (station ∷ []))))))

-- What all stations were granted, from what each was.
pub all_granted : {E S V R A : Type 0} (grants : S → List A) (region : R → A) (station_of : E → S)
    (replies_of : E → V) (items_of : V → List R)
    → ((e : E) → grants (station_of e) ≡ map region (items_of (replies_of e)))
    → (es : List E)
    → map grants (map station_of es) ≡ map (map region) (map items_of (map replies_of es))
all_granted grants region station_of replies_of items_of own [] = refl
all_granted {E} {S} {V} {R} {A} grants region station_of replies_of items_of own (e ∷ es) =
    let rest : List (List A) = map (map region) (map items_of (map replies_of es)) in
    ap (λ (ls : List (List A)). grants (station_of e) ∷ ls) (all_granted grants region station_of replies_of items_of own es)
    ∙ ap (λ (l : List A). l ∷ rest) (own e)
