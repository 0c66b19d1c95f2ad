-- What the steps of a call left, and calls that were alone.
use Rattle.std.proofs.Common.{◌/◌, inl, inr, ◌≡◌, ◌≢◌, ℕ, ◌+◌, ◌≤◌, cond, eqb, eq-eqb, ne_eqb, List, [], ◌∷◌, refl, sym, ◌∙◌, ap, subst, arith}
use Rattle.std.proofs.lemmas.Bool.{cases_eq}
use Rattle.cube_shape.specs.declared.region.Region.{Region}
use Rattle.cube_shape.specs.Region.{IsAligned}
use Rattle.bitmap_tree.specs.declared.view.Note.{Note}
use Rattle.bitmap_tree.specs.declared.view.Run.{Run}
use Rattle.bitmap_tree.specs.Layout.{run_of}
use Rattle.bitmap_tree.specs.InnerSteps.{after}
use Rattle.bitmap_tree.specs.InnerTrail.{KeepsRight}
use Rattle.bitmap_tree.specs.Trail.{OnlyLooked, AreRightSteps, Clears, WasClaimed}
use Rattle.bitmap_tree.specs.Layout.{Known}
use Rattle.bitmap_tree.specs.InnerSteps.{note}
use Rattle.bitmap_tree.specs.InnerTrail.{HasPast, IsFullWord, StepsOn, left_by}
use Rattle.bitmap_tree.specs.Trail.{IsAlone, WasDisturbed, WasReleased, WasSet}

-- ---- what was left

pub left_same : (w found left : ℕ) (ns : List Note) → left_by (note w found left ∷ ns) w ≡ left
left_same w found left ns = ap (λ b. cond b left (left_by ns w)) (eq-eqb w w refl)

pub left_other : (w x found left : ℕ) (ns : List Note)
    → x ≢ w
    → left_by (note w found left ∷ ns) x ≡ left_by ns x
left_other w x found left ns other = ap (λ b. cond b left (left_by ns x)) (ne_eqb x w other)

pub left_here : (w found left : ℕ) (ns trail : List Note)
    → trail ≡ note w found left ∷ ns
    → left_by trail w ≡ left
left_here w found left ns trail is = ap (λ t. left_by t w) is ∙ left_same w found left ns

-- ---- one step

past_one : (old new : Known) (w found left : ℕ)
    → new.0.trail ≡ note w found left ∷ old.0.trail
    → HasPast old new
past_one old new w found left is words alone = ((λ x. cond (eqb x w) found (words x)), (subst (IsAlone words) is alone).1)

pub steps_one : (old new : Known) (w found left : ℕ)
    → new.0.trail ≡ note w found left ∷ old.0.trail
    → StepsOn w (w + 1) old new
steps_one old new w found left is = record {
  keeps = λ q was. subst (λ t. WasSet t q) (sym is) (inr was);
  released = λ r before was. subst (WasReleased r before) (sym is) (inr was);
  past = past_one old new w found left is;
  elsewhere = λ x out. ap (λ t. left_by t x) is ∙ left_other w x found left old.0.trail (λ here. elim out [ inl less ↦ absurd (omega (arith, less, here)) | inr past ↦ absurd (omega (arith, past, here)) ]);
}

-- ---- steps, one after another

pub past_then : (a b c : Known) → HasPast a b → HasPast b c → HasPast a c
past_then a b c first then words alone = let mid = then words alone in first mid.0 mid.1

pub steps_none : (from to : ℕ) (a : Known) → StepsOn from to a a
steps_none from to a = record {
  keeps = λ q was. was;
  released = λ r before was. was;
  past = λ words alone. (words, alone);
  elsewhere = λ w out. refl;
}

pub steps_then : (from to : ℕ) (a b c : Known)
    → StepsOn from to a b
    → StepsOn from to b c
    → StepsOn from to a c
steps_then from to a b c first then = record {
  keeps = λ q was. then.keeps q (first.keeps q was);
  released = λ r before was. then.released r before (first.released r before was);
  past = past_then a b c first.past then.past;
  elsewhere = λ w out. then.elsewhere w out ∙ first.elsewhere w out;
}

pub steps_wider : (from to low high : ℕ) (a b : Known)
    → low ≤ from
    → to ≤ high
    → StepsOn from to a b
    → StepsOn low high a b
steps_wider from to low high a b lower higher steps = record {
  keeps = steps.keeps;
  released = steps.released;
  past = steps.past;
  elsewhere = λ w out. steps.elsewhere w (elim out [ inl less ↦ inl (omega (arith, less, lower)) | inr past ↦ inr (omega (arith, past, higher)) ]);
}

-- ---- another call made a step

pub disturbed_then : (a b : Known) → HasPast a b → WasDisturbed a.0.trail → WasDisturbed b.0.trail
disturbed_then a b past disturbed words alone = let before = past words alone in disturbed before.0 before.1

-- an exchange found another value than the step before it had left
pub lost_disturbs : (old new : Known) (w found now : ℕ)
    → new.0.trail ≡ note w now now ∷ old.0.trail
    → ((words : ℕ → ℕ) → IsAlone words old.0.trail → words w ≡ found)
    → now ≢ found
    → WasDisturbed new.0.trail
lost_disturbs old new w found now is left other words alone =
    let rest : IsAlone (λ x. cond (eqb x w) now (words x)) old.0.trail = (subst (IsAlone words) is alone).1 in
    let same : cond (eqb w w) now (words w) ≡ found = left (λ x. cond (eqb x w) now (words x)) rest in
    let here : cond (eqb w w) now (words w) ≡ now = ap (λ b. cond b now (words w)) (eq-eqb w w refl) in
    other (sym here ∙ same)

-- the newest step left its word so
pub newest_left : (new : Known) (w found left : ℕ) (ns : List Note)
    → new.0.trail ≡ note w found left ∷ ns
    → (words : ℕ → ℕ)
    → IsAlone words new.0.trail
    → words w ≡ left
newest_left new w found left ns is words alone = (subst (IsAlone words) is alone).0

-- where a call was alone, a word that it left other than 0 is so
pub alone_left : (trail : List Note) (words : ℕ → ℕ) (w : ℕ)
    → IsAlone words trail
    → left_by trail w ≢ 0
    → words w ≡ left_by trail w
alone_left [] words w alone some_left = absurd (some_left refl)
alone_left (n ∷ ns) words w alone some_left = elim (cases_eq w n.word) [
  | inl here ↦
      let left : cond (eqb w n.word) n.left (left_by ns w) ≡ n.left = ap (λ b. cond b n.left (left_by ns w)) (eq-eqb w n.word here) in
      ap words here ∙ alone.0 ∙ sym left
  | inr other ↦
      let left : cond (eqb w n.word) n.left (left_by ns w) ≡ left_by ns w = ap (λ b. cond b n.left (left_by ns w)) (ne_eqb w n.word other) in
      let before : cond (eqb w n.word) n.found (words w) ≡ words w = ap (λ b. cond b n.found (words w)) (ne_eqb w n.word other) in
      sym before ∙ alone_left ns (λ x. cond (eqb x n.word) n.found (words x)) w alone.1 (λ none. some_left (left ∙ none)) ∙ sym left
]

-- ---- a word that has no room

pub full_left : (size k w found : ℕ) (trail : List Note)
    → left_by trail w ≡ found
    → IsFullWord size k found
    → IsFullWord size k (left_by trail w)
full_left size k w found trail is full = subst (IsFullWord size k) (sym is) full

-- ---- right steps

-- a step that changed nothing
pub look_right : (n : ℕ) (old new : Known) (w found : ℕ)
    → new.0.trail ≡ note w found found ∷ old.0.trail
    → KeepsRight n old new
look_right n old new w found is was = subst (AreRightSteps n) (sym is) (inl refl, was)

-- an exchange that shuts an empty word, won or lost
pub shut_right : (n : ℕ) (old new : Known) (w result : ℕ) (won lost : List Run)
    → (result ≡ 0 → new ≡ after won w result 18446744073709551615 old)
    → (result ≢ 0 → new ≡ after lost w result result old)
    → KeepsRight n old new
shut_right n old new w result won lost on_won on_lost was = elim (cases_eq result 0) [
  | inl hit ↦ subst (AreRightSteps n) (sym (ap (λ (m : Known). m.0.trail) (on_won hit))) (inr (inr (hit, refl)), was)
  | inr miss ↦ subst (AreRightSteps n) (sym (ap (λ (m : Known). m.0.trail) (on_lost miss))) (inl refl, was)
]

-- a step that claimed the bits of a block, or opened a word with them
pub claim_right : (n : ℕ) (r : Region) (old new : Known) (x : Note)
    → IsAligned n r
    → new.0.trail ≡ x ∷ old.0.trail
    → WasClaimed (run_of n r) new.0.trail
    → KeepsRight n old new
claim_right n r old new x aligned is claimed was =
    let c : WasClaimed (run_of n r) (x ∷ old.0.trail) = subst (WasClaimed (run_of n r)) is claimed in
    subst (AreRightSteps n) (sym is) (inr (inl (r, aligned, c.0, elim c.1 [ inl claims ↦ inl claims | inr opens ↦ inr (inl opens) ])), was)

-- a step that cleared the bits of a block
pub clear_right : (n : ℕ) (r : Region) (old new : Known) (x : Note)
    → IsAligned n r
    → new.0.trail ≡ x ∷ old.0.trail
    → (run_of n r).base / 64 ≡ x.word
    → Clears (run_of n r) x
    → KeepsRight n old new
clear_right n r old new x aligned is word clears was = subst (AreRightSteps n) (sym is) (inr (inl (r, aligned, word, inr (inr clears))), was)

-- an exchange for the bits of a block, won or lost
pub exchange_right : (n : ℕ) (r : Region) (old new : Known) (w result wanted left : ℕ)
    (won lost : List Run)
    → IsAligned n r
    → (result ≡ wanted → new ≡ after won w result left old)
    → (result ≢ wanted → new ≡ after lost w result result old)
    → (result ≡ wanted → WasClaimed (run_of n r) new.0.trail)
    → KeepsRight n old new
exchange_right n r old new w result wanted left won lost aligned on_won on_lost claimed = elim (cases_eq result wanted) [
  | inl hit ↦ claim_right n r old new (note w result left) aligned (ap (λ (m : Known). m.0.trail) (on_won hit)) (claimed hit)
  | inr miss ↦ look_right n old new w result (ap (λ (m : Known). m.0.trail) (on_lost miss))
]

-- ---- steps that changed nothing

pub looked_none : (trail : List Note) → OnlyLooked trail trail
looked_none [] = refl
looked_none (x ∷ xs) = inl refl

pub looked_one : (old new : Known) (w found : ℕ)
    → new.0.trail ≡ note w found found ∷ old.0.trail
    → OnlyLooked old.0.trail new.0.trail
looked_one old new w found is = subst (OnlyLooked old.0.trail) (sym is) (inr (refl, looked_none old.0.trail))
