-- From the clauses of an image to those of the value.
use Rattle.std.proofs.Common.{◌≡◌, ℕ, List, ◌++◌, length, take, drop, Option, Some, None, IfSome, IfNone, sym, subst}
use Rattle.cube_shape.specs.Machine.{Holdings}
use Rattle.fit_tree.specs.declared.head.Head.{Head}
use Rattle.fit_tree.specs.Fit.{Fit, held_in}
use Rattle.fit_tree.specs.Image.{IsImage, fit_in}
use Rattle.fit_tree.proofs.HeldLemmas.{all_written}

-- what holds of the image's value holds of the value
pub of_view : (P : ℕ → Holdings → Type 0) (dim : ℕ) (rooms : List ℕ) (f : Fit) → fit_in dim rooms ≡ f → P dim (held_in (fit_in dim rooms)) → P f.dim (held_in f)
of_view P dim rooms f is holds = subst (λ x. P x.dim (held_in x)) is holds

-- and conversely
pub to_view : (P : ℕ → Holdings → Type 0) (dim : ℕ) (rooms : List ℕ) (f : Fit) → fit_in dim rooms ≡ f → P f.dim (held_in f) → P dim (held_in (fit_in dim rooms))
to_view P dim rooms f is holds = subst (λ x. P x.dim (held_in x)) (sym is) holds

-- a call wrote all rooms
pub of_written : (P : ℕ → Holdings → Holdings → Type 0) (dim len : ℕ) (old new : List ℕ) (f : Fit) → fit_in dim old ≡ f → len ≡ length old → length new ≡ length old
    → P dim (held_in (fit_in dim old)) (held_in (fit_in dim new))
    → P f.dim (held_in f) (held_in (fit_in dim (take len (new ++ drop (length new) old))))
of_written P dim len old new f is count same holds =
    of_view (λ n held. P n held (held_in (fit_in dim (take len (new ++ drop (length new) old))))) dim old f is
    (subst (λ rooms. P dim (held_in (fit_in dim old)) (held_in (fit_in dim rooms))) (sym (all_written len old new count same)) holds)

pub some_in : {A : Type 0} (n : ℕ) (head : Head) (rooms : List ℕ) (o : Option A) (P : A → Type 0) → IsImage n head rooms → IfSome o (λ a. (h : Head) → IsImage n h rooms → P a) → IfSome o P
some_in n head rooms None P image is = is
some_in n head rooms (Some a) P image is = is head image

pub none_in : {A : Type 0} (n : ℕ) (head : Head) (rooms : List ℕ) (o : Option A) (Q : Type 0) → IsImage n head rooms → IfNone o ((h : Head) → IsImage n h rooms → Q) → IfNone o Q
none_in n head rooms None Q image is = is head image
none_in n head rooms (Some a) Q image is = is
