-- Lists of pieces: the numbers (seqs) of a lane's pieces, and that they rise.
use Rattle.std.proofs.Common.{◌≡◌, ℕ, ◌+◌, ◌<◌, Bool, true, false, cond, List, [], ◌∷◌, ◌++◌, length, append_assoc, sym, subst, arith}
use Rattle.std.specs.List.{AllByRecursion}
use Rattle.ghost_history.specs.Sums.{total}
use Rattle.ghost_history.proofs.ViewLemmas.{all_append}
use Rattle.line_ring.specs.Record.{AreSeqs, Rises}
use Rattle.ghost_history.specs.Lists.{rest_of}

module _ {T : Type 0} where
  pub all-middle : (P : T → Type 0) (xs : List T) (y : T) (ys : List T)
      → AllByRecursion P (xs ++ y ∷ ys)
      → AllByRecursion P (xs ++ ys)
  all-middle P [] y ys all = all.1
  all-middle P (x ∷ xs) y ys all = (all.0, all-middle P xs y ys all.1)

  pub all-front : (P : T → Type 0) (xs ys : List T)
      → AllByRecursion P (xs ++ ys)
      → AllByRecursion P xs
  all-front P [] ys all = tt
  all-front P (x ∷ xs) ys all = (all.0, all-front P xs ys all.1)

  -- The piece at the front goes out. It comes after those that are out, or it is gone.
  pub leaves : (Q : List T → Type 0)
      → ((xs : List T) (y : T) (ys : List T) → Q (xs ++ y ∷ ys) → Q (xs ++ ys))
      → (b : Bool) (out waits : List T) (x : T)
      → waits ≡ x ∷ rest_of waits
      → Q (out ++ waits)
      → Q (cond b (out ++ x ∷ []) out ++ rest_of waits)
  leaves Q middle true out waits x front all = subst Q (sym (append_assoc out (x ∷ []) (rest_of waits))) (subst (λ (ws : List T). Q (out ++ ws)) front all)
  leaves Q middle false out waits x front all = middle out x (rest_of waits) (subst (λ (ws : List T). Q (out ++ ws)) front all)

  pub no_pieces : (xs : List T) → total (λ _. 1) xs ≡ 0 → xs ≡ []
  no_pieces [] none = λ _. []
  no_pieces (x ∷ xs) none = absurd (omega arith)

  pub count_pieces : (xs : List T) → total (λ _. 1) xs ≡ length xs
  count_pieces [] = λ _. 0
  count_pieces (x ∷ xs) = omega (arith, count_pieces xs)

module _ {T : Type 0} (lane_of seq_of : T → ℕ) where
  pub seqs-push : (lane seq : ℕ) (xs : List T) (x : T)
      → AreSeqs lane_of seq_of lane seq xs
      → lane_of x ≡ lane
      → seq_of x ≡ seq + length xs
      → AreSeqs lane_of seq_of lane seq (xs ++ x ∷ [])
  seqs-push lane seq [] x seqs own next = (own, omega (arith, next), tt)
  seqs-push lane seq (y ∷ xs) x seqs own next = (seqs.0, seqs.1, seqs-push lane (seq + 1) xs x seqs.2 own (omega (arith, next)))

  -- Piece `x` comes later than `q` if both are of one lane.
  abbrev pub Before : T → T → Type 0
  Before x q = lane_of q ≡ lane_of x → seq_of q < seq_of x

  pub rises-push : (xs : List T) (x : T)
      → Rises lane_of seq_of xs
      → AllByRecursion (Before x) xs
      → Rises lane_of seq_of (xs ++ x ∷ [])
  rises-push [] x rises later = (tt, tt)
  rises-push (y ∷ xs) x rises later =
      (all_append (λ q. lane_of q ≡ lane_of y → seq_of y < seq_of q) xs (x ∷ []) rises.0 ((λ same. later.0 (sym same)), tt), rises-push xs x rises.1 later.1)

  pub rises-middle : (xs : List T) (y : T) (ys : List T)
      → Rises lane_of seq_of (xs ++ y ∷ ys)
      → Rises lane_of seq_of (xs ++ ys)
  rises-middle [] y ys rises = rises.1
  rises-middle (x ∷ xs) y ys rises = (all-middle (λ q. lane_of q ≡ lane_of x → seq_of x < seq_of q) xs y ys rises.0, rises-middle xs y ys rises.1)

  pub rises-front : (xs ys : List T) → Rises lane_of seq_of (xs ++ ys) → Rises lane_of seq_of xs
  rises-front [] ys rises = tt
  rises-front (x ∷ xs) ys rises = (all-front (λ q. lane_of q ≡ lane_of x → seq_of x < seq_of q) xs ys rises.0, rises-front xs ys rises.1)

  -- If a piece follows a list, and both together rise, it is later than each piece of the list.
  pub before-next : (xs : List T) (x : T) (ys : List T)
      → Rises lane_of seq_of (xs ++ x ∷ ys)
      → AllByRecursion (Before x) xs
  before-next [] x ys rises = tt
  before-next (z ∷ xs) x ys rises = ((λ same. next xs rises.0 (sym same)), before-next xs x ys rises.1)
    where
      next : (ws : List T)
          → AllByRecursion (λ q. lane_of q ≡ lane_of z → seq_of z < seq_of q) (ws ++ x ∷ ys)
          → lane_of x ≡ lane_of z
          → seq_of z < seq_of x
      next [] all = all.0
      next (w ∷ ws) all = next ws all.1

  -- A piece that is next after each of two lists is next after both.
  pub rises-both : (xs ys : List T) (x : T) (zs : List T)
      → Rises lane_of seq_of (xs ++ ys)
      → Rises lane_of seq_of (xs ++ x ∷ zs)
      → Rises lane_of seq_of (ys ++ x ∷ zs)
      → Rises lane_of seq_of (xs ++ (ys ++ x ∷ []))
  rises-both xs ys x zs both left right =
      subst (Rises lane_of seq_of) (append_assoc xs ys (x ∷ [])) (rises-push (xs ++ ys) x both (all_append (Before x) xs ys (before-next xs x zs left) (before-next ys x zs right)))
