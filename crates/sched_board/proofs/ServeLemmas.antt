-- Workers that got a job, over several decisions.
use Rattle.std.proofs.Common.{◌≡◌, ◌≢◌, ℕ, ◌≤◌, ◌⊎◌, inl, inr, Option, None, Some, List, sym, ◌∙◌, ap, subst}
use Rattle.std.proofs.lemmas.Bool.{cases_eq}
use Rattle.sched_board.specs.declared.workers.PoolWorker.{PoolWorker}
use Rattle.sched_board.specs.declared.workers.PoolWorker.TheVariants.{Away, Waiting, Busy}
use Rattle.sched_board.specs.Workers.{does}
use Rattle.sched_board.specs.Pool.{HasSameWorkers, KeepsWorkers, worker_in}
use Rattle.sched_board.specs.declared.board.JobBoard.{JobBoard}
use Rattle.sched_board.specs.declared.serving.WorkerStage.{WorkerStage}
use Rattle.sched_board.specs.declared.woken.TheConstants.{MOST_WOKEN}
use Rattle.sched_board.specs.declared.woken.Woken.{Woken}
use Rattle.sched_board.specs.JobBoard.{IsServed, Serves, NamesWoken}
use Rattle.sched_board.specs.Served.{HasStopped, NamesOthers}
use Rattle.sched_board.specs.Woken.{AreApart, Has}

away_waiting : Away ≡ Waiting → ⊥
away_waiting e = cc

waiting_busy : {slot : ℕ} → Waiting ≡ Busy slot → ⊥
waiting_busy e = cc

pub waits_not_busy : {p : PoolWorker} {slot : ℕ} → p ≡ Waiting → p ≡ Busy slot → ⊥
waits_not_busy waits busy = waiting_busy (sym waits ∙ busy)

pub none_some : {a : ℕ} → ◌≡◌ {A = Option ℕ} None (Some a) → ⊥
none_some e = cc

-- ---- served

served_then : (a b c : PoolWorker) → IsServed a b → IsServed b c → IsServed a c
served_then a b c (inl same) (inl also) = inl (also ∙ same)
served_then a b c (inl same) (inr (waits, busy)) = inr (sym same ∙ waits, busy)
served_then a b c (inr (waits, (slot, busy))) (inl also) = inr (waits, (slot, also ∙ busy))
served_then a b c (inr (waits, (slot, busy))) (inr (idle, _)) = absurd (waits_not_busy idle busy)

pub serves_then : (me : Option ℕ) (x y z : JobBoard) → Serves me x y → Serves me y z → Serves me x z
serves_then me x y z first next u other =
    served_then (worker_in x.pool u) (worker_in y.pool u) (worker_in z.pool u) (first u other) (next u other)

pub serves_same : (me : Option ℕ) (x y : JobBoard) → HasSameWorkers x.pool y.pool → Serves me x y
serves_same me x y same u other = inl (ap (λ (ws : List PoolWorker). does ws u) same)

-- a worker itself does something else
pub serves_others : (n : ℕ) (x y : JobBoard) → KeepsWorkers x.pool y.pool n → Serves (Some n) x y
serves_others n x y others u other = inl (others u (λ here. other (ap Some (sym here))))

pub serves_any : (me : Option ℕ) (x y : JobBoard) → Serves None x y → Serves me x y
serves_any me x y serves u other = serves u (λ e. none_some e)

-- one worker that waited has a job
module _ (y z : JobBoard) (n slot : ℕ) (waits : worker_in y.pool n ≡ Waiting) (busy : worker_in z.pool n ≡ Busy slot)
    (others : KeepsWorkers y.pool z.pool n) where
  pub serves_one : (me : Option ℕ) → Serves me y z
  serves_one me u other = elim (cases_eq u n) [
    | inl here ↦ inr (ap (worker_in y.pool) here ∙ waits, (slot, ap (worker_in z.pool) here ∙ busy))
    | inr far ↦ inl (others u far)
  ]

  -- ---- named

  pub names_one : (x : JobBoard) (old new : Woken) → Serves None x y → NamesWoken x y old → Has new n
      → ((u : ℕ) → Has old u → Has new u) → ((u : ℕ) → Has new u → Has old u ⊎ (u ≡ n)) → (AreApart old → (Has old n → ⊥) → AreApart new)
      → new.count ≤ MOST_WOKEN → NamesWoken x z new
  names_one x old new serves names added kept no_more apart limit = record {
    all = λ u s was is. elim (cases_eq u n) [
      | inl here ↦ subst (Has new) (sym here) added
      | inr far ↦ kept u (names.all u s was (sym (others u far) ∙ is))
    ];
    only = λ u named. elim (no_more u named) [
      | inl before ↦
          let was = names.only u before in
          (was.0, ((was.1).0, others u (λ here. waits_not_busy (ap (worker_in y.pool) here ∙ waits) (was.1).1) ∙ (was.1).1))
      | inr here ↦ (waited u here, (slot, ap (worker_in z.pool) here ∙ busy))
    ];
    apart = apart names.apart (λ named. waits_not_busy waits ((names.only n named).1).1);
    limit = limit;
  }
    where
      waited : (u : ℕ) → u ≡ n → worker_in x.pool u ≡ Waiting
      waited u here = elim (serves u (λ e. none_some e)) [
        | inl same ↦ sym same ∙ ap (worker_in y.pool) here ∙ waits
        | inr (was, _) ↦ was
      ]

pub names_same : (x y z : JobBoard) (woken : Woken) → HasSameWorkers y.pool z.pool → NamesWoken x y woken → NamesWoken x z woken
names_same x y z woken same names = record {
  all = λ u s was is. names.all u s was (sym (ap (λ (ws : List PoolWorker). does ws u) same) ∙ is);
  only = λ u named. let was = names.only u named in (was.0, ((was.1).0, ap (λ (ws : List PoolWorker). does ws u) same ∙ (was.1).1));
  apart = names.apart;
  limit = names.limit;
}

-- before that, the workers did the same
pub names_after : (x y z : JobBoard) (woken : Woken) → HasSameWorkers x.pool y.pool → NamesWoken y z woken → NamesWoken x z woken
names_after x y z woken same names = record {
  all = λ u s was is. names.all u s (ap (λ (ws : List PoolWorker). does ws u) same ∙ was) is;
  only = λ u named. let got = names.only u named in (sym (ap (λ (ws : List PoolWorker). does ws u) same) ∙ got.0, got.1);
  apart = names.apart;
  limit = names.limit;
}

-- before that, the other workers did the same
pub names_others : (me : ℕ) (x y z : JobBoard) (woken : Woken) → ((u : ℕ) → u ≢ me → worker_in y.pool u ≡ worker_in x.pool u)
    → NamesWoken y z woken → NamesOthers me x z woken
names_others me x y z woken others names = record {
  all = λ u s far was is. names.all u s (others u far ∙ was) is;
  only = λ u far named. let got = names.only u named in (sym (others u far) ∙ got.0, got.1);
  apart = names.apart;
  limit = names.limit;
}

-- a worker that has stopped gets no job
pub still_stopped : (stage : WorkerStage) (before after now : PoolWorker) → HasStopped stage before after → IsServed after now → HasStopped stage before now
still_stopped stage before after now (inl away) (inl same) = inl (same ∙ away)
still_stopped stage before after now (inl away) (inr (waits, _)) = absurd (away_waiting (sym away ∙ waits))
still_stopped stage before after now (inr (asked, (slot, had, has))) (inl same) = inr (asked, (slot, had, same ∙ has))
still_stopped stage before after now (inr (asked, (slot, had, has))) (inr (waits, _)) = absurd (waits_not_busy waits has)
