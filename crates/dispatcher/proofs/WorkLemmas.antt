-- What a worker has served, and facts about a dispatcher's queue and allocator.
use Rattle.std.proofs.Common.{rules, ◌≡◌, ◌⊎◌, ℕ, ◌<◌, ◌≤◌, ⊎_elim, ◌++◌, ◌∷◌, [], List, Option, None, Some, map, refl, sym, ap, subst, ◌∙◌, arith}
use Rattle.std.proofs.lemmas.Bool.{cases_lt}
use Rattle.std.proofs.lemmas.List.{map-append, append-nil}
use Rattle.std.proofs.lemmas.List.Elements.{All-push, All-same}
use Rattle.cube_shape.specs.declared.region.Region.{Region}
use Rattle.job_types.specs.Reply.{ReplyData}
use Rattle.job_queue.specs.declared.record.QueuedJob.{QueuedJob}
use Rattle.job_queue.specs.Line.{LineId}
use Rattle.floors.specs.Floor.{FloorId}
use Rattle.dispatcher.specs.Shop.{ShopId}
use Rattle.dispatcher.specs.InnerShop.{HasServed}
use Rattle.dispatcher.specs.Reply.{answered, region_of, IsRight}
use Rattle.dispatcher.specs.declared.stop.Stop.{Stop}
use Rattle.dispatcher.specs.declared.stop.Stop.TheVariants.{Ended, OutOfMemory, NotRun, Enough}

-- What a record gained by one more job is what the list gained by one more reply.
gained : {A B : Type 0} (f : A → B) (before after : List B) (y : B) (x : A) (xs zs : List A)
    → before ≡ map f xs → after ≡ before ++ y ∷ [] → f x ≡ y → zs ≡ xs ++ x ∷ [] → after ≡ map f zs
gained {A} {B} f before after y x xs zs start gains same pushed =
    gains
    ∙ (ap (λ (bs : List B). bs ++ y ∷ []) start
    ∙ (ap (λ (z : B). map f xs ++ z ∷ []) (sym same) ∙ (sym (map-append f xs (x ∷ [])) ∙ ap (map f) (sym pushed))))

-- A worker has served one more job.
pub served_more : (n : ℕ) (taken after : List QueuedJob) (grants now : List Region)
    (replies more : List ReplyData)
    → (q : QueuedJob) (reply : ReplyData)
    → after ≡ taken ++ q ∷ []
    → answered reply ≡ q
    → now ≡ grants ++ region_of reply ∷ []
    → IsRight n reply
    → more ≡ replies ++ reply ∷ []
    → HasServed n taken grants replies
    → HasServed n after now more
served_more n taken after grants now replies more q reply takes answers granted right pushed was = record {
  answers = gained answered taken after q reply replies more was.answers takes answers pushed;
  regions = gained region_of grants now (region_of reply) reply replies more was.regions granted refl pushed;
  right = All-same (IsRight n) more (replies ++ reply ∷ []) pushed (All-push (IsRight n) replies reply was.right right);
}

-- A worker has served no more jobs.
pub served_none : (n : ℕ) (taken after : List QueuedJob) (grants : List Region)
    (replies : List ReplyData)
    → after ≡ taken ++ []
    → HasServed n taken grants replies
    → HasServed n after grants replies
served_none n taken after grants replies takes was = record { answers = takes ∙ (append-nil taken ∙ was.answers); regions = was.regions; right = was.right }

-- A worker has served the same jobs, if its replies or its record are the same.
pub served_same : (n : ℕ) (taken : List QueuedJob) (grants : List Region)
    (replies same : List ReplyData)
    → same ≡ replies
    → HasServed n taken grants replies
    → HasServed n taken grants same
served_same n taken grants replies same is was = subst (λ (rs : List ReplyData). HasServed n taken grants rs) (sym is) was

-- A fact about the queue or allocator of a dispatcher holds of the one that contracts see.
pub at_line : (P : LineId → Type 0) (within seen : ShopId)
    → within ≡ seen
    → P within.line
    → P seen.line
at_line P within seen same fact = subst (λ (s : ShopId). P s.line) same fact

pub at_floor : (P : FloorId → Type 0) (within seen : ShopId)
    → within ≡ seen
    → P within.floor
    → P seen.floor
at_floor P within seen same fact = subst (λ (s : ShopId). P s.floor) same fact

-- A count that is within the limit and not at it is below it.
pub below_limit : (limit : Option ℕ) (count : ℕ)
    → ((most : ℕ) → limit ≡ Some most → count ≤ most)
    → (limit ≡ Some count → ⊥)
    → (most : ℕ)
    → limit ≡ Some most
    → count < most
below_limit limit count within other most is = ⊎_elim
    (λ (lt : count < most). lt)
    (λ (ge : most ≤ count). absurd (other (is ∙ ap Some (omega (arith, ge, within most is)))))
    (cases_lt count most)

-- A worker that found the queue ended has stopped for no other reason.
pub ended_not_enough : Ended ≡ Enough → ⊥
ended_not_enough is = search rules

pub ended_not_no_memory : Ended ≡ OutOfMemory → ⊥
ended_not_no_memory is = search rules

pub ended_not_idle : Ended ≡ NotRun → ⊥
ended_not_idle is = search rules

-- A worker that takes no further job has not found the end.
pub full_not_ended : (stop : Stop) → (stop ≡ Enough) ⊎ (stop ≡ OutOfMemory) → stop ≡ Ended → ⊥
full_not_ended stop why is = ⊎_elim (λ (enough : stop ≡ Enough). ended_not_enough (sym is ∙ enough)) (λ (no_room : stop ≡ OutOfMemory). ended_not_no_memory (sym is ∙ no_room)) why

pub full_not_idle : (stop : Stop) → (stop ≡ Enough) ⊎ (stop ≡ OutOfMemory) → stop ≡ NotRun → ⊥
full_not_idle stop why is = search rules

pub some_is : (stop : Stop) → Some stop ≡ Some Enough → stop ≡ Enough
some_is stop same = search rules

-- Without a limit, no count is the limit.
pub no_limit : (count : ℕ) → None ≡ Some count → ⊥
no_limit count is = search rules
