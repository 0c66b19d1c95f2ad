-- The end of a lane and the sizes of a dispatcher, put together from their parts.
use Rattle.std.proofs.Common.{◌≡◌, ℕ, List, sym, ap, ◌∙◌}
use Rattle.job_types.specs.Job.{JobData}
use Rattle.job_queue.specs.declared.record.LaneRecord.{LaneRecord}
use Rattle.dispatcher.specs.declared.opening.ShopSizes.{ShopSizes}
use Rattle.dispatcher.specs.Shop.{ShopId, HasSizes}
use Rattle.dispatcher_threads.specs.declared.running.LaneEnd.{LaneEnd}
use Rattle.dispatcher_threads.specs.InnerEnd.{HasEnded}
use Rattle.dispatcher_threads.specs.InnerNaming.{sizes_of}

-- The jobs of each lane by another name.
pub named_end : (jobs named : ℕ → List JobData) (lane : LaneRecord) (end : LaneEnd)
    → ((k : ℕ) → named k ≡ jobs k) → HasEnded jobs lane end → HasEnded named lane end
named_end jobs named lane end same is = record {
  number = is.number;
  accepted = is.accepted;
  entries = is.entries;
  all_jobs = is.all_jobs ∙ sym (same lane.number);
  stopped = is.stopped;
}

-- The sizes of a dispatcher are those that were asked for.
abbrev sized : ℕ → ℕ → ℕ → ShopSizes
sized dim dispatchers capacity = record { dim = dim; dispatchers = dispatchers; capacity = capacity }

pub sizes_are : (asked : ShopSizes) (lanes : ℕ) (shop : ShopId)
    → HasSizes asked.dim lanes asked.dispatchers asked.capacity shop → sizes_of shop ≡ asked
sizes_are asked lanes shop has =
    ap (λ (k : ℕ). sized k shop.line.sizes.passes shop.line.sizes.capacity) has.dim
    ∙ (ap (λ (k : ℕ). sized asked.dim k shop.line.sizes.capacity) has.workers ∙ ap (λ (k : ℕ). sized asked.dim asked.dispatchers k) has.holds)
