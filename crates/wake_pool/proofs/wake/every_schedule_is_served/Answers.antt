use Rattle.wake_pool.specs.Schedule.{apply_all, initial}
use Rattle.wake_pool.proofs.ServedLemmas.{all_sound, IsSound-served}
use Rattle.wake_pool.proofs.wake.every_schedule_is_served.Goals as goal

pub returns : goal.returns
returns c =
    λ workers lanes words word inside acts. IsSound-served (apply_all acts (initial workers lanes words word)) (all_sound workers lanes words word inside acts)
