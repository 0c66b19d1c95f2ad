-- A log shares nothing, so threads may look at it.
use denote.RattleType.{RattleType}
use denote.Param.Send.{IsSend, IsSync, owning_send, part_keyless, sendable}
use Rattle.cube_ledger.specs.contracts.log.Log.{the_row, the_type}

crosses : (T : RattleType) → IsSend (the_row T)
crosses T = owning_send (the_type T) (search sendable, tt) (λ d. tt) (λ k x w. tt)

pub sync : (T : RattleType) → IsSync T → IsSync (the_row T)
sync T t = record { shared = λ d b o κ q. part_keyless (the_row T) (crosses T) q d b o }
