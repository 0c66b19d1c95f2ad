use denote.Param.Send.{IsSend}
use Rattle.atomic_table.proofs.Sent.{badge_keyless}
use Rattle.sched_threads.specs.contracts.view.View.{the_row as V}
use Rattle.sched_threads.specs.contracts.receipt.HiddenReceipt.{the_row}

pub send : IsSend the_row
send = record { owned = λ d vs. ((λ vss. (tt, ((λ uss. (tt, tt)), tt))), badge_keyless V.coded.code d.table_id d.id d.views); leaving = λ k f vs. tt }
