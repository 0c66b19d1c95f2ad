use Rattle.tests_kit.proofs.PairLemmas.{only_of_one}
use Rattle.dispatcher.specs.Members.{IsWorkerOf, worker_record}
use Rattle.tests_kit.proofs.OnlyLemmas.{one_mapped}
use Rattle.tests_kit.proofs.shop_members.only_worker.Goals as goal

pub only-requires : goal.only-requires
only-requires g c = one_mapped worker_record _ _ c.requires.fresh

pub returns-clause-worker : goal.returns-clause-worker
returns-clause-worker g c = only_of_one (IsWorkerOf c.args.shop.now) _ _ c.only.ensures.member c.requires.workers
