use Rattle.cli_commands.proofs.RecordLemmas.{no_run, run_without_events}
use Rattle.cli_commands.proofs.file_run.run_lanes.Goals as goal

pub returns-in_default-clause-answered : goal.returns-in_default-clause-answered
returns-in_default-clause-answered g c parse are = no_run g.F.Floor.machine_words c.args.sizes.dim parse c.no_memory-fault.result c.no_memory-fault.ensures

pub returns-in_default-room_for-clause-answered : goal.returns-in_default-room_for-clause-answered
returns-in_default-room_for-clause-answered g c parse are = no_run g.F.Floor.machine_words c.args.sizes.dim parse c.no_memory-fault.result c.no_memory-fault.ensures

pub returns-in_default-events_of-clause-answered : goal.returns-in_default-events_of-clause-answered
returns-in_default-events_of-clause-answered g c parse are = run_without_events g.F.Floor.machine_words c.args.sizes.dim parse c.no_memory-fault.result c.in_ok-end-2.end
    c.no_memory-fault.ensures (c.in_ok-end-2.ensures.answered parse are)
