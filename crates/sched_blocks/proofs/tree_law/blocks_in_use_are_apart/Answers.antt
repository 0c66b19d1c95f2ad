use Rattle.std.proofs.Common.{inl}
use Rattle.cube_shape.proofs.PathLemmas.{OnPath-self}
use Rattle.cube_shape.proofs.RegionLemmas.{IsNodeOf-in_cube}
use Rattle.sched_blocks.proofs.UseLemmas.{idle_no_end, no_end_beside, used_alone, vacant_idle}
use Rattle.sched_blocks.proofs.FollowLemmas.{pass_vacant}
use Rattle.sched_blocks.proofs.tree_law.blocks_in_use_are_apart.Goals as goal

pub returns-clause-used : goal.returns-clause-used
returns-clause-used c = λ w own used ends busy v tracks inside is. used_alone w tracks.safe used tracks.uses v inside is

pub returns-clause-vacant : goal.returns-clause-vacant
returns-clause-vacant c = λ w own used ends busy v r tracks named vacant u within on other.
    vacant_idle w tracks.safe used tracks.uses v r named vacant u within on

pub returns-clause-vacant_idle : goal.returns-clause-vacant_idle
returns-clause-vacant_idle c = λ w own used ends busy v r tracks named vacant.
    let inside = IsNodeOf-in_cube w.dim v r named in
    vacant_idle w tracks.safe used tracks.uses v r named vacant v inside (inl (OnPath-self v inside.0))

pub returns-clause-idle : goal.returns-clause-idle
returns-clause-idle c = λ w own used ends busy v tracks inside idle. idle_no_end w tracks.safe used tracks.uses own tracks.owns v inside idle

pub returns-clause-beside : goal.returns-clause-beside
returns-clause-beside c = λ w own used ends busy v tracks alone. no_end_beside w tracks.safe used tracks.uses own tracks.owns v alone

pub returns-clause-passed : goal.returns-clause-passed
returns-clause-passed c = λ w h head k r vacant. pass_vacant w h head k r vacant
