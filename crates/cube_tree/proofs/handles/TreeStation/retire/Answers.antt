use Rattle.std.proofs.Common.{◌^◌, bit_or, refl, ◌∙◌, ap}
use Rattle.cube_core.specs.declared.event.Kind.TheVariants.{Retire}
use Rattle.cube_core.specs.declared.event.Note.TheVariants as note
use Rattle.tree_steps.specs.declared.view.Entry.{Entry}
use Rattle.cube_tree.specs.Handles.{station_entry}
use Rattle.cube_tree.proofs.HandleLemmas.{retired_record}
use Rattle.cube_tree.proofs.handles.TreeStation.retire.Goals as goal

pub returns : goal.returns
returns c =
    let retires = c.into_retired.ensures.retires in
    let is = retired_record c.args.self.idle retires.0 retires.1 in record {
      of_cube = c.into_retired.ensures.table ∙ c.requires;
      number = ap (λ (e : Entry). e.station) is;
      phase_is = ap (λ (e : Entry). e.phase) is;
      event = record { station = (station_entry c.args.self).station; kind = Retire; node = 0; word = bit_or retires.0 (2 ^ (station_entry c.args.self).station); note = note.Retired };
      kind_is = refl;
      trail = ap (λ (e : Entry). e.trail) is;
    }
