use Rattle.std.proofs.Common.{◌≡◌, ◌≢◌, ℕ, ◌<◌, Some, None, ap, sym, subst, rules}
use Rattle.cube_shape.specs.declared.limits.TheConstants.{MAX_STATIONS}
use Rattle.alloc_bits.specs.Allocation.{Allocation, held_in}
use Rattle.cube_shape.specs.Machine.{HasNoFit}
use Rattle.cli_commands.specs.Place.{regions}
use Rattle.cli_commands.specs.Inner.Names.{name_at}
use Rattle.cli_commands.specs.Inner.Stations.{named_holdings_with}
use Rattle.cli_commands.proofs.StationLemmas.{names_agree_given, holds_none, holds_some, is_given, not_full, regions_are}
use Rattle.cli_commands.proofs.stations.Stations.take.Goals as goal

pub returns-in-Some-clause-step : goal.returns-in-Some-clause-step
returns-in-Some-clause-step c =
    let named : name_at c.args.self.now.names c.in-Some._holder ≡ Some c.args.name = search rules in
    (holds_some c.args.self.now.names (held_in c.args.self.now.bits) c.requires.made c.in-Some._holder c.args.name named, λ s. search rules)

pub returns-in_default-take-clause-step : goal.returns-in_default-take-clause-step
returns-in_default-take-clause-step c =
    let names = c.args.self.now.names in
    let held = held_in c.args.self.now.bits in
    let lacks : (s : ℕ) → name_at names s ≢ Some c.args.name = search rules in
    let idle : name_at names c.in-Some-first_idle.station ≡ None = search rules in
    let below : c.in-Some-first_idle.station < MAX_STATIONS = search rules in
    let none : HasNoFit c.args.self.now.bits.dim c.args.dim held = search rules in
    let unfit : HasNoFit c.args.self.now.bits.dim c.args.dim (regions (named_holdings_with names held)) = subst (λ all. HasNoFit c.args.self.now.bits.dim c.args.dim all) (sym (regions_are names held c.requires.made)) none in
    let same : c.take.new.self ≡ c.args.self.now.bits = search rules in
    (holds_none names held c.args.name lacks, not_full names held c.in-Some-first_idle.station below idle, unfit, λ s. ap (λ (bits : Allocation). named_holdings_with names (held_in bits) s) same)

pub returns-clause-made : goal.returns-clause-made
returns-clause-made c =
    let below : c.in-Some-first_idle.station < MAX_STATIONS = search rules in
    names_agree_given c.args.self.now.names c.set.new.self (held_in c.args.self.now.bits) (held_in c.take.new.self) c.in-Some-first_idle.station c.args.self.now.bits.dim c.args.dim c.in-Ok.region c.args.name c.set.ensures below c.requires.made c.in-Ok.ensures.given

pub returns-clause-step : goal.returns-clause-step
returns-clause-step c =
    let names = c.args.self.now.names in
    let lacks : (s : ℕ) → name_at names s ≢ Some c.args.name = search rules in
    let idle : name_at names c.in-Some-first_idle.station ≡ None = search rules in
    let below : c.in-Some-first_idle.station < MAX_STATIONS = search rules in
    let first : (t : ℕ) → t < c.in-Some-first_idle.station → name_at names t ≢ None = search rules in
    let (m, is, fit) = c.in-Ok.ensures.first in
    is_given names c.set.new.self (held_in c.args.self.now.bits) (held_in c.take.new.self) c.in-Some-first_idle.station c.args.self.now.bits.dim c.args.dim m c.in-Ok.region c.args.name c.set.ensures c.requires.made lacks below idle first c.in-Ok.ensures.given is fit
