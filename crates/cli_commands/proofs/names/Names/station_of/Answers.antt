use Rattle.std.proofs.Common.{◌≡◌, ◌≢◌, ℕ, ◌<◌, List, Option, Some, IfNone, IfSome, take, subst, rules}
use Rattle.cube_shape.specs.declared.limits.TheConstants.{MAX_STATIONS}
use Rattle.cli_commands.specs.Inner.Names.{name_at}
use Rattle.cli_commands.proofs.NameLemmas.{in_front}
use Rattle.cli_commands.proofs.names.Names.station_of.Goals as goal

pub returns-clause-some : goal.returns-clause-some
returns-clause-some c =
    let names = c.self.inside.list.items in
    let same : name_at (take c.self.inside.used names) ≡ name_at names = λ i s. in_front names c.self.inside.used c.self.invariant s i in
    let found : IfSome c.station_of.result (λ s. s < MAX_STATIONS × name_at (take c.self.inside.used names) s ≡ Some c.args.name) = search rules in
    let all : IfSome c.station_of.result (λ s. s < MAX_STATIONS × name_at names s ≡ Some c.args.name) = subst (λ (at : ℕ → Option (List ℕ)). IfSome c.station_of.result (λ s. s < MAX_STATIONS × at s ≡ Some c.args.name)) same found in
    search rules

pub returns-clause-none : goal.returns-clause-none
returns-clause-none c =
    let names = c.self.inside.list.items in
    let same : name_at (take c.self.inside.used names) ≡ name_at names = λ i s. in_front names c.self.inside.used c.self.invariant s i in
    let found : IfNone c.station_of.result ((s : ℕ) → name_at (take c.self.inside.used names) s ≢ Some c.args.name) = search rules in
    let all : IfNone c.station_of.result ((s : ℕ) → name_at names s ≢ Some c.args.name) = subst (λ (at : ℕ → Option (List ℕ)). IfNone c.station_of.result ((s : ℕ) → at s ≢ Some c.args.name)) same found in
    search rules
