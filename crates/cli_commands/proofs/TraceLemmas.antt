-- One thing more after the others, and its rows after theirs.
use Rattle.std.proofs.Common.{◌≡◌, ℕ, List, [], ◌∷◌, ◌++◌, refl, sym, ap, subst, ◌∙◌, append-nil, append_assoc}
use Rattle.std.specs.List.{flat_map}
use Rattle.std.proofs.lemmas.Grind.{flat_map-append}
use Rattle.cli_commands.specs.Trace.{IsTrace, StepRelation}

pub one_more : {Thing State Row : Type 0} (becomes : StepRelation Thing State Row)
    (things : List Thing) (thing : Thing) (first now last : State) (rows told : List Row)
    → IsTrace becomes things first now rows
    → becomes thing now last told
    → IsTrace becomes (things ++ thing ∷ []) first last (rows ++ told)
one_more becomes [] thing first now last rows told (at, none) b =
    (last, told, [], subst (λ s. becomes thing s last told) at b, (refl, refl), ap (λ r. r ++ told) none ∙ sym (append-nil told))
one_more becomes (other ∷ things) thing first now last rows told (next, here, more, a, rest, same) b =
    (next, here, more ++ told, a, one_more becomes things thing next now last more told rest b, ap (λ r. r ++ told) same ∙ append_assoc here more told)

-- the lines of more rows after those before
pub more_lines : {Row : Type 0} (header : List ℕ) (line : Row → List ℕ) (rows more : List Row)
    → (header ++ flat_map line rows) ++ flat_map line more ≡ header ++ flat_map line (rows ++ more)
more_lines header line rows more = append_assoc header (flat_map line rows) (flat_map line more) ∙ ap (λ text. header ++ text) (sym (flat_map-append line rows more))
