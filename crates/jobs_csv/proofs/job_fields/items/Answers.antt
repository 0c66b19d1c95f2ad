use Rattle.std.proofs.Common.{◌≡◌, ℕ, ◌+◌, ◌<◌, ◌==◌, true, false, List, [], ◌∷◌, ◌++◌, length, drop, get_or, Option, Some, None, Ok, option_map, option_and_then, refl, sym, ap, ◌∙◌, append_assoc, arith, rules, tests}
use Rattle.std.proofs.lemmas.Iterator.Splits.{YieldsList-from_slice_split}
use Rattle.std.proofs.lemmas.Iterator.Consumers.{YieldsList-at, YieldsList-turn, YieldsList-end}
use Rattle.std.proofs.lemmas.List.{at_drop_more, at_drop_all, length_push}
use Rattle.std.proofs.lemmas.List.Splits.{slice_split_none}
use Rattle.std.proofs.lemmas.List.Sums.{AllPass-from_list_all}
use Rattle.std.proofs.lemmas.Bool.Decides.{nat_tests}
use Rattle.std.specs.Char.{is_ascii_digit}
use Rattle.std.specs.List.{list_all, slice_split}
use Rattle.jobs_csv.specs.declared.fault.FaultKind.TheVariants as what
use Rattle.jobs_csv.specs.Fields.{number_of}
use Rattle.jobs_csv.specs.JobFields.{all_numbers, items_of, numbers_of}
use Rattle.jobs_csv.specs.Outcome.{or_refuse}
use Rattle.jobs_csv.proofs.job_fields.items.Goals as goal

-- the pieces between single spaces
abbrev pieces_of : List ℕ → List (List ℕ)
pieces_of field = slice_split (λ byte. byte == 32) field

-- an empty field has no items
no_items : (field : List ℕ) → length field ≡ 0 → items_of field ≡ Ok []
unfolding items_of numbers_of
no_items [] e = refl
no_items (byte ∷ rest) e = cc

-- the items of any other field are the numbers of its pieces
items_of_pieces : (field : List ℕ)
    → 0 < length field
    → items_of field ≡ or_refuse what.Number (all_numbers (pieces_of field))
unfolding items_of numbers_of
items_of_pieces [] e = search rules
items_of_pieces (byte ∷ rest) e = refl

-- the number of one piece, and those of the pieces after it
with_first : Option (List ℕ) → Option ℕ → Option (List ℕ)
with_first rest first = option_and_then (λ x. option_and_then (λ xs. Some (x ∷ xs)) rest) first

first_number : (piece : List ℕ) (pieces : List (List ℕ))
    → all_numbers (piece ∷ pieces) ≡ with_first (all_numbers pieces) (number_of piece)
unfolding all_numbers with_first
first_number piece pieces = refl

-- the numbers of the pieces from k on
numbers_from : (pieces : List (List ℕ)) (k : ℕ) (piece : List ℕ)
    → (k < length pieces) × (piece ≡ get_or pieces k piece)
    → all_numbers (drop k pieces) ≡ with_first (all_numbers (drop (k + 1) pieces)) (number_of piece)
numbers_from pieces k piece at = at_drop_more all_numbers pieces k piece at.0 ∙ first_number _ _ ∙ ap (λ p. with_first (all_numbers (drop (k + 1) pieces)) (number_of p)) (sym at.1)

behind : List ℕ → Option (List ℕ) → Option (List ℕ)
behind front rest = option_map (λ more. front ++ more) rest

-- one item moves from those that are left to those in front
one_more : (items : List ℕ) (x : ℕ) (rest : Option (List ℕ))
    → behind items (with_first rest (Some x)) ≡ behind (items ++ x ∷ []) rest
unfolding with_first behind
one_more items x None = refl
one_more items x (Some xs) = ap Some (sym (append_assoc items (x ∷ []) xs))

no_more : (items : List ℕ) (rest : Option (List ℕ)) → behind items (with_first rest None) ≡ None
unfolding with_first behind
no_more items rest = refl

all_done : (items : List ℕ) → behind items (all_numbers []) ≡ Some items
unfolding all_numbers behind
all_done items = ap Some (search rules)

-- a digit is no space
no_space : (byte : ℕ) → is_ascii_digit byte ≡ true → (byte == 32) ≡ false
no_space byte digit = grind (arith, nat_tests)

-- the bytes of a number are digits
digits_of : (field : List ℕ) (item : ℕ)
    → number_of field ≡ Some item
    → list_all is_ascii_digit field ≡ true
unfolding number_of
digits_of field item number = grind (arith, nat_tests)

-- a field that is one number has this one item
one_number : (field : List ℕ) (item : ℕ)
    → number_of field ≡ Some item
    → items_of field ≡ Ok (item ∷ [])
unfolding items_of numbers_of number_of all_numbers with_first
one_number [] item number = cc
one_number (byte ∷ rest) item number =
    let digits = AllPass-from_list_all is_ascii_digit (byte ∷ rest) (digits_of (byte ∷ rest) item number) in
    let whole = slice_split_none (λ byte. byte == 32) (byte ∷ rest) (λ k d lt. no_space _ (digits k d lt)) in
    ap (λ pieces. or_refuse what.Number (all_numbers pieces)) whole ∙ ap (λ first. or_refuse what.Number (with_first (Some []) first)) number

pub returns-in-Some : goal.returns-in-Some
returns-in-Some c = rw (one_number c.args.field.now c.in-Some.item (search rules)) c.one_item.ensures

pub returns-then-is_empty : goal.returns-then-is_empty
returns-then-is_empty c = rw c.new.ensures.items (no_items c.args.field.now (search rules))

pub returns-in-None-number : goal.returns-in-None-number
unfolding behind
returns-in-None-number c =
    let field = c.args.field.now in
    let turn = YieldsList-turn (YieldsList-at c.into_iter-piece-iterator.ensures.into_iter_gives (YieldsList-from_slice_split _ (λ byte. byte == 32) c.args.field.now c.split-piece-items.ensures.rest c.split-piece-items.ensures.done c.split-piece-items.ensures.closure (λ x r q k. search (rules, tests)))) c.loop-piece.yielded _ c.loop-piece.yielded_by _ _ c.in-Some-piece.piece c.in-Some-piece.is c.next.ensures.steps in
    let rest = numbers_from (pieces_of field) _ _ turn in
    let bad : number_of c.in-Some-piece.piece.now ≡ None = search rules in
    let none : all_numbers (pieces_of field) ≡ None = c.loop-piece.invariant ∙ ap (behind c.loop-piece.items.items) (rest ∙ ap (with_first _) bad) ∙ no_more _ _ in
    items_of_pieces field (search rules) ∙ ap (or_refuse what.Number) none

pub loop-piece-preserved : goal.loop-piece-preserved
unfolding behind
loop-piece-preserved c =
    let field = c.args.field.now in
    let turn = YieldsList-turn (YieldsList-at c.into_iter-piece-iterator.ensures.into_iter_gives (YieldsList-from_slice_split _ (λ byte. byte == 32) c.args.field.now c.split-piece-items.ensures.rest c.split-piece-items.ensures.done c.split-piece-items.ensures.closure (λ x r q k. search (rules, tests)))) c.loop-piece.yielded _ c.loop-piece.yielded_by _ _ c.in-Some-piece.piece c.in-Some-piece.is c.next.ensures.steps in
    let rest = numbers_from (pieces_of field) _ _ turn in
    let good : number_of c.in-Some-piece.piece.now ≡ Some c.in-Some-number.item = search rules in
    let now : all_numbers (pieces_of field) ≡ behind (c.loop-piece.items.items ++ c.in-Some-number.item ∷ []) (all_numbers (drop (length c.loop-piece.yielded + 1) (pieces_of field))) = c.loop-piece.invariant ∙ ap (behind c.loop-piece.items.items) (rest ∙ ap (with_first _) good) ∙ one_more _ _ _ in
    let pushed : c.push.new.self.items ≡ c.loop-piece.items.items ++ c.in-Some-number.item ∷ [] = search rules in
    rw (length_push c.loop-piece.yielded c.in-Some-piece.piece, pushed) now

pub returns : goal.returns
unfolding behind
returns c =
    let field = c.args.field.now in
    let last = YieldsList-end (YieldsList-at c.into_iter-piece-iterator.ensures.into_iter_gives (YieldsList-from_slice_split _ (λ byte. byte == 32) c.args.field.now c.split-piece-items.ensures.rest c.split-piece-items.ensures.done c.split-piece-items.ensures.closure (λ x r q k. search (rules, tests)))) c.loop-piece.yielded _ c.loop-piece.yielded_by _ _ c.in-None.is c.next.ensures.steps in
    let rest : all_numbers (drop (length c.loop-piece.yielded) (pieces_of field)) ≡ all_numbers [] = at_drop_all all_numbers (pieces_of field) _ (omega (arith, last.1)) in
    let all : all_numbers (pieces_of field) ≡ Some c.loop-piece.items.items = c.loop-piece.invariant ∙ ap (behind c.loop-piece.items.items) rest ∙ all_done _ in
    items_of_pieces field (search rules) ∙ ap (or_refuse what.Number) all
