-- What the handle of a block holds.
use Rattle.std.proofs.Common.{◌≡◌, ℕ, Bool, true, ap, ◌∙◌, Some, None, if◌then◌else◌}
use Rattle.bitmap_tree.specs.declared.handles.HeldBlock.{HeldBlock}
use Rattle.bitmap_tree.specs.Handles.{held_dim, held_region, held_seat}
use Rattle.bitmap_tree.specs.declared.steps.HiddenSeat.{HiddenSeat}
use Rattle.bitmap_tree.specs.HiddenSeats.{seat_in}
use Rattle.cubejobs_regions.specs.Held.{held_at}
use Rattle.cubejobs_regions.specs.Holds.{Hold}
use Rattle.cubejobs_regions.specs.Tags.{is_held, tag_dim, tag_region}

pub chosen : {A : Type 0} (b : Bool) (x : A) → b ≡ true → (if b then Some x else None) ≡ Some x
chosen b x is = ap (λ b. if b then Some x else None) is

-- what a handle of these three fields holds
pub holds_it : (tag machine : ℕ) (seat : HiddenSeat) (number : ℕ) (held : HeldBlock) → is_held tag ≡ true → machine ≡ number
    → tag_dim tag ≡ held_dim held → tag_region tag ≡ held_region held → seat_in seat ≡ held_seat held
    → (if is_held tag then Some (record { number = machine; dim = tag_dim tag; region = tag_region tag; seat = seat_in seat }) else None)
    ≡ Some (held_at number held)
holds_it tag machine seat number held is numbered dim region same =
    let one : Hold = record { number = machine; dim = tag_dim tag; region = tag_region tag; seat = seat_in seat } in
    let both : one ≡ held_at number held = λ i. record { number = numbered i; dim = dim i; region = region i; seat = same i } in
    chosen (is_held tag) one is ∙ ap Some both
