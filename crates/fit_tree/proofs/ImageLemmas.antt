-- What an image holds, and how a take and a release change it.
use Rattle.std.proofs.Common.{◌≡◌, ◌≢◌, ℕ, ◌+◌, ◌/◌, ◌⊎◌, inl, inr, List, length, Some, refl, sym, ◌∙◌, ap, subst}
use Rattle.std.specs.Prelude.{◌↔◌}
use Rattle.std.proofs.Math.ListN.{set}
use Rattle.cube_shape.specs.declared.region.Region.{Region}
use Rattle.cube_shape.specs.Node.{IsNodeOf}
use Rattle.cube_shape.specs.Machine.{Gives, Holdings, TakesBack}
use Rattle.cube_shape.proofs.RegionLemmas.{IsNodeOf-aligned}
use Rattle.fit_tree.specs.declared.head.Head.{Head}
use Rattle.fit_tree.specs.Rooms.{IsNode, IsSound, IsSoundBut, room_of}
use Rattle.fit_tree.specs.Fit.{HoldsBlock, held_in}
use Rattle.fit_tree.specs.Image.{AreCounted, IsImage, fit_in}
use Rattle.fit_tree.specs.InnerFit.{held_by}
use Rattle.fit_tree.specs.InnerNodes.{CanSet, HasNoTakenAbove, IsFirstIn, IsOpen}
use Rattle.fit_tree.specs.InnerRepresents.{Represents}
use Rattle.fit_tree.proofs.RoomLemmas.{taken_alone}
use Rattle.fit_tree.proofs.WalkLemmas.{IsSoundBut-set, right_own, room_other}
use Rattle.fit_tree.proofs.RepresentsLemmas.{Represents-given, Represents-taken_back, free_from_open}
use Rattle.fit_tree.proofs.HeldLemmas.{Gives-held, Represents-held, TakesBack-held, held_at_base, held_in-view}

pub Represents-in : (n : ℕ) (rooms : List ℕ) → IsSound n rooms → Represents n (held_in (fit_in n rooms)) rooms
Represents-in n rooms sound = subst (λ held. Represents n held rooms) (sym (held_in-view n rooms)) (Represents-held n rooms sound)

-- what holds for the held blocks by bases holds for those of the value
pub in_view : (P : Holdings → Type 0) (n : ℕ) (rooms : List ℕ) → P (held_by n rooms) → P (held_in (fit_in n rooms))
in_view P n rooms holds = subst P (sym (held_in-view n rooms)) holds

pub in_views : (P : Holdings → Holdings → Type 0) (n : ℕ) (rooms rooms' : List ℕ) → P (held_by n rooms) (held_by n rooms') → P (held_in (fit_in n rooms)) (held_in (fit_in n rooms'))
in_views P n rooms rooms' holds =
    subst (λ old. P old (held_in (fit_in n rooms'))) (sym (held_in-view n rooms)) (subst (P (held_by n rooms)) (sym (held_in-view n rooms')) holds)

-- a block that some station holds is held at its base
pub held_at : (n : ℕ) (rooms : List ℕ) (r : Region) → (s : ℕ) × (held_in (fit_in n rooms) s ≡ Some r) → HoldsBlock (fit_in n rooms) r
held_at n rooms r (s, is) =
    in_view (λ held. held r.base ≡ Some r) n rooms (held_at_base n rooms r (s, subst (λ held. held s ≡ Some r) (held_in-view n rooms) is))

-- only rooms and counts were written
pub IsImage-written : (n : ℕ) (head head' : Head) (rooms rooms' : List ℕ) → IsImage n head rooms
    → IsSound n rooms' → length rooms' ≡ length rooms → room_of rooms' 0 ≡ room_of rooms 0 → AreCounted n head'.maximal rooms'
    → head'.dim ≡ head.dim → head'.mark ≡ head.mark → head'.unused ≡ head.unused
    → IsImage n head' rooms'
IsImage-written n head head' rooms rooms' image sound len none counted dim mark unused = record {
  sound = sound;
  room_count = len ∙ image.room_count;
  no_node = none ∙ image.no_node;
  counted = counted;
  dim = dim ∙ image.dim;
  mark = mark ∙ image.mark;
  unused = unused ∙ image.unused;
}

-- ---- a take and a release

-- before the way up only the room of the parent may be wrong
pub set_begins : (n k x j : ℕ) (rooms new : List ℕ) → new ≡ set rooms x j → IsNode n k x → (j ≡ 0) ⊎ (j ≡ k + 2) → CanSet n k rooms x → IsSoundBut n (x / 2) new × HasNoTakenAbove new x
set_begins n k x j rooms new written node either can =
    subst (λ r. IsSoundBut n (x / 2) r × HasNoTakenAbove r x) (sym written) (
      IsSoundBut-set n 0 k x j rooms can.sound (inr refl) node (right_own n rooms can.sound k x j node can.below either),
      λ u on other taken. can.above u on other (sym (room_other rooms x j u other) ∙ taken),
    )

pub room_elsewhere : (rooms new : List ℕ) (x j u : ℕ) → new ≡ set rooms x j → u ≢ x → room_of new u ≡ room_of rooms u
room_elsewhere rooms new x j u written other = ap (λ r. room_of r u) written ∙ room_other rooms x j u other

pub CanSet-first : (n k start v : ℕ) (rooms : List ℕ) → IsSound n rooms → IsFirstIn n k rooms start v → CanSet n k rooms v
CanSet-first n k start v rooms sound first = record { sound = sound; below = inr first.whole; above = first.above }

pub CanSet-taken : (n k v : ℕ) (rooms : List ℕ) → IsSound n rooms → IsNode n k v → room_of rooms v ≡ 0 → CanSet n k rooms v
CanSet-taken n k v rooms sound node taken = record { sound = sound; below = inl taken; above = taken_alone n rooms sound k v node taken }

module _ (n k v : ℕ) (rooms rooms' : List ℕ) (r : Region) (sound : IsSound n rooms) (sound' : IsSound n rooms') (named : IsNodeOf n v r)
    (others : (u : ℕ) → u ≢ v → (room_of rooms' u ≡ 0) ↔ (room_of rooms u ≡ 0)) where
  pub Gives-in : r.dim ≡ k → IsOpen n rooms v → room_of rooms' v ≡ 0 → Gives n r.base k (held_in (fit_in n rooms)) (held_in (fit_in n rooms')) r
  Gives-in dimension clear own =
      in_views (λ old new. Gives n r.base k old new r) n rooms rooms'
      (Gives-held n rooms rooms' sound sound' r k (IsNodeOf-aligned n v r named) dimension (free_from_open n (held_by n rooms) rooms (Represents-held n rooms sound) v r named clear)
      (λ station old new represents gives. Represents-given n station v old new rooms rooms' r named others represents k gives own))

  pub TakesBack-in : room_of rooms v ≡ 0 → room_of rooms' v ≢ 0 → TakesBack r.base (held_in (fit_in n rooms)) (held_in (fit_in n rooms')) r
  TakesBack-in taken own =
      let represents = Represents-held n rooms sound in
      in_views (λ old new. TakesBack r.base old new r) n rooms rooms'
      (TakesBack-held n rooms rooms' sound sound' r (held_at_base n rooms r (represents.each_is_held v r named taken))
      (λ station old new represents back. Represents-taken_back n station v old new rooms rooms' r named others represents back own))
