-- The rule of a locked queue's table, as words, slots and views change.
use Rattle.std.proofs.Common.{◌≡◌, ℕ, ◌<◌, Some, None, List, [], ◌∷◌, length, get_or, set, refl, ◌∙◌}
use mathlib.Core.Option.{some}
use lib.ListN.{get_elem?}
use Rattle.atomic_table.specs.Table.{State, takes, gives, stepped}
use Rattle.ghost_history.specs.Views.{Tied}
use Rattle.ghost_history.proofs.ViewLemmas.{stays}
use Rattle.ghost_history.proofs.DealLemmas.{in_changed}
use Rattle.locked_peers.proofs.CellLemmas.{takes_value, gives_value}
use Rattle.job_queue.specs.declared.job_line.Sizes.{Sizes}
use Rattle.job_queue.specs.declared.record.LaneRecord.{LaneRecord}
use Rattle.job_queue.specs.declared.record.PassRecord.{PassRecord}
use Rattle.locked_peers.specs.declared.store.Store.{Store}
use Rattle.locked_peers.specs.declared.line_view.View.{View}
use Rattle.locked_peers.specs.declared.line_view.CloserRecord.{CloserRecord}
use Rattle.locked_peers.specs.InnerLine.View.{holding, members, found_in}
use Rattle.locked_peers.specs.InnerLine.Deed.{Deed, lane_part, pass_part, closer_part, May}
use Rattle.locked_peers.specs.InnerLine.Rule.{Fits, Keeps}

abbrev pub St : Type 0
St = State Store View

abbrev pub lanes_in : View → List LaneRecord
lanes_in v = v.lanes

abbrev pub passes_in : View → List PassRecord
passes_in v = v.passes

abbrev pub closers_in : View → List CloserRecord
closers_in v = v.closers

abbrev pub lane_number : LaneRecord → ℕ
lane_number r = r.number

abbrev pub pass_number : PassRecord → ℕ
pass_number r = r.number

abbrev pub closer_number : CloserRecord → ℕ
closer_number r = 0

module _ (sizes : Sizes) (s : St) (k : Keeps sizes s) (id : ℕ) (v : View)
    (me : get_elem? s.views id ≡ some v) where
  -- A member's seat takes the slot if the word is 0.
  pub takes_slot : (x : Store)
      → get_or s.words 0 0 ≡ 0
      → 0 < members v
      → v.found ≡ None
      → Fits sizes k.history x
      → Keeps sizes (stepped s 0 1 id [] (holding v x) (takes 0 x))
  takes_slot x free member none fits =
      let w : View = holding v x in
      record {
        history = k.history;
        legal = k.legal;
        few = k.few;
        lanes = stays lanes_in lane_number s.views k.lanes id v me (lane_part k.history) w refl (λ _. refl);
        passes = stays passes_in pass_number s.views k.passes id v me (pass_part k.history) w refl (λ _. refl);
        closers = stays closers_in closer_number s.views k.closers id v me (closer_part k.history) w refl (λ _. refl);
        about = in_changed (λ u. 0 < members u → u.about ≡ sizes) s.views id w (λ _. k.about id v me member) k.about;
        cell = takes_value found_in members s k.cell id v me w x free none refl member fits;
      }

  -- A seat that found `x` gives `y` back, and its new view is `w`. The history has one more step.
  pub gives_slot : (x y : Store) (w : View) (d : Deed)
      → v.found ≡ Some x
      → w.found ≡ None
      → w.about ≡ v.about
      → 0 < members v
      → length s.homes ≡ 1
      → May sizes k.history d
      → Fits sizes (d ∷ k.history) y
      → Tied lanes_in lane_number sizes.lanes (lane_part (d ∷ k.history)) (set s.views id w)
      → Tied passes_in pass_number sizes.passes (pass_part (d ∷ k.history)) (set s.views id w)
      → Tied closers_in closer_number 1 (closer_part (d ∷ k.history)) (set s.views id w)
      → Keeps sizes (stepped s 0 0 id ((0, y) ∷ []) w gives)
  gives_slot x y w d some_x none about member one_home may fits lanes passes closers = record {
    history = d ∷ k.history;
    legal = (may, k.legal);
    few = k.few;
    lanes = lanes;
    passes = passes;
    closers = closers;
    about = in_changed (λ u. 0 < members u → u.about ≡ sizes) s.views id w (λ _. about ∙ k.about id v me member) k.about;
    cell = gives_value found_in members s k.cell id v me (Fits sizes (d ∷ k.history)) x y w some_x none one_home fits;
  }
