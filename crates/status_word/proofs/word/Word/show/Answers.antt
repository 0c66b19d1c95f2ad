use Rattle.std.proofs.Common.{◌≡◌, ℕ, List, ◌++◌, sym, ◌∙◌, ap, append_assoc, arith, string_bytes}
use Rattle.std.specs.List.{flat_map, range_with_len}
use Rattle.cube_shape.specs.declared.limits.TheConstants.{MAX_STATIONS}
use Rattle.status_word.specs.Text.{mark_text, use_text}
use Rattle.status_word.proofs.TextLemmas.{marks_push, marks_end}
use Rattle.status_word.proofs.word.Word.show.Goals as goal

pub loop-station-preserved : goal.loop-station-preserved
loop-station-preserved c =
    let w = c.args.self.0 in
    let s = c.loop-station.station in
    c.in_ok-push_mark.ensures ∙ ap (λ text. text ++ mark_text w s) c.loop-station.invariant
    ∙ append_assoc (use_text w) (flat_map (mark_text w) (range_with_len 0 s)) (mark_text w s) ∙ ap (λ marks. use_text w ++ marks) (sym (marks_push w s))

pub returns : goal.returns
returns c =
    let w = c.args.self.0 in
    let all : ℕ → List ℕ = λ end. use_text w ++ flat_map (mark_text w) (range_with_len 0 end) in
    let end = c.mark_end-station-end.result in
    let here : c.loop-station.station ≡ end = omega (arith, c.loop-station.auto.station-end, c.loop-station-test.false) in
    c.loop-station.invariant ∙ ap all here ∙ sym (ap (λ marks. use_text w ++ marks) (marks_end w end MAX_STATIONS c.mark_end-station-end.ensures.within c.mark_end-station-end.ensures.past))
