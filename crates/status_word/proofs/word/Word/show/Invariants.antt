-- The letters and the marks of the stations so far.
use Rattle.std.proofs.Common.{◌≡◌, ◌++◌, string_bytes}
use Rattle.std.specs.List.{flat_map, range_with_len}
use Rattle.status_word.specs.Text.{mark_text, use_text}
use Rattle.status_word.proofs.word.Word.show.Given as goal

abbrev pub invariant-loop-station : goal.invariant-loop-station
invariant-loop-station l =
    string_bytes l.text ≡ use_text l.self.0 ++ flat_map (mark_text l.self.0) (range_with_len 0 l.station)
