use Rattle.line_gate.proofs.DealLemmas.{opens}
use Rattle.line_gate.proofs.gate.Gate.open.Goals as goal

pub of_words-requires : goal.of_words-requires
of_words-requires g c = opens _ c.requires
