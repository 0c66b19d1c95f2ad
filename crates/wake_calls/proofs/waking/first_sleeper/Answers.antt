use Rattle.std.proofs.Common.{◌<◌, arith, w64}
use Rattle.std.specs.Int.{trailing_zeros}
use Rattle.wake_pool.specs.declared.layout.TheConstants.{WORD_WORKERS}
use Rattle.wake_calls.proofs.FirstLemmas.{first_bit, first_of_word}
use Rattle.wake_calls.proofs.waking.first_sleeper.Goals as goal

pub returns-clause-word : goal.returns-clause-word
returns-clause-word c =
    let low : trailing_zeros w64 c.args.seen < WORD_WORKERS = (first_bit c.args.seen c.requires.some c.requires.free).0 in omega (arith, low)

pub returns-clause-sleeps : goal.returns-clause-sleeps
returns-clause-sleeps c =
    first_of_word c.args.word c.args.seen c.requires.some c.requires.free
