use Rattle.text_steps.proofs.Words.{IsUtf8-word}
use Rattle.text_steps.proofs.steps.text_of.Goals as goal

pub unreachable-requires : goal.unreachable-requires
unreachable-requires c = c.in-Err.ensures.cases.0 (IsUtf8-word c.args.word.now c.requires)
