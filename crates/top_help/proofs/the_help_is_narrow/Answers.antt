use Rattle.std.proofs.Common.{refl}
use Rattle.top_help.specs.Topics.{lines_fit, topic_text}
use Rattle.top_help.proofs.the_help_is_narrow.Goals as goal

pub returns : goal.returns
unfolding lines_fit topic_text
returns c = refl
