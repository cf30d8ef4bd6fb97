use Rattle.std.proofs.Common.{◌∙◌, List, map, ap}
use Rattle.std.proofs.lemmas.List.{map_push}
use Rattle.blk_plain.specs.declared.op.Op.TheVariants as op
use Rattle.eng_world.specs.declared.item.Item.{Item}
use Rattle.eng_world.specs.declared.item.Item.TheVariants as asked
use Rattle.raid_script.specs.Asked.{seen}
use Rattle.raid_script.proofs.script.push_read.Goals as goal

pub returns : goal.returns
returns c = ap (λ (xs : List Item). map seen xs) c.in_ok-push_read.ensures.items ∙ map_push seen c.args.items.now.items (asked.Run (op.Read c.args.span) c.args.graph)
