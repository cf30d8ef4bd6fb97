use Rattle.std.proofs.Common.{◌∙◌, List, map, ap}
use Rattle.std.proofs.lemmas.List.{map_push}
use Rattle.eng_world.specs.declared.item.Item.{Item}
use Rattle.raid_script.specs.Asked.{seen}
use Rattle.raid_script.proofs.script.push_seen.Goals as goal

pub returns : goal.returns
returns c = ap (λ (xs : List Item). map seen xs) c.in_ok-push.ensures.items ∙ map_push seen c.args.items.now.items c.args.item
