use Rattle.top_labelled.proofs.Marks.{adds-other}
use Rattle.top_labelled.proofs.marking.add.Goals as goal

pub returns : goal.returns
returns c =
    adds-other c.args.other.now c.args.map.now c.add_from.new.self c.write_to.new.sector c.requires.stripes c.requires.serial c.requires.whole c.write_to.ensures.map c.add_from.result c.add_from.ensures.is_map c.add_from.ensures.added
