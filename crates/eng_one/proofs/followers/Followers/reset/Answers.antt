use Rattle.eng_one.proofs.Chains.{bare-lists}
use Rattle.eng_one.proofs.followers.Followers.reset.Goals as goal

pub returns : goal.returns
returns c = bare-lists c.refill.new.items.items c.clear.new.self.items c.clear-2.new.self.items c.args.nodes c.refill.ensures.items c.clear-2.ensures.items
