use Rattle.eng_one.proofs.Chains.{bare-lists}
use Rattle.eng_one.proofs.followers.Followers.open.Goals as goal

pub returns : goal.returns
returns c = bare-lists c.in_ok-with_capacity.field-0.items c.in_ok-with_capacity-2.field-0.items c.in_ok-with_capacity-3.field-0.items 0 c.in_ok-with_capacity.ensures.items c.in_ok-with_capacity-3.ensures.items
