use Rattle.eng_ends.proofs.end.lease_home.Goals as goal

pub returns-clause-others : goal.returns-clause-others
returns-clause-others g c = c.give_back.ensures.others
