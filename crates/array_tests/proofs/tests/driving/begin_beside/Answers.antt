use Rattle.array_tests.proofs.tests.driving.begin_beside.Goals as goal

pub returns-clause-back : goal.returns-clause-back
returns-clause-back g c = let b = c.requires.back in (b.0, c.begin.ensures.stays b.0 b.1, b.2)
