use Rattle.eng_fails.proofs.bad_jobs.call_ends_bad.Goals as goal

pub comes_bad-requires-clause-on : goal.comes_bad-requires-clause-on
comes_bad-requires-clause-on g c = c.requires.on c.in-Some.field-0 c.in-Some.is
