use Rattle.crew_tests.proofs.serves.rebuilt.rebuilt.Goals as goal

pub serve_in-requires-clause-start : goal.serve_in-requires-clause-start
serve_in-requires-clause-start g c κs w = c.in_ok-setup.ensures.may c.args.most
