use Rattle.top_serve.proofs.serving.serve.Goals as goal

pub returns-in-Ok-clause-served : goal.returns-in-Ok-clause-served
returns-in-Ok-clause-served g c = c.served.ensures c.args.setup c.requires.setup tt c.in-Ok.ensures.opened c.in-Ok.ensures.worlds c.in-Ok.ensures.long
