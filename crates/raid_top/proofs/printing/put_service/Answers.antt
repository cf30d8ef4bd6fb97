use Rattle.std.proofs.Common.{is_ok, subst}
use Rattle.raid_bay.specs.Sink.{Puts}
use Rattle.top_run.specs.Works.{service_seen}
use Rattle.top_words.specs.Asked.{Profile}
use Rattle.raid_top.specs.Words.{run_text}
use Rattle.raid_top.proofs.printing.put_service.Goals as goal

pub returns-clause-output : goal.returns-clause-output
returns-clause-output g c = λ told.
    subst (λ (p : Profile). Puts (is_ok c.put_run_of.result) (g.K.Sink.output c.args.out.now) (run_text p.drawn (service_seen c.args.service.now)) (g.K.Sink.output c.put_run_of.new.out))
    c.profile.ensures (c.put_run_of.ensures.output told)
