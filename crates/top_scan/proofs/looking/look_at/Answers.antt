use Rattle.std.proofs.Common.{◌∙◌}
use Rattle.top_fetch.specs.Fetched.{device_named}
use Rattle.top_fetch.proofs.Refusing.{refused_then}
use Rattle.top_scan.proofs.LooksInTurn.{at_home, there}
use Rattle.top_scan.proofs.looking.look_at.Goals as goal

pub put-requires : goal.put-requires
put-requires g c = c.in-Ok.ensures.is_out

pub returns-clause-answer : goal.returns-clause-answer
returns-clause-answer g c = λ told. there (g.B.Bay.home c.args.bay.now) c.args.name.now c.in-Ok.device (c.in-Ok.ensures.answer told)

pub returns-in-Err-clause-answer : goal.returns-in-Err-clause-answer
returns-in-Err-clause-answer g c = λ told. refused_then c.in-Err.status (device_named (g.B.Bay.home c.args.bay.now) c.args.name.now) _ (c.in-Err.ensures.answer told)

pub returns-clause-looked : goal.returns-clause-looked
returns-clause-looked g c = record {
  taken = c.in-Ok.device;
  back = c.read_first-front.new.disk;
  was = λ told. at_home (g.B.Bay.home c.args.bay.now) c.args.name.now c.in-Ok.device (c.in-Ok.ensures.answer told);
  is = λ told. c.put.ensures.back told;
  front_of = c.read_first-front.ensures.front;
  once = c.read_first-front.ensures.once;
  stays = c.read_first-front.ensures.stays;
}

pub returns-clause-homes : goal.returns-clause-homes
returns-clause-homes g c = λ told n other. c.put.ensures.homes told n other ∙ c.in-Ok.ensures.homes told n other
