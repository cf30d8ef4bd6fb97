use Rattle.top_bay.proofs.Fetching.{as_device, as_home}
use Rattle.top_bay.proofs.devices.fetch.Goals as goal

pub returns-then-looks-clause-answer : goal.returns-then-looks-clause-answer
returns-then-looks-clause-answer g c = λ told named. as_device (g.B.Bay.home c.args.bay.now) c.args.name.now c.look_device.result named (c.look_device.ensures.answer told)

pub returns-then-looks-clause-ok : goal.returns-then-looks-clause-ok
returns-then-looks-clause-ok g c = as_home (g.B.Bay.home c.args.bay.now) c.args.name.now g.B.Bay.tells c.look_device.result c.look_device.ensures.answer

pub returns-else-looks-clause-answer : goal.returns-else-looks-clause-answer
returns-else-looks-clause-answer g c = λ told named. as_device (g.B.Bay.home c.args.bay.now) c.args.name.now c.take_device.result named (c.take_device.ensures.answer told)

pub returns-else-looks-clause-ok : goal.returns-else-looks-clause-ok
returns-else-looks-clause-ok g c = as_home (g.B.Bay.home c.args.bay.now) c.args.name.now g.B.Bay.tells c.take_device.result c.take_device.ensures.answer
