use Rattle.eng_world.specs.declared.item.Traced.TheVariants as event
use Rattle.eng_state.specs.Moves.{id_of}
use Rattle.eng_crew.proofs.Made.{plain-made}
use Rattle.eng_crew.proofs.making.make.Goals as goal

pub returns-in-Begin : goal.returns-in-Begin
returns-in-Begin g c = λ v q steady. plain-made g.L.Layout g.D.Disk v c.args.core.now c.begin.new.self (event.Begin (id_of c.args.core.now.array.clients c.in-Begin.client)) tt c.begin.ensures.happens c.begin.ensures.keeps q steady

pub returns-in-Take : goal.returns-in-Take
returns-in-Take g c = λ v q steady. plain-made g.L.Layout g.D.Disk v c.args.core.now c.take.new.self (event.Take (id_of c.args.core.now.array.clients c.in-Take.client)) tt c.take.ensures.happens c.take.ensures.keeps q steady

pub returns-in-Skip : goal.returns-in-Skip
returns-in-Skip g c = λ v q steady. plain-made g.L.Layout g.D.Disk v c.args.core.now c.skip.new.self (event.Skip (id_of c.args.core.now.array.clients c.in-Skip.client) c.in-Skip.node) tt c.skip.ensures.happens c.skip.ensures.keeps q steady

pub returns-in-Back : goal.returns-in-Back
returns-in-Back g c = λ v q steady. plain-made g.L.Layout g.D.Disk v c.args.core.now c.back.new.self (event.Back (id_of c.args.core.now.array.clients c.in-Back.client)) tt c.back.ensures.happens c.back.ensures.keeps q steady
