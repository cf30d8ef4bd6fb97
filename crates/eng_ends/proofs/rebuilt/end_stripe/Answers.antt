use Rattle.std.proofs.Common.{sym, subst, arith}
use Rattle.eng_state.specs.declared.array.Array.{Array}
use Rattle.eng_state.specs.Sound.{IsSound}
use Rattle.eng_ends.proofs.Rebuilding.{first-position, first-within, seated-ended, stripe-sound}
use Rattle.eng_ends.proofs.rebuilt.end_stripe.Goals as goal
use Rattle.eng_log.specs.Log.{counted}

pub stripe-stripe-requires-clause-position : goal.stripe-stripe-requires-clause-position
stripe-stripe-requires-clause-position g c = first-position g.L.Layout g.D.Disk c.args.array.now c.requires.sound c.args.client c.requires.runs c.in-Some.unit c.in-Some.ensures.wrote

pub stripe_done-requires-clause-stripe : goal.stripe_done-requires-clause-stripe
stripe_done-requires-clause-stripe g c = let lt = first-within g.L.Layout g.D.Disk c.args.array.now c.requires.sound c.args.client c.requires.runs c.in-Some.unit c.in-Some.ensures.wrote in let e = c.stripe-stripe.ensures in omega (arith, lt, e)

pub returns-in-Some-clause-sound : goal.returns-in-Some-clause-sound
returns-in-Some-clause-sound g c =
    let old : Array g.row.L.Denot g.row.D.Denot = c.args.array.now in
    let new : Array g.row.L.Denot g.row.D.Denot = c.stripe_done.new.array in
    let e = c.stripe_done.ensures in
    subst (λ (s : Array g.row.L.Denot g.row.D.Denot). IsSound g.L.Layout g.D.Disk s) (sym e.rest)
    (stripe-sound g.L.Layout g.D.Disk old c.requires.sound new.cols (counted old.log)
    (seated-ended g.D.Disk (g.L.Layout.shape old.layout) c.stripe-stripe.result c.in-Some.unit old.cols new.cols old.devices e.ended e.columns e.stripes e.kept c.requires.sound.seated))
