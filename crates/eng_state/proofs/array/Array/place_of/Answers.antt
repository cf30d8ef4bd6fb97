use Rattle.std.proofs.Common.{sym, ◌∙◌}
use Rattle.eng_state.proofs.Running.{runs_below, read_buf, read_unit, write_buf, write_unit}
use Rattle.eng_state.proofs.array.Array.place_of.Goals as goal

pub stripe_of-stripe-requires-clause-buf : goal.stripe_of-stripe-requires-clause-buf
stripe_of-stripe-requires-clause-buf g c =
    let sound = c.requires.sound in
    let w = (sound.well.each c.args.client (runs_below _ _ _ _ c.args.client sound.well c.requires.runs)).runs c.requires.runs in
    (read_buf _ _ _ _ w c.args.node c.in-Rd.unit c.in-Rd.buf c.requires.node (sym c.node.ensures ∙ c.in-Rd.is)).below

pub spot-requires-clause-unit : goal.spot-requires-clause-unit
spot-requires-clause-unit g c =
    let sound = c.requires.sound in
    let w = (sound.well.each c.args.client (runs_below _ _ _ _ c.args.client sound.well c.requires.runs)).runs c.requires.runs in
    read_unit _ _ _ _ w c.args.node c.in-Rd.unit c.in-Rd.buf c.requires.node (sym c.node.ensures ∙ c.in-Rd.is)

pub stripe_of-stripe-requires-in-Wr-clause-buf : goal.stripe_of-stripe-requires-in-Wr-clause-buf
stripe_of-stripe-requires-in-Wr-clause-buf g c =
    let sound = c.requires.sound in
    let w = (sound.well.each c.args.client (runs_below _ _ _ _ c.args.client sound.well c.requires.runs)).runs c.requires.runs in
    (write_buf _ _ _ _ w c.args.node c.in-Wr.unit c.in-Wr.buf c.requires.node (sym c.node.ensures ∙ c.in-Wr.is)).below

pub spot-requires-else-rebuilds-clause-unit : goal.spot-requires-else-rebuilds-clause-unit
spot-requires-else-rebuilds-clause-unit g c =
    let sound = c.requires.sound in
    let w = (sound.well.each c.args.client (runs_below _ _ _ _ c.args.client sound.well c.requires.runs)).runs c.requires.runs in
    write_unit _ _ _ _ w c.args.node c.in-Wr.unit c.in-Wr.buf c.requires.node (sym c.node.ensures ∙ c.in-Wr.is)
