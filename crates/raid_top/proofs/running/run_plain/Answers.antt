use Rattle.std.proofs.Common.{◌≡◌, refl}
use Rattle.eng_cols.proofs.Losing.{lost-excludes}
use Rattle.top_serve.specs.declared.refused.ServeFault.{ServeFault}
use Rattle.top_serve.specs.declared.refused.ServeFault.TheVariants as fault
use Rattle.top_serve.specs.Setups.{IsServeRefusal, shape_in, states_in}
use Rattle.raid_top.proofs.running.run_plain.Goals as goal

-- the array isn't lost, so that want of memory alone refuses it
pub returns-in-Err-clause-memory : goal.returns-in-Err-clause-memory
returns-in-Err-clause-memory g c =
    let is = c.in-Err.fault-is in
    let setup = c.in-Err.setup-is in
    let said = c.beside.ensures in
    let status = c.status_of.ensures (by c.in-Err.field-0.fault c.in-Err.ensures.fault) in
    let back = c.in-Err.ensures.back in
    cc
  where
    by : (f : ServeFault) → IsServeRefusal g.L.Layout c.args.setup f → f ≡ fault.Memory
    by (fault.Lost loss) lost = absurd (lost-excludes (shape_in g.L.Layout c.args.setup) (states_in g.L.Layout c.args.setup) loss lost c.requires.may.kept)
    by fault.Memory _ = refl
