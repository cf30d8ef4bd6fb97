use Rattle.std.proofs.Common.{arith}
use Rattle.lay_decluster.specs.Seats.{copy_fits}
use Rattle.lay_decluster.proofs.spared.SparedLayout.place.Goals as goal

pub seat-requires-clause-fits : goal.seat-requires-clause-fits
seat-requires-clause-fits c =
    let layout = c.args.self.now in
    omega (arith, copy_fits layout.table layout.tabled.design layout.unit_sectors layout.rows c.args.stripe layout.tabled c.requires.stripe, layout.tabled.rows_most)
