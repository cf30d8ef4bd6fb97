use Rattle.std.proofs.Common.{◌≡◌, ◌≤◌, ◌<◌, ◌+◌, ◌-◌, ◌*◌, ◌∙◌, Some, sym, subst, arith}
use Rattle.blk_disk.specs.Devices.{size_of}
use Rattle.eng_cols.specs.Seats.{seat}
use Rattle.raid_recon.proofs.Frames.{last-unit}
use Rattle.raid_recon.proofs.Places.{spot-seat, seat-fits}
use Rattle.raid_recon.proofs.OneCall.{some_device}
use Rattle.raid_recon.proofs.sums.write_check.Goals as goal

fits : goal.write_at-requires-clause-fits
fits g c =
    let y = g.L.Layout.shape c.args.layout.now in
    let cols = c.args.cols.now.states in
    let s = c.args.stripe in
    let at = c.in-Some.at in
    let last = last-unit y (g.met.L.Layout.is_layout c.args.layout.now) c.requires.checks in
    let i = c.width.result - 1 in
    let width : i < y.width = omega (arith, last, c.width.ensures) in
    let stands : seat y cols s i ≡ Some at = sym (spot-seat y cols s i (c.requires.complete i width)) ∙ (sym c.spot.ensures.spot ∙ c.in-Some.is) in
    let h = seat-fits g.D.Disk y c.args.cols.now.states c.args.devices.now s i at (g.met.L.Layout.is_layout c.args.layout.now) c.requires.array c.requires.stripe width stands in
    subst (λ u. 64 + at.row * u + u ≤ size_of g.D.Disk c.args.devices.now at.device) (sym c.unit_sectors.ensures) h

pub write_at-requires-clause-fits : goal.write_at-requires-clause-fits
write_at-requires-clause-fits g c = fits g c

pub write_at-requires-clause-there : goal.write_at-requires-clause-there
write_at-requires-clause-there g c = some_device g.D.Disk c.args.devices.now c.in-Some.at.device (omega (arith, fits g c))
