use Rattle.std.proofs.Common.{subst, sym}
use Rattle.top_acts.specs.Mapped.{IsOpeningFor}
use Rattle.top_acts.specs.Sweeps.{notice_seen}
use Rattle.top_labelled.proofs.Openings.{fits_with, opening_for}
use Rattle.top_labelled.proofs.opening.begin.Goals as goal

pub begin_labelled-requires-clause-opening : goal.begin_labelled-requires-clause-opening
begin_labelled-requires-clause-opening g c =
    let y = g.L.Layout.shape c.args.layout.now in
    fits_with y (notice_seen c.notice_in.result) c.sweeps_in.result
    (subst (IsOpeningFor y) (sym c.notice_in.ensures) (opening_for y c.args.keeps c.args.maps.now.marks c.requires.maps.marks)) (c.sweeps_in.ensures.fits y c.requires.maps.union)
