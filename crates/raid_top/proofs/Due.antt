-- What is due by the sizes of the devices that were taken is due by those of the devices at home.
use Rattle.std.specs.Prelude.{◌≡◌, ℕ, List, Result, Ok}
use Rattle.std.proofs.Common.{refl, sym, ap, subst, ◌∙◌}
use Rattle.blk_disk.specs.declared.disk.Disk.{Ghosts}
use Rattle.top_bay.specs.Asked.{Asked, asked_in, names_for}
use Rattle.top_fetch.specs.Told.{Told}
use Rattle.top_open.specs.declared.fronts.Front.{Front}
use Rattle.top_status.specs.Refusals.{Refused}
use Rattle.top_words.specs.Asked.{Command}
use Rattle.top_duty.specs.Duty.{Duty, IsWanted, asked_of, duty_by, duty_in}
use Rattle.top_duty.specs.Opening.{sizes_in, sizes_of}
use Rattle.top_duty.specs.Steps.{reads_fronts}
use Rattle.top_duty.proofs.Sized.{sizes_are, sizes_kept}
use Rattle.raid_top.specs.Acted.{Acted}
use Rattle.raid_top.specs.Outcome.{Outcome}
use Rattle.raid_top.proofs.Reading.{NoSector, reads_still}

pub of_asked : {D : Type 0} (g : Ghosts D) (b : Told D) (command : Command) (fronts : List Front) (k : Asked) → asked_in b command ≡ Ok k → duty_in g.size b command fronts ≡ duty_by k (sizes_in g.size b.home (names_for k)) fronts
unfolding duty_in
of_asked g b command fronts k e = rw e refl

module _ {D : Type 0} (g : Ghosts D) (b : Told D) (command : Command) (o : Outcome) (h : Acted g b command o) where
  pub due_in : b.tells → IsWanted (duty_in g.size b command h.fronts) (Ok h.duty)
  due_in told =
      let k = asked_of h.duty in
      let still = reads_still g h.taken h.old h.back h.fronts (reads_fronts k.command.action) h.read in
      let sizes : sizes_of g.size h.old ≡ sizes_in g.size b.home (names_for k) = sizes_kept g NoSector h.taken h.old still ∙ sizes_are g.size b.home (names_for k) h.taken (h.before told) in
      let same : duty_by k (sizes_of g.size h.old) h.fronts ≡ duty_in g.size b command h.fronts = ap (λ (l : List ℕ). duty_by k l h.fronts) sizes ∙ sym (of_asked g b command h.fronts k (h.asked told)) in
      subst (λ (w : Result Duty Refused). IsWanted w (Ok h.duty)) same h.wanted
