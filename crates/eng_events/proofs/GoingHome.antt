-- Which of the ends a job that came back has.
use Rattle.std.proofs.Common.{◌≡◌, ◌∙◌, ℕ, ◌<◌, List, length, subst, sym, refl, Bool, true, false, Some}
use Rattle.blk_plain.specs.declared.op.Outcome.{Outcome}
use Rattle.blk_plain.specs.declared.op.Outcome.TheVariants.{Good, Bad}
use Rattle.blk_disk.specs.declared.disk.Disk.{Ghosts as DiskGhosts}
use Rattle.lay_core.specs.declared.layout.Layout.{Ghosts as LayoutGhosts}
use Rattle.eng_cols.specs.declared.spot.Spot.{Spot}
use Rattle.eng_job.specs.declared.job.Work.{Work}
use Rattle.eng_job.specs.declared.job.Work.TheVariants.{Write}
use Rattle.eng_job.specs.declared.job.Job.{Job}
use Rattle.eng_state.specs.declared.array.Array.{Array}
use Rattle.eng_clients.specs.Desk.{desk_at, spot_at}
use Rattle.eng_state.specs.Out.{CameBack}
use Rattle.eng_fails.specs.Returned.{is_bad_end}
use Rattle.eng_state.proofs.Leaving.{seen-below}
use Rattle.eng_state.proofs.Returning.{write-back}

-- what doesn't end bad was good
pub is-good : {D : Type 0} → (o : Outcome) (w : Work D) (failed : Bool) → is_bad_end o w failed ≡ false → o ≡ Good
is-good Good w failed e = refl
is-good Bad w failed e = let z : true ≡ false = e in absurd (let u : ⊥ = cc in u)

-- the device on which the unit of a write stood is one of them
pub write-device : {L D : Type 0} → (lay : LayoutGhosts L) (disk : DiskGhosts D) (core : Array L D) (job : Job D) (o : Outcome) → CameBack disk lay core job o → (e : D) (first : ℕ) (now : List ℕ) (count : ℕ) → job.work ≡ Write e first now count
    → (at : Spot) → spot_at (desk_at core.clients job.client) job.node ≡ Some at → at.device < length core.devices.slots
write-device lay disk core job o back e first now count is at spot =
    let b = (write-back lay disk core job o e first now count back is).0 in
    let same : Some b.at ≡ Some at = sym b.spot ∙ spot in
    let q : b.at ≡ at = cc in
    subst (λ (a : Spot). a.device < length core.devices.slots) q (seen-below core.devices b.at.device _ b.are_out.device)
