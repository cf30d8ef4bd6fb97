-- How a run over an array without labels ends.
use Rattle.std.proofs.Common.{◌≡◌, ◌⊎◌, inl, ℕ, true, List, [], ◌∷◌, ◌++◌, Option, Some, None, sym, ◌∙◌, ap, subst}
use Rattle.std.specs.Prelude.{option_and_then, slice_get, slice_index}
use Rattle.blk_disk.specs.declared.disk.Call.{Call}
use Rattle.blk_disk.specs.declared.disk.Disk.{Ghosts as DiskGhosts}
use Rattle.blk_disk.specs.Disk.{Tells, call_of}
use Rattle.blk_disk.specs.Devices.{contents_of, calls_of}
use Rattle.blk_disk.proofs.DeviceLaws.{changes-more, changes-then, changes_sector}
use Rattle.lay_core.specs.declared.layout.Layout.{Ghosts as LayoutGhosts}
use Rattle.eng_cols.proofs.DeathLaws.{dies-more}
use Rattle.eng_events.specs.Opened.{IsSetup}
use Rattle.eng_state.specs.Shows.{AreTold}
use Rattle.eng_parts.specs.declared.setup.Setup.{Setup}
use Rattle.eng_parts.specs.declared.setup.Closed.{Closed}
use Rattle.top_close.specs.Reserved.{IsReserved}
use Rattle.top_close.proofs.SettledLaws.{device_within}
use Rattle.top_close.specs.Stage.{IsGivenUp}
use Rattle.top_serve.specs.Served as served
use Rattle.top_run.specs.Work.{Service}
use Rattle.top_run.specs.Works.{service_of, work_of}
use Rattle.top_run.specs.Ends.{RunIsEnded, EndsSo}
use Rattle.top_run.specs.Steps.{MayChange, LeavesSettled}
use Rattle.top_run.proofs.Columns.{NoneFilling, device-on, none-given, none-later}
use Rattle.eng_cols.specs.Cols.{HasDeviceOn, has_device}
use Rattle.eng_cols.specs.Deaths.{LosesDevice}

-- one call that is told, behind those of the run
one-behind : {D : Type 0} (g : DiskGhosts D) (o : Option (List Call)) (calls told : List Call) (call : Call) → AreTold g o calls → Tells o (Some told) call → told ≡ calls ++ call ∷ []
one-behind g None calls told call are tells = absurd tells
one-behind g (Some before) calls told call are tells = tells ∙ ap (λ (l : List Call). l ++ call ∷ []) (sym are)

-- and none
none-behind : {D : Type 0} (g : DiskGhosts D) (o : Option (List Call)) (calls told : List Call) → AreTold g o calls → o ≡ Some told → told ≡ calls
none-behind g None calls told are is = let z : None ≡ Some told = is in absurd (let u : ⊥ = cc in u)
none-behind g (Some before) calls told are is = let z : Some before ≡ Some told = is in let e : before ≡ told = cc in sym e ∙ sym are

-- devices that were settled have changed nowhere, and where no column is filling none is given up
pub ends-so : {L D : Type 0} (lay : LayoutGhosts L) (closed : Closed L D) (disk : DiskGhosts D) (v : Service) (back : List (Option D)) → NoneFilling closed.columns.items → RunIsEnded lay closed disk v back → EndsSo lay closed disk v back
ends-so lay closed disk v back none e = record {
  told = e.told ∙ ap (λ line. service_of closed line v.ending) (sym (ap (λ (u : Service). u.line) e.told));
  frame = changes-more disk (λ _ _. ⊥) (λ d n. IsReserved true n) closed.devices.items back (λ d n never. absurd never) e.settled.frame;
  dies = dies-more (LosesDevice disk closed.columns.items closed.devices.items back) (λ c. LosesDevice disk closed.columns.items closed.devices.items back c ⊎ IsGivenUp v.ending.lost closed.columns.items c) closed.columns.items v.ending.columns (λ c why. inl why) e.settled.dies;
  given_up = none-given v.ending.lost v.ending.columns (none-later (LosesDevice disk closed.columns.items closed.devices.items back) closed.columns.items v.ending.columns e.settled.dies none);
  lost = e.lost;
}

module _ {L D : Type 0} (lay : LayoutGhosts L) (disk : DiskGhosts D) (setup : Setup L D) (closed : Closed L D) (given : IsSetup lay disk setup) (s : served.IsServed lay disk setup None closed) (none : NoneFilling closed.columns.items) (v : Service) (back : List (Option D)) (e : RunIsEnded lay closed disk v back) where
  abbrev so : EndsSo lay closed disk v back
  so = ends-so lay closed disk v back none e

  -- no sector changes at the end
  same-contents : disk.tells → (d n k : ℕ) → contents_of disk back d n k ≡ contents_of disk closed.devices.items d n k
  same-contents tells d n k = ap (λ (l : List ℕ). slice_index l k) (changes_sector disk (λ _ _. ⊥) closed.devices.items back d n e.settled.frame tells (λ never. never))

  once : (c d : ℕ) (told : List Call) → HasDeviceOn closed.columns.items c d → calls_of disk back d ≡ Some told → told ≡ s.now.calls d ++ call_of 2 0 0 (has_device (slice_get v.ending.columns c)) ∷ []
  once c d told live is =
      let call = call_of 2 0 0 (has_device (slice_get v.ending.columns c)) in
      one-behind disk (calls_of disk closed.devices.items d) (s.now.calls d) told call (s.leaves.calls d) (subst (λ o. Tells (calls_of disk closed.devices.items d) o call) is (e.settled.once c d (device_within closed.columns.items c d live) live))

  others : (d : ℕ) (told : List Call) → ((c : ℕ) → HasDeviceOn closed.columns.items c d → ⊥) → calls_of disk back d ≡ Some told → told ≡ s.now.calls d
  others d told free is =
      none-behind disk (calls_of disk closed.devices.items d) (s.now.calls d) told (s.leaves.calls d) (ap (λ o. option_and_then disk.calls o) (sym (e.settled.others d (λ c below live. free c live))) ∙ is)

  abbrev May : ℕ → ℕ → Type 0
  May = MayChange disk (work_of lay setup None) setup.devices.items v back

  pub leaves : LeavesSettled disk (work_of lay setup None) setup.devices.items v back closed.columns.items s.now
  leaves = record {
    contents = λ tells d n k kb. same-contents tells d n k ∙ sym (s.leaves.contents tells d n k kb);
    once = once;
    others = others;
    settled = λ c d has. e.last c d (device-on (lay.shape setup.layout) v.ending.columns c d has);
    frame = changes-then disk May setup.devices.items closed.devices.items back s.leaves.frame (changes-more disk (λ _ _. ⊥) May closed.devices.items back (λ d n never. absurd never) e.settled.frame);
  }
