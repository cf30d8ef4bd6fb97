-- The first sectors of devices, as they were read.
use Rattle.std.specs.Prelude.{◌≡◌, ◌++◌, ℕ, Bool, true, false, List, [], ◌∷◌, length, Option, Some, None, option_and_then}
use Rattle.std.proofs.Common.{sym, ap, subst, ◌∙◌, append_assoc}
use Rattle.std.proofs.lemmas.List.{append_cancel_left, length-replicate}
use Rattle.blk_disk.specs.Disk.{Tells, call_of}
use Rattle.blk_disk.specs.declared.disk.Call.{Call}
use Rattle.blk_disk.specs.declared.disk.Disk.{Ghosts}
use Rattle.blk_disk.specs.Devices.{Changes, RisesOn, StaysIf, calls_of, device_at}
use Rattle.blk_disk.proofs.DeviceLaws.{changes-refl, rises-wider}
use Rattle.top_open.specs.declared.fronts.Front.{Front}
use Rattle.top_open.specs.declared.fronts.Front.TheVariants.{Unread}
use Rattle.top_duty.specs.Taken.{Reads}
use Rattle.raid_top.specs.Acted.{MayRead}
use Rattle.raid_top.specs.Laws.{FailsLateIsRead}
use Rattle.raid_top.proofs.Frames.{Moves}
use Rattle.blk_disk.proofs.Words.{TellsOn}

-- no sector changes
abbrev pub NoSector : ℕ → ℕ → Type 0
NoSector d n = ⊥

module _ {D : Type 0} (g : Ghosts D) (taken old back : List (Option D)) (fronts : List Front) where
  -- a count that rose behind has risen
  pub rises_late : (d : ℕ) → Changes g NoSector taken old → RisesOn g old back d → RisesOn g taken back d
  rises_late d read h = rises-wider g NoSector NoSector taken old back back d read h (changes-refl g NoSector back)

  pub may_read : (reads : Bool) → Moves g old back → Reads g reads taken old fronts → MayRead g reads taken back fronts
  may_read reads moves h = record { looked = old; read = h; later = moves }

  pub reads_still : (reads : Bool) → Reads g reads taken old fronts → Changes g NoSector taken old
  reads_still true h = h.2
  reads_still false h = subst (λ (ds : List (Option D)). Changes g NoSector taken ds) (sym h.0) (changes-refl g NoSector taken)

  -- there is one of each device
  pub fronts_count : (reads : Bool) → Reads g reads taken old fronts → length fronts ≡ length old
  fronts_count true h = h.0.count ∙ sym h.2.count
  fronts_count false h = ap (λ (fs : List Front). length fs) h.1 ∙ (length-replicate _ _ ∙ sym (ap (λ (ds : List (Option D)). length ds) h.0))

-- ## Who was read

-- what was told before is told in front of what is told now
told_on : {D : Type 0} (g : Ghosts D) (x z : Option D) (may : ℕ → Type 0) → StaysIf g may x z → TellsOn (option_and_then g.calls x) (option_and_then g.calls z)
told_on g None None may h = tt
told_on g None (Some z) may h = absurd h
told_on g (Some x) None may h = absurd h
told_on g (Some x) (Some z) may h = h.told

-- of three times that calls were told, the first call behind the first time
first_is : (a b c : Option (List Call)) (before later : List Call) (first call : Call) → Tells a b call → TellsOn b c → a ≡ Some before → c ≡ Some (before ++ first ∷ later) → first ≡ call
first_is a b None before later first call one on was is = cc is
first_is None None (Some now) before later first call one on was is = cc was
first_is None (Some mid) (Some now) before later first call one on was is = cc was
first_is (Some xs) None (Some now) before later first call one on was is = absurd on
first_is (Some xs) (Some mid) (Some now) before later first call one on was is =
    let same : xs ≡ before = cc was in
    let here : now ≡ before ++ first ∷ later = cc is in
    let there : now ≡ before ++ call ∷ on.0 =
    on.1 ∙ (ap (λ (l : List Call). l ++ on.0) (one ∙ ap (λ (l : List Call). l ++ call ∷ []) same) ∙ append_assoc before (call ∷ []) on.0) in
    let rest : first ∷ later ≡ call ∷ on.0 = append_cancel_left before (first ∷ later) (call ∷ on.0) (sym here ∙ there) in
    cc rest

pub late_is_read : {D : Type 0} (g : Ghosts D) (taken back : List (Option D)) (fronts : List Front) → FailsLateIsRead g taken back fronts
late_is_read g taken back fronts m d before later first was is good at =
    let bad : first ≡ call_of 0 0 512 false =
    first_is (calls_of g taken d) (calls_of g m.looked d) (calls_of g back d) before later first (call_of 0 0 512 false)
    (m.read.1 d Unread at) (told_on g (device_at m.looked d) (device_at back d) _ (m.later.each d)) was is in
    let no : first.good ≡ false = ap (λ (c : Call). c.good) bad in
    let z : ⊥ = cc (good, no) in
    z
