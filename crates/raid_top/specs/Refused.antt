-- A call that was refused: no sector has changed.
use Rattle.std.specs.Prelude.{◌≡◌, ◌⊎◌, ℕ, List, Option, Result, Ok, Err, Contains}
use Rattle.blk_disk.specs.Devices.{AreNamed, StaysIf}
use Rattle.blk_disk.specs.declared.disk.Disk.{Ghosts}
use Rattle.raid_text.specs.Text.{Text}
use Rattle.top_fetch.specs.Told.{Told}
use Rattle.top_status.specs.declared.status.Status.TheVariants as status
use Rattle.top_status.specs.Refusals.{Refused, only}
use Rattle.top_bay.specs.Asked.{Asked, asked_in, names_for}
use Rattle.top_duty.specs.Duty.{Admitted, IsWanted, OnArray as OnAdmitted, beside_dead, duty_by}
use Rattle.top_duty.specs.Opening.{sizes_of}
use Rattle.top_duty.specs.Taken.{Reads}
use Rattle.top_open.specs.declared.fronts.Front.{Front}
use Rattle.top_duty.specs.Views.{IsRefusal}
use Rattle.top_scan.specs.Scanned.{IsScannedInPart, names_in}
use Rattle.top_sim.specs.Simulated.{workload_in}
use Rattle.top_study.specs.Studied.{study_in}
use Rattle.top_words.specs.declared.invocation.Topic.{Topic}
use Rattle.top_words.specs.Asked.{profile_of}
use Rattle.top_words.specs.Judged.{Invocation, Tell, OnArray, OnConf, Scan, Simulate, invocation_of}

-- this is the refusal that is wanted; or the bay's count of faults rose; or memory was wanted
abbrev pub IsRefusedAs : {A : Type 0} → Type 0 → Result A Refused → Refused → Type 0
IsRefusedAs rose wanted r = (wanted ≡ Err r) ⊎ (((r ≡ only status.BayFault) × rose) ⊎ (r ≡ only status.Memory))

-- one of the program's own texts is asked for
abbrev pub IsTopic : Invocation → Type 0
IsTopic (Tell topic) = Unit {0}
IsTopic invocation = ⊥

module _ {D : Type 0} (g : Ghosts D) (b : Told D) where
  -- Texts and names are right, and the devices of the names were taken as they were at home, and looked
  -- at, and called for nothing else; they are at home again, and under all other names stands what stood
  -- there. By their sizes, and by what was read, this is the refusal that is wanted; or memory was, behind the
  -- opening or before it.
  pub record IsRefusedOn (k : Asked) (r : Refused) : Type 0 where
    pub fronts : List Front
    pub taken : List (Option D)
    pub back : List (Option D)
    pub before : AreNamed b.home (names_for k) taken
    pub after : AreNamed b.after (names_for k) back
    pub others : (n : Text) → (Contains (names_for k) n → ⊥) → b.after n ≡ b.home n
    pub read : Reads g (profile_of k.command.action).reads taken back fronts
    pub cause : IsWanted (duty_by k (sizes_of g.size back) fronts) (Err r)
        ⊎ (((a : Admitted) × (duty_by k (sizes_of g.size back) fronts ≡ Ok (OnAdmitted a)) × (r ≡ beside_dead a status.Memory)) ⊎ (r ≡ only status.Memory))

  -- why what was asked for is refused, and how devices were called before: not at all where texts or
  -- names are refused, nor for a simulated disk or a configuration alone; some of a list were looked at; none of the program's
  -- own texts is refused
  abbrev pub RefusedBy : Invocation → Refused → Type 0
  RefusedBy (Tell topic) r = ⊥
  RefusedBy (OnArray command) r = (IsRefusedAs b.rose (asked_in b command) r × ((n : Text) → b.after n ≡ b.home n)) ⊎ ((k : Asked) × (asked_in b command ≡ Ok k) × IsRefusedOn k r)
  RefusedBy (Scan list) r = IsRefusedAs b.rose (names_in b.texts b.home list) r × IsScannedInPart g b.tells b.texts b.home b.after list
  RefusedBy (Simulate name order) r = IsRefusedAs b.rose (workload_in b.texts name) r × ((n : Text) → b.after n ≡ b.home n)
  RefusedBy (OnConf name asked) r = IsRefusedAs b.rose (study_in b.texts name asked) r × ((n : Text) → b.after n ≡ b.home n)

  -- It is refused so: for what texts, names, sizes and first sectors call for, or for want of
  -- memory, or for a fault of the bay, only where its count rose. Each device is at home again, and
  -- no sector has changed.
  pub record IsRefusedOf (invocation : Invocation) (r : Refused) : Type 0 where
    pub kind : IsRefusal b.rose r.status
    pub told : IsTopic invocation → ⊥
    pub cause : b.tells → RefusedBy invocation r
    pub same : b.tells → (n : Text) → StaysIf g (λ _. ⊥) (b.home n) (b.after n)

  -- The call was refused so: the words by themselves where they ask for nothing, and then no device was
  -- called; else what they ask for. None of the program's own texts is refused.
  pub record CallIsRefused (words : List Text) (r : Refused) : Type 0 where
    pub kind : IsRefusal b.rose r.status
    pub usage : (i : ℕ) → invocation_of words ≡ Err i
        → (r ≡ only (status.Usage i)) ⊎ (r ≡ only status.Memory)
    pub untouched : (i : ℕ) → invocation_of words ≡ Err i → b.tells → (n : Text) → b.after n ≡ b.home n
    pub told : (topic : Topic) → invocation_of words ≡ Ok (Tell topic) → ⊥
    pub cause : b.tells → (invocation : Invocation) → invocation_of words ≡ Ok invocation
        → RefusedBy invocation r
    pub same : b.tells → (n : Text) → StaysIf g (λ _. ⊥) (b.home n) (b.after n)
