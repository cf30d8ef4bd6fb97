-- The devices that were taken, and how they were looked at before anything was done with them.
use Rattle.std.specs.Prelude.{◌≡◌, ◌⊎◌, ℕ, Bool, true, false, List, length, Option, Some, Ok, Err, Contains, replicate, slice_get}
use Rattle.blk_disk.specs.Devices.{AreNamed, Changes, device_at}
use Rattle.blk_disk.specs.declared.disk.Disk.{Ghosts}
use Rattle.raid_text.specs.Text.{Text}
use Rattle.top_words.specs.Asked.{Command, profile_of}
use Rattle.top_bay.specs.Asked.{Asked, asked_in, names_for}
use Rattle.top_bay.specs.Lent.{IsMeant}
use Rattle.top_fetch.specs.Told.{Told}
use Rattle.top_open.specs.declared.fronts.Front.{Front}
use Rattle.top_open.specs.Fronts.{AreFronts, IsCalledOnce}
use Rattle.top_status.specs.declared.status.Status.TheVariants as status
use Rattle.top_status.specs.Refusals.{Refused, only}
use Rattle.top_duty.specs.Duty.{IsWanted, WantsMemory, duty_by, duty_in}
use Rattle.top_duty.specs.Opening.{sizes_of}
use Rattle.top_duty.specs.Steps.{reads_fronts}
use Rattle.top_open.specs.declared.fronts.Front.TheVariants.{Away}

-- Sector 0 of each device that has one was read, once, and no sector has changed; or nothing was read.
abbrev pub Reads : {D : Type 0} → Ghosts D → Bool → List (Option D) → List (Option D) → List Front → Type 0
Reads g true old new fronts = AreFronts g old new fronts
    × ((d : ℕ) (front : Front) → slice_get fronts d ≡ Some front → IsCalledOnce g (device_at old d) (device_at new d) front) × Changes g (λ _ _. ⊥) old new
Reads g false old new fronts = (new ≡ old) × (fronts ≡ replicate (length old) Away)

module _ {D : Type 0} (g : Ghosts D) (b : Told D) where
  -- The devices of the names that are asked for were taken as they were at home, and looked at, and they are out now. No other was taken.
  pub record DevicesAreTaken (k : Asked) (devices : List (Option D)) (fronts : List Front) : Type 0 where
    pub taken : List (Option D)
    pub named : b.tells → AreNamed b.home (names_for k) taken
    pub others : b.tells → (n : Text) → (IsMeant (names_for k) (length taken) n → ⊥) → b.after n ≡ b.home n
    pub read : Reads g (reads_fronts k.command.action) taken devices fronts

  -- They were taken and looked at, and they are at home again. Under all other names stands what
  -- stood there.
  pub record WasRead (k : Asked) (fronts : List Front) : Type 0 where
    pub taken : List (Option D)
    pub back : List (Option D)
    pub before : AreNamed b.home (names_for k) taken
    pub after : AreNamed b.after (names_for k) back
    pub others : (n : Text) → (Contains (names_for k) n → ⊥) → b.after n ≡ b.home n
    pub read : Reads g (profile_of k.command.action).reads taken back fronts

  -- each device is at home as it was, with no call more
  abbrev pub AreUntouched : Type 0
  AreUntouched = (n : Text) → b.after n ≡ b.home n

  -- The call is refused as texts, names, sizes and labels call for, the labels being those that
  -- were read; none was where texts or names are refused.
  pub record RefusedAt (command : Command) (r : Refused) : Type 0 where
    pub fronts : List Front
    pub wanted : IsWanted (duty_in g.size b command fronts) (Err r)
    pub unread : (early : Refused) → asked_in b command ≡ Err early → AreUntouched
    pub read : (k : Asked) → asked_in b command ≡ Ok k → WasRead k fronts

  -- No device was called; or texts and names are right, and the devices were looked at, and called
  -- for nothing else.
  abbrev pub AreLookedAtMost : Command → Type 0
  AreLookedAtMost command = AreUntouched
      ⊎ ((k : Asked) × (asked_in b command ≡ Ok k) × (fronts : List Front) × WasRead k fronts)

  -- Memory was wanted behind the opening, the labels being those that were read.
  pub record MemoryAt (command : Command) (r : Refused) : Type 0 where
    pub fronts : List Front
    pub wanted : WantsMemory (duty_in g.size b command fronts) r
    pub read : (k : Asked) → asked_in b command ≡ Ok k → WasRead k fronts

  -- why a call is refused: that; or the bay's count of faults rose, and no device was called; or
  -- memory was wanted before the opening, or behind it
  abbrev pub RefusedFor : Command → Refused → Type 0
  RefusedFor command r = RefusedAt command r
      ⊎ (((r ≡ only status.BayFault) × b.rose × AreUntouched)
      ⊎ (((r ≡ only status.Memory) × AreLookedAtMost command) ⊎ MemoryAt command r))

module _ {D : Type 0} (g : Ghosts D) (k : Asked) where
  -- What was asked is refused over these devices as their labels are read.
  pub record IsRefusedOver (old new : List (Option D)) (r : Refused) : Type 0 where
    pub fronts : List Front
    pub read : Reads g (reads_fronts k.command.action) old new fronts
    pub wanted : IsWanted (duty_by k (sizes_of g.size new) fronts) (Err r) ⊎ WantsMemory (duty_by k (sizes_of g.size new) fronts) r

  -- they weren't called, or they were looked at, once
  abbrev pub ReadsAtMost : List (Option D) → List (Option D) → Type 0
  ReadsAtMost old new = (new ≡ old) ⊎ ((fronts : List Front) × Reads g (reads_fronts k.command.action) old new fronts)

  -- that, or memory was wanted
  abbrev pub RefusedOver : List (Option D) → List (Option D) → Refused → Type 0
  RefusedOver old new r = ((r ≡ only status.Memory) × ReadsAtMost old new) ⊎ IsRefusedOver old new r
