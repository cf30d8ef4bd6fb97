-- The calls of a device: labels, then a sweep, then labels and settles.
use Rattle.std.specs.Prelude.{◌≡◌, ◌⊎◌, ℕ, List, [], ◌∷◌, ◌++◌, All, Bool, true, false, Option}
use Rattle.blk_disk.specs.declared.disk.Call.{Call}
use Rattle.blk_disk.specs.Disk.{call_of}
use Rattle.lay_core.specs.Layout.{Shape}
use Rattle.eng_cols.specs.Cols.{ColumnState}
use Rattle.raid_map.specs.Sweeping.{IsMarkedCall}
use Rattle.raid_recon.specs.Ends.{AreGoodButLast, IsRowsCall}
use Rattle.top_close.specs.Calls.{IsSettle, MoreOn}
use Rattle.top_rounds.specs.Calls.{IsLabelWrite}
use Rattle.top_acts.specs.Sweeps.{Sweeps, Nothing, Over, Marked}

-- a write of a label, or a settle
abbrev pub IsClosing : Call → Type 0
IsClosing call = IsLabelWrite call ⊎ IsSettle call

-- those that came are such calls alone
abbrev pub ClosesOn : Option (List Call) → Option (List Call) → Type 0
ClosesOn before now = MoreOn (All IsClosing) before now

-- Label writes and settles that all went well, no settle right behind another: `was` and `is` say whether the call before them, and the last of them, is a settle.
abbrev pub AreInTurn : (was : Bool) → List Call → (is : Bool) → Type 0
AreInTurn was [] is = was ≡ is
AreInTurn was (c ∷ cs) is = ((c ≡ call_of 1 0 512 true) × AreInTurn false cs is) ⊎ ((was ≡ false) × (c ≡ call_of 2 0 0 true) × AreInTurn true cs is)

-- such ones, and behind them one more in turn, which failed
abbrev pub FailInTurn : (was : Bool) → List Call → Type 0
FailInTurn was calls = (front : List Call) × (last : Call) × (is : Bool) × (calls ≡ front ++ last ∷ []) × AreInTurn was front is × ((last ≡ call_of 1 0 512 false) ⊎ ((is ≡ false) × (last ≡ call_of 2 0 0 false)))

-- of a device that stays in use all went well, and of another the last failed
abbrev pub EndInTurn : (stays was : Bool) → List Call → (is : Bool) → Type 0
EndInTurn true was calls is = AreInTurn was calls is
EndInTurn false was calls is = FailInTurn was calls

-- those that came are such
abbrev pub InTurnOn : (stays was : Bool) → Option (List Call) → Option (List Call) → (is : Bool) → Type 0
InTurnOn stays was before now is = MoreOn (λ more. EndInTurn stays was more is) before now

-- a settle, and label writes and settles behind it
abbrev pub SettlesFirst : List Call → Type 0
SettlesFirst calls = (good : Bool) × (more : List Call) × (calls ≡ call_of 2 0 0 good ∷ more) × All IsClosing more

-- those that came are such
abbrev pub SettlesFirstOn : Option (List Call) → Option (List Call) → Type 0
SettlesFirstOn before now = MoreOn SettlesFirst before now

-- the calls of a sweep on device d: reads of whole rows from a unit on that stands there, and writes of whole check units, none behind one that failed, and of whole units of marked stripes alone where those are swept; none where nothing is swept
abbrev pub AreSweep : Sweeps → Shape → List ColumnState → ℕ → List Call → Type 0
AreSweep Nothing y cols d calls = calls ≡ []
AreSweep (Over kind) y cols d calls = AreGoodButLast calls × All (IsRowsCall y cols d) calls
AreSweep (Marked marks) y cols d calls = AreGoodButLast calls × All (IsMarkedCall y cols marks d) calls

-- Calls of device d: such ones at first, then those of the sweep, then such ones.
pub record AreStaged (first last : List Call → Type 0) (sweep : Sweeps) (y : Shape) (cols : List ColumnState) (d : ℕ) (calls : List Call) : Type 0 where
  pub front : List Call
  pub swept : List Call
  pub back : List Call
  pub all : calls ≡ front ++ (swept ++ back)
  pub at_first : first front
  pub sweeps : AreSweep sweep y cols d swept
  pub at_last : last back
