-- What a pass knows, what a turn's one word counts of it, and how each step changes it.
use Rattle.std.specs.Prelude.{ℕ, zero, suc, ◌+◌, Option, Some, None}
use Rattle.atomic_table.specs.Table.{Me}
use Rattle.std.specs.declared.snapshot.Snapshot.{Snapshot}
use Rattle.eng_turn.specs.declared.view.Resting.{Resting}
use Rattle.eng_turn.specs.declared.view.Change.{Change}
use Rattle.eng_turn.specs.declared.view.Change.TheVariants.{Settled, Splitting, Joining}
use Rattle.eng_turn.specs.declared.view.Stage.{Stage}
use Rattle.eng_turn.specs.declared.view.Stage.TheVariants.{Outside, Inside}
use Rattle.eng_turn.specs.declared.view.PassView.{PassView}

-- what the one slot has: the value where it is at home
abbrev pub Content : Type 0 → Type 0 → Type 0
Content V T = Option (Resting V T)

-- a pass's view, and the slots that are out with it
abbrev pub Mine : Type 0 → Type 0 → Type 0
Mine V T = Me (Content V T) (PassView V T)

-- 1 for a pass that has a share of the turn
abbrev pub live : ℕ → ℕ
live zero = 0
live (suc n) = 1

-- the splits and joins under way
abbrev pub under_way : Change → ℕ
under_way Settled = 0
under_way Splitting = 1
under_way Joining = 1

-- the shares that are on their way to a new pass
abbrev pub handed_on : Change → ℕ
handed_on Settled = 0
handed_on Splitting = 1
handed_on Joining = 0

-- 1 for a pass that has the value
abbrev pub within : {V : Type 0} → Stage V → ℕ
within Outside = 0
within (Inside v) = 1

-- the ticket that lies beside the value, and this one where none lies there
abbrev pub ticket_or : {T : Type 0} → Option (Snapshot T) → T → T
ticket_or (Some x) t = x.value
ticket_or None t = t

module _ {V T : Type 0} where
  abbrev pub view_ticket : PassView V T → T
  view_ticket v = v.ticket

  -- what the word counts twice for this pass: itself, and its split or join under way
  abbrev pub counted : PassView V T → ℕ
  counted v = live v.share + under_way v.change

  -- what the word counts once for this pass: that it has the value
  abbrev pub inside : PassView V T → ℕ
  inside v = within v.stage

  -- the shares that this pass has or is handing on
  abbrev pub part : PassView V T → ℕ
  part v = v.share + handed_on v.change

  abbrev pub view : T → Option V → Option V → ℕ → Change → Stage V → PassView V T
  view ticket opening mark share change stage = record { ticket = ticket; opening = opening; mark = mark; share = share; change = change; stage = stage }

  abbrev pub with_share : PassView V T → ℕ → Change → PassView V T
  with_share v n c = view v.ticket v.opening v.mark n c v.stage

  abbrev pub with_stage : PassView V T → Stage V → PassView V T
  with_stage v s = view v.ticket v.opening v.mark v.share v.change s

  -- the pass leaves this value, with this ticket
  abbrev pub left_with : PassView V T → V → T → PassView V T
  left_with v m t = view t v.opening (Some m) v.share v.change Outside

  -- the pass of the opening, which has every share
  abbrev pub opener : T → V → PassView V T
  opener empty o = view empty (Some o) (Some o) 65536 Settled Outside

  -- the pass that a split makes
  abbrev pub split_off : T → PassView V T → PassView V T
  split_off empty v = view empty v.opening v.mark 1 Settled Outside

  -- what is left of a pass that was joined to another
  abbrev pub spent_view : T → PassView V T
  spent_view empty = view empty None None 0 Settled Outside
