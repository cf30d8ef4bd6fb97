-- What a run leaves behind: the history, the trace if it is kept, how many stripes were rebuilt, and what reads hand out.
use Rattle.std.specs.Prelude.{ℕ, List, [], ◌∷◌, ◌++◌, Bool, if◌then◌else◌, ◌<◌, suc}
use Rattle.blk_plain.specs.declared.op.OpId.{OpId}
use Rattle.eng_world.specs.declared.item.Traced.{Traced}
use Rattle.eng_log.specs.Handed.{Handout}

-- with the most entries that history and trace have room for
pub record Logged : Type 0 where
  pub history : List OpId
  pub trace : List Traced
  pub keeps : Bool
  pub rebuilt : ℕ
  pub handed : Handout
  pub history_room : ℕ
  pub trace_room : ℕ

-- the event stands behind those that were, where they are kept
abbrev pub noted : Logged → Traced → Logged
noted l event = record l { trace = if l.keeps then l.trace ++ event ∷ [] else l.trace }

-- the operation enters the history
abbrev pub entered : Logged → OpId → Logged
entered l id = record l { history = l.history ++ id ∷ [] }

-- reads hand out these bytes
abbrev pub with_bytes : Logged → List ℕ → Logged
with_bytes l bytes = record l { handed = record l.handed { bytes = bytes } }

-- one stripe more was rebuilt
abbrev pub counted : Logged → Logged
counted l = record l { rebuilt = suc l.rebuilt }

-- fewer stripes were rebuilt than the history has room for items: each is that of another item
abbrev pub MayCount : Logged → Type 0
MayCount l = l.rebuilt < l.history_room
