-- What a run comes to that the array outlives.
use Rattle.std.specs.Prelude.{◌≡◌, ◌⊎◌, ℕ, List, Option, Some, None, true, slice_get, Contains}
use Rattle.blk_plain.specs.declared.op.Op.{Op}
use Rattle.blk_plain.specs.declared.op.Op.TheVariants as op
use Rattle.blk_plain.specs.declared.op.OpId.{OpId}
use Rattle.blk_disk.specs.declared.disk.Disk.{Ghosts}
use Rattle.blk_disk.specs.Devices.{RisesOn}
use Rattle.graph_mean.specs.declared.refusal.Refusal.{Refusal}
use Rattle.eng_cols.specs.declared.column.Column.{Column}
use Rattle.eng_cols.specs.declared.column.Column.TheVariants as column
use Rattle.eng_cols.specs.Cols.{HasDevice, is_set_filling, passes}
use Rattle.eng_cols.specs.Deaths.{Dies}
use Rattle.eng_cols.specs.Lost.{NotLost}
use Rattle.eng_world.specs.declared.item.Item.{Item as AnyItem}
use Rattle.eng_world.specs.declared.item.Item.TheVariants as item
use Rattle.eng_world.specs.declared.item.Reply.{Reply}
use Rattle.eng_world.specs.declared.item.Reply.TheVariants as reply
use Rattle.eng_world.specs.Planning.{IsOut, IsLong, InReach}
use Rattle.eng_world.specs.Legal.{StandsAt}
use Rattle.eng_world.specs.Causes.{WasRefused}
use Rattle.eng_cols.specs.Stripes.{states_of}
use Rattle.eng_array.specs.Starts.{column_of}
use Rattle.eng_array.specs.declared.start.Start.{Start}
use Rattle.raid_script.specs.Asked.{Asked as Item, Fails}
use Rattle.raid_script.specs.Replies.{items_at, replies_at}
use Rattle.top_run.specs.Work.{Work, Service}
use Rattle.top_serve.specs.Setups.{with_start}
use Rattle.top_run.specs.Ran.{begun_in, Ran}
use Rattle.top_run.specs.Steps.{states_in}

-- ## The array

-- an item asks that the column fail
pub record HasFail (a : Work) (c : ℕ) : Type 0 where
  pub row : List Item
  pub client : Contains a.clients row
  pub fails : Contains row (Fails c)

-- it is rebuilt
abbrev pub IsRebuiltIn : Work → ℕ → Type 0
IsRebuiltIn a c = (start : Start) × (a.start ≡ Some start) × (column_of start ≡ c)

-- it is filling as the array is opened
abbrev pub IsFillingIn : Work → ℕ → Type 0
IsFillingIn a c = passes is_set_filling (slice_get a.columns c) ≡ true

-- the reply to an operation that is done
abbrev pub done_reply : Op → Reply
done_reply (op.Write span pattern) = reply.Done
done_reply (op.Writes patches) = reply.Done
done_reply (op.Read span) = reply.Data
done_reply (op.Rebuild stripe) = reply.Done
done_reply (op.Sync stripe) = reply.Done

module _ {D : Type 0} (g : Ghosts D) (a : Work) (taken back : List (Option D)) where
  -- an item asks that the column fail, or it is rebuilt, or it is filling, or its device's count of faults rose
  abbrev pub MayDie : ℕ → Type 0
  MayDie c = HasFail a c ⊎ (IsRebuiltIn a c ⊎ (IsFillingIn a c ⊎ ((d : ℕ) × HasDevice (states_in a) c d × RisesOn g taken back d)))

  -- The array outlives the call: it isn't lost, whichever of these columns be dead.
  abbrev pub OutlivesCall : Type 0
  OutlivesCall = (cols : List Column) → Dies MayDie a.columns cols → NotLost a.layout (states_of a.layout cols)

  -- ## Replies

  -- the device's count of faults rose, or an item asks that a column fail which has it, or a spread column of this number
  abbrev pub HasFaulted : ℕ → Type 0
  HasFaulted d = RisesOn g taken back d ⊎ (((c : ℕ) × HasDevice (begun_in a) c d × HasFail a c) ⊎ ((slice_get (with_start a.start a.columns) d ≡ Some column.Spread) × HasFail a d))

  module _ (s : Service) (ran : Ran g a taken s back) where
    -- it stands in the history, and a read is replied its data, any other operation done
    abbrev pub TookEffect : OpId → Op → Reply → Type 0
    TookEffect id o told = ((n : ℕ) × StandsAt s.history n id) × (told ≡ done_reply o)

    -- the checker refused the operation's graph as it was taken
    abbrev pub IsRefusedByChecker : OpId → Op → ℕ → Reply → Type 0
    IsRefusedByChecker id o graph told = (cause : Refusal) × (told ≡ reply.Refused cause) × WasRefused a.layout ran.graphs ran.start ran.events ran.now id o graph cause

    -- it doesn't stand in the history, and was undone by a device that has failed
    abbrev pub IsUndone : OpId → Reply → Type 0
    IsUndone id told = (d : ℕ) × (told ≡ reply.Undone d) × HasFaulted d × ((n : ℕ) → StandsAt s.history n id → ⊥)

    -- An operation in reach is done; one by a graph of the file may be refused or undone in place of that.
    abbrev pub IsAnswered : OpId → Op → Option ℕ → Reply → Type 0
    IsAnswered id o None told = TookEffect id o told
    IsAnswered id o (Some graph) told = TookEffect id o told ⊎ (IsRefusedByChecker id o graph told ⊎ IsUndone id told)

    -- What an operation is replied: that it is out of range, or within it over too many stripes, or what came of it.
    pub record IsReplied (id : OpId) (o : Op) (graph : Option ℕ) (told : Reply) : Type 0 where
      pub out : IsOut a.layout o → told ≡ reply.Range
      pub long : (IsOut a.layout o → ⊥) → IsLong a.layout o → told ≡ reply.Long
      pub reached : InReach a.layout o → IsAnswered id o graph told

    -- The reply that an item ought to have: an operation its own; and one that asks that a column fail ok, and the column is dead in the end.
    abbrev pub IsReplyTo : OpId → AnyItem → Reply → Type 0
    IsReplyTo id (item.Run o graph) told = IsReplied id o graph told
    IsReplyTo id (item.Fail c) told = (told ≡ reply.Okay) × (slice_get s.ending.columns c ≡ Some column.Dead)

    -- Each item of a client has its reply, and that isn't that the array was lost.
    abbrev pub AllAnswered : Type 0
    AllAnswered = (id : OpId) (asked : AnyItem) → slice_get (items_at s.clients id.client) id.index ≡ Some asked
        → (told : Reply) × (slice_get (replies_at s.replies id.client) id.index ≡ Some told) × (told ≡ reply.Lost → ⊥) × IsReplyTo id asked told
