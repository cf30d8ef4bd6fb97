-- A call of `--io` from texts to bytes, in one record: a configuration and a script as they are printed, and a call that ends well.
use Rattle.std.specs.Prelude.{◌≡◌, ◌⊎◌, ◌<◌, ℕ, Bool, List, [], ◌++◌, Option, Some, None, Ok, false, All, length, codes, slice_get}
use Rattle.blk_plain.specs.declared.op.OpId.{OpId}
use Rattle.blk_disk.specs.declared.disk.Disk.{Ghosts}
use Rattle.blk_disk.specs.Devices.{AreNamed, RisesOn, contents_of}
use Rattle.eng_cols.specs.declared.column.Column.{Column}
use Rattle.eng_cols.specs.declared.column.Column.TheVariants as column
use Rattle.eng_cols.specs.Cols.{HasDeviceOn}
use Rattle.eng_cols.specs.Deaths.{LosesDevice}
use Rattle.eng_world.specs.declared.item.Item.TheVariants as item
use Rattle.eng_world.specs.declared.item.Reply.TheVariants as reply
use Rattle.raid_text.specs.Text.{Text}
use Rattle.raid_conf.specs.declared.conf.Conf.{Conf}
use Rattle.raid_conf.specs.Form.{IsConf, conf_text}
use Rattle.raid_conf.specs.Layouts.{shape_of}
use Rattle.raid_script.specs.Asked.{Request as Item, scripted}
use Rattle.raid_script.specs.Form.{AreRequests}
use Rattle.raid_script.specs.Replies.{items_at, replies_text}
use Rattle.raid_script.specs.History.{history_text}
use Rattle.top_serve.specs.Served.{IsKeptAs}
use Rattle.top_status.specs.declared.status.Status.{Status}
use Rattle.top_status.specs.declared.status.Status.TheVariants as status
use Rattle.top_status.specs.Dead.{dead_columns, dead_text}
use Rattle.top_fetch.specs.Told.{Told}
use Rattle.top_words.specs.Asked.{Io}
use Rattle.top_words.specs.Judged.{OnArray, invocation_of}
use Rattle.run_effect.specs.Effect.{Answer, Request, reply_to}
use Rattle.run_effect.specs.Printed.{IsPlainRequest, script_text}
use Rattle.top_labelled.specs.Effect.{TakesEffectBegun}

-- the names of the columns' disks, then those of the spares; an empty one stands for a disk that is absent
abbrev pub disks_of : Conf → List Text
disks_of conf = conf.disks ++ conf.spare_names

-- what is asked of an array of this configuration
abbrev pub request_for : Conf → List Item → ℕ → List Column → Request
request_for conf items rows columns = record { layout = shape_of conf rows; columns = columns; clients = (scripted items).clients }

-- an item by which the column fails was replied ok
pub record FailsByItem (told : Answer) (c : ℕ) : Type 0 where
  pub id : OpId
  pub asked : slice_get (items_at told.clients id.client) id.index ≡ Some (item.Fail c)
  pub replied : reply_to told id ≡ Some reply.Okay

module _ {D : Type 0} (g : Ghosts D) where
  -- the columns' disks have no label: sector 0 of each is zero
  abbrev pub AreBlank : Conf → List (Option D) → Type 0
  AreBlank conf disks = (c k : ℕ) → c < conf.columns → k < 512 → contents_of g disks c 0 k ≡ 0

  -- each column has its own disk; or it is dead, as that is absent, or its count of faults rose
  abbrev pub AreOwn : Conf → (taken back : List (Option D)) → List Column → Type 0
  AreOwn conf taken back columns = (c : ℕ) → c < conf.columns → (slice_get columns c ≡ Some (column.Live c))
      ⊎ ((slice_get columns c ≡ Some column.Dead) × ((slice_get conf.disks c ≡ Some []) ⊎ RisesOn g taken back c))

  -- each column is in the end what it was as the array was opened; or it is dead, as an item failed it, or its device's count of faults rose
  abbrev pub EndAs : Answer → (taken back : List (Option D)) → List Column → Type 0
  EndAs told taken back columns = (c : ℕ) → IsKeptAs (slice_get columns c) (slice_get told.columns c)
      ⊎ ((slice_get told.columns c ≡ Some column.Dead) × (FailsByItem told c ⊎ LosesDevice g columns taken back c))

module _ {D : Type 0} (g : Ghosts D) (b : Told D) (sink_tells : Type 0) (old new : List ℕ) where
  -- The items were served, and this was printed of it. The array was opened with these columns, over the disks of the configuration's names as they were, and the disks are back. What is told took effect, once the array was begun; it isn't lost. Where no disk has a label, the columns are the disks of the configuration, and nothing had changed as the array was begun.
  pub record Serves (conf : Conf) (items : List Item) : Type 0 where
    pub rows : ℕ
    pub columns : List Column
    pub taken : List (Option D)
    pub back : List (Option D)
    pub told : Answer
    pub before : AreNamed b.home (disks_of conf) taken
    pub after : AreNamed b.after (disks_of conf) back
    pub many : length columns ≡ conf.columns
    pub effect : TakesEffectBegun g (request_for conf items rows columns) taken back told
    pub kept : told.lost ≡ None
    pub ends : EndAs g told taken back columns
    pub plain : g.tells → AreBlank g conf taken → AreOwn g conf taken back columns × (effect.columns ≡ columns)
        × ((d n k : ℕ) → contents_of g effect.begun d n k ≡ contents_of g taken d n k)
    pub printed : sink_tells → new ≡ old ++ (replies_text told.clients told.replies told.sectors
        ++ (history_text told.history ++ (dead_text (dead_columns told.columns) ++ codes "status ok\n")))

  -- Where the words ask for `CONF --io SCRIPT [-w N] [--map]`, and the answer is ok, the items were served.
  abbrev pub Headline : List Text → Status → Type 0
  Headline words answer = (conf : Conf) (items : List Item) (c s : Text) (workers : ℕ) (map : Bool)
      → invocation_of words ≡ Ok (OnArray (record { conf = c; action = Io (record { script = s; graphs = None; trace = false }) workers map; adopt = false }))
      → IsConf conf → All (IsPlainRequest conf.columns) items → AreRequests items
      → b.tells → b.texts c ≡ Some (conf_text conf) → b.texts s ≡ Some (script_text items)
      → answer ≡ status.Ok → Serves conf items
