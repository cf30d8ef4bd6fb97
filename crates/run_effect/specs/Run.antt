-- Of a run of worlds, the facts that its effect follows from: fields of `Ran` of top_run, as they stand there.
use Rattle.std.specs.Prelude.{◌≡◌, ◌≢◌, ◌<◌, ◌≤◌, ◌+◌, ◌*◌, ℕ, List, Option, Some, None, length, map, slice_get, slice_index_or}
use Rattle.blk_plain.specs.declared.op.Op.{Op}
use Rattle.blk_plain.specs.declared.op.Op.TheVariants.{Rebuild}
use Rattle.blk_disk.specs.declared.disk.Disk.{Ghosts}
use Rattle.blk_disk.specs.Devices.{contents_of}
use Rattle.eng_cols.specs.Contents.{Agrees, AnyStripe}
use Rattle.eng_cols.specs.Stripes.{states_of}
use Rattle.eng_world.specs.declared.item.Item.{Item}
use Rattle.eng_world.specs.declared.item.Item.TheVariants as item
use Rattle.eng_world.specs.declared.item.Reply.TheVariants as reply
use Rattle.eng_world.specs.Plain.{replay}
use Rattle.eng_world.specs.World.{World}
use Rattle.eng_world.specs.Step.{IsOpening}
use Rattle.eng_world.specs.Legal.{AreOps, RepliesFit}
use Rattle.eng_world.specs.Invariant.{IsTold}
use Rattle.raid_script.specs.Asked.{seen}
use Rattle.raid_script.specs.Replies.{item_sectors, items_at, no_item, replies_at}
use Rattle.run_effect.specs.Effect.{Request, Answer, WasFit, byte_read}

module _ {D : Type 0} (g : Ghosts D) (a : Request) (taken back : List (Option D)) (s : Answer) where
  pub record RanSo : Type 0 where
    pub start : World
    pub now : World
    pub opening : IsOpening a.layout start
    pub columns : start.columns ≡ states_of a.layout a.columns
    pub contents : g.tells → (d n k : ℕ) → k < 512 → start.contents d n k ≡ contents_of g taken d n k
    pub rebuilds : (n : ℕ) (x : Item) → slice_get (now.clients 16).items n ≡ Some x → (stripe : ℕ) × (x ≡ item.Run (Rebuild stripe) None)
    pub replied : (c : ℕ) → length (now.clients c).replies ≡ length (now.clients c).items
    pub asked : map (λ items. map seen items.items) s.clients ≡ a.clients
    pub few : length s.clients ≤ 16
    pub items : (c : ℕ) → c ≢ 16 → items_at s.clients c ≡ (now.clients c).items
    pub rows : length s.replies ≡ length s.clients
    pub replies : (c : ℕ) → c ≢ 16 → replies_at s.replies c ≡ (now.clients c).replies
    pub history : s.history ≡ now.history
    pub handed : g.tells → (c i b k : ℕ) → slice_get (now.clients c).replies i ≡ Some reply.Data → b < item_sectors (slice_index_or (items_at s.clients c) i no_item) → k < 512 → (now.clients c).handed i b k ≡ byte_read s (record { client = c; index = i }) b k
    pub legal : IsTold start.blocks now
    pub fits : g.tells → WasFit g a taken back s → RepliesFit start.blocks now
    pub agrees : g.tells → WasFit g a taken back s → s.lost ≡ None → (ops : List Op) × AreOps now now.history ops
        × Agrees a.layout (contents_of g back) (states_of a.layout s.columns) (replay start.blocks ops) AnyStripe
