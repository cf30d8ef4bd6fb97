-- The items of all clients as a core opens, and the regions that lie ready for them.
use Rattle.std.proofs.Common.{◌≡◌, ℕ, ◌<◌, ◌≤◌, List, [], length, ap, ◌∙◌, arith, inl, inr, Option, Some}
use Rattle.std.specs.Prelude.{slice_get, slice_index_or}
use Rattle.std.proofs.lemmas.Bool.{cases_lt}
use Rattle.std.proofs.lemmas.Option.{slice_get_within}
use Rattle.blk_plain.specs.declared.op.Span.{Span}
use Rattle.blk_plain.specs.declared.op.Op.TheVariants as op
use Rattle.blk_disk.specs.declared.disk.Disk.{Ghosts as DiskGhosts}
use Rattle.lay_core.specs.declared.layout.Layout.{Ghosts as LayoutGhosts}
use Rattle.eng_world.specs.declared.item.Item.{Item}
use Rattle.eng_world.specs.declared.item.Item.TheVariants as item
use Rattle.item_list.specs.ItemList.{ItemList}
use Rattle.eng_log.specs.declared.region.Region.{Region}
use Rattle.eng_parts.specs.declared.setup.Setup.{Setup}
use Rattle.eng_state.specs.declared.array.Array.{Array}
use Rattle.eng_ends.specs.Copied.{AreLaid}
use Rattle.eng_clients.specs.Desk.{Desk, desk_at}
use Rattle.eng_log.specs.Given.{items_at}
use Rattle.eng_log.specs.Handed.{Handout, region_at}
use Rattle.eng_log.specs.Laid.{sectors_in, IsLaidOut}
use Rattle.eng_events.specs.Opened.{IsOpened}
use Rattle.eng_events.proofs.OpeningDesks.{item-of}
use Rattle.eng_clients.specs.Fresh.{new_desk}
use Rattle.eng_log.proofs.FewItems.{none-past}

module _ (given : List ItemList) (own : ℕ) (h : Handout) (laid : IsLaidOut given own h) where
  -- a client has a region for each item
  room-each : (c : ℕ) → c < 17 → length (items_at given c) ≤ length (slice_index_or h.regions c [])
  room-each c lt = elim (cases_lt c 16) [
    | inl low ↦ let e = (laid.rows c low).count in omega (arith, e)
    | inr ge ↦ let e = ap (λ (l : List Item). length l) (none-past given laid.few c ge) in omega (arith, e)
  ]

  -- that of a read is as long as its span
  read-each : (c i : ℕ) (span : Span) (file : Option ℕ) → slice_get (items_at given c) i ≡ Some (item.Run (op.Read span) file) → (region_at h c i).count ≡ span.count
  read-each c i span file at =
      let there = slice_get_within (items_at given c) i (item.Run (op.Read span) file) at in
      elim (cases_lt c 16) [
        | inl low ↦ ap (λ (r : Region). r.count) ((laid.rows c low).each i there) ∙ ap sectors_in at
        | inr ge ↦ let e = ap (λ (l : List Item). length l) (none-past given laid.few c ge) in absurd (let u : ⊥ = omega (arith, e, there) in u)
      ]

  pub are-laid : (desks : List Desk) → length desks ≡ 17 → ((c : ℕ) → c < 17 → desk_at desks c ≡ new_desk (items_at given c)) → AreLaid h desks
  are-laid desks count clients = record {
    clients = let a = laid.count in omega (arith, a, count);
    items = λ c lt.
        let low : c < 17 = omega (arith, lt, count) in
        let m = room-each c low in
        let e = ap (λ (d : Desk). length d.items) (clients c low) in
        omega (arith, m, e);
    reads = λ c i span file at. read-each c i span file (item-of desks (items_at given) count clients c i (item.Run (op.Read span) file) at);
  }

-- so it is of an opened core
pub opened-laid : {L D : Type 0} (lay : LayoutGhosts L) (disk : DiskGhosts D) (setup : Setup L D) (core : Array L D) → IsOpened lay disk setup core → AreLaid core.log.handed core.clients
opened-laid lay disk setup core o = are-laid setup.clients.items (lay.shape setup.layout).stripes core.log.handed o.laid core.clients o.count o.clients
