-- The run begins with an opening of what was handed in, and comes to rest.
use Rattle.std.proofs.Common.{◌≡◌, ℕ, zero, suc, ◌<◌, List, [], ◌++◌, length, false, Option, Some, None, refl, sym, ◌∙◌, ap, subst, arith}
use Rattle.std.specs.Prelude.{replicate, slice_index, slice_index_or, option_and_then, count_by}
use Rattle.std.specs.Option.{option_map_or}
use Rattle.blk_disk.specs.declared.disk.Disk.{Ghosts as DiskGhosts}
use Rattle.blk_disk.specs.Devices.{device_at, contents_of, calls_of}
use Rattle.lay_core.specs.Layout.{Shape}
use Rattle.lay_core.specs.declared.layout.Layout.{Ghosts as LayoutGhosts}
use Rattle.eng_cols.specs.declared.spot.Loss.{Loss}
use Rattle.eng_cols.specs.Cols.{ColumnState, Columns, is_set_filling}
use Rattle.eng_world.specs.declared.item.Item.{Item}
use Rattle.eng_world.specs.declared.item.Reply.{Reply}
use Rattle.eng_world.specs.Invariant.{AllReplied}
use Rattle.eng_parts.specs.declared.setup.Setup.{Setup}
use Rattle.eng_parts.specs.declared.setup.Closed.{Closed}
use Rattle.eng_clients.specs.Desk.{Desk, desk_at}
use Rattle.eng_parts.specs.Shelf.{Seen, Shelved, seen_at, has_failed}
use Rattle.eng_state.specs.declared.array.Array.{Array}
use Rattle.eng_starts.specs.Rebuilding.{AreRebuildsBelow, with_items}
use Rattle.eng_state.specs.Shows.{device_byte, told_by, AreTold}
use Rattle.eng_choice.proofs.Resting.{all-home}
use Rattle.eng_state.proofs.Shown.{desk-set, replies-shown}
use Rattle.eng_array.specs.declared.start.Start.{Start}
use Rattle.eng_array.specs.declared.start.Start.TheVariants as start
use Rattle.eng_array.specs.Starts as starts
use Rattle.top_serve.specs.Judged.{HasStarted}
use Rattle.top_serve.specs.Setups.{shape_in, graphs_in, begun_for, columns_in, MayStart}
use Rattle.top_serve.specs.Served.{IsRebuiltBy, CoreOpens, CoreRests}
use Rattle.top_serve.proofs.Devices.{device_of, brought-at}
use Rattle.top_serve.proofs.Between.{Course, no-items}
use Rattle.top_serve.proofs.Meaning.{lost-replied}
use Rattle.top_serve.proofs.Starting.{first_of}

-- none of these has failed
none-failed : (n d : ℕ) → slice_index_or (replicate n false) d false ≡ false
none-failed zero d = refl
none-failed (suc n) zero = refl
none-failed (suc n) (suc d) = none-failed n d

alone : {L D : Type 0} (lay : LayoutGhosts L) (disk : DiskGhosts D) (setup : Setup L D) (how : Option Start) → MayStart lay disk setup how
    → (c : ℕ) → how ≡ Some (start.Spread c) → count_by is_set_filling setup.columns.items ≡ 0
alone lay disk setup how may c is =
    let m : MayStart lay disk setup (Some (start.Spread c)) = subst (λ (h : Option Start). MayStart lay disk setup h) is may in
    m.target.0.none_filling

module _ {D : Type 0} (disk : DiskGhosts D) where
  -- what is seen of a device, by the device
  byte-of : (o : Option (Seen D)) (n k : ℕ) → device_byte disk o n k ≡ slice_index (option_map_or (λ x. disk.sector x n) (device_of o) []) k
  byte-of None n k = refl
  byte-of (Some s) n k = refl

  pub bytes-at : (ds : List (Option D)) (s : Shelved D) (d : ℕ) → device_at ds d ≡ device_of (seen_at s d) → (n k : ℕ) → device_byte disk (seen_at s d) n k ≡ contents_of disk ds d n k
  bytes-at ds s d is n k = byte-of (seen_at s d) n k ∙ ap (λ (o : Option D). slice_index (option_map_or (λ x. disk.sector x n) o []) k) (sym is)

  pub calls-at : (ds : List (Option D)) (s : Shelved D) (d : ℕ) → device_at ds d ≡ device_of (seen_at s d) → told_by disk (seen_at s d) ≡ calls_of disk ds d
  calls-at ds s d is = by (seen_at s d) (device_at ds d) is
    where
      by : (o : Option (Seen D)) (x : Option D) → x ≡ device_of o → told_by disk o ≡ option_and_then disk.calls x
      by None x e = ap (λ z. option_and_then disk.calls z) (sym e)
      by (Some s) x e = ap (λ z. option_and_then disk.calls z) (sym e)

module _ {L D : Type 0} (lay : LayoutGhosts L) (disk : DiskGhosts D) (setup : Setup L D) (how : Option Start) (first last : Array L D) (closed : Closed L D) (p : Course lay disk setup how first last closed) where
  given-at : (d : ℕ) → device_at setup.devices.items d ≡ device_of (seen_at first.devices d)
  given-at d = brought-at setup.devices.items d ∙ ap (λ (s : Shelved D). device_of (seen_at s d)) (sym p.between.opened.devices)

  pub start-contents : disk.tells → (d n k : ℕ) → k < 512 → p.start.contents d n k ≡ contents_of disk setup.devices.items d n k
  start-contents told d n k kb = p.shows_start.contents told d n k kb ∙ bytes-at disk setup.devices.items first.devices d (given-at d) n k

  start-calls : (d : ℕ) → AreTold disk (calls_of disk setup.devices.items d) (p.start.calls d)
  start-calls d = subst (λ o. AreTold disk o (p.start.calls d)) (calls-at disk setup.devices.items first.devices d (given-at d)) (p.shows_start.calls d)

  pub first-failed : (d : ℕ) → has_failed first.devices d ≡ false
  first-failed d = ap (λ (s : Shelved D). has_failed s d) p.between.opened.devices ∙ none-failed (length setup.devices.items) d

  pub opens : CoreOpens lay disk setup p.start
  opens = record {
    opening = p.opening;
    columns = p.columns;
    items = p.start_items;
    failed = λ d. p.shows_start.failed d ∙ first-failed d;
    free = p.shows_start.free ∙ p.between.opened.pool.free;
    contents = start-contents;
    calls = start-calls;
  }

  -- ## Rest

  pub replied : AllReplied p.now
  replied c = by last.lost refl
    where
      by : (o : Option Loss) → last.lost ≡ o → length (p.now.clients c).replies ≡ length (p.now.clients c).items
      by None is =
          ap (λ (l : List Reply). length l) (replies-shown disk last p.now p.shows_now is c)
          ∙ (p.between.rest.replied is c ∙ ap (λ (l : List Item). length l) (sym (p.shows_now.clients c).items))
      by (Some loss) is = lost-replied (shape_in lay setup) (graphs_in setup) p.layout p.promises p.start p.opening (p.own ++ first_of how p.count) p.now p.run loss (p.shows_now.lost ∙ is) c

  none-out : p.now.out ≡ 0
  none-out =
      let lists = all-home lay disk last p.between.steady.sound p.between.home in
      let shown = p.shows_now.out in
      omega (arith, lists, shown)

  -- ## The rebuilds

  begun-items : (p.now.clients 16).items ≡ (desk_at p.between.begun.clients 16).items
  begun-items = (p.shows_now.clients 16).items ∙ p.last_begun 16

  columns-first : first.cols ≡ columns_in lay setup
  columns-first = p.between.opened.cols

  abbrev Rebuilt : Start → List ColumnState → List Item → Type 0
  Rebuilt rebuild cols items = AreRebuildsBelow (shape_in lay setup) cols (starts.column_of rebuild) (starts.most_of rebuild) (shape_in lay setup).stripes items

  rebuilds : IsRebuiltBy (shape_in lay setup) (columns_in lay setup) how (p.now.clients 16).items
  rebuilds = by how p.between.begins
    where
      by : (h : Option Start) → HasStarted lay disk first h p.between.begun → IsRebuiltBy (shape_in lay setup) (columns_in lay setup) h (p.now.clients 16).items
      by None same =
          begun-items
          ∙ (ap (λ (core : Array L D). (desk_at core.clients 16).items) same
          ∙ (sym (p.shows_start.clients 16).items
          ∙ (p.start_items 16 ∙ no-items setup.clients.items 16 p.few)))
      by (Some rebuild) begins = subst (Rebuilt rebuild (begun_for lay setup (Some rebuild))) (sym (begun-items ∙ here)) mine
        where
          here : (desk_at p.between.begun.clients 16).items ≡ begins.1.items
          here =
              ap (λ (core : Array L D). (desk_at core.clients 16).items) begins.1.is
              ∙ ap (λ (d : Desk). d.items) (desk-set first.clients 16 (with_items (desk_at first.clients 16) begins.1.items) (let count = p.between.opened.count in omega (arith, count)))

          shaped : Rebuilt rebuild (starts.begun_by first.cols rebuild) begins.1.items
          shaped = subst (λ (y : Shape). AreRebuildsBelow y (starts.begun_by first.cols rebuild) (starts.column_of rebuild) (starts.most_of rebuild) y.stripes begins.1.items) (ap lay.shape p.between.opened.layout) begins.1.rebuilds

          mine : Rebuilt rebuild (begun_for lay setup (Some rebuild)) begins.1.items
          mine = subst (λ (v : Columns). Rebuilt rebuild (starts.begun_by v rebuild) begins.1.items) columns-first shaped

  pub rests : CoreRests lay disk setup how p.start (p.own ++ first_of how p.count) p.now
  rests = record {
    begins = p.begins;
    run = p.run;
    items = p.now_items;
    rebuilds = rebuilds;
    alone = alone lay disk setup how p.between.may;
    replied = replied;
    out = none-out;
  }
