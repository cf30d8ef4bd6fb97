-- How the columns end, and the loss.
use Rattle.std.proofs.Common.{◌≡◌, inl, inr, ℕ, ◌≤◌, List, map, Bool, true, Option, Some, None, option_map, slice_get, refl, sym, ◌∙◌, ap, subst, arith}
use Rattle.std.specs.Prelude.{Contains, slice_index}
use Rattle.std.proofs.lemmas.Bool.{cases_eq}
use Rattle.std.proofs.lemmas.Option.{slice_get-map, slice_get_within, get_or_from_slice_get}
use Rattle.blk_plain.specs.declared.op.Op.TheVariants as op
use Rattle.blk_disk.specs.declared.disk.Disk.{Ghosts as DiskGhosts}
use Rattle.blk_disk.specs.Devices.{contents_of}
use Rattle.blk_disk.proofs.DeviceLaws.{changes_sector}
use Rattle.lay_core.specs.Layout.{Shape}
use Rattle.lay_core.specs.declared.layout.Layout.{Ghosts as LayoutGhosts}
use Rattle.eng_cols.specs.declared.spot.Loss.{Loss}
use Rattle.eng_cols.specs.Cols.{ColumnState}
use Rattle.eng_world.specs.declared.item.Item.{Item}
use Rattle.eng_world.specs.declared.item.Item.TheVariants as item
use Rattle.eng_world.specs.World.{World}
use Rattle.eng_world.specs.Rebuilding.{OneRebuilds}
use Rattle.item_list.specs.ItemList.{ItemList}
use Rattle.eng_cols.specs.Stripes.{states_of}
use Rattle.eng_events.specs.Opened.{IsSetup}
use Rattle.eng_parts.specs.declared.setup.Setup.{Setup}
use Rattle.eng_parts.specs.declared.setup.Closed.{Closed}
use Rattle.eng_log.specs.Given.{items_in, items_at}
use Rattle.eng_array.specs.declared.start.Start.{Start}
use Rattle.raid_script.specs.Asked.{Other, seen}
use Rattle.top_close.specs.Ended as ended
use Rattle.top_close.specs.Reserved.{IsReserved}
use Rattle.top_serve.specs.Served as served
use Rattle.top_run.specs.Work.{Service}
use Rattle.top_run.specs.Works.{work_of}
use Rattle.top_run.specs.Ends.{EndsSo}
use Rattle.top_run.specs.Ran.{AsksAsScripts, ColumnsEnd}
use Rattle.top_run.specs.Steps.{IsStoppedBy}
use Rattle.top_run.proofs.Columns.{ending-dies}
use Rattle.top_run.proofs.Causing.{came, dead-by}

at-place : {A : Type 0} (l : List A) (k : ℕ) (x : A) → slice_get l k ≡ Some x → Contains l x
at-place l k x is = (k, slice_get_within l k x is, get_or_from_slice_get l k x x is)

-- the loss of before, or that of the columns in the end
pub loss-at-end : (y : Shape) (now : World) (before lost : Option Loss) (columns : List ColumnState) → now.lost ≡ before → ended.IsLossBy y before columns lost → ended.IsLossBy y now.lost columns lost
loss-at-end y now before lost columns is h = subst (λ (o : Option Loss). ended.IsLossBy y o columns lost) (sym is) h

-- an array that isn't lost in the end wasn't lost before it
pub not-before : (y : Shape) (before lost : Option Loss) (columns : List ColumnState) → ended.IsLossBy y before columns lost → lost ≡ None → before ≡ None
not-before y None lost columns h none = refl
not-before y (Some loss) lost columns h none = let z : Some loss ≡ None = sym h ∙ none in absurd (let u : ⊥ = cc in u)

-- those of labels and maps stand before the rows
before-rows : (n : ℕ) → 64 ≤ n → IsReserved true n → ⊥
before-rows n from (inl zero) = omega (arith, from, zero)
before-rows n from (inr one) = omega (arith, from, one)

module _ {L D : Type 0} (lay : LayoutGhosts L) (disk : DiskGhosts D) (setup : Setup L D) (how : Option Start) (closed : Closed L D) (given : IsSetup lay disk setup) (s : served.IsServed lay disk setup how closed) (v : Service) (back : List (Option D)) (e : EndsSo lay closed disk v back) where
  abbrev y : Shape
  y = lay.shape setup.layout

  pub lost-as : ended.IsLossBy y closed.lost (states_of y v.ending.columns) v.ending.lost
  lost-as = subst (λ l. ended.IsLossBy (lay.shape l) closed.lost (states_of (lay.shape l) v.ending.columns) v.ending.lost) s.tells.layout e.lost

  pub unlost : v.ending.lost ≡ None → closed.lost ≡ None
  unlost none = not-before y closed.lost v.ending.lost (states_of y v.ending.columns) lost-as none

  -- no sector of the rows changes at the end
  pub same-contents : disk.tells → (d n k : ℕ) → 64 ≤ n → contents_of disk back d n k ≡ contents_of disk closed.devices.items d n k
  same-contents tells d n k from = ap (λ (l : List ℕ). slice_index l k) (changes_sector disk (λ d n. IsReserved true n) closed.devices.items back d n e.frame tells (before-rows n from))

  stopped-by : (rebuild : Start) → served.IsStoppedBy lay disk setup how closed s.now rebuild → IsStoppedBy disk (work_of lay setup how) setup.devices.items v back s.now rebuild
  stopped-by rebuild (inl lost) = inl lost
  stopped-by rebuild (inr (k, rests, inl dead)) = inr (k, rests, inl dead)
  stopped-by rebuild (inr (k, rests, inr died)) = inr (k, rests, inr (dead-by lay disk setup how closed given s v back e k died))

  -- where each item is one that a script may have, client 16 alone has rebuilds
  one-rebuilds : AsksAsScripts (work_of lay setup how) → OneRebuilds s.now
  one-rebuilds asks id graph st at = elim (cases_eq id.client 16) [
    | inl e ↦ e
    | inr ne ↦ absurd (by (slice_get setup.clients.items id.client) refl (ap (λ (l : List Item). slice_get l id.index) (sym (s.rests.items id.client ne)) ∙ at))
  ]
    where
      by : (o : Option ItemList) → slice_get setup.clients.items id.client ≡ o → slice_get (items_at setup.clients.items id.client) id.index ≡ Some (item.Run (op.Rebuild st) graph) → ⊥
      by None is there = let z : None ≡ Some (item.Run (op.Rebuild st) graph) = ap (λ (o : Option ItemList). slice_get (items_in o) id.index) (sym is) ∙ there in let u : ⊥ = cc in u
      by (Some row) is there =
          let here : slice_get row.items id.index ≡ Some (item.Run (op.Rebuild st) graph) = ap (λ (o : Option ItemList). slice_get (items_in o) id.index) (sym is) ∙ there in
          asks (map seen row.items)
          (at-place (map (λ (items : ItemList). map seen items.items) setup.clients.items) id.client (map seen row.items)
          (slice_get-map (λ (items : ItemList). map seen items.items) setup.clients.items id.client ∙ ap (option_map (λ (items : ItemList). map seen items.items)) is))
          (at-place (map seen row.items) id.index Other (slice_get-map seen row.items id.index ∙ ap (option_map seen) here))

  pub columns-end : ColumnsEnd disk (work_of lay setup how) setup.devices.items v back s.now
  columns-end = record {
    kept = closed.columns.items;
    closes = s.tells.closes;
    count = s.causes.count;
    came = came lay disk setup how closed given s v back e;
    paused = λ none c d n most fills is. s.causes.paused (unlost none) c d n most fills is;
    far = λ none asks c d n most fills is alike. s.causes.far (unlost none) (one-rebuilds asks) c d n most fills is alike;
    stopped = λ rebuild is dead. stopped-by rebuild (s.causes.stopped rebuild is dead);
    dies = ending-dies lay disk setup how closed given s v back e;
    given_up = e.given_up;
    lost = loss-at-end y s.now closed.lost v.ending.lost (states_of y v.ending.columns) (sym s.tells.lost) lost-as;
  }

  -- the columns that it says were kept are those that came back
  pub ends-kept : columns-end.kept ≡ closed.columns.items
  unfolding columns-end
  ends-kept = refl
