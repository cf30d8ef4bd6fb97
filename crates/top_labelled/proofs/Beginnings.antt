-- What is asked of an array as it is begun, and what is said of it then.
use Rattle.std.proofs.Common.{◌≡◌, ◌∙◌, ℕ, List, length, get_or, Bool, true, false, Option, sym, ap, subst}
use Rattle.std.specs.Prelude.{All, slice_get}
use Rattle.std.proofs.lemmas.List.{length-replicate}
use Rattle.std.proofs.lemmas.Option.{slice_get-get_or}
use Rattle.blk_disk.specs.declared.disk.Disk.{Ghosts as DiskGhosts}
use Rattle.blk_plain.specs.declared.op.Op.{Op}
use Rattle.blk_plain.specs.declared.op.Op.TheVariants as op
use Rattle.lay_core.specs.Layout.{IsLayout, Shape}
use Rattle.lay_core.specs.declared.layout.Layout.{Ghosts as LayoutGhosts}
use Rattle.eng_cols.specs.declared.column.Column.{Column}
use Rattle.eng_cols.specs.declared.spot.Loss.{Loss}
use Rattle.eng_cols.specs.Cols.{IsFor}
use Rattle.eng_events.specs.Opened.{IsSetup}
use Rattle.eng_log.specs.Given.{items_in}
use Rattle.eng_parts.specs.declared.setup.Setup.{Setup}
use Rattle.eng_plan.specs.Asked.{HasBlocks}
use Rattle.eng_state.specs.Beginning.{IsAsked}
use Rattle.eng_world.specs.declared.item.Item.{Item}
use Rattle.eng_world.specs.declared.item.Item.TheVariants as item
use Rattle.item_list.specs.ItemList.{ItemList}
use Rattle.raid_map.specs.Asking.{HasSpans, IsSpanned, file_of}
use Rattle.raid_map.specs.Reading.{Grows}
use Rattle.raid_map.specs.Regions.{Marks as Map, regions_in}
use Rattle.top_acts.specs.Begun.{CanAct}
use Rattle.top_acts.specs.Mapped.{AreMaps, LooksAtMaps, unmarked}
use Rattle.top_rounds.specs.Labels.{IsLabelFor}
use Rattle.raid_label.specs.declared.label.Label.{Label}
use Rattle.top_serve.specs.Setups.{shape_in}
use Rattle.top_labelled.specs.declared.labelled.Labelled.{Labelled}
use Rattle.top_labelled.specs.declared.beginning.Started.{Started}
use Rattle.top_labelled.specs.Begun.{is_in_place, is_kept}
use Rattle.top_labelled.specs.Words.{notice_in, writes_maps, MarksAsked}
use Rattle.top_labelled.specs.Between.{HasOpened, IsBegun}
use Rattle.top_labelled.specs.Given.{CanRunLabelled}
use Rattle.top_labelled.specs.Ran.{onto}
use Rattle.top_labelled.proofs.Arrays.{array-of, settable-of}

-- ## What is asked

has-spans : (o : Op) → HasBlocks o → HasSpans o
has-spans (op.Write span pattern) h = h
has-spans (op.Writes patches) h = h
has-spans (op.Read span) h = h
has-spans (op.Rebuild stripe) h = tt
has-spans (op.Sync stripe) h = tt

is-spanned : (y : Shape) (i : Item) → IsAsked y i → IsSpanned i
is-spanned y (item.Run o graph) h = has-spans o h
is-spanned y (item.Fail column) h = tt

-- the spans of all items have blocks
pub all-spanned : {L D : Type 0} (lay : LayoutGhosts L) (disk : DiskGhosts D) (setup : Setup L D) → IsSetup lay disk setup → All (λ (v : ItemList). All IsSpanned v.items) setup.clients.items
all-spanned lay disk setup given c none within n other below =
    let items = get_or setup.clients.items c none in
    let asked = get_or items.items n other in
    let at = ap items_in (slice_get-get_or setup.clients.items c none within) in
    is-spanned (shape_in lay setup) asked (given.asked c n asked (ap (λ (is : List Item). slice_get is n) at ∙ slice_get-get_or items.items n other below)).0

-- a label is for columns of which some died
pub label-read : (columns read : List Column) (label : Label) → length read ≡ length columns → IsLabelFor columns label → IsLabelFor read label
label-read columns read label same held = record { held = held.held; count = held.count ∙ sym same }

-- ## The maps

-- what grew from a map without marks has a mark for each region
pub grown-whole : (stripes serial : ℕ) (old new : Map) → old ≡ unmarked stripes serial → Grows old new → length new.marks ≡ regions_in new.stripes
grown-whole stripes serial old new is grows =
    grows.count ∙ (ap (λ (m : Map). length m.marks) is ∙ (length-replicate (regions_in stripes) false ∙ ap regions_in (sym (grows.stripes ∙ ap (λ (m : Map). m.stripes) is))))

-- ## The beginning

module _ {L D : Type 0} (lay : LayoutGhosts L) (disk : DiskGhosts D) where
  pub can-act : (l : Labelled L D) → CanRunLabelled lay disk l → (lent : List (Option D)) → lent ≡ l.setup.devices.items → CanAct disk (shape_in lay l.setup) l.setup.columns.items lent
  can-act l can lent is = subst (λ (ds : List (Option D)). CanAct disk (shape_in lay l.setup) l.setup.columns.items ds) (sym is)
      (record { array = array-of lay disk l.setup can.setup; labels = can.array; settable = settable-of lay disk l.setup can.setup })

  -- What is said of the opening, with the devices in their vector: which maps were read and marked, whether one is kept, and whether the rebuild was in place.
  module _ (l : Labelled L D) (b : Started L D) (lent looked new : List (Option D)) (read : List Column) (unread : Option Loss) (before blank seen marks : Map) (keeps was : Bool) (lent-is : lent ≡ l.setup.devices.items) (new-is : b.setup.devices.items ≡ new)
      (before-is : before ≡ unmarked (shape_in lay l.setup).stripes l.label.serial) (blank-is : blank ≡ unmarked (shape_in lay l.setup).stripes l.label.serial) (union-is : b.maps.union ≡ seen) (marks-is : b.maps.marks ≡ marks)
      (keeps-is : keeps ≡ is_kept l.map l.label) (was-is : was ≡ is_in_place l.start l.setup.columns.items) where
    abbrev y : Shape
    y = shape_in lay l.setup

    abbrev columns : List Column
    columns = l.setup.columns.items

    abbrev Looks : Map → Map → List (Option D) → Type 0
    Looks from union ds = LooksAtMaps disk y from union columns read ds looked unread

    abbrev Marked : Map → Map → Map → Type 0
    Marked union from map = MarksAsked y (file_of l.setup.graphs.items) l.setup.clients.items read l.start union from map

    abbrev Opens : Bool → Bool → Map → Map → List (Option D) → Type 0
    Opens is kept map union ds =
        HasOpened disk y (record { start = l.start; failed = l.failed; was_in_place = is; keeps = kept }) (notice_in kept map) union unread l.label b.label read b.setup.columns.items looked ds b.lost b.began

    looks-so : Looks before seen lent → Looks (unmarked y.stripes l.label.serial) b.maps.union l.setup.devices.items
    looks-so h = subst (λ (m : Map). Looks (unmarked y.stripes l.label.serial) m l.setup.devices.items) (sym union-is) (subst (λ (m : Map). Looks m seen l.setup.devices.items) before-is (subst (Looks before seen) lent-is h))

    marked-so : (keeps ≡ true → Marked seen blank marks) → is_kept l.map l.label ≡ true → Marked b.maps.union (unmarked y.stripes l.label.serial) b.maps.marks
    marked-so h kept =
        subst (λ (m : Map). Marked b.maps.union (unmarked y.stripes l.label.serial) m) (sym marks-is)
        (subst (λ (m : Map). Marked m (unmarked y.stripes l.label.serial) marks) (sym union-is)
        (subst (λ (m : Map). Marked seen m marks) blank-is (h (keeps-is ∙ kept))))

    opens-so : Opens was keeps marks seen new → Opens (is_in_place l.start columns) (is_kept l.map l.label) b.maps.marks b.maps.union b.setup.devices.items
    opens-so h =
        subst (Opens (is_in_place l.start columns) (is_kept l.map l.label) b.maps.marks b.maps.union) (sym new-is)
        (subst (λ (m : Map). Opens (is_in_place l.start columns) (is_kept l.map l.label) b.maps.marks m new) (sym union-is)
        (subst (λ (m : Map). Opens (is_in_place l.start columns) (is_kept l.map l.label) m seen new) (sym marks-is)
        (subst (λ (k : Bool). Opens (is_in_place l.start columns) k marks seen new) keeps-is
        (subst (λ (k : Bool). Opens k keeps marks seen new) was-is h))))

    pub begun-so : b.setup ≡ record l.setup { devices = b.setup.devices; columns = b.setup.columns } → b.asked ≡ l.start → b.device ≡ onto l.start columns
        → Looks before seen lent → (keeps ≡ true → Marked seen blank marks) → marks.serial ≡ blank.serial → Opens was keeps marks seen new → b.clears ≡ writes_maps keeps seen
        → AreMaps y b.maps → CanAct disk y b.setup.columns.items new → IsLabelFor b.setup.columns.items b.label → IsFor y b.judge → IsLayout y → IsBegun lay disk l b
    begun-so setup asked device looks marked serial opens clears maps can held judge layout = record {
      setup = setup;
      looked = looked;
      read = read;
      unread = unread;
      looks = looks-so looks;
      marked = marked-so marked;
      opens = opens-so opens;
      clears = clears ∙ (ap (λ (k : Bool). writes_maps k seen) keeps-is ∙ ap (writes_maps (is_kept l.map l.label)) (sym union-is));
      maps = maps;
      can = subst (λ (ds : List (Option D)). CanAct disk y b.setup.columns.items ds) (sym new-is) can;
      held = held;
      judge = judge;
      layout = layout;
      asked = asked;
      device = device;
      serial = ap (λ (m : Map). m.serial) marks-is ∙ (serial ∙ ap (λ (m : Map). m.serial) blank-is);
    }
