-- A core that is opened is sound, and shows worlds that runs begin with.
use Rattle.std.proofs.Common.{◌≡◌, ℕ, zero, suc, ◌<◌, ◌+◌, ◌*◌, List, [], ◌∷◌, length, replicate, map, drop, get_or, subst, sym, ap, ◌∙◌, arith, inl, inr, refl, Bool, true, false, Option, Some, None}
use Rattle.std.specs.Prelude.{slice_get}
use Rattle.std.proofs.lemmas.Bool.{cases_lt, false≢true}
use Rattle.std.proofs.lemmas.List.{get_or_past, get_or-replicate, get_or-take, get_or-drop, length-replicate, length-map}
use Rattle.std.proofs.lemmas.Option.{slice_get-map, get_or_from_slice_get}
use Rattle.blk_disk.specs.declared.disk.Call.{Call}
use Rattle.blk_disk.specs.declared.disk.Disk.{Ghosts as DiskGhosts}
use Rattle.blk_disk.specs.Disk.{sector_at}
use Rattle.buf_pool.specs.Pool as pool
use Rattle.buf_pool.specs.Reserve.{IsStocked}
use Rattle.lay_core.specs.Layout.{Shape, IsLayout}
use Rattle.lay_core.specs.declared.layout.Layout.{Ghosts as LayoutGhosts}
use Rattle.eng_cols.specs.declared.column.Column.{Column}
use Rattle.eng_cols.specs.declared.spot.Loss.{Loss}
use Rattle.eng_cols.specs.Cols.{ColumnState, Columns, Dead, InOrder, IsFor, IsKept, is_filling, is_spread, passes, state_set}
use Rattle.eng_cols.specs.Stripes.{filled_in, states_of}
use Rattle.eng_cols.specs.Contents.{decode}
use Rattle.eng_cols.specs.Contents as contents
use Rattle.eng_cols.specs.Lost.{NotLost}
use Rattle.eng_world.specs.declared.item.Item.{Item}
use Rattle.eng_world.specs.declared.item.Reply.{Reply}
use Rattle.eng_world.specs.declared.item.Reply.TheVariants as reply
use Rattle.eng_world.specs.World.{World, Nothing as Idles}
use Rattle.eng_world.specs.Step.{IsOpening}
use Rattle.item_list.specs.ItemList.{ItemList}
use Rattle.eng_parts.specs.declared.setup.Setup.{Setup}
use Rattle.eng_clients.specs.declared.stage.Stage.{Stage}
use Rattle.eng_clients.specs.declared.stage.Stage.TheVariants.{Nothing}
use Rattle.eng_state.specs.declared.array.Array.{Array}
use Rattle.eng_parts.specs.Shelf.{Seen, Shelved, seen_at, has_failed}
use Rattle.eng_clients.specs.Desk.{Desk, desk_at}
use Rattle.eng_log.specs.Log.{Logged}
use Rattle.eng_state.specs.Beginning.{AllAsked}
use Rattle.eng_parts.specs.Brought.{brought}
use Rattle.stripe_lock.specs.Table.{Table, IsIdle}
use Rattle.eng_parts.specs.declared.core_room.CoreRoom.{CoreRoom}
use Rattle.eng_log.specs.Given.{items_at}
use Rattle.eng_events.specs.Opened.{IsAssembled, IsSetup, IsOpened, NoneOut, HandsOutNothing, OpensWorlds}
use Rattle.eng_log.specs.Handed.{region_at}
use Rattle.eng_log.specs.Laid.{IsLaidOut, sectors_before}
use Rattle.eng_state.specs.Serves.{Stands}
use Rattle.eng_state.specs.Shows.{Shows, ShowsCurrent, AreTold, told_by, device_byte}
use Rattle.eng_state.specs.Sound.{IsSound, Seated}
use Rattle.eng_events.proofs.OpeningDesks as desks
use Rattle.eng_clients.specs.Replied.{told_of}
use Rattle.graph_mean.specs.Graph.{Held}
use Rattle.eng_parts.specs.Fresh.{fresh_log, stocked, IsRoomFor}

-- ## Devices that are brought in

-- none is out
never-out : {D : Type 0} (ds : List (Option D)) (k : ℕ) (x : D) → get_or (map brought ds) k None ≡ Some (record { out = true; device = x }) → ⊥
never-out [] k x h = let z : None ≡ Some (record { out = true; device = x }) = sym (get_or_past [] k None (omega arith)) ∙ h in let u : ⊥ = cc in u
never-out (None ∷ ds) zero x h = let z : None ≡ Some (record { out = true; device = x }) = h in let u : ⊥ = cc in u
never-out {D} (Some d ∷ ds) zero x h =
    let z : Some (record { out = false; device = d }) ≡ Some (record { out = true; device = x }) = h in
    false≢true (ap (λ (o : Option (Seen D)). is-out o) z)
  where
    is-out : {D : Type 0} → Option (Seen D) → Bool
    is-out None = true
    is-out (Some s) = s.out
never-out (d ∷ ds) (suc k) x h = never-out ds k x h

-- one that was there is there
brought-at : {D : Type 0} (ds : List (Option D)) (k : ℕ) (x : D) → slice_get ds k ≡ Some (Some x) → get_or (map brought ds) k None ≡ Some (record { out = false; device = x })
brought-at ds k x h = get_or_from_slice_get (map brought ds) k (Some (record { out = false; device = x })) None (slice_get-map brought ds k ∙ ap mapped h)
  where
    mapped : {D : Type 0} → Option (Option D) → Option (Option (Seen D))
    mapped None = None
    mapped (Some o) = Some (brought o)

-- none has failed
unfailed-at : (n k : ℕ) → get_or (replicate n false) k false ≡ false
unfailed-at n k = elim (cases_lt k n) [
  | inl lt ↦ get_or-replicate n k false false lt
  | inr ge ↦ get_or_past (replicate n false) k false (let e = length-replicate n false in omega (arith, e, ge))
]

-- ## Bytes that are zero

zeros-at : (n k : ℕ) → get_or (replicate n zero) k zero ≡ zero
zeros-at n k = elim (cases_lt k n) [
  | inl lt ↦ get_or-replicate n k zero zero lt
  | inr ge ↦ get_or_past (replicate n zero) k zero (let e = length-replicate n zero in omega (arith, e, ge))
]

-- each byte of a sector of theirs is
zero-sector : (bytes : List ℕ) (n m k : ℕ) → bytes ≡ replicate n 0 → k < 512 → get_or (sector_at bytes m) k 0 ≡ 0
unfolding sector_at
zero-sector bytes n m k zeros kb =
    get_or-take 512 (drop (512 * m) bytes) k 0 kb
    ∙ (get_or-drop (512 * m) bytes k 0
    ∙ (ap (λ (l : List ℕ). get_or l (512 * m + k) 0) zeros ∙ zeros-at n (512 * m + k)))

-- ## The calls that are told

abbrev told : Option (List Call) → List Call
told None = []
told (Some calls) = calls

are-told : {D : Type 0} (disk : DiskGhosts D) (o : Option (List Call)) → AreTold disk o (told o)
are-told disk None = tt
are-told disk (Some calls) = refl

module _ {L D : Type 0} (lay : LayoutGhosts L) (disk : DiskGhosts D) (setup : Setup L D) (core : Array L D) (layout : IsLayout (lay.shape setup.layout)) (can : IsSetup lay disk setup) (o : IsOpened lay disk setup core) (kept-now : IsKept core.cols) (not_lost : NotLost (lay.shape setup.layout) (states_of (lay.shape setup.layout) setup.columns.items)) where
  abbrev y : Shape
  y = lay.shape setup.layout

  abbrev cols : Columns
  cols = record { states = states_of y setup.columns.items; stripes = y.stripes }

  abbrev shelf : Shelved D
  shelf = record { slots = map brought setup.devices.items; failed = replicate (length setup.devices.items) false }

  -- the core, with layout, columns and devices in the setup's words
  abbrev plain : Array L D
  plain = record core { layout = setup.layout; cols = cols; devices = shelf }

  to-core : (P : Array L D → Type 0) → P plain → P core
  to-core P h = subst (λ (l : L). P (record core { layout = l })) (sym o.layout) (subst (λ (v : Columns). P (record core { layout = setup.layout; cols = v })) (sym o.cols) (subst (λ (s : Shelved D). P (record core { layout = setup.layout; cols = cols; devices = s })) (sym o.devices) h))

  abbrev asked-of : ℕ → List Item
  asked-of c = items_at setup.clients.items c

  kept : IsKept cols
  kept = subst IsKept o.cols kept-now

  order : InOrder cols.states
  order = record {
    one_column = can.one_column;
    one_filling = λ c k d e done other h j. kept.one_filling c k (ap (passes is_filling) h) (ap (passes is_filling) j);
    one_spread = λ c k done other h j. kept.one_spread c k (ap (passes is_spread) h) (ap (passes is_spread) j);
  }

  fit : IsFor y cols
  fit = record { columns = length-map setup.columns.items (state_set y.stripes (filled_in y setup.columns.items)) ∙ can.entries; stripes = refl }

  seated : Seated disk y cols shelf
  seated = record {
    fit = fit;
    kept = kept;
    order = order;
    long = length-replicate (length setup.devices.items) false ∙ sym (length-map setup.devices.items brought);
    there = λ c device h. let t = can.there c device h in (record { out = false; device = t.0 }, brought-at setup.devices.items device t.0 t.1, t.2);
    unfailed = λ c device h. unfailed-at (length setup.devices.items) device;
  }

  abbrev idle : (c : ℕ) → (desk_at core.clients c).stage ≡ Nothing
  idle = desks.idle core.clients asked-of o.count o.clients

  pub opened-none-out : NoneOut core.clients
  opened-none-out = desks.none-out core.clients asked-of o.count o.clients

  plain-sound : IsSound lay disk plain
  plain-sound = record {
    layout = layout;
    seated = seated;
    unit = o.unit;
    well = desks.are-well core.clients asked-of o.count o.clients y core.graphs.items core.pool;
    devices = record {
      away = λ c n device h. absurd (opened-none-out c n h.out);
      held = λ device x away. absurd (never-out setup.devices.items device x away);
      one = λ c k n m device h. absurd (opened-none-out c n h.out);
      placed = λ c n out. absurd (opened-none-out c n out);
      unplaced = λ c n out. absurd (opened-none-out c n out);
    };
    seats = desks.seats-out core.clients asked-of o.count o.clients core.pool;
    locked = desks.locked core.clients asked-of o.count o.clients core.locks o.locks;
    jobs = let none = desks.no-sum core.clients asked-of o.count o.clients in let lists = o.lists in omega (arith, none, lists);
  }

  pub opened-sound : IsSound lay disk core
  opened-sound = to-core (IsSound lay disk) plain-sound

  pub opened-asked : AllAsked lay core
  opened-asked = to-core (AllAsked lay) (λ c n i h. (can.asked c n i (desks.item-of core.clients asked-of o.count o.clients c n i h)).0)

  pub opened-stands : Stands lay core
  opened-stands = to-core (Stands lay) (record {
    kept = λ none. not_lost;
    serves = λ c. record { busy = λ ne. absurd (ne (idle c)); runs = λ r. absurd (desks.not-runs core.clients asked-of o.count o.clients c r) };
  })

  -- ## Worlds

  replies-none : (c : ℕ) (rs : List Reply) → rs ≡ told_of core.lost (desk_at core.clients c).items (desk_at core.clients c).replies → rs ≡ []
  replies-none c rs h = h ∙ (ap (λ (l : Option Loss). told_of l (desk_at core.clients c).items (desk_at core.clients c).replies) o.lost ∙ desks.unreplied core.clients asked-of o.count o.clients c)

  each : (w : World) → Shows disk plain w → HandsOutNothing w → contents.SameBlocks y w.blocks (decode y w.contents w.columns) → IsOpening y w
  each w s nothing blocks = record {
    unbegun = λ c. (
      replies-none c (w.clients c).replies (s.clients c).replies,
      subst (λ (t : Stage). ShowsCurrent disk.tells core.pool t (desk_at core.clients c) (w.clients c).current) (idle c) (s.clients c).current,
    );
    asked = λ c n i h. (can.asked c n i (desks.item-of core.clients asked-of o.count o.clients c n i (sym (ap (λ (l : List Item). slice_get l n) (s.clients c).items) ∙ h))).1;
    handed = nothing;
    count = ap length s.columns ∙ fit.columns;
    done = record {
      filled = λ c d done h. kept.filled c d done (sym (ap (λ (l : List ColumnState). slice_get l c) s.columns) ∙ h);
      spread = λ c done h. kept.spread c done (sym (ap (λ (l : List ColumnState). slice_get l c) s.columns) ∙ h);
    };
    order = subst InOrder (sym s.columns) order;
    unfailed = λ c d h. s.failed d ∙ unfailed-at (length setup.devices.items) d;
    not_lost = subst (NotLost y) (sym s.columns) not_lost;
    lost = s.lost ∙ o.lost;
    history = s.history ∙ ap (λ (l : Logged). l.history) o.log;
    out = let all = s.out in let lists = o.lists in omega (arith, all, lists);
    rebuilt = s.rebuilt ∙ ap (λ (l : Logged). l.rebuilt) o.log;
    decoded = blocks;
  }

  abbrev holds : ℕ → ℕ → ℕ → ℕ
  holds d n k = device_byte disk (seen_at shelf d) n k

  abbrev w : World
  w = record {
    contents = holds;
    failed = has_failed shelf;
    calls = λ d. told (told_by disk (seen_at shelf d));
    columns = cols.states;
    clients = λ c. record { items = (desk_at core.clients c).items; replies = []; handed = λ i b k. 0; current = Idles };
    free = length core.pool.free;
    out = 0;
    rebuilt = core.log.rebuilt;
    blocks = decode y holds cols.states;
    history = core.log.history;
    lost = core.lost;
  }

  shows : Shows disk plain w
  shows = record {
    contents = λ tells d n k lt. refl;
    failed = λ d. refl;
    calls = λ d. are-told disk (told_by disk (seen_at shelf d));
    columns = refl;
    clients = λ c. record {
      items = refl;
      replies = sym (replies-none c (told_of core.lost (desk_at core.clients c).items (desk_at core.clients c).replies) refl);
      current = subst (λ (t : Stage). ShowsCurrent disk.tells core.pool t (desk_at core.clients c) Idles) (sym (idle c)) refl;
    };
    free = refl;
    out = let lists = o.lists in omega (arith, lists);
    rebuilt = refl;
    history = refl;
    lost = refl;
    handed = record {
      read = λ tells c i b k got. let z : None ≡ Some reply.Data = got in absurd (let u : ⊥ = cc in u);
      zeros = λ c i b k none lt kb. zero-sector core.log.handed.bytes (512 * sectors_before setup.clients.items 16) ((region_at core.log.handed c i).first + b) k o.laid.bytes kb;
    };
  }

  pub opened-worlds : OpensWorlds lay disk core
  opened-worlds = to-core (OpensWorlds lay disk) (record { each = each; one = (w, shows, each w shows (λ c i b k. refl) (λ b k lt h. refl)) })

-- ## A core that is put together in room that was taken for it

-- the columns that are set are the setup's
pub columns-set : {D : Type 0} (y : Shape) (n : ℕ) (given : List ItemList) (graphs : List Held) (trace : Bool) (room ready : CoreRoom D) (columns : List Column) → IsRoomFor y n given graphs trace room → ready ≡ record room { cols = record room.cols { states = states_of y columns } } → ready.cols ≡ record { states = states_of y columns; stripes = y.stripes }
columns-set {D} y n given graphs trace room ready columns room-for set = ap (λ (r : CoreRoom D). r.cols) set ∙ ap (λ (v : Columns). record v { states = states_of y columns }) room-for.cols

-- columns are as many as the layout's, and so are the stripes
pub set-fit : (y : Shape) (columns : List Column) (v : Columns) → v ≡ record { states = states_of y columns; stripes = y.stripes } → length columns ≡ y.columns → IsFor y v
set-fit y columns v is count = record { columns = ap (λ (a : Columns). length a.states) is ∙ (length-map columns (state_set y.stripes (filled_in y columns)) ∙ count); stripes = ap (λ (a : Columns). a.stripes) is }

pub room-fit : {D : Type 0} (y : Shape) (n : ℕ) (given : List ItemList) (graphs : List Held) (trace : Bool) (room : CoreRoom D) → IsRoomFor y n given graphs trace room → IsFor y room.cols
room-fit y n given graphs trace room room-for = record { columns = ap (λ (a : Columns). length a.states) room-for.cols ∙ length-replicate y.columns Dead; stripes = ap (λ (a : Columns). a.stripes) room-for.cols }

module _ {L D : Type 0} (lay : LayoutGhosts L) (disk : DiskGhosts D) (setup : Setup L D) (room ready : CoreRoom D) (core : Array L D) (room-for : IsRoomFor (lay.shape setup.layout) (length setup.devices.items) setup.clients.items setup.graphs.items setup.trace room)
    (set : ready ≡ record room { cols = record room.cols { states = states_of (lay.shape setup.layout) setup.columns.items } }) (a : IsAssembled lay disk setup ready core) where
  pub assembled-opened : IsOpened lay disk setup core
  assembled-opened = record {
    layout = a.layout;
    graphs = a.graphs;
    cols = a.cols ∙ columns-set (lay.shape setup.layout) (length setup.devices.items) setup.clients.items setup.graphs.items setup.trace room ready setup.columns.items room-for set;
    devices = a.devices;
    count = a.count;
    clients = a.clients;
    unit = ap (λ (p : pool.PoolView). p.unit) (a.pool ∙ ap (λ (r : CoreRoom D). r.pool) set) ∙ room-for.unit;
    pool = subst (λ (p : pool.PoolView). IsStocked p (stocked (lay.shape setup.layout) setup.graphs.items setup.clients.items)) (sym (a.pool ∙ ap (λ (r : CoreRoom D). r.pool) set)) room-for.pool;
    locks = subst (λ (t : Table). IsIdle t 17) (sym (a.locks ∙ ap (λ (r : CoreRoom D). r.locks) set)) room-for.locks;
    lists = a.lists ∙ (ap (λ (r : CoreRoom D). r.lists) set ∙ room-for.lists);
    log = subst (λ (l : Logged). l ≡ fresh_log (lay.shape setup.layout) setup.trace l.handed) (sym (a.log ∙ ap (λ (r : CoreRoom D). r.log) set)) room-for.log;
    laid = subst (λ (l : Logged). IsLaidOut setup.clients.items (lay.shape setup.layout).stripes l.handed) (sym (a.log ∙ ap (λ (r : CoreRoom D). r.log) set)) room-for.laid;
    rebuilds = a.rebuilds ∙ (ap (λ (r : CoreRoom D). r.rebuilds) set ∙ room-for.rebuilds);
    spare = a.spare ∙ (ap (λ (r : CoreRoom D). r.spare) set ∙ room-for.spare);
    lost = a.lost;
  }

  -- what is so of the core by all that was set
  pub cols-kept : IsKept ready.cols → IsKept core.cols
  cols-kept k = subst IsKept (sym a.cols) k
