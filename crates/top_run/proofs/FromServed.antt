-- What was served is a run of what was asked: its opening, its rest, what it tells and what it means.
use Rattle.std.proofs.Common.{◌≡◌, ◌≢◌, inl, inr, ℕ, zero, suc, ◌<◌, ◌≤◌, ◌+◌, ◌*◌, List, [], ◌∷◌, length, map, take, drop, get_or, Option, Some, None, refl, sym, ◌∙◌, ap, arith}
use Rattle.std.specs.Prelude.{Vec, slice_get, slice_index_or, sum_by}
use Rattle.std.specs.declared.alloc.Global.{Global}
use Rattle.std.proofs.lemmas.Bool.{cases_lt}
use Rattle.std.proofs.lemmas.List.{get_or_past, get_or-take, get_or-drop, take_all}
use Rattle.std.proofs.lemmas.Option.{slice_get_past, slice_get-get_or}
use Rattle.blk_plain.specs.declared.op.Op.TheVariants as op
use Rattle.blk_disk.specs.declared.disk.Disk.{Ghosts as DiskGhosts}
use Rattle.blk_disk.specs.Disk.{sector_at}
use Rattle.lay_core.specs.declared.layout.Layout.{Ghosts as LayoutGhosts}
use Rattle.graph_mean.specs.Graph.{Held, View}
use Rattle.eng_world.specs.declared.item.Item.{Item}
use Rattle.eng_world.specs.declared.item.Item.TheVariants as item
use Rattle.eng_world.specs.declared.item.Reply.{Reply}
use Rattle.eng_world.specs.declared.item.Reply.TheVariants as reply
use Rattle.item_list.specs.ItemList.{ItemList}
use Rattle.eng_rest.specs.Left.{below}
use Rattle.eng_log.specs.declared.region.Region.{Region}
use Rattle.eng_parts.specs.declared.setup.Setup.{Setup}
use Rattle.eng_parts.specs.declared.setup.Closed.{Closed}
use Rattle.eng_plan.specs.Asked.{no_graph}
use Rattle.eng_log.specs.Given.{items_in, items_at}
use Rattle.eng_log.specs.Handed.{handed_byte, region_at}
use Rattle.eng_log.specs.Laid as laid
use Rattle.eng_clients.specs.Replied.{replies_in}
use Rattle.eng_array.specs.declared.start.Start.{Start}
use Rattle.raid_script.specs.Asked.{seen}
use Rattle.raid_script.specs.Replies as told
use Rattle.raid_script.specs.Steps as pieces
use Rattle.top_bound.proofs.Below.{below-get, below-same}
use Rattle.top_bound.proofs.Limits.{sum-same, sectors-alike}
use Rattle.top_serve.specs.Setups.{graphs_in}
use Rattle.top_serve.specs.Served as served
use Rattle.top_run.specs.declared.service.Line.{Line}
use Rattle.top_run.specs.Work.{Work, Ending, Service}
use Rattle.top_run.specs.Works.{work_of, service_of}
use Rattle.top_run.specs.Ran.{told_byte, Opens, Rests, Tells}

-- ## Clients

abbrev Clients : Type 0
Clients = List ItemList

-- what a client asks, among all
asked-at : (given : Clients) (c : ℕ) → map seen (items_at given c) ≡ slice_index_or (map (λ (items : ItemList). map seen items.items) given) c []
asked-at [] c = refl
asked-at (items ∷ given) zero = refl
asked-at (items ∷ given) (suc c) = asked-at given c

-- clients with the same items ask the same
asked-same : (a b : Clients) → length a ≡ length b → ((c : ℕ) → items_at a c ≡ items_at b c) → map (λ (items : ItemList). map seen items.items) a ≡ map (λ (items : ItemList). map seen items.items) b
asked-same [] [] count same = refl
asked-same [] (y ∷ b) count same = absurd (omega (arith, count))
asked-same (x ∷ a) [] count same = absurd (omega (arith, count))
asked-same (x ∷ a) (y ∷ b) count same =
    let rest = asked-same a b (omega (arith, count)) (λ c. same (suc c)) in
    ap (λ l. map seen l ∷ map (λ (items : ItemList). map seen items.items) a) (same zero) ∙ ap (λ l. map seen y.items ∷ l) rest

items-alike : (o : Option ItemList) → pieces.items_in o ≡ items_in o
items-alike None = refl
items-alike (Some items) = refl

replies-alike : (o : Option (Vec Reply Global)) → pieces.replies_in o ≡ replies_in o
replies-alike None = refl
replies-alike (Some replies) = refl

-- the graph of this number
drawn-at : (held : List Held) (n : ℕ) (graph : View) → slice_get (map (λ (g : Held). g.drawn) held) n ≡ Some graph → (slice_index_or held n no_graph).drawn ≡ graph
drawn-at [] n graph is = let z : None ≡ Some graph = is in absurd (let u : ⊥ = cc in u)
drawn-at (g ∷ held) zero graph is = let z : Some g.drawn ≡ Some graph = is in cc
drawn-at (g ∷ held) (suc n) graph is = drawn-at held n graph is

-- ## Sectors

-- the sectors before a client go by what each client asks
before-same : (a b : Clients) → ((c : ℕ) → items_at a c ≡ items_at b c) → (c : ℕ) → laid.sectors_before a c ≡ laid.sectors_before b c
before-same a b same c = below-same (laid.row_sectors a) (laid.row_sectors b) c (λ k. ap (λ (items : List Item). below (laid.sectors_at items) (length items)) (same k))

item-alike : (i : Item) → told.item_sectors i ≡ laid.item_sectors i
item-alike (item.Run (op.Write span pattern) file) = refl
item-alike (item.Run (op.Writes patches) file) = refl
item-alike (item.Run (op.Read span) file) = refl
item-alike (item.Run (op.Rebuild stripe) file) = refl
item-alike (item.Run (op.Sync stripe) file) = refl
item-alike (item.Fail column) = refl

items-before : (items : List Item) (i : ℕ) → told.row_sectors (take i items) ≡ below (laid.sectors_at items) i
items-before items i = sum-same told.item_sectors laid.item_sectors (take i items) item-alike ∙ sym (below-get laid.sectors_in refl items i)

item-count : (items : List Item) (i : ℕ) → i < length items → told.item_sectors (slice_index_or items i told.no_item) ≡ laid.sectors_at items i
item-count items i within = item-alike (slice_index_or items i told.no_item) ∙ ap laid.sectors_in (sym (slice_get-get_or items i told.no_item within))

-- a byte of a sector
sector-byte : (bytes : List ℕ) (n k : ℕ) → k < 512 → get_or (sector_at bytes n) k 0 ≡ get_or bytes (512 * n + k) 0
unfolding sector_at
sector-byte bytes n k kb = get_or-take 512 (drop (512 * n) bytes) k 0 kb ∙ get_or-drop (512 * n) bytes k 0

-- and one of an item's, behind those of the clients and items before it
item-byte : (bytes : List ℕ) (items : List Item) (before i count j : ℕ) → j < 512 * count
    → get_or (told.item_bytes items (drop before bytes) i count) j 0 ≡ get_or bytes (before + (512 * told.row_sectors (take i items) + j)) 0
item-byte bytes items before i count j within =
    get_or-take (512 * count) (drop (512 * told.row_sectors (take i items)) (drop before bytes)) j 0 within
    ∙ (get_or-drop (512 * told.row_sectors (take i items)) (drop before bytes) j 0
    ∙ get_or-drop before bytes (512 * told.row_sectors (take i items) + j) 0)

module _ {L D : Type 0} (lay : LayoutGhosts L) (disk : DiskGhosts D) (setup : Setup L D) (how : Option Start) (closed : Closed L D) (few : length setup.clients.items ≤ 16) (s : served.IsServed lay disk setup how closed) (line : Option Line) (ending : Ending) where
  abbrev a : Work
  a = work_of lay setup how

  abbrev service : Service
  service = service_of closed line ending

  pub opens-from : Opens disk a setup.devices.items s.start
  opens-from = record {
    opening = s.opens.opening;
    columns = s.opens.columns;
    items = λ c. ap (map seen) (s.opens.items c) ∙ asked-at setup.clients.items c;
    failed = s.opens.failed;
    free = s.opens.free;
    contents = s.opens.contents;
    calls = s.opens.calls;
  }

  pub rests-from : Rests disk a setup.devices.items service (graphs_in setup) s.start s.events s.now
  rests-from = record {
    file = λ n graph is. drawn-at setup.graphs.items n graph is;
    drawn = λ t missing. refl;
    begins = s.rests.begins;
    run = s.rests.run;
    rebuilds = s.rests.rebuilds;
    alone = s.rests.alone;
    replied = s.rests.replied;
    out = s.rests.out;
  }

  told-items : (c : ℕ) → told.items_at closed.clients.items c ≡ items_at setup.clients.items c
  told-items c = items-alike (slice_get closed.clients.items c) ∙ s.tells.items c

  -- one of sixteen isn't the client that rebuilds
  not-last : (c : ℕ) → c < 16 → c ≢ 16
  not-last c lt is = omega (arith, lt, is)

  -- what is handed a block is one of sixteen
  is-client : (c i b : ℕ) → b < told.item_sectors (slice_index_or (told.items_at service.clients c) i told.no_item) → c < 16
  is-client c i b within = elim (cases_lt c 16) [
    | inl lt ↦ lt
    | inr past ↦
        let none = told-items c ∙ ap items_in (slice_get_past setup.clients.items c (omega (arith, few, past))) in
        let sectors : told.item_sectors (slice_index_or (told.items_at service.clients c) i told.no_item) ≡ 0 = ap (λ (l : List Item). told.item_sectors (slice_index_or l i told.no_item)) none in
        absurd (omega (arith, within, sectors))
  ]

  -- and so much for an item
  is-item : (c i b : ℕ) → b < told.item_sectors (slice_index_or (told.items_at service.clients c) i told.no_item) → i < length (items_at setup.clients.items c)
  is-item c i b within = elim (cases_lt i (length (items_at setup.clients.items c))) [
    | inl lt ↦ lt
    | inr past ↦
        let sectors : told.item_sectors (slice_index_or (told.items_at service.clients c) i told.no_item) ≡ 0 =
        ap (λ (l : List Item). told.item_sectors (slice_index_or l i told.no_item)) (told-items c) ∙ ap told.item_sectors (get_or_past (items_at setup.clients.items c) i told.no_item past) in
        absurd (omega (arith, within, sectors))
  ]

  -- the region of an item is as long as its read
  in-region : (c i b : ℕ) → b < told.item_sectors (slice_index_or (told.items_at service.clients c) i told.no_item) → b < (region_at (served.handed_in closed) c i).count
  in-region c i b within =
      let here = is-item c i b within in
      let count = ap (λ (r : Region). r.count) ((s.hands.rows c (is-client c i b within)).each i here) in
      let asked : told.item_sectors (slice_index_or (told.items_at closed.clients.items c) i told.no_item) ≡ laid.sectors_at (items_at setup.clients.items c) i =
      ap (λ (l : List Item). told.item_sectors (slice_index_or l i told.no_item)) (told-items c) ∙ item-count (items_at setup.clients.items c) i here in
      omega (arith, within, asked, count)

  -- a byte of it is the one that is told
  byte-at : (c i b k : ℕ) → b < told.item_sectors (slice_index_or (told.items_at service.clients c) i told.no_item) → k < 512 → handed_byte (served.handed_in closed) c i b k ≡ told_byte service c i b k
  byte-at c i b k within kb =
      let lt = is-client c i b within in
      let here = is-item c i b within in
      let items : List Item = items_at setup.clients.items c in
      let row = (s.hands.rows c lt).each i here in
      let first : (region_at (served.handed_in closed) c i).first ≡ laid.sectors_before setup.clients.items c + below (laid.sectors_at items) i = ap (λ (r : Region). r.first) row in
      let clients : told.sectors_before closed.clients.items c ≡ laid.sectors_before setup.clients.items c =
      sectors-alike closed.clients.items c ∙ before-same closed.clients.items setup.clients.items s.tells.items c in
      let behind : told.row_sectors (take i (told.items_at closed.clients.items c)) ≡ below (laid.sectors_at items) i =
      ap (λ (l : List Item). told.row_sectors (take i l)) (told-items c) ∙ items-before items i in
      let place : 512 * ((region_at (served.handed_in closed) c i).first + b) + k ≡ 512 * told.sectors_before closed.clients.items c + (512 * told.row_sectors (take i (told.items_at closed.clients.items c)) + (512 * b + k)) = omega (arith, first, clients, behind) in
      sector-byte closed.sectors ((region_at (served.handed_in closed) c i).first + b) k kb
      ∙ (ap (λ n. get_or closed.sectors n 0) place
      ∙ sym (item-byte closed.sectors (told.items_at closed.clients.items c) (512 * told.sectors_before closed.clients.items c) i (told.item_sectors (slice_index_or (told.items_at closed.clients.items c) i told.no_item)) (512 * b + k) (omega (arith, within, kb))))

  byte-from : disk.tells → (c i b k : ℕ) → slice_get (s.now.clients c).replies i ≡ Some reply.Data → b < told.item_sectors (slice_index_or (told.items_at service.clients c) i told.no_item) → k < 512 → (s.now.clients c).handed i b k ≡ told_byte service c i b k
  byte-from tells c i b k is within kb = s.hands.handed.read tells c i b k is (in-region c i b within) kb ∙ byte-at c i b k within kb

  zero-from : (c i b k : ℕ) → (slice_get (s.now.clients c).replies i ≡ Some reply.Data → ⊥) → b < told.item_sectors (slice_index_or (told.items_at service.clients c) i told.no_item) → k < 512 → told_byte service c i b k ≡ 0
  zero-from c i b k none within kb = sym (byte-at c i b k within kb) ∙ s.hands.handed.zeros c i b k none (in-region c i b within) kb

  replies-told : (c : ℕ) → c ≢ 16 → told.replies_at service.replies c ≡ (s.now.clients c).replies
  replies-told c other = replies-alike (slice_get closed.replies.items c) ∙ s.tells.replies c other

  items-told : (c : ℕ) → c ≢ 16 → told.items_at service.clients c ≡ (s.now.clients c).items
  items-told c other = told-items c ∙ sym (s.rests.items c other)

  -- there is a sector for each block that is read, and none else
  sectors-from : length service.sectors ≡ 512 * sum_by (λ (row : ItemList). told.row_sectors row.items) service.clients
  sectors-from =
      let count = s.tells.clients in
      let all : take 16 closed.clients.items ≡ closed.clients.items = take_all 16 closed.clients.items (omega (arith, few, count)) in
      let alike : told.sectors_before closed.clients.items 16 ≡ laid.sectors_before setup.clients.items 16 = sectors-alike closed.clients.items 16 ∙ before-same closed.clients.items setup.clients.items s.tells.items 16 in
      let whole : told.sectors_before closed.clients.items 16 ≡ sum_by (λ (row : ItemList). told.row_sectors row.items) closed.clients.items = ap (λ (l : List ItemList). sum_by (λ (row : ItemList). told.row_sectors row.items) l) all in
      s.hands.all ∙ ap (λ (n : ℕ). 512 * n) (sym alike ∙ whole)

  -- each item has its reply, and each block that is read its sector
  pub stands-from : told.StandFor service.clients service.replies service.sectors
  stands-from = record {
    clients_answered = let e = s.tells.rows in let f = s.tells.clients in omega (arith, e, f);
    items_answered = λ c lt.
        let most = s.tells.few in
        let other = not-last c (omega (arith, lt, most)) in
        ap (λ (l : List Reply). length l) (replies-told c other) ∙ (s.rests.replied c ∙ ap (λ (l : List Item). length l) (sym (items-told c other)));
    enough = let all = sectors-from in omega (arith, all);
  }

  pub tells-from : Tells disk a setup.devices.items service s.events s.now
  tells-from = record {
    asked = asked-same closed.clients.items setup.clients.items s.tells.clients s.tells.items;
    few = s.tells.few;
    items = items-told;
    rows = s.tells.rows ∙ sym s.tells.clients;
    replies = replies-told;
    history = s.tells.history;
    trace = s.tells.trace;
    stands = stands-from;
    sectors = sectors-from;
    handed = byte-from;
    zeros = zero-from;
  }
