-- A script within its limits is one that a core has room for, and graphs that were read fit its pool.
use Rattle.std.proofs.Common.{◌≡◌, ◌∙◌, ℕ, ◌+◌, ◌<◌, ◌≤◌, inl, inr, List, [], ◌∷◌, length, map, take, get_or, refl, sym, ap, subst, arith}
use Rattle.std.specs.Prelude.{All, ◌++◌, Bool, true, false, if◌then◌else◌, nat_le, Option, Some, None, slice_get, slice_index_or, sum_by, option_map}
use Rattle.std.proofs.lemmas.Bool.{cases_lt}
use Rattle.std.proofs.lemmas.List.{take_all, get_or-map, get_or_past, length-map}
use Rattle.std.proofs.lemmas.List.Elements.{All-append, All-map}
use Rattle.std.proofs.lemmas.Option.{slice_get-get_or, slice_get-map, slice_get_cases}
use Rattle.std.proofs.lemmas.List.Sums.{sum_by-cons}
use Rattle.blk_plain.specs.declared.op.Op.TheVariants.{Write, Writes, Read, Rebuild, Sync}
use Rattle.blk_plain.specs.declared.op.Patches.{Patches}
use Rattle.graph_mean.specs.Graph.{Held, View}
use Rattle.graph_text.specs.Format.{Named}
use Rattle.graph_text.specs.FormatForm.{AreGraphs}
use Rattle.eng_world.specs.declared.item.Item.{Item}
use Rattle.eng_world.specs.declared.item.Item.TheVariants.{Run, Fail}
use Rattle.item_list.specs.ItemList.{ItemList}
use Rattle.eng_plan.specs.Asked.{no_graph}
use Rattle.eng_log.specs.Given.{items_at}
use Rattle.eng_log.specs.Laid as laid
use Rattle.raid_script.specs.Asked.{Asked, AreFew, Other, WritesAll, seen, read_sectors}
use Rattle.raid_script.specs.Steps.{seen_patches}
use Rattle.raid_script.specs.Replies as replies
use Rattle.top_bound.specs.Laws.{asked_of, HasRoomFor, IsSmall}
use Rattle.top_bound.proofs.Below.{below-all, below-clients, below-same}

-- ## Sums that agree at each place

pub sum-same : {X : Type 0} (f g : X → ℕ) (xs : List X) → ((x : X) → f x ≡ g x) → sum_by f xs ≡ sum_by g xs
sum-same f g [] same = refl
sum-same f g (x ∷ xs) same =
    let here = same x in
    let rest = sum-same f g xs same in
    let both : f x + sum_by f xs ≡ g x + sum_by g xs = omega (arith, here, rest) in
    sum_by-cons f x xs ∙ (both ∙ sym (sum_by-cons g x xs))

pub sum-map : {X Y : Type 0} (f : Y → ℕ) (g : X → Y) (xs : List X) → sum_by f (map g xs) ≡ sum_by (λ x. f (g x)) xs
sum-map f g [] = refl
sum-map {X} f g (x ∷ xs) =
    sum_by-cons f (g x) (map g xs) ∙ (ap (λ k. f (g x) + k) (sum-map f g xs) ∙ sym (sum_by-cons (λ (y : X). f (g y)) x xs))

-- ## Sectors

none-read : (patches : Patches) (file : Option ℕ) (few : Bool) → read_sectors (if few then WritesAll (seen_patches patches) file else Other) ≡ 0
none-read patches file true = refl
none-read patches file false = refl

-- how many sectors an item reads, as a script, a printer and a core say it
item-read : (i : Item) → read_sectors (seen i) ≡ laid.item_sectors i
item-read (Run (Write span pattern) file) = refl
item-read (Run (Writes patches) file) = none-read patches file (nat_le patches.used 8)
item-read (Run (Read span) file) = refl
item-read (Run (Rebuild stripe) None) = refl
item-read (Run (Rebuild stripe) (Some g)) = refl
item-read (Run (Sync stripe) None) = refl
item-read (Run (Sync stripe) (Some g)) = refl
item-read (Fail column) = refl

item-printed : (i : Item) → replies.item_sectors i ≡ laid.item_sectors i
item-printed (Run (Write span pattern) file) = refl
item-printed (Run (Writes patches) file) = refl
item-printed (Run (Read span) file) = refl
item-printed (Run (Rebuild stripe) file) = refl
item-printed (Run (Sync stripe) file) = refl
item-printed (Fail column) = refl

-- the sectors of the clients before this one, client by client and item by item
laid-is : (given : List ItemList) (c : ℕ) → laid.sectors_before given c ≡ sum_by (λ (row : ItemList). sum_by laid.item_sectors row.items) (take c given)
laid-is given c =
    below-same (laid.row_sectors given) (λ k. sum_by laid.item_sectors (items_at given k)) c (λ k. below-all laid.sectors_in (items_at given k))
    ∙ below-clients (λ items. sum_by laid.item_sectors items) refl given c

pub sectors-alike : (given : List ItemList) (c : ℕ) → replies.sectors_before given c ≡ laid.sectors_before given c
sectors-alike given c =
    sum-same (λ (row : ItemList). replies.row_sectors row.items) (λ (row : ItemList). sum_by laid.item_sectors row.items) (take c given)
    (λ row. sum-same replies.item_sectors laid.item_sectors row.items item-printed)
    ∙ sym (laid-is given c)

-- ## Limits

counted : (given : List ItemList) → sum_by (λ items. length items) (asked_of given) ≡ sum_by (λ (row : ItemList). length row.items) given
counted given =
    sum-map (λ (items : List Asked). length items) (λ (row : ItemList). map seen row.items) given
    ∙ sum-same (λ (row : ItemList). length (map seen row.items)) (λ (row : ItemList). length row.items) given (λ row. length-map row.items seen)

read-in-all : (given : List ItemList) → sum_by (λ items. sum_by read_sectors items) (asked_of given) ≡ sum_by (λ (row : ItemList). sum_by laid.item_sectors row.items) given
read-in-all given =
    sum-map (λ (items : List Asked). sum_by read_sectors items) (λ (row : ItemList). map seen row.items) given
    ∙ sum-same (λ (row : ItemList). sum_by read_sectors (map seen row.items)) (λ (row : ItemList). sum_by laid.item_sectors row.items) given
    (λ row. sum-map read_sectors seen row.items ∙ sum-same (λ i. read_sectors (seen i)) laid.item_sectors row.items item-read)

pub few-have-room : (given : List ItemList) → AreFew (asked_of given) → HasRoomFor given
few-have-room given few =
    let clients : length given ≤ 16 = subst (λ (n : ℕ). n ≤ 16) (length-map given (λ (row : ItemList). map seen row.items)) few.clients in
    let all : take 16 given ≡ given = take_all 16 given clients in
    let items : laid.items_before given 16 ≡ sum_by (λ (row : ItemList). length row.items) given =
    below-clients (λ items. length items) refl given 16 ∙ ap (λ (rows : List ItemList). sum_by (λ (row : ItemList). length row.items) rows) all in
    let sectors : laid.sectors_before given 16 ≡ sum_by (λ (row : ItemList). sum_by laid.item_sectors row.items) given =
    laid-is given 16 ∙ ap (λ (rows : List ItemList). sum_by (λ (row : ItemList). sum_by laid.item_sectors row.items) rows) all in
    record {
      clients = clients;
      items = subst (λ (n : ℕ). n ≤ 65536) (counted given ∙ sym items) few.items;
      sectors = subst (λ (n : ℕ). n ≤ 262144) (read-in-all given ∙ sym sectors) few.sectors;
    }

-- ## Graphs

-- each of the graphs that a file's reader and joining promise
views-small : (book : List Named) (joined : List View) → AreGraphs book → All IsSmall joined → All IsSmall (map (λ g. g.graph) book ++ joined)
views-small book joined are small = All-append IsSmall (map (λ g. g.graph) book) joined (All-map IsSmall (λ (g : Named). g.graph) book (λ k d l. (are.writable k d l).limits.bufs)) small

-- a graph of a list whose views are small
pub graphs-fit : (book : List Named) (joined : List View) (graphs : List Held) → AreGraphs book → All IsSmall joined → map (λ g. g.drawn) graphs ≡ map (λ g. g.graph) book ++ joined
    → (n : ℕ) → length (slice_index_or graphs n no_graph).drawn.bufs ≤ 2048
graphs-fit book joined graphs are small same n =
    elim (cases_lt n (length graphs)) [
      | inl within ↦
          let many = length-map graphs (λ (g : Held). g.drawn) in
          let all : All IsSmall (map (λ (g : Held). g.drawn) graphs) = subst (λ (vs : List View). All IsSmall vs) (sym same) (views-small book joined are small) in
          subst IsSmall (get_or-map (λ (g : Held). g.drawn) graphs n no_graph no_graph.drawn within) (all n no_graph.drawn (omega (arith, within, many)))
      | inr past ↦
          subst (λ (h : Held). length h.drawn.bufs ≤ 2048) (sym (get_or_past graphs n no_graph (omega (arith, past)))) (omega arith)
    ]
