-- The operations that items ask, client after client.
use Rattle.std.proofs.Common.{◌≡◌, ◌∙◌, ap, ap₂, sym, refl, inl, inr, ℕ, zero, suc, ◌+◌, ◌≤◌, List, [], ◌∷◌, ◌++◌, length, map, take, Option, Some, None, arith}
use Rattle.std.specs.Prelude.{slice_get, slice_index_or, sum_by, flat_map}
use Rattle.std.proofs.lemmas.List.{append-nil, length-append, length-map, map-append, take_all}
use Rattle.std.proofs.lemmas.List.Concat.{flat_map-append}
use Rattle.std.proofs.lemmas.List.Sums.{sum_by-cons, sum_by-append}
use Rattle.std.proofs.lemmas.Option.{slice_get_cases, slice_get_past}
use Rattle.blk_plain.specs.declared.op.Op.{Op}
use Rattle.eng_world.specs.declared.item.Item.{Item}
use Rattle.eng_world.specs.declared.item.Item.TheVariants as item
use Rattle.eng_world.specs.World.{op_of}
use Rattle.item_list.specs.ItemList.{ItemList}
use Rattle.raid_script.specs.Asked.{Asked, seen}
use Rattle.raid_script.specs.Steps.{seen_op, op_sectors, items_in, op_writes, row_writes}
use Rattle.raid_script.specs.Replies.{item_sectors, row_sectors, items_at}
use Rattle.raid_script.specs.Summary.{item_writes}
use Rattle.top_sweep.specs.Apart.{in_turn}
use Rattle.top_run.specs.InTurn.{asks, one_after_another}

-- ## Of a client

abbrev pub ops_in : List Item → List Op
ops_in [] = []
ops_in (item.Run o graph ∷ items) = o ∷ ops_in items
ops_in (item.Fail column ∷ items) = ops_in items

-- each item is an operation by the library's graph
abbrev pub EachRuns : List Item → Type 0
EachRuns items = (i : ℕ) (x : Item) → slice_get items i ≡ Some x → (o : Op) × (x ≡ item.Run o None)

none-fails : {A : Type 0} (items : List Item) (column : ℕ) → EachRuns (item.Fail column ∷ items) → A
none-fails items column each =
    let run = each zero (item.Fail column) refl in
    let z : item.Fail column ≡ item.Run run.0 None = run.1 in
    absurd (let u : ⊥ = cc in u)

plain : (items : List Item) (o : Op) (graph : Option ℕ) → EachRuns (item.Run o graph ∷ items) → graph ≡ None
plain items o graph each =
    let run = each zero (item.Run o graph) refl in
    let z : item.Run o graph ≡ item.Run run.0 None = run.1 in
    cc

pub ops-at : (items : List Item) → EachRuns items → (i : ℕ) → op_of (slice_get items i) ≡ slice_get (ops_in items) i
ops-at [] each i = refl
ops-at (item.Run o graph ∷ items) each zero = refl
ops-at (item.Run o graph ∷ items) each (suc i) = ops-at items (λ k x h. each (suc k) x h) i
ops-at (item.Fail column ∷ items) each i = none-fails items column each

-- who asks for an operation
pub item-of : (items : List Item) → EachRuns items → (i : ℕ) (o : Op) → slice_get (ops_in items) i ≡ Some o → slice_get items i ≡ Some (item.Run o None)
item-of items each i o h = go (slice_get items i) refl (ops-at items each i ∙ h)
  where
    go : (x : Option Item) → slice_get items i ≡ x → op_of x ≡ Some o → x ≡ Some (item.Run o None)
    go None is e = let z : None ≡ Some o = e in absurd (let u : ⊥ = cc in u)
    go (Some x) is e =
        let run = each i x is in
        let z : Some run.0 ≡ Some o = ap (λ y. op_of (Some y)) (sym run.1) ∙ e in
        let same : run.0 ≡ o = cc in
        ap Some (run.1 ∙ ap (λ p. item.Run p None) same)

pub ops-many : (items : List Item) → EachRuns items → length (ops_in items) ≡ length items
ops-many [] each = refl
ops-many (item.Run o graph ∷ items) each = let rest = ops-many items (λ k x h. each (suc k) x h) in omega (arith, rest)
ops-many (item.Fail column ∷ items) each = none-fails items column each

ops-ask : (items : List Item) → EachRuns items → map asks (ops_in items) ≡ map seen items
ops-ask [] each = refl
ops-ask (item.Run o graph ∷ items) each =
    ap₂ (λ (x : Asked) (l : List Asked). x ∷ l) (ap (seen_op o) (sym (plain items o graph each))) (ops-ask items (λ k x h. each (suc k) x h))
ops-ask (item.Fail column ∷ items) each = none-fails items column each

ops-write : (items : List Item) → sum_by op_writes (ops_in items) ≡ row_writes items
ops-write [] = refl
ops-write (item.Run o graph ∷ items) = sum_by-cons op_writes o (ops_in items) ∙ (ap (λ (n : ℕ). op_writes o + n) (ops-write items) ∙ sym (sum_by-cons item_writes (item.Run o graph) items))
ops-write (item.Fail column ∷ items) = let e = sum_by-cons item_writes (item.Fail column) items in let rest = ops-write items in omega (arith, e, rest)

ops-read : (items : List Item) → sum_by op_sectors (ops_in items) ≡ row_sectors items
ops-read [] = refl
ops-read (item.Run o graph ∷ items) = sum_by-cons op_sectors o (ops_in items) ∙ (ap (λ (n : ℕ). op_sectors o + n) (ops-read items) ∙ sym (sum_by-cons item_sectors (item.Run o graph) items))
ops-read (item.Fail column ∷ items) = let e = sum_by-cons item_sectors (item.Fail column) items in let rest = ops-read items in omega (arith, e, rest)

-- ## Of all clients

abbrev pub Clients : Type 0
Clients = List ItemList

abbrev pub own_of : Clients → ℕ → List Op
own_of clients c = ops_in (items_at clients c)

abbrev pub row_ops : ItemList → List Op
row_ops row = ops_in row.items

abbrev pub turn_of : Clients → List Op
turn_of clients = flat_map row_ops clients

abbrev pub row_asks : ItemList → List Asked
row_asks row = map seen row.items

-- each item of every client is an operation by the library's graph
abbrev pub AllRun : Clients → Type 0
AllRun clients = (c : ℕ) (row : ItemList) → slice_get clients c ≡ Some row → EachRuns row.items

take-next : {A : Type 0} (xs : List A) (n : ℕ) (x : A) → slice_get xs n ≡ Some x → take (suc n) xs ≡ take n xs ++ x ∷ []
take-next [] n x h = let z : None ≡ Some x = h in absurd (let u : ⊥ = cc in u)
take-next {A = A} (y ∷ xs) zero x h = let same : y ≡ x = cc in ap (λ (z : A). z ∷ []) same
take-next {A = A} (y ∷ xs) (suc n) x h = ap (λ (t : List A). y ∷ t) (take-next xs n x h)

-- the operations of the first clients, one after another
pub first-in-turn : (clients : Clients) (n : ℕ) → n ≤ length clients → in_turn (own_of clients) n ≡ turn_of (take n clients)
first-in-turn clients zero within = refl
first-in-turn clients (suc n) within = elim (slice_get_cases clients n).1 [
  | inl there ↦
      let row = there.0 in
      ap (λ (l : List Op). l ++ own_of clients n) (first-in-turn clients n (omega (arith, within)))
      ∙ (ap (λ (o : Option ItemList). turn_of (take n clients) ++ ops_in (items_in o)) there.2
      ∙ (ap (λ (l : List Op). turn_of (take n clients) ++ l) (sym (append-nil (ops_in row.items)))
      ∙ (sym (flat_map-append row_ops (take n clients) (row ∷ []))
      ∙ ap turn_of (sym (take-next clients n row there.2)))))
  | inr past ↦ absurd (omega (arith, past.0, within))
]

pub all-in-turn : (clients : Clients) → in_turn (own_of clients) (length clients) ≡ turn_of clients
all-in-turn clients = first-in-turn clients (length clients) (omega arith) ∙ ap turn_of (take_all (length clients) clients (omega arith))

pub none-behind : (clients : Clients) (c : ℕ) → length clients ≤ c → own_of clients c ≡ []
none-behind clients c past = ap (λ (o : Option ItemList). ops_in (items_in o)) (slice_get_past clients c past)

-- they are what is asked
pub turn-asks : (clients : Clients) → AllRun clients → map asks (turn_of clients) ≡ one_after_another (map row_asks clients)
turn-asks [] all = refl
turn-asks (row ∷ clients) all =
    map-append asks (ops_in row.items) (turn_of clients)
    ∙ ap₂ (λ (x y : List Asked). x ++ y) (ops-ask row.items (all zero row refl)) (turn-asks clients (λ c r h. all (suc c) r h))

-- as many as are asked by the first clients
pub first-many : (clients : Clients) → AllRun clients → (n : ℕ) → length (turn_of (take n clients)) ≡ length (one_after_another (take n (map row_asks clients)))
first-many [] all zero = refl
first-many [] all (suc n) = refl
first-many (row ∷ clients) all zero = refl
first-many (row ∷ clients) all (suc n) =
    let here = ops-many row.items (all zero row refl) in
    let rest = first-many clients (λ c r h. all (suc c) r h) n in
    let one = length-append (ops_in row.items) (turn_of (take n clients)) in
    let two = length-append (map seen row.items) (one_after_another (take n (map row_asks clients))) in
    let same = length-map row.items seen in
    omega (arith, here, rest, one, two, same)

pub turn-many : (clients : Clients) → AllRun clients → length (turn_of clients) ≡ sum_by (λ row. length row.items) clients
turn-many [] all = refl
turn-many (row ∷ clients) all =
    let here = ops-many row.items (all zero row refl) in
    let rest = turn-many clients (λ c r h. all (suc c) r h) in
    let one = length-append (ops_in row.items) (turn_of clients) in
    let two = sum_by-cons (λ (row : ItemList). length row.items) row clients in
    omega (arith, here, rest, one, two)

pub turn-writes : (clients : Clients) → sum_by op_writes (turn_of clients) ≡ sum_by (λ row. row_writes row.items) clients
turn-writes [] = refl
turn-writes (row ∷ clients) =
    let here = ops-write row.items in
    let rest = turn-writes clients in
    let one = sum_by-append op_writes (ops_in row.items) (turn_of clients) in
    let two = sum_by-cons (λ (row : ItemList). row_writes row.items) row clients in
    omega (arith, here, rest, one, two)

pub turn-reads : (clients : Clients) → sum_by op_sectors (turn_of clients) ≡ sum_by (λ row. row_sectors row.items) clients
turn-reads [] = refl
turn-reads (row ∷ clients) =
    let here = ops-read row.items in
    let rest = turn-reads clients in
    let one = sum_by-append op_sectors (ops_in row.items) (turn_of clients) in
    let two = sum_by-cons (λ (row : ItemList). row_sectors row.items) row clients in
    omega (arith, here, rest, one, two)

-- what a client asks, among all
pub asked-by : (clients : Clients) (c : ℕ) → map seen (items_at clients c) ≡ slice_index_or (map row_asks clients) c []
asked-by [] c = refl
asked-by (row ∷ clients) zero = refl
asked-by (row ∷ clients) (suc c) = asked-by clients c
