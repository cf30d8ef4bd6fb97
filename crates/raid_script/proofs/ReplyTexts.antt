-- The texts of replies, place by place.
use Rattle.std.proofs.Common.{◌≡◌, ◌∙◌, ℕ, ◌+◌, ◌*◌, ◌<◌, ◌≤◌, List, length, take, drop, get_or, refl, sym, ap, arith}
use Rattle.std.specs.Prelude.{Vec, slice_get, sum_by}
use Rattle.std.specs.declared.alloc.Global.{Global}
use Rattle.std.proofs.lemmas.List.{get_or_default, take-append-drop}
use Rattle.std.proofs.lemmas.List.Sums.{sum_by_more, sum_by-append}
use Rattle.std.proofs.lemmas.Option.{slice_get_read}
use Rattle.eng_world.specs.declared.item.Item.{Item}
use Rattle.eng_world.specs.declared.item.Reply.{Reply}
use Rattle.eng_world.specs.declared.item.Reply.TheVariants as reply
use Rattle.item_list.specs.ItemList.{ItemList}
use Rattle.raid_script.specs.Replies.{item_sectors, row_sectors, no_item, row_text, sectors_before}
use Rattle.raid_script.specs.Steps.{item_text, place_text, items_in, replies_in, client_text}

-- the lines of an item of a row, where its bytes are these
pub place_is : (client : ℕ) (items : List Item) (replies : List Reply) (bytes part : List ℕ) (i : ℕ) (x : Item) (e : Reply) (n at : ℕ)
    → i < length items → length replies ≡ length items → x ≡ get_or items i x → n ≡ item_sectors x → at ≡ 512 * row_sectors (take i items) → part ≡ take (512 * n) (drop at bytes)
    → place_text client items replies bytes i ≡ item_text client i x (get_or replies i e) part
place_is client items replies bytes part i x e n at h many x_is n_is at_is part_is =
    let item_is : get_or items i no_item ≡ x = get_or_default items i no_item x h ∙ sym x_is in
    let told : get_or replies i reply.Done ≡ get_or replies i e = get_or_default replies i reply.Done e (omega (arith, many)) in
    ap (λ (y : Item). item_text client i y (get_or replies i reply.Done) (take (512 * item_sectors y) (drop (512 * row_sectors (take i items)) bytes))) item_is
    ∙ (ap (λ (r : Reply). item_text client i x r (take (512 * item_sectors x) (drop (512 * row_sectors (take i items)) bytes))) told
    ∙ ap (λ (bs : List ℕ). item_text client i x (get_or replies i e) bs)
    (ap (λ (k : ℕ). take (512 * k) (drop (512 * row_sectors (take i items)) bytes)) (sym n_is) ∙ (ap (λ (k : ℕ). take (512 * n) (drop k bytes)) (sym at_is) ∙ sym part_is)))

-- the sectors of one item more
pub row_more : (items : List Item) (i : ℕ) (x : Item) (n : ℕ) → i < length items → x ≡ get_or items i x → n ≡ item_sectors x → row_sectors (take (i + 1) items) ≡ row_sectors (take i items) + n
row_more items i x n h x_is n_is = sum_by_more item_sectors items i x h ∙ ap (λ (k : ℕ). row_sectors (take i items) + k) (ap item_sectors (sym x_is) ∙ sym n_is)

-- the lines of a client, where its rows are these
pub client_is : (clients : List ItemList) (replies : List (Vec Reply Global)) (bytes part : List ℕ) (c : ℕ) (xs : ItemList) (rs : Vec Reply Global) (items : List Item) (told : List Reply) (at : ℕ)
    → c < length clients → c < length replies → xs ≡ get_or clients c xs → rs ≡ get_or replies c rs → items ≡ xs.items → told ≡ rs.items → at ≡ 512 * sectors_before clients c → part ≡ drop at bytes
    → client_text clients replies bytes c ≡ row_text c items told part
client_is clients replies bytes part c xs rs items told at h k xs_is rs_is items_is told_is at_is part_is =
    ap (λ (row : List Item). row_text c row (replies_in (slice_get replies c)) (drop (512 * sectors_before clients c) bytes)) (ap items_in (slice_get_read clients (length clients) c xs refl h xs_is) ∙ sym items_is)
    ∙ (ap (λ (row : List Reply). row_text c items row (drop (512 * sectors_before clients c) bytes)) (ap replies_in (slice_get_read replies (length replies) c rs refl k rs_is) ∙ sym told_is)
    ∙ ap (λ (bs : List ℕ). row_text c items told bs) (ap (λ (n : ℕ). drop n bytes) (sym at_is) ∙ sym part_is))

-- the sectors of one client more
pub before_more : (clients : List ItemList) (c : ℕ) (xs : ItemList) (items : List Item) → c < length clients → xs ≡ get_or clients c xs → items ≡ xs.items
    → sectors_before clients (c + 1) ≡ sectors_before clients c + row_sectors items
before_more clients c xs items h xs_is items_is =
    sum_by_more (λ (row : ItemList). row_sectors row.items) clients c xs h
    ∙ ap (λ (n : ℕ). sectors_before clients c + n) (ap (λ (row : ItemList). row_sectors row.items) (sym xs_is) ∙ ap row_sectors (sym items_is))

-- those of one item more are among all
pub row_within : (items : List Item) (i : ℕ) (x : Item) (n : ℕ) → i < length items → x ≡ get_or items i x → n ≡ item_sectors x → row_sectors (take i items) + n ≤ row_sectors items
row_within items i x n h x_is n_is =
    let more = row_more items i x n h x_is n_is in
    let split = sum_by-append item_sectors (take (i + 1) items) (drop (i + 1) items) in
    let whole = ap row_sectors (take-append-drop (i + 1) items) in
    omega (arith, more, split, whole)

-- and those of one client more
pub before_within : (clients : List ItemList) (c : ℕ) (xs : ItemList) (items : List Item) → c < length clients → xs ≡ get_or clients c xs → items ≡ xs.items
    → sectors_before clients c + row_sectors items ≤ sum_by (λ row. row_sectors row.items) clients
before_within clients c xs items h xs_is items_is =
    let more = before_more clients c xs items h xs_is items_is in
    let split = sum_by-append (λ (row : ItemList). row_sectors row.items) (take (c + 1) clients) (drop (c + 1) clients) in
    let whole = ap (λ (l : List ItemList). sum_by (λ (row : ItemList). row_sectors row.items) l) (take-append-drop (c + 1) clients) in
    omega (arith, more, split, whole)
