-- The sums of what was replied, place by place.
use Rattle.std.proofs.Common.{◌≡◌, ◌∙◌, ℕ, ◌*◌, ◌<◌, List, length, take, drop, get_or, refl, sym, ap, arith}
use Rattle.std.specs.Prelude.{Vec, slice_get}
use Rattle.std.specs.declared.alloc.Global.{Global}
use Rattle.std.proofs.lemmas.List.{get_or_default}
use Rattle.std.proofs.lemmas.Option.{slice_get_read}
use Rattle.eng_world.specs.declared.item.Item.{Item}
use Rattle.eng_world.specs.declared.item.Reply.{Reply}
use Rattle.eng_world.specs.declared.item.Reply.TheVariants as reply
use Rattle.item_list.specs.ItemList.{ItemList}
use Rattle.raid_script.specs.Replies.{item_sectors, row_sectors, no_item, sectors_before}
use Rattle.raid_script.specs.Steps.{items_in, replies_in, place_sum, client_sum}
use Rattle.raid_script.specs.Summary.{data_sum, row_sum}

-- what an item of a row was replied, where its bytes are these
pub place_sum_is : (items : List Item) (replies : List Reply) (bytes part : List ℕ) (i : ℕ) (x : Item) (e : Reply) (n at : ℕ)
    → i < length items → length replies ≡ length items → x ≡ get_or items i x → n ≡ item_sectors x → at ≡ 512 * row_sectors (take i items) → part ≡ take (512 * n) (drop at bytes)
    → place_sum items replies bytes i ≡ data_sum (get_or replies i e) part
place_sum_is items replies bytes part i x e n at h many x_is n_is at_is part_is =
    let item_is : get_or items i no_item ≡ x = get_or_default items i no_item x h ∙ sym x_is in
    let told : get_or replies i reply.Done ≡ get_or replies i e = get_or_default replies i reply.Done e (omega (arith, many)) in
    ap (λ (y : Item). data_sum (get_or replies i reply.Done) (take (512 * item_sectors y) (drop (512 * row_sectors (take i items)) bytes))) item_is
    ∙ (ap (λ (r : Reply). data_sum r (take (512 * item_sectors x) (drop (512 * row_sectors (take i items)) bytes))) told
    ∙ ap (λ (bs : List ℕ). data_sum (get_or replies i e) bs)
    (ap (λ (k : ℕ). take (512 * k) (drop (512 * row_sectors (take i items)) bytes)) (sym n_is) ∙ (ap (λ (k : ℕ). take (512 * n) (drop k bytes)) (sym at_is) ∙ sym part_is)))

-- what a client was replied, where its rows are these
pub client_sum_is : (clients : List ItemList) (replies : List (Vec Reply Global)) (bytes part : List ℕ) (c : ℕ) (xs : ItemList) (rs : Vec Reply Global) (items : List Item) (told : List Reply) (at : ℕ)
    → c < length clients → c < length replies → xs ≡ get_or clients c xs → rs ≡ get_or replies c rs → items ≡ xs.items → told ≡ rs.items → at ≡ 512 * sectors_before clients c → part ≡ drop at bytes
    → client_sum clients replies bytes c ≡ row_sum items told part
client_sum_is clients replies bytes part c xs rs items told at h k xs_is rs_is items_is told_is at_is part_is =
    ap (λ (row : List Item). row_sum row (replies_in (slice_get replies c)) (drop (512 * sectors_before clients c) bytes)) (ap items_in (slice_get_read clients (length clients) c xs refl h xs_is) ∙ sym items_is)
    ∙ (ap (λ (row : List Reply). row_sum items row (drop (512 * sectors_before clients c) bytes)) (ap replies_in (slice_get_read replies (length replies) c rs refl k rs_is) ∙ sym told_is)
    ∙ ap (λ (bs : List ℕ). row_sum items told bs) (ap (λ (n : ℕ). drop n bytes) (sym at_is) ∙ sym part_is))
