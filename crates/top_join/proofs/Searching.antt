-- The search for the item that names a graph, item after item and client after client.
use Rattle.std.proofs.Common.{◌≡◌, ℕ, ◌+◌, ◌<◌, ◌≤◌, Bool, true, false, List, [], drop, get_or, length, map, refl, sym, ap}
use Rattle.std.specs.Prelude.{IfSome, Some, None, nat_eq, nat_le, option_map, if◌then◌else◌}
use Rattle.std.specs.Bool.{then_some}
use Rattle.std.proofs.lemmas.Bool.{le-leb}
use Rattle.std.proofs.lemmas.List.{drop_more}
use Rattle.blk_plain.specs.declared.op.Span.{Span}
use Rattle.blk_plain.specs.declared.op.Patches.{Patches}
use Rattle.blk_plain.specs.declared.op.Op.TheVariants as op
use Rattle.blk_plain.specs.Plain.{spans_of, used_of}
use Rattle.eng_world.specs.declared.item.Item.{Item}
use Rattle.item_list.specs.ItemList.{ItemList}
use Rattle.raid_script.specs.Asked.{AskedPatch, Other, WritesAll, seen}
use Rattle.raid_script.specs.Steps.{seen_op, seen_patches}
use Rattle.top_bound.proofs.Patched.{spans-seen}
use Rattle.top_join.specs.Joining.{spans_by}
use Rattle.top_join.specs.Steps.{spans_in_row, spans_in}
use Rattle.std.specs.Option.{option_or}

-- ## One item

pub by-number : (n named : ℕ) (patches : Patches) → patches.used ≤ 8 → option_map spans_of (then_some (nat_eq named n) patches) ≡ spans_by n (seen_op (op.Writes patches) (Some named))
by-number n named patches few = go (nat_le patches.used 8) (le-leb patches.used 8 few)
  where
    one : (t : Bool) → option_map spans_of (then_some t patches) ≡ (if t then Some (map (λ (p : AskedPatch). p.span) (seen_patches patches)) else None)
    one true = ap (λ (s : List Span). Some s) (sym (spans-seen (used_of patches)))
    one false = refl

    go : (b : Bool) → b ≡ true → option_map spans_of (then_some (nat_eq named n) patches) ≡ spans_by n (if b then WritesAll (seen_patches patches) (Some named) else Other)
    go true h = one (nat_eq named n)
    go false h = absurd (cc h)

-- ## Rows

pub row-step : (n : ℕ) (items : List Item) (i : ℕ) (d : Item) → i < length items
    → spans_in_row n (map seen (drop i items)) ≡ option_or (spans_by n (seen (get_or items i d))) (spans_in_row n (map seen (drop (i + 1) items)))
row-step n items i d l = ap (λ (xs : List Item). spans_in_row n (map seen xs)) (drop_more items i d l)

pub row-none : (n : ℕ) → spans_in_row n [] ≡ None
row-none n = refl

pub rows-step : (n : ℕ) (rows : List ItemList) (i : ℕ) (d : ItemList) → i < length rows
    → spans_in n (map (λ (row : ItemList). map seen row.items) (drop i rows)) ≡ option_or (spans_in_row n (map seen (get_or rows i d).items)) (spans_in n (map (λ (row : ItemList). map seen row.items) (drop (i + 1) rows)))
rows-step n rows i d l = ap (λ (xs : List ItemList). spans_in n (map (λ (row : ItemList). map seen row.items) xs)) (drop_more rows i d l)

pub rows-none : (n : ℕ) → spans_in n [] ≡ None
rows-none n = refl

-- ## Where there is one

pub if-then : {X : Type 0} (b : Bool) (x : X) (P : X → Type 0) → P x → IfSome (then_some b x) P
if-then true x P h = h
if-then false x P h = tt
