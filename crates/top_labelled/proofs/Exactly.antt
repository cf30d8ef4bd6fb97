-- What is marked before clients are served is what a run over their items may write, and nothing else.
use Rattle.std.proofs.Common.{◌≡◌, ◌≢◌, ◌⊎◌, inl, inr, ℕ, zero, suc, ◌<◌, ◌≤◌, List, [], length, true, false, Option, Some, None, replicate, slice_get, refl, sym, ◌∙◌, ap, arith}
use Rattle.std.proofs.lemmas.Option.{slice_get_within}
use Rattle.blk_plain.specs.declared.op.Op.{Op}
use Rattle.graph_mean.specs.Graph.{Held}
use Rattle.lay_core.specs.Layout.{Shape}
use Rattle.eng_array.specs.declared.start.Start.{Start}
use Rattle.eng_cols.specs.declared.column.Column.{Column}
use Rattle.eng_log.specs.Given.{items_at, items_in}
use Rattle.eng_state.specs.Steps.{graphs_of}
use Rattle.eng_world.specs.declared.item.Item.{Item}
use Rattle.eng_world.specs.declared.item.Item.TheVariants as item
use Rattle.eng_world.specs.World.{World}
use Rattle.item_list.specs.ItemList.{ItemList}
use Rattle.raid_map.specs.Asking.{MayWriteBy, MayWriteIn, ScriptMayWrite, file_of}
use Rattle.raid_map.specs.Mapped.{MayWrite}
use Rattle.raid_map.specs.Reading.{Grows}
use Rattle.raid_map.specs.Regions.{Marks as Map, is_marked, region_of, regions_in}
use Rattle.raid_map.proofs.Readers.{quiet-library}
use Rattle.top_acts.specs.Mapped.{unmarked}
use Rattle.top_labelled.specs.Marked.{IsAskedOf, MarksExactly}
use Rattle.top_labelled.specs.Words.{MarksAsked, RebuildMayWrite}
use Rattle.top_labelled.proofs.Without.{never}

none-marked : (n r : ℕ) → is_marked (replicate n false) r ≡ false
none-marked zero r = refl
none-marked (suc n) zero = refl
none-marked (suc n) (suc r) = none-marked n r

none-get : {X : Type 0} (n : ℕ) (x : X) → slice_get [] n ≡ Some x → ⊥
none-get n x h = let z : None ≡ Some x = h in let u : ⊥ = cc in u

-- ## Which operations may write

writes-to : (held : List Held) (op : Op) (graph : Option ℕ) → MayWriteBy (file_of held) op graph → MayWrite (graphs_of held) op graph
writes-to held op graph (inl other) = inl other
writes-to held op None (inr never) = absurd never
writes-to held op (Some n) (inr write) = inr write

writes-from : (held : List Held) (op : Op) (graph : Option ℕ) → MayWrite (graphs_of held) op graph → MayWriteBy (file_of held) op graph
writes-from held op graph (inl other) = inl other
writes-from held op None (inr h) = absurd (quiet-library h.0 h.1 true h.2 h.3)
writes-from held op (Some n) (inr write) = inr write

module _ (y : Shape) (held : List Held) (clients : List ItemList) (now : World) (few : length clients ≤ 16) (items : (c : ℕ) → c ≢ 16 → (now.clients c).items ≡ items_at clients c) (s : ℕ) where
  asked-of : ScriptMayWrite y (file_of held) clients s → IsAskedOf y (graphs_of held) now s
  asked-of (c, own, is, more) = by more.1 more.2 more.3
    where
      below : c < length clients
      below = slice_get_within clients c own is

      other : c ≢ 16
      other same = let l = below in let f = few in omega (arith, l, f, same)

      by : (i : Item) → slice_get own.items more.0 ≡ Some i → MayWriteIn y (file_of held) i s → IsAskedOf y (graphs_of held) now s
      by (item.Run op graph) there writes = record {
        client = c;
        number = more.0;
        op = op;
        graph = graph;
        own = other;
        is = ap (λ (l : List Item). slice_get l more.0) (items c other ∙ ap items_in is) ∙ there;
        writes = writes-to held op graph writes.0;
        reach = writes.1.0;
        concerns = writes.1.1;
      }
      by (item.Fail column) there writes = absurd writes

  of-asked : IsAskedOf y (graphs_of held) now s → ScriptMayWrite y (file_of held) clients s
  of-asked a = by (slice_get clients a.client) refl
    where
      at : slice_get (items_at clients a.client) a.number ≡ Some (item.Run a.op a.graph)
      at = ap (λ (l : List Item). slice_get l a.number) (sym (items a.client a.own)) ∙ a.is

      by : (o : Option ItemList) → slice_get clients a.client ≡ o → ScriptMayWrite y (file_of held) clients s
      by None is = absurd (none-get a.number (item.Run a.op a.graph) (sym (ap (λ (o : Option ItemList). slice_get (items_in o) a.number) is) ∙ at))
      by (Some own) is = (a.client, own, is, (a.number, item.Run a.op a.graph, sym (ap (λ (o : Option ItemList). slice_get (items_in o) a.number) is) ∙ at, (writes-from held a.op a.graph a.writes, (a.reach, a.concerns))))

-- the marks of a map are those
pub exactly : (y : Shape) (held : List Held) (clients : List ItemList) (now : World) → length clients ≤ 16 → ((c : ℕ) → c ≢ 16 → (now.clients c).items ≡ items_at clients c) → (columns : List Column) (how : Option Start) (serial : ℕ) (union marks : Map)
    → Grows (unmarked y.stripes serial) union → MarksAsked y (file_of held) clients columns how union (unmarked y.stripes serial) marks → MarksExactly y (graphs_of held) now columns how union marks
exactly y held clients now few items columns how serial union marks grows m = record {
  stripes = m.stripes ∙ sym grows.stripes;
  serial = m.serial ∙ sym grows.serial;
  marks = λ r. (to r, from r);
}
  where
    to : (r : ℕ) → is_marked marks.marks r ≡ true → (is_marked union.marks r ≡ true) ⊎ ((s : ℕ) × (s < y.stripes) × (IsAskedOf y (graphs_of held) now s ⊎ RebuildMayWrite y columns how s) × (region_of y.stripes s ≡ r))
    to r h = elim ((m.marks r).0 h) [
      | inl blank ↦ never (sym blank ∙ none-marked (regions_in y.stripes) r)
      | inr more ↦ elim more [
        | inl too ↦ inl too
        | inr of ↦ inr (of.0, of.1, elim of.2 [ inl script ↦ inl (asked-of y held clients now few items of.0 script) | inr rebuilt ↦ inr rebuilt ], of.3)
      ]
    ]

    from : (r : ℕ) → (is_marked union.marks r ≡ true) ⊎ ((s : ℕ) × (s < y.stripes) × (IsAskedOf y (graphs_of held) now s ⊎ RebuildMayWrite y columns how s) × (region_of y.stripes s ≡ r)) → is_marked marks.marks r ≡ true
    from r (inl too) = (m.marks r).1 (inr (inl too))
    from r (inr of) = (m.marks r).1 (inr (inr (of.0, of.1, elim of.2 [ inl asked ↦ inl (of-asked y held clients now few items of.0 asked) | inr rebuilt ↦ inr rebuilt ], of.3)))
