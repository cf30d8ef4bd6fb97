-- What a run asks for is marked, where the items of its script are.
use Rattle.std.proofs.Common.{◌≡◌, ◌∙◌, ◌⊎◌, ◌<◌, ℕ, Bool, true, List, Option, Some, None, sym, ap, subst, inl, inr}
use Rattle.blk_plain.specs.declared.op.Op.{Op}
use Rattle.lay_core.specs.Layout.{Shape}
use Rattle.eng_world.specs.declared.item.Item.TheVariants as item
use Rattle.eng_world.specs.World.{World}
use Rattle.eng_world.specs.Planning.{Graphs, Concerns}
use Rattle.item_list.specs.ItemList.{ItemList}
use Rattle.raid_map.specs.Regions.{region_of, Marks, is_marked}
use Rattle.raid_map.specs.Mapped.{ReadWrites, MayWrite, AreAskedFor}
use Rattle.raid_map.specs.Asking.{FileWrites, MayWriteBy, ScriptMayWrite, MarksAlso, LibraryOnlyReads, IsItemOf, AreMarkedFor, IsMarkedRebuild, AreItemsOf}

op-same : {o p : Op} {g h : Option ℕ} → item.Run o g ≡ item.Run p h → o ≡ p
op-same h = cc

by-file : (graphs : Graphs) → LibraryOnlyReads graphs → (graph : Option ℕ) → ReadWrites graphs graph → FileWrites graphs.file graph
by-file graphs quiet (Some n) h = h
by-file graphs quiet None h = quiet h.0 h.1 h.2 h.3

may-by : (graphs : Graphs) → LibraryOnlyReads graphs → (o : Op) (graph : Option ℕ) → MayWrite graphs o graph → MayWriteBy graphs.file o graph
may-by graphs quiet o graph (inl h) = inl h
may-by graphs quiet o graph (inr h) = inr (by-file graphs quiet graph h)

pub script-asked : (y : Shape) (graphs : Graphs) (clients : List ItemList) (regions : ℕ → Bool) (w : World) → AreMarkedFor y regions (ScriptMayWrite y graphs.file clients)
    → LibraryOnlyReads graphs → AreItemsOf y clients regions w → AreAskedFor y graphs regions w
script-asked y graphs clients regions w marked quiet from c n o graph s at may reach within concerns = go (from c n (item.Run o graph) at)
  where
    go : IsItemOf clients (item.Run o graph) ⊎ IsMarkedRebuild y regions (item.Run o graph) → regions (region_of y.stripes s) ≡ true
    go (inl h) = marked s within (h.0, h.1, h.2, (h.3, item.Run o graph, h.4, (may-by graphs quiet o graph may, (reach, concerns))))
    go (inr h) = let it : s ≡ h.0 = subst (λ z. Concerns y z s) (op-same h.2) concerns in ap (λ z. regions (region_of y.stripes z)) it ∙ h.3

-- so they are where a map has been marked for the script
pub also-marked : (y : Shape) (stripes : ℕ → Type 0) (old new : Marks) → old.stripes ≡ y.stripes → MarksAlso stripes old new → AreMarkedFor y (is_marked new.marks) stripes
also-marked y stripes old new same m s within has = (m.marks (region_of y.stripes s)).1 (inr (s, subst (λ z. s < z) (sym same) within, has, ap (λ z. region_of z s) same))
