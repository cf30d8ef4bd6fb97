-- The events of an item in a run, and what there is where no job is out.
use Rattle.std.specs.Prelude.{◌≡◌, ◌⊎◌, ◌+◌, ℕ, List, [], ◌∷◌}
use Rattle.lay_core.specs.Layout.{Shape}
use Rattle.eng_world.specs.declared.item.Traced.{Traced}
use Rattle.eng_world.specs.declared.item.Event.{Event}
use Rattle.eng_world.specs.World.{Waits, World}
use Rattle.eng_world.specs.Planning.{Graphs}
use Rattle.eng_world.specs.Step.{Possible, EventsLead}
use Rattle.eng_world.specs.Invariant.{AllReplied}
use Rattle.eng_world.specs.Going.{NoneRuns}
use Rattle.eng_rest.specs.Left.{of_item, IsLater, Within}

-- how many of the events are of client c's item i
abbrev pub count_of : List Traced → ℕ → ℕ → ℕ
count_of [] c i = 0
count_of (e ∷ events) c i = of_item e c i + count_of events c i

-- by none of them does a rebuild begin
abbrev pub AreLater : List Traced → Type 0
AreLater [] = Unit {0}
AreLater (e ∷ events) = IsLater e × AreLater events

module _ (y : Shape) (graphs : Graphs) (m c i : ℕ) where
  -- in each world of the run, first and last included, the item's graph has at most m nodes
  abbrev pub GraphsWithin : (start : World) (events : List Traced) (now : World) → EventsLead y graphs start events now → Type 0
  GraphsWithin start [] now run = Within m (now.clients c) i
  GraphsWithin start (e ∷ events) now run = GraphsWithin start events run.0 run.1 × Within m (now.clients c) i

-- All is replied, or an event is possible; or nothing runs, and an operation waits for its stripes and buffers.
abbrev pub Stands : Shape → Graphs → World → Type 0
Stands y graphs w =
    AllReplied w
    ⊎ (((e : Event) × Possible y graphs e w)
    ⊎ (NoneRuns w × ((c : ℕ) × ((w.clients c).current ≡ Waits))))
