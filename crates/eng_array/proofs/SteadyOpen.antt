-- A core is steady as it opens, and as a rebuild of a column begins.
use Rattle.std.proofs.Common.{◌≡◌, ℕ, ◌≤◌, ◌+◌, ◌*◌, List, [], length, subst, sym, ap, ◌∙◌, arith, inl, inr, refl}
use Rattle.std.proofs.lemmas.Bool.{cases_eq}
use Rattle.blk_disk.specs.declared.disk.Disk.{Ghosts as DiskGhosts}
use Rattle.lay_core.specs.declared.layout.Layout.{Ghosts as LayoutGhosts}
use Rattle.graph_mean.specs.Graph.{Held}
use Rattle.eng_world.specs.declared.item.Traced.{Traced}
use Rattle.eng_world.specs.World.{World}
use Rattle.eng_world.specs.Serving.{IsUnbegun}
use Rattle.eng_world.specs.Step.{IsOpening}
use Rattle.eng_rest.specs.Left.{below, alive, left, item_left, current_left}
use Rattle.eng_rest.proofs.Items.{left-now, left-later}
use Rattle.eng_rest.proofs.Summing.{below-le}
use Rattle.eng_state.specs.declared.array.Array.{Array}
use Rattle.eng_ends.specs.Copied.{AreLaid}
use Rattle.eng_array.specs.Run.{Notes}
use Rattle.eng_array.specs.Serving.{AreServing}
use Rattle.eng_events.specs.Opened.{FitThePool}
use Rattle.eng_state.specs.Shows.{Shows}
use Rattle.eng_state.specs.Sound.{IsSound}
use Rattle.eng_array.specs.Steady.{events_left, HasPlaces, HasStock, IsSteady}
use Rattle.eng_state.specs.Steps.{graphs_of, Follows}
use Rattle.eng_array.proofs.Reaching.{run-on}

-- ## The room that an opening needs

-- before any operation has begun each item has at most 2 m + 2 events left, and as many again for each column that may fail
abbrev pub first_left : (ℕ → ℕ → ℕ) → World → ℕ
first_left most w = below (λ c. below (λ i. 2 * most c i + 2 + alive w.columns * (2 * most c i + 1)) (length (w.clients c).items)) 17 + alive w.columns

unbegun-item : (w : World) → IsUnbegun w → (m c i : ℕ) → item_left m (w.clients c) i ≡ 2 * m + 2
unbegun-item w u m c i =
    let none : length (w.clients c).replies ≡ 0 = ap (λ l. length l) (u c).0 in
    elim (cases_eq i (length (w.clients c).replies)) [
      | inl here ↦ left-now m (w.clients c) i here ∙ ap (current_left m) (u c).1
      | inr ne ↦ left-later m (w.clients c) i (omega (arith, none, ne))
    ]

pub unbegun-left : (most : ℕ → ℕ → ℕ) (w : World) → IsUnbegun w → events_left most w ≤ first_left most w
unbegun-left most w u =
    let a = below-le (λ c. below (λ i. 2 * most c i + 2 + alive w.columns * (2 * most c i + 1)) (length (w.clients c).items)) (λ c. below (λ i. left (most c i) w c i) (length (w.clients c).items)) 17
    (λ c l. below-le (λ i. 2 * most c i + 2 + alive w.columns * (2 * most c i + 1)) (λ i. left (most c i) w c i) (length (w.clients c).items)
    (λ i k. let e = unbegun-item w u (most c i) c i in omega (arith, e))) in
    omega (arith, a)

module _ {L D : Type 0} (lay : LayoutGhosts L) (disk : DiskGhosts D) where
  -- an opened core
  pub open-steady : (core : Array L D) (w : World) → IsSound lay disk core → IsOpening (lay.shape core.layout) w → length core.pool.free ≡ 2048 → Shows disk core w → core.log.trace ≡ [] → AreServing lay core → HasPlaces lay disk core w → AreLaid core.log.handed core.clients → FitThePool (graphs_of core.graphs.items) → HasStock lay disk core → IsSteady lay disk core
  open-steady core w sound opening free shows none serving places laid fit stock = record {
    sound = sound;
    reached = record { opening = w; events = []; now = w; is_opening = opening; all_free = shows.free ∙ free; run = refl; shows = shows; traced = λ keeps. none };
    serving = serving;
    places = places;
    laid = laid;
    fit = fit;
    stock = stock;
  }

  -- a core after any event that has room for what may come then
  pub room-steady : (old new : Array L D) (e : Traced) → IsSteady lay disk old → IsSound lay disk new → Follows lay disk old e new → new.layout ≡ old.layout → new.graphs ≡ old.graphs → Notes old.log e new.log → AreServing lay new → ((w : World) → Shows disk new w → HasPlaces lay disk new w) → AreLaid new.log.handed new.clients → HasStock lay disk new → IsSteady lay disk new
  room-steady old new e steady sound follows layout graphs log serving places laid stock = record {
    sound = sound;
    reached = run-on lay disk old new e (ap lay.shape layout) (ap (λ v. v.items) graphs) log follows steady.reached;
    serving = serving;
    places = places _ (follows steady.reached.now steady.reached.shows).1;
    laid = laid;
    fit = subst (λ (v : List Held). FitThePool (graphs_of v)) (sym (ap (λ v. v.items) graphs)) steady.fit;
    stock = stock;
  }
