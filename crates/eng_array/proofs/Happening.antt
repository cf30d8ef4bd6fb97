-- Each call is one event, and what it changes of what is out.
use Rattle.std.proofs.Common.{◌≡◌, ◌+◌, ◌++◌, ℕ, [], ◌∷◌, Bool, true, false, if◌then◌else◌, sym, ◌∙◌, ap, arith}
use Rattle.lay_core.specs.Layout.{Shape}
use Rattle.lay_core.specs.declared.layout.Layout.{Ghosts as LayoutGhosts}
use Rattle.blk_disk.specs.Disk.{Rose}
use Rattle.blk_disk.specs.declared.disk.Disk.{Ghosts as DiskGhosts}
use Rattle.eng_cols.specs.Contents.{InSync}
use Rattle.eng_one.specs.Control.{mark_of}
use Rattle.eng_world.specs.declared.item.Traced.{Traced}
use Rattle.eng_world.specs.World.{Current, World}
use Rattle.eng_world.proofs.Promised.{not-lost}
use Rattle.eng_world.proofs.Open.{run-open}
use Rattle.eng_clients.specs.declared.stage.Stage.{Stage}
use Rattle.eng_clients.specs.declared.stage.Stage.TheVariants.{Nothing, Waits, Runs}
use Rattle.eng_state.specs.declared.array.Array.{Array}
use Rattle.eng_clients.specs.Desk.{Desk, desk_at}
use Rattle.eng_state.specs.Shows.{Shows, ShowsCurrent}
use Rattle.eng_array.specs.Steady.{IsSteady}
use Rattle.eng_state.specs.Steps as steps
use Rattle.eng_array.specs.Tickets.{is_node, out_by, out_at, failed_at, faults_at, devices_of, DevicesGoOn, IsBad, Happens}
use Rattle.eng_array.proofs.DevicesOn.{as-many-slots}
use Rattle.eng_array.proofs.OutNodes.{node_out, node_at, OutAfter, SameOut, OneMore, OneLess, step-out}
use Rattle.eng_array.proofs.Reached.{reached}
use Rattle.eng_array.proofs.Steady.{Keeps}

module _ {L D : Type 0} (lay : LayoutGhosts L) (disk : DiskGhosts D) where
  -- ## The event

  module _ (old new : Array L D) (e : Traced) (steady : IsSteady lay disk new) (keeps : Keeps lay disk old e new) (follows : steps.Follows lay disk old e new) where
    pub happens : new.spare ≡ old.spare → DevicesGoOn disk (devices_of old) (devices_of new)
        → (IsBad e → (d : ℕ) → failed_at old d ≡ false → failed_at new d ≡ true → Rose (faults_at lay disk old d) (faults_at lay disk new d)) → Happens lay disk e old new
    happens spare devices blame = record {
      sound = steady;
      same = record {
        layout = keeps.layout;
        shape = ap lay.shape keeps.layout;
        graphs = ap (λ v. steps.graphs_of v.items) keeps.graphs;
        keeps = keeps.log.keeps;
        spare = spare;
        slots = as-many-slots disk old.devices.slots new.devices.slots devices;
        regions = keeps.log.regions;
      };
      items = λ own c. keeps.items c;
      others = λ c less. keeps.items c;
      told = λ on. keeps.log.trace ∙ ap (λ (b : Bool). if b then old.log.trace ++ e ∷ [] else old.log.trace) on;
      untold = λ off. keeps.log.trace ∙ ap (λ (b : Bool). if b then old.log.trace ++ e ∷ [] else old.log.trace) off;
      leads = follows;
      devices = devices;
      blame = blame;
    }

  -- ## What is out

  -- the nodes that are out are those of each world that the core shows
  module _ (core : Array L D) (w : World) (s : Shows disk core w) (c n : ℕ) where
    abbrev d : Desk
    d = desk_at core.clients c

    by-stage : (t : Stage) (now : Current) → ShowsCurrent disk.tells core.pool t d now → node_out now n ≡ out_by t (mark_of d.run n)
    by-stage Nothing now h = ap (λ k. node_out k n) h
    by-stage Waits now h = ap (λ k. node_out k n) h
    by-stage Runs now h = ap (λ k. node_out k n) h.1

    pub shown-out : node_at w c n ≡ out_at core c n
    shown-out = by-stage d.stage (w.clients c).current (s.clients c).current

  module _ (old new : Array L D) (e : Traced) (steady : IsSteady lay disk old) (follows : steps.Follows lay disk old e new) where
    abbrev y : Shape
    y = lay.shape old.layout

    abbrev was : World
    was = steady.reached.now

    abbrev now : World
    now = (follows steady.reached.now steady.reached.shows).0

    pub world-out : OutAfter e was now
    world-out =
        step-out y (steps.graphs_of old.graphs.items) (InSync y steady.reached.opening.contents steady.reached.opening.columns) steady.reached.opening.blocks was now
        (run-open y (steps.graphs_of old.graphs.items) steady.reached.opening steady.reached.events was steady.reached.is_opening steady.reached.run) e
        (λ none. not-lost y _ steady.reached.opening.blocks was (reached lay disk old steady.sound steady.reached) none)
        (follows steady.reached.now steady.reached.shows).2

    module _ (c n : ℕ) where
      before : node_at was c n ≡ out_at old c n
      before = shown-out old was steady.reached.shows c n

      after : node_at now c n ≡ out_at new c n
      after = shown-out new now (follows steady.reached.now steady.reached.shows).1 c n

    pub nodes-same : SameOut was now → (c n : ℕ) → out_at new c n ≡ out_at old c n
    nodes-same same c n = sym (after c n) ∙ (same c n ∙ before c n)

    pub nodes-more : (d m : ℕ) → OneMore d m was now → (c n : ℕ) → out_at new c n ≡ out_at old c n + is_node d m c n
    nodes-more d m more c n = let a = before c n in let b = after c n in let x = more c n in omega (arith, a, b, x)

    pub nodes-less : (d m : ℕ) → OneLess d m was now → (c n : ℕ) → out_at new c n + is_node d m c n ≡ out_at old c n
    nodes-less d m less c n = let a = before c n in let b = after c n in let x = less c n in omega (arith, a, b, x)
