-- What a core keeps as its parts change in turn, until the event is traced.
use Rattle.std.proofs.Common.{◌≡◌, ℕ, ◌<◌, ◌++◌, List, [], ◌∷◌, Bool, if◌then◌else◌, length, subst, sym, ap, ◌∙◌, refl}
use Rattle.std.specs.Prelude.{slice_set}
use Rattle.std.proofs.lemmas.List.{length-set}
use Rattle.blk_disk.specs.declared.disk.Disk.{Ghosts as DiskGhosts}
use Rattle.lay_core.specs.Layout.{Shape}
use Rattle.lay_core.specs.declared.layout.Layout.{Ghosts as LayoutGhosts}
use Rattle.graph_mean.specs.Graph.{Held}
use Rattle.eng_cols.specs.Cols.{ColumnState}
use Rattle.eng_world.specs.declared.item.Traced.{Traced}
use Rattle.eng_clients.specs.declared.stage.Stage.{Stage}
use Rattle.eng_clients.specs.declared.stage.Stage.TheVariants.{Nothing, Waits, Runs}
use Rattle.eng_state.specs.declared.array.Array.{Array}
use Rattle.eng_clients.specs.Desk.{Desk, desk_at}
use Rattle.eng_state.specs.Failing.{suffered_in, FailedBy}
use Rattle.eng_log.specs.Log.{Logged, noted}
use Rattle.eng_array.specs.Serving.{IsServing}
use Rattle.eng_state.specs.Sound.{IsSound}
use Rattle.eng_array.specs.Steady.{IsSteady}
use Rattle.eng_state.specs.Steps.{Follows}
use Rattle.eng_array.proofs.OneServing.{each-set, same-serving, idle-serving, items-set}
use Rattle.eng_array.proofs.Steady.{IsEvent, Keeps, steady-on}

-- nothing was traced, and there is as much room, and the same regions
pub record Untraced (old new : Logged) : Type 0 where
  pub keeps : new.keeps ≡ old.keeps
  pub trace : new.trace ≡ old.trace
  pub history_room : new.history_room ≡ old.history_room
  pub trace_room : new.trace_room ≡ old.trace_room
  pub regions : new.handed.regions ≡ old.handed.regions

pub same-log : (old new : Logged) → new ≡ old → Untraced old new
same-log old new is = record { keeps = ap (λ (l : Logged). l.keeps) is; trace = ap (λ (l : Logged). l.trace) is; history_room = ap (λ (l : Logged). l.history_room) is; trace_room = ap (λ (l : Logged). l.trace_room) is; regions = ap (λ (l : Logged). l.handed.regions) is }

-- what a column's failure leaves of a desk
suffered-items : (y : Shape) (cols : List ColumnState) (k : ℕ) (d : Desk) (t : Stage) → (suffered_in t y cols k d).items ≡ d.items
suffered-items y cols k d Nothing = refl
suffered-items y cols k d Waits = refl
suffered-items y cols k d Runs = refl

suffered-serving : (y v : Shape) (graphs : List Held) (cols : List ColumnState) (k : ℕ) (d : Desk) (t : Stage) → IsServing y graphs d → IsServing y graphs (suffered_in t v cols k d)
suffered-serving y v graphs cols k d Nothing s = s
suffered-serving y v graphs cols k d Waits s = s
suffered-serving y v graphs cols k d Runs s = same-serving y graphs d (suffered_in Runs v cols k d) refl (λ h. h) refl (λ h. refl) refl refl s

-- the new desk serves the same items: it doesn't run, or it runs as the old one did
pub data Goes (old new : Desk) : Type 0 where
  rests : new.items ≡ old.items → (new.stage ≡ Runs → ⊥) → Goes old new
  same : new.items ≡ old.items → (new.stage ≡ Runs → old.stage ≡ Runs) → new.replies ≡ old.replies → new.map ≡ old.map → new.lease ≡ old.lease → new.run.graph ≡ old.run.graph → Goes old new

pub goes-items : (old new : Desk) → Goes old new → new.items ≡ old.items
goes-items old new (rests items idle) = items
goes-items old new (same items ran replies map lease graph) = items

pub goes-serving : (y : Shape) (graphs : List Held) (old new : Desk) → Goes old new → IsServing y graphs old → IsServing y graphs new
goes-serving y graphs old new (rests items idle) s = idle-serving y graphs old new items idle s
goes-serving y graphs old new (same items ran replies map lease graph) s = same-serving y graphs old new items ran replies (λ h. map) lease graph s

module _ {L D : Type 0} (lay : LayoutGhosts L) (disk : DiskGhosts D) (old : Array L D) (steady : IsSteady lay disk old) where
  abbrev y : Shape
  y = lay.shape old.layout

  abbrev gs : List Held
  gs = old.graphs.items

  -- what is kept before the event is traced
  pub record Kept (new : Array L D) : Type 0 where
    pub count : length new.clients ≡ length old.clients
    pub layout : new.layout ≡ old.layout
    pub graphs : new.graphs ≡ old.graphs
    pub log : Untraced old.log new.log
    pub there : length new.pool.seats ≡ length old.pool.seats
    pub items : (c : ℕ) → (desk_at new.clients c).items ≡ (desk_at old.clients c).items
    pub serving : (c : ℕ) → IsServing y gs (desk_at new.clients c)

  pub stays : Kept old
  stays = record { count = refl; layout = refl; graphs = refl; log = same-log old.log old.log refl; there = refl; items = λ c. refl; serving = steady.serving }

  -- one client goes on, or comes to rest
  pub one-goes : (mid new : Array L D) (c : ℕ) (b : Desk) → c < length old.clients → Goes (desk_at mid.clients c) b → new.clients ≡ slice_set mid.clients c b → new.layout ≡ mid.layout → new.graphs ≡ mid.graphs → Untraced mid.log new.log → length new.pool.seats ≡ length mid.pool.seats → Kept mid → Kept new
  one-goes mid new c b below g clients layout graphs log there k =
      let among : c < length mid.clients = subst (λ (n : ℕ). c < n) (sym k.count) below in
      record {
        count = ap (λ (l : List Desk). length l) clients ∙ (length-set mid.clients c b ∙ k.count);
        layout = layout ∙ k.layout;
        graphs = graphs ∙ k.graphs;
        log = record { keeps = log.keeps ∙ k.log.keeps; trace = log.trace ∙ k.log.trace; history_room = log.history_room ∙ k.log.history_room; trace_room = log.trace_room ∙ k.log.trace_room; regions = log.regions ∙ k.log.regions };
        there = there ∙ k.there;
        items = λ j. subst (λ (l : List Desk). (desk_at l j).items ≡ (desk_at mid.clients j).items) (sym clients) (items-set mid.clients c b among (goes-items (desk_at mid.clients c) b g) j) ∙ k.items j;
        serving = λ j. subst (λ (l : List Desk). IsServing y gs (desk_at l j)) (sym clients) (each-set (IsServing y gs) mid.clients c b among (goes-serving y gs (desk_at mid.clients c) b g (k.serving c)) k.serving j);
      }

  -- a column fails
  pub column-fails : (mid new : Array L D) (column : ℕ) → FailedBy lay mid column new → Kept mid → Kept new
  column-fails mid new column f k = record {
    count = f.desks.count ∙ k.count;
    layout = ap (λ (s : Array L D). s.layout) f.is ∙ k.layout;
    graphs = ap (λ (s : Array L D). s.graphs) f.is ∙ k.graphs;
    log = subst (λ (l : Logged). Untraced old.log l) (sym (ap (λ (s : Array L D). s.log) f.is)) k.log;
    there = ap (λ (s : Array L D). length s.pool.seats) f.is ∙ k.there;
    items = λ c. ap (λ (d : Desk). d.items) (f.desks.each c) ∙ (suffered-items (lay.shape mid.layout) mid.cols.states column (desk_at mid.clients c) (desk_at mid.clients c).stage ∙ k.items c);
    serving = λ c. subst (IsServing y gs) (sym (f.desks.each c)) (suffered-serving y (lay.shape mid.layout) gs mid.cols.states column (desk_at mid.clients c) (desk_at mid.clients c).stage (k.serving c));
  }

  -- the event is traced
  pub noted-keeps : (e : Traced) (mid new : Array L D) → new ≡ record mid { log = noted mid.log e } → Kept mid → Keeps lay disk old e new
  noted-keeps e mid new is k = subst (Keeps lay disk old e) (sym is) (record {
    layout = k.layout;
    graphs = k.graphs;
    log = record { keeps = k.log.keeps; trace = again; history_room = k.log.history_room; trace_room = k.log.trace_room; regions = k.log.regions };
    there = k.there;
    items = k.items;
    serving = k.serving;
  })
    where
      again : (noted mid.log e).trace ≡ (noted old.log e).trace
      again = ap (λ (b : Bool). if b then mid.log.trace ++ e ∷ [] else mid.log.trace) k.log.keeps ∙ ap (λ (t : List Traced). if old.log.keeps then t ++ e ∷ [] else t) k.log.trace

  -- so that a sound core is steady after a traced event
  pub traced-steady : (e : Traced) (mid new : Array L D) → IsEvent e → new ≡ record mid { log = noted mid.log e } → Kept mid → IsSound lay disk new → Follows lay disk old e new → IsSteady lay disk new
  traced-steady e mid new is noting k sound follows = steady-on lay disk old new e is steady sound follows (noted-keeps e mid new noting k)
