-- A device that no column has had tells nothing more as a run goes on.
use Rattle.std.proofs.Common.{◌≡◌, ◌≢◌, inl, inr, ℕ, List, Bool, true, Option, Some, None, refl, sym, ◌∙◌, ap, subst}
use Rattle.std.specs.Prelude.{Contains}
use Rattle.lay_core.specs.Layout.{Shape, IsLayout}
use Rattle.graph_mean.specs.declared.graph.Node.{Node}
use Rattle.graph_mean.specs.declared.step.Status.TheVariants.{Out}
use Rattle.graph_mean.specs.Graph.{View, kind_at}
use Rattle.eng_cols.specs.declared.spot.Spot.{Spot}
use Rattle.eng_cols.specs.Contents.{InSync}
use Rattle.eng_world.specs.declared.item.Traced.{Traced}
use Rattle.eng_world.specs.declared.item.Traced.TheVariants as event
use Rattle.eng_world.specs.World.{Running, World, RunsAs}
use Rattle.eng_world.specs.Planning.{Graphs, Promises}
use Rattle.eng_world.specs.Step.{EventsLead, IsOpening}
use Rattle.eng_world.specs.Rows.{HasHad}
use Rattle.eng_world.specs.Invariant.{Invariant}
use Rattle.eng_world.proofs.Clients.{nothing-runs}
use Rattle.eng_world.proofs.Moves.{Move, replies, waits, takes, fires, skips, works, commits, ends, fails, anew, gives, dies, starts, home, kept-on}
use Rattle.eng_world.proofs.Placed.{Stays, stays-on}
use Rattle.eng_world.proofs.Promised.{not-lost}
use Rattle.eng_world.proofs.Reaching.{reaches}
use Rattle.eng_array.specs.declared.start.Start.{Start}
use Rattle.eng_array.specs.declared.start.Start.TheVariants as start
use Rattle.eng_array.specs.Starts.{event_of}
use Rattle.top_serve.specs.Served.{BeginsBy}
use Rattle.top_serve.proofs.Behind.{start-is}
use Rattle.top_serve.proofs.Between.{all-own}
use Rattle.top_labelled.proofs.Kept.{FillsOn}
use Rattle.eng_world.proofs.Words.{Told}

-- the call is another device's
told-same : (y : Shape) (g : View) (node : Node) (at : Option Spot) (answer : Bool) (old new : World) (d : ℕ) → ((s : Spot) → at ≡ Some s → d ≢ s.device) → Told y g node at answer old new → new.calls d ≡ old.calls d
told-same y g node None answer old new d away h = h d
told-same y g node (Some s) answer old new d away h = h.1 d (away s refl)

module _ (y : Shape) (layout : IsLayout y) (graphs : Graphs) (promises : Promises graphs) (opening : World) (o : IsOpening y opening) (all : List Traced) where
  abbrev sync : Type 0
  sync = InSync y opening.contents opening.columns

  abbrev Known : World → Type 0
  Known w = Invariant y sync opening.blocks w

  abbrev Had : ℕ → ℕ → Type 0
  Had = HasHad opening all

  record IsQuiet (w : World) : Type 0 where
    stays : Stays y Had opening w
    calls : (d : ℕ) → ((c : ℕ) → Had c d → ⊥) → w.calls d ≡ opening.calls d

  module _ (old new : World) (d : ℕ) (never : (c : ℕ) → Had c d → ⊥) (s : Stays y Had opening old) where
    away : (c n : ℕ) (was : Running) → RunsAs old c was → was.node n ≡ Out → (at : Spot) → was.fired_at n ≡ Some at → d ≢ at.device
    away c n was runs out at is same = never at.column (subst (λ (k : ℕ). Had at.column k) (sym same) (s.placed c n was at runs out is).device)

    calls-on : (e : Traced) → Move y graphs Known e old new → new.calls d ≡ old.calls d
    calls-on e (replies c r asked known is ne idle f) = f.only.devices.calls d
    calls-on e (waits c a way known asks nothing g only pool) = only.devices.calls d
    calls-on e (takes c known f) = f.only.devices.calls d
    calls-on e (fires c n known f) = f.only.devices.calls d
    calls-on e (skips c n known f) = f.only.devices.calls d
    calls-on e (works c n known f) = told-same y f.was.plan.graph (kind_at f.was.plan.graph n) (f.was.fired_at n) true old new d (away c n f.was f.finishes.runs f.finishes.out) f.finishes.told
    calls-on e (commits c n known f) = told-same y f.was.plan.graph (kind_at f.was.plan.graph n) (f.was.fired_at n) true old new d (away c n f.was f.finishes.runs f.finishes.out) f.finishes.told
    calls-on e (ends c n known f) = told-same y f.was.plan.graph (kind_at f.was.plan.graph n) (f.was.fired_at n) true old new d (away c n f.was f.finishes.runs f.finishes.out) f.finishes.told
    calls-on e (fails c n at bad known f) = told-same y f.was.plan.graph (kind_at f.was.plan.graph n) (f.was.fired_at n) f.answer old new d (away c n f.was f.finishes.runs f.finishes.out) f.finishes.told
    calls-on e (anew c p known can is b) = b.only.devices.calls d
    calls-on e (gives c p g known can is b) = b.only.devices.calls d
    calls-on e (dies c none alive f) = f.devices.calls d
    calls-on e (starts c begun why known f from spread) = f.devices.calls d
    calls-on e (home c n good was loss is f failed columns) = told-same y was.plan.graph (kind_at was.plan.graph n) (was.fired_at n) f.answer old new d (away c n was f.finishes.runs f.finishes.out) f.finishes.told

  quiet-on : (e : Traced) → Contains all e → (old new : World) → Move y graphs Known e old new → IsQuiet old → IsQuiet new
  quiet-on e has old new m q = record {
    stays = stays-on y layout sync opening.blocks graphs Had opening e (λ c d count is. inr (count, subst (Contains all) is has)) old new m q.stays;
    calls = λ d never. calls-on old new d never q.stays e m ∙ q.calls d never;
  }

  pub quiet-calls : (now : World) → EventsLead y graphs opening all now → (d : ℕ) → ((c : ℕ) → Had c d → ⊥) → now.calls d ≡ opening.calls d
  quiet-calls now run d never =
      (kept-on y graphs Known IsQuiet opening all quiet-on
      (λ before mid h none. not-lost y sync opening.blocks mid (reaches y layout graphs promises opening before mid o h) none)
      all now (λ e has. has) run
      (record {
        stays = record {
          devices = λ c k h. inl h;
          placed = λ c m r at h out is. nothing-runs (sym (o.unbegun c).1 ∙ h);
          contents = λ k n b outside. refl;
        };
        calls = λ k none. refl;
      })).calls d never

-- what is rebuilt onto a device, of events that begin so
fill-start : (t : Start) (count c d n : ℕ) → event_of t count ≡ event.Fill c d n → FillsOn (Some t) c d
fill-start (start.Fill k device most) count c d n is =
    let z : event.Fill k device count ≡ event.Fill c d n = is in
    let a : k ≡ c = cc in
    let b : device ≡ d = cc in
    (most, ap (λ j. Some (start.Fill j device most)) a ∙ ap (λ j. Some (start.Fill c j most)) b)
fill-start (start.Resume k most) count c d n is = let z : event.Resume k count ≡ event.Fill c d n = is in absurd (let u : ⊥ = cc in u)
fill-start (start.Spread k) count c d n is = let z : event.Spread k ≡ event.Fill c d n = is in absurd (let u : ⊥ = cc in u)

pub fill-is : (how : Option Start) (count : ℕ) (events : List Traced) → BeginsBy how count events → (c d n : ℕ) → Contains events (event.Fill c d n) → FillsOn how c d
fill-is None count events by c d n has = absurd (all-own events by (event.Fill c d n) has)
fill-is (Some t) count events by c d n has =
    let s = start-is (Some t) count by.0 (event.Fill c d n) (all-own by.0 by.2 (event.Fill c d n)) (subst (λ (es : List Traced). Contains es (event.Fill c d n)) by.1 has) in
    let same : s.0 ≡ t = (let z : Some t ≡ Some s.0 = s.1 in cc) in
    fill-start t count c d n (subst (λ (u : Start). event_of u count ≡ event.Fill c d n) same s.2)
