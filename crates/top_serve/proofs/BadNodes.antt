-- A node that goes bad was out on a device, and that has failed.
use Rattle.std.proofs.Common.{◌≡◌, inl, inr, ℕ, List, [], ◌∷◌, ◌++◌, true, Option, Some, None, slice_get, refl, sym, ◌∙◌, ap, subst}
use Rattle.std.proofs.lemmas.Bool.{eq-eqb}
use Rattle.blk_plain.specs.declared.op.OpId.{OpId}
use Rattle.lay_core.specs.Layout.{Shape, IsLayout}
use Rattle.eng_cols.specs.declared.spot.Loss.{Loss}
use Rattle.eng_cols.specs.Cols.{ColumnState, HasDevice}
use Rattle.eng_world.specs.declared.item.Traced.{Traced}
use Rattle.eng_world.specs.declared.item.Traced.TheVariants as event
use Rattle.eng_world.specs.World.{World}
use Rattle.eng_world.specs.Planning.{Graphs, Promises}
use Rattle.eng_world.specs.Failing.{FailsIfAlive}
use Rattle.eng_world.specs.Nodes.{Bads}
use Rattle.eng_world.specs.Step.{IsNow, IsOpening, LostBad, StepBy, Step, EventsLead}
use Rattle.eng_world.proofs.Continuing.{step-continues}
use Rattle.eng_world.proofs.Placed.{only-rows}
use Rattle.top_serve.specs.Caused.{WentBadOn}
use Rattle.top_serve.proofs.Columns.{AreOwn}
use Rattle.top_serve.proofs.Died.{has-is, dead-none, or-right, own-had, run-has}
use Rattle.top_serve.proofs.Meaning.{invariant}

-- it went bad on a device that has failed since
abbrev pub WentBad : Shape → Graphs → World → List Traced → OpId → ℕ → List Traced → World → Type 0
WentBad y graphs start before id node later now = (d : ℕ) × WentBadOn y graphs start.columns start before id node later now d × (now.failed d ≡ true)

module _ (y : Shape) (graphs : Graphs) (layout : IsLayout y) (promises : Promises graphs) (start : World) (opening : IsOpening y start) (before : List Traced) (own : AreOwn before) (id : OpId) (node : ℕ) where
  module _ (old : World) (run : EventsLead y graphs start before old) (now : World) (step : Step y graphs (event.Bad id node) old now) where
    in-run : old.lost ≡ None → IsNow old id → Bads y id.client node old now → WentBad y graphs start before id node [] now
    in-run none named f = (
      f.at.device,
      record {
        world = old;
        reached = run;
        leads = (old, refl, step);
        was = f.node.was;
        runs = f.node.finishes.runs;
        index = ((invariant y graphs layout promises start opening before old run none).control.served id.client f.node.was f.node.finishes.runs).index ∙ named;
        call = f.node.call;
        at = f.at;
        fired = f.node.at_is;
        device = refl;
        column = had;
      },
      failed,
    )
      where
        had : HasDevice start.columns f.at.column f.at.device
        had = own-had start before own f.at.column f.at.device ((only-rows y layout graphs promises start before old opening run).placed id.client node f.node.was f.at f.node.finishes.runs f.node.finishes.out f.node.at_is).device

        -- a column that has its device still fails with it
        falls : HasDevice old.columns f.at.column f.at.device → FailsIfAlive y f.at.column f.mid now → now.failed f.at.device ≡ true
        falls has (inl h) = dead-none (slice_get old.columns f.at.column) f.at.device (ap (λ (l : List ColumnState). slice_get l f.at.column) (sym f.node.columns.columns) ∙ h.0) has
        falls has (inr h) =
            h.1.failed f.at.device
            ∙ or-right (f.mid.failed f.at.device) _ (has-is (slice_get f.mid.columns f.at.column) f.at.device (subst (λ (l : List ColumnState). HasDevice l f.at.column f.at.device) (sym f.node.columns.columns) has))

        failed : now.failed f.at.device ≡ true
        failed = elim (run-has y graphs layout promises start opening before old own run f.at.column f.at.device had) [
          | inl still ↦ falls still f.column
          | inr was ↦ (step-continues y graphs (event.Bad id node) old now step).failed f.at.device was
        ]

    once-lost : (f : LostBad y id.client node old now) → f.was.plan.index ≡ id.index → WentBad y graphs start before id node [] now
    once-lost f named = (
      f.at.device,
      record {
        world = old;
        reached = run;
        leads = (old, refl, step);
        was = f.was;
        runs = f.home.finishes.runs;
        index = named;
        call = f.call;
        at = f.at;
        fired = f.at_is;
        device = refl;
        column = own-had start before own f.at.column f.at.device ((only-rows y layout graphs promises start before old opening run).placed id.client node f.was f.at f.home.finishes.runs f.home.finishes.out f.at_is).device;
      },
      f.failed f.at.device ∙ or-right (old.failed f.at.device) _ (eq-eqb f.at.device f.at.device refl),
    )

    here : WentBad y graphs start before id node [] now
    here = go old.lost refl step
      where
        go : (o : Option Loss) → old.lost ≡ o → StepBy y graphs o (event.Bad id node) old now → WentBad y graphs start before id node [] now
        go None none h = in-run none h.0 h.1
        go (Some loss) lost h = once-lost h.0 h.1

  -- so it has been since
  pub went-bad : (later : List Traced) (now : World) → EventsLead y graphs start (later ++ event.Bad id node ∷ before) now → WentBad y graphs start before id node later now
  went-bad [] now run = here run.0 run.1 now run.2
  went-bad (e ∷ later) now run =
      let bad = went-bad later run.0 run.1 in
      let on = bad.1 in (
        bad.0,
        record {
          world = on.world;
          reached = on.reached;
          leads = (run.0, on.leads, run.2);
          was = on.was;
          runs = on.runs;
          index = on.index;
          call = on.call;
          at = on.at;
          fired = on.fired;
          device = on.device;
          column = on.column;
        },
        (step-continues y graphs e run.0 now run.2).failed bad.0 bad.2,
      )
