-- Which device a bad end marks as failed: the one on which the unit of the node stood.
use Rattle.std.proofs.Common.{◌≡◌, inl, inr, ℕ, List, Bool, true, false, Option, Some, None, slice_get, refl, sym, ◌∙◌, ap, subst}
use Rattle.std.specs.Prelude.{◌||◌}
use Rattle.std.proofs.lemmas.Bool.{eqb-true}
use Rattle.blk_plain.specs.declared.op.OpId.{OpId}
use Rattle.lay_core.specs.Layout.{Shape}
use Rattle.graph_mean.specs.declared.step.Status.TheVariants.{Out}
use Rattle.eng_cols.specs.declared.spot.Spot.{Spot}
use Rattle.eng_cols.specs.declared.spot.Loss.{Loss}
use Rattle.eng_cols.specs.Cols.{ColumnState, Live, Dead, Filling, Spread, HasDevice}
use Rattle.eng_world.specs.declared.item.Traced.TheVariants as event
use Rattle.eng_world.specs.World.{Running, World, RunsAs}
use Rattle.eng_world.specs.Planning.{Graphs}
use Rattle.eng_world.specs.Failing.{is_device_of, FailsIfAlive}
use Rattle.eng_world.specs.Nodes.{Bads}
use Rattle.eng_world.specs.Step.{LostBad, StepBy, Step}
use Rattle.eng_array.proofs.OnSeats.{EachOnSeat, OnSeat, one-device}

-- the node was out, and its unit stood on this device as it was fired
pub record StoodOn (w : World) (c n d : ℕ) : Type 0 where
  pub was : Running
  pub runs : RunsAs w c was
  pub out : was.node n ≡ Out
  pub at : Spot
  pub fired_at : was.fired_at n ≡ Some at
  pub is : at.device ≡ d

not-both : {A : Type 0} (b : Bool) → b ≡ true → b ≡ false → A
not-both b p q = let z : true ≡ false = sym p ∙ q in absurd (let u : ⊥ = cc in u)

or-second : (a b : Bool) → a ≡ false → (a || b) ≡ true → b ≡ true
or-second true b f h = not-both true refl f
or-second false b f h = h

pub has-of : (cols : List ColumnState) (k d : ℕ) (o : Option ColumnState) → slice_get cols k ≡ o → is_device_of o d ≡ true → HasDevice cols k d
has-of cols k d (Some (Live device)) e h = inl (e ∙ ap (λ j. Some (Live j)) (sym (eqb-true d device h)))
has-of cols k d (Some (Filling device done)) e h = inr (done, e ∙ ap (λ j. Some (Filling j done)) (sym (eqb-true d device h)))
has-of cols k d (Some Dead) e h = not-both false h refl
has-of cols k d (Some (Spread done)) e h = not-both false h refl
has-of cols k d None e h = not-both false h refl

module _ (y : Shape) (graphs : Graphs) (old new : World) (seats : EachOnSeat y old) (id : OpId) (n d : ℕ) (before : old.failed d ≡ false) (after : new.failed d ≡ true) where
  bads : Bads y id.client n old new → StoodOn old id.client n d
  bads f = record { was = f.node.was; runs = f.node.finishes.runs; out = f.node.finishes.out; at = f.at; fired_at = f.node.at_is; is = by f.column }
    where
      still : f.mid.failed d ≡ false
      still = f.node.columns.failed d ∙ before

      on : OnSeat y old f.at
      on = seats id.client n f.node.was f.at f.node.finishes.runs f.node.finishes.out f.node.at_is

      by : FailsIfAlive y f.at.column f.mid new → f.at.device ≡ d
      by (inl dead) = not-both (new.failed d) after (ap (λ (w : World). w.failed d) dead.1 ∙ still)
      by (inr (alive, fails)) =
          let hit = or-second (f.mid.failed d) _ still (sym (fails.failed d) ∙ after) in
          let has : HasDevice old.columns f.at.column d = subst (λ (cols : List ColumnState). HasDevice cols f.at.column d) f.node.columns.columns (has-of f.mid.columns f.at.column d (slice_get f.mid.columns f.at.column) refl hit) in
          elim on.1 [
            | inl there ↦ one-device old.columns f.at.column f.at.device d there has
            | inr gone ↦ absurd (gone.1 d has)
          ]

  lost-bad : LostBad y id.client n old new → StoodOn old id.client n d
  lost-bad f = record {
    was = f.was;
    runs = f.home.finishes.runs;
    out = f.home.finishes.out;
    at = f.at;
    fired_at = f.at_is;
    is = sym (eqb-true d f.at.device (or-second (old.failed d) _ before (sym (f.failed d) ∙ after)));
  }

  pub step-blames : Step y graphs (event.Bad id n) old new → StoodOn old id.client n d
  step-blames s = go old.lost s
    where
      go : (o : Option Loss) → StepBy y graphs o (event.Bad id n) old new → StoodOn old id.client n d
      go None h = bads h.1
      go (Some loss) h = lost-bad h.0
