-- A good end of a read, a write or an exclusive-or is one step, whether or not the array is lost.
use Rattle.std.proofs.Common.{◌≡◌, ℕ, ap, ◌∙◌, refl, inl, true, Option, Some, None}
use Rattle.blk_plain.specs.declared.op.OpId.{OpId}
use Rattle.lay_core.specs.Layout.{Shape}
use Rattle.eng_cols.specs.declared.spot.Loss.{Loss}
use Rattle.eng_world.specs.declared.item.Traced.TheVariants as event
use Rattle.eng_world.specs.World.{Running, World}
use Rattle.eng_world.specs.Planning.{Graphs}
use Rattle.eng_world.specs.Nodes.{Works}
use Rattle.eng_world.specs.Step.{IsNow, LostGood, StepBy, Step}

lost-good : (y : Shape) (c n : ℕ) (old new : World) → (h : Works y c n old new) → (g : LostGood y c n old new) × (g.was ≡ h.was)
lost-good y c n old new h = (
  record {
    was = h.was;
    can = h.can;
    home = record {
      next = h.next;
      answer = true;
      answered = refl;
      finishes = h.finishes;
      contents = h.contents;
      goes = h.goes;
      blocks = h.blocks;
      free = h.free;
      rebuilt = h.columns.rebuilt;
      lost = h.columns.lost;
    };
    failed = h.columns.failed;
    columns = h.columns.columns;
  },
  refl,
)

-- the operation that ends it is the one of this name
pub good-step : (y : Shape) (graphs : Graphs) (id : OpId) (n : ℕ) (w x : World) → (h : Works y id.client n w x) → h.was.plan.index ≡ id.index → (w.lost ≡ None → IsNow w id) → Step y graphs (event.Good id n) w x
good-step y graphs id n w x h index now = by w.lost refl
  where
    by : (l : Option Loss) → w.lost ≡ l → StepBy y graphs l (event.Good id n) w x
    by None e = (now e, inl h)
    by (Some loss) e = let g = lost-good y id.client n w x h in (g.0, ap (λ (r : Running). r.plan.index) g.1 ∙ index)
