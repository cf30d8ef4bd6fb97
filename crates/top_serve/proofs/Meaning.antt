-- What the world in which a run comes to rest means: of its blocks, its history and its columns.
use Rattle.std.proofs.Common.{◌≡◌, ℕ, ◌<◌, List, length, Option, Some, None, refl, sym, ◌∙◌, arith}
use Rattle.std.proofs.lemmas.Option.{slice_get_within}
use Rattle.blk_plain.specs.declared.op.Op.{Op}
use Rattle.lay_core.specs.Layout.{Shape, IsLayout, Blocks}
use Rattle.eng_cols.specs.declared.spot.Spot.{Spot}
use Rattle.eng_cols.specs.declared.spot.Loss.{Loss}
use Rattle.eng_cols.specs.Cols.{ColumnState}
use Rattle.eng_cols.specs.Seats.{spot}
use Rattle.eng_cols.specs.Contents.{Contents, byte_of, InSync, Agrees, AnyStripe}
use Rattle.eng_cols.specs.Lost.{NotLost}
use Rattle.eng_cols.proofs.Sums.{below_same}
use Rattle.eng_world.specs.declared.item.Traced.{Traced}
use Rattle.eng_world.specs.World.{Running, World, RunsAs}
use Rattle.eng_world.specs.Plain.{replay}
use Rattle.eng_world.specs.Planning.{Graphs, Promises}
use Rattle.eng_world.specs.Step.{IsOpening, EventsLead}
use Rattle.eng_world.specs.Legal.{AreOps, RepliesFit}
use Rattle.eng_world.specs.Invariant.{IsTold, AllReplied, Invariant, Reached}
use Rattle.eng_world.proofs.Promised.{not-lost, encodes, reached-told, reached-fit, reached-replied}
use Rattle.eng_world.proofs.Reaching.{reaches}
use Rattle.eng_cols.proofs.Words.{byte_if}

-- the same bytes in all sectors
abbrev pub SameBytes : Contents → Contents → Type 0
SameBytes a b = (d n k : ℕ) → k < 512 → a d n k ≡ b d n k

module _ (y : Shape) (a b : Contents) (same : SameBytes a b) (cols : List ColumnState) where
  byte-same : (o : Option Spot) (p k : ℕ) → k < 512 → byte_if y a o p k ≡ byte_if y b o p k
  byte-same None p k kb = refl
  byte-same (Some at) p k kb = same at.device _ k kb

  pub sync-same : InSync y a cols → InSync y b cols
  sync-same sync s p k sb pb kb checked every =
      below_same (λ i. byte_of y b cols s i p k) (λ i. byte_of y a cols s i p k) y.width (λ i ib. sym (byte-same (spot y cols s i) p k kb)) ∙ sync s p k sb pb kb checked every

  pub agrees-same : (blocks : Blocks) (stripes : ℕ → Type 0) → Agrees y a cols blocks stripes → Agrees y b cols blocks stripes
  agrees-same blocks stripes h s i sb in_it ib at p k av is pb kb = sym (same at.device _ k kb) ∙ h s i sb in_it ib at p k av is pb kb

module _ (y : Shape) (graphs : Graphs) (layout : IsLayout y) (promises : Promises graphs) (start : World) (opening : IsOpening y start) (events : List Traced) (now : World) (run : EventsLead y graphs start events now) where
  reached : Reached y (InSync y start.contents start.columns) start.blocks now
  reached = reaches y layout graphs promises start events now opening run

  pub told : IsTold start.blocks now
  told = reached-told y (InSync y start.contents start.columns) start.blocks now reached

  pub fits : InSync y start.contents start.columns → RepliesFit start.blocks now
  fits sync = reached-fit y (InSync y start.contents start.columns) start.blocks now reached sync

  pub lost-replied : (loss : Loss) → now.lost ≡ Some loss → AllReplied now
  lost-replied loss is = reached-replied y (InSync y start.contents start.columns) start.blocks now loss reached is

  pub invariant : now.lost ≡ None → Invariant y (InSync y start.contents start.columns) start.blocks now
  invariant none = not-lost y (InSync y start.contents start.columns) start.blocks now reached none

  pub keeps-all : now.lost ≡ None → NotLost y now.columns
  keeps-all none = (invariant none).control.not_lost

  -- once each item has its reply nothing runs
  none-runs : now.lost ≡ None → AllReplied now → (c : ℕ) (r : Running) → RunsAs now c r → ⊥
  none-runs none all c r runs =
      let served = (invariant none).control.served c r runs in
      let within = slice_get_within (now.clients c).items (length (now.clients c).replies) _ served.item in
      let every = all c in
      omega (arith, within, every)

  -- so each stripe is idle, and encodes what the history makes
  pub agrees-all : now.lost ≡ None → AllReplied now → InSync y start.contents start.columns → (ops : List Op) × AreOps now now.history ops × Agrees y now.contents now.columns (replay start.blocks ops) AnyStripe
  agrees-all none all sync =
      let e = encodes y (InSync y start.contents start.columns) start.blocks now (invariant none) sync in
      (e.ops, e.are_ops, λ s i sb any ib at p k av is pb kb. e.encodes s i sb (λ c r runs has. absurd (none-runs none all c r runs)) ib at p k av is pb kb)
