-- How the columns at a stop are tied to those at the start: a unit that stands in a stripe outside the regions stood there, a live column was live on its device, and the columns are in order, also once the array is lost.
use Rattle.std.proofs.Common.{◌≡◌, ◌≢◌, inl, inr, ℕ, List, Bool, true, false, Option, Some, None, slice_get, slice_set, refl, sym, ◌∙◌, ap, subst}
use Rattle.std.proofs.lemmas.Bool.{cases_eq, cases_Bool, cond-true, cond-false}
use Rattle.blk_plain.specs.declared.op.Op.{Op}
use Rattle.blk_plain.specs.declared.op.Op.TheVariants as op
use Rattle.lay_core.specs.Layout.{Shape, Blocks, IsLayout}
use Rattle.graph_mean.specs.declared.graph.Node.{Node}
use Rattle.graph_mean.specs.declared.graph.Node.TheVariants.{Rd, Wr, Xor, Cmt, Trm}
use Rattle.graph_mean.specs.Graph.{View, kind_at}
use Rattle.graph_mean.specs.Steps.{Wrote, stripe_of}
use Rattle.eng_cols.specs.declared.spot.Spot.{Spot}
use Rattle.eng_cols.specs.declared.spot.Loss.{Loss}
use Rattle.eng_cols.specs.Cols.{ColumnState, Live, Dead, Filling, Spread, InOrder}
use Rattle.eng_cols.specs.Seats.{is_available, seat, is_unit_of}
use Rattle.eng_cols.specs.Changes.{killed, done_on, IsEnded}
use Rattle.eng_cols.proofs.Lists.{get_set_other, get_set_same}
use Rattle.eng_cols.proofs.Spots.{available-seat}
use Rattle.eng_cols.proofs.Killing.{available-back, seat-back, order-kept, killed-device}
use Rattle.eng_cols.proofs.Began.{filling-same, filling-kept, spreading-same, spreading-kept}
use Rattle.eng_cols.proofs.Ended.{ended-seat, ended-others, ended-order}
use Rattle.eng_world.specs.declared.item.Traced.{Traced}
use Rattle.eng_world.specs.declared.item.Traced.TheVariants as event
use Rattle.eng_world.specs.World.{World}
use Rattle.eng_world.specs.Planning.{Graphs}
use Rattle.eng_world.specs.Nodes.{Terminates, ColumnsAfter}
use Rattle.eng_world.specs.Step.{Step, StepBy, column_begun}
use Rattle.eng_world.specs.Invariant.{Invariant}
use Rattle.eng_world.proofs.KeepsEnd.{first}
use Rattle.eng_world.proofs.Moves.{Move, Moves, one, two, replies, waits, takes, fires, skips, works, commits, ends, fails, anew, gives, dies, starts, home, moves}
use Rattle.raid_map.specs.Regions.{region_of}
use Rattle.raid_map.specs.Mapped.{Covers}
use Rattle.eng_world.proofs.Words.{columns_of}

some-same : {X : Type 0} {a b : X} → Some a ≡ Some b → a ≡ b
some-same h = cc

-- a node that writes a sector is a write
wrote-kind : (g : View) (node : Node) (s i o : ℕ) → Wrote g node s i o → (unit : ℕ) × (buf : ℕ) × (node ≡ Wr unit buf) × (stripe_of g buf ≡ s)
wrote-kind g (Wr unit buf) s i o h = (unit, buf, refl, h.1)
wrote-kind g (Rd unit buf) s i o h = absurd h
wrote-kind g (Xor to) s i o h = absurd h
wrote-kind g Cmt s i o h = absurd h
wrote-kind g Trm s i o h = absurd h

done-live : (o : Option ColumnState) (s d : ℕ) → done_on o s ≡ Some (Live d) → o ≡ Some (Live d)
done-live (Some (Live device)) s d h = h
done-live (Some (Filling device done)) s d h = absurd (let u : ⊥ = cc in u)
done-live (Some (Spread done)) s d h = absurd (let u : ⊥ = cc in u)
done-live (Some Dead) s d h = absurd (let u : ⊥ = cc in u)
done-live None s d h = absurd (let u : ⊥ = cc in u)

module _ (y : Shape) (layout : IsLayout y) (regions : ℕ → Bool) (cols : List ColumnState) where
  pub record TiedTo (now : List ColumnState) : Type 0 where
    pub units : (t i : ℕ) (at : Spot) → regions (region_of y.stripes t) ≡ false → is_available y now t i ≡ true → seat y now t i ≡ Some at → (is_available y cols t i ≡ true) × (seat y cols t i ≡ Some at)
    pub live : (c d : ℕ) → slice_get now c ≡ Some (Live d) → slice_get cols c ≡ Some (Live d)
    pub order : InOrder now

  pub tied-refl : InOrder cols → TiedTo cols
  tied-refl order = record { units = λ t i at not av is. (av, is); live = λ c d h. h; order = order }

  same-tied : (old new : List ColumnState) → new ≡ old → TiedTo old → TiedTo new
  same-tied old new e h = subst TiedTo (sym e) h

  killed-tied : (old : List ColumnState) (k : ℕ) → TiedTo old → TiedTo (killed old k)
  killed-tied old k h = record {
    units = λ t i at not av is. h.units t i at not (available-back y old k t i av) (seat-back y old k t i at is);
    live = λ c d is. h.live c d (elim (cases_eq c k) [
      | inl e ↦ absurd (killed-device old k d (inl (ap (slice_get (killed old k)) (sym e) ∙ is)))
      | inr ne ↦ sym (get_set_other old k c Dead ne) ∙ is
    ]);
    order = order-kept old k h.order;
  }

  begun-tied : (old : List ColumnState) (c : ℕ) (x : ColumnState) → slice_get old c ≡ Some Dead → ((d : ℕ) → x ≡ Live d → ⊥)
      → ((t i : ℕ) → is_available y (slice_set old c x) t i ≡ is_available y old t i) → ((t i : ℕ) (at : Spot) → seat y old t i ≡ Some at → seat y (slice_set old c x) t i ≡ Some at)
      → InOrder (slice_set old c x) → TiedTo old → TiedTo (slice_set old c x)
  begun-tied old c x dead not-live same kept order h = record {
    units = λ t i at not av is.
        let was = sym (same t i) ∙ av in
        let a = available-seat y old t i was in
        let e = some-same (sym (kept t i a.0 a.1) ∙ is) in
        h.units t i at not was (a.1 ∙ ap Some e);
    live = λ k d is. h.live k d (elim (cases_eq k c) [
      | inl e ↦ absurd (not-live d (some-same (sym (get_set_same old c Dead x dead) ∙ ap (slice_get (slice_set old c x)) (sym e) ∙ is)))
      | inr ne ↦ sym (get_set_other old c k x ne) ∙ is
    ]);
    order = order;
  }

  ended-tied : (s i : ℕ) (old new : List ColumnState) → IsEnded y s i old new → regions (region_of y.stripes s) ≡ true → TiedTo old → TiedTo new
  ended-tied s i old new e marked h = record {
    units = λ t j at not av is. h.units t j at not (sym (ended-others y s i old new e t j (other t not)) ∙ av) (sym (ended-seat y s i old new e t j) ∙ is);
    live = λ c d is. h.live c d (elim (cases_Bool (is_unit_of y old s i c)) [
      | inl t ↦ done-live (slice_get old c) s d (sym (e c ∙ cond-true (is_unit_of y old s i c) _ _ t) ∙ is)
      | inr t ↦ sym (e c ∙ cond-false (is_unit_of y old s i c) _ _ t) ∙ is
    ]);
    order = ended-order y s i old new e h.order;
  }
    where
      other : (t : ℕ) → regions (region_of y.stripes t) ≡ false → t ≢ s
      other t not is = let z : true ≡ false = sym marked ∙ ap (λ v. regions (region_of y.stripes v)) (sym is) ∙ not in let u : ⊥ = cc in u

  module _ (in_sync : Type 0) (start : Blocks) (graphs : Graphs) where
    abbrev Known : World → Type 0
    Known w = Invariant y in_sync start w

    ends-tied : (c n : ℕ) (old new : World) → Known old → Covers y regions old → Terminates y c n old new → TiedTo old.columns → TiedTo new.columns
    ends-tied c n old new inv covers f h = go f.op refl f.after
      where
        go : (o : Op) → f.op ≡ o → ColumnsAfter y o f.was old new → TiedTo new.columns
        go (op.Write span pattern) is z = same-tied old.columns new.columns z.0 h
        go (op.Writes patches) is z = same-tied old.columns new.columns z.0 h
        go (op.Read span) is z = same-tied old.columns new.columns z.0 h
        go (op.Sync stripe) is z = same-tied old.columns new.columns z.0 h
        go (op.Rebuild stripe) is (inr z) = same-tied old.columns new.columns z.1.0 h
        go (op.Rebuild stripe) is (inl z) =
            let own = first y layout in_sync start c n old new inv f stripe z.0 is z.1 z.3 z.4 in
            let w = z.3.good 0 layout.unit_least in
            let k = wrote-kind f.was.plan.graph (kind_at f.was.plan.graph w.0) 0 z.0 0 w.1.1 in
            ended-tied stripe z.0 old.columns new.columns z.4
            (ap (λ v. regions (region_of y.stripes v)) (sym own.1) ∙ ap (λ v. regions (region_of y.stripes (f.was.plan.stripe v))) (sym k.3) ∙ covers c w.0 k.0 k.1 f.was f.finishes.runs k.2) h

    move-tied : (e : Traced) (old new : World) → ((c : ℕ) → column_begun e ≡ Some c → ⊥) → Covers y regions old → Move y graphs Known e old new → TiedTo old.columns → TiedTo new.columns
    move-tied e old new quiet covers (replies c q asked known is ne idle f) h = same-tied old.columns new.columns f.only.columns.columns h
    move-tied e old new quiet covers (waits c a way known asks nothing g only pool) h = same-tied old.columns new.columns only.columns.columns h
    move-tied e old new quiet covers (takes c known f) h = same-tied old.columns new.columns f.only.columns.columns h
    move-tied e old new quiet covers (fires c n known f) h = same-tied old.columns new.columns f.only.columns.columns h
    move-tied e old new quiet covers (skips c n known f) h = same-tied old.columns new.columns f.only.columns.columns h
    move-tied e old new quiet covers (works c n known f) h = same-tied old.columns new.columns f.columns.columns h
    move-tied e old new quiet covers (commits c n known f) h = same-tied old.columns new.columns f.columns.columns h
    move-tied e old new quiet covers (ends c n known f) h = ends-tied c n old new known covers f h
    move-tied e old new quiet covers (fails c n at bad known f) h = same-tied old.columns new.columns f.columns.columns h
    move-tied e old new quiet covers (anew c o known can is b) h = same-tied old.columns new.columns b.only.columns.columns h
    move-tied e old new quiet covers (gives c o g known can is b) h = same-tied old.columns new.columns b.only.columns.columns h
    move-tied e old new quiet covers (dies c none alive f) h = subst TiedTo (sym f.columns) (killed-tied old.columns c h)
    move-tied e old new quiet covers (starts c begun why known f had sp) h = absurd (quiet c why)
    move-tied e old new quiet covers (home c n good was loss is f failed columns) h = elim columns [ inl z ↦ same-tied old.columns new.columns z h | inr z ↦ subst TiedTo (sym z.1) (killed-tied old.columns z.0 h) ]

    moves-tied : (e : Traced) (old new : World) → ((c : ℕ) → column_begun e ≡ Some c → ⊥) → Covers y regions old → Moves y graphs Known e old new → TiedTo old.columns → TiedTo new.columns
    moves-tied e old new quiet covers (one m) h = move-tied e old new quiet covers m h
    moves-tied e old new quiet covers (two mid m c none alive f) h = subst TiedTo (sym f.columns) (killed-tied mid.columns c (move-tied e old mid quiet covers m h))

    fill-tied : (c d count : ℕ) (old new : World) (lost : Option Loss) → old.lost ≡ lost → (new.lost ≡ None → Known new) → StepBy y graphs lost (event.Fill c d count) old new → TiedTo old.columns → TiedTo new.columns
    fill-tied c d count old new (Some loss) is known f h = absurd f
    fill-tied c d count old new None is known f h =
        let z = f.starts in
        subst TiedTo (sym z.columns) (begun-tied old.columns c _ f.dead (λ k e. let u : ⊥ = cc in u) (filling-same y (columns_of y old) c f.dead d) (filling-kept y (columns_of y old) c f.dead d) (subst InOrder z.columns (known (z.lost ∙ is)).control.order) h)

    spread-tied : (c : ℕ) (old new : World) (lost : Option Loss) → old.lost ≡ lost → (new.lost ≡ None → Known new) → StepBy y graphs lost (event.Spread c) old new → TiedTo old.columns → TiedTo new.columns
    spread-tied c old new (Some loss) is known f h = absurd f
    spread-tied c old new None is known f h =
        let z = f.starts in
        subst TiedTo (sym z.columns) (begun-tied old.columns c _ f.dead (λ k e. let u : ⊥ = cc in u) (spreading-same y (columns_of y old) c f.dead) (spreading-kept y (columns_of y old) c f.dead) (subst InOrder z.columns (known (z.lost ∙ is)).control.order) h)

    -- the columns stay as they are
    resume-tied : (c count : ℕ) (old new : World) (lost : Option Loss) → StepBy y graphs lost (event.Resume c count) old new → TiedTo old.columns → TiedTo new.columns
    resume-tied c count old new (Some loss) f h = absurd f
    resume-tied c count old new None f h = same-tied old.columns new.columns f.starts.columns h

    pub step-tied : (e : Traced) (old new : World) → (old.lost ≡ None → Known old) → (new.lost ≡ None → Known new) → Covers y regions old → Step y graphs e old new → TiedTo old.columns → TiedTo new.columns
    step-tied (event.Fill c d count) old new was known covers step h = fill-tied c d count old new old.lost refl known step h
    step-tied (event.Resume c count) old new was known covers step h = resume-tied c count old new old.lost step h
    step-tied (event.Spread c) old new was known covers step h = spread-tied c old new old.lost refl known step h
    step-tied (event.Begin id) old new was known covers step h = moves-tied (event.Begin id) old new (λ k is. let z : None ≡ Some k = is in let u : ⊥ = cc in u) covers (moves y graphs Known (event.Begin id) old new was step) h
    step-tied (event.Take id) old new was known covers step h = moves-tied (event.Take id) old new (λ k is. let z : None ≡ Some k = is in let u : ⊥ = cc in u) covers (moves y graphs Known (event.Take id) old new was step) h
    step-tied (event.Fire id n) old new was known covers step h = moves-tied (event.Fire id n) old new (λ k is. let z : None ≡ Some k = is in let u : ⊥ = cc in u) covers (moves y graphs Known (event.Fire id n) old new was step) h
    step-tied (event.Skip id n) old new was known covers step h = moves-tied (event.Skip id n) old new (λ k is. let z : None ≡ Some k = is in let u : ⊥ = cc in u) covers (moves y graphs Known (event.Skip id n) old new was step) h
    step-tied (event.Good id n) old new was known covers step h = moves-tied (event.Good id n) old new (λ k is. let z : None ≡ Some k = is in let u : ⊥ = cc in u) covers (moves y graphs Known (event.Good id n) old new was step) h
    step-tied (event.Bad id n) old new was known covers step h = moves-tied (event.Bad id n) old new (λ k is. let z : None ≡ Some k = is in let u : ⊥ = cc in u) covers (moves y graphs Known (event.Bad id n) old new was step) h
    step-tied (event.Back id) old new was known covers step h = moves-tied (event.Back id) old new (λ k is. let z : None ≡ Some k = is in let u : ⊥ = cc in u) covers (moves y graphs Known (event.Back id) old new was step) h
    step-tied (event.Fail c) old new was known covers step h = moves-tied (event.Fail c) old new (λ k is. let z : None ≡ Some k = is in let u : ⊥ = cc in u) covers (moves y graphs Known (event.Fail c) old new was step) h
