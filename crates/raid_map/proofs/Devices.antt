-- A device that is in use as an array is opened stays in its column or fails, while the array isn't lost; so no rebuild onto it begins, and it has one column.
use Rattle.std.proofs.Common.{rules, ◌≡◌, ◌≢◌, ◌⊎◌, inl, inr, ℕ, List, [], ◌∷◌, Bool, true, false, Option, Some, None, slice_get, slice_set, refl, sym, ◌∙◌, ap, subst}
use Rattle.std.specs.Prelude.{Contains, ◌||◌, ◌==◌}
use Rattle.std.proofs.lemmas.Bool.{cases_eq}
use Rattle.blk_plain.specs.declared.op.Op.{Op}
use Rattle.blk_plain.specs.declared.op.Op.TheVariants as op
use Rattle.lay_core.specs.Layout.{Shape, IsLayout}
use Rattle.eng_cols.specs.declared.spot.Loss.{Loss}
use Rattle.eng_cols.specs.Cols.{ColumnState, Live, Dead, Filling, HasDevice}
use Rattle.eng_cols.specs.Changes.{killed}
use Rattle.eng_cols.specs.Contents.{InSync}
use Rattle.eng_cols.proofs.Lists.{get_set_other}
use Rattle.eng_world.specs.declared.item.Traced.{Traced}
use Rattle.eng_world.specs.declared.item.Traced.TheVariants as event
use Rattle.eng_world.specs.World.{Running, World, SameColumns}
use Rattle.eng_world.specs.Planning.{Graphs, Promises}
use Rattle.eng_world.specs.Failing.{FailsColumn, is_device_of}
use Rattle.eng_world.specs.Nodes.{ColumnsAfter}
use Rattle.eng_world.specs.Step.{IsOpening, Step, StepBy, EventsLead, column_begun}
use Rattle.eng_world.specs.Rows.{HasHad}
use Rattle.eng_world.specs.Invariant.{Invariant}
use Rattle.eng_world.proofs.Rebuilt.{rebuilt-device}
use Rattle.eng_world.proofs.Moves.{Move, Moves, one, two, replies, waits, takes, fires, skips, works, commits, ends, fails, anew, gives, dies, starts, home, moves}
use Rattle.eng_world.proofs.Reaching.{reaches}
use Rattle.eng_world.proofs.Promised.{not-lost}
use Rattle.raid_map.proofs.Holding.{cons-cases, in-none}

-- each of these devices is in its column, or has failed
abbrev pub StayOrFail : List ColumnState → World → Type 0
StayOrFail cols w = (c d : ℕ) → HasDevice cols c d → HasDevice w.columns c d ⊎ (w.failed d ≡ true)

or-right : (a b : Bool) → b ≡ true → (a || b) ≡ true
or-right true b h = refl
or-right false b h = h

or-left : (a b : Bool) → a ≡ true → (a || b) ≡ true
or-left true b h = refl
or-left false b h = let u : ⊥ = cc in absurd u

device-is : (o : Option ColumnState) (d : ℕ) → (o ≡ Some (Live d)) ⊎ ((done : List Bool) × (o ≡ Some (Filling d done))) → is_device_of o d ≡ true
device-is o d (inl h) = ap (λ z. is_device_of z d) h ∙ same d
  where
    same : (d : ℕ) → (d == d) ≡ true
    same d = search rules
device-is o d (inr h) = ap (λ z. is_device_of z d) h.1 ∙ same d
  where
    same : (d : ℕ) → (d == d) ≡ true
    same d = search rules

some-not : {A : Type 0} {X : Type 0} {x : X} → None ≡ Some x → A
some-not h = absurd (let u : ⊥ = cc in u)

module _ (cols : List ColumnState) (y : Shape) (graphs : Graphs) (Known : World → Type 0) where
  same-used : (old new : World) → SameColumns old new → StayOrFail cols old → StayOrFail cols new
  same-used old new f h c d has = elim (h c d has) [
    | inl q ↦ inl (subst (λ cs. HasDevice cs c d) (sym f.columns) q)
    | inr q ↦ inr (f.failed d ∙ q)
  ]

  after-used : (o : Op) (r : Running) (old new : World) → ColumnsAfter y o r old new → (c d : ℕ) → HasDevice old.columns c d → HasDevice new.columns c d
  after-used (op.Write span pattern) r old new h c d has = subst (λ cs. HasDevice cs c d) (sym h.0) has
  after-used (op.Writes patches) r old new h c d has = subst (λ cs. HasDevice cs c d) (sym h.0) has
  after-used (op.Read span) r old new h c d has = subst (λ cs. HasDevice cs c d) (sym h.0) has
  after-used (op.Sync stripe) r old new h c d has = subst (λ cs. HasDevice cs c d) (sym h.0) has
  after-used (op.Rebuild stripe) r old new (inl h) c d has = rebuilt-device y stripe h.0 old.columns new.columns h.4 c d has
  after-used (op.Rebuild stripe) r old new (inr h) c d has = subst (λ cs. HasDevice cs c d) (sym h.1.0) has

  dies-used : (c : ℕ) (old new : World) → FailsColumn y c old new → StayOrFail cols old → StayOrFail cols new
  dies-used c old new f h k d has = elim (h k d has) [
    | inr q ↦ inr (f.failed d ∙ or-left (old.failed d) _ q)
    | inl q ↦ elim (cases_eq k c) [
      | inl e ↦ inr (f.failed d ∙ or-right (old.failed d) _ (device-is (slice_get old.columns c) d (subst (λ z. HasDevice old.columns z d) e q)))
      | inr ne ↦ inl (subst (λ cs. HasDevice cs k d) (sym f.columns) (kept q ne))
    ]
  ]
    where
      kept : HasDevice old.columns k d → k ≢ c → HasDevice (killed old.columns c) k d
      kept (inl z) ne = inl (get_set_other old.columns c k Dead ne ∙ z)
      kept (inr z) ne = inr (z.0, get_set_other old.columns c k Dead ne ∙ z.1)

  begun-used : (c : ℕ) (x : ColumnState) (old new : World) → slice_get old.columns c ≡ Some Dead → new.columns ≡ slice_set old.columns c x → ((d : ℕ) → new.failed d ≡ old.failed d) → StayOrFail cols old → StayOrFail cols new
  begun-used c x old new dead is failed h k d has = elim (h k d has) [
    | inr q ↦ inr (failed d ∙ q)
    | inl q ↦ inl (subst (λ cs. HasDevice cs k d) (sym is) (kept q))
  ]
    where
      apart : HasDevice old.columns k d → k ≢ c
      apart (inl z) e = let w : Some Dead ≡ Some (Live d) = sym dead ∙ ap (slice_get old.columns) (sym e) ∙ z in let u : ⊥ = cc in u
      apart (inr z) e = let w : Some Dead ≡ Some (Filling d z.0) = sym dead ∙ ap (slice_get old.columns) (sym e) ∙ z.1 in let u : ⊥ = cc in u

      kept : HasDevice old.columns k d → HasDevice (slice_set old.columns c x) k d
      kept (inl z) = inl (get_set_other old.columns c k x (apart (inl z)) ∙ z)
      kept (inr z) = inr (z.0, get_set_other old.columns c k x (apart (inr z)) ∙ z.1)

  move-used : (e : Traced) (old new : World) → ((c : ℕ) → column_begun e ≡ Some c → ⊥)
      → Move y graphs Known e old new → (old.lost ≡ None → StayOrFail cols old) → new.lost ≡ None → StayOrFail cols new
  move-used e old new quiet (replies c q asked known is ne idle f) h lost = same-used old new f.only.columns (h (sym f.only.columns.lost ∙ lost))
  move-used e old new quiet (waits c a way known asks nothing g only pool) h lost = same-used old new only.columns (h (sym only.columns.lost ∙ lost))
  move-used e old new quiet (takes c known f) h lost = same-used old new f.only.columns (h (sym f.only.columns.lost ∙ lost))
  move-used e old new quiet (fires c m known f) h lost = same-used old new f.only.columns (h (sym f.only.columns.lost ∙ lost))
  move-used e old new quiet (skips c m known f) h lost = same-used old new f.only.columns (h (sym f.only.columns.lost ∙ lost))
  move-used e old new quiet (works c m known f) h lost = same-used old new f.columns (h (sym f.columns.lost ∙ lost))
  move-used e old new quiet (commits c m known f) h lost = same-used old new f.columns (h (sym f.columns.lost ∙ lost))
  move-used e old new quiet (ends c m known f) h lost = λ k d has. elim (h (sym f.lost ∙ lost) k d has) [ inl q ↦ inl (after-used f.op f.was old new f.after k d q) | inr q ↦ inr (f.failed d ∙ q) ]
  move-used e old new quiet (fails c m at bad known f) h lost = same-used old new f.columns (h (sym f.columns.lost ∙ lost))
  move-used e old new quiet (anew c p known can is b) h lost = same-used old new b.only.columns (h (sym b.only.columns.lost ∙ lost))
  move-used e old new quiet (gives c p g known can is b) h lost = same-used old new b.only.columns (h (sym b.only.columns.lost ∙ lost))
  move-used e old new quiet (dies c none alive f) h lost = dies-used c old new f (h none)
  move-used e old new quiet (starts c begun why known f from sp) h lost = absurd (quiet c why)
  move-used e old new quiet (home c m good was loss is f failed columns) h lost = some-not (sym lost ∙ f.lost ∙ is)

  moves-used : (e : Traced) (old new : World) → ((c : ℕ) → column_begun e ≡ Some c → ⊥)
      → Moves y graphs Known e old new → (old.lost ≡ None → StayOrFail cols old) → new.lost ≡ None → StayOrFail cols new
  moves-used e old new quiet (one m) h lost = move-used e old new quiet m h lost
  moves-used e old new quiet (two mid m c none alive f) h lost = dies-used c mid new f (move-used e old mid quiet m h none)

  fill-used : (c d count : ℕ) (old new : World) (lost : Option Loss) → old.lost ≡ lost → StepBy y graphs lost (event.Fill c d count) old new → (old.lost ≡ None → StayOrFail cols old) → StayOrFail cols new
  fill-used c d count old new None is f h = begun-used c _ old new f.dead f.starts.columns f.starts.failed (h is)
  fill-used c d count old new (Some loss) is f h = absurd f

  spread-used : (c : ℕ) (old new : World) (lost : Option Loss) → old.lost ≡ lost → StepBy y graphs lost (event.Spread c) old new → (old.lost ≡ None → StayOrFail cols old) → StayOrFail cols new
  spread-used c old new None is f h = begun-used c _ old new f.dead f.starts.columns f.starts.failed (h is)
  spread-used c old new (Some loss) is f h = absurd f

  resume-used : (c count : ℕ) (old new : World) (lost : Option Loss) → old.lost ≡ lost → StepBy y graphs lost (event.Resume c count) old new → (old.lost ≡ None → StayOrFail cols old) → StayOrFail cols new
  resume-used c count old new None is f h = λ k d has. elim (h is k d has) [
    | inl q ↦ inl (subst (λ cs. HasDevice cs k d) (sym f.starts.columns) q)
    | inr q ↦ inr (f.starts.failed d ∙ q)
  ]
  resume-used c count old new (Some loss) is f h = absurd f

  pub step-used : (e : Traced) (old new : World) → (old.lost ≡ None → Known old) → Step y graphs e old new → (old.lost ≡ None → StayOrFail cols old) → new.lost ≡ None → StayOrFail cols new
  step-used (event.Fill c d count) old new known step h lost = fill-used c d count old new old.lost refl step h
  step-used (event.Resume c count) old new known step h lost = resume-used c count old new old.lost refl step h
  step-used (event.Spread c) old new known step h lost = spread-used c old new old.lost refl step h
  step-used (event.Begin id) old new known step h lost = moves-used (event.Begin id) old new (λ k is. let z : None ≡ Some k = is in let u : ⊥ = cc in u) (moves y graphs Known (event.Begin id) old new known step) h lost
  step-used (event.Take id) old new known step h lost = moves-used (event.Take id) old new (λ k is. let z : None ≡ Some k = is in let u : ⊥ = cc in u) (moves y graphs Known (event.Take id) old new known step) h lost
  step-used (event.Fire id n) old new known step h lost = moves-used (event.Fire id n) old new (λ k is. let z : None ≡ Some k = is in let u : ⊥ = cc in u) (moves y graphs Known (event.Fire id n) old new known step) h lost
  step-used (event.Skip id n) old new known step h lost = moves-used (event.Skip id n) old new (λ k is. let z : None ≡ Some k = is in let u : ⊥ = cc in u) (moves y graphs Known (event.Skip id n) old new known step) h lost
  step-used (event.Good id n) old new known step h lost = moves-used (event.Good id n) old new (λ k is. let z : None ≡ Some k = is in let u : ⊥ = cc in u) (moves y graphs Known (event.Good id n) old new known step) h lost
  step-used (event.Bad id n) old new known step h lost = moves-used (event.Bad id n) old new (λ k is. let z : None ≡ Some k = is in let u : ⊥ = cc in u) (moves y graphs Known (event.Bad id n) old new known step) h lost
  step-used (event.Back id) old new known step h lost = moves-used (event.Back id) old new (λ k is. let z : None ≡ Some k = is in let u : ⊥ = cc in u) (moves y graphs Known (event.Back id) old new known step) h lost
  step-used (event.Fail c) old new known step h lost = moves-used (event.Fail c) old new (λ k is. let z : None ≡ Some k = is in let u : ⊥ = cc in u) (moves y graphs Known (event.Fail c) old new known step) h lost

-- A device that was in use is in its column, or has failed.
module _ (y : Shape) (layout : IsLayout y) (graphs : Graphs) (promises : Promises graphs) (opening : World) (o : IsOpening y opening) where
  abbrev sync : Type 0
  sync = InSync y opening.contents opening.columns

  known : (events : List Traced) (now : World) → EventsLead y graphs opening events now → now.lost ≡ None → Invariant y sync opening.blocks now
  known events now h none = not-lost y sync opening.blocks now (reaches y layout graphs promises opening events now o h) none

  used-run : (events : List Traced) (now : World) → EventsLead y graphs opening events now → now.lost ≡ None → StayOrFail opening.columns now
  used-run [] now h none = λ c d has. inl (subst (λ (w : World). HasDevice w.columns c d) (sym h) has)
  used-run (e ∷ events) now h none = step-used opening.columns y graphs (Invariant y sync opening.blocks) e h.0 now (known events h.0 h.1) h.2 (used-run events h.0 h.1) none

  fill-fresh : (c d count : ℕ) (old new : World) → (lost : Option Loss) → old.lost ≡ lost → StepBy y graphs lost (event.Fill c d count) old new → (old.lost ≡ None → StayOrFail opening.columns old) → (k : ℕ) → HasDevice opening.columns k d → ⊥
  fill-fresh c d count old new None is f h k has = elim (h is k d has) [ inl q ↦ f.unused k q | inr q ↦ let z : true ≡ false = sym q ∙ f.unfailed in let u : ⊥ = cc in u ]
  fill-fresh c d count old new (Some loss) is f h k has = f

  -- no rebuild onto it begins
  pub none-fills : (events : List Traced) (now : World) → EventsLead y graphs opening events now → (c d count k : ℕ) → Contains events (event.Fill c d count) → HasDevice opening.columns k d → ⊥
  none-fills [] now h c d count k has device = in-none (event.Fill c d count) has
  none-fills (e ∷ events) now h c d count k has device = elim (cons-cases e events (event.Fill c d count) has) [
    | inr q ↦ none-fills events h.0 h.1 c d count k q device
    | inl is ↦ fill-fresh c d count h.0 now h.0.lost refl (subst (λ z. Step y graphs z h.0 now) is h.2) (used-run events h.0 h.1) k device
  ]

  -- so it has one column
  pub one-column : (events : List Traced) (now : World) → EventsLead y graphs opening events now → (c k d : ℕ) → HasHad opening events c d → HasDevice opening.columns k d → c ≡ k
  one-column events now h c k d (inl had) device = o.order.one_column c k d had device
  one-column events now h c k d (inr fill) device = absurd (none-fills events now h c d fill.0 k fill.1 device)
