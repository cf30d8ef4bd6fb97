-- By what a column has died in a run of the clients' own events: an item, or a device of it that has failed.
use Rattle.std.proofs.Common.{◌≡◌, ◌⊎◌, inl, inr, ℕ, List, [], ◌∷◌, Bool, true, false, Option, Some, None, slice_get, slice_set, refl, sym, ◌∙◌, ap, subst}
use Rattle.std.specs.Prelude.{◌||◌}
use Rattle.std.proofs.lemmas.Bool.{cases_eq, cases_Bool, cond-true, cond-false, eq-eqb}
use Rattle.blk_plain.specs.declared.op.Op.{Op}
use Rattle.blk_plain.specs.declared.op.Op.TheVariants as op
use Rattle.blk_plain.specs.declared.op.OpId.{OpId}
use Rattle.lay_core.specs.Layout.{Shape, IsLayout}
use Rattle.eng_cols.specs.declared.spot.Loss.{Loss}
use Rattle.eng_cols.specs.Cols.{ColumnState, Live, Dead, Filling, HasDevice}
use Rattle.eng_cols.specs.Changes.{done_on, IsEnded}
use Rattle.eng_cols.specs.Seats.{is_unit_of}
use Rattle.eng_cols.proofs.Lists.{get_set_other}
use Rattle.eng_world.specs.declared.item.Traced.{Traced}
use Rattle.eng_world.specs.declared.item.Traced.TheVariants as event
use Rattle.eng_world.specs.World.{Running, World}
use Rattle.eng_world.specs.Planning.{Graphs, Promises}
use Rattle.eng_world.specs.Failing.{is_device_of, FailsColumn}
use Rattle.eng_world.specs.Nodes.{ColumnsAfter}
use Rattle.eng_world.specs.Step.{IsOpening, LostBad, StepLost, StepBy, Step, EventsLead, column_begun}
use Rattle.eng_world.specs.Rows.{HasHad}
use Rattle.eng_world.specs.Causes.{HasDied, at_opening, by_item, by_event, by_node}
use Rattle.eng_world.proofs.Caused.{run-died}
use Rattle.eng_world.proofs.Continuing.{step-continues}
use Rattle.eng_world.proofs.Moves.{Move, Moves, one, two, moves, replies, waits, takes, fires, skips, works, commits, ends, fails, anew, gives, dies, starts, home}
use Rattle.eng_world.proofs.Placed.{only-rows}
use Rattle.eng_rest.specs.Left.{IsOwn}
use Rattle.top_serve.specs.Served.{WasFailed}
use Rattle.top_serve.proofs.Columns.{AreOwn, own-quiet, own-rest, own-first}
use Rattle.top_serve.proofs.Begun.{begun-failed}

-- ## Columns and their devices

-- it is a column that has the device
abbrev Has : ℕ → Option ColumnState → Type 0
Has d o = (o ≡ Some (Live d)) ⊎ ((done : List Bool) × (o ≡ Some (Filling d done)))

pub or-right : (a b : Bool) → b ≡ true → (a || b) ≡ true
or-right true b h = refl
or-right false b h = h

pub has-is : (o : Option ColumnState) (d : ℕ) → Has d o → is_device_of o d ≡ true
has-is o d (inl h) = ap (λ z. is_device_of z d) h ∙ eq-eqb d d refl
has-is o d (inr h) = ap (λ z. is_device_of z d) h.1 ∙ eq-eqb d d refl

pub dead-none : {A : Type 0} (o : Option ColumnState) (d : ℕ) → o ≡ Some Dead → Has d o → A
dead-none o d dead (inl h) = let z : Some Dead ≡ Some (Live d) = sym dead ∙ h in absurd (let u : ⊥ = cc in u)
dead-none o d dead (inr h) = let z : Some Dead ≡ Some (Filling d h.0) = sym dead ∙ h.1 in absurd (let u : ⊥ = cc in u)

-- a column has one device
pub one-device : (cols : List ColumnState) (c d e : ℕ) → HasDevice cols c d → HasDevice cols c e → d ≡ e
one-device cols c d e (inl a) (inl b) = let z : Some (Live d) ≡ Some (Live e) = sym a ∙ b in cc
one-device cols c d e (inl a) (inr b) = let z : Some (Live d) ≡ Some (Filling e b.0) = sym a ∙ b.1 in absurd (let u : ⊥ = cc in u)
one-device cols c d e (inr a) (inl b) = let z : Some (Filling d a.0) ≡ Some (Live e) = sym a.1 ∙ b in absurd (let u : ⊥ = cc in u)
one-device cols c d e (inr a) (inr b) = let z : Some (Filling d a.0) ≡ Some (Filling e b.0) = sym a.1 ∙ b.1 in cc

-- ## What a column had it has, or that has failed

abbrev pub HasStill : World → ℕ → ℕ → Type 0
HasStill w c d = HasDevice w.columns c d ⊎ (w.failed d ≡ true)

stay : (old new : World) → new.columns ≡ old.columns → (c d : ℕ) → HasDevice old.columns c d → HasStill new c d
stay old new e c d has = inl (subst (λ (cols : List ColumnState). HasDevice cols c d) (sym e) has)

-- another column than the one that is killed
other-has : (cols more : List ColumnState) (k c d : ℕ) → more ≡ slice_set cols k Dead → (c ≡ k → ⊥) → HasDevice cols c d → HasDevice more c d
other-has cols more k c d e ne has = subst (Has d) (sym (ap (λ l. slice_get l c) e ∙ get_set_other cols k c Dead ne)) has

column-fails : (y : Shape) (k : ℕ) (old new : World) → FailsColumn y k old new → (c d : ℕ) → HasDevice old.columns c d → HasStill new c d
column-fails y k old new f c d has = elim (cases_eq c k) [
  | inl e ↦ inr (f.failed d ∙ or-right (old.failed d) _ (has-is (slice_get old.columns k) d (subst (λ j. HasDevice old.columns j d) e has)))
  | inr ne ↦ inl (other-has old.columns new.columns k c d f.columns ne has)
]

module _ (y : Shape) where
  done-has : (s d : ℕ) (o more : Option ColumnState) → more ≡ done_on o s → Has d o → Has d more
  done-has s d o more is (inl h) = inl (is ∙ ap (λ z. done_on z s) h)
  done-has s d o more is (inr h) = inr (slice_set h.0 s true, is ∙ ap (λ z. done_on z s) h.1)

  ended-has : (s i : ℕ) (old new : List ColumnState) → IsEnded y s i old new → (c d : ℕ) → HasDevice old c d → HasDevice new c d
  ended-has s i old new e c d has = elim (cases_Bool (is_unit_of y old s i c)) [
    | inl q ↦ done-has s d (slice_get old c) (slice_get new c) (e c ∙ cond-true (is_unit_of y old s i c) _ _ q) has
    | inr q ↦ subst (Has d) (sym (e c ∙ cond-false (is_unit_of y old s i c) _ _ q)) has
  ]

  after-has : (o : Op) (r : Running) (old new : World) → ColumnsAfter y o r old new → (c d : ℕ) → HasDevice old.columns c d → HasStill new c d
  after-has (op.Write span pattern) r old new h c d has = stay old new h.0 c d has
  after-has (op.Writes patches) r old new h c d has = stay old new h.0 c d has
  after-has (op.Read span) r old new h c d has = stay old new h.0 c d has
  after-has (op.Sync stripe) r old new h c d has = stay old new h.0 c d has
  after-has (op.Rebuild stripe) r old new (inl h) c d has = inl (ended-has stripe h.0 old.columns new.columns h.4 c d has)
  after-has (op.Rebuild stripe) r old new (inr h) c d has = stay old new h.1.0 c d has

  module _ (graphs : Graphs) (e : Traced) (own : IsOwn e) (old new : World) (none : old.lost ≡ None) where
    abbrev Any : World → Type 0
    Any w = Unit {0}

    not-lost : {A : Type 0} (loss : Loss) → old.lost ≡ Some loss → A
    not-lost loss is = let z : None ≡ Some loss = sym none ∙ is in absurd (let u : ⊥ = cc in u)

    not-started : {A : Type 0} (c : ℕ) → column_begun e ≡ Some c → A
    not-started c h = let z : None ≡ Some c = sym (own-quiet e own) ∙ h in absurd (let u : ⊥ = cc in u)

    move-has : Move y graphs Any e old new → (c d : ℕ) → HasDevice old.columns c d → HasStill new c d
    move-has (replies k q asked known is ne idle f) c d has = stay old new f.only.columns.columns c d has
    move-has (waits k a way known asks nothing g only pool) c d has = stay old new only.columns.columns c d has
    move-has (takes k known f) c d has = stay old new f.only.columns.columns c d has
    move-has (fires k m known f) c d has = stay old new f.only.columns.columns c d has
    move-has (skips k m known f) c d has = stay old new f.only.columns.columns c d has
    move-has (works k m known f) c d has = stay old new f.columns.columns c d has
    move-has (commits k m known f) c d has = stay old new f.columns.columns c d has
    move-has (ends k m known f) c d has = after-has f.op f.was old new f.after c d has
    move-has (fails k m at bad known f) c d has = stay old new f.columns.columns c d has
    move-has (anew k p known can is b) c d has = stay old new b.only.columns.columns c d has
    move-has (gives k p g known can is b) c d has = stay old new b.only.columns.columns c d has
    move-has (dies k at alive f) c d has = column-fails y k old new f c d has
    move-has (starts k begun why known f had spread) c d has = not-started k why
    move-has (home k m good was loss is f failed dead) c d has = not-lost loss is

pub own-had : (start : World) (events : List Traced) → AreOwn events → (c d : ℕ) → HasHad start events c d → HasDevice start.columns c d
own-had start events own c d (inl h) = h
own-had start events own c d (inr h) = absurd (own (event.Fill c d h.0) h.1)

module _ (y : Shape) (graphs : Graphs) (layout : IsLayout y) (promises : Promises graphs) (start : World) (opening : IsOpening y start) where
  module _ (events : List Traced) (own : AreOwn events) (old : World) (run : EventsLead y graphs start events old) where
    -- a column has only what it had
    pub was-had : (c d : ℕ) → HasDevice old.columns c d → HasDevice start.columns c d
    was-had c d has = own-had start events own c d ((only-rows y layout graphs promises start events old opening run).devices c d has)

    lost-bad : (new : World) (id : OpId) (m : ℕ) → LostBad y id.client m old new → (c d : ℕ) → HasDevice old.columns c d → HasStill new c d
    lost-bad new id m b c d has = elim (cases_eq c b.at.column) [
      | inl e ↦
          let placed = (only-rows y layout graphs promises start events old opening run).placed id.client m b.was b.at b.home.finishes.runs b.home.finishes.out b.at_is in
          let there = own-had start events own b.at.column b.at.device placed.device in
          let same = one-device start.columns c d b.at.device (was-had c d has) (subst (λ j. HasDevice start.columns j b.at.device) (sym e) there) in
          inr (b.failed d ∙ or-right (old.failed d) _ (eq-eqb d b.at.device same))
      | inr ne ↦ inl (other-has old.columns new.columns b.at.column c d b.columns ne has)
    ]

    lost-has : (e : Traced) (new : World) → StepLost y graphs e old new → (c d : ℕ) → HasDevice old.columns c d → HasStill new c d
    lost-has (event.Good id m) new h c d has = stay old new h.0.columns c d has
    lost-has (event.Bad id m) new h c d has = lost-bad new id m h.0 c d has
    lost-has (event.Begin id) new h c d has = absurd h
    lost-has (event.Take id) new h c d has = absurd h
    lost-has (event.Fire id m) new h c d has = absurd h
    lost-has (event.Skip id m) new h c d has = absurd h
    lost-has (event.Back id) new h c d has = absurd h
    lost-has (event.Fail k) new h c d has = absurd h
    lost-has (event.Fill k device count) new h c d has = absurd h
    lost-has (event.Resume k count) new h c d has = absurd h
    lost-has (event.Spread k) new h c d has = absurd h

    step-has : (e : Traced) → IsOwn e → (new : World) → Step y graphs e old new → (c d : ℕ) → HasDevice old.columns c d → HasStill new c d
    step-has e is new s c d has = go old.lost refl s
      where
        by : old.lost ≡ None → Moves y graphs (λ w. Unit {0}) e old new → HasStill new c d
        by none (one m) = move-has y graphs e is old new none m c d has
        by none (two mid m k at alive f) = elim (move-has y graphs e is old mid none m c d has) [
          | inl still ↦ column-fails y k mid new f c d still
          | inr failed ↦ inr (f.failed d ∙ or-left (mid.failed d) _ failed)
        ]
          where
            or-left : (a b : Bool) → a ≡ true → (a || b) ≡ true
            or-left true b h = refl
            or-left false b h = let z : false ≡ true = h in absurd (let u : ⊥ = cc in u)

        go : (o : Option Loss) → old.lost ≡ o → StepBy y graphs o e old new → HasStill new c d
        go None none h = by none (moves y graphs (λ w. Unit {0}) e old new (λ known. tt) (subst (λ o. StepBy y graphs o e old new) (sym none) h))
        go (Some loss) lost h = lost-has e new h c d has

  pub run-has : (events : List Traced) (now : World) → AreOwn events → EventsLead y graphs start events now → (c d : ℕ) → HasDevice start.columns c d → HasStill now c d
  run-has [] now own run c d has = inl (subst (λ (w : World). HasDevice w.columns c d) (sym run) has)
  run-has (e ∷ events) now own run c d has = elim (run-has events run.0 (own-rest e events own) run.1 c d has) [
    | inl still ↦ step-has events (own-rest e events own) run.0 run.1 e (own-first e events own) now run.2 c d still
    | inr failed ↦ inr ((step-continues y graphs e run.0 now run.2).failed d failed)
  ]

  -- it was dead, or an item failed it, or a device that it had has failed
  pub data DiedBy (now : World) (c : ℕ) : Type 0 where
    was_dead : slice_get start.columns c ≡ Some Dead → DiedBy now c
    was_asked : WasFailed now c → DiedBy now c
    device_failed : (d : ℕ) → HasDevice start.columns c d → now.failed d ≡ true → DiedBy now c

  pub died-by : (events : List Traced) (now : World) → AreOwn events → EventsLead y graphs start events now → (c : ℕ) → slice_get now.columns c ≡ Some Dead → DiedBy now c
  died-by events now own run c dead = by (run-died y graphs start layout promises opening events now run c dead)
    where
      by : HasDied y graphs start events now c → DiedBy now c
      by (at_opening h) = was_dead h
      by (by_item id asked has) = was_asked (begun-failed y graphs start events now run id c has asked)
      by (by_event has) = absurd (own (event.Fail c) has)
      by (by_node w) =
          let had = own-had start events own c w.at.device w.device in
          elim (run-has events now own run c w.at.device had) [
            | inl still ↦ dead-none (slice_get now.columns c) w.at.device dead still
            | inr failed ↦ device_failed w.at.device had failed
          ]
