-- By which events a device fails, and which devices a column has had.
use Rattle.std.proofs.Common.{◌≡◌, ◌⊎◌, inl, inr, ℕ, List, [], ◌∷◌, ◌++◌, length, Bool, true, false, Option, Some, None, slice_get, refl, sym, ◌∙◌, ap, subst}
use Rattle.std.specs.Prelude.{Contains, ◌||◌}
use Rattle.blk_plain.specs.declared.op.OpId.{OpId}
use Rattle.lay_core.specs.Layout.{Shape}
use Rattle.eng_cols.specs.declared.spot.Loss.{Loss}
use Rattle.eng_cols.specs.Cols.{ColumnState, HasDevice}
use Rattle.eng_cols.proofs.Killing.{device-back}
use Rattle.eng_world.specs.declared.item.Item.{Item}
use Rattle.eng_world.specs.declared.item.Item.TheVariants as item
use Rattle.eng_world.specs.declared.item.Reply.{Reply}
use Rattle.eng_world.specs.declared.item.Reply.TheVariants as reply
use Rattle.eng_world.specs.declared.item.Traced.{Traced}
use Rattle.eng_world.specs.declared.item.Traced.TheVariants as event
use Rattle.eng_world.specs.World.{World, item_now}
use Rattle.eng_world.specs.Planning.{Graphs}
use Rattle.eng_world.specs.Failing.{FailsColumn, Loses, Survives, device_on}
use Rattle.eng_world.specs.Serving.{Begun, Takes, Refuses}
use Rattle.eng_world.specs.Nodes.{Works, Commits, Terminates}
use Rattle.eng_world.specs.Causes.{ItemAt}
use Rattle.eng_world.specs.Legal.{ReplyOf}
use Rattle.eng_world.specs.Rows.{HasHad}
use Rattle.eng_world.specs.Step.{StepIn, StepLost, StepBy, Step, EventsLead}
use Rattle.eng_world.proofs.Caused.{tail-has, head-has, front-get}
use Rattle.eng_world.proofs.Moves.{Move, Moves, one, two, moves, replies, waits, takes, fires, skips, works, commits, ends, fails, anew, gives, dies, starts, home}
use Rattle.eng_array.specs.Tickets.{IsBad}
use Rattle.eng_array.proofs.Blaming.{has-of}
use Rattle.eng_array.proofs.OnSeats.{after-back}
use Rattle.eng_world.proofs.Words.{BackBy}

-- ## Which devices a column has had

module _ (y : Shape) (graphs : Graphs) (e : Traced) (old new : World) where
  abbrev Any : World → Type 0
  Any w = Unit {0}

  same-had : (c d : ℕ) → new.columns ≡ old.columns → HasDevice new.columns c d → HasDevice old.columns c d ⊎ ((count : ℕ) × (e ≡ event.Fill c d count))
  same-had c d is h = inl (subst (λ (cols : List ColumnState). HasDevice cols c d) is h)

  move-had : Move y graphs Any e old new → (c d : ℕ) → HasDevice new.columns c d → HasDevice old.columns c d ⊎ ((count : ℕ) × (e ≡ event.Fill c d count))
  move-had (replies k q asked known is ne idle f) c d h = same-had c d f.only.columns.columns h
  move-had (waits k a way known asks nothing g only pool) c d h = same-had c d only.columns.columns h
  move-had (takes k known f) c d h = same-had c d f.only.columns.columns h
  move-had (fires k n known f) c d h = same-had c d f.only.columns.columns h
  move-had (skips k n known f) c d h = same-had c d f.only.columns.columns h
  move-had (works k n known f) c d h = same-had c d f.columns.columns h
  move-had (commits k n known f) c d h = same-had c d f.columns.columns h
  move-had (ends k n known f) c d h = inl (after-back y f.op f.was old new f.after c d h)
  move-had (fails k n at bad known f) c d h = same-had c d f.columns.columns h
  move-had (anew k p known can is b) c d h = same-had c d b.only.columns.columns h
  move-had (gives k p g known can is b) c d h = same-had c d b.only.columns.columns h
  move-had (dies k none alive f) c d h = inl (device-back old.columns k c d (subst (λ (cols : List ColumnState). HasDevice cols c d) f.columns h))
  move-had (starts k begun why known f had spread) c d h = had c d h
  move-had (home k n good was loss is f failed (inl same)) c d h = same-had c d same h
  move-had (home k n good was loss is f failed (inr dead)) c d h = inl (device-back old.columns dead.0 c d (subst (λ (cols : List ColumnState). HasDevice cols c d) dead.1 h))

step-had : (y : Shape) (graphs : Graphs) (e : Traced) (old new : World) → Step y graphs e old new → (c d : ℕ) → HasDevice new.columns c d → HasDevice old.columns c d ⊎ ((count : ℕ) × (e ≡ event.Fill c d count))
step-had y graphs e old new s c d h = by (moves y graphs (λ w. Unit {0}) e old new (λ none. tt) s)
  where
    by : Moves y graphs (λ w. Unit {0}) e old new → HasDevice old.columns c d ⊎ ((count : ℕ) × (e ≡ event.Fill c d count))
    by (one m) = move-had y graphs e old new m c d h
    by (two mid m k none alive f) = move-had y graphs e old mid m c d (device-back mid.columns k c d (subst (λ (cols : List ColumnState). HasDevice cols c d) f.columns h))

-- what a column has had it has had after a further event
pub had-on : (w : World) (events : List Traced) (e : Traced) (c d : ℕ) → HasHad w events c d → HasHad w (e ∷ events) c d
had-on w events e c d (inl h) = inl h
had-on w events e c d (inr h) = inr (h.0, tail-has e events _ h.1)

pub run-had : (y : Shape) (graphs : Graphs) (w : World) (events : List Traced) (x : World) → EventsLead y graphs w events x → (c d : ℕ) → HasDevice x.columns c d → HasHad w events c d
run-had y graphs w [] x r c d h = inl (subst (λ (v : World). HasDevice v.columns c d) r h)
run-had y graphs w (e ∷ events) x r c d h = elim (step-had y graphs e r.0 x r.2 c d h) [
  | inl was ↦ had-on w events e c d (run-had y graphs w events r.0 r.1 c d was)
  | inr is ↦ inr (is.0, subst (Contains (e ∷ events)) is.1 (head-has e events))
]

-- ## By which events a device fails

-- by an item that is begun, which is replied ok, or by a call from outside
pub data FailsBy (e : Traced) (old new : World) (d : ℕ) : Type 0 where
  by_node : IsBad e → FailsBy e old new d
  by_item : (id : OpId) (column : ℕ) → e ≡ event.Begin id → ItemAt old id (item.Fail column) → ReplyOf new id reply.Okay → HasDevice old.columns column d → FailsBy e old new d
  by_call : (column : ℕ) → e ≡ event.Fail column → HasDevice old.columns column d → FailsBy e old new d

push-get : {A : Type 0} (l : List A) (x : A) → slice_get (l ++ x ∷ []) (length l) ≡ Some x
push-get [] x = refl
push-get (a ∷ l) x = push-get l x

not-both : {A : Type 0} (b : Bool) → b ≡ true → b ≡ false → A
not-both b p q = let z : true ≡ false = sym p ∙ q in absurd (let u : ⊥ = cc in u)

or-second : (a b : Bool) → a ≡ false → (a || b) ≡ true → b ≡ true
or-second true b f h = not-both true refl f
or-second false b f h = h

-- a column that fails had the device
column-had : (y : Shape) (k : ℕ) (old new : World) → FailsColumn y k old new → (d : ℕ) → old.failed d ≡ false → new.failed d ≡ true → HasDevice old.columns k d
column-had y k old new f d before after = has-of old.columns k d (slice_get old.columns k) refl (or-second (old.failed d) _ before (sym (f.failed d) ∙ after))

-- and what was replied stays so
column-replied : (y : Shape) (k : ℕ) (old new : World) → FailsColumn y k old new → (c n : ℕ) (r : Reply) → slice_get (old.clients c).replies n ≡ Some r → slice_get (new.clients c).replies n ≡ Some r
column-replied y k old new f c n r h = by f.after
  where
    by : Loses y old new ⊎ Survives y (device_on (slice_get old.columns k) k) old new → slice_get (new.clients c).replies n ≡ Some r
    by (inl l) = ap (λ (v : List Reply). slice_get v n) (l.clients c).replies ∙ front-get (old.clients c).replies _ n r h
    by (inr s) = ap (λ (v : List Reply). slice_get v n) (s.clients c).told.replies ∙ h

module _ (y : Shape) (graphs : Graphs) (old new : World) (d : ℕ) (before : old.failed d ≡ false) (after : new.failed d ≡ true) where
  same-not : {A : Type 0} → new.failed d ≡ old.failed d → A
  same-not same = not-both (new.failed d) after (same ∙ before)

  begun-fails : (id : OpId) → length (old.clients id.client).replies ≡ id.index → (i : Item) → item_now (old.clients id.client) ≡ Some i → Begun y id.client i old new → FailsBy (event.Begin id) old new d
  begun-fails id now (item.Run op file) next (inl h) = same-not (h.1.only.columns.failed d)
  begun-fails id now (item.Run op file) next (inr (inl h)) = same-not (h.2.only.columns.failed d)
  begun-fails id now (item.Run op file) next (inr (inr h)) = same-not (h.3.columns.failed d)
  begun-fails id now (item.Fail column) next (mid, at_once, inl dead) = same-not (ap (λ (w : World). w.failed d) dead.1 ∙ at_once.only.columns.failed d)
  begun-fails id now (item.Fail column) next (mid, at_once, inr (alive, f)) = by_item id column refl
      (ap (slice_get (old.clients id.client).items) (sym now) ∙ next)
      (column-replied y column mid new f id.client id.index reply.Okay
      (ap (λ (l : List Reply). slice_get l id.index) at_once.replied.replies ∙ (ap (slice_get ((old.clients id.client).replies ++ reply.Okay ∷ [])) (sym now) ∙ push-get (old.clients id.client).replies reply.Okay)))
      (subst (λ (cols : List ColumnState). HasDevice cols column d) at_once.only.columns.columns (column-had y column mid new f d (at_once.only.columns.failed d ∙ before) after))

  taken-fails : {A : Type 0} (c : ℕ) → Takes y graphs c old new ⊎ Refuses y graphs c old new → A
  taken-fails c (inl f) = same-not (f.only.columns.failed d)
  taken-fails c (inr f) = same-not (f.replies.only.columns.failed d)

  good-fails : {A : Type 0} (c n : ℕ) → Works y c n old new ⊎ (Commits y c n old new ⊎ Terminates y c n old new) → A
  good-fails c n (inl f) = same-not (f.columns.failed d)
  good-fails c n (inr (inl f)) = same-not (f.columns.failed d)
  good-fails c n (inr (inr f)) = same-not (f.failed d)

  in-fails : (e : Traced) → StepIn y graphs e old new → FailsBy e old new d
  in-fails (event.Begin id) h = begun-fails id h.0 h.1.0.item h.1.0.next h.1.1
  in-fails (event.Take id) h = taken-fails id.client h.1
  in-fails (event.Fire id n) h = same-not (h.1.only.columns.failed d)
  in-fails (event.Skip id n) h = same-not (h.1.only.columns.failed d)
  in-fails (event.Good id n) h = good-fails id.client n h.1
  in-fails (event.Bad id n) h = by_node tt
  in-fails (event.Back id) h = back h.1.graph h.1.back
    where
      back : (g : Option ℕ) → BackBy y graphs id.client h.1.op g h.1.was old new → FailsBy (event.Back id) old new d
      back None b = same-not (b.only.columns.failed d)
      back (Some n) b = same-not (b.only.columns.failed d)
  in-fails (event.Fail c) h = by_call c refl (column-had y c old new h.2 d before after)
  in-fails (event.Fill c device count) h = same-not (h.starts.failed d)
  in-fails (event.Resume c count) h = same-not (h.starts.failed d)
  in-fails (event.Spread c) h = same-not (h.starts.failed d)

  lost-fails : (e : Traced) → StepLost y graphs e old new → FailsBy e old new d
  lost-fails (event.Good id n) h = same-not (h.0.failed d)
  lost-fails (event.Bad id n) h = by_node tt
  lost-fails (event.Begin id) h = absurd h
  lost-fails (event.Take id) h = absurd h
  lost-fails (event.Fire id n) h = absurd h
  lost-fails (event.Skip id n) h = absurd h
  lost-fails (event.Back id) h = absurd h
  lost-fails (event.Fail c) h = absurd h
  lost-fails (event.Fill c device count) h = absurd h
  lost-fails (event.Resume c count) h = absurd h
  lost-fails (event.Spread c) h = absurd h

  pub step-fails : (e : Traced) → Step y graphs e old new → FailsBy e old new d
  step-fails e s = go old.lost s
    where
      go : (o : Option Loss) → StepBy y graphs o e old new → FailsBy e old new d
      go None h = in-fails e h
      go (Some loss) h = lost-fails e h
