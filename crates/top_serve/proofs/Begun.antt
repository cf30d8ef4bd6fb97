-- An item that asks for the failure of a column is replied ok as it begins.
use Rattle.std.proofs.Common.{◌≡◌, ◌⊎◌, inl, inr, ℕ, zero, suc, List, [], ◌∷◌, ◌++◌, length, Option, Some, None, slice_get, refl, sym, ◌∙◌, ap, subst, arith}
use Rattle.std.specs.Prelude.{Contains}
use Rattle.blk_plain.specs.declared.op.OpId.{OpId}
use Rattle.lay_core.specs.Layout.{Shape}
use Rattle.eng_cols.specs.declared.spot.Loss.{Loss}
use Rattle.eng_world.specs.declared.item.Item.{Item}
use Rattle.eng_world.specs.declared.item.Item.TheVariants as item
use Rattle.eng_world.specs.declared.item.Reply.{Reply}
use Rattle.eng_world.specs.declared.item.Reply.TheVariants as reply
use Rattle.eng_world.specs.declared.item.Traced.{Traced}
use Rattle.eng_world.specs.declared.item.Traced.TheVariants as event
use Rattle.eng_world.specs.World.{World}
use Rattle.eng_world.specs.Planning.{Graphs}
use Rattle.eng_world.specs.Failing.{device_on, FailsColumn, FailsIfAlive, Loses, Survives}
use Rattle.eng_world.specs.Serving.{Begins, Begun}
use Rattle.eng_world.specs.Legal.{ReplyOf}
use Rattle.eng_world.specs.Step.{StepBy, Step, EventsLead}
use Rattle.eng_world.specs.Causes.{ItemAt}
use Rattle.eng_world.specs.Continuing.{Continues}
use Rattle.eng_world.proofs.Caused.{front-get, item-still}
use Rattle.eng_world.proofs.Continuing.{step-continues}
use Rattle.top_serve.specs.Served.{WasFailed}

push-get : {A : Type 0} (l : List A) (x : A) → slice_get (l ++ x ∷ []) (length l) ≡ Some x
push-get [] x = refl
push-get (a ∷ l) x = push-get l x

-- what was replied stays so
pub reply-still : (old new : World) → Continues old new → (id : OpId) (r : Reply) → ReplyOf old id r → ReplyOf new id r
reply-still old new go id r h = let more = go.replies id.client in ap (λ (l : List Reply). slice_get l id.index) more.1 ∙ front-get (old.clients id.client).replies more.0 id.index r h

-- a column's failure leaves replies as they are, or adds to them
column-replied : (y : Shape) (k : ℕ) (old new : World) → FailsColumn y k old new → (id : OpId) (r : Reply) → ReplyOf old id r → ReplyOf new id r
column-replied y k old new f id r h = by f.after
  where
    by : Loses y old new ⊎ Survives y (device_on (slice_get old.columns k) k) old new → ReplyOf new id r
    by (inl l) = ap (λ (v : List Reply). slice_get v id.index) (l.clients id.client).replies ∙ front-get (old.clients id.client).replies _ id.index r h
    by (inr s) = ap (λ (v : List Reply). slice_get v id.index) (s.clients id.client).told.replies ∙ h

-- the item, and its reply if it asks for a failure
abbrev IsBegun : World → World → OpId → Type 0
IsBegun old new id = (x : Item) × ItemAt old id x × ((c : ℕ) → x ≡ item.Fail c → ReplyOf new id reply.Okay)

module _ (y : Shape) (graphs : Graphs) where
  begins-okay : (id : OpId) (old new : World) → length (old.clients id.client).replies ≡ id.index → Begins y id.client old new → IsBegun old new id
  begins-okay id old new now f = (f.0.item, ap (slice_get (old.clients id.client).items) (sym now) ∙ f.0.next, λ c is. okay c f.0.item is f.1)
    where
      if-alive : (column : ℕ) (mid : World) → FailsIfAlive y column mid new → ReplyOf mid id reply.Okay → ReplyOf new id reply.Okay
      if-alive column mid (inl h) r = subst (λ (w : World). ReplyOf w id reply.Okay) (sym h.1) r
      if-alive column mid (inr h) r = column-replied y column mid new h.1 id reply.Okay r

      okay : (c : ℕ) (i : Item) → i ≡ item.Fail c → Begun y id.client i old new → ReplyOf new id reply.Okay
      okay c (item.Run o graph) is h = let z : item.Run o graph ≡ item.Fail c = is in absurd (let u : ⊥ = cc in u)
      okay c (item.Fail column) is h =
          if-alive column h.0 h.2
          (ap (λ (l : List Reply). slice_get l id.index) h.1.replied.replies ∙ (ap (slice_get ((old.clients id.client).replies ++ reply.Okay ∷ [])) (sym now) ∙ push-get (old.clients id.client).replies reply.Okay))

  step-okay : (id : OpId) (old new : World) → Step y graphs (event.Begin id) old new → IsBegun old new id
  step-okay id old new s = go old.lost s
    where
      go : (o : Option Loss) → StepBy y graphs o (event.Begin id) old new → IsBegun old new id
      go None h = begins-okay id old new h.0 h.1
      go (Some loss) h = absurd h

  -- so it has been since
  run-begun : (start : World) (events : List Traced) (now : World) → EventsLead y graphs start events now → (id : OpId) → Contains events (event.Begin id) → IsBegun now now id
  run-begun start [] now run id (n, within, is) = absurd (omega (arith, within))
  run-begun start (e ∷ events) now run id (zero, within, is) =
      let s = subst (λ (a : Traced). Step y graphs a run.0 now) is run.2 in
      let b = step-okay id run.0 now s in
      (b.0, item-still run.0 now (step-continues y graphs (event.Begin id) run.0 now s) id b.0 b.1, b.2)
  run-begun start (e ∷ events) now run id (suc n, within, is) =
      let b = run-begun start events run.0 run.1 id (n, omega (arith, within), is) in
      let go = step-continues y graphs e run.0 now run.2 in
      (b.0, item-still run.0 now go id b.0 b.1, λ c f. reply-still run.0 now go id reply.Okay (b.2 c f))

  -- an item that asks that column c fail, and was begun
  pub begun-failed : (start : World) (events : List Traced) (now : World) → EventsLead y graphs start events now → (id : OpId) (c : ℕ) → Contains events (event.Begin id) → ItemAt now id (item.Fail c) → WasFailed now c
  begun-failed start events now run id c has asked =
      let b = run-begun start events now run id has in
      let same : Some b.0 ≡ Some (item.Fail c) = sym b.1 ∙ asked in
      record { id = id; asked = asked; replied = b.2 c (let e : b.0 ≡ item.Fail c = cc in e) }
