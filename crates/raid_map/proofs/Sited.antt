-- Where a write that is out was fired: at a place of the stripe that it writes, on a device that the place's column has had. So an event changes and logs sectors of the regions alone.
use Rattle.std.proofs.Common.{◌≡◌, ◌≢◌, ◌<◌, ◌+◌, ◌-◌, ◌*◌, inl, inr, ℕ, List, [], ◌∷◌, ◌++◌, Bool, true, false, Option, Some, None, refl, sym, ◌∙◌, ap, subst, arith, length, length-append}
use Rattle.std.proofs.lemmas.Bool.{cases_eq}
use Rattle.blk_disk.specs.declared.disk.Call.{Call}
use Rattle.lay_core.specs.declared.place.Place.{Place}
use Rattle.lay_core.specs.Layout.{Shape, Blocks, IsLayout}
use Rattle.graph_mean.specs.declared.graph.Node.{Node}
use Rattle.graph_mean.specs.declared.graph.Node.TheVariants.{Rd, Wr, Xor, Cmt, Trm}
use Rattle.graph_mean.specs.declared.step.Status.{Status}
use Rattle.graph_mean.specs.declared.step.Status.TheVariants.{Out}
use Rattle.graph_mean.specs.Graph.{kind_at}
use Rattle.graph_mean.specs.Steps.{stripe_of}
use Rattle.eng_cols.specs.declared.spot.Spot.{Spot}
use Rattle.eng_cols.specs.Cols.{ColumnState}
use Rattle.eng_cols.specs.Seats.{seat}
use Rattle.eng_cols.specs.Contents.{InSync}
use Rattle.eng_cols.proofs.Spots.{Stands, own, spared, seat-stands}
use Rattle.eng_world.specs.declared.item.Traced.{Traced}
use Rattle.eng_world.specs.World.{Plan, Running, World, RunsAs}
use Rattle.eng_world.specs.Planning.{Graphs, Promises}
use Rattle.eng_world.specs.Nodes.{Fires, Finishes, IsWrittenAt, place_of, EndContents}
use Rattle.eng_world.specs.Step.{IsOpening, EventsLead}
use Rattle.eng_world.specs.Invariant.{Invariant}
use Rattle.eng_world.proofs.Clients.{nothing-runs}
use Rattle.eng_world.proofs.Serving.{place-seat}
use Rattle.eng_world.proofs.Moves.{Move, Moves, one, two, replies, waits, takes, fires, skips, works, commits, ends, fails, anew, gives, dies, starts, home, kept-on}
use Rattle.eng_world.proofs.Outs.{WasOut, still, fired, was-out}
use Rattle.eng_world.proofs.Placed.{EachPlaced}
use Rattle.eng_world.proofs.Reaching.{reaches}
use Rattle.eng_world.proofs.Promised.{not-lost}
use Rattle.raid_map.specs.Regions.{region_of}
use Rattle.raid_map.specs.Mapped.{IsWrite, IsUnderWay, Covers as CoversWrites}
use Rattle.eng_world.proofs.Words.{call_of, Told, GoodContents, BadContents}
use Rattle.eng_world.proofs.Shared.{good-of}

-- the place is one of the stripe's: a unit's, or its spare place
pub data IsPlaceOf (y : Shape) (s c r : ℕ) : Type 0 where
  of_unit : (i : ℕ) → i < y.width → (y.place s i).column ≡ c → (y.place s i).row ≡ r → IsPlaceOf y s c r
  of_spare : (p : Place) → y.spare s ≡ Some p → p.column ≡ c → p.row ≡ r → IsPlaceOf y s c r

-- the spot is a place of the stripe of the buffer that is written there
pub record IsSite (y : Shape) (p : Plan) (buf : ℕ) (at : Spot) : Type 0 where
  pub within : p.stripe (stripe_of p.graph buf) < y.stripes
  pub place : IsPlaceOf y (p.stripe (stripe_of p.graph buf)) at.column at.row

-- so it is with each write that is out
abbrev pub EachSited : Shape → World → Type 0
EachSited y w = (c m unit buf : ℕ) (r : Running) (at : Spot) → RunsAs w c r → r.node m ≡ Out → r.fired_at m ≡ Some at → kind_at r.plan.graph m ≡ Wr unit buf → IsSite y r.plan buf at

-- sector n of device d is one of a stripe in these regions
pub record IsMarked (y : Shape) (Had : ℕ → ℕ → Type 0) (regions : ℕ → Bool) (d n : ℕ) : Type 0 where
  pub column : ℕ
  pub row : ℕ
  pub stripe : ℕ
  pub offset : ℕ
  pub had : Had column d
  pub within : stripe < y.stripes
  pub place : IsPlaceOf y stripe column row
  pub marked : regions (region_of y.stripes stripe) ≡ true
  pub below : offset < y.unit_sectors
  pub sector : n ≡ 64 + row * y.unit_sectors + offset

pub seat-place : (y : Shape) (cols : List ColumnState) (s i : ℕ) (at : Spot) → i < y.width → seat y cols s i ≡ Some at → IsPlaceOf y s at.column at.row
seat-place y cols s i at iw is = go (seat-stands y cols s i at is)
  where
    go : Stands y cols s i at → IsPlaceOf y s at.column at.row
    go (own h) = of_unit i iw (sym h.column) (sym h.row)
    go (spared p done here spread h) = of_spare p here (sym h.column) (sym h.row)

-- ## Lists

no-more : {X : Type 0} {A : Type 0} (xs : List X) (x : X) → xs ≡ xs ++ x ∷ [] → A
no-more xs x h = let l = ap length h in absurd (omega (arith, l, length-append xs (x ∷ [])))

last-same : {X : Type 0} (xs : List X) (a b : X) → xs ++ a ∷ [] ≡ xs ++ b ∷ [] → a ≡ b
last-same [] a b h = cc
last-same (x ∷ xs) a b h = last-same xs a b (let z : x ∷ (xs ++ a ∷ []) ≡ x ∷ (xs ++ b ∷ []) = h in cc)

module _ (y : Shape) (layout : IsLayout y) (in_sync : Type 0) (start : Blocks) (graphs : Graphs) where
  abbrev Known : World → Type 0
  Known w = Invariant y in_sync start w

  -- ## What is out

  fired-sited : (c m unit buf : ℕ) (at : Spot) (old new : World) → Known old → (f : Fires y c m old new) → f.next.fired_at m ≡ Some at → kind_at f.can.was.plan.graph m ≡ Wr unit buf → IsSite y f.can.was.plan buf at
  fired-sited c m unit buf at old new known f is e =
      let s = known.control.served c f.can.was f.can.runs in
      let r = s.accepted.2.write m unit buf f.can.ready.below e in
      let sits = (place-seat y old.columns f.can.was.plan (Wr unit buf) (stripe_of f.can.was.plan.graph buf) unit at (refl, refl) (ap (place_of y old.columns f.can.was.plan) (sym e) ∙ sym f.fired_at ∙ is)).0 in
      record {
        within = (s.task.stripes _ r.1.stripe).0;
        place = seat-place y old.columns (f.can.was.plan.stripe (stripe_of f.can.was.plan.graph buf)) unit at (subst (λ z. unit < z) s.task.width r.0) sits;
      }

  pub sited-on : (e : Traced) (old new : World) → Move y graphs Known e old new → EachSited y old → EachSited y new
  sited-on e old new m sited c n unit buf r at h out is kind = go (was-out y graphs Known e old new m c n r h out)
    where
      go : WasOut y Known old new c n r → IsSite y r.plan buf at
      go (still q runs plan o same) = subst (λ (p : Plan). IsSite y p buf at) (sym plan) (sited c n unit buf q at runs o (sym same ∙ is) (subst (λ (p : Plan). kind_at p.graph n ≡ Wr unit buf) plan kind))
      go (fired known f e) =
          let plan : r.plan ≡ f.can.was.plan = ap (λ (v : Running). v.plan) e ∙ f.plan in
          subst (λ (p : Plan). IsSite y p buf at) (sym plan) (fired-sited c n unit buf at old new known f (ap (λ (v : Running). v.fired_at n) (sym e) ∙ is) (subst (λ (p : Plan). kind_at p.graph n ≡ Wr unit buf) plan kind))

  -- ## What changes

  module _ (Had : ℕ → ℕ → Type 0) (regions : ℕ → Bool) (old new : World) (d n : ℕ) (placed : EachPlaced y Had old) (sited : EachSited y old) (covers : CoversWrites y regions old) where
    written : (c m : ℕ) (was : Running) (unit buf : ℕ) (at : Spot) → RunsAs old c was → was.node m ≡ Out → kind_at was.plan.graph m ≡ Wr unit buf → was.fired_at m ≡ Some at → IsWrittenAt y was.plan.graph buf at d n → IsMarked y Had regions d n
    written c m was unit buf at runs out kind is w =
        let p = placed c m was at runs out is in
        let s = sited c m unit buf was at runs out is kind in
        let few = p.range unit buf kind in
        let top = w.1.1.1 in
        record {
          column = at.column;
          row = at.row;
          stripe = was.plan.stripe (stripe_of was.plan.graph buf);
          offset = w.1.0;
          had = subst (Had at.column) (sym w.0) p.device;
          within = s.within;
          place = s.place;
          marked = covers c m unit buf was runs kind;
          below = omega (arith, top, few);
          sector = w.1.2;
        }

    -- ### A sector outside the regions holds what it held

    module _ (outside : IsMarked y Had regions d n → ⊥) (k : ℕ) where
      good-same : (c m : ℕ) (was : Running) → RunsAs old c was → was.node m ≡ Out → (kd : Node) (at : Option Spot) → kind_at was.plan.graph m ≡ kd → was.fired_at m ≡ at → GoodContents y was kd at old new → new.contents d n k ≡ old.contents d n k
      good-same c m was runs out (Wr unit buf) (Some at) e is g = g.others d n k (λ w. outside (written c m was unit buf at runs out e is w))
      good-same c m was runs out (Wr unit buf) None e is g = absurd g
      good-same c m was runs out (Rd unit buf) at e is g = g d n k
      good-same c m was runs out (Xor to) at e is g = g d n k
      good-same c m was runs out Cmt at e is g = absurd g
      good-same c m was runs out Trm at e is g = absurd g

      bad-same : (c m : ℕ) (was : Running) → RunsAs old c was → was.node m ≡ Out → (kd : Node) (at : Spot) → kind_at was.plan.graph m ≡ kd → was.fired_at m ≡ Some at → BadContents y was kd at old new → new.contents d n k ≡ old.contents d n k
      bad-same c m was runs out (Wr unit buf) at e is g = g d n k (λ w. outside (written c m was unit buf at runs out e is w))
      bad-same c m was runs out (Rd unit buf) at e is g = g d n k
      bad-same c m was runs out (Xor to) at e is g = g d n k
      bad-same c m was runs out Cmt at e is g = g d n k
      bad-same c m was runs out Trm at e is g = g d n k

      lost-same : (c m : ℕ) (was : Running) → RunsAs old c was → was.node m ≡ Out → (good : Bool) (kd : Node) (at : Option Spot) → kind_at was.plan.graph m ≡ kd → was.fired_at m ≡ at → EndContents y was kd at good old new → new.contents d n k ≡ old.contents d n k
      lost-same c m was runs out true (Wr unit buf) (Some at) e is g = g.others d n k (λ w. outside (written c m was unit buf at runs out e is w))
      lost-same c m was runs out false (Wr unit buf) (Some at) e is g = g d n k (λ w. outside (written c m was unit buf at runs out e is w))
      lost-same c m was runs out good (Wr unit buf) None e is g = absurd g
      lost-same c m was runs out good (Rd unit buf) at e is g = g d n k
      lost-same c m was runs out good (Xor to) at e is g = g d n k
      lost-same c m was runs out good Cmt at e is g = g d n k
      lost-same c m was runs out good Trm at e is g = g d n k

      same-on : (e : Traced) → Move y graphs Known e old new → new.contents d n k ≡ old.contents d n k
      same-on e (replies c q asked known is ne idle f) = f.only.devices.contents d n k
      same-on e (waits c a way known asks nothing g only pool) = only.devices.contents d n k
      same-on e (takes c known f) = f.only.devices.contents d n k
      same-on e (fires c m known f) = f.only.devices.contents d n k
      same-on e (skips c m known f) = f.only.devices.contents d n k
      same-on e (works c m known f) = good-same c m f.was f.finishes.runs f.finishes.out _ _ refl refl (good-of y c m old new f)
      same-on e (commits c m known f) = f.contents d n k
      same-on e (ends c m known f) = f.contents d n k
      same-on e (fails c m at bad known f) = bad-same c m f.was f.finishes.runs f.finishes.out _ at refl f.at_is f.contents
      same-on e (anew c p known can is b) = b.only.devices.contents d n k
      same-on e (gives c p g known can is b) = b.only.devices.contents d n k
      same-on e (dies c none alive f) = f.devices.contents d n k
      same-on e (starts c begun why known f from spread) = f.devices.contents d n k
      same-on e (home c m good was loss is f failed columns) = lost-same c m was f.finishes.runs f.finishes.out good _ _ refl refl f.contents

    -- ### A sector that is written lies in the regions

    module _ (call : Call) (w : IsWrite old new d n call) where
      unwritten : {A : Type 0} → new.calls d ≡ old.calls d → A
      unwritten same = no-more (old.calls d) call (sym same ∙ w.told)

      end-marked : (c m : ℕ) (to : Status) (answer : Bool) (was next : Running) → Finishes y c m to answer was next old new → IsMarked y Had regions d n
      end-marked c m to answer was next f = go (kind_at was.plan.graph m) refl (was.fired_at m) refl f.told
        where
          told-is : (node : Node) (at : Spot) → d ≡ at.device → Told y was.plan.graph node (Some at) answer old new → call_of y was.plan.graph node at answer ≡ call
          told-is node at same t = last-same (old.calls d) _ call (ap (λ z. old.calls z ++ call_of y was.plan.graph node at answer ∷ []) same ∙ sym t.0 ∙ ap (λ z. new.calls z) (sym same) ∙ w.told)

          not-kind : {A : Type 0} (node : Node) (at : Spot) (k : ℕ) → d ≡ at.device → Told y was.plan.graph node (Some at) answer old new → (call_of y was.plan.graph node at answer).kind ≡ k → k ≢ 1 → A
          not-kind node at k same t is ne = absurd (ne (sym is ∙ ap (λ (z : Call). z.kind) (told-is node at same t) ∙ w.write))

          go : (node : Node) → kind_at was.plan.graph m ≡ node → (at : Option Spot) → was.fired_at m ≡ at → Told y was.plan.graph node at answer old new → IsMarked y Had regions d n
          go node e None is t = unwritten (t d)
          go node e (Some at) is t = elim (cases_eq d at.device) [
            | inr ne ↦ unwritten (t.1 d ne)
            | inl same ↦ by_kind node e at is same t
          ]
            where
              by_kind : (node : Node) → kind_at was.plan.graph m ≡ node → (at : Spot) → was.fired_at m ≡ Some at → d ≡ at.device → Told y was.plan.graph node (Some at) answer old new → IsMarked y Had regions d n
              by_kind (Rd unit buf) e at is same t = not-kind (Rd unit buf) at 0 same t refl (λ z. let u : ⊥ = omega (arith, z) in u)
              by_kind (Xor buf) e at is same t = not-kind (Xor buf) at 2 same t refl (λ z. let u : ⊥ = omega (arith, z) in u)
              by_kind Cmt e at is same t = not-kind Cmt at 2 same t refl (λ z. let u : ⊥ = omega (arith, z) in u)
              by_kind Trm e at is same t = not-kind Trm at 2 same t refl (λ z. let u : ⊥ = omega (arith, z) in u)
              by_kind (Wr unit buf) e at is same t =
                  let q = told-is (Wr unit buf) at same t in
                  let first = ap (λ (z : Call). z.first) q in
                  let count = ap (λ (z : Call). z.count) q in
                  let from = w.from in
                  let to = w.to in
                  written c m was unit buf at f.runs f.out e is (same, (n - (64 + at.row * y.unit_sectors), (omega (arith, first, from), omega (arith, first, count, from, to)), omega (arith, first, from)))

      marked-on : (e : Traced) → Move y graphs Known e old new → IsMarked y Had regions d n
      marked-on e (replies c q asked known is ne idle f) = unwritten (f.only.devices.calls d)
      marked-on e (waits c a way known asks nothing g only pool) = unwritten (only.devices.calls d)
      marked-on e (takes c known f) = unwritten (f.only.devices.calls d)
      marked-on e (fires c m known f) = unwritten (f.only.devices.calls d)
      marked-on e (skips c m known f) = unwritten (f.only.devices.calls d)
      marked-on e (works c m known f) = end-marked c m _ _ f.was f.next f.finishes
      marked-on e (commits c m known f) = end-marked c m _ _ f.was f.next f.finishes
      marked-on e (ends c m known f) = end-marked c m _ _ f.was f.last f.finishes
      marked-on e (fails c m at bad known f) = end-marked c m _ _ f.was f.next f.finishes
      marked-on e (anew c p known can is b) = unwritten (b.only.devices.calls d)
      marked-on e (gives c p g known can is b) = unwritten (b.only.devices.calls d)
      marked-on e (dies c none alive f) = unwritten (f.devices.calls d)
      marked-on e (starts c begun why known f from spread) = unwritten (f.devices.calls d)
      marked-on e (home c m good was loss is f failed columns) = end-marked c m _ _ was f.next f.finishes

  module _ (Had : ℕ → ℕ → Type 0) (regions : ℕ → Bool) (e : Traced) (old new : World) (m : Moves y graphs Known e old new) (d n : ℕ) (placed : EachPlaced y Had old) (sited : EachSited y old) (covers : CoversWrites y regions old) where
    -- a sector outside the regions holds what it held
    pub stays : (IsMarked y Had regions d n → ⊥) → (k : ℕ) → new.contents d n k ≡ old.contents d n k
    stays outside k = go m
      where
        go : Moves y graphs Known e old new → new.contents d n k ≡ old.contents d n k
        go (one m) = same-on Had regions old new d n placed sited covers outside k e m
        go (two mid m c none alive f) = f.devices.contents d n k ∙ same-on Had regions old mid d n placed sited covers outside k e m

    -- and one that the event writes lies in them
    pub lies : (call : Call) → IsWrite old new d n call → IsMarked y Had regions d n
    lies call w = go m
      where
        go : Moves y graphs Known e old new → IsMarked y Had regions d n
        go (one m) = marked-on Had regions old new d n placed sited covers call w e m
        go (two mid m c none alive f) = marked-on Had regions old mid d n placed sited covers call (record { told = sym (f.devices.calls d) ∙ w.told; write = w.write; from = w.from; to = w.to }) e m

-- after every run
pub each-sited : (y : Shape) → IsLayout y → (graphs : Graphs) → Promises graphs → (opening : World) (events : List Traced) (now : World) → IsOpening y opening → EventsLead y graphs opening events now → EachSited y now
each-sited y layout graphs promises opening events now o run =
    kept-on y graphs (Invariant y sync opening.blocks) (EachSited y) opening events
    (λ e has old new m s. sited-on y layout sync opening.blocks graphs e old new m s)
    (λ before mid h none. not-lost y sync opening.blocks mid (reaches y layout graphs promises opening before mid o h) none)
    events now (λ e has. has) run
    (λ c m unit buf r at h out is kind. nothing-runs (sym (o.unbegun c).1 ∙ h))
  where
    sync : Type 0
    sync = InSync y opening.contents opening.columns

-- what a write that is out writes lies in the regions
pub under-way : (y : Shape) (Had : ℕ → ℕ → Type 0) (regions : ℕ → Bool) (w : World) → EachPlaced y Had w → EachSited y w → CoversWrites y regions w → (d n : ℕ) → IsUnderWay y w d n → IsMarked y Had regions d n
under-way y Had regions w placed sited covers d n u =
    let p = placed u.client u.node u.run u.at u.runs u.out u.fired in
    let s = sited u.client u.node u.unit u.buf u.run u.at u.runs u.out u.fired u.is in
    let few = p.range u.unit u.buf u.is in
    let top = u.there.1.1.1 in
    record {
      column = u.at.column;
      row = u.at.row;
      stripe = u.run.plan.stripe (stripe_of u.run.plan.graph u.buf);
      offset = u.there.1.0;
      had = subst (Had u.at.column) (sym u.there.0) p.device;
      within = s.within;
      place = s.place;
      marked = covers u.client u.node u.unit u.buf u.run u.runs u.is;
      below = omega (arith, top, few);
      sector = u.there.1.2;
    }
