-- Where the unit of a node that is out stood, also once the array is lost: on a column that has the same device still, or the device has failed and the column has none.
use Rattle.std.proofs.Common.{◌≡◌, ◌≢◌, ◌⊎◌, inl, inr, ℕ, ◌<◌, List, [], ◌∷◌, Bool, true, false, Option, Some, None, slice_get, refl, sym, ◌∙◌, ap, subst, length}
use Rattle.std.specs.Prelude.{◌||◌, if◌then◌else◌, slice_set}
use Rattle.std.proofs.lemmas.Bool.{cases_eq, eq-eqb}
use Rattle.std.proofs.lemmas.Option.{slice_get_within}
use Rattle.blk_plain.specs.declared.op.Op.{Op}
use Rattle.blk_plain.specs.declared.op.Op.TheVariants as op
use Rattle.blk_plain.specs.declared.op.OpId.{OpId}
use Rattle.lay_core.specs.Layout.{Shape, IsLayout, Blocks}
use Rattle.graph_mean.specs.declared.graph.Node.{Node}
use Rattle.graph_mean.specs.declared.graph.Node.TheVariants.{Rd, Wr, Xor, Cmt, Trm}
use Rattle.graph_mean.specs.declared.step.Status.TheVariants.{Out}
use Rattle.graph_mean.specs.Graph.{kind_at}
use Rattle.eng_cols.specs.declared.spot.Spot.{Spot}
use Rattle.eng_cols.specs.declared.spot.Loss.{Loss}
use Rattle.eng_cols.specs.Cols.{ColumnState, Live, Dead, Filling, HasDevice}
use Rattle.eng_cols.specs.Changes.{killed, done_on}
use Rattle.eng_cols.specs.Seats.{is_unit_of}
use Rattle.eng_cols.specs.Contents.{InSync}
use Rattle.eng_cols.proofs.Killing.{device-back, killed-device}
use Rattle.eng_cols.proofs.Lists.{get_set_other}
use Rattle.eng_cols.proofs.Spots.{seat-device}
use Rattle.eng_world.specs.declared.item.Traced.{Traced}
use Rattle.eng_world.specs.declared.item.Traced.TheVariants as event
use Rattle.eng_world.specs.World.{Running, World, RunsAs, SameColumns}
use Rattle.eng_world.specs.Planning.{Graphs, Promises}
use Rattle.eng_world.specs.Failing.{FailsColumn, is_device_of}
use Rattle.eng_world.specs.Nodes.{Fires, ColumnsAfter, place_of}
use Rattle.eng_world.specs.Invariant.{Invariant}
use Rattle.eng_world.specs.Step.{StepLost, StepBy, Step, IsOpening, EventsLead}
use Rattle.eng_world.proofs.Clients.{nothing-runs}
use Rattle.eng_world.proofs.Moves.{Move, Moves, one, two, moves, replies, waits, takes, fires, skips, works, commits, ends, fails, anew, gives, dies, starts, home}
use Rattle.eng_world.proofs.Outs.{WasOut, still, fired, was-out}
use Rattle.eng_world.proofs.Promised.{not-lost}
use Rattle.eng_world.proofs.Reaching.{reaches}
use Rattle.eng_world.proofs.Rebuilt.{rebuilt-back}
use Rattle.eng_state.proofs.Placing.{read-seat, write-seat}

-- the place is on a column, which has its device still, or the device has failed and the column has none
abbrev pub OnSeat : Shape → World → Spot → Type 0
OnSeat y w at = (at.column < y.columns) × (HasDevice w.columns at.column at.device ⊎ ((w.failed at.device ≡ true) × ((d : ℕ) → HasDevice w.columns at.column d → ⊥)))

-- so is the place of each node that is out
abbrev pub EachOnSeat : Shape → World → Type 0
EachOnSeat y w = (c n : ℕ) (r : Running) (at : Spot) → RunsAs w c r → r.node n ≡ Out → r.fired_at n ≡ Some at → OnSeat y w at

-- ## Columns

or-first : (a b : Bool) → a ≡ true → (a || b) ≡ true
or-first true b h = refl
or-first false b h = let u : ⊥ = (let z : false ≡ true = h in cc) in absurd u

or-last : (a b : Bool) → b ≡ true → (a || b) ≡ true
or-last true b h = refl
or-last false b h = h

-- a column has one device
pub one-device : (cols : List ColumnState) (c d e : ℕ) → HasDevice cols c d → HasDevice cols c e → d ≡ e
one-device cols c d e (inl a) (inl b) = let z : Some (Live d) ≡ Some (Live e) = sym a ∙ b in cc
one-device cols c d e (inl a) (inr b) = let z : Some (Live d) ≡ Some (Filling e b.0) = sym a ∙ b.1 in absurd (let u : ⊥ = cc in u)
one-device cols c d e (inr a) (inl b) = let z : Some (Filling d a.0) ≡ Some (Live e) = sym a.1 ∙ b in absurd (let u : ⊥ = cc in u)
one-device cols c d e (inr a) (inr b) = let z : Some (Filling d a.0) ≡ Some (Filling e b.0) = sym a.1 ∙ b.1 in cc

column-there : (cols : List ColumnState) (c d : ℕ) → HasDevice cols c d → c < length cols
column-there cols c d (inl a) = slice_get_within cols c _ a
column-there cols c d (inr a) = slice_get_within cols c _ a.1

device-of : (cols : List ColumnState) (c d : ℕ) → HasDevice cols c d → is_device_of (slice_get cols c) d ≡ true
device-of cols c d (inl a) = ap (λ (o : Option ColumnState). is_device_of o d) a ∙ eq-eqb d d refl
device-of cols c d (inr a) = ap (λ (o : Option ColumnState). is_device_of o d) a.1 ∙ eq-eqb d d refl

-- the death of another column leaves it
killed-other : (cols : List ColumnState) (k c d : ℕ) → c ≢ k → HasDevice cols c d → HasDevice (killed cols k) c d
killed-other cols k c d ne (inl a) = inl (get_set_other cols k c Dead ne ∙ a)
killed-other cols k c d ne (inr a) = inr (a.0, get_set_other cols k c Dead ne ∙ a.1)

-- a column keeps its device, or loses it as it fails; none gets one, and what has failed stays so
record SeatsKept (old new : World) : Type 0 where
  forward : (c d : ℕ) → HasDevice old.columns c d → HasDevice new.columns c d ⊎ ((new.failed d ≡ true) × ((e : ℕ) → HasDevice new.columns c e → ⊥))
  back : (c d : ℕ) → HasDevice new.columns c d → HasDevice old.columns c d
  failed : (d : ℕ) → old.failed d ≡ true → new.failed d ≡ true

same-seats : (old new : World) → SameColumns old new → SeatsKept old new
same-seats old new s = record {
  forward = λ c d h. inl (subst (λ (cols : List ColumnState). HasDevice cols c d) (sym s.columns) h);
  back = λ c d h. subst (λ (cols : List ColumnState). HasDevice cols c d) s.columns h;
  failed = λ d h. s.failed d ∙ h;
}

dies-seats : (y : Shape) (k : ℕ) (old new : World) → FailsColumn y k old new → SeatsKept old new
dies-seats y k old new f = record {
  forward = forward;
  back = λ c d h. device-back old.columns k c d (subst (λ (cols : List ColumnState). HasDevice cols c d) f.columns h);
  failed = λ d h. f.failed d ∙ or-first (old.failed d) _ h;
}
  where
    forward : (c d : ℕ) → HasDevice old.columns c d → HasDevice new.columns c d ⊎ ((new.failed d ≡ true) × ((e : ℕ) → HasDevice new.columns c e → ⊥))
    forward c d h = elim (cases_eq c k) [
      | inl e ↦ inr (
        f.failed d ∙ or-last (old.failed d) _ (ap (λ (j : ℕ). is_device_of (slice_get old.columns j) d) (sym e) ∙ device-of old.columns c d h),
        λ x has. killed-device old.columns k x (subst (λ (j : ℕ). HasDevice (killed old.columns k) j x) e (subst (λ (cols : List ColumnState). HasDevice cols c x) f.columns has)),
      )
      | inr ne ↦ inl (subst (λ (cols : List ColumnState). HasDevice cols c d) (sym f.columns) (killed-other old.columns k c d ne h))
    ]

-- a column on which a stripe is done keeps its device
done-forward : (a b : Option ColumnState) (t : Bool) (s d : ℕ) → b ≡ (if t then done_on a s else a) → (a ≡ Some (Live d)) ⊎ ((done : List Bool) × (a ≡ Some (Filling d done))) → (b ≡ Some (Live d)) ⊎ ((done : List Bool) × (b ≡ Some (Filling d done)))
done-forward a b false s d e h = subst (λ (o : Option ColumnState). (o ≡ Some (Live d)) ⊎ ((done : List Bool) × (o ≡ Some (Filling d done)))) (sym e) h
done-forward a b true s d e (inl h) = inl (e ∙ ap (λ (o : Option ColumnState). done_on o s) h)
done-forward a b true s d e (inr h) = inr (slice_set h.0 s true, e ∙ ap (λ (o : Option ColumnState). done_on o s) h.1)

after-forward : (y : Shape) (o : Op) (r : Running) (old new : World) → ColumnsAfter y o r old new → (c d : ℕ) → HasDevice old.columns c d → HasDevice new.columns c d
after-forward y (op.Write span pattern) r old new h c d has = subst (λ cs. HasDevice cs c d) (sym h.0) has
after-forward y (op.Writes patches) r old new h c d has = subst (λ cs. HasDevice cs c d) (sym h.0) has
after-forward y (op.Read span) r old new h c d has = subst (λ cs. HasDevice cs c d) (sym h.0) has
after-forward y (op.Sync stripe) r old new h c d has = subst (λ cs. HasDevice cs c d) (sym h.0) has
after-forward y (op.Rebuild stripe) r old new (inl h) c d has = done-forward (slice_get old.columns c) (slice_get new.columns c) (is_unit_of y old.columns stripe h.0 c) stripe d (h.4 c) has
after-forward y (op.Rebuild stripe) r old new (inr h) c d has = subst (λ cs. HasDevice cs c d) (sym h.1.0) has

pub after-back : (y : Shape) (o : Op) (r : Running) (old new : World) → ColumnsAfter y o r old new → (c d : ℕ) → HasDevice new.columns c d → HasDevice old.columns c d
after-back y (op.Write span pattern) r old new h c d has = subst (λ cs. HasDevice cs c d) h.0 has
after-back y (op.Writes patches) r old new h c d has = subst (λ cs. HasDevice cs c d) h.0 has
after-back y (op.Read span) r old new h c d has = subst (λ cs. HasDevice cs c d) h.0 has
after-back y (op.Sync stripe) r old new h c d has = subst (λ cs. HasDevice cs c d) h.0 has
after-back y (op.Rebuild stripe) r old new (inl h) c d has = rebuilt-back y stripe h.0 old.columns new.columns h.4 c d has
after-back y (op.Rebuild stripe) r old new (inr h) c d has = subst (λ cs. HasDevice cs c d) h.1.0 has

-- ## Events

seat-on : (y : Shape) (old new : World) → SeatsKept old new → (at : Spot) → OnSeat y old at → OnSeat y new at
seat-on y old new s at q = (
  q.0,
  elim q.1 [
    | inl h ↦ s.forward at.column at.device h
    | inr h ↦ inr (s.failed at.device h.0, λ d has. h.1 d (s.back at.column d has))
  ],
)

module _ (y : Shape) (graphs : Graphs) (in_sync : Type 0) (start : Blocks) where
  abbrev Known : World → Type 0
  Known w = Invariant y in_sync start w

  -- a node that is fired is fired where its unit stands
  fired-on : (old new : World) (c n : ℕ) (at : Spot) → Known old → (f : Fires y c n old new) → f.next.fired_at n ≡ Some at → OnSeat y new at
  fired-on old new c n at known f is = seat-on y old new (same-seats old new f.only.columns) at (on (by (kind_at f.can.was.plan.graph n) (sym f.fired_at ∙ is)))
    where
      on : HasDevice old.columns at.column at.device → OnSeat y old at
      on has = (subst (λ (k : ℕ). at.column < k) known.control.count (column-there old.columns at.column at.device has), inl has)

      nowhere : None ≡ Some at → HasDevice old.columns at.column at.device
      nowhere z = absurd (let u : ⊥ = cc in u)

      by : (k : Node) → place_of y old.columns f.can.was.plan k ≡ Some at → HasDevice old.columns at.column at.device
      by (Rd i b) h = seat-device y old.columns _ i at (read-seat y old.columns f.can.was.plan i b at h)
      by (Wr i b) h = seat-device y old.columns _ i at (write-seat y old.columns f.can.was.plan i b at h)
      by (Xor to) h = nowhere h
      by Cmt h = nowhere h
      by Trm h = nowhere h

  -- what becomes of the columns, unless nothing runs
  move-seats : (e : Traced) (old new : World) → old.lost ≡ None → Move y graphs Known e old new → SeatsKept old new ⊎ ((c : ℕ) (r : Running) → RunsAs new c r → ⊥)
  move-seats e old new none (replies c q asked known is ne idle f) = inl (same-seats old new f.only.columns)
  move-seats e old new none (waits c a way known asks nothing g only pool) = inl (same-seats old new only.columns)
  move-seats e old new none (takes c known f) = inl (same-seats old new f.only.columns)
  move-seats e old new none (fires c n known f) = inl (same-seats old new f.only.columns)
  move-seats e old new none (skips c n known f) = inl (same-seats old new f.only.columns)
  move-seats e old new none (works c n known f) = inl (same-seats old new f.columns)
  move-seats e old new none (commits c n known f) = inl (same-seats old new f.columns)
  move-seats e old new none (ends c n known f) = inl (record {
    forward = λ k d h. inl (after-forward y f.op f.was old new f.after k d h);
    back = after-back y f.op f.was old new f.after;
    failed = λ d h. f.failed d ∙ h;
  })
  move-seats e old new none (fails c n at bad known f) = inl (same-seats old new f.columns)
  move-seats e old new none (anew c p known can is b) = inl (same-seats old new b.only.columns)
  move-seats e old new none (gives c p g known can is b) = inl (same-seats old new b.only.columns)
  move-seats e old new none (dies c here alive f) = inl (dies-seats y c old new f)
  move-seats e old new none (starts c begun why known f from spread) = inr (λ k r h. nothing-runs (sym (f.unbegun_still k).1 ∙ h))
  move-seats e old new none (home c n good was loss is f failed columns) = let z : None ≡ Some loss = sym none ∙ is in absurd (let u : ⊥ = cc in u)

  move-on : (e : Traced) (old new : World) → old.lost ≡ None → Move y graphs Known e old new → EachOnSeat y old → EachOnSeat y new
  move-on e old new none m q c n r at h out is = elim (move-seats e old new none m) [
    | inl s ↦ go s (was-out y graphs Known e old new m c n r h out)
    | inr idle ↦ absurd (idle c r h)
  ]
    where
      go : SeatsKept old new → WasOut y Known old new c n r → OnSeat y new at
      go s (still p runs plan o same) = seat-on y old new s at (q c n p at runs o (sym same ∙ is))
      go s (fired known f e) = fired-on old new c n at known f (ap (λ (v : Running). v.fired_at n) (sym e) ∙ is)

  -- ## Once the array is lost

  home-good : (id : OpId) (m : ℕ) (old new : World) (loss : Loss) → old.lost ≡ Some loss → StepLost y graphs (event.Good id m) old new → EachOnSeat y old → EachOnSeat y new
  home-good id m old new loss lost f q c n r at h out is = by (was-out y graphs Known (event.Good id m) old new (home id.client m true f.0.was loss lost f.0.home (λ d g. f.0.failed d ∙ g) (inl f.0.columns)) c n r h out)
    where
      by : WasOut y Known old new c n r → OnSeat y new at
      by (still p runs plan o same) = seat-on y old new (record {
        forward = λ k d has. inl (subst (λ (cols : List ColumnState). HasDevice cols k d) (sym f.0.columns) has);
        back = λ k d has. subst (λ (cols : List ColumnState). HasDevice cols k d) f.0.columns has;
        failed = λ d g. f.0.failed d ∙ g;
      }) at (q c n p at runs o (sym same ∙ is))
      by (fired known g e) = fired-on old new c n at known g (ap (λ (v : Running). v.fired_at n) (sym e) ∙ is)

  home-bad : (id : OpId) (m : ℕ) (old new : World) (loss : Loss) → old.lost ≡ Some loss → StepLost y graphs (event.Bad id m) old new → EachOnSeat y old → EachOnSeat y new
  home-bad id m old new loss lost f q c n r at h out is = by (was-out y graphs Known (event.Bad id m) old new (home id.client m false f.0.was loss lost f.0.home (λ d g. f.0.failed d ∙ or-first (old.failed d) _ g) (inr (f.0.at.column, f.0.columns))) c n r h out)
    where
      struck : OnSeat y old f.0.at
      struck = q id.client m f.0.was f.0.at f.0.home.finishes.runs f.0.home.finishes.out f.0.at_is

      gone : (d : ℕ) → HasDevice new.columns f.0.at.column d → ⊥
      gone d has = killed-device old.columns f.0.at.column d (subst (λ (cols : List ColumnState). HasDevice cols f.0.at.column d) f.0.columns has)

      forward : (k d : ℕ) → HasDevice old.columns k d → HasDevice new.columns k d ⊎ ((new.failed d ≡ true) × ((e : ℕ) → HasDevice new.columns k e → ⊥))
      forward k d has = elim (cases_eq k f.0.at.column) [
        | inl e ↦
            let here : HasDevice old.columns f.0.at.column d = subst (λ (j : ℕ). HasDevice old.columns j d) e has in
            elim struck.1 [
              | inl on ↦
                  let same : d ≡ f.0.at.device = one-device old.columns f.0.at.column d f.0.at.device here on in
                  inr (f.0.failed d ∙ or-last (old.failed d) _ (eq-eqb d f.0.at.device same), λ x z. gone x (subst (λ (j : ℕ). HasDevice new.columns j x) e z))
              | inr off ↦ absurd (off.1 d here)
            ]
        | inr ne ↦ inl (subst (λ (cols : List ColumnState). HasDevice cols k d) (sym f.0.columns) (killed-other old.columns f.0.at.column k d ne has))
      ]

      by : WasOut y Known old new c n r → OnSeat y new at
      by (still p runs plan o same) = seat-on y old new (record {
        forward = forward;
        back = λ k d has. device-back old.columns f.0.at.column k d (subst (λ (cols : List ColumnState). HasDevice cols k d) f.0.columns has);
        failed = λ d g. f.0.failed d ∙ or-first (old.failed d) _ g;
      }) at (q c n p at runs o (sym same ∙ is))
      by (fired known g e) = fired-on old new c n at known g (ap (λ (v : Running). v.fired_at n) (sym e) ∙ is)

  home-on : (e : Traced) (old new : World) (loss : Loss) → old.lost ≡ Some loss → StepLost y graphs e old new → EachOnSeat y old → EachOnSeat y new
  home-on (event.Good id m) old new loss lost f q = home-good id m old new loss lost f q
  home-on (event.Bad id m) old new loss lost f q = home-bad id m old new loss lost f q
  home-on (event.Begin id) old new loss lost f q = absurd f
  home-on (event.Take id) old new loss lost f q = absurd f
  home-on (event.Fire id n) old new loss lost f q = absurd f
  home-on (event.Skip id n) old new loss lost f q = absurd f
  home-on (event.Back id) old new loss lost f q = absurd f
  home-on (event.Fail k) old new loss lost f q = absurd f
  home-on (event.Fill k device count) old new loss lost f q = absurd f
  home-on (event.Resume k count) old new loss lost f q = absurd f
  home-on (event.Spread k) old new loss lost f q = absurd f

  step-on : (e : Traced) (old new : World) → (old.lost ≡ None → Known old) → Step y graphs e old new → EachOnSeat y old → EachOnSeat y new
  step-on e old new known h q = go old.lost refl h
    where
      all : old.lost ≡ None → Moves y graphs Known e old new → EachOnSeat y new
      all none (one m) = move-on e old new none m q
      all none (two mid m c here alive f) = move-on e mid new here (dies c here alive f) (move-on e old mid none m q)

      go : (o : Option Loss) → old.lost ≡ o → StepBy y graphs o e old new → EachOnSeat y new
      go None none s = all none (moves y graphs Known e old new known h)
      go (Some loss) lost s = home-on e old new loss lost s q

-- so it is in every world that a run reaches
pub run-on-seats : (y : Shape) → IsLayout y → (graphs : Graphs) → Promises graphs → (opening : World) (events : List Traced) (now : World) → IsOpening y opening → EventsLead y graphs opening events now → EachOnSeat y now
run-on-seats y layout graphs promises opening [] now o h = λ c n r at runs out is. nothing-runs (sym (o.unbegun c).1 ∙ subst (λ (w : World). RunsAs w c r) h runs)
run-on-seats y layout graphs promises opening (e ∷ events) now o h =
    step-on y graphs (InSync y opening.contents opening.columns) opening.blocks e h.0 now
    (λ none. not-lost y (InSync y opening.contents opening.columns) opening.blocks h.0 (reaches y layout graphs promises opening events h.0 o h.1) none)
    h.2 (run-on-seats y layout graphs promises opening events h.0 o h.1)
