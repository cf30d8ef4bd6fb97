-- The columns as they are kept at the end of a run, by those as its rebuild began.
use Rattle.std.proofs.Common.{◌≡◌, ◌⊎◌, inl, inr, ℕ, ◌<◌, List, length, map, Bool, true, false, Option, Some, None, option_map, slice_get, IsSome, refl, sym, ◌∙◌, ap, subst}
use Rattle.std.proofs.lemmas.Option.{slice_get-map}
use Rattle.blk_disk.specs.declared.disk.Disk.{Ghosts}
use Rattle.lay_core.specs.Layout.{Shape}
use Rattle.eng_cols.specs.declared.column.Column.{Column}
use Rattle.eng_cols.specs.declared.column.Column.TheVariants as set
use Rattle.eng_cols.specs.Cols.{AtMostOne, ColumnState, HasDevice, InOrder, Live, Dead, Filling, Spread, device_set, is_filling, is_set_filling, is_set_spread, is_spread, none_done, passes, state_set, HasDeviceOn}
use Rattle.eng_cols.specs.Stripes.{filled_in, states_of}
use Rattle.eng_cols.proofs.Fewer.{states-spread}
use Rattle.eng_cols.proofs.Lists.{get_set_same}
use Rattle.eng_world.specs.declared.item.Traced.{Traced}
use Rattle.eng_world.specs.World.{World}
use Rattle.eng_world.specs.Step.{EventsLead, StepBy}
use Rattle.eng_world.proofs.Starting.{fill-order, spread-order}
use Rattle.eng_array.specs.Starts.{event_of}
use Rattle.eng_array.specs.declared.start.Start.{Start}
use Rattle.eng_array.specs.declared.start.Start.TheVariants as start
use Rattle.top_serve.specs.Setups.{with_start}
use Rattle.top_serve.specs.Served.{BeginsBy}
use Rattle.top_serve.proofs.Alike.{AreBegun, bare, kind, kind-at, kind-filling, kind-live, kinds-begun, spread-kind}
use Rattle.top_serve.proofs.Behind.{filling-kind}
use Rattle.top_serve.proofs.Between.{all-own}
use Rattle.top_serve.proofs.Closings.{filling-before, spread-before}
use Rattle.top_serve.proofs.Columns.{AreOwn, run-kinds}
use Rattle.top_run.specs.Work.{Work, Service}
use Rattle.top_run.specs.Ran.{Ran}
use Rattle.top_run.proofs.Columns.{device-on, kept-device, no-device, not-so}
use Rattle.top_run.proofs.Starting.{first-step}
use Rattle.eng_cols.proofs.Words.{all_done}

-- ## By what columns are

filling-there : (o : Option ColumnState) → passes is_filling o ≡ true → (d : ℕ) × (done : List Bool) × (o ≡ Some (Filling d done))
filling-there (Some (Filling d done)) h = (d, done, refl)
filling-there (Some (Live d)) h = not-so false refl h
filling-there (Some Dead) h = not-so false refl h
filling-there (Some (Spread done)) h = not-so false refl h
filling-there None h = not-so false refl h

pub spread-there : (o : Option ColumnState) → passes is_spread o ≡ true → (done : List Bool) × (o ≡ Some (Spread done))
spread-there (Some (Spread done)) h = (done, refl)
spread-there (Some (Live d)) h = not-so false refl h
spread-there (Some Dead) h = not-so false refl h
spread-there (Some (Filling d done)) h = not-so false refl h
spread-there None h = not-so false refl h

-- of columns in order at most one is filling, and at most one spread
pub one-filling : (cols : List ColumnState) → InOrder cols → AtMostOne is_filling cols
one-filling cols order c k h g =
    let a = filling-there (slice_get cols c) h in
    let b = filling-there (slice_get cols k) g in
    order.one_filling c k a.0 b.0 a.1 b.1 a.2 b.2

one-spread : (cols : List ColumnState) → InOrder cols → AtMostOne is_spread cols
one-spread cols order c k h g =
    let a = spread-there (slice_get cols c) h in
    let b = spread-there (slice_get cols k) g in
    order.one_spread c k a.0 b.0 a.1 b.1

set-filling : (n : ℕ) (l : List Bool) (o : Option Column) (d : ℕ) (done : List Bool) → option_map (state_set n l) o ≡ Some (Filling d done) → passes is_set_filling o ≡ true
set-filling n l (Some (set.Filling e m)) d done h = refl
set-filling n l (Some (set.Live e)) d done h = let z : Some (Live e) ≡ Some (Filling d done) = h in absurd (let u : ⊥ = cc in u)
set-filling n l (Some set.Dead) d done h = let z : Some Dead ≡ Some (Filling d done) = h in absurd (let u : ⊥ = cc in u)
set-filling n l (Some set.Spread) d done h = let z : Some (Spread (all_done n)) ≡ Some (Filling d done) = h in absurd (let u : ⊥ = cc in u)
set-filling n l None d done h = let z : None ≡ Some (Filling d done) = h in absurd (let u : ⊥ = cc in u)

-- a column that is filling as it is set is
pub states-filling : (y : Shape) (columns : List Column) (c d : ℕ) (done : List Bool) → slice_get (states_of y columns) c ≡ Some (Filling d done) → passes is_set_filling (slice_get columns c) ≡ true
states-filling y columns c d done is = set-filling y.stripes (filled_in y columns) (slice_get columns c) d done (sym (slice_get-map (state_set y.stripes (filled_in y columns)) columns c) ∙ is)

-- columns of which each device is in one are in order as they are set
order-set : (y : Shape) (columns : List Column) → ((c k d : ℕ) → HasDeviceOn columns c d → HasDeviceOn columns k d → c ≡ k) → AtMostOne is_set_filling columns → AtMostOne is_set_spread columns → InOrder (states_of y columns)
order-set y columns apart filling spread = record {
  one_column = λ c k d one two. apart c k d (device-on y columns c d one) (device-on y columns k d two);
  one_filling = λ c k d e done other one two. filling c k (states-filling y columns c d done one) (states-filling y columns k e other two);
  one_spread = λ c k done other one two. spread c k (sym (states-spread y columns c) ∙ ap (passes is_spread) one) (sym (states-spread y columns k) ∙ ap (passes is_spread) two);
}

-- a column of this kind has the device
device-of-kind : (o : Option ColumnState) (was : Option Column) (d : ℕ) → kind o ≡ option_map bare was → device_set was ≡ Some d → (o ≡ Some (Live d)) ⊎ ((done : List Bool) × (o ≡ Some (Filling d done)))
device-of-kind o (Some (set.Live e)) d same h = let z : Some e ≡ Some d = h in let is : e ≡ d = cc in inl (kind-live o d (same ∙ ap (λ v. Some (set.Live v)) is))
device-of-kind o (Some (set.Filling e m)) d same h = let z : Some e ≡ Some d = h in let is : e ≡ d = cc in inr (kind-filling o d (same ∙ ap (λ v. Some (set.Filling v 0)) is))
device-of-kind o (Some set.Dead) d same h = no-device (Some set.Dead) d refl h
device-of-kind o (Some set.Spread) d same h = no-device (Some set.Spread) d refl h
device-of-kind o None d same h = no-device None d refl h

-- ## The start

-- the column that is rebuilt is filling as that has begun, or there are spare places
abbrev pub IsBegunAt : Shape → Start → List ColumnState → Type 0
IsBegunAt y (start.Fill c device most) cols = passes is_filling (slice_get cols c) ≡ true
IsBegunAt y (start.Resume c most) cols = passes is_filling (slice_get cols c) ≡ true
IsBegunAt y (start.Spread c) cols = (st : ℕ) → st < y.stripes → IsSome (y.spare st)

module _ {D : Type 0} (g : Ghosts D) (a : Work) (taken back : List (Option D)) (s : Service) (ran : Ran g a taken s back) where
  abbrev y : Shape
  y = a.layout

  abbrev now : World
  now = ran.now

  abbrev n : ℕ
  n = length (ran.now.clients 16).items

  -- The world as the clients' own events find it.
  pub record Begun : Type 0 where
    pub world : World
    pub own : List Traced
    pub are_own : AreOwn own
    pub rest : EventsLead y ran.graphs world own now
    pub columns : AreBegun y.stripes a.start ran.start.columns world.columns
    pub order : InOrder world.columns
    pub at : (how : Start) → a.start ≡ Some how → IsBegunAt y how world.columns

  at-start : (w : World) (h : Start) → a.start ≡ Some h → IsBegunAt y h w.columns → (how : Start) → a.start ≡ Some how → IsBegunAt y how w.columns
  at-start w h is at how also = let z : Some h ≡ Some how = sym is ∙ also in let same : h ≡ how = cc in subst (λ x. IsBegunAt y x w.columns) same at

  behind : (h : Start) → a.start ≡ Some h → (w : World) → StepBy y ran.graphs None (event_of h n) ran.start w → (own : List Traced) → AreOwn own → EventsLead y ran.graphs w own now → Begun
  behind (start.Fill c d most) is w step own are rest = record {
    world = w;
    own = own;
    are_own = are;
    rest = rest;
    columns = subst (λ h. AreBegun y.stripes h ran.start.columns w.columns) (sym is) step.starts.columns;
    order = subst InOrder (sym step.starts.columns) (fill-order y ran.start.columns c d step.dead step.none_filling step.unused ran.opens.opening.order);
    at = at-start w (start.Fill c d most) is (ap (passes is_filling) (ap (λ (l : List ColumnState). slice_get l c) step.starts.columns ∙ get_set_same ran.start.columns c Dead (Filling d (none_done y.stripes)) step.dead));
  }
  behind (start.Resume c most) is w step own are rest = record {
    world = w;
    own = own;
    are_own = are;
    rest = rest;
    columns = subst (λ h. AreBegun y.stripes h ran.start.columns w.columns) (sym is) step.starts.columns;
    order = subst InOrder (sym step.starts.columns) ran.opens.opening.order;
    at = at-start w (start.Resume c most) is (ap (passes is_filling) (ap (λ (l : List ColumnState). slice_get l c) step.starts.columns ∙ step.filling));
  }
  behind (start.Spread c) is w step own are rest = record {
    world = w;
    own = own;
    are_own = are;
    rest = rest;
    columns = subst (λ h. AreBegun y.stripes h ran.start.columns w.columns) (sym is) step.starts.columns;
    order = subst InOrder (sym step.starts.columns) (spread-order y ran.start.columns c step.dead step.none_spread ran.opens.opening.order);
    at = at-start w (start.Spread c) is step.spares;
  }

  pub begun : Begun
  begun = by a.start refl ran.rests.begins
    where
      by : (h : Option Start) → a.start ≡ h → BeginsBy h n ran.events → Begun
      by None is all = record {
        world = ran.start;
        own = ran.events;
        are_own = all-own ran.events all;
        rest = ran.rests.run;
        columns = subst (λ h. AreBegun y.stripes h ran.start.columns ran.start.columns) (sym is) refl;
        order = ran.opens.opening.order;
        at = λ how also. let z : None ≡ Some how = sym is ∙ also in absurd (let u : ⊥ = cc in u);
      }
      by (Some h) is begins =
          let first = first-step y ran.graphs ran.start now begins.0 (event_of h n) (subst (λ es. EventsLead y ran.graphs ran.start es now) begins.1 ran.rests.run) in
          behind h is first.0 (subst (λ l. StepBy y ran.graphs l (event_of h n) ran.start first.0) ran.opens.opening.lost first.1) begins.0 (all-own begins.0 begins.2) first.2

  -- ## What the columns were

  kind-begun : (k : ℕ) → kind (slice_get begun.world.columns k) ≡ option_map bare (slice_get (with_start a.start a.columns) k)
  kind-begun k =
      kind-at begun.world.columns (map bare (with_start a.start a.columns)) (kinds-begun y a.columns ran.start.columns ran.opens.columns a.start begun.world.columns begun.columns) k
      ∙ slice_get-map bare (with_start a.start a.columns) k

  kinds-now : (k : ℕ) → (kind (slice_get now.columns k) ≡ kind (slice_get begun.world.columns k)) ⊎ (slice_get now.columns k ≡ Some Dead)
  kinds-now k = run-kinds y ran.graphs begun.world begun.own now begun.are_own begun.rest k

  -- one that is kept filling was so as the clients' own events began, and one that is kept spread was so
  pub filling-kept : (k : ℕ) → passes is_set_filling (slice_get ran.ends.kept k) ≡ true → passes is_filling (slice_get begun.world.columns k) ≡ true
  filling-kept k kept =
      let h = filling-before y now.columns ran.ends.kept ran.ends.closes k kept in
      elim (kinds-now k) [
        | inl same ↦ filling-kind (slice_get begun.world.columns k) ∙ (ap (passes is_set_filling) (sym same) ∙ (sym (filling-kind (slice_get now.columns k)) ∙ h))
        | inr dead ↦ not-so (passes is_filling (slice_get now.columns k)) (ap (passes is_filling) dead) h
      ]

  pub spread-kept : (k : ℕ) → passes is_set_spread (slice_get ran.ends.kept k) ≡ true → passes is_spread (slice_get begun.world.columns k) ≡ true
  spread-kept k kept =
      let h = spread-before y now.columns ran.ends.kept ran.ends.closes k kept in
      elim (kinds-now k) [
        | inl same ↦ spread-kind (slice_get begun.world.columns k) ∙ (ap (passes is_set_spread) (sym same) ∙ (sym (spread-kind (slice_get now.columns k)) ∙ h))
        | inr dead ↦ not-so (passes is_spread (slice_get now.columns k)) (ap (passes is_spread) dead) h
      ]

  pub one-kept : AtMostOne is_set_filling ran.ends.kept
  one-kept c k h other = one-filling begun.world.columns begun.order c k (filling-kept c h) (filling-kept k other)

  -- a column that is kept had its device as it is begun
  pub device-begun : (k d : ℕ) → HasDeviceOn ran.ends.kept k d → HasDeviceOn (with_start a.start a.columns) k d
  device-begun k d has = elim (ran.ends.came k) [
    | inl kept ↦ kept-device (slice_get (with_start a.start a.columns) k) (slice_get ran.ends.kept k) d kept has
    | inr dead ↦ no-device (slice_get ran.ends.kept k) d (ap device_set dead.0) has
  ]

  device-world : (k d : ℕ) → HasDeviceOn ran.ends.kept k d → HasDevice begun.world.columns k d
  device-world k d has = device-of-kind (slice_get begun.world.columns k) (slice_get (with_start a.start a.columns) k) d (kind-begun k) (device-begun k d has)

  pub kept-order : InOrder (states_of y ran.ends.kept)
  kept-order =
      order-set y ran.ends.kept (λ c k d one two. begun.order.one_column c k d (device-world c d one) (device-world k d two)) one-kept
      (λ c k h other. one-spread begun.world.columns begun.order c k (spread-kept c h) (spread-kept k other))
