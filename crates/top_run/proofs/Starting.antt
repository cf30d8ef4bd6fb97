-- The columns of a run that begins with the start of a rebuild.
use Rattle.std.proofs.Common.{◌≡◌, ◌++◌, ℕ, zero, suc, List, [], ◌∷◌, map, Bool, Option, Some, None, option_map, slice_get, refl, sym, ◌∙◌, ap, subst, arith}
use Rattle.std.specs.Prelude.{Contains}
use Rattle.std.proofs.lemmas.Option.{slice_get-map}
use Rattle.lay_core.specs.Layout.{Shape}
use Rattle.eng_cols.specs.declared.column.Column.{Column}
use Rattle.eng_cols.specs.declared.column.Column.TheVariants as set
use Rattle.eng_cols.specs.Cols.{ColumnState, Live, Dead, Filling, Spread, state_set, Columns}
use Rattle.eng_cols.specs.Stripes.{filled_in, states_of}
use Rattle.eng_world.specs.declared.item.Item.{Item}
use Rattle.eng_world.specs.declared.item.Item.TheVariants as item
use Rattle.eng_world.specs.declared.item.Traced.{Traced}
use Rattle.eng_world.specs.declared.item.Traced.TheVariants as event
use Rattle.eng_world.specs.World.{World}
use Rattle.eng_world.specs.Planning.{Graphs}
use Rattle.eng_world.specs.Step.{IsOpening, EventsLead, Step, StepBy}
use Rattle.eng_clients.specs.Listing.{rebuild}
use Rattle.eng_rest.specs.Left.{IsOwn}
use Rattle.eng_array.specs.Starts.{event_of}
use Rattle.eng_array.specs.Tickets.{AllOf}
use Rattle.eng_array.specs.declared.start.Start.{Start}
use Rattle.eng_array.specs.declared.start.Start.TheVariants as start
use Rattle.top_serve.specs.Setups.{with_start}
use Rattle.top_serve.specs.Served.{BeginsBy, IsRebuiltBy}
use Rattle.top_serve.proofs.Alike.{start-other}
use Rattle.top_serve.proofs.Behind.{IsFresh}
use Rattle.top_serve.proofs.Between.{all-own}
use Rattle.eng_cols.proofs.Words.{all_done}

-- ## Columns

dead-back : (n : ℕ) (l : List Bool) (o : Option Column) → option_map (state_set n l) o ≡ Some Dead → o ≡ Some set.Dead
dead-back n l None h = let z : None ≡ Some Dead = h in absurd (let u : ⊥ = cc in u)
dead-back n l (Some (set.Live d)) h = let z : Some (Live d) ≡ Some Dead = h in absurd (let u : ⊥ = cc in u)
dead-back n l (Some set.Dead) h = refl
dead-back n l (Some (set.Filling d m)) h = let z : Some (Filling d l) ≡ Some Dead = h in absurd (let u : ⊥ = cc in u)
dead-back n l (Some set.Spread) h = let z : Some (Spread (all_done n)) ≡ Some Dead = h in absurd (let u : ⊥ = cc in u)

-- a column that is set dead was dead
pub dead-before : (y : Shape) (columns : List Column) (c : ℕ) → slice_get (states_of y columns) c ≡ Some Dead → slice_get columns c ≡ Some set.Dead
dead-before y columns c is = dead-back y.stripes (filled_in y columns) (slice_get columns c) (sym (slice_get-map (state_set y.stripes (filled_in y columns)) columns c) ∙ is)

-- the column is dead of which the rebuild begins anew
abbrev pub IsDeadBefore : Option Start → List Column → Type 0
IsDeadBefore how columns = (k : ℕ) → IsFresh how k → slice_get columns k ≡ Some set.Dead

spread-dead : {A : Type 0} (columns : List Column) (c : ℕ) → slice_get columns c ≡ Some set.Spread → slice_get columns c ≡ Some set.Dead → A
spread-dead columns c is dead = let z : Some set.Spread ≡ Some set.Dead = sym is ∙ dead in absurd (let u : ⊥ = cc in u)

-- a column that is spread before the start is so behind it
pub spread-started : (how : Option Start) (columns : List Column) (c : ℕ) → IsDeadBefore how columns → slice_get columns c ≡ Some set.Spread → slice_get (with_start how columns) c ≡ Some set.Spread
spread-started None columns c dead is = is
spread-started (Some (start.Resume k most)) columns c dead is = is
spread-started (Some (start.Fill k d most)) columns c dead is = start-other (Some (start.Fill k d most)) columns c (λ here. spread-dead columns c is (dead c here)) ∙ is
spread-started (Some (start.Spread k)) columns c dead is = start-other (Some (start.Spread k)) columns c (λ here. spread-dead columns c is (dead c here)) ∙ is

-- ## The first event

-- a run's first event leads from its opening, and the others behind it
pub first-step : (y : Shape) (graphs : Graphs) (opening now : World) (own : List Traced) (e : Traced) → EventsLead y graphs opening (own ++ e ∷ []) now → (w : World) × Step y graphs e opening w × EventsLead y graphs w own now
first-step y graphs opening now [] e run = (now, subst (λ w. Step y graphs e w now) run.1 run.2, refl)
first-step y graphs opening now (x ∷ own) e run =
    let before = first-step y graphs opening run.0 own e run.1 in
    (before.0, before.1, (run.0, before.2, run.2))

-- a rebuild that begins anew starts with a dead column
started-dead : (y : Shape) (graphs : Graphs) (old new : World) (how : Start) (n : ℕ) → old.lost ≡ None → Step y graphs (event_of how n) old new → (k : ℕ) → IsFresh (Some how) k → slice_get old.columns k ≡ Some Dead
started-dead y graphs old new (start.Fill c d most) n none step k here = let s = subst (λ l. StepBy y graphs l (event.Fill c d n) old new) none step in subst (λ j. slice_get old.columns j ≡ Some Dead) (sym here) s.dead
started-dead y graphs old new (start.Resume c most) n none step k here = absurd here
started-dead y graphs old new (start.Spread c) n none step k here = let s = subst (λ l. StepBy y graphs l (event.Spread c) old new) none step in subst (λ j. slice_get old.columns j ≡ Some Dead) (sym here) s.dead

module _ (y : Shape) (graphs : Graphs) (opening now : World) (events : List Traced) (o : IsOpening y opening) (run : EventsLead y graphs opening events now) (columns : List Column) (opened : opening.columns ≡ states_of y columns) where
  pub dead-then : (how : Option Start) (n : ℕ) → BeginsBy how n events → IsDeadBefore how columns
  dead-then None n begins k here = absurd here
  dead-then (Some how) n begins k here =
      let step = first-step y graphs opening now begins.0 (event_of how n) (subst (λ es. EventsLead y graphs opening es now) begins.1 run) in
      let dead = started-dead y graphs opening step.0 how n o.lost step.1 k here in
      dead-before y columns k (ap (λ (l : List ColumnState). slice_get l k) (sym opened) ∙ dead)

-- ## Events

behind : (own : List Traced) (e x : Traced) → AllOf IsOwn own → Contains (own ++ e ∷ []) x → (IsOwn x → ⊥) → x ≡ e
behind [] e x all (zero, within, is) not = sym is
behind [] e x all (suc n, within, is) not = absurd (omega (arith, within))
behind (o ∷ own) e x all (zero, within, is) not = absurd (not (subst IsOwn is all.0))
behind (o ∷ own) e x all (suc n, within, is) not = behind own e x all.1 (n, omega (arith, within), is) not

-- only the start spreads a column
pub spread-by : (how : Option Start) (n : ℕ) (events : List Traced) (c : ℕ) → BeginsBy how n events → Contains events (event.Spread c) → how ≡ Some (start.Spread c)
spread-by None n events c begins has = absurd (all-own events begins (event.Spread c) has)
spread-by (Some how) n events c begins has = of how (behind begins.0 (event_of how n) (event.Spread c) begins.2 (subst (λ es. Contains es (event.Spread c)) begins.1 has) (λ own. own))
  where
    of : (h : Start) → event.Spread c ≡ event_of h n → Some h ≡ Some (start.Spread c)
    of (start.Fill k d most) is = let z : event.Spread c ≡ event.Fill k d n = is in absurd (let u : ⊥ = cc in u)
    of (start.Resume k most) is = let z : event.Spread c ≡ event.Resume k n = is in absurd (let u : ⊥ = cc in u)
    of (start.Spread k) is = let z : event.Spread c ≡ event.Spread k = is in let same : c ≡ k = cc in ap (λ x. Some (start.Spread x)) (sym same)

-- ## Items

abbrev IsRun : Item → Type 0
IsRun (item.Run o graph) = Unit {0}
IsRun (item.Fail c) = ⊥

-- a client that rebuilds fails no column
none-fails : (stripes : List ℕ) (i c : ℕ) → slice_get (map rebuild stripes) i ≡ Some (item.Fail c) → ⊥
none-fails [] i c is = let z : None ≡ Some (item.Fail c) = is in let u : ⊥ = cc in u
none-fails (s ∷ stripes) zero c is = let z : Some (rebuild s) ≡ Some (item.Fail c) = is in let same : rebuild s ≡ item.Fail c = cc in subst IsRun same tt
none-fails (s ∷ stripes) (suc i) c is = none-fails stripes i c is

pub rebuilds-none : (y : Shape) (cols : Columns) (how : Option Start) (items : List Item) (i c : ℕ) → IsRebuiltBy y cols how items → slice_get items i ≡ Some (item.Fail c) → ⊥
rebuilds-none y cols None items i c are is = none-fails [] i c (subst (λ l. slice_get l i ≡ Some (item.Fail c)) are is)
rebuilds-none y cols (Some how) items i c are is = none-fails are.stripes i c (subst (λ l. slice_get l i ≡ Some (item.Fail c)) are.is is)
