-- What the clients' own events find behind the start of a rebuild, and what becomes of it.
use Rattle.std.proofs.Common.{◌≡◌, ◌≢◌, ◌⊎◌, inl, inr, ℕ, List, ◌++◌, Bool, true, false, Option, Some, None, slice_get, slice_set, map, option_map, refl, sym, ◌∙◌, ap, subst, arith}
use Rattle.std.specs.Prelude.{Contains, count_by}
use Rattle.std.proofs.lemmas.Bool.{cases_eq}
use Rattle.std.proofs.lemmas.Option.{slice_get-map}
use Rattle.blk_disk.specs.declared.disk.Disk.{Ghosts as DiskGhosts}
use Rattle.lay_core.specs.Layout.{Shape}
use Rattle.lay_core.specs.declared.layout.Layout.{Ghosts as LayoutGhosts}
use Rattle.eng_cols.specs.declared.column.Column.{Column}
use Rattle.eng_cols.specs.declared.column.Column.TheVariants as set
use Rattle.eng_cols.specs.Cols.{ColumnState, Dead, Filling, HasDevice, Live, Spread, is_filling, is_set_filling, none_done, passes}
use Rattle.eng_cols.specs.Stripes.{filled_in}
use Rattle.eng_cols.proofs.Fewer.{states-at}
use Rattle.eng_cols.proofs.Lists.{get_set_either, get_set_other, get_set_same}
use Rattle.eng_world.specs.declared.item.Traced.{Traced}
use Rattle.eng_world.specs.declared.item.Traced.TheVariants as event
use Rattle.eng_world.specs.Rows.{HasHad}
use Rattle.eng_parts.specs.declared.setup.Setup.{Setup}
use Rattle.eng_parts.specs.declared.setup.Closed.{Closed}
use Rattle.eng_state.specs.declared.array.Array.{Array}
use Rattle.eng_array.specs.declared.start.Start.{Start}
use Rattle.eng_array.specs.declared.start.Start.TheVariants as start
use Rattle.eng_array.specs.Starts as starts
use Rattle.top_serve.specs.Setups.{shape_in, graphs_in, begun_in, with_start, MayRebuild, MayStart}
use Rattle.top_serve.proofs.Between.{Course}
use Rattle.top_serve.proofs.Columns.{AreSet, SetIn, set-in, set-states, run-sets, run-kinds}
use Rattle.top_serve.proofs.Died.{dead-none}
use Rattle.top_serve.proofs.Closings.{IsReady}
use Rattle.top_serve.proofs.MayBegin.{counted}
use Rattle.top_serve.proofs.Alike.{AreBegun, bare, kind, kinds, kinds-set, kinds-begun, kind-at, kind-filling, device-alike, either-has, first-is}
use Rattle.top_serve.proofs.Starting.{first_of}

-- an event from outside, in a list of own ones behind a start, is the start
pub start-is : (how : Option Start) (count : ℕ) (own : List Traced) (e : Traced) → (Contains own e → ⊥) → Contains (own ++ first_of how count) e → (rebuild : Start) × (how ≡ Some rebuild) × (starts.event_of rebuild count ≡ e)
start-is how count own e none has = elim (either-has own (first_of how count) e has) [ inl h ↦ absurd (none h) | inr h ↦ first-is how count e h ]

-- the column is dead as it is begun so
abbrev pub IsFresh : Option Start → ℕ → Type 0
IsFresh None k = ⊥
IsFresh (Some (start.Fill c device most)) k = k ≡ c
IsFresh (Some (start.Resume c most)) k = ⊥
IsFresh (Some (start.Spread c)) k = k ≡ c

stays : (old new : List ColumnState) (c d : ℕ) → slice_get new c ≡ slice_get old c → HasDevice old c d → HasDevice new c d
stays old new c d same (inl h) = inl (same ∙ h)
stays old new c d same (inr h) = inr (h.0, same ∙ h.1)

-- a device that was in a column is there still
begun-had : (n : ℕ) (how : Option Start) (old new : List ColumnState) → ((k : ℕ) → IsFresh how k → slice_get old k ≡ Some Dead) → AreBegun n how old new → (c d : ℕ) → HasDevice old c d → HasDevice new c d
begun-had n None old new dead is c d has = stays old new c d (ap (λ (l : List ColumnState). slice_get l c) is) has
begun-had n (Some (start.Resume k most)) old new dead is c d has = stays old new c d (ap (λ (l : List ColumnState). slice_get l c) is) has
begun-had n (Some (start.Fill k device most)) old new dead is c d has = elim (cases_eq c k) [
  | inl e ↦ dead-none (slice_get old c) d (dead c e) has
  | inr ne ↦ stays old new c d (ap (λ (l : List ColumnState). slice_get l c) is ∙ get_set_other old k c _ ne) has
]
begun-had n (Some (start.Spread k)) old new dead is c d has = elim (cases_eq c k) [
  | inl e ↦ dead-none (slice_get old c) d (dead c e) has
  | inr ne ↦ stays old new c d (ap (λ (l : List ColumnState). slice_get l c) is ∙ get_set_other old k c _ ne) has
]

-- columns that are set stay so, but for one that is to be spread
pub begun-set : (n : ℕ) (how : Option Start) (old new : List ColumnState) → AreSet n old → AreBegun n how old new → (c : ℕ) → ((k : ℕ) → how ≡ Some (start.Spread k) → c ≢ k) → SetIn n (slice_get new c)
begun-set n None old new set is c other = subst (SetIn n) (sym (ap (λ (l : List ColumnState). slice_get l c) is)) (set c)
begun-set n (Some (start.Resume k most)) old new set is c other = subst (SetIn n) (sym (ap (λ (l : List ColumnState). slice_get l c) is)) (set c)
begun-set n (Some (start.Fill k device most)) old new set is c other = subst (SetIn n) (sym (ap (λ (l : List ColumnState). slice_get l c) is))
    (elim (get_set_either old k c (Filling device (none_done n))) [ inl here ↦ subst (SetIn n) (sym here) (set-in n (Filling device (none_done n)) tt) | inr same ↦ subst (SetIn n) (sym same) (set c) ])
begun-set n (Some (start.Spread k)) old new set is c other = subst (SetIn n) (sym (ap (λ (l : List ColumnState). slice_get l c) is ∙ get_set_other old k c _ (other k refl))) (set c)

pub filling-kind : (o : Option ColumnState) → passes is_filling o ≡ passes is_set_filling (kind o)
filling-kind (Some (Live device)) = refl
filling-kind (Some Dead) = refl
filling-kind (Some (Filling device done)) = refl
filling-kind (Some (Spread done)) = refl
filling-kind None = refl

pub filling-bare : (o : Option Column) → passes is_set_filling (option_map bare o) ≡ passes is_set_filling o
filling-bare (Some (set.Live device)) = refl
filling-bare (Some set.Dead) = refl
filling-bare (Some (set.Filling device done)) = refl
filling-bare (Some set.Spread) = refl
filling-bare None = refl

-- where none is filling, none is once a column is to be spread
pub unfilled : (columns : List Column) → count_by is_set_filling columns ≡ 0 → (k c : ℕ) → passes is_set_filling (slice_get (slice_set columns k set.Spread) c) ≡ false
unfilled columns none k c = elim (get_set_either columns k c set.Spread) [
  | inl here ↦ ap (passes is_set_filling) here
  | inr same ↦ ap (passes is_set_filling) same ∙ go (slice_get columns c) refl
]
  where
    by : (x : Column) → slice_get columns c ≡ Some x → (b : Bool) → is_set_filling x ≡ b → is_set_filling x ≡ false
    by x at false is = is
    by x at true is = let one = counted is_set_filling columns c x at is in absurd (omega (arith, one, none))

    go : (o : Option Column) → slice_get columns c ≡ o → passes is_set_filling o ≡ false
    go None at = refl
    go (Some x) at = by x at (is_set_filling x) refl

module _ {L D : Type 0} (lay : LayoutGhosts L) (disk : DiskGhosts D) (setup : Setup L D) where
  pub fresh-dead : (how : Option Start) → MayStart lay disk setup how → (k : ℕ) → IsFresh how k → slice_get setup.columns.items k ≡ Some set.Dead
  fresh-dead None may k e = absurd e
  fresh-dead (Some (start.Fill c device most)) may k e = subst (λ j. slice_get setup.columns.items j ≡ Some set.Dead) (sym e) may.target.0.dead
  fresh-dead (Some (start.Resume c most)) may k e = absurd e
  fresh-dead (Some (start.Spread c)) may k e = subst (λ j. slice_get setup.columns.items j ≡ Some set.Dead) (sym e) may.target.0.dead

  -- the column that is rebuilt isn't dead once that has begun
  begun-lives : (how : Start) → MayRebuild lay disk setup how → slice_get (with_start (Some how) setup.columns.items) (starts.column_of how) ≡ Some set.Dead → ⊥
  begun-lives (start.Fill c device most) may dead =
      let z : Some (set.Filling device 0) ≡ Some set.Dead = sym (get_set_same setup.columns.items c set.Dead (set.Filling device 0) may.target.0.dead) ∙ dead in let u : ⊥ = cc in u
  begun-lives (start.Resume c most) may dead =
      let z : Some (set.Filling may.target.0 may.target.1) ≡ Some set.Dead = sym may.target.2 ∙ dead in let u : ⊥ = cc in u
  begun-lives (start.Spread c) may dead =
      let z : Some set.Spread ≡ Some set.Dead = sym (get_set_same setup.columns.items c set.Dead set.Spread may.target.0.dead) ∙ dead in let u : ⊥ = cc in u

module _ {L D : Type 0} (lay : LayoutGhosts L) (disk : DiskGhosts D) (setup : Setup L D) (how : Option Start) (first last : Array L D) (closed : Closed L D) (p : Course lay disk setup how first last closed) where
  abbrev y : Shape
  y = shape_in lay setup

  abbrev n : ℕ
  n = (shape_in lay setup).stripes

  abbrev columns : List Column
  columns = with_start how setup.columns.items

  pub lives-here : (rebuild : Start) → how ≡ Some rebuild → slice_get (with_start how setup.columns.items) (starts.column_of rebuild) ≡ Some set.Dead → ⊥
  lives-here rebuild is dead =
      begun-lives lay disk setup rebuild (subst (λ h. MayStart lay disk setup h) is p.between.may)
      (subst (λ h. slice_get (with_start h setup.columns.items) (starts.column_of rebuild) ≡ Some set.Dead) is dead)

  -- ## Kinds

  pub kinds-mid : kinds p.mid.columns ≡ map bare (with_start how setup.columns.items)
  kinds-mid = kinds-begun y setup.columns.items p.start.columns p.columns how p.mid.columns p.begun_columns

  pub kinds-in : kinds (begun_in lay setup how) ≡ map bare (with_start how setup.columns.items)
  kinds-in = kinds-set y columns

  pub kind-mid : (c : ℕ) → kind (slice_get p.mid.columns c) ≡ option_map bare (slice_get (with_start how setup.columns.items) c)
  kind-mid c = kind-at p.mid.columns (map bare columns) kinds-mid c ∙ slice_get-map bare columns c

  kind-in : (c : ℕ) → kind (slice_get (begun_in lay setup how) c) ≡ option_map bare (slice_get (with_start how setup.columns.items) c)
  kind-in c = kind-at (begun_in lay setup how) (map bare columns) kinds-in c ∙ slice_get-map bare columns c

  -- ## Devices

  pub mid-had : (c d : ℕ) → HasDevice p.mid.columns c d → HasDevice (begun_in lay setup how) c d
  mid-had c d has = device-alike p.mid.columns (begun_in lay setup how) (kinds-mid ∙ sym kinds-in) c d has

  pub had-mid : (c d : ℕ) → HasDevice (begun_in lay setup how) c d → HasDevice p.mid.columns c d
  had-mid c d has = device-alike (begun_in lay setup how) p.mid.columns (kinds-in ∙ sym kinds-mid) c d has

  pub one-column : (c k d : ℕ) → HasDevice (begun_in lay setup how) c d → HasDevice (begun_in lay setup how) k d → c ≡ k
  one-column c k d one two = p.opening_begun.order.one_column c k d (had-mid c d one) (had-mid k d two)

  was-dead : (k : ℕ) → IsFresh how k → slice_get p.start.columns k ≡ Some Dead
  was-dead k fresh = ap (λ (l : List ColumnState). slice_get l k) p.columns ∙ states-at y setup.columns.items k set.Dead (fresh-dead lay disk setup how p.between.may k fresh)

  start-had : (c d : ℕ) → HasDevice p.start.columns c d → HasDevice (begun_in lay setup how) c d
  start-had c d has = mid-had c d (begun-had n how p.start.columns p.mid.columns was-dead p.begun_columns c d has)

  pub filled-has : (rebuild : Start) (c d count : ℕ) → how ≡ Some rebuild → starts.event_of rebuild p.count ≡ event.Fill c d count → HasDevice (begun_in lay setup how) c d
  filled-has (start.Spread k) c d count is e = let z : event.Spread k ≡ event.Fill c d count = e in absurd (let u : ⊥ = cc in u)
  filled-has (start.Resume k most) c d count is e = let z : event.Resume k p.count ≡ event.Fill c d count = e in absurd (let u : ⊥ = cc in u)
  filled-has (start.Fill k device most) c d count is e =
      let z : event.Fill k device p.count ≡ event.Fill c d count = e in
      let a : k ≡ c = cc in
      let b : device ≡ d = cc in
      let may = subst (λ h. MayStart lay disk setup h) is p.between.may in
      let here : slice_get (with_start how setup.columns.items) k ≡ Some (set.Filling device 0) =
      subst (λ h. slice_get (with_start h setup.columns.items) k ≡ Some (set.Filling device 0)) (sym is) (get_set_same setup.columns.items k set.Dead (set.Filling device 0) may.target.0.dead) in
      inr (kind-filling (slice_get (begun_in lay setup how) c) d
      (subst (λ j. kind (slice_get (begun_in lay setup how) j) ≡ Some (set.Filling d 0)) a (kind-in k ∙ (ap (option_map bare) here ∙ ap (λ v. Some (set.Filling v 0)) b))))

  -- what a column has had it had as the clients' events began
  pub had-begun : (c d : ℕ) → HasHad p.start (p.own ++ first_of how p.count) c d → HasDevice (begun_in lay setup how) c d
  had-begun c d (inl has) = start-had c d has
  had-begun c d (inr (count, has)) = let s = start-is how p.count p.own (event.Fill c d count) (p.are_own (event.Fill c d count)) has in filled-has s.0 c d count s.1 s.2

  -- no column fails from outside
  pub none-fails : (c : ℕ) → Contains (p.own ++ first_of how p.count) (event.Fail c) → ⊥
  none-fails c has = let s = start-is how p.count p.own (event.Fail c) (p.are_own (event.Fail c)) has in by s.0 s.2
    where
      by : (rebuild : Start) → starts.event_of rebuild p.count ≡ event.Fail c → ⊥
      by (start.Fill k device most) e = let z : event.Fill k device p.count ≡ event.Fail c = e in let u : ⊥ = cc in u
      by (start.Resume k most) e = let z : event.Resume k p.count ≡ event.Fail c = e in let u : ⊥ = cc in u
      by (start.Spread k) e = let z : event.Spread k ≡ event.Fail c = e in let u : ⊥ = cc in u

  -- ## At rest

  start-set : AreSet n p.start.columns
  start-set = subst (AreSet n) (sym p.columns) (set-states n (filled_in y setup.columns.items) setup.columns.items)

  pub kinds-now : (c : ℕ) → (kind (slice_get p.now.columns c) ≡ option_map bare (slice_get (with_start how setup.columns.items) c)) ⊎ (slice_get p.now.columns c ≡ Some Dead)
  kinds-now c = elim (run-kinds (shape_in lay setup) (graphs_in setup) p.mid p.own p.now p.are_own p.run_own c) [
    | inl same ↦ inl (same ∙ kind-mid c)
    | inr dead ↦ inr dead
  ]

  -- each column but one that is to be spread is set still
  pub now-set : (c : ℕ) → ((k : ℕ) → how ≡ Some (start.Spread k) → c ≢ k) → SetIn n (slice_get p.now.columns c)
  now-set c other = run-sets (shape_in lay setup) (graphs_in setup) n p.mid p.own p.now p.are_own p.run_own c (begun-set n how p.start.columns p.mid.columns start-set p.begun_columns c other)

  -- what is so as the core is closed
  pub ready : IsReady (shape_in lay setup) p.now.columns how
  ready = by how refl
    where
      settled : ((k : ℕ) → how ≡ Some (start.Spread k) → ⊥) → (c : ℕ) → SetIn n (slice_get p.now.columns c)
      settled none c = now-set c (λ k is. absurd (none k is))

      spread : (k : ℕ) → how ≡ Some (start.Spread k) → IsReady (shape_in lay setup) p.now.columns (Some (start.Spread k))
      spread k is =
          let may = subst (λ h. MayStart lay disk setup h) is p.between.may in
          let begun : with_start how setup.columns.items ≡ slice_set setup.columns.items k set.Spread = ap (λ h. with_start h setup.columns.items) is in (
            (λ c ne. now-set c (λ j also. let z : Some (start.Spread k) ≡ Some (start.Spread j) = sym is ∙ also in let e : k ≡ j = cc in subst (λ i. c ≢ i) e ne)),
            (λ c. elim (kinds-now c) [
              | inl same ↦ filling-kind (slice_get p.now.columns c) ∙ (ap (passes is_set_filling) same ∙ (filling-bare (slice_get (with_start how setup.columns.items) c) ∙ (ap (λ (l : List Column). passes is_set_filling (slice_get l c)) begun ∙ unfilled setup.columns.items may.target.0.none_filling k c)))
              | inr dead ↦ ap (passes is_filling) dead
            ]),
            elim (kinds-now k) [
              | inl same ↦ inl (same ∙ ap (option_map bare) (ap (λ (l : List Column). slice_get l k) begun ∙ get_set_same setup.columns.items k set.Dead set.Spread may.target.0.dead))
              | inr dead ↦ inr dead
            ],
          )

      by : (h : Option Start) → how ≡ h → IsReady (shape_in lay setup) p.now.columns h
      by None is = settled (λ k also. let z : None ≡ Some (start.Spread k) = sym is ∙ also in let u : ⊥ = cc in u)
      by (Some (start.Fill k device most)) is = settled (λ j also. let z : Some (start.Fill k device most) ≡ Some (start.Spread j) = sym is ∙ also in let u : ⊥ = cc in u)
      by (Some (start.Resume k most)) is = settled (λ j also. let z : Some (start.Resume k most) ≡ Some (start.Spread j) = sym is ∙ also in let u : ⊥ = cc in u)
      by (Some (start.Spread k)) is = spread k is
