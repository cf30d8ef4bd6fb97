-- Why a rebuild isn't done at rest.
use Rattle.std.proofs.Common.{◌≡◌, ◌⊎◌, ◌<◌, ◌==◌, inl, inr, ℕ, zero, suc, List, [], ◌∷◌, ◌++◌, length, Bool, true, false, Option, Some, None, slice_get, slice_set, refl, sym, ◌∙◌, ap, subst, arith, IsSome, is_some, option_map}
use Rattle.std.specs.Prelude.{◌||◌, not, Contains}
use Rattle.std.proofs.lemmas.Bool.{cases_eq, cases_Bool, cases_lt, eqb-true, and_parts}
use Rattle.std.proofs.lemmas.Option.{slice_get-get_or}
use Rattle.blk_disk.specs.declared.disk.Disk.{Ghosts as DiskGhosts}
use Rattle.lay_core.specs.declared.place.Place.{Place}
use Rattle.lay_core.specs.Layout.{Shape, IsLayout}
use Rattle.lay_core.specs.declared.layout.Layout.{Ghosts as LayoutGhosts}
use Rattle.eng_cols.specs.declared.spot.Loss.{Loss}
use Rattle.eng_cols.specs.declared.column.Column.{Column}
use Rattle.eng_cols.specs.declared.column.Column.TheVariants as set
use Rattle.eng_cols.specs.Cols.{ColumnState, Live, Dead, Filling, Spread, InOrder, is_done, is_done_on, is_spread, none_done, passes}
use Rattle.eng_cols.specs.Seats.{open_on, seat_on, seat, is_unit_of, HasStripeLeft, IsStripeOf}
use Rattle.eng_cols.proofs.Lists.{get_set_same}
use Rattle.eng_cols.proofs.Wholes.{lies-on as lies-there}
use Rattle.blk_plain.specs.declared.op.Op.TheVariants as op
use Rattle.eng_world.specs.declared.item.Item.{Item}
use Rattle.eng_world.specs.declared.item.Item.TheVariants as item
use Rattle.eng_world.specs.declared.item.Traced.{Traced}
use Rattle.eng_world.specs.declared.item.Traced.TheVariants as event
use Rattle.eng_world.specs.Rebuilding.{Rebuilds, KeepSeats}
use Rattle.eng_world.specs.Step.{EventsLead, column_begun}
use Rattle.eng_world.proofs.Whole.{asked-done, first-step}
use Rattle.eng_parts.specs.declared.setup.Setup.{Setup}
use Rattle.eng_parts.specs.declared.setup.Closed.{Closed}
use Rattle.eng_state.specs.declared.array.Array.{Array}
use Rattle.eng_array.specs.declared.start.Start.{Start}
use Rattle.eng_array.specs.declared.start.Start.TheVariants as start
use Rattle.eng_array.specs.Starts as starts
use Rattle.top_serve.specs.Caused.{HasSpareOn, RestsOn}
use Rattle.top_serve.specs.Setups.{shape_in, graphs_in, with_start, HasSparePlaces, MayStart}
use Rattle.top_serve.specs.Served.{IsKeptAs, IsStoppedBy}
use Rattle.top_serve.proofs.Begins.{replied}
use Rattle.top_serve.proofs.Behind.{kinds-now, lives-here}
use Rattle.top_serve.proofs.Between.{Course}
use Rattle.top_serve.proofs.Blames.{dead-by}
use Rattle.top_serve.proofs.Columns.{AreOwn, own-quiet}
use Rattle.top_serve.proofs.Hands.{closes}
use Rattle.top_serve.proofs.Closings.{Ends, ends-as}
use Rattle.top_serve.proofs.Alike.{bare, kind, kind-spread}
use Rattle.top_serve.proofs.Meaning.{invariant}
use Rattle.top_serve.proofs.Starting.{first_of}
use Rattle.eng_cols.proofs.Words.{spare_open}

-- ## The first seat that is gone

find : (P : ℕ → Bool) (m : ℕ) → ((i : ℕ) → i < m → P i ≡ true) ⊎ ((i : ℕ) × (i < m) × (P i ≡ false))
find P zero = inl (λ i lt. absurd (omega (arith, lt)))
find P (suc m) = elim (find P m) [
  | inr (i, lt, not) ↦ inr (i, omega (arith, lt), not)
  | inl all ↦ elim (cases_Bool (P m)) [
    | inr not ↦ inr (m, omega arith, not)
    | inl is ↦ inl (λ i lt. elim (cases_eq i m) [ inl e ↦ ap P e ∙ is | inr ne ↦ all i (omega (arith, lt, ne)) ])
  ]
]

find-two : (P : ℕ → ℕ → Bool) (n m : ℕ) → ((s i : ℕ) → s < n → i < m → P s i ≡ true) ⊎ ((s : ℕ) × (i : ℕ) × (s < n) × (i < m) × (P s i ≡ false))
find-two P zero m = inl (λ s i lt. absurd (omega (arith, lt)))
find-two P (suc n) m = elim (find-two P n m) [
  | inr (s, i, lt, il, not) ↦ inr (s, i, omega (arith, lt), il, not)
  | inl all ↦ elim (find (P n) m) [
    | inr (i, il, not) ↦ inr (n, i, omega arith, il, not)
    | inl row ↦ inl (λ s i lt il. elim (cases_eq s n) [ inl e ↦ ap (λ t. P t i) e ∙ row i il | inr ne ↦ all s i (omega (arith, lt, ne)) il ])
  ]
]

not-both : {A : Type 0} (b : Bool) → b ≡ true → b ≡ false → A
not-both b is not = let z : true ≡ false = sym is ∙ not in absurd (let u : ⊥ = cc in u)

either : (a b : Bool) → (a || b) ≡ true → (a ≡ true) ⊎ (b ≡ true)
either true b h = inl refl
either false b h = inr h

-- what isn't so, or else so, isn't so
neither : (a b : Bool) → (not a || b) ≡ false → (a ≡ true) × (b ≡ false)
neither true b h = (refl, h)
neither false b h = not-both true refl h

so : (a b : Bool) → (not a || b) ≡ true → a ≡ true → b ≡ true
so true b h is = h
so false b h is = not-both false is refl

-- ## A rebuild into the spare places

module _ (y : Shape) (layout : IsLayout y) (cols : List ColumnState) (count : length cols ≡ y.columns) (order : InOrder cols) (spares : (s : ℕ) → s < y.stripes → IsSome (y.spare s)) (c : ℕ) (done : List Bool) (is_spread_now : slice_get cols c ≡ Some (Spread done)) where
  -- a column that has a spare place for it, and is dead
  abbrev Gone : Type 0
  Gone = (k : ℕ) × HasSpareOn y c k × (slice_get cols k ≡ Some Dead)

  module _ (s i : ℕ) (sw : s < y.stripes) (iw : i < y.width) (lies : (y.place s i).column ≡ c) where
    on-place : (p : Place) → y.spare s ≡ Some p → (o : Option ColumnState) → slice_get cols p.column ≡ o → is_some (open_on o p) ≡ false → Gone
    on-place p e (Some (Live device)) at h = not-both true refl h
    on-place p e (Some (Filling device other)) at h = not-both true refl h
    on-place p e (Some (Spread other)) at h = absurd (layout.spare_column s i p sw iw e (lies ∙ order.one_spread c p.column done other is_spread_now at))
    on-place p e (Some Dead) at h = (p.column, record { stripe = s; unit = i; within = (sw, iw); lies = lies; place = p; spare = e; on = refl }, at)
    on-place p e None at h =
        let lt = (layout.spare_within s p sw e).0 in
        elim (cases_lt p.column (length cols)) [
          | inl within ↦ let z : None ≡ Some _ = sym at ∙ slice_get-get_or cols p.column Dead within in absurd (let u : ⊥ = cc in u)
          | inr past ↦ absurd (omega (arith, lt, past, count))
        ]

    on-spare : (o : Option Place) → y.spare s ≡ o → is_some (spare_open cols o) ≡ false → Gone
    on-spare None e h = not-both (is_some (y.spare s)) (spares s sw) (ap is_some e)
    on-spare (Some p) e h = on-place p e (slice_get cols p.column) refl h

    gone-here : is_some (seat y cols s i) ≡ false → Gone
    gone-here h = on-spare (y.spare s) refl (sym (ap (λ o. is_some (seat_on y cols o (y.place s i) s)) (ap (slice_get cols) lies ∙ is_spread_now)) ∙ h)

  -- the unit lies on the column, as no other is spread
  lies-on : (s i : ℕ) → is_unit_of y cols s i c ≡ true → (y.place s i).column ≡ c
  lies-on s i of = elim (either (c == (y.place s i).column) _ of) [
    | inl h ↦ sym (eqb-true c (y.place s i).column h)
    | inr h ↦ other (slice_get cols (y.place s i).column) refl (and_parts _ _ h).0
  ]
    where
      other : (o : Option ColumnState) → slice_get cols (y.place s i).column ≡ o → passes is_spread o ≡ true → (y.place s i).column ≡ c
      other (Some (Spread more)) at h = order.one_spread (y.place s i).column c more done at is_spread_now
      other (Some (Live device)) at h = not-both false h refl
      other (Some (Filling device more)) at h = not-both false h refl
      other (Some Dead) at h = not-both false h refl
      other None at h = not-both false h refl

  gone-or-kept : KeepSeats y cols c ⊎ Gone
  gone-or-kept = elim (find-two (λ s i. not (is_unit_of y cols s i c) || is_some (seat y cols s i)) y.stripes y.width) [
    | inl all ↦ inl (λ s i sw iw of. so (is_unit_of y cols s i c) (is_some (seat y cols s i)) (all s i sw iw) of)
    | inr (s, i, sw, iw, h) ↦ let n = neither (is_unit_of y cols s i c) (is_some (seat y cols s i)) h in inr (gone-here s i sw iw (lies-on s i n.0) n.1)
  ]

-- ## Either rebuild

rests-self : (y : Shape) (how : Start) → RestsOn y how (starts.column_of how)
rests-self y (start.Fill c device most) = refl
rests-self y (start.Resume c most) = refl
rests-self y (start.Spread c) = inl refl

-- events behind a start are a rebuild
pub rebuilds : (how : Start) (count : ℕ) (own : List Traced) → AreOwn own → Rebuilds (starts.column_of how) (own ++ starts.event_of how count ∷ [])
rebuilds how count own are = record { first = starts.event_of how count; later = own; split = refl; begins = begins how; quiet = λ e has. own-quiet e (are e has) }
  where
    begins : (how : Start) → column_begun (starts.event_of how count) ≡ Some (starts.column_of how)
    begins (start.Fill c device most) = refl
    begins (start.Resume c most) = refl
    begins (start.Spread c) = refl

-- what was kept and is dead was so
kept-dead : (was kept : Option Column) → IsKeptAs was kept → kept ≡ Some set.Dead → was ≡ Some set.Dead
kept-dead None kept h dead = let z : None ≡ Some set.Dead = sym h ∙ dead in absurd (let u : ⊥ = cc in u)
kept-dead (Some (set.Live d)) kept h dead = let z : Some (set.Live d) ≡ Some set.Dead = sym h ∙ dead in absurd (let u : ⊥ = cc in u)
kept-dead (Some set.Dead) kept h dead = refl
kept-dead (Some (set.Filling d m)) kept (inl h) dead = let z : Some (set.Live d) ≡ Some set.Dead = sym h ∙ dead in absurd (let u : ⊥ = cc in u)
kept-dead (Some (set.Filling d m)) kept (inr (n, h)) dead = let z : Some (set.Filling d n) ≡ Some set.Dead = sym h ∙ dead in absurd (let u : ⊥ = cc in u)
kept-dead (Some set.Spread) kept h dead = let z : Some set.Spread ≡ Some set.Dead = sym h ∙ dead in absurd (let u : ⊥ = cc in u)

none-is-done : (n s : ℕ) → is_done (none_done n) s ≡ false
none-is-done zero s = refl
none-is-done (suc n) zero = refl
none-is-done (suc n) (suc s) = none-is-done n s

may-spread : {L D : Type 0} (lay : LayoutGhosts L) (disk : DiskGhosts D) (setup : Setup L D) (how : Option Start) → MayStart lay disk setup how → (c : ℕ) → how ≡ Some (start.Spread c) → HasSparePlaces lay setup
may-spread lay disk setup how may c is = (subst (λ h. MayStart lay disk setup h) is may).target.1

module _ {L D : Type 0} (lay : LayoutGhosts L) (disk : DiskGhosts D) (setup : Setup L D) (how : Option Start) (first last : Array L D) (closed : Closed L D) (p : Course lay disk setup how first last closed) where
  module _ (rebuild : Start) (is : how ≡ Some rebuild) where
    abbrev c : ℕ
    c = starts.column_of rebuild

    pub rebuilds-it : Rebuilds c (p.own ++ first_of how p.count)
    rebuilds-it = subst (λ h. Rebuilds c (p.own ++ first_of h p.count)) (sym is) (rebuilds rebuild p.count p.own p.are_own)

    -- the column died
    when-dead : slice_get p.now.columns c ≡ Some Dead → IsStoppedBy lay disk setup how closed p.now rebuild
    when-dead dead = elim (dead-by lay disk setup how first last closed p c dead) [
      | inl was ↦ absurd (lives-here lay disk setup how first last closed p rebuild is was)
      | inr why ↦ inr (c, rests-self (shape_in lay setup) rebuild, inr why)
    ]

  -- each of its stripes is asked for, and a stripe that is left is one of them
  all-asked : (k : ℕ) → how ≡ Some (start.Spread k) → (s : ℕ) → s < (shape_in lay setup).stripes → IsStripeOf (shape_in lay setup) p.mid.columns k s → Contains (p.now.clients 16).items (item.Run (op.Rebuild s) None)
  all-asked k is s sw of =
      let run : EventsLead (shape_in lay setup) (graphs_in setup) p.start (event.Spread k ∷ []) p.mid = subst (λ h. EventsLead (shape_in lay setup) (graphs_in setup) p.start (first_of h p.count) p.mid) is p.run_begun in
      let step = first-step (shape_in lay setup) (graphs_in setup) (event.Spread k) p.start p.mid p.opening run in
      let begun : p.mid.columns ≡ slice_set p.start.columns k (Spread (none_done (shape_in lay setup).stripes)) = step.starts.columns in
      let here : slice_get p.mid.columns k ≡ Some (Spread (none_done (shape_in lay setup).stripes)) = ap (λ (l : List ColumnState). slice_get l k) begun ∙ get_set_same p.start.columns k Dead (Spread (none_done (shape_in lay setup).stripes)) step.dead in
      let items : (p.mid.clients 16).items ≡ (p.now.clients 16).items = (p.shows_mid.clients 16).items ∙ (sym (p.last_begun 16) ∙ sym (p.shows_now.clients 16).items) in
      subst (λ (l : List Item). Contains l (item.Run (op.Rebuild s) None)) items
      (step.all s (record { within = sw; of_column = of; left = ap (λ o. is_done_on o s) here ∙ none-is-done (shape_in lay setup).stripes s }))

  -- a column with a spare place for it is dead, if a stripe is left
  left-spread : (k : ℕ) (is : how ≡ Some (start.Spread k)) → p.now.lost ≡ None → kind (slice_get p.now.columns k) ≡ Some set.Spread → HasStripeLeft (shape_in lay setup) p.now.columns k → IsStoppedBy lay disk setup how closed p.now (start.Spread k)
  left-spread k is none kinds left =
      let inv = (invariant (shape_in lay setup) (graphs_in setup) p.layout p.promises p.start p.opening (p.own ++ first_of how p.count) p.now p.run none).control in
      let spread = kind-spread (slice_get p.now.columns k) kinds in
      let places = may-spread lay disk setup how p.between.may k is in
      by inv.count inv.order spread.0 spread.1 (gone-or-kept (shape_in lay setup) p.layout p.now.columns inv.count inv.order places.spares k spread.0 spread.1)
    where
      by : length p.now.columns ≡ (shape_in lay setup).columns → InOrder p.now.columns → (done : List Bool) → slice_get p.now.columns k ≡ Some (Spread done)
          → KeepSeats (shape_in lay setup) p.now.columns k ⊎ ((j : ℕ) × HasSpareOn (shape_in lay setup) k j × (slice_get p.now.columns j ≡ Some Dead)) → IsStoppedBy lay disk setup how closed p.now (start.Spread k)
      by count order done here (inl seats) =
          let done = asked-done (shape_in lay setup) p.layout (graphs_in setup) p.promises p.start p.opening k (p.own ++ first_of how p.count) p.now (rebuilds-it (start.Spread k) is) p.run none (replied lay disk setup how first last closed p 16) seats in
          let of = left.of_column in
          let lies = lies-on (shape_in lay setup) p.layout p.now.columns count order (may-spread lay disk setup how p.between.may k is).spares k _ here left.stripe of.0 of.2 in
          let was = lies-there (shape_in lay setup) p.mid.columns k left.stripe of.0 of.1 lies in
          not-both _ (done left.stripe left.within of (all-asked k is left.stripe left.within was)) left.left
      by count order done here (inr (j, has, gone)) = inr (j, inr has, dead-by lay disk setup how first last closed p j gone)

  unlost : (rebuild : Start) (is : how ≡ Some rebuild) → p.now.lost ≡ None → slice_get closed.columns.items (starts.column_of rebuild) ≡ Some set.Dead → IsStoppedBy lay disk setup how closed p.now rebuild
  unlost rebuild is none dead = elim (kinds-now lay disk setup how first last closed p (starts.column_of rebuild)) [
    | inr gone ↦ when-dead rebuild is gone
    | inl same ↦ by same (ends-as (shape_in lay setup) p.now.columns closed.columns.items (closes lay disk setup how first last closed p) (starts.column_of rebuild) (slice_get (with_start how setup.columns.items) (starts.column_of rebuild)) same)
  ]
    where
      -- only a column that is to be spread can be dead for want of a stripe
      left-over : (rebuild : Start) (is : how ≡ Some rebuild) → slice_get (with_start how setup.columns.items) (starts.column_of rebuild) ≡ Some set.Spread → kind (slice_get p.now.columns (starts.column_of rebuild)) ≡ Some set.Spread
          → HasStripeLeft (shape_in lay setup) p.now.columns (starts.column_of rebuild) → IsStoppedBy lay disk setup how closed p.now rebuild
      left-over (start.Spread k) is spread kinds left = left-spread k is none kinds left
      left-over (start.Fill k device most) is spread kinds left =
          let may = subst (λ h. MayStart lay disk setup h) is p.between.may in
          let z : Some (set.Filling device 0) ≡ Some set.Spread = sym (get_set_same setup.columns.items k set.Dead (set.Filling device 0) may.target.0.dead) ∙ subst (λ h. slice_get (with_start h setup.columns.items) k ≡ Some set.Spread) is spread in
          absurd (let u : ⊥ = cc in u)
      left-over (start.Resume k most) is spread kinds left =
          let may = subst (λ h. MayStart lay disk setup h) is p.between.may in
          let z : Some (set.Filling may.target.0 may.target.1) ≡ Some set.Spread = sym may.target.2 ∙ subst (λ h. slice_get (with_start h setup.columns.items) k ≡ Some set.Spread) is spread in
          absurd (let u : ⊥ = cc in u)

      by : kind (slice_get p.now.columns (starts.column_of rebuild)) ≡ option_map bare (slice_get (with_start how setup.columns.items) (starts.column_of rebuild))
          → Ends (shape_in lay setup) p.now.columns (starts.column_of rebuild) (slice_get (with_start how setup.columns.items) (starts.column_of rebuild)) (slice_get closed.columns.items (starts.column_of rebuild))
          → IsStoppedBy lay disk setup how closed p.now rebuild
      by same (inl kept) = absurd (lives-here lay disk setup how first last closed p rebuild is (kept-dead _ _ kept dead))
      by same (inr (spread, gone, left)) = left-over rebuild is spread (same ∙ ap (option_map bare) spread) left

  pub stopped : (rebuild : Start) → how ≡ Some rebuild → slice_get closed.columns.items (starts.column_of rebuild) ≡ Some set.Dead → IsStoppedBy lay disk setup how closed p.now rebuild
  stopped rebuild is dead = by p.now.lost refl
    where
      by : (o : Option Loss) → p.now.lost ≡ o → IsStoppedBy lay disk setup how closed p.now rebuild
      by (Some loss) h = inl (loss, h)
      by None none = unlost rebuild is none dead
