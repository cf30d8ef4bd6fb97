-- The causes of replies, of failed devices, of dead columns and of a loss.
use Rattle.std.proofs.Common.{◌≡◌, ◌≢◌, ◌⊎◌, inl, inr, option_map, ℕ, List, [], ◌∷◌, ◌++◌, length, Bool, Option, Some, None, slice_get, refl, sym, ◌∙◌, ap, subst}
use Rattle.std.specs.Prelude.{Contains}
use Rattle.std.proofs.lemmas.Bool.{cases_eq}
use Rattle.blk_plain.specs.declared.op.OpId.{OpId}
use Rattle.blk_disk.specs.declared.disk.Disk.{Ghosts as DiskGhosts}
use Rattle.lay_core.specs.declared.layout.Layout.{Ghosts as LayoutGhosts}
use Rattle.eng_cols.specs.declared.spot.Loss.{Loss}
use Rattle.eng_cols.specs.declared.column.Column.{Column}
use Rattle.eng_cols.specs.declared.column.Column.TheVariants as set
use Rattle.eng_cols.specs.Cols.{Dead, Spread}
use Rattle.eng_cols.specs.Seats.{HasStripeLeft}
use Rattle.eng_world.specs.declared.item.Traced.{Traced}
use Rattle.eng_world.specs.declared.item.Traced.TheVariants as event
use Rattle.eng_world.specs.Step.{EventsLead}
use Rattle.eng_world.proofs.Caused.{head-has, tail-has}
use Rattle.eng_world.proofs.Answered.{run-causes}
use Rattle.eng_world.proofs.Losses.{loss-of}
use Rattle.eng_parts.specs.declared.setup.Setup.{Setup}
use Rattle.eng_parts.specs.declared.setup.Closed.{Closed}
use Rattle.eng_state.specs.declared.array.Array.{Array}
use Rattle.eng_array.specs.declared.start.Start.{Start}
use Rattle.eng_array.specs.declared.start.Start.TheVariants as start
use Rattle.eng_array.specs.Starts as starts
use Rattle.top_close.specs.Closes.{ClosesAs}
use Rattle.top_close.proofs.ClosingLaws.{closing_dead}
use Rattle.top_serve.specs.Setups.{shape_in, graphs_in, begun_in, with_start}
use Rattle.top_serve.specs.Caused.{WentBadOn}
use Rattle.top_serve.specs.Served.{IsKeptAs, IsUnbuilt, IsLossIn, IsFailedBy, IsDeadBy, CoreCauses}
use Rattle.top_serve.proofs.BadNodes.{went-bad}
use Rattle.top_serve.proofs.Behind.{kinds-now, mid-had, now-set}
use Rattle.top_serve.proofs.Between.{Course}
use Rattle.top_serve.proofs.Blames.{dead-by, failed}
use Rattle.top_serve.proofs.Columns.{AreOwn, SetIn, own-rest}
use Rattle.top_serve.proofs.Hands.{closes, judged-now, now-many, were-now}
use Rattle.top_serve.proofs.Closings.{Ends, ends-as, judged-count, not-whole, set-whole}
use Rattle.top_serve.proofs.Alike.{bare, first-is, kind, kind-spread}
use Rattle.top_serve.proofs.Pausing.{far, paused}
use Rattle.top_serve.proofs.Meaning.{keeps-all}
use Rattle.top_serve.proofs.Starting.{first_of, run-append}
use Rattle.top_serve.proofs.Stopping.{stopped}

-- events behind these are own, if all are
own-behind : (later : List Traced) (e : Traced) (before : List Traced) → AreOwn (later ++ e ∷ before) → AreOwn before
own-behind [] e before own = own-rest e before own
own-behind (x ∷ later) e before own = own-behind later e before (own-rest x (later ++ e ∷ before) own)

-- the event between lists is in both together
between-has : (later : List Traced) (e : Traced) (before : List Traced) → Contains (later ++ e ∷ before) e
between-has [] e before = head-has e before
between-has (x ∷ later) e before = tail-has x (later ++ e ∷ before) e (between-has later e before)

-- an event that is none of the first ones is one of the others
split-own : (own first later : List Traced) (e : Traced) (before : List Traced) → (Contains first e → ⊥) → own ++ first ≡ later ++ e ∷ before → (b : List Traced) × (own ≡ later ++ e ∷ b) × (before ≡ b ++ first)
split-own [] first later e before none is = absurd (none (subst (λ l. Contains l e) (sym is) (between-has later e before)))
split-own (x ∷ own) first [] e before none is =
    let z : x ∷ (own ++ first) ≡ e ∷ before = is in
    let a : x ≡ e = cc in
    let b : own ++ first ≡ before = cc in
    (own, ap (λ h. h ∷ own) a, sym b)
split-own (x ∷ own) first (w ∷ later) e before none is =
    let z : x ∷ (own ++ first) ≡ w ∷ (later ++ e ∷ before) = is in
    let a : x ≡ w = cc in
    let rest : own ++ first ≡ later ++ e ∷ before = cc in
    let s = split-own own first later e before none rest in
    (s.0, ap (λ h. h ∷ own) a ∙ ap (λ l. w ∷ l) s.1, s.2)

none-first : (how : Option Start) (count : ℕ) (id : OpId) (node : ℕ) → Contains (first_of how count) (event.Bad id node) → ⊥
none-first how count id node has = let s = first-is how count (event.Bad id node) has in by s.0 s.2
  where
    by : (rebuild : Start) → starts.event_of rebuild count ≡ event.Bad id node → ⊥
    by (start.Fill k device most) e = let z : event.Fill k device count ≡ event.Bad id node = e in let u : ⊥ = cc in u
    by (start.Resume k most) e = let z : event.Resume k count ≡ event.Bad id node = e in let u : ⊥ = cc in u
    by (start.Spread k) e = let z : event.Spread k ≡ event.Bad id node = e in let u : ⊥ = cc in u

module _ {L D : Type 0} (lay : LayoutGhosts L) (disk : DiskGhosts D) (setup : Setup L D) (how : Option Start) (first last : Array L D) (closed : Closed L D) (p : Course lay disk setup how first last closed) where
  -- ## Nodes that went bad

  bad : (later before : List Traced) (id : OpId) (node : ℕ) → p.own ++ first_of how p.count ≡ later ++ event.Bad id node ∷ before → (d : ℕ) × WentBadOn (shape_in lay setup) (graphs_in setup) (begun_in lay setup how) p.start before id node later p.now d × IsFailedBy lay disk setup how closed p.now d
  bad later before id node split =
      let s = split-own p.own (first_of how p.count) later (event.Bad id node) before (none-first how p.count id node) split in
      let own = subst AreOwn s.1 p.are_own in
      let run = subst (λ (events : List Traced). EventsLead (shape_in lay setup) (graphs_in setup) p.mid events p.now) s.1 p.run_own in
      let went = went-bad (shape_in lay setup) (graphs_in setup) p.layout p.promises p.mid p.opening_begun s.0 (own-behind later (event.Bad id node) s.0 own) id node later p.now run in
      (went.0, subst (λ (b : List Traced). WentBadOn (shape_in lay setup) (graphs_in setup) (begun_in lay setup how) p.start b id node later p.now went.0) (sym s.2) (whole s.0 went.0 went.1), failed lay disk setup how first last closed p went.0 went.2)
    where
      -- seen from the opening
      whole : (b : List Traced) (d : ℕ) → WentBadOn (shape_in lay setup) (graphs_in setup) p.mid.columns p.mid b id node later p.now d → WentBadOn (shape_in lay setup) (graphs_in setup) (begun_in lay setup how) p.start (b ++ first_of how p.count) id node later p.now d
      whole b d w = record {
        world = w.world;
        reached = run-append (shape_in lay setup) (graphs_in setup) p.start p.mid w.world (first_of how p.count) b p.run_begun w.reached;
        leads = w.leads;
        was = w.was;
        runs = w.runs;
        index = w.index;
        call = w.call;
        at = w.at;
        fired = w.fired;
        device = w.device;
        column = mid-had lay disk setup how first last closed p w.at.column d w.column;
      }

  -- ## Columns

  closing : ClosesAs (shape_in lay setup) p.now.columns closed.columns.items
  closing = closes lay disk setup how first last closed p

  abbrev was : ℕ → Option Column
  was c = slice_get (with_start how setup.columns.items) c

  -- one of which a stripe is left was to be spread by the rebuild that started
  unbuilt : (c : ℕ) → kind (slice_get p.now.columns c) ≡ Some set.Spread → HasStripeLeft (shape_in lay setup) p.now.columns c → IsUnbuilt (shape_in lay setup) how p.now c
  unbuilt c kinds left = by how refl
    where
      spread : (done : List Bool) × (slice_get p.now.columns c ≡ Some (Spread done))
      spread = kind-spread (slice_get p.now.columns c) kinds

      alive : slice_get p.now.columns c ≡ Some Dead → ⊥
      alive dead = let z : Some Dead ≡ Some (Spread spread.0) = sym dead ∙ spread.1 in let u : ⊥ = cc in u

      settled : {A : Type 0} → ((k : ℕ) → how ≡ Some (start.Spread k) → c ≢ k) → A
      settled other =
          let set = subst (SetIn (shape_in lay setup).stripes) spread.1 (now-set lay disk setup how first last closed p c other) in
          not-whole (shape_in lay setup) p.now.columns c (set-whole (shape_in lay setup) p.now.columns c spread.0 spread.1 set) left

      by : (h : Option Start) → how ≡ h → IsUnbuilt (shape_in lay setup) how p.now c
      by None is = settled (λ k also. let z : None ≡ Some (start.Spread k) = sym is ∙ also in absurd (let u : ⊥ = cc in u))
      by (Some (start.Fill j device most)) is = settled (λ k also. let z : Some (start.Fill j device most) ≡ Some (start.Spread k) = sym is ∙ also in absurd (let u : ⊥ = cc in u))
      by (Some (start.Resume j most)) is = settled (λ k also. let z : Some (start.Resume j most) ≡ Some (start.Spread k) = sym is ∙ also in absurd (let u : ⊥ = cc in u))
      by (Some (start.Spread j)) is = elim (cases_eq c j) [
        | inl e ↦ (is ∙ ap (λ (k : ℕ). Some (start.Spread k)) (sym e), alive, left)
        | inr ne ↦ settled (λ k also. let z : Some (start.Spread j) ≡ Some (start.Spread k) = sym is ∙ also in let e : j ≡ k = cc in subst (λ i. c ≢ i) e ne)
      ]

  ends : (c : ℕ) → IsKeptAs (was c) (slice_get closed.columns.items c) ⊎ ((slice_get closed.columns.items c ≡ Some set.Dead) × (IsDeadBy lay disk setup how closed p.now c ⊎ IsUnbuilt (shape_in lay setup) how p.now c))
  ends c = elim (kinds-now lay disk setup how first last closed p c) [
    | inl same ↦ alive same (ends-as (shape_in lay setup) p.now.columns closed.columns.items closing c (was c) same)
    | inr dead ↦
        let gone = closing_dead (shape_in lay setup) p.now.columns closed.columns.items closing c dead in
        elim (dead-by lay disk setup how first last closed p c dead) [
          | inl before ↦ inl (subst (λ o. IsKeptAs o (slice_get closed.columns.items c)) (sym before) gone)
          | inr why ↦ inr (gone, inl why)
        ]
  ]
    where
      alive : kind (slice_get p.now.columns c) ≡ option_map bare (was c) → Ends (shape_in lay setup) p.now.columns c (was c) (slice_get closed.columns.items c)
          → IsKeptAs (was c) (slice_get closed.columns.items c) ⊎ ((slice_get closed.columns.items c ≡ Some set.Dead) × (IsDeadBy lay disk setup how closed p.now c ⊎ IsUnbuilt (shape_in lay setup) how p.now c))
      alive same (inl kept) = inl kept
      alive same (inr (spread, gone, left)) = inr (gone, inr (unbuilt c (same ∙ ap (option_map bare) spread) left))

  count : length closed.columns.items ≡ length setup.columns.items
  count =
      let read = were-now lay disk setup how first last closed p in
      judged-count (shape_in lay setup) p.now.columns p.between.closes.were.items closed.columns.items read how (judged-now lay disk setup how first last closed p)
      ∙ (read.count ∙ (now-many lay disk setup how first last closed p ∙ sym p.between.given.entries))

  -- ## The loss

  loss : IsLossIn (shape_in lay setup) (graphs_in setup) p.start (p.own ++ first_of how p.count) p.now closed.lost
  loss = by closed.lost (p.shows_now.lost ∙ sym p.between.closes.is_closed.lost)
    where
      by : (o : Option Loss) → p.now.lost ≡ o → IsLossIn (shape_in lay setup) (graphs_in setup) p.start (p.own ++ first_of how p.count) p.now o
      by None is = keeps-all (shape_in lay setup) (graphs_in setup) p.layout p.promises p.start p.opening (p.own ++ first_of how p.count) p.now p.run is
      by (Some l) is = loss-of (shape_in lay setup) (graphs_in setup) p.start (p.own ++ first_of how p.count) p.now p.opening p.run l is

  pub causes : CoreCauses lay disk setup how closed p.start (p.own ++ first_of how p.count) p.now
  causes = record {
    replies = run-causes (shape_in lay setup) (graphs_in setup) p.start p.layout p.promises p.opening (p.own ++ first_of how p.count) p.now p.run;
    count = count;
    ends = ends;
    paused = paused lay disk setup how first last closed p;
    far = far lay disk setup how first last closed p;
    stopped = stopped lay disk setup how first last closed p;
    failed = failed lay disk setup how first last closed p;
    bad = bad;
    loss = loss;
  }
