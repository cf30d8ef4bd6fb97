-- The rebuild of a dead column starts: one event of the world.
use Rattle.std.proofs.Common.{◌≡◌, ◌⊎◌, ℕ, ◌<◌, List, [], length, subst, sym, ap, ◌∙◌, arith, inl, inr, refl, Bool, true, false, Option, Some}
use Rattle.std.specs.Prelude.{slice_get, slice_set, option_map, Contains}
use Rattle.std.specs.List.{list_any}
use Rattle.std.proofs.lemmas.Bool.{cases_eq, false≢true}
use Rattle.std.proofs.lemmas.List.{length-set, length-map, get_or-set_same}
use Rattle.std.proofs.lemmas.Option.{slice_get-get_or, slice_get-map, slice_get_within}
use Rattle.blk_disk.specs.declared.disk.Disk.{Ghosts as DiskGhosts}
use Rattle.lay_core.specs.Layout.{Shape}
use Rattle.lay_core.specs.declared.layout.Layout.{Ghosts as LayoutGhosts}
use Rattle.eng_cols.specs.declared.spot.Loss.{Loss}
use Rattle.eng_cols.specs.Cols.{ColumnState, Columns, Live, Filling, Spread, HasDevice, IsKept, is_filling, is_spread, passes, none_done}
use Rattle.eng_cols.specs.Changes.{begun_filling, begun_spreading}
use Rattle.eng_cols.proofs.Began.{filling-order, spreading-order}
use Rattle.eng_cols.proofs.Lists.{get_set_either, none_passes}
use Rattle.eng_world.specs.declared.item.Item.{Item}
use Rattle.eng_world.specs.declared.item.Traced.{Traced}
use Rattle.eng_world.specs.declared.item.Traced.TheVariants as event
use Rattle.eng_world.specs.World.{World, Client, Nothing as Idles}
use Rattle.eng_world.specs.Serving.{IsUnbegun, AreRebuilds, StartsRebuild, Fills, Resumes, Spreads}
use Rattle.eng_world.specs.Step.{StepBy}
use Rattle.eng_clients.specs.declared.stage.Stage.{Stage}
use Rattle.eng_clients.specs.declared.stage.Stage.TheVariants.{Nothing, Runs}
use Rattle.eng_state.specs.declared.array.Array.{Array}
use Rattle.eng_parts.specs.Shelf.{seen_at, has_failed}
use Rattle.eng_clients.specs.Desk.{Desk, desk_at, no_desk}
use Rattle.eng_clients.specs.Listing.{rebuild}
use Rattle.eng_log.specs.Log.{noted}
use Rattle.eng_starts.specs.Rebuilding.{AreRebuildsBelow, CanRebuild, CanFill, CanResume, CanSpread, Started, added, with_items}
use Rattle.eng_state.specs.Shows.{Shows, ShowsClient, ShowsCurrent}
use Rattle.eng_state.specs.Sound.{IsSound, IsWell, Seated}
use Rattle.eng_state.specs.Steps.{graphs_of, Follows}
use Rattle.eng_state.proofs.Handing.{hands-kept}
use Rattle.eng_state.proofs.Put.{put, put-same, put-other}
use Rattle.eng_starts.proofs.Quiet.{quiet-sound}
use Rattle.eng_state.proofs.Shown.{shown-put, replies-shown}
use Rattle.eng_clients.specs.Replied.{replies_of}
use Rattle.eng_world.proofs.Words.{AreAllRebuilds, columns_of}

-- ## Columns

-- a state written at a column, or what was there
was : (old : List ColumnState) (c : ℕ) (x : ColumnState) (k : ℕ) (z : ColumnState) → slice_get (slice_set old c x) k ≡ Some z → (x ≡ z) ⊎ (slice_get old k ≡ Some z)
was old c x k z h = elim (get_set_either old c k x) [
  | inl written ↦ let same : Some x ≡ Some z = sym written ∙ h in inl (let q : x ≡ z = cc in q)
  | inr kept ↦ inr (sym kept ∙ h)
]

filling-device : (old : List ColumnState) (c device : ℕ) (done : List Bool) (k d : ℕ) → HasDevice (slice_set old c (Filling device done)) k d → (device ≡ d) ⊎ HasDevice old k d
filling-device old c device done k d (inl h) = elim (was old c (Filling device done) k (Live d) h) [
  | inl e ↦ absurd (let z : Filling device done ≡ Live d = e in let u : ⊥ = cc in u)
  | inr g ↦ inr (inl g)
]
filling-device old c device done k d (inr h) = elim (was old c (Filling device done) k (Filling d h.0) h.1) [
  | inl e ↦ let z : Filling device done ≡ Filling d h.0 = e in inl (let q : device ≡ d = cc in q)
  | inr g ↦ inr (inr (h.0, g))
]

spreading-device : (old : List ColumnState) (c : ℕ) (done : List Bool) (k d : ℕ) → HasDevice (slice_set old c (Spread done)) k d → HasDevice old k d
spreading-device old c done k d (inl h) = elim (was old c (Spread done) k (Live d) h) [
  | inl e ↦ absurd (let z : Spread done ≡ Live d = e in let u : ⊥ = cc in u)
  | inr g ↦ inl g
]
spreading-device old c done k d (inr h) = elim (was old c (Spread done) k (Filling d h.0) h.1) [
  | inl e ↦ absurd (let z : Spread done ≡ Filling d h.0 = e in let u : ⊥ = cc in u)
  | inr g ↦ inr (h.0, g)
]

-- what passes isn't there where none passes
none-there : (p : ColumnState → Bool) (cols : List ColumnState) (k : ℕ) (z : ColumnState) → list_any p cols ≡ false → slice_get cols k ≡ Some z → p z ≡ true → ⊥
none-there p cols k z none is h = false≢true (sym (none_passes p cols k none) ∙ (ap (passes p) is ∙ h))

-- ## The rebuilds

are-rebuilds : (y : Shape) (cols : List ColumnState) (c asked : ℕ) (items : List Item) → AreRebuildsBelow y cols c asked y.stripes items → AreRebuilds y cols c items
are-rebuilds y cols c asked items r = record {
  stripes = r.stripes;
  each = λ n s h. ap (λ (l : List Item). slice_get l n) r.is ∙ (slice_get-map rebuild r.stripes n ∙ ap (option_map rebuild) h);
  count = ap length r.is ∙ length-map r.stripes rebuild;
  first = λ s left. r.behind s left.within left;
  only = λ s h. (r.only s h).1;
  ascending = r.ascending;
}

-- where more are asked than there are stripes each that is left is rebuilt
all-rebuilds : (y : Shape) (cols : List ColumnState) (c asked : ℕ) (items : List Item) → AreRebuildsBelow y cols c asked y.stripes items → y.stripes < asked → AreAllRebuilds y cols c items
all-rebuilds y cols c asked items r many s left = elim (r.first s left.within left) [
  | inl has ↦
      let at : slice_get items has.0 ≡ Some (rebuild s) = ap (λ (l : List Item). slice_get l has.0) r.is ∙ (slice_get-map rebuild r.stripes has.0 ∙ ap (option_map rebuild) (slice_get-get_or r.stripes has.0 s has.1 ∙ ap Some has.2)) in
      Contains-at items has.0 (rebuild s) at
  | inr full ↦ let few = r.few in absurd (omega (arith, full, few, many))
]
  where
    Contains-at : (l : List Item) (n : ℕ) (x : Item) → slice_get l n ≡ Some x → Contains l x
    Contains-at l n x h = (n, slice_get_within l n x h, some-one (sym (slice_get-get_or l n x (slice_get_within l n x h)) ∙ h))
      where
        some-one : {a b : Item} → Some a ≡ Some b → a ≡ b
        some-one h = cc

-- the desk that is put is there
desk-set : (desks : List Desk) (d : Desk) → 16 < length desks → desk_at (slice_set desks 16 d) 16 ≡ d
desk-set desks d below = get_or-set_same desks 16 d no_desk below

module _ {L D : Type 0} (lay : LayoutGhosts L) (disk : DiskGhosts D) (old new : Array L D) (c asked : ℕ) (states : List ColumnState) (e : ℕ → Traced) (sound : IsSound lay disk old) (can : CanRebuild lay disk old) (f : Started lay old c asked states e new)
    (seated : Seated disk (lay.shape old.layout) (record old.cols { states = states }) old.devices) where
  abbrev y : Shape
  y = lay.shape old.layout

  abbrev d : Desk
  d = desk_at old.clients 16

  abbrev now : Desk
  now = with_items d f.items

  abbrev mid : Array L D
  mid = record old { clients = slice_set old.clients 16 now; rebuilds = record { items = []; room = 0 }; log = noted old.log (e (length f.items)) }

  abbrev plain : Array L D
  plain = record mid { cols = record old.cols { states = states } }

  to-new : (P : Array L D → Type 0) → P plain → P new
  to-new P h = subst P (sym f.is) h

  below : 16 < length old.clients
  below = let all = sound.well.all in omega (arith, all)

  stage : d.stage ≡ Nothing
  stage = (can.unbegun 16).1

  well-now : IsWell y old.graphs.items old.pool now
  well-now = record {
    runs = λ r. let z : Nothing ≡ Runs = sym stage ∙ r in absurd (let u : ⊥ = cc in u);
    idle = (sound.well.each 16 (omega arith)).idle;
    spots = (sound.well.each 16 (omega arith)).spots;
    replies = let none = ap length (can.unbegun 16).0 in omega (arith, none);
  }

  mid-sound : IsSound lay disk mid
  mid-sound = quiet-sound lay disk old mid 16 now sound below
      (record { clients = refl; pool = refl; locks = refl; lists = refl; devices = refl; layout = refl; cols = refl; graphs = refl; lost = refl })
      (record { stage = (λ h. h, λ h. h); out = λ m. (λ h. h, λ h. h); jobs = refl; graph = refl; lease = refl; spots = refl; stripes = refl; kind = refl })
      well-now

  pub started-sound : IsSound lay disk new
  started-sound = to-new (IsSound lay disk) (record {
    layout = mid-sound.layout;
    seated = seated;
    unit = mid-sound.unit;
    well = mid-sound.well;
    devices = mid-sound.devices;
    seats = mid-sound.seats;
    locked = mid-sound.locked;
    jobs = mid-sound.jobs;
  })

  -- so many rebuilds are added
  pub added-is : length f.items ≡ added new
  added-is = ap length (sym (ap (λ (q : Desk). q.items) (desk-set old.clients now below) ∙ refl)) ∙ sym (ap added f.is)

  module _ (w : World) (s : Shows disk old w) where
    abbrev v : Client
    v = record (w.clients 16) { items = f.items }

    abbrev x : World
    x = record w { columns = states; clients = put w.clients 16 v }

    unbegun : IsUnbegun w
    unbegun k = (
      replies-shown disk old w s can.not_lost k ∙ (can.unbegun k).0,
      subst (λ (t : Stage). ShowsCurrent disk.tells old.pool t (desk_at old.clients k) (w.clients k).current) (can.unbegun k).1 (s.clients k).current,
    )

    still : IsUnbegun x
    still k = elim (cases_eq k 16) [
      | inl is ↦ subst (λ (j : ℕ). ((put w.clients 16 v j).replies ≡ []) × ((put w.clients 16 v j).current ≡ Idles)) (sym is) (subst (λ (q : Client). (q.replies ≡ []) × (q.current ≡ Idles)) (sym (put-same w.clients 16 v)) (unbegun 16))
      | inr ne ↦ subst (λ (q : Client). (q.replies ≡ []) × (q.current ≡ Idles)) (sym (put-other w.clients 16 v k ne)) (unbegun k)
    ]

    shows-now : ShowsClient disk.tells old.lost old.pool now v
    shows-now = record {
      items = refl;
      replies = replies-shown disk old w s can.not_lost 16 ∙ sym (ap (λ (l : Option Loss). replies_of l now) can.not_lost);
      current = subst (λ (t : Stage). ShowsCurrent disk.tells old.pool t now (w.clients 16).current) (sym stage) (unbegun 16).1;
    }

    shows-plain : Shows disk plain x
    shows-plain = record {
      contents = s.contents;
      failed = s.failed;
      calls = s.calls;
      columns = refl;
      clients = shown-put disk.tells old.lost old.pool old.pool old.clients (slice_set old.clients 16 now) w.clients 16 now v below refl (λ k. refl) s.clients shows-now;
      free = s.free;
      out = s.out;
      rebuilt = s.rebuilt;
      history = s.history;
      lost = s.lost;
      handed = hands-kept disk.tells old.log.handed w.clients 16 v refl refl s.handed;
    }

    pub shows-started : Shows disk new x
    shows-started = to-new (λ (core : Array L D). Shows disk core x) shows-plain

    -- client 16 has these items
    pub items-are : (x.clients 16).items ≡ f.items
    items-are = ap (λ (q : Client). q.items) (put-same w.clients 16 v)

    pub starts : StartsRebuild y c states w x
    starts = record {
      unbegun = unbegun;
      no_items = (s.clients 16).items ∙ can.no_items;
      columns = refl;
      rebuilds = subst (AreRebuilds y states c) (sym (ap (λ (q : Client). q.items) (put-same w.clients 16 v))) (are-rebuilds y states c asked f.items f.rebuilds);
      unbegun_still = still;
      handed = λ i b k. ap (λ (q : Client). q.handed i b k) (put-same w.clients 16 v);
      others = λ k ne. put-other w.clients 16 v k ne;
      failed = λ a. refl;
      devices = record { contents = λ a b k. refl; calls = λ a. refl };
      blocks = record { blocks = λ b k. refl; history = refl };
      pool = record { free = refl; out = refl };
      rebuilt = refl;
      lost = refl;
    }

-- ## Onto a device

module _ {L D : Type 0} (lay : LayoutGhosts L) (disk : DiskGhosts D) (old new : Array L D) (c device asked : ℕ) (sound : IsSound lay disk old) (can : CanFill lay disk old c device) (f : Started lay old c asked (begun_filling old.cols c device) (event.Fill c device) new) where
  abbrev yf : Shape
  yf = lay.shape old.layout

  abbrev filled : Columns
  filled = record old.cols { states = begun_filling old.cols c device }

  filled-seated : Seated disk yf filled old.devices
  filled-seated = record {
    fit = record { columns = length-set old.cols.states c (Filling device (none_done old.cols.stripes)) ∙ sound.seated.fit.columns; stripes = sound.seated.fit.stripes };
    kept = subst IsKept (ap (λ (k : Array L D). k.cols) f.is) f.kept;
    order = filling-order old.cols c sound.seated.order device can.unused can.none_filling;
    long = sound.seated.long;
    there = λ k dv h. elim (filling-device old.cols.states c device (none_done old.cols.stripes) k dv h) [
      | inl is ↦ (record { out = false; device = can.home.0 }, ap (seen_at old.devices) (sym is) ∙ can.home.1, can.home.2)
      | inr g ↦ sound.seated.there k dv g
    ];
    unfailed = λ k dv h. elim (filling-device old.cols.states c device (none_done old.cols.stripes) k dv h) [
      | inl is ↦ ap (has_failed old.devices) (sym is) ∙ can.unfailed
      | inr g ↦ sound.seated.unfailed k dv g
    ];
  }

  pub fill-added : length f.items ≡ added new
  fill-added = added-is lay disk old new c asked (begun_filling old.cols c device) (event.Fill c device) sound can.starts f filled-seated

  pub fill-sound : IsSound lay disk new
  fill-sound = started-sound lay disk old new c asked (begun_filling old.cols c device) (event.Fill c device) sound can.starts f filled-seated

  pub fill-follows : Follows lay disk old (event.Fill c device (added new)) new
  fill-follows w s = (
    x lay disk old new c asked (begun_filling old.cols c device) (event.Fill c device) sound can.starts f filled-seated w s,
    shows-started lay disk old new c asked (begun_filling old.cols c device) (event.Fill c device) sound can.starts f filled-seated w s,
    subst (λ (l : Option Loss). StepBy yf (graphs_of old.graphs.items) l (event.Fill c device (added new)) w after) (sym (s.lost ∙ can.starts.not_lost)) fills,
  )
    where
      after : World
      after = x lay disk old new c asked (begun_filling old.cols c device) (event.Fill c device) sound can.starts f filled-seated w s

      same : begun_filling old.cols c device ≡ begun_filling (columns_of yf w) c device
      same = ap (λ (l : List ColumnState). slice_set l c (Filling device (none_done old.cols.stripes))) (sym s.columns) ∙ ap (λ (n : ℕ). slice_set w.columns c (Filling device (none_done n))) sound.seated.fit.stripes

      fills : Fills yf c device (added new) w after
      fills = record {
        dead = ap (λ (l : List ColumnState). slice_get l c) s.columns ∙ can.dead;
        count_is = ap length (items-are lay disk old new c asked (begun_filling old.cols c device) (event.Fill c device) sound can.starts f filled-seated w s) ∙ added-is lay disk old new c asked (begun_filling old.cols c device) (event.Fill c device) sound can.starts f filled-seated;
        none_filling = λ k dv done h. none-there is_filling old.cols.states k (Filling dv done) can.none_filling (sym (ap (λ (l : List ColumnState). slice_get l k) s.columns) ∙ h) refl;
        unfailed = s.failed device ∙ can.unfailed;
        unused = λ k h. can.unused k (subst (λ (l : List ColumnState). HasDevice l k device) s.columns h);
        starts = subst (λ (l : List ColumnState). StartsRebuild yf c l w after) same (starts lay disk old new c asked (begun_filling old.cols c device) (event.Fill c device) sound can.starts f filled-seated w s);
      }

-- ## On onto a device

module _ {L D : Type 0} (lay : LayoutGhosts L) (disk : DiskGhosts D) (old new : Array L D) (c asked : ℕ) (sound : IsSound lay disk old) (can : CanResume lay disk old c) (f : Started lay old c asked old.cols.states (event.Resume c) new) where
  pub resume-added : length f.items ≡ added new
  resume-added = added-is lay disk old new c asked old.cols.states (event.Resume c) sound can.starts f sound.seated

  pub resume-sound : IsSound lay disk new
  resume-sound = started-sound lay disk old new c asked old.cols.states (event.Resume c) sound can.starts f sound.seated

  pub resume-follows : Follows lay disk old (event.Resume c (added new)) new
  resume-follows w s = (
    x lay disk old new c asked old.cols.states (event.Resume c) sound can.starts f sound.seated w s,
    shows-started lay disk old new c asked old.cols.states (event.Resume c) sound can.starts f sound.seated w s,
    subst (λ (l : Option Loss). StepBy (lay.shape old.layout) (graphs_of old.graphs.items) l (event.Resume c (added new)) w after) (sym (s.lost ∙ can.starts.not_lost)) resumes,
  )
    where
      after : World
      after = x lay disk old new c asked old.cols.states (event.Resume c) sound can.starts f sound.seated w s

      resumes : Resumes (lay.shape old.layout) c (added new) w after
      resumes = record {
        device = can.device;
        done = can.done;
        filling = ap (λ (l : List ColumnState). slice_get l c) s.columns ∙ can.filling;
        count_is = ap length (items-are lay disk old new c asked old.cols.states (event.Resume c) sound can.starts f sound.seated w s) ∙ added-is lay disk old new c asked old.cols.states (event.Resume c) sound can.starts f sound.seated;
        starts = subst (λ (l : List ColumnState). StartsRebuild (lay.shape old.layout) c l w after) (sym s.columns) (starts lay disk old new c asked old.cols.states (event.Resume c) sound can.starts f sound.seated w s);
      }

-- ## Into the spare places

module _ {L D : Type 0} (lay : LayoutGhosts L) (disk : DiskGhosts D) (old new : Array L D) (c : ℕ) (sound : IsSound lay disk old) (can : CanSpread lay disk old c) (f : Started lay old c 4294967295 (begun_spreading old.cols c) (λ _. event.Spread c) new) where
  abbrev ys : Shape
  ys = lay.shape old.layout

  abbrev spread : Columns
  spread = record old.cols { states = begun_spreading old.cols c }

  spread-seated : Seated disk ys spread old.devices
  spread-seated = record {
    fit = record { columns = length-set old.cols.states c (Spread (none_done old.cols.stripes)) ∙ sound.seated.fit.columns; stripes = sound.seated.fit.stripes };
    kept = subst IsKept (ap (λ (k : Array L D). k.cols) f.is) f.kept;
    order = spreading-order old.cols c sound.seated.order can.none_spread;
    long = sound.seated.long;
    there = λ k dv h. sound.seated.there k dv (spreading-device old.cols.states c (none_done old.cols.stripes) k dv h);
    unfailed = λ k dv h. sound.seated.unfailed k dv (spreading-device old.cols.states c (none_done old.cols.stripes) k dv h);
  }

  pub spread-sound : IsSound lay disk new
  spread-sound = started-sound lay disk old new c 4294967295 (begun_spreading old.cols c) (λ _. event.Spread c) sound can.starts f spread-seated

  pub spread-follows : Follows lay disk old (event.Spread c) new
  spread-follows w s = (
    after,
    shows-started lay disk old new c 4294967295 (begun_spreading old.cols c) (λ _. event.Spread c) sound can.starts f spread-seated w s,
    subst (λ (l : Option Loss). StepBy ys (graphs_of old.graphs.items) l (event.Spread c) w after) (sym (s.lost ∙ can.starts.not_lost)) spreads,
  )
    where
      after : World
      after = x lay disk old new c 4294967295 (begun_spreading old.cols c) (λ _. event.Spread c) sound can.starts f spread-seated w s

      same : begun_spreading old.cols c ≡ begun_spreading (columns_of ys w) c
      same = ap (λ (l : List ColumnState). slice_set l c (Spread (none_done old.cols.stripes))) (sym s.columns) ∙ ap (λ (n : ℕ). slice_set w.columns c (Spread (none_done n))) sound.seated.fit.stripes

      spreads : Spreads ys c w after
      spreads = record {
        dead = ap (λ (l : List ColumnState). slice_get l c) s.columns ∙ can.dead;
        all = subst (AreAllRebuilds ys (begun_spreading old.cols c) c) (sym (items-are lay disk old new c 4294967295 (begun_spreading old.cols c) (λ _. event.Spread c) sound can.starts f spread-seated w s))
            (all-rebuilds ys (begun_spreading old.cols c) c 4294967295 f.items f.rebuilds (omega (arith, sound.layout.stripes_most)));
        none_spread = λ k done h. none-there is_spread old.cols.states k (Spread done) can.none_spread (sym (ap (λ (l : List ColumnState). slice_get l k) s.columns) ∙ h) refl;
        spares = can.spares;
        starts = subst (λ (l : List ColumnState). StartsRebuild ys c l w after) same (starts lay disk old new c 4294967295 (begun_spreading old.cols c) (λ _. event.Spread c) sound can.starts f spread-seated w s);
      }
