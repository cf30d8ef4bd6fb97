-- A column fails: what becomes of the world that a core shows, and that the core stays sound.
use Rattle.std.proofs.Common.{◌≡◌, ℕ, ◌<◌, ◌⊎◌, List, length, subst, sym, ap, ◌∙◌, arith, inl, inr, refl, Bool, true, false, Option, Some, None, ◌||◌, ◌==◌}
use Rattle.std.specs.Prelude.{slice_get, slice_set, slice_index_or, MatchOption}
use Rattle.std.proofs.lemmas.Bool.{cases_eq, eq-eqb, ne_eqb}
use Rattle.std.proofs.lemmas.List.{length-set, get_or-set_same, get_or-set_other}
use Rattle.blk_disk.specs.declared.disk.Disk.{Ghosts as DiskGhosts}
use Rattle.buf_pool.specs.Pool as pool
use Rattle.lay_core.specs.Layout.{Shape}
use Rattle.lay_core.specs.declared.layout.Layout.{Ghosts as LayoutGhosts}
use Rattle.graph_mean.specs.Steps.{is_still_read, phase_lost}
use Rattle.eng_cols.specs.declared.spot.Loss.{Loss}
use Rattle.eng_cols.specs.Cols.{ColumnState, Columns, Live, Dead, Filling, Spread, HasDevice, IsKept, passes, is_filling, is_spread}
use Rattle.eng_cols.specs.Changes.{killed}
use Rattle.eng_cols.specs.Lost.{IsLost, NotLost}
use Rattle.eng_cols.proofs.Lists.{get_set_either}
use Rattle.eng_cols.proofs.Killing.{order-kept, device-back, killed-device, filling-back, spread-back}
use Rattle.eng_world.specs.World.{Current, Client, World, Nothing as Idles, Waits as IsWaiting, Runs as IsRunning}
use Rattle.eng_world.specs.Failing.{FailsColumn, Loses, Survives, newly_missing, by_after, device_on, is_device_of}
use Rattle.eng_world.specs.declared.item.Traced.TheVariants as event
use Rattle.eng_world.specs.Step.{StepBy}
use Rattle.eng_clients.specs.declared.stage.Stage.{Stage}
use Rattle.eng_clients.specs.declared.stage.Stage.TheVariants.{Nothing, Waits, Runs}
use Rattle.eng_state.specs.declared.array.Array.{Array}
use Rattle.eng_parts.specs.Shelf.{Shelved, has_failed}
use Rattle.eng_clients.specs.Desk.{Desk, desk_at}
use Rattle.eng_log.specs.Log.{Logged, noted}
use Rattle.eng_state.specs.Steps.{graphs_of, Follows}
use Rattle.eng_state.specs.Shows.{Shows, ShowsClient, ShowsCurrent}
use Rattle.eng_state.specs.Sound.{IsSound, Seated}
use Rattle.eng_state.specs.Failing.{suffered_in, suffered, failed_after, after_failure, HaveSuffered, FailedBy}
use Rattle.eng_state.proofs.Shown.{replies-shown}
use Rattle.eng_fails.proofs.Dying.{device-below}
use Rattle.eng_fails.proofs.Suffering.{suffered-goes}
use Rattle.eng_fails.proofs.Keeping.{GoesOn, kept-sound}
use Rattle.eng_log.specs.Handed.{Handout, Hands}
use Rattle.eng_state.proofs.Handing.{hands-told}
use Rattle.eng_clients.specs.Replied.{told_of}
use Rattle.eng_world.proofs.Words.{SuffersIf, OutlivesIf}

-- ## Devices

or-false : (b : Bool) → b ≡ (b || false)
or-false true = refl
or-false false = refl

or-true : (b : Bool) → true ≡ (b || true)
or-true true = refl
or-true false = refl

pub one-fails : (failed : List Bool) (device : ℕ) → device < length failed → (d : ℕ) → slice_index_or (slice_set failed device true) d false ≡ (slice_index_or failed d false || (d == device))
one-fails failed device below d = elim (cases_eq d device) [
  | inl same ↦ ap (λ (j : ℕ). slice_index_or (slice_set failed device true) j false) same ∙ (get_or-set_same failed device true false below ∙ (or-true (slice_index_or failed d false) ∙ ap (λ (b : Bool). slice_index_or failed d false || b) (sym (eq-eqb d device same))))
  | inr ne ↦ get_or-set_other failed device d true false ne ∙ (or-false (slice_index_or failed d false) ∙ ap (λ (b : Bool). slice_index_or failed d false || b) (sym (ne_eqb d device ne)))
]

-- the device of the column fails, and no other
pub failed-now : (failed : List Bool) (o : Option ColumnState) → ((d : ℕ) → is_device_of o d ≡ true → d < length failed) → (d : ℕ) → slice_index_or (failed_after o failed) d false ≡ (slice_index_or failed d false || is_device_of o d)
failed-now failed None within d = or-false (slice_index_or failed d false)
failed-now failed (Some (Live device)) within d = one-fails failed device (within device (eq-eqb device device refl)) d
failed-now failed (Some (Filling device done)) within d = one-fails failed device (within device (eq-eqb device device refl)) d
failed-now failed (Some Dead) within d = or-false (slice_index_or failed d false)
failed-now failed (Some (Spread done)) within d = or-false (slice_index_or failed d false)

-- a device is a column's where it is on it
device-is : (d e : ℕ) → (d == e) ≡ true → d ≡ e
device-is d e t = elim (cases_eq d e) [ inl same ↦ same | inr ne ↦ let z : true ≡ false = sym t ∙ ne_eqb d e ne in absurd (let u : ⊥ = cc in u) ]

pub on-column : (cols : List ColumnState) (k d : ℕ) (o : Option ColumnState) → slice_get cols k ≡ o → is_device_of o d ≡ true → HasDevice cols k d
on-column cols k d None is t = let z : false ≡ true = t in absurd (let u : ⊥ = cc in u)
on-column cols k d (Some (Live device)) is t = inl (is ∙ ap (λ (j : ℕ). Some (Live j)) (sym (device-is d device t)))
on-column cols k d (Some (Filling device done)) is t = inr (done, is ∙ ap (λ (j : ℕ). Some (Filling j done)) (sym (device-is d device t)))
on-column cols k d (Some Dead) is t = let z : false ≡ true = t in absurd (let u : ⊥ = cc in u)
on-column cols k d (Some (Spread done)) is t = let z : false ≡ true = t in absurd (let u : ⊥ = cc in u)

length-failed : (o : Option ColumnState) (failed : List Bool) → length (failed_after o failed) ≡ length failed
length-failed None failed = refl
length-failed (Some (Live device)) failed = length-set failed device true
length-failed (Some (Filling device done)) failed = length-set failed device true
length-failed (Some Dead) failed = refl
length-failed (Some (Spread done)) failed = refl

-- ## Columns

passes-back : (p : ColumnState → Bool) → p Dead ≡ false → (cols : List ColumnState) (k c : ℕ) → passes p (slice_get (killed cols k) c) ≡ true → passes p (slice_get cols c) ≡ true
passes-back p dead cols k c h = elim (get_set_either cols k c Dead) [
  | inl e ↦ let z : false ≡ true = sym dead ∙ (sym (ap (passes p) e) ∙ h) in absurd (let u : ⊥ = cc in u)
  | inr e ↦ sym (ap (passes p) e) ∙ h
]

pub kept-killed : (v : Columns) (k : ℕ) → IsKept v → IsKept (record v { states = killed v.states k })
kept-killed v k h = record {
  one_filling = λ c e f g. h.one_filling c e (passes-back is_filling refl v.states k c f) (passes-back is_filling refl v.states k e g);
  one_spread = λ c e f g. h.one_spread c e (passes-back is_spread refl v.states k c f) (passes-back is_spread refl v.states k e g);
  filled = λ c d done e. h.filled c d done (filling-back v.states k c d done e);
  spread = λ c done e. h.spread c done (spread-back v.states k c done e);
}

module _ {D : Type 0} (disk : DiskGhosts D) (y : Shape) (cols : Columns) (s : Shelved D) (k : ℕ) (seated : Seated disk y cols s) where
  abbrev pub dead : Columns
  dead = record cols { states = killed cols.states k }

  abbrev pub struck : Shelved D
  struck = record s { failed = failed_after (slice_get cols.states k) s.failed }

  within : (d : ℕ) → is_device_of (slice_get cols.states k) d ≡ true → d < length s.failed
  within d is = let long = seated.long in let h = device-below disk y cols s seated k d (on-column cols.states k d (slice_get cols.states k) refl is) in omega (arith, long, h)

  pub struck-failed : (d : ℕ) → has_failed struck d ≡ (has_failed s d || is_device_of (slice_get cols.states k) d)
  struck-failed d = failed-now s.failed (slice_get cols.states k) within d

  -- no device of a column that is left is the dead one's
  not-its : (c d : ℕ) → HasDevice (killed cols.states k) c d → (b : Bool) → is_device_of (slice_get cols.states k) d ≡ b → b ≡ false
  not-its c d h true is =
      let same = seated.order.one_column c k d (device-back cols.states k c d h) (on-column cols.states k d (slice_get cols.states k) refl is) in
      absurd (killed-device cols.states k d (subst (λ (j : ℕ). HasDevice (killed cols.states k) j d) same h))
  not-its c d h false is = refl

  pub seated-struck : Seated disk y dead struck
  seated-struck = record {
    fit = record { columns = length-set cols.states k Dead ∙ seated.fit.columns; stripes = seated.fit.stripes };
    kept = kept-killed cols k seated.kept;
    order = order-kept cols.states k seated.order;
    long = length-failed (slice_get cols.states k) s.failed ∙ seated.long;
    there = λ c d h. seated.there c d (device-back cols.states k c d h);
    unfailed = λ c d h. struck-failed d ∙ (ap (λ (b : Bool). has_failed s d || b) (not-its c d h (is_device_of (slice_get cols.states k) d) refl) ∙ (sym (or-false (has_failed s d)) ∙ seated.unfailed c d (device-back cols.states k c d h)));
  }

-- ## What is shown

-- the current operation as units are lost
abbrev suffer_current : Shape → List ColumnState → ℕ → Current → Current
suffer_current y cols k Idles = Idles
suffer_current y cols k IsWaiting = IsWaiting
suffer_current y cols k (IsRunning r) = IsRunning (record r {
  phase = phase_lost r.plan.graph r.node (newly_missing y cols (killed cols k) r.plan) r.phase;
  by = by_after r.phase (is_still_read r.plan.graph r.node (newly_missing y cols (killed cols k) r.plan)) (device_on (slice_get cols k) k) r.by;
})

suffers-if : (y : Shape) (cols : List ColumnState) (k : ℕ) (now : Current) → SuffersIf y (device_on (slice_get cols k) k) cols (killed cols k) now (suffer_current y cols k now)
suffers-if y cols k Idles = refl
suffers-if y cols k IsWaiting = refl
suffers-if y cols k (IsRunning r) = (_, refl, record { plan = refl; node = λ n. refl; buf = λ b o i. refl; fired_at = λ n. refl; phase = refl; by = refl })

outlives-if : (y : Shape) (cols : List ColumnState) (k : ℕ) (now : Current) → OutlivesIf now (suffer_current y cols k now)
outlives-if y cols k Idles = refl
outlives-if y cols k IsWaiting = refl
outlives-if y cols k (IsRunning r) = (_, refl, record { plan = refl; node = λ n. refl; fired_at = λ n. refl })

abbrev suffer_client : Shape → List ColumnState → ℕ → Option Loss → Client → Client
suffer_client y cols k lost c = record c { replies = told_of lost c.items c.replies; current = suffer_current y cols k c.current }

shows-suffered : (tells : Type 0) (y : Shape) (cols : List ColumnState) (k : ℕ) (lost : Option Loss) (p : pool.PoolView) (d : Desk) (c : Client) (t : Stage) → d.stage ≡ t → c.items ≡ d.items → c.replies ≡ d.replies → ShowsCurrent tells p t d c.current
    → ShowsClient tells lost p (suffered_in t y cols k d) (suffer_client y cols k lost c)
shows-suffered tells y cols k lost p d c Nothing is items replies s = record {
  items = items;
  replies = ap (λ (l : List _). told_of lost l c.replies) items ∙ ap (told_of lost d.items) replies;
  current = subst (λ (t : Stage). ShowsCurrent tells p t d (suffer_current y cols k c.current)) (sym is) (ap (suffer_current y cols k) s);
}
shows-suffered tells y cols k lost p d c Waits is items replies s = record {
  items = items;
  replies = ap (λ (l : List _). told_of lost l c.replies) items ∙ ap (told_of lost d.items) replies;
  current = subst (λ (t : Stage). ShowsCurrent tells p t d (suffer_current y cols k c.current)) (sym is) (ap (suffer_current y cols k) s);
}
shows-suffered tells y cols k lost p d c Runs is items replies s = record {
  items = items;
  replies = ap (λ (l : List _). told_of lost l c.replies) items ∙ ap (told_of lost d.items) replies;
  current = subst (λ (t : Stage). ShowsCurrent tells p t (suffered_in Runs y cols k d) (suffer_current y cols k c.current)) (sym is) (s.0, ap (suffer_current y cols k) s.1, s.2);
}

-- ## The event

-- Column k of a core failed, of which nothing was written down yet: whatever world the old core shows, its column fails, and the new core shows what comes of it.
abbrev pub ColumnFails : {L D : Type 0} → LayoutGhosts L → DiskGhosts D → Array L D → ℕ → Array L D → Type 0
ColumnFails lay disk old k new = (w : World) → Shows disk old w → (x : World) × Shows disk new x × FailsColumn (lay.shape old.layout) k w x

module _ {L D : Type 0} (lay : LayoutGhosts L) (disk : DiskGhosts D) (old : Array L D) (k : ℕ) (desks : List Desk) (lost : Option Loss) (log : Logged) (sound : IsSound lay disk old)
    (h : HaveSuffered (lay.shape old.layout) old.cols.states k old.clients desks) where
  pub failed-sound : IsSound lay disk (record (after_failure old k desks lost) { log = log })
  failed-sound = kept-sound lay disk old desks dead-cols struck-failed-list log lost sound h.count (λ c. subst (GoesOn (desk_at old.clients c)) (sym (h.each c)) (suffered-goes (lay.shape old.layout) old.cols.states k (desk_at old.clients c))) (seated-struck disk (lay.shape old.layout) old.cols old.devices k sound.seated)
    where
      dead-cols : Columns
      dead-cols = record old.cols { states = killed old.cols.states k }

      struck-failed-list : List Bool
      struck-failed-list = failed_after (slice_get old.cols.states k) old.devices.failed

-- the devices of column k are among those of which it is known whether they failed
abbrev pub IsAmong : {L D : Type 0} → Array L D → ℕ → Type 0
IsAmong core k = (d : ℕ) → is_device_of (slice_get core.cols.states k) d ≡ true → d < length core.devices.failed

pub among : {L D : Type 0} (lay : LayoutGhosts L) (disk : DiskGhosts D) (old : Array L D) (k : ℕ) → IsSound lay disk old → IsAmong old k
among lay disk old k sound = within disk (lay.shape old.layout) old.cols old.devices k sound.seated

module _ {L D : Type 0} (lay : LayoutGhosts L) (disk : DiskGhosts D) (old : Array L D) (k : ℕ) (desks : List Desk) (lost : Option Loss) (log : Logged) (known : IsAmong old k)
    (h : HaveSuffered (lay.shape old.layout) old.cols.states k old.clients desks) where
  abbrev y : Shape
  y = lay.shape old.layout

  abbrev pub new : Array L D
  new = record (after_failure old k desks lost) { log = log }

  module _ (w : World) (s : Shows disk old w) (not_lost : old.lost ≡ None) (judged : MatchOption lost (NotLost y (killed old.cols.states k)) (IsLost y (killed old.cols.states k))) (rebuilt : log.rebuilt ≡ old.log.rebuilt) (history : log.history ≡ old.log.history) (handed : log.handed ≡ old.log.handed) where
    abbrev pub x : World
    x = record w {
      columns = killed w.columns k;
      failed = λ d. w.failed d || is_device_of (slice_get w.columns k) d;
      clients = λ c. suffer_client y w.columns k lost (w.clients c);
      lost = lost;
    }

    fails : Loses y w x ⊎ Survives y (device_on (slice_get w.columns k) k) w x → FailsColumn y k w x
    fails a = record {
      columns = refl;
      failed = λ d. refl;
      rebuilt = refl;
      devices = record { contents = λ d n j. refl; calls = λ d. refl };
      blocks = record { blocks = λ b j. refl; history = refl };
      pool = record { free = refl; out = refl };
      after = a;
    }

    after : (o : Option Loss) → MatchOption o (NotLost y (killed old.cols.states k)) (IsLost y (killed old.cols.states k)) → lost ≡ o → FailsColumn y k w x
    after None judge is = fails (inr (record {
      not_lost = subst (λ (cols : List ColumnState). NotLost y (killed cols k)) (sym s.columns) judge;
      lost = is;
      clients = λ c. record {
        told = record { items = refl; replies = ap (λ (o : Option Loss). told_of o (w.clients c).items (w.clients c).replies) is; handed = λ i b j. refl };
        current = suffers-if y w.columns k (w.clients c).current;
      };
    }))
    after (Some loss) judge is = fails (inl (record {
      loss = loss;
      is_lost = subst (λ (cols : List ColumnState). IsLost y (killed cols k) loss) (sym s.columns) judge;
      lost = is;
      clients = λ c. record {
        items = refl;
        replies = ap (λ (o : Option Loss). told_of o (w.clients c).items (w.clients c).replies) is;
        handed = λ i b j. refl;
        current = outlives-if y w.columns k (w.clients c).current;
      };
    }))

    pub column-fails : FailsColumn y k w x
    column-fails = after lost judged refl

    shows-clients : (c : ℕ) → ShowsClient disk.tells lost old.pool (desk_at desks c) (x.clients c)
    shows-clients c =
        subst (λ (d : Desk). ShowsClient disk.tells lost old.pool d (x.clients c)) (sym (h.each c ∙ ap (λ (cols : List ColumnState). suffered y cols k (desk_at old.clients c)) (sym s.columns)))
        (shows-suffered disk.tells y w.columns k lost old.pool (desk_at old.clients c) (w.clients c) (desk_at old.clients c).stage refl (s.clients c).items (replies-shown disk old w s not_lost c) (s.clients c).current)

    pub shows-failed : Shows disk new x
    shows-failed = record {
      contents = s.contents;
      failed = λ d. ap (λ (b : Bool). b || is_device_of (slice_get w.columns k) d) (s.failed d) ∙ (ap (λ (cols : List ColumnState). has_failed old.devices d || is_device_of (slice_get cols k) d) s.columns ∙ sym (failed-now old.devices.failed (slice_get old.cols.states k) known d));
      calls = s.calls;
      columns = ap (λ (cols : List ColumnState). killed cols k) s.columns;
      clients = shows-clients;
      free = s.free;
      out = s.out;
      rebuilt = s.rebuilt ∙ sym rebuilt;
      history = s.history ∙ sym history;
      lost = refl;
      handed = hands-told disk.tells log.handed lost w.clients x.clients (λ c. refl) (λ c. refl) (subst (λ (h : Handout). Hands disk.tells h w.clients) (sym handed) s.handed);
    }

module _ {L D : Type 0} (lay : LayoutGhosts L) (disk : DiskGhosts D) (old : Array L D) (k : ℕ) (now : Array L D) (sound : IsSound lay disk old) (f : FailedBy lay old k now) where
  -- with whatever is written to the trace then
  pub failed-with : (log : Logged) → log.rebuilt ≡ old.log.rebuilt → log.history ≡ old.log.history → log.handed ≡ old.log.handed → old.lost ≡ None → ColumnFails lay disk old k (record now { log = log })
  failed-with log rebuilt history handed not_lost = subst (λ (c : Array L D). ColumnFails lay disk old k (record c { log = log })) (sym f.is) (λ w s. (
    x lay disk old k now.clients now.lost log (among lay disk old k sound) f.desks w s not_lost f.lost rebuilt history handed,
    shows-failed lay disk old k now.clients now.lost log (among lay disk old k sound) f.desks w s not_lost f.lost rebuilt history handed,
    column-fails lay disk old k now.clients now.lost log (among lay disk old k sound) f.desks w s not_lost f.lost rebuilt history handed,
  ))

  pub sound-with : (log : Logged) → IsSound lay disk (record now { log = log })
  sound-with log = subst (λ (c : Array L D). IsSound lay disk (record c { log = log })) (sym f.is) (failed-sound lay disk old k now.clients now.lost log sound f.desks)

  -- as an event of its own
  pub fail-follows : old.lost ≡ None → k < length old.cols.states → (slice_get old.cols.states k ≡ Some Dead → ⊥) → Follows lay disk old (event.Fail k) (record now { log = noted now.log (event.Fail k) })
  fail-follows not_lost below alive w s =
      let h = failed-with (noted now.log (event.Fail k)) (ap (λ (c : Array L D). c.log.rebuilt) f.is) (ap (λ (c : Array L D). c.log.history) f.is) (ap (λ (c : Array L D). c.log.handed) f.is) not_lost w s in (
        h.0,
        h.1,
        subst (λ (l : Option Loss). StepBy (lay.shape old.layout) (graphs_of old.graphs.items) l (event.Fail k) w h.0) (sym (s.lost ∙ not_lost))
            (subst (λ (n : ℕ). k < n) sound.seated.fit.columns below, (λ dead. alive (ap (λ (cols : List ColumnState). slice_get cols k) (sym s.columns) ∙ dead)), h.2),
      )
