-- A client's item begins: one event of the world.
use Rattle.std.proofs.Common.{false, ◌≡◌, ◌≢◌, ℕ, zero, suc, ◌<◌, ◌≤◌, List, [], ◌∷◌, ◌++◌, length, subst, sym, ap, ◌∙◌, arith, inl, inr, refl, Option, Some, None}
use Rattle.std.specs.Prelude.{slice_get, slice_set}
use Rattle.std.proofs.lemmas.Bool.{cases_order}
use Rattle.std.proofs.lemmas.List.{length-set, get_or_past, length-append}
use Rattle.blk_disk.specs.declared.disk.Disk.{Ghosts as DiskGhosts}
use Rattle.lay_core.specs.declared.layout.Layout.{Ghosts as LayoutGhosts}
use Rattle.lay_core.specs.Layout.{Shape}
use Rattle.eng_cols.specs.declared.spot.Loss.{Loss}
use Rattle.eng_cols.specs.Cols.{ColumnState}
use Rattle.eng_world.specs.declared.item.Item.{Item}
use Rattle.eng_world.specs.declared.item.Item.TheVariants as item
use Rattle.eng_world.specs.declared.item.Reply.{Reply}
use Rattle.eng_world.specs.declared.item.Reply.TheVariants as reply
use Rattle.eng_world.specs.declared.item.Traced.TheVariants as event
use Rattle.eng_world.specs.World.{Client, World, Nothing as Idles, Waits as IsWaiting, item_now}
use Rattle.eng_world.specs.Serving.{CanBegin as MayBegin, Begins, Begun, RepliesAtOnce}
use Rattle.eng_world.specs.Step.{StepBy}
use Rattle.eng_clients.specs.declared.stage.Stage.{Stage}
use Rattle.eng_clients.specs.declared.stage.Stage.TheVariants.{Nothing, Waits, Runs}
use Rattle.eng_state.specs.declared.array.Array.{Array}
use Rattle.eng_clients.specs.Desk.{Desk, desk_at, no_desk, item_at, with_reply, with_waiting}
use Rattle.eng_log.specs.Log.{Logged, noted}
use Rattle.eng_state.specs.Shows.{Shows, ShowsClient, ShowsCurrent}
use Rattle.eng_state.specs.Sound.{IsSound}
use Rattle.eng_state.specs.Moves.{id_of}
use Rattle.eng_state.specs.Steps.{graphs_of, Follows}
use Rattle.eng_state.specs.Beginning.{CanBegin, BegunAs, waiting, replied}
use Rattle.eng_state.proofs.Put.{put, put-same, put-other}
use Rattle.eng_state.proofs.Shown.{unlost, shown-put}
use Rattle.eng_fails.proofs.Keeping.{GoesOn, one-goes, kept-sound}
use Rattle.eng_fails.proofs.Failing.{failed-with, sound-with}
use Rattle.eng_log.specs.Handed.{Handout, Hands, is_data}
use Rattle.eng_state.proofs.Handing.{hands-kept, hands-replied}

-- what stands at a place of a list is within it
pub get-within : {A : Type 0} → (xs : List A) (n : ℕ) (x : A) → slice_get xs n ≡ Some x → n < length xs
get-within [] n x e = let z : None ≡ Some x = e in absurd (let u : ⊥ = cc in u)
get-within (y ∷ ys) zero x e = omega arith
get-within (y ∷ ys) (suc n) x e = let h = get-within ys n x e in omega (arith, h)

module _ {L D : Type 0} (lay : LayoutGhosts L) (disk : DiskGhosts D) (old : Array L D) (c : ℕ) (sound : IsSound lay disk old) (nothing : (desk_at old.clients c).stage ≡ Nothing) (left : length (desk_at old.clients c).replies < length (desk_at old.clients c).items) where
  abbrev y : Shape
  y = lay.shape old.layout

  abbrev d : Desk
  d = desk_at old.clients c

  -- a client with an item is one of them
  pub below : c < length old.clients
  below = elim (cases_order c (length old.clients)) [
    | inl e ↦ past (omega (arith, e))
    | inr (inl lt) ↦ lt
    | inr (inr over) ↦ past (omega (arith, over))
  ]
    where
      past : length old.clients ≤ c → c < length old.clients
      past over = let none : length d.items ≡ 0 = ap (λ (e : Desk). length e.items) (get_or_past old.clients c no_desk over) in absurd (omega (arith, none, left))

  below17 : c < 17
  below17 = let all = sound.well.all in let lt = below in omega (arith, all, lt)

  apart : Nothing ≢ Runs
  apart e = let u : ⊥ = cc in u

  waits-apart : Waits ≢ Runs
  waits-apart e = let u : ⊥ = cc in u

  not-runs : d.stage ≢ Runs
  not-runs e = apart (sym nothing ∙ e)

  pub waits-on : GoesOn d (with_waiting d)
  waits-on = record {
    runs = λ h. absurd (not-runs h);
    ran = λ h. absurd (waits-apart h);
    lease = refl;
    graph = refl;
    map = λ h. refl;
    kind = refl;
    spots = refl;
    out = λ n h. h;
    was = λ n h. h;
    jobs = refl;
    well = λ z graphs p well. record { runs = λ h. absurd (waits-apart h); idle = λ ne. well.idle not-runs; spots = well.spots; replies = well.replies };
  }

  pub replied-on : (r : Reply) → GoesOn d (with_reply d r)
  replied-on r = record {
    runs = λ h. absurd (not-runs h);
    ran = λ h. absurd (apart h);
    lease = sym ((sound.well.each c below17).idle not-runs).0;
    graph = refl;
    map = λ h. refl;
    kind = refl;
    spots = refl;
    out = λ n h. h;
    was = λ n h. h;
    jobs = refl;
    well = λ z graphs p well. record { runs = λ h. absurd (apart h); idle = λ ne. (refl, (well.idle not-runs).1); spots = well.spots; replies = let e = length-append d.replies (r ∷ []) in omega (arith, left, e) };
  }

  module _ (log : Logged) where
    pub waiting-sound : IsSound lay disk (record (waiting old c) { log = log })
    waiting-sound = kept-sound lay disk old (slice_set old.clients c (with_waiting d)) old.cols old.devices.failed log old.lost sound (length-set old.clients c _) (one-goes old.clients c (with_waiting d) below waits-on) sound.seated

    pub replied-sound : (r : Reply) → IsSound lay disk (record (replied old c r) { log = log })
    replied-sound r = kept-sound lay disk old (slice_set old.clients c (with_reply d r)) old.cols old.devices.failed log old.lost sound (length-set old.clients c _) (one-goes old.clients c (with_reply d r) below (replied-on r)) sound.seated

  -- ## What is shown

  module _ (w : World) (s : Shows disk old w) (not_lost : old.lost ≡ None) (log : Logged) (rebuilt : log.rebuilt ≡ old.log.rebuilt) (history : log.history ≡ old.log.history) (handed : log.handed ≡ old.log.handed) where
    -- a core of which one desk is another shows a world of which one client is another
    shows-desk : (e : Desk) (v : Client) → ShowsClient disk.tells None old.pool e v → Hands disk.tells old.log.handed (put w.clients c v) → Shows disk (record old { clients = slice_set old.clients c e; log = log }) (record w { clients = put w.clients c v })
    shows-desk e v here hands = record {
      contents = s.contents;
      failed = s.failed;
      calls = s.calls;
      columns = s.columns;
      clients = subst (λ (l : Option Loss). (k : ℕ) → ShowsClient disk.tells l old.pool (desk_at (slice_set old.clients c e) k) (put w.clients c v k)) (sym not_lost)
          (shown-put disk.tells None old.pool old.pool old.clients (slice_set old.clients c e) w.clients c e v below refl (λ k. refl) (unlost disk old w s not_lost) here);
      free = s.free;
      out = s.out;
      rebuilt = s.rebuilt ∙ sym rebuilt;
      history = s.history ∙ sym history;
      lost = s.lost;
      handed = subst (λ (h : Handout). Hands disk.tells h (put w.clients c v)) (sym handed) hands;
    }

    abbrev waits_now : Client
    waits_now = record (w.clients c) { current = IsWaiting }

    abbrev pub replied_now : Reply → Client
    replied_now r = record (w.clients c) { replies = (w.clients c).replies ++ r ∷ []; current = Idles }

    pub shows-waiting : Shows disk (record (waiting old c) { log = log }) (record w { clients = put w.clients c waits_now })
    shows-waiting = shows-desk (with_waiting d) waits_now (record { items = (unlost disk old w s not_lost c).items; replies = (unlost disk old w s not_lost c).replies; current = refl }) (hands-kept disk.tells old.log.handed w.clients c waits_now refl refl s.handed)

    pub shows-replied : (r : Reply) → is_data r ≡ false → Shows disk (record (replied old c r) { log = log }) (record w { clients = put w.clients c (replied_now r) })
    shows-replied r other = shows-desk (with_reply d r) (replied_now r) (record { items = (unlost disk old w s not_lost c).items; replies = ap (λ (l : List Reply). l ++ r ∷ []) (unlost disk old w s not_lost c).replies; current = refl }) (hands-replied disk.tells old.log.handed w.clients c (replied_now r) r other refl refl s.handed)

    pub replies-at_once : (r : Reply) → RepliesAtOnce c r w (record w { clients = put w.clients c (replied_now r) })
    replies-at_once r = record {
      replied = record {
        items = ap (λ (q : Client). q.items) (put-same w.clients c _);
        replies = ap (λ (q : Client). q.replies) (put-same w.clients c _);
        handed = λ i b k h. ap (λ (q : Client). q.handed i b k) (put-same w.clients c _);
        current = ap (λ (q : Client). q.current) (put-same w.clients c _);
        others = λ k ne. put-other w.clients c _ k ne;
      };
      only = record {
        devices = record { contents = λ a b k. refl; calls = λ a. refl };
        columns = record { failed = λ a. refl; columns = refl; rebuilt = refl; lost = refl };
        blocks = record { blocks = λ b k. refl; history = refl };
      };
      pool = record { free = refl; out = refl };
    }

-- ## The event

module _ {L D : Type 0} (lay : LayoutGhosts L) (disk : DiskGhosts D) (old : Array L D) (c : ℕ) (sound : IsSound lay disk old) (can : CanBegin old c) where
  abbrev y2 : Shape
  y2 = lay.shape old.layout

  abbrev d2 : Desk
  d2 = desk_at old.clients c

  pub item-left : length d2.replies < length d2.items
  item-left = get-within d2.items (length d2.replies) can.item can.next

  abbrev begins : Logged → Logged
  begins l = noted l (event.Begin (id_of old.clients c))

  abbrev replied_world : World → Reply → World
  replied_world w r = record w { clients = put w.clients c (record (w.clients c) { replies = (w.clients c).replies ++ r ∷ []; current = Idles }) }

  -- whatever became of the core, it is what the world's beginning makes of it
  begun-as : (w : World) (s : Shows disk old w) (i : Item) (now : Array L D) → BegunAs lay i old c now → (x : World) × Shows disk (record now { log = begins now.log }) x × Begun y2 c i w x
  begun-as w s (item.Run op graph) now (inl h) = subst (λ (n : Array L D). (x : World) × Shows disk (record n { log = begins n.log }) x × Begun y2 c (item.Run op graph) w x) (sym h.1) (
    record w { clients = put w.clients c (record (w.clients c) { current = IsWaiting }) },
    shows-waiting lay disk old c sound can.nothing item-left w s can.not_lost (begins old.log) refl refl refl,
    inr (inr (
      h.0.0,
      h.0.1,
      record {
        items = ap (λ (q : Client). q.items) (put-same w.clients c _);
        replies = ap (λ (q : Client). q.replies) (put-same w.clients c _);
        handed = λ j b k. ap (λ (q : Client). q.handed j b k) (put-same w.clients c _);
        current = ap (λ (q : Client). q.current) (put-same w.clients c _);
        others = λ k ne. put-other w.clients c _ k ne;
      },
      record {
        devices = record { contents = λ a b k. refl; calls = λ a. refl };
        columns = record { failed = λ a. refl; columns = refl; rebuilt = refl; lost = refl };
        blocks = record { blocks = λ b k. refl; history = refl };
      },
      record { free = refl; out = refl },
    )),
  )
  begun-as w s (item.Run op graph) now (inr h) = subst (λ (n : Array L D). (x : World) × Shows disk (record n { log = begins n.log }) x × Begun y2 c (item.Run op graph) w x) (sym h.2) (
    replied_world w h.0,
    shows-replied lay disk old c sound can.nothing item-left w s can.not_lost (begins old.log) refl refl refl h.0 (elim h.1 [ inl q ↦ ap is_data q.0 | inr q ↦ ap is_data q.0 ]),
    elim h.1 [
      | inl q ↦ inl (q.1, subst (λ (r : Reply). RepliesAtOnce c r w (replied_world w h.0)) q.0 (replies-at_once lay disk old c sound can.nothing item-left w s can.not_lost old.log refl refl refl h.0))
      | inr q ↦ inr (inl (q.1, q.2, subst (λ (r : Reply). RepliesAtOnce c r w (replied_world w h.0)) q.0 (replies-at_once lay disk old c sound can.nothing item-left w s can.not_lost old.log refl refl refl h.0)))
    ],
  )
  begun-as w s (item.Fail column) now (inl h) = subst (λ (n : Array L D). (x : World) × Shows disk (record n { log = begins n.log }) x × Begun y2 c (item.Fail column) w x) (sym h.1) (
    replied_world w reply.Okay,
    shows-replied lay disk old c sound can.nothing item-left w s can.not_lost (begins old.log) refl refl refl reply.Okay refl,
    (
      replied_world w reply.Okay,
      replies-at_once lay disk old c sound can.nothing item-left w s can.not_lost old.log refl refl refl reply.Okay,
      inl (ap (λ (cols : List ColumnState). slice_get cols column) s.columns ∙ h.0, refl),
    ),
  )
  begun-as w s (item.Fail column) now (inr h) =
      let mid : World = replied_world w reply.Okay in
      let r = failed-with lay disk (replied old c reply.Okay) column now (replied-sound lay disk old c sound can.nothing item-left old.log reply.Okay) h.1 (begins now.log)
      (ap (λ (n : Array L D). n.log.rebuilt) h.1.is) (ap (λ (n : Array L D). n.log.history) h.1.is) (ap (λ (n : Array L D). n.log.handed) h.1.is) can.not_lost
      mid (shows-replied lay disk old c sound can.nothing item-left w s can.not_lost old.log refl refl refl reply.Okay refl) in (
        r.0,
        r.1,
        (
          mid,
          replies-at_once lay disk old c sound can.nothing item-left w s can.not_lost old.log refl refl refl reply.Okay,
          inr (λ dead. h.0 (ap (λ (cols : List ColumnState). slice_get cols column) (sym s.columns) ∙ dead), r.2),
        ),
      )

  sound-as : (i : Item) (now : Array L D) → BegunAs lay i old c now → IsSound lay disk (record now { log = begins now.log })
  sound-as (item.Run op graph) now (inl h) = subst (λ (n : Array L D). IsSound lay disk (record n { log = begins n.log })) (sym h.1) (waiting-sound lay disk old c sound can.nothing item-left (begins old.log))
  sound-as (item.Run op graph) now (inr h) = subst (λ (n : Array L D). IsSound lay disk (record n { log = begins n.log })) (sym h.2) (replied-sound lay disk old c sound can.nothing item-left (begins old.log) h.0)
  sound-as (item.Fail column) now (inl h) = subst (λ (n : Array L D). IsSound lay disk (record n { log = begins n.log })) (sym h.1) (replied-sound lay disk old c sound can.nothing item-left (begins old.log) reply.Okay)
  sound-as (item.Fail column) now (inr h) = sound-with lay disk (replied old c reply.Okay) column now (replied-sound lay disk old c sound can.nothing item-left old.log reply.Okay) h.1 (begins now.log)

  module _ (now : Array L D) (i : Item) (is : item_at d2 ≡ Some i) (h : BegunAs lay i old c now) where
    pub begin-sound : IsSound lay disk (record now { log = begins now.log })
    begin-sound = sound-as i now h

    pub begin-follows : Follows lay disk old (event.Begin (id_of old.clients c)) (record now { log = begins now.log })
    begin-follows w s =
        let told = unlost disk old w s can.not_lost c in
        let b = begun-as w s i now h in
        let idles : (w.clients c).current ≡ Idles = subst (λ (t : Stage). ShowsCurrent disk.tells old.pool t d2 (w.clients c).current) can.nothing told.current in
        let next : item_now (w.clients c) ≡ Some i = ap (λ (l : List Item). slice_get l (length (w.clients c).replies)) told.items ∙ (ap (λ (l : List Reply). slice_get d2.items (length l)) told.replies ∙ is) in
        let may : MayBegin c w = record { nothing = idles; item = i; next = next } in
        let begins_so : Begins y2 c w b.0 = (may, b.2) in
        (b.0, b.1, subst (λ (l : Option Loss). StepBy y2 (graphs_of old.graphs.items) l (event.Begin (id_of old.clients c)) w b.0) (sym (s.lost ∙ can.not_lost)) (ap length told.replies, begins_so))
