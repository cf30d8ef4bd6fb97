-- A core is steady after an item begins, and after a column fails.
use Rattle.std.proofs.Common.{◌≡◌, ℕ, ◌<◌, List, length, ap, arith, inl, inr, refl, Some, slice_get}
use Rattle.std.specs.Prelude.{slice_set}
use Rattle.blk_disk.specs.declared.disk.Disk.{Ghosts as DiskGhosts}
use Rattle.lay_core.specs.Layout.{Shape}
use Rattle.lay_core.specs.declared.layout.Layout.{Ghosts as LayoutGhosts}
use Rattle.graph_mean.specs.Graph.{Held}
use Rattle.eng_cols.specs.Cols.{Dead}
use Rattle.eng_world.specs.declared.item.Item.{Item}
use Rattle.eng_world.specs.declared.item.Item.TheVariants as item
use Rattle.eng_world.specs.declared.item.Reply.TheVariants as reply
use Rattle.eng_world.specs.declared.item.Traced.TheVariants as event
use Rattle.eng_clients.specs.declared.stage.Stage.TheVariants.{Nothing, Waits, Runs}
use Rattle.eng_state.specs.declared.array.Array.{Array}
use Rattle.eng_state.specs.Beginning.{AllAsked, CanBegin, BegunAs, replied}
use Rattle.eng_clients.specs.Desk.{Desk, desk_at, with_reply, with_waiting}
use Rattle.eng_state.specs.Failing.{FailedBy}
use Rattle.eng_log.specs.Log.{noted}
use Rattle.eng_state.specs.Moves.{id_of}
use Rattle.eng_state.specs.Room.{HasRoom}
use Rattle.eng_state.specs.Sound.{IsSound}
use Rattle.eng_array.specs.Steady.{IsSteady}
use Rattle.eng_state.specs.Steps.{Follows}
use Rattle.eng_array.proofs.Kept.{Kept, rests, same-log, stays, one-goes, column-fails, noted-keeps, traced-steady}
use Rattle.eng_array.proofs.Steady.{Keeps, item-among, begin-room, fail-room}

module _ {L D : Type 0} (lay : LayoutGhosts L) (disk : DiskGhosts D) (old : Array L D) (steady : IsSteady lay disk old) where
  abbrev y : Shape
  y = lay.shape old.layout

  abbrev gs : List Held
  gs = old.graphs.items

  -- ## A column fails

  pub failing-room : (column : ℕ) → column < length old.cols.states → (slice_get old.cols.states column ≡ Some Dead → ⊥) → HasRoom old.log
  failing-room column below there = fail-room lay disk old steady column below there

  pub fail-keeps : (column : ℕ) (mid new : Array L D) → FailedBy lay old column mid → new ≡ record mid { log = noted mid.log (event.Fail column) } → Keeps lay disk old (event.Fail column) new
  fail-keeps column mid new f is = noted-keeps lay disk old steady (event.Fail column) mid new is (column-fails lay disk old steady old mid column f (stays lay disk old steady))

  pub fail-steady : (column : ℕ) (mid new : Array L D) → FailedBy lay old column mid → new ≡ record mid { log = noted mid.log (event.Fail column) } → IsSound lay disk new → Follows lay disk old (event.Fail column) new → IsSteady lay disk new
  fail-steady column mid new f is sound follows = traced-steady lay disk old steady (event.Fail column) mid new (inr (column, refl)) is (column-fails lay disk old steady old mid column f (stays lay disk old steady)) sound follows

  -- ## An item begins

  pub all-asked : AllAsked lay old
  all-asked c n i at = (steady.serving c).asked n i at

  module _ (c : ℕ) (can : CanBegin old c) where
    abbrev d : Desk
    d = desk_at old.clients c

    pub item-room : HasRoom old.log
    item-room = begin-room lay disk old steady can.not_lost c can.item can.next can.nothing

    below : c < length old.clients
    below = let h = item-among lay disk old steady.sound c can.item can.next in let all = steady.sound.well.all in omega (arith, h, all)

    one-idle : (new : Array L D) (b : Desk) → (b.stage ≡ Runs → ⊥) → b.items ≡ d.items → new ≡ record old { clients = slice_set old.clients c b } → Kept lay disk old steady new
    one-idle new b idle items is = one-goes lay disk old steady old new c b below (rests items idle) (ap (λ (s : Array L D). s.clients) is) (ap (λ (s : Array L D). s.layout) is) (ap (λ (s : Array L D). s.graphs) is) (same-log old.log new.log (ap (λ (s : Array L D). s.log) is)) (ap (λ (s : Array L D). length s.pool.seats) is) (stays lay disk old steady)

    waits-not : Waits ≡ Runs → ⊥
    waits-not e = let u : ⊥ = cc in u

    nothing-not : Nothing ≡ Runs → ⊥
    nothing-not e = let u : ⊥ = cc in u

    begun-mid : (i : Item) (mid : Array L D) → BegunAs lay i old c mid → Kept lay disk old steady mid
    begun-mid (item.Run op graph) mid (inl h) = one-idle mid (with_waiting d) waits-not refl h.1
    begun-mid (item.Run op graph) mid (inr h) = one-idle mid (with_reply d h.0) nothing-not refl h.2
    begun-mid (item.Fail column) mid (inl h) = one-idle mid (with_reply d reply.Okay) nothing-not refl h.1
    begun-mid (item.Fail column) mid (inr h) = column-fails lay disk old steady (replied old c reply.Okay) mid column h.1 (one-idle (replied old c reply.Okay) (with_reply d reply.Okay) nothing-not refl refl)

    pub begin-keeps : (i : Item) (mid new : Array L D) → BegunAs lay i old c mid → new ≡ record mid { log = noted mid.log (event.Begin (id_of old.clients c)) } → Keeps lay disk old (event.Begin (id_of old.clients c)) new
    begin-keeps i mid new b is = noted-keeps lay disk old steady (event.Begin (id_of old.clients c)) mid new is (begun-mid i mid b)

    pub begin-steady : (i : Item) (mid new : Array L D) → BegunAs lay i old c mid → new ≡ record mid { log = noted mid.log (event.Begin (id_of old.clients c)) } → IsSound lay disk new → Follows lay disk old (event.Begin (id_of old.clients c)) new → IsSteady lay disk new
    begin-steady i mid new b is sound follows = traced-steady lay disk old steady (event.Begin (id_of old.clients c)) mid new (inl tt) is (begun-mid i mid b) sound follows
