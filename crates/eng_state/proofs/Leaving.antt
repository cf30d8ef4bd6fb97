-- What leaves with a call.
use Rattle.std.proofs.Common.{◌≡◌, ◌≢◌, ℕ, ◌<◌, ◌≤◌, ◌*◌, ◌⊎◌, List, length, get_or, subst, sym, ap, ◌∙◌, arith, inl, inr, refl, true, false, Option, Some, None}
use Rattle.std.specs.Prelude.{slice_index}
use Rattle.std.proofs.lemmas.Bool.{cases_order, cases_eq}
use Rattle.std.proofs.lemmas.List.{get_or-set_same, get_or-set_other, get_or_past}
use Rattle.blk_disk.specs.declared.disk.Disk.{Ghosts as DiskGhosts}
use Rattle.buf_pool.specs.Pool as pool
use Rattle.lay_core.specs.Layout.{Shape, IsLayout}
use Rattle.graph_mean.specs.declared.graph.Node.TheVariants.{Rd, Wr}
use Rattle.graph_mean.specs.Graph.{Held, View, kind_at, vertex_at, buf_at}
use Rattle.graph_mean.specs.Refusals.{Makes, Uses}
use Rattle.graph_mean.specs.Steps.{stripe_of}
use Rattle.graph_mean.specs.Ordered.{IsBuf}
use Rattle.eng_cols.specs.declared.spot.Spot.{Spot}
use Rattle.eng_cols.specs.Cols.{Columns}
use Rattle.eng_cols.specs.Seats.{seat}
use Rattle.eng_world.specs.Nodes.{MakesOrUses}
use Rattle.eng_job.specs.Performed.{HasRoom}
use Rattle.eng_parts.specs.Shelf.{Seen, Shelved, seen_at, IsAway, left}
use Rattle.eng_clients.specs.Seats.{bytes_at}
use Rattle.eng_clients.specs.Desk.{Desk}
use Rattle.eng_state.specs.Out.{AreOut, first_of}
use Rattle.eng_state.specs.Sound.{RunsWell, Seated}
use Rattle.eng_state.specs.Moves.{DeviceLeft}
use Rattle.eng_state.proofs.Placing.{seat-room}
use Rattle.eng_clients.proofs.Pools.{here, same}

-- ## The device

module _ {D : Type 0} (s : Shelved D) (d : ℕ) where
  -- a slot with a device is one of them
  pub seen-below : (a : Seen D) → seen_at s d ≡ Some a → d < length s.slots
  seen-below a is = elim (cases_order d (length s.slots)) [
    | inl e ↦ past (omega (arith, e))
    | inr (inl below) ↦ below
    | inr (inr over) ↦ past (omega (arith, over))
  ]
    where
      past : length s.slots ≤ d → d < length s.slots
      past over = let z : None ≡ Some a = sym (get_or_past s.slots d None over) ∙ is in absurd (let u : ⊥ = cc in u)

  pub left-here : (a : Seen D) (x : D) → seen_at s d ≡ Some a → IsAway (left s d x) d x
  left-here a x is = get_or-set_same s.slots d _ None (seen-below a is)

  pub left-else : (x : D) (j : ℕ) → j ≢ d → seen_at (left s d x) j ≡ seen_at s j
  left-else x j ne = get_or-set_other s.slots d j _ None ne

-- what is said of each device, whether it is out or not, is so of what leaves
pub device-left : {D A : Type 0} → (old new : Shelved D) (o : Option Spot) → DeviceLeft o old new → (h : Option (Seen D) → A) → ((a : D) → h (Some (record { out = true; device = a })) ≡ h (Some (record { out = false; device = a }))) → (k : ℕ) → h (seen_at new k) ≡ h (seen_at old k)
device-left old new None l h e k = ap (λ s. h (seen_at s k)) l
device-left {D} old new (Some at) l h e k = ap (λ (s : Shelved D). h (seen_at s k)) l.2 ∙ elim (cases_eq k at.device) [
  | inl is ↦ ap (λ (j : ℕ). h (seen_at (left old at.device l.0) j)) is ∙ (ap h (left-here old at.device _ l.0 l.1) ∙ (e l.0 ∙ (sym (ap h l.1) ∙ sym (ap (λ (j : ℕ). h (seen_at old j)) is))))
  | inr ne ↦ ap h (left-else old at.device l.0 k ne)
]

pub failed-left : {D : Type 0} → (old new : Shelved D) (o : Option Spot) → DeviceLeft o old new → new.failed ≡ old.failed
failed-left old new None l = ap (λ s. s.failed) l
failed-left {D} old new (Some at) l = ap (λ (s : Shelved D). s.failed) l.2

-- ## The buffer

-- a read makes its buffer alone, and a write uses its own
pub takes-read : (g : View) (n i b c : ℕ) → kind_at g n ≡ Rd i b → MakesOrUses g n c → c ≡ b
takes-read g n i b c is t = by_kind (subst (λ k. Makes k c ⊎ Uses k (vertex_at g n).sources c) is t)
  where
    by_kind : Makes (Rd i b) c ⊎ Uses (Rd i b) (vertex_at g n).sources c → c ≡ b
    by_kind (inl e) = sym e
    by_kind (inr e) = absurd e

pub takes-write : (g : View) (n i b c : ℕ) → kind_at g n ≡ Wr i b → MakesOrUses g n c → c ≡ b
takes-write g n i b c is t = by_kind (subst (λ k. Makes k c ⊎ Uses k (vertex_at g n).sources c) is t)
  where
    by_kind : Makes (Wr i b) c ⊎ Uses (Wr i b) (vertex_at g n).sources c → c ≡ b
    by_kind (inl e) = absurd e
    by_kind (inr e) = sym e

pub read-takes : (g : View) (n i b : ℕ) → kind_at g n ≡ Rd i b → MakesOrUses g n b
read-takes g n i b is = subst (λ k. Makes k b ⊎ Uses k (vertex_at g n).sources b) (sym is) (inl refl)

pub write-takes : (g : View) (n i b : ℕ) → kind_at g n ≡ Wr i b → MakesOrUses g n b
write-takes g n i b is = subst (λ k. Makes k b ⊎ Uses k (vertex_at g n).sources b) (sym is) (inr refl)

module _ {D : Type 0} (disk : DiskGhosts D) (y : Shape) (lay : IsLayout y) (graphs : List Held) (p : pool.PoolView) (d : Desk) (w : RunsWell y graphs p d) (cols : Columns) (shelf : Shelved D) (seated : Seated disk y cols shelf) (unit : p.unit ≡ 512 * y.unit_sectors)
    (i b : ℕ) (at : Spot) (x : D) (bytes : List ℕ) (first count : ℕ) where
  -- the seat of the buffer is one of the pool's
  pub seat-inside : b < length d.run.graph.bufs → get_or d.lease b 0 < length p.seats
  seat-inside below = let bufs = w.bufs in (w.lease b (omega (arith, bufs, below))).0

  -- the device and the buffer of a call, as they left
  pub call-out : IsBuf d.run.graph d.task b → i < y.width → seat y cols.states (slice_index d.map.stripes (stripe_of d.run.graph b)) i ≡ Some at
      → seen_at shelf at.device ≡ Some (record { out = false; device = x }) → bytes ≡ bytes_at p d.lease b → length bytes ≡ p.unit
      → first ≡ first_of y d.run.graph b at → count ≡ (buf_at d.run.graph b).count
      → AreOut disk y (left shelf at.device x) (pool.taken p (get_or d.lease b 0)) d.run.graph d.lease at b x first bytes count
  call-out buf below is seen is_bytes long is_first is_count =
      let inside = seat-inside buf.below in
      record {
        device = left-here shelf at.device _ x seen;
        seat = ap (λ (v : pool.SeatView). v.out) (here p (get_or d.lease b 0) inside);
        bytes = is_bytes ∙ sym (same p (get_or d.lease b 0) inside (λ v. v.bytes) refl (get_or d.lease b 0));
        long = long;
        first_is = is_first;
        count_is = is_count;
        room = subst (λ (n : ℕ). HasRoom disk x first bytes n) (sym is_count) (subst (λ (n : ℕ). HasRoom disk x n bytes (buf_at d.run.graph b).count) (sym is_first) (seat-room disk y lay graphs p d w cols shelf seated i b at false x bytes buf below is seen (long ∙ unit)));
      }
