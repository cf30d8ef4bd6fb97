-- What is out stays as it left while other nodes move.
use Rattle.std.proofs.Common.{◌≡◌, ◌∙◌, ℕ, ◌⊎◌, List, [], ◌∷◌, length, subst, sym, ap, refl, inl, inr, Option, Some, Bool, true, false, ◌||◌, nat_eq, bit_xor, slice_index}
use Rattle.std.proofs.lemmas.Bool.{eq-eqb}
use Rattle.std.specs.List.{AllByRecursion}
use Rattle.blk_disk.specs.declared.disk.Disk.{Ghosts as DiskGhosts}
use Rattle.buf_pool.specs.Pool as pool
use Rattle.lay_core.specs.Layout.{Shape}
use Rattle.graph_mean.specs.declared.graph.Node.{Node}
use Rattle.graph_mean.specs.declared.graph.Node.TheVariants.{Rd, Wr, Xor, Cmt, Trm}
use Rattle.graph_mean.specs.Graph.{View}
use Rattle.graph_mean.specs.Sums.{xor_by}
use Rattle.eng_cols.specs.declared.spot.Spot.{Spot}
use Rattle.eng_job.specs.declared.job.Work.{Work}
use Rattle.eng_job.specs.declared.job.Source.{Source}
use Rattle.eng_parts.specs.Shelf.{Shelved, IsAway}
use Rattle.eng_clients.specs.Seats.{lease_seat, bytes_at}
use Rattle.eng_clients.specs.Gathered.{has, numbers}
use Rattle.eng_state.specs.Out.{AreOut, AreSources, IsWork}

-- the buffers that leave with a node
abbrev pub Leaves : Node → List ℕ → ℕ → Type 0
Leaves (Rd i to) named b = to ≡ b
Leaves (Wr i from) named b = from ≡ b
Leaves (Xor to) named b = (to ≡ b) ⊎ (has named b ≡ true)
Leaves Cmt named b = ⊥
Leaves Trm named b = ⊥

has-here : (b : ℕ) (xs : List ℕ) → has (b ∷ xs) b ≡ true
has-here b xs = ap (λ (t : Bool). t || has xs b) (eq-eqb b b refl)

has-later : (x b : ℕ) (xs : List ℕ) → has xs b ≡ true → has (x ∷ xs) b ≡ true
has-later x b xs h = by_case (nat_eq b x)
  where
    by_case : (t : Bool) → (t || has xs b) ≡ true
    by_case true = refl
    by_case false = h

xor_by-in : (f g : ℕ → ℕ) (xs : List ℕ) → ((b : ℕ) → has xs b ≡ true → f b ≡ g b) → xor_by f xs ≡ xor_by g xs
xor_by-in f g [] e = refl
xor_by-in f g (x ∷ xs) e = ap (λ (a : ℕ). bit_xor a (xor_by f xs)) (e x (has-here x xs)) ∙ ap (bit_xor (g x)) (xor_by-in f g xs (λ b h. e b (has-later x b xs h)))

bytes-in : (f g : ℕ → List ℕ) (from : List Source) → ((b : ℕ) → has (numbers from) b ≡ true → f b ≡ g b) → AllByRecursion (λ (s : Source). s.buffer ≡ f s.at) from → AllByRecursion (λ (s : Source). s.buffer ≡ g s.at) from
bytes-in f g [] e h = h
bytes-in f g (s ∷ ss) e h = (h.0 ∙ e s.at (has-here s.at (numbers ss)), bytes-in f g ss (λ b m. e b (has-later s.at b (numbers ss) m)) h.1)

module _ {D : Type 0} (disk : DiskGhosts D) (y : Shape) (olds news : Shelved D) (old new : pool.PoolView) (g : View) (lease : List ℕ) (unit : new.unit ≡ old.unit) where
  -- a buffer that is out is so still, with its bytes
  abbrev pub Stays : ℕ → Type 0
  Stays b = (lease_seat old lease b).out ≡ true → ((lease_seat new lease b).out ≡ true) × (bytes_at new lease b ≡ bytes_at old lease b)

  call-stays : (at : Spot) (b : ℕ) (x : D) (first : ℕ) (buffer : List ℕ) (count : ℕ) → (IsAway olds at.device x → IsAway news at.device x) → Stays b → AreOut disk y olds old g lease at b x first buffer count → AreOut disk y news new g lease at b x first buffer count
  call-stays at b x first buffer count away stays a = record {
    device = away a.device;
    seat = (stays a.seat).0;
    bytes = a.bytes ∙ sym (stays a.seat).1;
    long = a.long ∙ sym unit;
    first_is = a.first_is;
    count_is = a.count_is;
    room = a.room;
  }

  sum-stays : (to : ℕ) (named : List ℕ) (target : List ℕ) (from : List Source) (count : ℕ) → ((b : ℕ) → Leaves (Xor to) named b → Stays b) → AreSources disk old g lease to named target from count → AreSources disk new g lease to named target from count
  sum-stays to named target from count stays a =
      let same : (b : ℕ) → has named b ≡ true → bytes_at old lease b ≡ bytes_at new lease b = λ b h. sym (stays b (inr h) (a.seats b h)).1 in
      record {
        seat = (stays to (inl refl) a.seat).0;
        is = a.is ∙ sym (stays to (inl refl) a.seat).1;
        long = a.long ∙ sym unit;
        count_is = a.count_is;
        seats = λ b h. (stays b (inr h) (a.seats b h)).0;
        bytes = bytes-in (bytes_at old lease) (bytes_at new lease) from (λ b h. same b (sym (a.all b) ∙ h)) a.bytes;
        longs = subst (λ (u : ℕ). AllByRecursion (λ (s : Source). length s.buffer ≡ u) from) (sym unit) a.longs;
        all = a.all;
        once = a.once;
        sum = λ k. a.sum k ∙ xor_by-in (λ b. slice_index (bytes_at old lease b) k) (λ b. slice_index (bytes_at new lease b) k) named (λ b h. ap (λ (l : List ℕ). slice_index l k) (same b h));
      }

  -- so the work of a node that is out is as it was
  pub work-stays : (at : Option Spot) (kind : Node) (named : List ℕ) (w : Work D) (from : List Source) → ((here : Spot) (x : D) → at ≡ Some here → IsAway olds here.device x → IsAway news here.device x) → ((b : ℕ) → Leaves kind named b → Stays b)
      → IsWork disk y olds old g lease at kind named w from → IsWork disk y news new g lease at kind named w from
  work-stays at (Rd i b) named w from away stays h = (h.0, h.1, h.2, h.3, h.4, h.5, h.6, call-stays h.0 b h.2 h.3 h.4 h.5 (away h.0 h.2 h.1) (stays b refl) h.7, h.8)
  work-stays at (Wr i b) named w from away stays h = (h.0, h.1, h.2, h.3, h.4, h.5, h.6, call-stays h.0 b h.2 h.3 h.4 h.5 (away h.0 h.2 h.1) (stays b refl) h.7, h.8)
  work-stays at (Xor to) named w from away stays h = (h.0, h.1, h.2, sum-stays to named h.0 from h.1 stays h.3)
  work-stays at Cmt named w from away stays h = h
  work-stays at Trm named w from away stays h = h
