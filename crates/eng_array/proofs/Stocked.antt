-- That enough buffers are there, as a core goes on.
use Rattle.std.proofs.Common.{◌≡◌, ℕ, ◌<◌, ◌≤◌, ◌+◌, List, length, subst, sym, ap, ◌∙◌, arith, Some, slice_get}
use Rattle.std.specs.Prelude.{min}
use Rattle.std.proofs.Math.Nat.{le-min, min-le_left, min-le_right}
use Rattle.blk_disk.specs.declared.disk.Disk.{Ghosts as DiskGhosts}
use Rattle.lay_core.specs.Layout.{Shape}
use Rattle.lay_core.specs.declared.layout.Layout.{Ghosts as LayoutGhosts}
use Rattle.graph_mean.specs.Graph.{Held}
use Rattle.eng_world.specs.declared.item.Item.{Item}
use Rattle.eng_rest.specs.Left.{below}
use Rattle.eng_rest.proofs.Summing.{below-le}
use Rattle.eng_plan.specs.Pooled.{row_leases, own_leases, LeasesAtMost}
use Rattle.eng_state.specs.declared.array.Array.{Array}
use Rattle.eng_clients.specs.Desk.{Desk, desk_at}
use Rattle.eng_array.specs.Steady.{HasStock}

-- what clients with these desks can lease at once, and the array's own
abbrev pub wanted : Shape → List Held → List Desk → ℕ
wanted y graphs desks = below (λ c. row_leases y graphs (desk_at desks c).items) 16 + own_leases y

pub min-grows : (a b : ℕ) → a ≤ b → min a 2048 ≤ min b 2048
min-grows a b le = let l = min-le_left a 2048 in le-min (omega (arith, l, le)) (min-le_right a 2048)

module _ {L D : Type 0} (lay : LayoutGhosts L) (disk : DiskGhosts D) (old new : Array L D) (layout : new.layout ≡ old.layout) (graphs : new.graphs ≡ old.graphs) (seats : length new.pool.seats ≡ length old.pool.seats) where
  abbrev y : Shape
  y = lay.shape old.layout

  abbrev gs : List Held
  gs = old.graphs.items

  -- where each client but the array's own has the items that it had
  module _ (items : (c : ℕ) → c < 16 → (desk_at new.clients c).items ≡ (desk_at old.clients c).items) (stock : HasStock lay disk old) where
    enough : min (wanted y gs new.clients) 2048 ≤ length new.pool.seats
    enough =
        let rows = below-le (λ c. row_leases y gs (desk_at old.clients c).items) (λ c. row_leases y gs (desk_at new.clients c).items) 16 (λ c l. let e = ap (λ (v : List Item). row_leases y gs v) (items c l) in omega (arith, e)) in
        let m = min-grows (wanted y gs new.clients) (wanted y gs old.clients) (omega (arith, rows)) in
        let t = stock.there in
        omega (arith, m, t, seats)

    pub stock-with : ((n : ℕ) (i : Item) → slice_get (desk_at new.clients 16).items n ≡ Some i → LeasesAtMost y gs (own_leases y) i) → HasStock lay disk new
    stock-with own = record {
      own = λ n i at.
          subst (λ (v : Shape). LeasesAtMost v new.graphs.items (own_leases v) i) (sym (ap lay.shape layout))
          (subst (λ (v : List Held). LeasesAtMost y v (own_leases y) i) (sym (ap (λ v. v.items) graphs)) (own n i at));
      there =
          subst (λ (v : Shape). min (wanted v new.graphs.items new.clients) 2048 ≤ length new.pool.seats) (sym (ap lay.shape layout))
          (subst (λ (v : List Held). min (wanted y v new.clients) 2048 ≤ length new.pool.seats) (sym (ap (λ v. v.items) graphs)) enough);
    }

  -- where each client has
  pub stock-on : ((c : ℕ) → (desk_at new.clients c).items ≡ (desk_at old.clients c).items) → HasStock lay disk old → HasStock lay disk new
  stock-on items stock = stock-with (λ c l. items c) stock (λ n i at. stock.own n i (ap (λ (l : List Item). slice_get l n) (sym (items 16)) ∙ at))
