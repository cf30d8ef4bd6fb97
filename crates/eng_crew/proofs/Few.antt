-- An item has few events in a chain that begins with all its jobs at home.
use Rattle.std.proofs.Common.{ℕ, List, [], ◌∷◌}
use Rattle.blk_disk.specs.declared.disk.Disk.{Ghosts as DiskGhosts}
use Rattle.lay_core.specs.declared.layout.Layout.{Ghosts as LayoutGhosts}
use Rattle.eng_world.specs.declared.item.Traced.{Traced}
use Rattle.eng_world.specs.declared.item.Traced.TheVariants as event
use Rattle.eng_rest.specs.Left.{IsOwn, IsLater}
use Rattle.eng_state.specs.declared.array.Array.{Array}
use Rattle.eng_array.specs.Chain.{Leads, Chain, HaveFewNodes}
use Rattle.eng_events.specs.Opened.{NoneOut}
use Rattle.eng_array.specs.Steady.{IsSteady}
use Rattle.eng_array.specs.Tickets.{AllOf, Happens, Goes, After}
use Rattle.eng_array.proofs.Chained.{chain-few}
use Rattle.eng_crew.specs.Drained.{HaveFew, Drained}

own-later : (e : Traced) → IsOwn e → IsLater e
own-later (event.Fill column device count) h = absurd h
own-later (event.Resume column count) h = absurd h
own-later (event.Spread column) h = absurd h
own-later (event.Fail column) h = absurd h
own-later (event.Begin id) h = tt
own-later (event.Take id) h = tt
own-later (event.Fire id n) h = tt
own-later (event.Good id n) h = tt
own-later (event.Bad id n) h = tt
own-later (event.Skip id n) h = tt
own-later (event.Back id) h = tt

module _ {L D : Type 0} (lay : LayoutGhosts L) (disk : DiskGhosts D) where
  happens-leads : (old : Array L D) (e : Traced) (new : Array L D) → IsOwn e → Happens lay disk e old new → Leads lay disk old e new
  happens-leads old e new own h = record { later = own-later e own; shape = h.same.shape; graphs = h.same.graphs; follows = h.leads }

  goes-chain : (old : Array L D) (events : List Traced) (new : Array L D) → AllOf IsOwn events → Goes lay disk old events new → Chain lay disk old events new
  goes-chain old [] new own g = g
  goes-chain old (e ∷ events) new own g = (g.0, goes-chain old events g.0 own.1 g.1, happens-leads g.0 e new own.0 g.2)

  module _ (m c i : ℕ) where
    few-chain : (old : Array L D) (events : List Traced) (new : Array L D) (own : AllOf IsOwn events) (g : Goes lay disk old events new) → HaveFew lay disk m c i old events new g → HaveFewNodes lay disk m c i old events new (goes-chain old events new own g)
    unfolding goes-chain
    few-chain old [] new own g few = few
    few-chain old (e ∷ events) new own g few = (few-chain old events g.0 own.1 g.1 few.0, few.1)

  pub after-drained : (old new : Array L D) → IsSteady lay disk old → NoneOut old.clients → After lay disk old new → Drained lay disk old new
  after-drained old new steady home a = record {
    after = a;
    few = λ m c i deaths inside few die. chain-few lay disk m c i old a.events new (goes-chain old a.events new a.own a.goes) steady inside (few-chain m c i old a.events new a.own a.goes few) deaths (λ n. home c n) die;
  }
