-- Each event of a chain of calls leaves less to do, so that a chain has few events.
use Rattle.std.proofs.Common.{◌≡◌, ◌≤◌, ℕ, List, [], ◌∷◌, length, sym, ◌∙◌, ap, subst, arith}
use Rattle.std.specs.Prelude.{◌+◌}
use Rattle.blk_disk.specs.declared.disk.Disk.{Ghosts as DiskGhosts}
use Rattle.lay_core.specs.declared.layout.Layout.{Ghosts as LayoutGhosts}
use Rattle.eng_world.specs.declared.item.Traced.{Traced}
use Rattle.eng_rest.specs.Left.{IsOwn}
use Rattle.eng_rest.proofs.Summing.{own-later}
use Rattle.eng_state.specs.declared.array.Array.{Array}
use Rattle.eng_array.specs.Chain.{Chain, HaveFewNodes}
use Rattle.eng_array.specs.Progress.{left_of, Falls}
use Rattle.eng_array.specs.Steady.{IsSteady}
use Rattle.eng_array.specs.Tickets.{AllOf, Happens, Goes, Quiet}
use Rattle.eng_array.proofs.Chained.{sound-few}
use Rattle.eng_array.proofs.Lefts.{follows-falls, left-moved}

module _ {L D : Type 0} (lay : LayoutGhosts L) (disk : DiskGhosts D) where
  pub happens-falls : (e : Traced) (old new : Array L D) → IsOwn e → IsSteady lay disk old → Happens lay disk e old new → Falls old new
  happens-falls e old new own steady h = follows-falls lay disk old new e own steady h.sound h.leads

  -- a look changes nothing of what is left
  pub quiet-left : (old new : Array L D) → Quiet lay disk old new → left_of new ≡ left_of old
  quiet-left old new q = ap (λ (core : Array L D). left_of core) q.is ∙ left-moved old new.next

  pub goes-steady : (old new : Array L D) (events : List Traced) → IsSteady lay disk old → Goes lay disk old events new → IsSteady lay disk new
  goes-steady old new [] steady g = subst (IsSteady lay disk) (sym g) steady
  goes-steady old new (e ∷ events) steady g = g.2.sound

  -- a chain has at most as many events as were left
  pub goes-falls : (old new : Array L D) (events : List Traced) → AllOf IsOwn events → IsSteady lay disk old → Goes lay disk old events new → length events + left_of new ≤ left_of old
  goes-falls old new [] own steady g = let e : left_of new ≡ left_of old = ap (λ (core : Array L D). left_of core) g in omega (arith, e)
  goes-falls old new (e ∷ events) own steady g =
      let rest = goes-falls old g.0 events own.1 steady g.1 in
      let one = happens-falls e g.0 new own.0 (goes-steady old g.0 events steady g.1) g.2 in
      omega (arith, rest, one)

  -- it is one whose events of an item are few
  pub goes-chain : (old new : Array L D) (events : List Traced) → AllOf IsOwn events → Goes lay disk old events new → Chain lay disk old events new
  goes-chain old new [] own g = g
  goes-chain old new (e ∷ events) own g = (g.0, goes-chain old g.0 events own.1 g.1, record { later = own-later e own.0; shape = g.2.same.shape; graphs = g.2.same.graphs; follows = g.2.leads })

  pub goes-few : (old new : Array L D) (events : List Traced) (own : AllOf IsOwn events) → IsSteady lay disk old → (g : Goes lay disk old events new) (c i : ℕ) → HaveFewNodes lay disk 2048 c i old events new (goes-chain old new events own g)
  unfolding goes-chain
  goes-few old new [] own steady g c i = sound-few lay disk new (goes-steady old new [] steady g).sound c i
  goes-few old new (e ∷ events) own steady g c i = (goes-few old g.0 events own.1 steady g.1 c i, sound-few lay disk new g.2.sound.sound c i)
