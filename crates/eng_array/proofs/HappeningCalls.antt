-- What the calls but the end of a job change of devices, and that each is one event.
use Rattle.std.proofs.Common.{◌≡◌, ◌<◌, inl, inr, ℕ, Bool, length, Option, Some, None, sym, ◌∙◌, ap, subst, arith}
use Rattle.std.specs.Prelude.{◌++◌, ◌+◌, List, [], ◌∷◌, slice_set, if◌then◌else◌}
use Rattle.lay_core.specs.declared.layout.Layout.{Ghosts as LayoutGhosts}
use Rattle.blk_disk.specs.declared.disk.Disk.{Ghosts as DiskGhosts}
use Rattle.eng_cols.specs.Cols.{ColumnState}
use Rattle.eng_job.specs.declared.job.Job.{Job}
use Rattle.eng_rest.specs.Left.{IsOwn}
use Rattle.eng_world.specs.declared.item.Item.{Item}
use Rattle.eng_world.specs.declared.item.Item.TheVariants as item
use Rattle.eng_world.specs.declared.item.Traced.{Traced}
use Rattle.eng_world.specs.declared.item.Traced.TheVariants as event
use Rattle.eng_clients.specs.declared.stage.Stage.TheVariants.{Nothing, Runs}
use Rattle.eng_state.specs.declared.array.Array.{Array}
use Rattle.eng_state.specs.Beginning.{CanBegin, BegunAs}
use Rattle.eng_state.specs.Can.{CanFire, CanSkip, place_now}
use Rattle.eng_clients.specs.Desk.{Desk, desk_at, with_skipped}
use Rattle.eng_state.specs.Failing.{FailedBy}
use Rattle.eng_log.specs.Log.{noted}
use Rattle.eng_state.specs.Moves.{Fired, id_of}
use Rattle.eng_state.specs.Out.{IsOut}
use Rattle.eng_starts.specs.Rebuilding.{CanRebuild, Started, with_items}
use Rattle.eng_state.specs.Serves.{CanTake, CanBack}
use Rattle.eng_parts.specs.Shelf.{Shelved}
use Rattle.eng_state.proofs.Shown.{desk-else}
use Rattle.eng_array.specs.Steady.{IsSteady}
use Rattle.eng_state.specs.Steps as steps
use Rattle.eng_state.specs.Taken.{IsTaken, BackAs, IsBack}
use Rattle.eng_array.specs.Tickets.{IsBad, is_node, out_at, Happens, KeepsJobs, Lends}
use Rattle.eng_array.proofs.DevicesOn.{same-devices, left-devices}
use Rattle.eng_array.proofs.Happening.{happens, world-out, nodes-same, nodes-more}
use Rattle.eng_array.proofs.SteadyBegin.{begin-keeps, fail-keeps}
use Rattle.eng_array.proofs.SteadyNodes.{fire-keeps, skip-keeps}
use Rattle.eng_array.proofs.SteadyTake.{take-keeps, back-keeps}

module _ {L D : Type 0} (lay : LayoutGhosts L) (disk : DiskGhosts D) (old new : Array L D) (steady : IsSteady lay disk old) (after : IsSteady lay disk new) where
  -- no device leaves or comes home, and no node
  abbrev Stays : Type 0
  Stays = (job : Job D) → IsOut disk lay old job → IsOut disk lay new job

  -- ## A node is fired

  module _ (c n : ℕ) (can : CanFire lay old c n) (f : Fired lay old c n new) (follows : steps.Follows lay disk old (event.Fire (id_of old.clients c) n) new) where
    pub fire-happens : Happens lay disk (event.Fire (id_of old.clients c) n) old new
    fire-happens = happens lay disk old new (event.Fire (id_of old.clients c) n) after (fire-keeps lay disk old new c n steady can f) follows f.spare (left-devices disk old.devices new.devices (place_now lay old c n) f.devices) (λ bad. absurd bad)

    pub fire-lends : (job : Job D) → job.client ≡ c → job.node ≡ n → IsOut disk lay new job → Stays → Lends lay disk job old new
    fire-lends job client node out stays = record {
      is_out = out;
      jobs = stays;
      nodes = λ d m. subst (λ k. out_at new d m ≡ out_at old d m + is_node k job.node d m) (sym client) (subst (λ k. out_at new d m ≡ out_at old d m + is_node c k d m) (sym node) (nodes-more lay disk old new (event.Fire (id_of old.clients c) n) steady follows c n (world-out lay disk old new (event.Fire (id_of old.clients c) n) steady follows) d m));
    }

  -- ## One is passed over

  module _ (c n : ℕ) (can : CanSkip lay old c n) (is : new ≡ record old { clients = slice_set old.clients c (with_skipped (desk_at old.clients c) n); log = noted old.log (event.Skip (id_of old.clients c) n) }) (follows : steps.Follows lay disk old (event.Skip (id_of old.clients c) n) new) where
    pub skip-happens : Happens lay disk (event.Skip (id_of old.clients c) n) old new
    skip-happens = happens lay disk old new (event.Skip (id_of old.clients c) n) after (skip-keeps lay disk old new c n steady can is) follows (ap (λ (s : Array L D). s.spare) is) (same-devices disk old.devices.slots new.devices.slots (ap (λ (s : Array L D). s.devices.slots) is)) (λ bad. absurd bad)

    pub skip-jobs : Stays → KeepsJobs lay disk old new
    skip-jobs stays = record { jobs = stays; nodes = nodes-same lay disk old new (event.Skip (id_of old.clients c) n) steady follows (world-out lay disk old new (event.Skip (id_of old.clients c) n) steady follows) }

  -- ## An item begins

  begun-slots : (i : Item) (c : ℕ) (mid : Array L D) → BegunAs lay i old c mid → mid.devices.slots ≡ old.devices.slots
  begun-slots (item.Run op file) c mid (inl h) = ap (λ (s : Array L D). s.devices.slots) h.1
  begun-slots (item.Run op file) c mid (inr h) = ap (λ (s : Array L D). s.devices.slots) h.2
  begun-slots (item.Fail column) c mid (inl h) = ap (λ (s : Array L D). s.devices.slots) h.1
  begun-slots (item.Fail column) c mid (inr h) = ap (λ (s : Array L D). s.devices.slots) h.1.is

  begun-spare : (i : Item) (c : ℕ) (mid : Array L D) → BegunAs lay i old c mid → mid.spare ≡ old.spare
  begun-spare (item.Run op file) c mid (inl h) = ap (λ (s : Array L D). s.spare) h.1
  begun-spare (item.Run op file) c mid (inr h) = ap (λ (s : Array L D). s.spare) h.2
  begun-spare (item.Fail column) c mid (inl h) = ap (λ (s : Array L D). s.spare) h.1
  begun-spare (item.Fail column) c mid (inr h) = ap (λ (s : Array L D). s.spare) h.1.is

  module _ (c : ℕ) (can : CanBegin old c) (i : Item) (mid : Array L D) (b : BegunAs lay i old c mid) (is : new ≡ record mid { log = noted mid.log (event.Begin (id_of old.clients c)) }) (follows : steps.Follows lay disk old (event.Begin (id_of old.clients c)) new) where
    pub begin-happens : Happens lay disk (event.Begin (id_of old.clients c)) old new
    begin-happens = happens lay disk old new (event.Begin (id_of old.clients c)) after (begin-keeps lay disk old steady c can i mid new b is) follows (ap (λ (s : Array L D). s.spare) is ∙ begun-spare i c mid b) (same-devices disk old.devices.slots new.devices.slots (ap (λ (s : Array L D). s.devices.slots) is ∙ begun-slots i c mid b)) (λ bad. absurd bad)

    pub begin-jobs : Stays → KeepsJobs lay disk old new
    begin-jobs stays = record { jobs = stays; nodes = nodes-same lay disk old new (event.Begin (id_of old.clients c)) steady follows (world-out lay disk old new (event.Begin (id_of old.clients c)) steady follows) }

  -- ## A column fails

  module _ (column : ℕ) (mid : Array L D) (f : FailedBy lay old column mid) (is : new ≡ record mid { log = noted mid.log (event.Fail column) }) (follows : steps.Follows lay disk old (event.Fail column) new) where
    pub fail-happens : Happens lay disk (event.Fail column) old new
    fail-happens = happens lay disk old new (event.Fail column) after (fail-keeps lay disk old steady column mid new f is) follows (ap (λ (s : Array L D). s.spare) is ∙ ap (λ (s : Array L D). s.spare) f.is) (same-devices disk old.devices.slots new.devices.slots (ap (λ (s : Array L D). s.devices.slots) is ∙ ap (λ (s : Array L D). s.devices.slots) f.is)) (λ bad. absurd bad)

    pub fail-jobs : Stays → KeepsJobs lay disk old new
    fail-jobs stays = record { jobs = stays; nodes = nodes-same lay disk old new (event.Fail column) steady follows (world-out lay disk old new (event.Fail column) steady follows) }

  -- ## An operation is taken, or goes back

  module _ (c : ℕ) (none : old.lost ≡ None) where
    module _ (can : CanTake lay old c) (t : IsTaken lay old c (event.Take (id_of old.clients c)) new) (follows : steps.Follows lay disk old (event.Take (id_of old.clients c)) new) where
      taken-slots : new.devices.slots ≡ old.devices.slots
      taken-slots = elim t.became [
        | inl f ↦ ap (λ (s : Shelved D). s.slots) f.rest.devices
        | inr f ↦ ap (λ (s : Shelved D). s.slots) f.1.rest.devices
      ]

      taken-spare : new.spare ≡ old.spare
      taken-spare = elim t.became [
        | inl f ↦ f.rest.spare
        | inr f ↦ f.1.rest.spare
      ]

      pub take-happens : Happens lay disk (event.Take (id_of old.clients c)) old new
      take-happens = happens lay disk old new (event.Take (id_of old.clients c)) after (take-keeps lay disk old new c steady none can t) follows taken-spare (same-devices disk old.devices.slots new.devices.slots taken-slots) (λ bad. absurd bad)

      pub take-jobs : Stays → KeepsJobs lay disk old new
      take-jobs stays = record { jobs = stays; nodes = nodes-same lay disk old new (event.Take (id_of old.clients c)) steady follows (world-out lay disk old new (event.Take (id_of old.clients c)) steady follows) }

    module _ (can : CanBack lay old c) (b : IsBack lay old c (event.Back (id_of old.clients c)) new) (follows : steps.Follows lay disk old (event.Back (id_of old.clients c)) new) where
      back-slots : (file : Option ℕ) → BackAs lay old c b.op file (event.Back (id_of old.clients c)) new → new.devices.slots ≡ old.devices.slots
      back-slots None f = ap (λ (s : Shelved D). s.slots) f.rest.devices
      back-slots (Some n) f = ap (λ (s : Shelved D). s.slots) f.2.rest.devices

      back-spare : (file : Option ℕ) → BackAs lay old c b.op file (event.Back (id_of old.clients c)) new → new.spare ≡ old.spare
      back-spare None f = f.rest.spare
      back-spare (Some n) f = f.2.rest.spare

      pub back-happens : Happens lay disk (event.Back (id_of old.clients c)) old new
      back-happens = happens lay disk old new (event.Back (id_of old.clients c)) after (back-keeps lay disk old new c steady none can (event.Back (id_of old.clients c)) b.op b.file b.serves b.became) follows (back-spare b.file b.became) (same-devices disk old.devices.slots new.devices.slots (back-slots b.file b.became)) (λ bad. absurd bad)

      pub back-jobs : Stays → KeepsJobs lay disk old new
      back-jobs stays = record { jobs = stays; nodes = nodes-same lay disk old new (event.Back (id_of old.clients c)) steady follows (world-out lay disk old new (event.Back (id_of old.clients c)) steady follows) }

  -- ## A rebuild begins

  module _ (c asked : ℕ) (states : List ColumnState) (at : ℕ → Traced) (f : Started lay old c asked states at new) (follows : steps.Follows lay disk old (at (length f.items)) new) (not_own : IsOwn (at (length f.items)) → ⊥) (not_bad : IsBad (at (length f.items)) → ⊥) where
    abbrev e : Traced
    e = at (length f.items)

    pub start-happens : Happens lay disk (at (length f.items)) old new
    start-happens = record {
      sound = after;
      same = record {
        layout = ap (λ (s : Array L D). s.layout) f.is;
        shape = ap (λ (s : Array L D). lay.shape s.layout) f.is;
        graphs = ap (λ (s : Array L D). steps.graphs_of s.graphs.items) f.is;
        keeps = ap (λ (s : Array L D). s.log.keeps) f.is;
        spare = ap (λ (s : Array L D). s.spare) f.is;
        slots = ap (λ (s : Array L D). length s.devices.slots) f.is;
        regions = ap (λ (s : Array L D). s.log.handed.regions) f.is;
      };
      items = λ own. absurd (not_own own);
      others = λ k less. ap (λ (s : Array L D). (desk_at s.clients k).items) f.is ∙ ap (λ (d : Desk). d.items) (desk-else old.clients 16 k (with_items (desk_at old.clients 16) f.items) (λ is. let z : k ≡ 16 = is in omega (arith, z, less)));
      told = λ on. ap (λ (s : Array L D). s.log.trace) f.is ∙ ap (λ (b : Bool). if b then old.log.trace ++ e ∷ [] else old.log.trace) on;
      untold = λ off. ap (λ (s : Array L D). s.log.trace) f.is ∙ ap (λ (b : Bool). if b then old.log.trace ++ e ∷ [] else old.log.trace) off;
      leads = follows;
      devices = same-devices disk old.devices.slots new.devices.slots (ap (λ (s : Array L D). s.devices.slots) f.is);
      blame = λ bad. absurd (not_bad bad);
    }

    -- no node is out before any operation has begun
    pub start-jobs : CanRebuild lay disk old → ((d m : ℕ) → out_at new d m ≡ out_at old d m) → KeepsJobs lay disk old new
    start-jobs can nodes = record {
      jobs = λ job out. absurd (let z : Nothing ≡ Runs = sym (can.unbegun job.client).1 ∙ out.is.out.runs in let u : ⊥ = cc in u);
      nodes = nodes;
    }

  pub fill-nodes : (c device count : ℕ) → steps.Follows lay disk old (event.Fill c device count) new → (d m : ℕ) → out_at new d m ≡ out_at old d m
  fill-nodes c device count follows = nodes-same lay disk old new (event.Fill c device count) steady follows (world-out lay disk old new (event.Fill c device count) steady follows)

  pub resume-nodes : (c count : ℕ) → steps.Follows lay disk old (event.Resume c count) new → (d m : ℕ) → out_at new d m ≡ out_at old d m
  resume-nodes c count follows = nodes-same lay disk old new (event.Resume c count) steady follows (world-out lay disk old new (event.Resume c count) steady follows)

  pub spread-nodes : (c : ℕ) → steps.Follows lay disk old (event.Spread c) new → (d m : ℕ) → out_at new d m ≡ out_at old d m
  spread-nodes c follows = nodes-same lay disk old new (event.Spread c) steady follows (world-out lay disk old new (event.Spread c) steady follows)
