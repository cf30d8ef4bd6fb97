-- A job that comes home is one event: its device alone has another count of faults, and it alone may be marked as failed.
use Rattle.std.proofs.Common.{◌≡◌, inl, inr, ℕ, List, Bool, true, false, Option, Some, None, refl, sym, ◌∙◌, ap, subst, arith, if◌then◌else◌}
use Rattle.std.specs.Prelude.{slice_index_or}
use Rattle.std.proofs.lemmas.Bool.{cond-true}
use Rattle.blk_plain.specs.declared.op.OpId.{OpId}
use Rattle.blk_plain.specs.declared.op.Outcome.{Outcome}
use Rattle.blk_plain.specs.declared.op.Outcome.TheVariants.{Good, Bad}
use Rattle.blk_disk.specs.Disk.{Rose}
use Rattle.blk_disk.specs.declared.disk.Disk.{Ghosts as DiskGhosts}
use Rattle.blk_disk.proofs.DeviceLaws.{tells_on-one}
use Rattle.lay_core.specs.declared.layout.Layout.{Ghosts as LayoutGhosts}
use Rattle.graph_mean.specs.Graph.{kind_at}
use Rattle.eng_cols.specs.declared.spot.Spot.{Spot}
use Rattle.eng_job.specs.declared.job.Work.{Work}
use Rattle.eng_job.specs.declared.job.Work.TheVariants.{Nothing, Read, Write, Sum}
use Rattle.eng_job.specs.declared.job.Job.{Job}
use Rattle.eng_world.specs.declared.item.Traced.{Traced}
use Rattle.eng_world.specs.declared.item.Traced.TheVariants as event
use Rattle.eng_world.specs.World.{Running, World}
use Rattle.eng_world.specs.Step.{Step}
use Rattle.eng_state.specs.declared.array.Array.{Array}
use Rattle.eng_state.specs.Bad.{CallBack}
use Rattle.eng_clients.specs.Desk.{desk_at, spot_at}
use Rattle.eng_ends.specs.EndLog.{LogEnds}
use Rattle.eng_state.specs.GoesOn.{GoesOn}
use Rattle.eng_state.specs.Homes.{device_in, slots_home}
use Rattle.eng_state.specs.Moves.{id_of}
use Rattle.eng_state.specs.Out.{CameBack, OthersStay}
use Rattle.eng_fails.specs.Returned.{is_bad_end, ends_bad, ended_by}
use Rattle.eng_fails.specs.Returned as returned
use Rattle.eng_parts.specs.Shelf.{Seen, seen_at, IsAway, has_failed, come_home}
use Rattle.eng_array.specs.Steady.{IsSteady}
use Rattle.eng_state.specs.Steps as steps
use Rattle.eng_array.specs.Tickets.{is_node, failed_at, faults_at, faults_in, devices_of, DevicesGoOn, IsBad, IsEndOf, Happens, GetsBack}
use Rattle.eng_array.proofs.Blaming.{StoodOn, step-blames}
use Rattle.eng_array.proofs.DevicesOn.{same-devices, came-devices}
use Rattle.eng_array.proofs.Happening.{happens, world-out, nodes-less}
use Rattle.eng_state.proofs.Homing.{home-here}
use Rattle.eng_array.proofs.OnSeats.{run-on-seats}
use Rattle.eng_array.proofs.OutNodes.{OneLess, OutAfter, node-here}
use Rattle.eng_array.proofs.Promised.{library-promises}
use Rattle.eng_state.proofs.Returning.{read-back, write-back}
use Rattle.eng_fails.proofs.ReturningBad.{read-call, write-call, is-call}
use Rattle.eng_state.proofs.Shown.{runs-shown}
use Rattle.eng_array.proofs.SteadyHome.{home-keeps}

not-both : {A : Type 0} (b : Bool) → b ≡ true → b ≡ false → A
not-both b p q = let z : true ≡ false = sym p ∙ q in absurd (let u : ⊥ = cc in u)

-- ## What ends

-- the end of a node is an end of it, good or bad
pub end-of : (b : Bool) (id : OpId) (n : ℕ) → IsEndOf (if b then event.Bad id n else event.Good id n) id.client n
end-of true id n = (refl, refl)
end-of false id n = (refl, refl)

bad-of : (b : Bool) (id : OpId) (n : ℕ) → IsBad (if b then event.Bad id n else event.Good id n) → b ≡ true
bad-of true id n bad = refl
bad-of false id n bad = absurd bad

less-of : (b : Bool) (id : OpId) (n : ℕ) (old new : World) → OutAfter (if b then event.Bad id n else event.Good id n) old new → OneLess id.client n old new
less-of true id n old new h = h
less-of false id n old new h = h

module _ {L D : Type 0} (lay : LayoutGhosts L) (disk : DiskGhosts D) (old new : Array L D) where
  -- ## A device came home

  module _ (at : ℕ) (left after : D) (came : new.devices.slots ≡ (come_home old.devices at after).slots) (away : IsAway old.devices at left) (d : ℕ) where
    seen-here : d ≡ at → (seen_at new.devices d ≡ Some (record { out = false; device = after })) × (seen_at old.devices d ≡ Some (record { out = true; device = left }))
    seen-here e = (
      ap (λ (l : List (Option (Seen D))). slice_index_or l d None) came ∙ (ap (λ j. seen_at (come_home old.devices at after) j) e ∙ home-here old.devices at _ after away),
      ap (λ j. seen_at old.devices j) e ∙ away,
    )

    came-rose : d ≡ at → Rose (disk.faults left) (disk.faults after) → Rose (faults_at lay disk old d) (faults_at lay disk new d)
    came-rose e rose =
        let s = seen-here e in
        subst (λ k. Rose (faults_at lay disk old d) k) (sym (ap (faults_in disk) s.0)) (subst (λ k. Rose k (disk.faults after)) (sym (ap (faults_in disk) s.1)) rose)

  -- ## A job came home

  module _ (job : Job D) (o : Outcome) (steady : IsSteady lay disk old) (back : CameBack disk lay old job o) (slots : new.devices.slots ≡ slots_home (device_in job.work) (spot_at (desk_at old.clients job.client) job.node) old.devices) where
    abbrev spot : Option Spot
    spot = spot_at (desk_at old.clients job.client) job.node

    -- without a device
    plain-slots : (w : Work D) → job.work ≡ w → device_in w ≡ None → new.devices.slots ≡ old.devices.slots
    plain-slots w is none = slots ∙ (ap (λ (v : Work D). slots_home (device_in v) spot old.devices) is ∙ ap (λ (x : Option D). slots_home x spot old.devices) none)

    call-slots : (w : Work D) (e : D) (at : Spot) → job.work ≡ w → device_in w ≡ Some e → spot ≡ Some at → new.devices.slots ≡ (come_home old.devices at.device e).slots
    call-slots w e at is has stood = slots ∙ (ap (λ (v : Work D). slots_home (device_in v) spot old.devices) is ∙ (ap (λ (x : Option D). slots_home x spot old.devices) has ∙ ap (λ (p : Option Spot). slots_home (Some e) p old.devices) stood))

    called-read : (e : D) (first : ℕ) (now : List ℕ) (count : ℕ) → job.work ≡ Read e first now count → CallBack lay disk old job.client job.node e first now count o
    called-read e first now count is = read-call lay disk old job.client job.node e first now count o (read-back lay disk old job o e first now count back is).0

    called-write : (e : D) (first : ℕ) (now : List ℕ) (count : ℕ) → job.work ≡ Write e first now count → CallBack lay disk old job.client job.node e first now count o
    called-write e first now count is = write-call lay disk old job.client job.node e first now count o (write-back lay disk old job o e first now count back is).0

    call-devices : (w : Work D) (e : D) (first : ℕ) (now : List ℕ) (count : ℕ) → job.work ≡ w → device_in w ≡ Some e → CallBack lay disk old job.client job.node e first now count o → DevicesGoOn disk (devices_of old) (devices_of new)
    call-devices w e first now count is has r = came-devices disk old.devices new.devices r.at.device r.left e (call-slots w e r.at is has r.spot) r.are_out.device r.calls.size r.calls.later (tells_on-one (disk.calls r.left) (disk.calls e) _ r.calls.told)

    home-devices : DevicesGoOn disk (devices_of old) (devices_of new)
    home-devices = by job.work refl
      where
        by : (w : Work D) → job.work ≡ w → DevicesGoOn disk (devices_of old) (devices_of new)
        by Nothing is = same-devices disk old.devices.slots new.devices.slots (plain-slots Nothing is refl)
        by (Sum to count) is = same-devices disk old.devices.slots new.devices.slots (plain-slots (Sum to count) is refl)
        by (Read e first now count) is = call-devices (Read e first now count) e first now count is refl (called-read e first now count is)
        by (Write e first now count) is = call-devices (Write e first now count) e first now count is refl (called-write e first now count is)

    -- ## Blame

    module _ (follows : steps.Follows lay disk old (ended_by old job o) new) (bad : IsBad (ended_by old job o)) (d : ℕ) (before : failed_at old d ≡ false) (failed : failed_at new d ≡ true) where
      abbrev was : World
      was = steady.reached.now

      abbrev id : OpId
      id = id_of old.clients job.client

      ended-bad : ends_bad old job o ≡ true
      ended-bad = bad-of (ends_bad old job o) id job.node bad

      stood : StoodOn was job.client job.node d
      stood =
          let f = follows was steady.reached.shows in
          step-blames (lay.shape old.layout) (steps.graphs_of old.graphs.items) was f.0
          (run-on-seats (lay.shape old.layout) steady.sound.layout (steps.graphs_of old.graphs.items) (library-promises old.graphs.items) steady.reached.opening steady.reached.events was steady.reached.is_opening steady.reached.run)
          id job.node d (steady.reached.shows.failed d ∙ before) (f.1.failed d ∙ failed)
          (subst (λ (e : Traced). Step (lay.shape old.layout) (steps.graphs_of old.graphs.items) e was f.0) (cond-true (ends_bad old job o) (event.Bad id job.node) (event.Good id job.node) ended-bad) f.2)

      there : spot ≡ Some stood.at
      there = let s = runs-shown disk old was steady.reached.shows job.client stood.was stood.runs in sym (ap (λ (r : Running). r.fired_at job.node) s.2) ∙ stood.fired_at

      -- the device refused the call
      call-rose : (w : Work D) (e : D) (first : ℕ) (now : List ℕ) (count : ℕ) → job.work ≡ w → device_in w ≡ Some e → o ≡ Bad → CallBack lay disk old job.client job.node e first now count o → Rose (faults_at lay disk old d) (faults_at lay disk new d)
      call-rose w e first now count is has said r =
          let same : Some r.at ≡ Some stood.at = sym r.spot ∙ there in
          let q : r.at ≡ stood.at = cc in
          came-rose r.at.device r.left e (call-slots w e r.at is has r.spot) r.are_out.device d (sym (ap (λ (a : Spot). a.device) q ∙ stood.is)) (r.calls.cause said)

      refused : o ≡ Bad → (w : Work D) → job.work ≡ w → Rose (faults_at lay disk old d) (faults_at lay disk new d)
      refused said Nothing is = absurd (is-call lay disk old job o back (inl said) (inl is))
      refused said (Sum to count) is = absurd (is-call lay disk old job o back (inl said) (inr (to, count, is)))
      refused said (Read e first now count) is = call-rose (Read e first now count) e first now count is refl said (called-read e first now count is)
      refused said (Write e first now count) is = call-rose (Write e first now count) e first now count is refl said (called-write e first now count is)

      -- a late write is one whose device had failed
      late : (w : Work D) (b : Bool) → is_bad_end Good w b ≡ true → b ≡ true
      late Nothing b h = not-both false h refl
      late (Read e first now count) b h = not-both false h refl
      late (Write e first now count) b h = h
      late (Sum to count) b h = not-both false h refl

      pub home-blame : Rose (faults_at lay disk old d) (faults_at lay disk new d)
      home-blame = by o refl
        where
          by : (p : Outcome) → o ≡ p → Rose (faults_at lay disk old d) (faults_at lay disk new d)
          by Bad said = refused said job.work refl
          by Good said =
              let bad_end : is_bad_end Good job.work (returned.failed_at old.devices spot) ≡ true = ap (λ (p : Outcome). is_bad_end p job.work (returned.failed_at old.devices spot)) (sym said) ∙ ended-bad in
              let had = late job.work (returned.failed_at old.devices spot) bad_end in
              let same : failed_at old d ≡ true = sym (ap (λ (a : Option Spot). returned.failed_at old.devices a) there ∙ ap (λ j. has_failed old.devices j) stood.is) ∙ had in
              not-both (failed_at old d) same before

    -- ## The event

    module _ (after : IsSteady lay disk new) (follows : steps.Follows lay disk old (ended_by old job o) new) (goes : GoesOn old new)
        (trace : LogEnds (lay.shape old.layout) old.cols.states (desk_at old.clients job.client) old.log (ended_by old job o) new.log (id_of old.clients job.client) (kind_at (desk_at old.clients job.client).run.graph job.node) old.lost) where
      pub home-happens : Happens lay disk (ended_by old job o) old new
      home-happens = happens lay disk old new (ended_by old job o) after (home-keeps lay disk old job o steady back new goes trace) follows goes.spare home-devices (λ bad d before failed. home-blame follows bad d before failed)

      pub home-gets : OthersStay disk lay job.client job.node old new → GetsBack lay disk job.client job.node old new
      home-gets stays = record {
        jobs = λ i out other. stays i (λ same. is-other i same other) out;
        nodes = nodes-less lay disk old new (ended_by old job o) steady follows job.client job.node (less-of (ends_bad old job o) (id_of old.clients job.client) job.node _ _ (world-out lay disk old new (ended_by old job o) steady follows));
      }
        where
          is-other : (i : Job D) → (i.client ≡ job.client) × (i.node ≡ job.node) → is_node i.client i.node job.client job.node ≡ 0 → ⊥
          is-other i same other =
              let one : is_node i.client i.node job.client job.node ≡ 1 = ap (λ c. is_node c i.node job.client job.node) same.0 ∙ (ap (λ n. is_node job.client n job.client job.node) same.1 ∙ node-here job.client job.node) in
              omega (arith, one, other)
