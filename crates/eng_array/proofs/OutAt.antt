-- Which nodes are out, as a number: 1 for each that is.
use Rattle.std.proofs.Common.{◌≡◌, ◌≤◌, ◌<◌, inl, inr, ℕ, true, length, refl, ◌∙◌, ap, arith}
use Rattle.std.proofs.lemmas.Bool.{cases_eq}
use Rattle.blk_disk.specs.declared.disk.Disk.{Ghosts as DiskGhosts}
use Rattle.lay_core.specs.declared.layout.Layout.{Ghosts as LayoutGhosts}
use Rattle.graph_mean.specs.declared.step.Status.{Status}
use Rattle.graph_mean.specs.declared.step.Status.TheVariants as status
use Rattle.eng_one.specs.Control.{mark_of}
use Rattle.eng_world.specs.Nodes.{MakesOrUses}
use Rattle.eng_clients.specs.declared.stage.Stage.{Stage}
use Rattle.eng_clients.specs.declared.stage.Stage.TheVariants.{Nothing, Waits, Runs}
use Rattle.eng_state.specs.declared.array.Array.{Array}
use Rattle.eng_clients.specs.Desk.{Desk, desk_at}
use Rattle.eng_events.specs.Opened.{NoneOut}
use Rattle.eng_clients.specs.Seats.{seat_of}
use Rattle.eng_parts.specs.Shelf.{IsAway}
use Rattle.eng_state.specs.Sound.{IsOutOf, HasAway}
use Rattle.eng_array.specs.Steady.{IsSteady}
use Rattle.eng_array.specs.Tickets.{out_by, out_in, out_at}

out-once-by : (t : Stage) (m : Status) → out_by t m ≤ 1
out-once-by Nothing m = omega arith
out-once-by Waits m = omega arith
out-once-by Runs status.Idle = omega arith
out-once-by Runs status.Out = omega arith
out-once-by Runs status.Good = omega arith
out-once-by Runs status.Bad = omega arith
out-once-by Runs status.Skipped = omega arith

is-out-by : (t : Stage) (m : Status) → out_by t m ≡ 1 → (t ≡ Runs) × (m ≡ status.Out)
is-out-by Nothing m h = absurd (omega (arith, h))
is-out-by Waits m h = absurd (omega (arith, h))
is-out-by Runs status.Idle h = absurd (omega (arith, h))
is-out-by Runs status.Out h = (refl, refl)
is-out-by Runs status.Good h = absurd (omega (arith, h))
is-out-by Runs status.Bad h = absurd (omega (arith, h))
is-out-by Runs status.Skipped h = absurd (omega (arith, h))

pub out-of : (d : Desk) (n : ℕ) → IsOutOf d n → out_in d n ≡ 1
out-of d n out = ap (λ t. out_by t (mark_of d.run n)) out.runs ∙ ap (out_by Runs) out.mark

pub is-out : (d : Desk) (n : ℕ) → out_in d n ≡ 1 → IsOutOf d n
is-out d n h = let s = is-out-by d.stage (mark_of d.run n) h in record { runs = s.0; mark = s.1 }

module _ {L D : Type 0} (core : Array L D) where
  -- a node is out once
  pub out-once : (c n : ℕ) → out_at core c n ≤ 1
  out-once c n = out-once-by (desk_at core.clients c).stage (mark_of (desk_at core.clients c).run n)

  -- where none is out each number is 0
  pub none-at : NoneOut core.clients → (c n : ℕ) → out_at core c n ≡ 0
  none-at none c n = elim (cases_eq (out_at core c n) 0) [
    | inl e ↦ e
    | inr ne ↦ absurd (none c n (is-out (desk_at core.clients c) n (let few = out-once c n in omega (arith, few, ne))))
  ]

  pub at-none : ((c n : ℕ) → out_at core c n ≡ 0) → NoneOut core.clients
  at-none zeros c n out = let a = out-of (desk_at core.clients c) n out in let b = zeros c n in omega (arith, a, b)

  -- ## What a node has with it

  module _ (lay : LayoutGhosts L) (disk : DiskGhosts D) (steady : IsSteady lay disk core) where
    pub device-with : (d : ℕ) (x : D) → IsAway core.devices d x → (c : ℕ) × (n : ℕ) × (out_at core c n ≡ 1) × HasAway core.clients c n d × ((k m : ℕ) → HasAway core.clients k m d → (k ≡ c) × (m ≡ n))
    device-with d x away =
        let h = steady.sound.devices.held d x away in
        (h.0, h.1, out-of (desk_at core.clients h.0) h.1 h.2.out, h.2, λ k m other. steady.sound.devices.one k h.0 m h.1 d other h.2)

    pub buffer-with : (c b : ℕ) → (desk_at core.clients c).stage ≡ Runs → b < length (desk_at core.clients c).lease → (seat_of core.pool (desk_at core.clients c) b).out ≡ true
        → (n : ℕ) × (out_at core c n ≡ 1) × MakesOrUses (desk_at core.clients c).run.graph n b × ((m : ℕ) → out_at core c m ≡ 1 → MakesOrUses (desk_at core.clients c).run.graph m b → m ≡ n)
    buffer-with c b runs below out =
        let h = steady.sound.seats.held c b runs below out in
        (h.0, out-of (desk_at core.clients c) h.0 h.1, h.2, λ m one takes. steady.sound.seats.one c m h.0 b (is-out (desk_at core.clients c) m one) h.1 takes h.2)
