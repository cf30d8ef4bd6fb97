-- What an event makes of a core, and of a pass that comes without a job, from before the look that chose it on.
use Rattle.std.proofs.Common.{refl, [], arith, Some, None}
use Rattle.blk_plain.specs.declared.op.Outcome.{Outcome}
use Rattle.blk_disk.specs.declared.disk.Disk.{Ghosts as DiskGhosts}
use Rattle.lay_core.specs.declared.layout.Layout.{Ghosts as LayoutGhosts}
use Rattle.eng_job.specs.declared.job.Job.{Job}
use Rattle.eng_job.specs.Performed.{Performed}
use Rattle.eng_world.specs.declared.item.Traced.{Traced}
use Rattle.eng_events.specs.Opened.{NoneOut}
use Rattle.eng_array.specs.declared.calls.Core.{Core}
use Rattle.eng_array.specs.Steady.{IsSteady}
use Rattle.eng_array.specs.Tickets.{Happens, IsPlain, IsFiringOf, IsEndOf, KeepsJobs, Lends, GetsBack, Quiet, Turned, plain, fired}
use Rattle.eng_array.proofs.Quietly.{quiet-happens, quiet-keeps, quiet-lends}
use Rattle.eng_crew.specs.Laws.{plain_own, firing_own, later_itself, TurnsTo}
use Rattle.eng_crew.specs.Made.{IsMade}
use Rattle.eng_crew.proofs.Falling.{happens-falls, end-left}
use Rattle.eng_crew.proofs.Keeps.{come-home, none-shared, shared-none, turns-keep, turns-on, turns-once}

module _ {L D : Type 0} (lay : LayoutGhosts L) (disk : DiskGhosts D) where
  pub plain-made : (v m w : Core L D) (e : Traced) → IsPlain e → Happens lay disk e m.array w.array → KeepsJobs lay disk m.array w.array → Quiet lay disk v.array m.array → IsSteady lay disk v.array → IsMade lay disk v w None
  plain-made v m w e p h k q steady =
      let does = quiet-happens lay disk v.array w.array m.array q e h in
      let turned : Turned lay disk v.array None w.array None = plain e p refl does (quiet-keeps lay disk v.array w.array m.array q k) in
      record {
        turned = turns-once lay disk v w None None turned;
        steady = does.sound;
        falls = happens-falls lay disk e v.array w.array (plain_own e p) steady does;
      }

  pub fired-made : (v m w : Core L D) (j : Job D) (e : Traced) → IsFiringOf e j.client j.node → Happens lay disk e m.array w.array → Lends lay disk j m.array w.array → Quiet lay disk v.array m.array → IsSteady lay disk v.array → IsMade lay disk v w (Some j)
  fired-made v m w j e is h k q steady =
      let does = quiet-happens lay disk v.array w.array m.array q e h in
      let turned : Turned lay disk v.array None w.array (Some j) = fired j e is refl refl does (quiet-lends lay disk v.array w.array m.array q j k) in
      record {
        turned = turns-once lay disk v w None (Some j) turned;
        steady = does.sound;
        falls = happens-falls lay disk e v.array w.array (firing_own e j.client j.node is) steady does;
      }

  pub ended-made : (v x w : Core L D) (j done : Job D) (outcome : Outcome) (f : Traced) → IsMade lay disk v x (Some j) → Performed disk j done outcome → Happens lay disk f x.array w.array → IsEndOf f done.client done.node → GetsBack lay disk done.client done.node x.array w.array → IsMade lay disk v w None
  ended-made v x w j done outcome f made performed g end back =
      let second : Turned lay disk x.array (Some j) w.array None = come-home lay disk x.array w.array (Some j) j done outcome refl performed f g end back in
      let fell = made.falls in
      let left = end-left lay disk x.array w.array f done.client done.node end made.steady g in
      record {
        turned = turns-on lay disk v x w None (Some j) None made.turned (turns-once lay disk x w (Some j) None second);
        steady = g.sound;
        falls = omega arith;
      }

  -- where no job was out before, none is after
  pub made-home : (v w : Core L D) → TurnsTo lay disk v None w None → IsSteady lay disk v.array → NoneOut v.array.clients → NoneOut w.array.clients
  made-home v w turned steady home =
      shared-none lay disk w.array (turns-keep lay disk v v w None None turned [] [] (record { after = later_itself lay disk v.array; shared = none-shared lay disk v.array steady home })).shared
