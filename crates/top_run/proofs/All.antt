-- All that is said of a run.
use Rattle.std.proofs.Common.{◌≡◌, List, length, Option, None, refl, ap, sym, ◌∙◌, subst}
use Rattle.blk_disk.specs.declared.disk.Disk.{Ghosts as DiskGhosts}
use Rattle.lay_core.specs.Layout.{IsLayout}
use Rattle.lay_core.specs.declared.layout.Layout.{Ghosts as LayoutGhosts}
use Rattle.eng_events.specs.Opened.{IsSetup}
use Rattle.eng_parts.specs.declared.setup.Setup.{Setup}
use Rattle.eng_parts.specs.declared.setup.Closed.{Closed}
use Rattle.raid_script.specs.Replies.{StandFor}
use Rattle.eng_array.specs.declared.start.Start.{Start}
use Rattle.top_serve.specs.Setups.{IsFew, graphs_in}
use Rattle.top_serve.specs.Served as served
use Rattle.top_run.specs.Work.{Service}
use Rattle.top_run.specs.Works.{work_of}
use Rattle.top_run.specs.Ends.{RunIsEnded, EndsSo}
use Rattle.top_run.specs.Ran.{Ran, RanPlain, Rests, Tells}
use Rattle.top_run.specs.Steps.{LeavesSettled}
use Rattle.top_run.proofs.FromServed.{opens-from, rests-from, tells-from, stands-from}
use Rattle.top_run.proofs.Finishing.{ends-so, leaves}
use Rattle.top_run.proofs.AtEnd.{columns-end, ends-kept}
use Rattle.top_run.proofs.Meaning.{means}
use Rattle.top_run.proofs.Causing.{causes}
use Rattle.top_run.proofs.Columns.{NoneFilling}

-- The run of what ended so, whatever its end has called and written into first sectors.
module _ {L D : Type 0} (lay : LayoutGhosts L) (disk : DiskGhosts D) (setup : Setup L D) (how : Option Start) (closed : Closed L D) (given : IsSetup lay disk setup) (few : IsFew setup) (s : served.IsServed lay disk setup how closed) (v : Service) (back : List (Option D)) (e : EndsSo lay closed disk v back) where
  module _ (law : IsLayout (lay.shape setup.layout)) where
    pub runs : Ran disk (work_of lay setup how) setup.devices.items v back
    runs = record {
      graphs = graphs_in setup;
      start = s.start;
      events = s.events;
      now = s.now;
      law = law;
      opens = opens-from lay disk setup how closed few.clients s v.line v.ending;
      rests = subst (λ u. Rests disk (work_of lay setup how) setup.devices.items u (graphs_in setup) s.start s.events s.now) (sym e.told) (rests-from lay disk setup how closed few.clients s v.line v.ending);
      tells = subst (λ u. Tells disk (work_of lay setup how) setup.devices.items u s.events s.now) (sym e.told) (tells-from lay disk setup how closed few.clients s v.line v.ending);
      means = means lay disk setup how closed given s v back e;
      ends = columns-end lay disk setup how closed given s v back e;
      causes = causes lay disk setup how closed given s v back e;
    }

    -- its last world is that of what was served
    pub runs-now : runs.now ≡ s.now
    unfolding runs
    runs-now = refl

    -- its graphs are those of the setup
    pub runs-graphs : runs.graphs ≡ graphs_in setup
    unfolding runs
    runs-graphs = refl

    -- and its columns as the core was closed are those that came back
    pub runs-kept : runs.ends.kept ≡ closed.columns.items
    unfolding runs
    runs-kept = ends-kept lay disk setup how closed given s v back e

  pub runs-stand : StandFor v.clients v.replies v.sectors
  runs-stand = subst (λ (u : Service). StandFor u.clients u.replies u.sectors) (sym e.told) (stands-from lay disk setup how closed few.clients s v.line v.ending)

-- ## Of an array without labels

module _ {L D : Type 0} (lay : LayoutGhosts L) (disk : DiskGhosts D) (setup : Setup L D) (closed : Closed L D) (given : IsSetup lay disk setup) (few : IsFew setup) (s : served.IsServed lay disk setup None closed) (none : NoneFilling closed.columns.items) (v : Service) (back : List (Option D)) (e : RunIsEnded lay closed disk v back) where
  abbrev so : EndsSo lay closed disk v back
  so = ends-so lay closed disk v back none e

  law : IsLayout (lay.shape setup.layout)
  law = subst (λ (l : L). IsLayout (lay.shape l)) s.tells.layout e.law

  abbrev run : Ran disk (work_of lay setup None) setup.devices.items v back
  run = runs lay disk setup None closed given few s v back so law

  left : LeavesSettled disk (work_of lay setup None) setup.devices.items v back run.ends.kept run.now
  left =
      subst (λ w. LeavesSettled disk (work_of lay setup None) setup.devices.items v back run.ends.kept w) (sym (runs-now lay disk setup None closed given few s v back so law))
      (subst (λ kept. LeavesSettled disk (work_of lay setup None) setup.devices.items v back kept s.now) (sym (runs-kept lay disk setup None closed given few s v back so law)) (leaves lay disk setup closed given s none v back e))

  pub has-run : RanPlain disk (work_of lay setup None) setup.devices.items v back
  has-run = record {
    run = run;
    contents = left.contents;
    once = left.once;
    others = left.others;
    settled = left.settled;
    frame = left.frame;
    none = (refl, ap (λ (u : Service). u.line) e.told);
  }

  pub stands : StandFor v.clients v.replies v.sectors
  stands = runs-stand lay disk setup None closed given few s v back so

  pub as-many : length back ≡ length setup.devices.items
  as-many = e.settled.frame.count ∙ s.leaves.frame.count
