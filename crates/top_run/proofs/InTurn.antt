-- A run of clients that are apart means what they mean one after another.
use Rattle.std.proofs.Common.{◌≡◌, ℕ, ◌≤◌, refl, List, Option, None}
use Rattle.blk_disk.specs.declared.disk.Disk.{Ghosts}
use Rattle.lay_core.specs.Layout.{blocks_in}
use Rattle.raid_script.specs.Drawn.{AreApart}
use Rattle.raid_script.specs.Summary.{all_sum}
use Rattle.top_run.specs.Work.{Work, Service}
use Rattle.top_run.specs.Ran.{RanPlain, Ran}
use Rattle.top_run.specs.InTurn.{SweptInTurn}
use Rattle.top_run.proofs.InTurnMeans as means
use Rattle.top_run.proofs.InTurnSummary as sums

pub runs-in-turn : {D : Type 0} (g : Ghosts D) (a : Work) (taken back : List (Option D)) (s : Service) (r : Ran g a taken s back) (alone : a.start ≡ None) (count ops wide blocks : ℕ)
    → AreApart count ops wide blocks a.clients → blocks ≤ blocks_in a.layout → s.ending.lost ≡ None → SweptInTurn g a taken s back r.start.blocks
runs-in-turn g a taken back s r alone count ops wide blocks given within none = record {
  turn = means.turn g a taken s back r alone count ops wide blocks given within none;
  asked = means.asked g a taken s back r alone count ops wide blocks given within none;
  replied = means.replied g a taken s back r alone count ops wide blocks given within none;
  left = means.left g a taken s back r alone count ops wide blocks given within none;
  read = means.read g a taken s back r alone count ops wide blocks given within none;
  counts = (all_sum s.clients s.replies s.sectors, sums.counts g a taken s back r alone count ops wide blocks given within none (all_sum s.clients s.replies s.sectors) refl);
  summary = λ tells sync. sums.summary g a taken s back r alone count ops wide blocks given within none tells sync;
}

-- so does one over an array without labels
pub swept-in-turn : {D : Type 0} (g : Ghosts D) (a : Work) (taken back : List (Option D)) (s : Service) (r : RanPlain g a taken s back) (count ops wide blocks : ℕ)
    → AreApart count ops wide blocks a.clients → blocks ≤ blocks_in a.layout → s.ending.lost ≡ None → SweptInTurn g a taken s back r.run.start.blocks
swept-in-turn g a taken back s r = runs-in-turn g a taken back s r.run r.none.0
