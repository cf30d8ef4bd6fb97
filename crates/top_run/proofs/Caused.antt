-- What replies and a loss come from, by the events of the run alone.
use Rattle.std.proofs.Common.{◌≡◌, ◌<◌, List, [], length, Option, Some, sym, subst}
use Rattle.blk_disk.specs.declared.disk.Disk.{Ghosts}
use Rattle.graph_mean.specs.Graph.{View, kind_at}
use Rattle.graph_mean.specs.Ordered.{Accepted}
use Rattle.graph_mean.specs.Steps.{IsCall}
use Rattle.eng_cols.specs.declared.spot.Loss.{Loss}
use Rattle.eng_world.specs.Causes.{HaveCauses, IsLossOf}
use Rattle.eng_world.specs.Planning.{Graphs, Promises}
use Rattle.eng_world.proofs.Answered.{run-causes}
use Rattle.eng_world.proofs.Losses.{loss-of}
use Rattle.eng_array.proofs.Promised.{library-promises}
use Rattle.top_run.specs.Work.{Work, Service}
use Rattle.top_run.specs.Ran.{Ran}
use Rattle.top_run.specs.Steps.{AreGraphsOf}

-- graphs that are the library's promise what those do
promise : (views : List View) (graphs : Graphs) → AreGraphsOf views graphs → Promises graphs
promise views graphs are = record {
  accepted = λ t missing task can. subst (λ (v : View). Accepted v t missing) (sym (are.drawn t missing)) ((library-promises []).accepted t missing task can);
  quiet = λ t missing unit n kind none below call.
      (library-promises []).quiet t missing unit n kind none
      (subst (λ (v : View). n < length v.nodes) (are.drawn t missing) below) (subst (λ (v : View). IsCall (kind_at v n)) (are.drawn t missing) call);
}

module _ {D : Type 0} (g : Ghosts D) (a : Work) (taken back : List (Option D)) (s : Service) (ran : Ran g a taken s back) where
  pub replies-caused : HaveCauses a.layout ran.graphs ran.start ran.events ran.now
  replies-caused = run-causes a.layout ran.graphs ran.start ran.law (promise a.graphs ran.graphs (record { file = ran.rests.file; drawn = ran.rests.drawn })) ran.opens.opening ran.events ran.now ran.rests.run

  pub loss-caused : (loss : Loss) → ran.now.lost ≡ Some loss → IsLossOf a.layout ran.graphs ran.start ran.events ran.now loss
  loss-caused loss is = loss-of a.layout ran.graphs ran.start ran.events ran.now ran.opens.opening ran.rests.run loss is
