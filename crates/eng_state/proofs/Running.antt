-- What is so of the nodes of an operation that runs.
use Rattle.std.proofs.Common.{◌≡◌, ℕ, ◌<◌, ◌≤◌, List, length, sym, ap, ◌∙◌, arith, inl, inr}
use Rattle.std.proofs.lemmas.List.{get_or_past}
use Rattle.std.proofs.lemmas.Bool.{cases_order}
use Rattle.lay_core.specs.Layout.{Shape}
use Rattle.buf_pool.specs.Pool as pool
use Rattle.graph_mean.specs.declared.graph.Node.TheVariants.{Rd, Wr}
use Rattle.graph_mean.specs.Graph.{Held, kind_at}
use Rattle.graph_mean.specs.Task.{missing_of}
use Rattle.graph_mean.specs.Ordered.{IsOrdered, IsBuf}
use Rattle.eng_clients.specs.declared.stage.Stage.TheVariants.{Nothing, Runs}
use Rattle.eng_clients.specs.Desk.{Desk, desk_at, no_desk}
use Rattle.eng_state.specs.Sound.{RunsWell, AreWell}

-- a client whose operation runs is one of them
pub runs_below : (y : Shape) (graphs : List Held) (p : pool.PoolView) (desks : List Desk) (c : ℕ) → AreWell y graphs p desks → (desk_at desks c).stage ≡ Runs → c < 17
runs_below y graphs p desks c well runs = elim (cases_order c 17) [
  | inl e ↦ past (omega (arith, e))
  | inr (inl below) ↦ below
  | inr (inr over) ↦ past (omega (arith, over))
]
  where
    past : 17 ≤ c → c < 17
    past over = let all = well.all in let z : Nothing ≡ Runs = sym (ap (λ (d : Desk). d.stage) (get_or_past desks c no_desk (omega (arith, all, over)))) ∙ runs in cc

module _ (y : Shape) (graphs : List Held) (p : pool.PoolView) (d : Desk) (w : RunsWell y graphs p d) where
  ordered : IsOrdered d.run.graph d.task (missing_of d.missing) w.accepted.0 w.accepted.1
  ordered = w.accepted.2

  pub read_buf : (n i b : ℕ) → n < length d.run.graph.nodes → kind_at d.run.graph n ≡ Rd i b → IsBuf d.run.graph d.task b
  read_buf n i b below is = (ordered.read n i b below is).1

  pub read_unit : (n i b : ℕ) → n < length d.run.graph.nodes → kind_at d.run.graph n ≡ Rd i b → i < y.width
  read_unit n i b below is = let same = w.task.width in let h = (ordered.read n i b below is).0 in omega (arith, same, h)

  pub write_buf : (n i b : ℕ) → n < length d.run.graph.nodes → kind_at d.run.graph n ≡ Wr i b → IsBuf d.run.graph d.task b
  write_buf n i b below is = (ordered.write n i b below is).1

  pub write_unit : (n i b : ℕ) → n < length d.run.graph.nodes → kind_at d.run.graph n ≡ Wr i b → i < y.width
  write_unit n i b below is = let same = w.task.width in let h = (ordered.write n i b below is).0 in omega (arith, same, h)
