-- A job that came back with an exclusive-or.
use Rattle.std.proofs.Common.{◌≡◌, ◌∙◌, ℕ, ◌≤◌, List, subst, sym, ap, refl, Option}
use Rattle.std.specs.Prelude.{vec_capacity}
use Rattle.blk_plain.specs.declared.op.Outcome.{Outcome}
use Rattle.blk_disk.specs.declared.disk.Disk.{Ghosts as DiskGhosts}
use Rattle.buf_pool.specs.Pool as pool
use Rattle.lay_core.specs.Layout.{Shape}
use Rattle.lay_core.specs.declared.layout.Layout.{Ghosts as LayoutGhosts}
use Rattle.graph_mean.specs.declared.graph.Node.{Node}
use Rattle.graph_mean.specs.declared.graph.Node.TheVariants.{Rd, Wr, Xor, Cmt, Trm}
use Rattle.graph_mean.specs.Graph.{View, kind_at, vertex_at}
use Rattle.eng_cols.specs.declared.spot.Spot.{Spot}
use Rattle.eng_job.specs.declared.job.Work.{Work}
use Rattle.eng_job.specs.declared.job.Work.TheVariants.{Nothing, Read, Write, Sum}
use Rattle.eng_job.specs.declared.job.Job.{Job}
use Rattle.eng_job.specs.declared.job.Source.{Source}
use Rattle.eng_job.specs.Performed.{PerformedWork, Sums}
use Rattle.eng_state.specs.declared.array.Array.{Array}
use Rattle.eng_parts.specs.Shelf.{Shelved}
use Rattle.eng_clients.specs.Desk.{desk_at, spot_at}
use Rattle.eng_state.specs.Out.{AreSources, IsWork, CameBack}
use Rattle.eng_ends.specs.Summed.{SumBack}

module _ {D : Type 0} (disk : DiskGhosts D) (y : Shape) (s : Shelved D) (p : pool.PoolView) (g : View) (lease : List ℕ) (at : Option Spot) (named : List ℕ) (from : List Source) (now : List ℕ) (count : ℕ) (o : Outcome) where
  -- an exclusive-or that came back, before anything is said of its client
  pub record BackSum (kind : Node) : Type 0 where
    pub to : ℕ
    pub target : List ℕ
    pub is : kind ≡ Xor to
    pub are_sources : AreSources disk p g lease to named target from count
    pub sums : Sums target now from count o

  sum-of : (kind : Node) (target : List ℕ) (n : ℕ) → IsWork disk y s p g lease at kind named (Sum target n) from → n ≡ count → Sums target now from count o → BackSum kind
  sum-of (Xor to) target n w en sums =
      let q : Sum target n ≡ Sum w.0 w.1 = w.2 in
      let et : target ≡ w.0 = cc in let ec : n ≡ w.1 = cc in
      record {
        to = to;
        target = target;
        is = refl;
        are_sources = subst (λ (m : ℕ). AreSources disk p g lease to named target from m) (sym ec ∙ en) (subst (λ (l : List ℕ). AreSources disk p g lease to named l from w.1) (sym et) w.3);
        sums = sums;
      }
  sum-of (Rd i b) target n w en sums = let z : Sum target n ≡ Read w.2 w.3 w.4 w.5 = w.6 in absurd (let u : ⊥ = cc in u)
  sum-of (Wr i b) target n w en sums = let z : Sum target n ≡ Write w.2 w.3 w.4 w.5 = w.6 in absurd (let u : ⊥ = cc in u)
  sum-of Cmt target n w en sums = let z : Sum target n ≡ Nothing = w.0 in absurd (let u : ⊥ = cc in u)
  sum-of Trm target n w en sums = let z : Sum target n ≡ Nothing = w.0 in absurd (let u : ⊥ = cc in u)

  pub back-sum : (kind : Node) (w v : Work D) → IsWork disk y s p g lease at kind named w from → PerformedWork disk from w v o → v ≡ Sum now count → BackSum kind
  back-sum kind Nothing v is done same = let z : Nothing ≡ Sum now count = sym done.0 ∙ same in absurd (let u : ⊥ = cc in u)
  back-sum kind (Read d f b n) v is done same = let z : Read done.0 f done.1 n ≡ Sum now count = sym done.2 ∙ same in absurd (let u : ⊥ = cc in u)
  back-sum kind (Write d f b n) v is done same = let z : Write done.0 f b n ≡ Sum now count = sym done.1 ∙ same in absurd (let u : ⊥ = cc in u)
  back-sum kind (Sum to n) v is done same =
      let z : Sum done.0 n ≡ Sum now count = sym done.1 ∙ same in
      let eb : done.0 ≡ now = cc in let en : n ≡ count = cc in
      sum-of kind to n is en (subst (λ (m : ℕ). Sums to now from m o) en (subst (λ (l : List ℕ). Sums to l from n o) eb done.2))

-- a job that came back with an exclusive-or is one that came back
pub sum-back : {L D : Type 0} → (lay : LayoutGhosts L) (disk : DiskGhosts D) (core : Array L D) (job : Job D) (o : Outcome) (now : List ℕ) (count : ℕ) → CameBack disk lay core job o → job.work ≡ Sum now count
    → SumBack disk core job.client job.node now job.sources.items count o × (2048 ≤ vec_capacity job.sources)
sum-back lay disk core job o now count back is =
    let left = back.0 in let out = back.1.is in let done = back.2 in
    let d = desk_at core.clients left.client in
    let b = back-sum disk (lay.shape core.layout) core.devices core.pool d.run.graph d.lease (spot_at d left.node) (vertex_at d.run.graph left.node).sources left.sources.items now count o (kind_at d.run.graph left.node) left.work job.work out.work done.work is in
    let same = ap (λ v. v.items) done.sources in (
      subst (λ (c : ℕ). SumBack disk core c job.node now job.sources.items count o) (sym done.client) (subst (λ (n : ℕ). SumBack disk core left.client n now job.sources.items count o) (sym done.node) (record {
        to = b.to;
        target = b.target;
        out = out.out;
        kind = b.is;
        are_sources = subst (λ (l : List Source). AreSources disk core.pool d.run.graph d.lease b.to (vertex_at d.run.graph left.node).sources b.target l count) (sym same) b.are_sources;
        sums = subst (λ (l : List Source). Sums b.target now l count o) (sym same) b.sums;
      })),
      subst (λ v. 2048 ≤ vec_capacity v) (sym done.sources) back.1.room,
    )
