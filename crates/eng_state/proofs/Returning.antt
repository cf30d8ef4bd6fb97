-- A job that came back, by its work.
use Rattle.std.proofs.Common.{◌≡◌, ◌∙◌, ℕ, ◌≤◌, List, [], subst, sym, ap, refl, Option, Some}
use Rattle.std.specs.Prelude.{vec_capacity}
use Rattle.blk_plain.specs.declared.op.Outcome.{Outcome}
use Rattle.blk_disk.specs.declared.disk.Disk.{Ghosts as DiskGhosts}
use Rattle.buf_pool.specs.Pool as pool
use Rattle.lay_core.specs.Layout.{Shape}
use Rattle.lay_core.specs.declared.layout.Layout.{Ghosts as LayoutGhosts}
use Rattle.graph_mean.specs.declared.graph.Node.{Node}
use Rattle.graph_mean.specs.declared.graph.Node.TheVariants.{Rd, Wr, Xor, Cmt, Trm}
use Rattle.graph_mean.specs.Graph.{View, kind_at, vertex_at}
use Rattle.eng_cols.specs.declared.spot.Spot.{Spot}
use Rattle.eng_job.specs.declared.job.Work.{Work}
use Rattle.eng_job.specs.declared.job.Work.TheVariants.{Nothing, Read, Write, Sum}
use Rattle.eng_job.specs.declared.job.Job.{Job}
use Rattle.eng_job.specs.declared.job.Source.{Source}
use Rattle.eng_job.specs.Performed.{PerformedWork, Reads, Writes}
use Rattle.eng_state.specs.declared.array.Array.{Array}
use Rattle.eng_parts.specs.Shelf.{Shelved}
use Rattle.eng_clients.specs.Desk.{desk_at, spot_at}
use Rattle.eng_state.specs.Out.{AreOut, IsWork, CameBack}
use Rattle.eng_state.specs.Back.{ReadBack, WriteBack}

module _ {D : Type 0} (disk : DiskGhosts D) (y : Shape) (s : Shelved D) (p : pool.PoolView) (g : View) (lease : List ℕ) (at : Option Spot) (named : List ℕ) (from : List Source) (e : D) (first : ℕ) (now : List ℕ) (count : ℕ) (o : Outcome) where
  -- a read that came back, before anything is said of its client
  pub record BackRead (kind : Node) : Type 0 where
    pub unit : ℕ
    pub buf : ℕ
    pub here : Spot
    pub left : D
    pub buffer : List ℕ
    pub is : kind ≡ Rd unit buf
    pub spot : at ≡ Some here
    pub are_out : AreOut disk y s p g lease here buf left first buffer count
    pub reads : Reads disk left e first buffer now count o
    pub none : from ≡ []

  read-of : (kind : Node) (left : D) (f : ℕ) (buffer : List ℕ) (n : ℕ) → IsWork disk y s p g lease at kind named (Read left f buffer n) from → f ≡ first → n ≡ count → Reads disk left e first buffer now count o → BackRead kind
  read-of (Rd i b) left f buffer n w ef en reads =
      let q : Read left f buffer n ≡ Read w.2 w.3 w.4 w.5 = w.6 in
      let ed : left ≡ w.2 = cc in let e1 : f ≡ w.3 = cc in let eb : buffer ≡ w.4 = cc in let ec : n ≡ w.5 = cc in
      record {
        unit = i;
        buf = b;
        here = w.0;
        left = left;
        buffer = buffer;
        is = refl;
        spot = w.1;
        are_out = subst (λ (m : ℕ). AreOut disk y s p g lease w.0 b left first buffer m) (sym ec ∙ en) (subst (λ (m : ℕ). AreOut disk y s p g lease w.0 b left m buffer w.5) (sym e1 ∙ ef) (subst (λ (l : List ℕ). AreOut disk y s p g lease w.0 b left w.3 l w.5) (sym eb) (subst (λ (x : D). AreOut disk y s p g lease w.0 b x w.3 w.4 w.5) (sym ed) w.7)));
        reads = reads;
        none = w.8;
      }
  read-of (Wr i b) left f buffer n w ef en reads = let z : Read left f buffer n ≡ Write w.2 w.3 w.4 w.5 = w.6 in absurd (let u : ⊥ = cc in u)
  read-of (Xor to) left f buffer n w ef en reads = let z : Read left f buffer n ≡ Sum w.0 w.1 = w.2 in absurd (let u : ⊥ = cc in u)
  read-of Cmt left f buffer n w ef en reads = let z : Read left f buffer n ≡ Nothing = w.0 in absurd (let u : ⊥ = cc in u)
  read-of Trm left f buffer n w ef en reads = let z : Read left f buffer n ≡ Nothing = w.0 in absurd (let u : ⊥ = cc in u)

  pub back-read : (kind : Node) (w v : Work D) → IsWork disk y s p g lease at kind named w from → PerformedWork disk from w v o → v ≡ Read e first now count → BackRead kind
  back-read kind Nothing v is done same = let z : Nothing ≡ Read e first now count = sym done.0 ∙ same in absurd (let u : ⊥ = cc in u)
  back-read kind (Write d f b n) v is done same = let z : Write done.0 f b n ≡ Read e first now count = sym done.1 ∙ same in absurd (let u : ⊥ = cc in u)
  back-read kind (Sum to n) v is done same = let z : Sum done.0 n ≡ Read e first now count = sym done.1 ∙ same in absurd (let u : ⊥ = cc in u)
  back-read kind (Read d f b n) v is done same =
      let z : Read done.0 f done.1 n ≡ Read e first now count = sym done.2 ∙ same in
      let ed : done.0 ≡ e = cc in let ef : f ≡ first = cc in let eb : done.1 ≡ now = cc in let en : n ≡ count = cc in
      read-of kind d f b n is ef en
      (subst (λ (m : ℕ). Reads disk d e first b now m o) en (subst (λ (l : List ℕ). Reads disk d e first b l n o) eb (subst (λ (m : ℕ). Reads disk d e m b done.1 n o) ef (subst (λ (x : D). Reads disk d x f b done.1 n o) ed done.3))))

  -- the same of a write, whose buffer came back as it left
  pub record BackWrite (kind : Node) : Type 0 where
    pub unit : ℕ
    pub buf : ℕ
    pub here : Spot
    pub left : D
    pub is : kind ≡ Wr unit buf
    pub spot : at ≡ Some here
    pub are_out : AreOut disk y s p g lease here buf left first now count
    pub writes : Writes disk left e first now count o
    pub none : from ≡ []

  write-of : (kind : Node) (left : D) (f : ℕ) (buffer : List ℕ) (n : ℕ) → IsWork disk y s p g lease at kind named (Write left f buffer n) from → f ≡ first → buffer ≡ now → n ≡ count → Writes disk left e first now count o → BackWrite kind
  write-of (Wr i b) left f buffer n w ef el en writes =
      let q : Write left f buffer n ≡ Write w.2 w.3 w.4 w.5 = w.6 in
      let ed : left ≡ w.2 = cc in let e1 : f ≡ w.3 = cc in let eb : buffer ≡ w.4 = cc in let ec : n ≡ w.5 = cc in
      record {
        unit = i;
        buf = b;
        here = w.0;
        left = left;
        is = refl;
        spot = w.1;
        are_out = subst (λ (m : ℕ). AreOut disk y s p g lease w.0 b left first now m) (sym ec ∙ en) (subst (λ (m : ℕ). AreOut disk y s p g lease w.0 b left m now w.5) (sym e1 ∙ ef) (subst (λ (l : List ℕ). AreOut disk y s p g lease w.0 b left w.3 l w.5) (sym eb ∙ el) (subst (λ (x : D). AreOut disk y s p g lease w.0 b x w.3 w.4 w.5) (sym ed) w.7)));
        writes = writes;
        none = w.8;
      }
  write-of (Rd i b) left f buffer n w ef el en writes = let z : Write left f buffer n ≡ Read w.2 w.3 w.4 w.5 = w.6 in absurd (let u : ⊥ = cc in u)
  write-of (Xor to) left f buffer n w ef el en writes = let z : Write left f buffer n ≡ Sum w.0 w.1 = w.2 in absurd (let u : ⊥ = cc in u)
  write-of Cmt left f buffer n w ef el en writes = let z : Write left f buffer n ≡ Nothing = w.0 in absurd (let u : ⊥ = cc in u)
  write-of Trm left f buffer n w ef el en writes = let z : Write left f buffer n ≡ Nothing = w.0 in absurd (let u : ⊥ = cc in u)

  pub back-write : (kind : Node) (w v : Work D) → IsWork disk y s p g lease at kind named w from → PerformedWork disk from w v o → v ≡ Write e first now count → BackWrite kind
  back-write kind Nothing v is done same = let z : Nothing ≡ Write e first now count = sym done.0 ∙ same in absurd (let u : ⊥ = cc in u)
  back-write kind (Read d f b n) v is done same = let z : Read done.0 f done.1 n ≡ Write e first now count = sym done.2 ∙ same in absurd (let u : ⊥ = cc in u)
  back-write kind (Sum to n) v is done same = let z : Sum done.0 n ≡ Write e first now count = sym done.1 ∙ same in absurd (let u : ⊥ = cc in u)
  back-write kind (Write d f b n) v is done same =
      let z : Write done.0 f b n ≡ Write e first now count = sym done.1 ∙ same in
      let ed : done.0 ≡ e = cc in let ef : f ≡ first = cc in let eb : b ≡ now = cc in let en : n ≡ count = cc in
      write-of kind d f b n is ef eb en
      (subst (λ (m : ℕ). Writes disk d e first now m o) en (subst (λ (l : List ℕ). Writes disk d e first l n o) eb (subst (λ (m : ℕ). Writes disk d e m b n o) ef (subst (λ (x : D). Writes disk d x f b n o) ed done.2))))

-- a job that came back with a read is a read that came back
pub read-back : {L D : Type 0} → (lay : LayoutGhosts L) (disk : DiskGhosts D) (core : Array L D) (job : Job D) (o : Outcome) (e : D) (first : ℕ) (now : List ℕ) (count : ℕ) → CameBack disk lay core job o → job.work ≡ Read e first now count
    → ReadBack lay disk core job.client job.node e first now count o × (job.sources.items ≡ []) × (2048 ≤ vec_capacity job.sources)
read-back lay disk core job o e first now count back is =
    let left = back.0 in let out = back.1.is in let done = back.2 in
    let d = desk_at core.clients left.client in
    let b = back-read disk (lay.shape core.layout) core.devices core.pool d.run.graph d.lease (spot_at d left.node) (vertex_at d.run.graph left.node).sources left.sources.items e first now count o (kind_at d.run.graph left.node) left.work job.work out.work done.work is in (
      subst (λ (c : ℕ). ReadBack lay disk core c job.node e first now count o) (sym done.client) (subst (λ (n : ℕ). ReadBack lay disk core left.client n e first now count o) (sym done.node) (record {
        unit = b.unit;
        buf = b.buf;
        at = b.here;
        left = b.left;
        buffer = b.buffer;
        out = out.out;
        kind = b.is;
        spot = b.spot;
        are_out = b.are_out;
        reads = b.reads;
      })),
      ap (λ v. v.items) done.sources ∙ b.none,
      subst (λ v. 2048 ≤ vec_capacity v) (sym done.sources) back.1.room,
    )

-- a job that came back with a write is a write that came back
pub write-back : {L D : Type 0} → (lay : LayoutGhosts L) (disk : DiskGhosts D) (core : Array L D) (job : Job D) (o : Outcome) (e : D) (first : ℕ) (now : List ℕ) (count : ℕ) → CameBack disk lay core job o → job.work ≡ Write e first now count
    → WriteBack lay disk core job.client job.node e first now count o × (job.sources.items ≡ []) × (2048 ≤ vec_capacity job.sources)
write-back lay disk core job o e first now count back is =
    let left = back.0 in let out = back.1.is in let done = back.2 in
    let d = desk_at core.clients left.client in
    let b = back-write disk (lay.shape core.layout) core.devices core.pool d.run.graph d.lease (spot_at d left.node) (vertex_at d.run.graph left.node).sources left.sources.items e first now count o (kind_at d.run.graph left.node) left.work job.work out.work done.work is in (
      subst (λ (c : ℕ). WriteBack lay disk core c job.node e first now count o) (sym done.client) (subst (λ (n : ℕ). WriteBack lay disk core left.client n e first now count o) (sym done.node) (record {
        unit = b.unit;
        buf = b.buf;
        at = b.here;
        left = b.left;
        out = out.out;
        kind = b.is;
        spot = b.spot;
        are_out = b.are_out;
        writes = b.writes;
      })),
      ap (λ v. v.items) done.sources ∙ b.none,
      subst (λ v. 2048 ≤ vec_capacity v) (sym done.sources) back.1.room,
    )
