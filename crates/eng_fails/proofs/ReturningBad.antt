-- A job that came back and ends bad is a call that came back.
use Rattle.std.proofs.Common.{◌≡◌, ◌∙◌, ℕ, ◌⊎◌, List, sym, ap, inl, inr, refl, true, false}
use Rattle.blk_plain.specs.declared.op.Outcome.{Outcome}
use Rattle.blk_disk.specs.declared.disk.Disk.{Ghosts as DiskGhosts}
use Rattle.lay_core.specs.declared.layout.Layout.{Ghosts as LayoutGhosts}
use Rattle.blk_plain.specs.declared.op.Outcome.TheVariants.{Good, Bad}
use Rattle.eng_job.specs.declared.job.Work.{Work}
use Rattle.eng_job.specs.declared.job.Work.TheVariants.{Nothing, Read, Write, Sum}
use Rattle.eng_job.specs.declared.job.Job.{Job}
use Rattle.eng_job.specs.declared.job.Source.{Source}
use Rattle.eng_job.specs.Performed.{PerformedWork, ReadsThere, WritesThere}
use Rattle.eng_state.specs.declared.array.Array.{Array}
use Rattle.eng_state.specs.Back.{ReadBack, WriteBack}
use Rattle.eng_clients.specs.Desk.{desk_at, spot_at}
use Rattle.eng_state.specs.Bad.{CallBack}
use Rattle.eng_state.specs.Out.{CameBack}
use Rattle.eng_fails.specs.Called.{CallCameBad}
use Rattle.eng_fails.specs.Returned.{CameBackBad, JobCameBad, failed_at, is_bad_end, ends_bad}
use Rattle.eng_state.proofs.Returning.{read-back, write-back}

module _ {L D : Type 0} (lay : LayoutGhosts L) (disk : DiskGhosts D) (core : Array L D) (c n : ℕ) (after : D) (first : ℕ) (now : List ℕ) (count : ℕ) (o : Outcome) where
  pub read-call : ReadBack lay disk core c n after first now count o → CallBack lay disk core c n after first now count o
  read-call r =
      let there : ReadsThere disk r.left after first r.buffer now count o = r.reads.there r.are_out.room in
      record {
        unit = r.unit;
        buf = r.buf;
        at = r.at;
        left = r.left;
        buffer = r.buffer;
        writes = false;
        out = r.out;
        kind = r.kind;
        spot = r.spot;
        are_out = r.are_out;
        calls = there.calls;
        long = there.long;
        same_buffer = λ e. let z : false ≡ true = e in absurd (let u : ⊥ = cc in u);
        kept = λ told s h. there.same told s;
      }

  pub write-call : WriteBack lay disk core c n after first now count o → CallBack lay disk core c n after first now count o
  write-call r =
      let there : WritesThere disk r.left after first now count o = r.writes.there r.are_out.room in
      record {
        unit = r.unit;
        buf = r.buf;
        at = r.at;
        left = r.left;
        buffer = now;
        writes = true;
        out = r.out;
        kind = r.kind;
        spot = r.spot;
        are_out = r.are_out;
        calls = there.calls;
        long = refl;
        same_buffer = λ e. refl;
        kept = λ told s h. elim (h refl) [ inl lo ↦ there.before told s lo | inr hi ↦ there.behind told s hi ];
      }

-- what calls no device can't end bad
nothing-good : {D : Type 0} → (disk : DiskGhosts D) (from : List Source) (w v : Work D) (o : Outcome) → PerformedWork disk from w v o → v ≡ Nothing → o ≡ Good
nothing-good disk from Nothing v o done same = done.1
nothing-good disk from (Read d f b n) v o done same = let z : Read done.0 f done.1 n ≡ Nothing = sym done.2 ∙ same in absurd (let u : ⊥ = cc in u)
nothing-good disk from (Write d f b n) v o done same = let z : Write done.0 f b n ≡ Nothing = sym done.1 ∙ same in absurd (let u : ⊥ = cc in u)
nothing-good disk from (Sum to n) v o done same = let z : Sum done.0 n ≡ Nothing = sym done.1 ∙ same in absurd (let u : ⊥ = cc in u)

sum-good : {D : Type 0} → (disk : DiskGhosts D) (from : List Source) (w v : Work D) (o : Outcome) (now : List ℕ) (count : ℕ) → PerformedWork disk from w v o → v ≡ Sum now count → o ≡ Good
sum-good disk from Nothing v o now count done same = done.1
sum-good disk from (Read d f b n) v o now count done same = let z : Read done.0 f done.1 n ≡ Sum now count = sym done.2 ∙ same in absurd (let u : ⊥ = cc in u)
sum-good disk from (Write d f b n) v o now count done same = let z : Write done.0 f b n ≡ Sum now count = sym done.1 ∙ same in absurd (let u : ⊥ = cc in u)
sum-good disk from (Sum to n) v o now count done same = done.2.good

module _ {L D : Type 0} (lay : LayoutGhosts L) (disk : DiskGhosts D) (core : Array L D) (job : Job D) (r : JobCameBad lay disk core job) where
  pub read-bad : (e : D) (first : ℕ) (now : List ℕ) (count : ℕ) → job.work ≡ Read e first now count → CallCameBad lay disk core job.client job.node e now
  read-bad e first now count is = record {
    came = record {
      first = first;
      count = count;
      outcome = r.outcome;
      back = read-call lay disk core job.client job.node e first now count r.outcome (read-back lay disk core job r.outcome e first now count r.back is).0;
    };
    ends = elim r.bad [
      | inl b ↦ inl b
      | inr w ↦ let z : Read e first now count ≡ Write w.0.0 w.0.1 w.0.2 w.0.3 = sym is ∙ w.0.4 in absurd (let u : ⊥ = cc in u)
    ];
  }

  pub write-bad : (e : D) (first : ℕ) (now : List ℕ) (count : ℕ) → job.work ≡ Write e first now count → CallCameBad lay disk core job.client job.node e now
  unfolding write-call
  write-bad e first now count is =
      let b = (write-back lay disk core job r.outcome e first now count r.back is).0 in
      record {
        came = record { first = first; count = count; outcome = r.outcome; back = write-call lay disk core job.client job.node e first now count r.outcome b };
        ends = elim r.bad [ inl w ↦ inl w | inr w ↦ inr (refl, w.1 b.at b.spot) ];
      }

-- it is one of the two
module _ {L D : Type 0} (lay : LayoutGhosts L) (disk : DiskGhosts D) (core : Array L D) (job : Job D) (o : Outcome) (back : CameBack disk lay core job o) (bad : CameBackBad core job o) where
  pub is-call : (job.work ≡ Nothing) ⊎ ((now : List ℕ) × (count : ℕ) × (job.work ≡ Sum now count)) → ⊥
  is-call (inl none) = elim bad [
    | inl b ↦ let z : Good ≡ Bad = sym (nothing-good disk back.0.sources.items back.0.work job.work o back.2.work none) ∙ b in let u : ⊥ = cc in u
    | inr w ↦ let z : Nothing ≡ Write w.0.0 w.0.1 w.0.2 w.0.3 = sym none ∙ w.0.4 in let u : ⊥ = cc in u
  ]
  is-call (inr sum) = elim bad [
    | inl b ↦ let z : Good ≡ Bad = sym (sum-good disk back.0.sources.items back.0.work job.work o sum.0 sum.1 back.2.work sum.2) ∙ b in let u : ⊥ = cc in u
    | inr w ↦ let z : Sum sum.0 sum.1 ≡ Write w.0.0 w.0.1 w.0.2 w.0.3 = sym sum.2 ∙ w.0.4 in let u : ⊥ = cc in u
  ]

-- a job that came back with an outcome by which it ends bad
module _ {L D : Type 0} (core : Array L D) (job : Job D) where
  by-work : (o : Outcome) (w : Work D) → job.work ≡ w → is_bad_end o w (failed_at core.devices (spot_at (desk_at core.clients job.client) job.node)) ≡ true → CameBackBad core job o
  by-work Bad w is e = inl refl
  by-work Good (Write d first now count) is e = inr ((d, first, now, count, is), λ at spot. sym (ap (failed_at core.devices) spot) ∙ e)
  by-work Good (Read d first now count) is e = let z : false ≡ true = e in absurd (let u : ⊥ = cc in u)
  by-work Good (Sum now count) is e = let z : false ≡ true = e in absurd (let u : ⊥ = cc in u)
  by-work Good Nothing is e = let z : false ≡ true = e in absurd (let u : ⊥ = cc in u)

  pub job-bad : (lay : LayoutGhosts L) (disk : DiskGhosts D) (o : Outcome) → CameBack disk lay core job o → ends_bad core job o ≡ true → JobCameBad lay disk core job
  job-bad lay disk o back e = record { outcome = o; back = back; bad = by-work o job.work refl e }
