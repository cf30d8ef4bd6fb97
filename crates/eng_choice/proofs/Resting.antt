-- All lists are at home exactly where no job is out.
use Rattle.std.proofs.Common.{◌≡◌, ◌≢◌, ℕ, suc, ◌<◌, List, [], ◌∷◌, length, sym, ◌∙◌, arith, refl}
use Rattle.std.specs.Prelude.{sum_by}
use Rattle.std.proofs.lemmas.List.Sums.{sum_by-cons}
use Rattle.blk_disk.specs.declared.disk.Disk.{Ghosts as DiskGhosts}
use Rattle.lay_core.specs.declared.layout.Layout.{Ghosts as LayoutGhosts}
use Rattle.eng_clients.specs.declared.stage.Stage.{Stage}
use Rattle.eng_clients.specs.declared.stage.Stage.TheVariants.{Nothing, Waits, Runs}
use Rattle.eng_state.specs.declared.array.Array.{Array}
use Rattle.eng_clients.specs.Desk.{Desk, desk_at}
use Rattle.eng_state.specs.Sound.{IsSound, IsOutOf, IsWell, jobs_of}
use Rattle.eng_state.proofs.Putting.{list-out, none-out-sum}
use Rattle.eng_state.proofs.Running.{runs_below}

-- a sum of zeros
sums-zero : (f : Desk → ℕ) (xs : List Desk) → ((k : ℕ) → k < length xs → f (desk_at xs k) ≡ 0) → sum_by f xs ≡ 0
sums-zero f [] zeros = refl
sums-zero f (x ∷ xs) zeros =
    let first = zeros 0 (omega arith) in
    let rest = sums-zero f xs (λ k lt. zeros (suc k) (omega (arith, lt))) in
    let all = sum_by-cons f x xs in omega (arith, first, rest, all)

module _ {L D : Type 0} (lay : LayoutGhosts L) (disk : DiskGhosts D) (core : Array L D) (sound : IsSound lay disk core) where
  pub none-out : core.lists ≡ 32 → (c n : ℕ) → IsOutOf (desk_at core.clients c) n → ⊥
  none-out full c n out =
      let lt = runs_below (lay.shape core.layout) core.graphs.items core.pool core.clients c sound.well out.runs in
      let all = sound.well.all in
      let less = list-out core.clients c n core.lists (omega (arith, lt, all)) out.mark sound.jobs in
      omega (arith, less, full)

  no-jobs : (d : Desk) → ((n : ℕ) → IsOutOf d n → ⊥) → (d.stage ≢ Runs → jobs_of d ≡ 0) → (t : Stage) → d.stage ≡ t → jobs_of d ≡ 0
  no-jobs d none idle Nothing is = idle (λ runs. let z : Nothing ≡ Runs = sym is ∙ runs in let u : ⊥ = cc in u)
  no-jobs d none idle Waits is = idle (λ runs. let z : Waits ≡ Runs = sym is ∙ runs in let u : ⊥ = cc in u)
  no-jobs d none idle Runs is = none-out-sum d.run.marks (λ k out. none k (record { runs = is; mark = out }))

  pub all-home : ((c n : ℕ) → IsOutOf (desk_at core.clients c) n → ⊥) → core.lists ≡ 32
  all-home none =
      let zero = sums-zero jobs_of core.clients (λ k lt.
      let all = sound.well.all in
      let well : IsWell (lay.shape core.layout) core.graphs.items core.pool (desk_at core.clients k) = sound.well.each k (omega (arith, all, lt)) in
      no-jobs (desk_at core.clients k) (none k) (λ rests. (well.idle rests).1) (desk_at core.clients k).stage refl) in
      let jobs = sound.jobs in omega (arith, zero, jobs)
