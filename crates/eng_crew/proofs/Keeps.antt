-- What a turn leaves fits among whatever other tickets what it entered fitted among.
use Rattle.std.proofs.Common.{◌≡◌, ◌≤◌, ℕ, List, [], ◌∷◌, ◌++◌, sum_by, refl, sym, ◌∙◌, subst, arith, Option, Some, None}
use Rattle.std.proofs.lemmas.List.Sums.{sum_by-cons}
use Rattle.blk_plain.specs.declared.op.Outcome.{Outcome}
use Rattle.blk_disk.specs.declared.disk.Disk.{Ghosts as DiskGhosts}
use Rattle.lay_core.specs.declared.layout.Layout.{Ghosts as LayoutGhosts}
use Rattle.graph_mean.specs.declared.step.Status.{Status}
use Rattle.graph_mean.specs.declared.step.Status.TheVariants.{Idle, Out, Good, Bad, Skipped}
use Rattle.eng_one.specs.Control.{mark_of}
use Rattle.eng_job.specs.declared.job.Job.{Job}
use Rattle.eng_job.specs.Performed.{Performed}
use Rattle.eng_world.specs.declared.item.Traced.{Traced}
use Rattle.eng_world.specs.Pool.{job_of}
use Rattle.eng_clients.specs.declared.stage.Stage.{Stage}
use Rattle.eng_clients.specs.declared.stage.Stage.TheVariants.{Nothing, Waits, Runs}
use Rattle.eng_state.specs.declared.array.Array.{Array}
use Rattle.eng_array.specs.declared.calls.Core.{Core}
use Rattle.eng_clients.specs.Desk.{desk_at}
use Rattle.eng_events.specs.Opened.{NoneOut}
use Rattle.eng_state.specs.Out.{IsOut}
use Rattle.eng_array.specs.Steady.{IsSteady}
use Rattle.eng_array.specs.Tickets.{AllOf, IsEndOf, is_of, out_by, out_at, IsHeld, KeepsJobs, Lends, GetsBack, Happens, Shared, Turned, nothing, plain, fired, ended}
use Rattle.eng_array.proofs.OutNodes.{node-here}
use Rattle.eng_turn.specs.Turn.{KeepsFit}
use Rattle.eng_crew.specs.Laws.{between, all_there, all_without, all_with, later_later, later_step, FitsIn, Steps, TurnsTo}

module _ {A : Type 0} where
  all-map : (P Q : A → Type 0) → ((t : A) → P t → Q t) → (xs : List A) → AllOf P xs → AllOf Q xs
  all-map P Q f [] a = tt
  all-map P Q f (x ∷ xs) a = (f x a.0, all-map P Q f xs a.1)

  all-if : (P Q : A → Type 0) (h : A → ℕ) → ((t : A) → h t ≡ 0 → P t → Q t) → (xs : List A) → sum_by h xs ≡ 0 → AllOf P xs → AllOf Q xs
  all-if P Q h f [] z a = tt
  all-if P Q h f (x ∷ xs) z a = let e = sum_by-cons h x xs in let here : h x ≡ 0 = omega arith in let rest : sum_by h xs ≡ 0 = omega arith in (f x here a.0, all-if P Q h f xs rest a.1)

-- ## Nodes that are out

job-most : (s : Status) → job_of s ≤ 1
job-most Idle = omega arith
job-most Out = omega arith
job-most Good = omega arith
job-most Bad = omega arith
job-most Skipped = omega arith

out-most : (t : Stage) (s : Status) → out_by t s ≤ 1
out-most Nothing s = omega arith
out-most Waits s = omega arith
out-most Runs s = job-most s

job-zero : (s : Status) → (s ≡ Out → ⊥) → job_of s ≡ 0
job-zero Idle h = refl
job-zero Out h = absurd (h refl)
job-zero Good h = refl
job-zero Bad h = refl
job-zero Skipped h = refl

out-zero : (t : Stage) (s : Status) → (t ≡ Runs → s ≡ Out → ⊥) → out_by t s ≡ 0
out-zero Nothing s h = refl
out-zero Waits s h = refl
out-zero Runs s h = job-zero s (h refl)

pub out-one : (t : Stage) (s : Status) → t ≡ Runs → s ≡ Out → out_by t s ≡ 1
out-one t s runs out = subst (λ (x : Stage). out_by x s ≡ 1) (sym runs) (subst (λ (x : Status). out_by Runs x ≡ 1) (sym out) refl)

module _ {L D : Type 0} (lay : LayoutGhosts L) (disk : DiskGhosts D) (v w : Array L D) where
  held-keeps : ((j : Job D) → IsOut disk lay v j → IsOut disk lay w j) → (t : Option (Job D)) → IsHeld lay disk v t → IsHeld lay disk w t
  held-keeps f None h = tt
  held-keeps f (Some j) h = f j h

  held-without : (c n : ℕ) → ((j : Job D) → IsOut disk lay v j → is_of c n (Some j) ≡ 0 → IsOut disk lay w j) → (t : Option (Job D)) → is_of c n t ≡ 0 → IsHeld lay disk v t → IsHeld lay disk w t
  held-without c n f None z h = tt
  held-without c n f (Some j) z h = f j h z

module _ {L D : Type 0} (lay : LayoutGhosts L) (disk : DiskGhosts D) (v w : Array L D) (xs ys : List (Option (Job D))) where
  plain-shared : (t : Option (Job D)) → IsSteady lay disk w → KeepsJobs lay disk v w → Shared lay disk v (xs ++ t ∷ ys) → Shared lay disk w (xs ++ t ∷ ys)
  plain-shared t sound k s = record {
    sound = sound;
    nodes = λ c n. s.nodes c n ∙ sym (k.nodes c n);
    jobs = all-map (IsHeld lay disk v) (IsHeld lay disk w) (held-keeps lay disk v w k.jobs) (xs ++ t ∷ ys) s.jobs;
  }

  fired-shared : (j : Job D) → IsSteady lay disk w → Lends lay disk j v w → Shared lay disk v (xs ++ None ∷ ys) → Shared lay disk w (xs ++ Some j ∷ ys)
  fired-shared j sound k s = record {
    sound = sound;
    nodes = λ c n. let a = between (is_of c n) xs None ys in let b = between (is_of c n) xs (Some j) ys in let e = s.nodes c n in let f = k.nodes c n in omega arith;
    jobs = all_with (IsHeld lay disk w) xs (Some j) ys (all-map (IsHeld lay disk v) (IsHeld lay disk w) (held-keeps lay disk v w k.jobs) (xs ++ ys) (all_without (IsHeld lay disk v) xs None ys s.jobs)) k.is_out;
  }

  -- no other ticket has the node that comes home
  ended-shared : (j : Job D) → IsSteady lay disk w → GetsBack lay disk j.client j.node v w → Shared lay disk v (xs ++ Some j ∷ ys) → Shared lay disk w (xs ++ None ∷ ys)
  ended-shared j sound k s = record {
    sound = sound;
    nodes = λ c n. let a = between (is_of c n) xs None ys in let b = between (is_of c n) xs (Some j) ys in let e = s.nodes c n in let f = k.nodes c n in omega arith;
    jobs =
        let mine = between (is_of j.client j.node) xs (Some j) ys in
        let one = node-here j.client j.node in
        let once = out-most (desk_at v.clients j.client).stage (mark_of (desk_at v.clients j.client).run j.node) in
        let all = s.nodes j.client j.node in
        all_with (IsHeld lay disk w) xs None ys (all-if (IsHeld lay disk v) (IsHeld lay disk w) (is_of j.client j.node) (held-without lay disk v w j.client j.node k.jobs) (xs ++ ys) (omega arith) (all_without (IsHeld lay disk v) xs (Some j) ys s.jobs)) tt;
  }

module _ {L D : Type 0} (lay : LayoutGhosts L) (disk : DiskGhosts D) where
  pub shared-keeps : (v w : Array L D) (t u : Option (Job D)) (xs ys : List (Option (Job D))) → Turned lay disk v t w u → Shared lay disk v (xs ++ t ∷ ys) → Shared lay disk w (xs ++ u ∷ ys)
  shared-keeps v w t u xs ys (nothing e q) s = subst (λ (c : Array L D). Shared lay disk c (xs ++ u ∷ ys)) (sym e) (subst (λ (x : Option (Job D)). Shared lay disk v (xs ++ x ∷ ys)) (sym q) s)
  shared-keeps v w t u xs ys (plain e p q d k) s = subst (λ (x : Option (Job D)). Shared lay disk w (xs ++ x ∷ ys)) (sym q) (plain-shared lay disk v w xs ys t d.sound k s)
  shared-keeps v w t u xs ys (fired j e p q r d k) s = subst (λ (x : Option (Job D)). Shared lay disk w (xs ++ x ∷ ys)) (sym r) (fired-shared lay disk v w xs ys j d.sound k (subst (λ (x : Option (Job D)). Shared lay disk v (xs ++ x ∷ ys)) q s))
  shared-keeps v w t u xs ys (ended j e p q r d k) s = subst (λ (x : Option (Job D)). Shared lay disk w (xs ++ x ∷ ys)) (sym r) (ended-shared lay disk v w xs ys j d.sound k (subst (λ (x : Option (Job D)). Shared lay disk v (xs ++ x ∷ ys)) q s))

  turned-keeps : (o v w : Core L D) (t u : Option (Job D)) → Turned lay disk v.array t w.array u → KeepsFit (FitsIn lay disk) o v t w u
  turned-keeps o v w t u turned xs ys f = record { after = later_later lay disk o.array v.array w.array f.after (later_step lay disk v.array w.array t u turned); shared = shared-keeps v.array w.array t u xs ys turned f.shared }

  pub turned-steady : (v w : Array L D) (t u : Option (Job D)) → Turned lay disk v t w u → IsSteady lay disk v → IsSteady lay disk w
  turned-steady v w t u (nothing e q) s = subst (λ (c : Array L D). IsSteady lay disk c) (sym e) s
  turned-steady v w t u (plain e p q d k) s = d.sound
  turned-steady v w t u (fired j e p q r d k) s = d.sound
  turned-steady v w t u (ended j e p q r d k) s = d.sound

  -- ## Turns of several steps

  steps-on : (a b c : Core L D) (t s u : Option (Job D)) (ms ns : List (Core L D × Option (Job D))) → Steps lay disk a t ms b s → Steps lay disk b s ns c u → Steps lay disk a t (ms ++ (b, s) ∷ ns) c u
  steps-on a b c t s u [] ns x y = (x, y)
  steps-on a b c t s u (m ∷ ms) ns x y = (x.0, steps-on m.0 b c m.1 s u ms ns x.1 y)

  pub turns-on : (a b c : Core L D) (t s u : Option (Job D)) → TurnsTo lay disk a t b s → TurnsTo lay disk b s c u → TurnsTo lay disk a t c u
  turns-on a b c t s u x y = (x.0 ++ (b, s) ∷ y.0, steps-on a b c t s u x.0 y.0 x.1 y.1)

  pub turns-once : (v w : Core L D) (t u : Option (Job D)) → Turned lay disk v.array t w.array u → TurnsTo lay disk v t w u
  turns-once v w t u turned = ([], turned)

  steps-keep : (o v w : Core L D) (t u : Option (Job D)) (ms : List (Core L D × Option (Job D))) → Steps lay disk v t ms w u → KeepsFit (FitsIn lay disk) o v t w u
  steps-keep o v w t u [] s xs ys f = turned-keeps o v w t u s xs ys f
  steps-keep o v w t u (m ∷ ms) s xs ys f = steps-keep o m.0 w m.1 u ms s.1 xs ys (turned-keeps o v m.0 t m.1 s.0 xs ys f)

  -- all that `leave` owes follows from the turn
  pub turns-keep : (o v w : Core L D) (t u : Option (Job D)) → TurnsTo lay disk v t w u → KeepsFit (FitsIn lay disk) o v t w u
  turns-keep o v w t u turn = steps-keep o v w t u turn.0 turn.1

  -- ## A job comes home

  pub come-home : (v w : Array L D) (t : Option (Job D)) (left done : Job D) (outcome : Outcome) → t ≡ Some left → Performed disk left done outcome → (e : Traced) → Happens lay disk e v w → IsEndOf e done.client done.node → GetsBack lay disk done.client done.node v w → Turned lay disk v t w None
  come-home v w t left done outcome is p e does end back =
      ended left e (subst (λ c. IsEndOf e c left.node) p.client (subst (λ n. IsEndOf e done.client n) p.node end)) is refl does
      (subst (λ c. GetsBack lay disk c left.node v w) p.client (subst (λ n. GetsBack lay disk done.client n v w) p.node back))

  -- what the pass's ticket says is out is out
  pub ticket-out : (v : Array L D) (t : Option (Job D)) (j : Job D) (xs ys : List (Option (Job D))) → t ≡ Some j → Shared lay disk v (xs ++ t ∷ ys) → IsOut disk lay v j
  ticket-out v t j xs ys is s = subst (λ (x : Option (Job D)). IsHeld lay disk v x) is (all_there (IsHeld lay disk v) xs t ys s.jobs)

  -- ## No job is out

  pub none-shared : (v : Array L D) → IsSteady lay disk v → NoneOut v.clients → Shared lay disk v (None ∷ [])
  none-shared v sound none = record {
    sound = sound;
    nodes = λ c n.
        let z : out_at v c n ≡ 0 = out-zero (desk_at v.clients c).stage (mark_of (desk_at v.clients c).run n) (λ runs out. none c n (record { runs = runs; mark = out })) in
        let a = sum_by-cons (is_of {D = D} c n) None [] in
        let b : sum_by (is_of {D = D} c n) [] ≡ 0 = refl in
        omega arith;
    jobs = (tt, tt);
  }

  pub shared-none : (v : Array L D) → Shared lay disk v (None ∷ []) → NoneOut v.clients
  shared-none v s c n out =
      let z = s.nodes c n in
      let a = sum_by-cons (is_of {D = D} c n) None [] in
      let b : sum_by (is_of {D = D} c n) [] ≡ 0 = refl in
      let one : out_at v c n ≡ 1 = out-one (desk_at v.clients c).stage (mark_of (desk_at v.clients c).run n) out.runs out.mark in
      absurd (omega arith)
