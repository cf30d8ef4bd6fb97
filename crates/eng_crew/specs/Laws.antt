-- The rule of the crew's turn, and its laws.
use Rattle.std.proofs.Common.{◌≡◌, ℕ, ◌+◌, List, [], ◌∷◌, ◌++◌, sum_by, refl, sym, subst, arith, Option, None}
use Rattle.std.specs.Global.{Box}
use Rattle.std.proofs.lemmas.List.Sums.{sum_by_push, sum_by-append, sum_by-cons}
use Rattle.blk_disk.specs.declared.disk.Disk.{Ghosts as DiskGhosts}
use Rattle.lay_core.specs.declared.layout.Layout.{Ghosts as LayoutGhosts}
use Rattle.eng_job.specs.declared.job.Job.{Job}
use Rattle.eng_world.specs.declared.item.Traced.{Traced}
use Rattle.eng_world.specs.declared.item.Traced.TheVariants as event
use Rattle.eng_rest.specs.Left.{IsOwn}
use Rattle.eng_state.specs.declared.array.Array.{Array}
use Rattle.eng_array.specs.declared.calls.Core.{Core}
use Rattle.eng_array.specs.Tickets.{AllOf, IsPlain, IsFiringOf, IsEndOf, is_of, IsHeld, Goes, After, Fits, Turned, nothing, plain, fired, ended}

-- ## Lists

module _ {A : Type 0} where
  pub between : (f : A → ℕ) (xs : List A) (t : A) (ys : List A) → sum_by f (xs ++ t ∷ ys) ≡ sum_by f (xs ++ ys) + f t
  between f xs t ys = let a = sum_by-append f xs (t ∷ ys) in let b = sum_by-cons f t ys in let c = sum_by-append f xs ys in omega arith

  pub all_there : (P : A → Type 0) (xs : List A) (t : A) (ys : List A) → AllOf P (xs ++ t ∷ ys) → P t
  all_there P [] t ys a = a.0
  all_there P (x ∷ xs) t ys a = all_there P xs t ys a.1

  pub all_without : (P : A → Type 0) (xs : List A) (t : A) (ys : List A) → AllOf P (xs ++ t ∷ ys) → AllOf P (xs ++ ys)
  all_without P [] t ys a = a.1
  all_without P (x ∷ xs) t ys a = (a.0, all_without P xs t ys a.1)

  pub all_with : (P : A → Type 0) (xs : List A) (t : A) (ys : List A) → AllOf P (xs ++ ys) → P t → AllOf P (xs ++ t ∷ ys)
  all_with P [] t ys a p = (p, a)
  all_with P (x ∷ xs) t ys a p = (a.0, all_with P xs t ys a.1 p)

  pub all_end : (P : A → Type 0) (xs : List A) (t : A) → AllOf P xs → P t → AllOf P (xs ++ t ∷ [])
  all_end P [] t a p = (p, tt)
  all_end P (x ∷ xs) t a p = (a.0, all_end P xs t a.1 p)

  pub all_append : (P : A → Type 0) (xs ys : List A) → AllOf P xs → AllOf P ys → AllOf P (xs ++ ys)
  all_append P [] ys a b = b
  all_append P (x ∷ xs) ys a b = (a.0, all_append P xs ys a.1 b)

-- ## Kinds of events

pub plain_own : (e : Traced) → IsPlain e → IsOwn e
plain_own (event.Fill column device count) h = absurd h
plain_own (event.Resume column count) h = absurd h
plain_own (event.Spread column) h = absurd h
plain_own (event.Fail column) h = absurd h
plain_own (event.Begin id) h = tt
plain_own (event.Take id) h = tt
plain_own (event.Fire id n) h = tt
plain_own (event.Good id n) h = tt
plain_own (event.Bad id n) h = tt
plain_own (event.Skip id n) h = tt
plain_own (event.Back id) h = tt

pub firing_own : (e : Traced) (c n : ℕ) → IsFiringOf e c n → IsOwn e
firing_own (event.Fill column device count) c n h = absurd h
firing_own (event.Resume column count) c n h = absurd h
firing_own (event.Spread column) c n h = absurd h
firing_own (event.Fail column) c n h = absurd h
firing_own (event.Begin id) c n h = tt
firing_own (event.Take id) c n h = tt
firing_own (event.Fire id m) c n h = tt
firing_own (event.Good id m) c n h = tt
firing_own (event.Bad id m) c n h = tt
firing_own (event.Skip id m) c n h = tt
firing_own (event.Back id) c n h = tt

pub end_own : (e : Traced) (c n : ℕ) → IsEndOf e c n → IsOwn e
end_own (event.Fill column device count) c n h = absurd h
end_own (event.Resume column count) c n h = absurd h
end_own (event.Spread column) c n h = absurd h
end_own (event.Fail column) c n h = absurd h
end_own (event.Begin id) c n h = tt
end_own (event.Take id) c n h = tt
end_own (event.Fire id m) c n h = tt
end_own (event.Good id m) c n h = tt
end_own (event.Bad id m) c n h = tt
end_own (event.Skip id m) c n h = tt
end_own (event.Back id) c n h = tt

module _ {L D : Type 0} (lay : LayoutGhosts L) (disk : DiskGhosts D) where
  -- ## Chains

  pub goes_append : (a b c : Array L D) (es fs : List Traced) → Goes lay disk a es b → Goes lay disk b fs c → Goes lay disk a (fs ++ es) c
  goes_append a b c es [] g h = subst (λ (x : Array L D). Goes lay disk a es x) (sym h) g
  goes_append a b c es (f ∷ fs) g h = (h.0, goes_append a b h.0 es fs g h.1, h.2)

  pub later_itself : (v : Array L D) → After lay disk v v
  later_itself v = record { events = []; own = tt; goes = refl }

  pub later_later : (u v w : Array L D) → After lay disk u v → After lay disk v w → After lay disk u w
  later_later u v w a b = record { events = b.events ++ a.events; own = all_append IsOwn b.events a.events b.own a.own; goes = goes_append u v w a.events b.events a.goes b.goes }

  pub later_step : (v w : Array L D) (t u : Option (Job D)) → Turned lay disk v t w u → After lay disk v w
  later_step v w t u (nothing e q) = subst (λ (x : Array L D). After lay disk v x) (sym e) (later_itself v)
  later_step v w t u (plain e p q d k) = record { events = e ∷ []; own = (plain_own e p, tt); goes = (v, refl, d) }
  later_step v w t u (fired j e p q r d k) = record { events = e ∷ []; own = (firing_own e j.client j.node p, tt); goes = (v, refl, d) }
  later_step v w t u (ended j e p q r d k) = record { events = e ∷ []; own = (end_own e j.client j.node p, tt); goes = (v, refl, d) }

  -- ## The rule

  -- the core comes after the opening by events of clients, and what is out of it is what the tickets took
  abbrev pub FitsIn : Core L D → Core L D → List (Option (Job D)) → Type 0
  FitsIn opening now tickets = Fits lay disk opening.array now.array tickets

  -- steps of a turn, one after another, with a core and a ticket between any two: each is nothing, or exactly one event
  abbrev pub Steps : Core L D → Option (Job D) → List (Core L D × Option (Job D)) → Core L D → Option (Job D) → Type 0
  Steps old t [] new u = Turned lay disk old.array t new.array u
  Steps old t (m ∷ between) new u = Turned lay disk old.array t m.0.array m.1 × Steps m.0 m.1 between new u

  -- one turn
  abbrev pub TurnsTo : Core L D → Option (Job D) → Core L D → Option (Job D) → Type 0
  TurnsTo old t new u = (between : List (Core L D × Option (Job D))) × Steps old t between new u

  abbrev pub ComesAfter : Core L D → Core L D → Type 0
  ComesAfter old new = After lay disk old.array new.array

  -- a pass with no job comes and goes
  pub empty_comes : (o v : Core L D) (xs : List (Option (Job D))) → FitsIn o v xs → FitsIn o v (xs ++ None ∷ [])
  empty_comes o v xs f = record {
    after = f.after;
    shared = record {
      sound = f.shared.sound;
      nodes = λ c n. let e = sum_by_push (is_of c n) xs None in let h = f.shared.nodes c n in omega arith;
      jobs = all_end (IsHeld lay disk v.array) xs None f.shared.jobs tt;
    };
  }

  pub empty_goes : (o v : Core L D) (xs ys : List (Option (Job D))) → FitsIn o v (xs ++ None ∷ ys) → FitsIn o v (xs ++ ys)
  empty_goes o v xs ys f = record {
    after = f.after;
    shared = record {
      sound = f.shared.sound;
      nodes = λ c n. let e = between (is_of c n) xs None ys in let h = f.shared.nodes c n in omega arith;
      jobs = all_without (IsHeld lay disk v.array) xs None ys f.shared.jobs;
    };
  }

  pub after_itself : (v : Core L D) → ComesAfter v v
  after_itself v = later_itself v.array

  pub after_later : (u v w : Core L D) → ComesAfter u v → ComesAfter v w → ComesAfter u w
  after_later u v w a b = later_later u.array v.array w.array a b

  steps_later : (v w : Core L D) (t u : Option (Job D)) (ms : List (Core L D × Option (Job D))) → Steps v t ms w u → After lay disk v.array w.array
  steps_later v w t u [] s = later_step v.array w.array t u s
  steps_later v w t u (m ∷ ms) s = later_later v.array m.0.array w.array (later_step v.array m.0.array t m.1 s.0) (steps_later m.0 w m.1 u ms s.1)

  pub after_step : (v w : Core L D) (t u : Option (Job D)) → TurnsTo v t w u → ComesAfter v w
  after_step v w t u step = steps_later v w t u step.0 step.1

  -- ## The rule, of a core in its box

  abbrev pub BoxFits : Box (Core L D) → Box (Core L D) → List (Option (Job D)) → Type 0
  BoxFits opening now tickets = FitsIn opening.value now.value tickets

  abbrev pub BoxTurns : Box (Core L D) → Option (Job D) → Box (Core L D) → Option (Job D) → Type 0
  BoxTurns old t new u = TurnsTo old.value t new.value u

  abbrev pub BoxAfter : Box (Core L D) → Box (Core L D) → Type 0
  BoxAfter old new = ComesAfter old.value new.value

  pub box_comes : (o v : Box (Core L D)) (xs : List (Option (Job D))) → BoxFits o v xs → BoxFits o v (xs ++ None ∷ [])
  box_comes o v xs f = empty_comes o.value v.value xs f

  pub box_goes : (o v : Box (Core L D)) (xs ys : List (Option (Job D))) → BoxFits o v (xs ++ None ∷ ys) → BoxFits o v (xs ++ ys)
  box_goes o v xs ys f = empty_goes o.value v.value xs ys f

  pub box_itself : (v : Box (Core L D)) → BoxAfter v v
  box_itself v = after_itself v.value

  pub box_later : (u v w : Box (Core L D)) → BoxAfter u v → BoxAfter v w → BoxAfter u w
  box_later u v w a b = after_later u.value v.value w.value a b

  pub box_step : (v w : Box (Core L D)) (t u : Option (Job D)) → BoxTurns v t w u → BoxAfter v w
  box_step v w t u step = after_step v.value w.value t u step
