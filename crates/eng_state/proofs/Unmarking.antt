-- Desks of which one has a node less out.
use Rattle.std.proofs.Common.{◌≡◌, ◌≢◌, ℕ, ◌<◌, ◌+◌, List, length, subst, sym, ap, ◌∙◌, arith, inl, inr, refl}
use Rattle.std.specs.Prelude.{slice_set, sum_by}
use Rattle.std.proofs.lemmas.Bool.{cases_eq}
use Rattle.std.proofs.lemmas.List.{get_or-set_same, get_or-set_other}
use Rattle.std.proofs.lemmas.List.Sums.{sum_by-set}
use Rattle.blk_plain.specs.declared.op.Outcome.{Outcome}
use Rattle.blk_plain.specs.declared.op.Outcome.TheVariants as outcome
use Rattle.graph_mean.specs.declared.step.Status.TheVariants as status
use Rattle.eng_one.specs.Control.{mark_of, mark_for}
use Rattle.eng_clients.specs.Desk.{Desk, desk_at, no_desk, spot_at, with_ended}
use Rattle.eng_state.specs.Sound.{IsOutOf, HasAway, jobs_of, jobs_at}
use Rattle.eng_state.proofs.Shown.{desk-set, desk-else}

-- what has ended is out no more
ended-in : (o : Outcome) → mark_for o ≡ status.Out → ⊥
ended-in outcome.Good e = let z : status.Good ≡ status.Out = e in let u : ⊥ = cc in u
ended-in outcome.Bad e = let z : status.Bad ≡ status.Out = e in let u : ⊥ = cc in u

no-job : (o : Outcome) → jobs_at (mark_for o) ≡ 0
no-job outcome.Good = refl
no-job outcome.Bad = refl

module _ (desks : List Desk) (c n : ℕ) (o : Outcome) (below : c < length desks) (marks : n < length (desk_at desks c).run.marks) (out : IsOutOf (desk_at desks c) n) where
  abbrev pub d : Desk
  d = desk_at desks c

  abbrev pub now : Desk
  now = with_ended d n o

  abbrev pub after : List Desk
  after = slice_set desks c now

  pub here : desk_at after c ≡ now
  here = desk-set desks c now below

  pub other : (k : ℕ) → k ≢ c → desk_at after k ≡ desk_at desks k
  other k ne = desk-else desks c k now ne

  -- what a node's end leaves as it is, it leaves of each desk
  pub same : {A : Type 0} (f : Desk → A) → f now ≡ f d → (k : ℕ) → f (desk_at after k) ≡ f (desk_at desks k)
  same f e k = elim (cases_eq k c) [
    | inl is ↦ ap (λ (j : ℕ). f (desk_at after j)) is ∙ (ap f here ∙ (e ∙ sym (ap (λ (j : ℕ). f (desk_at desks j)) is)))
    | inr ne ↦ ap f (other k ne)
  ]

  -- the others are out still
  pub still-out : (k m : ℕ) → ((k ≡ c) × (m ≡ n) → ⊥) → IsOutOf (desk_at desks k) m → IsOutOf (desk_at after k) m
  still-out k m apart p = elim (cases_eq k c) [
    | inl is ↦ subst (λ (j : ℕ). IsOutOf (desk_at after j) m) (sym is) (subst (λ (a : Desk). IsOutOf a m) (sym here) (stay (λ e. apart (is, e)) (subst (λ (j : ℕ). IsOutOf (desk_at desks j) m) is p)))
    | inr ne ↦ subst (λ (a : Desk). IsOutOf a m) (sym (other k ne)) p
  ]
    where
      stay : m ≢ n → IsOutOf d m → IsOutOf now m
      stay ne q = record { runs = q.runs; mark = get_or-set_other d.run.marks n m (mark_for o) status.Idle ne ∙ q.mark }

  -- what is out was, and isn't this node
  pub was-out : (k m : ℕ) → IsOutOf (desk_at after k) m → IsOutOf (desk_at desks k) m × ((k ≡ c) × (m ≡ n) → ⊥)
  was-out k m p = elim (cases_eq k c) [
    | inl is ↦ elim (cases_eq m n) [
      | inl same_node ↦ absurd (gone (subst (λ (j : ℕ). IsOutOf now j) same_node (at-c is)))
      | inr ne ↦ (subst (λ (j : ℕ). IsOutOf (desk_at desks j) m) (sym is) (back ne (at-c is)), λ h. ne h.1)
    ]
    | inr ne ↦ (subst (λ (a : Desk). IsOutOf a m) (other k ne) p, λ h. ne h.0)
  ]
    where
      at-c : k ≡ c → IsOutOf now m
      at-c is = subst (λ (a : Desk). IsOutOf a m) here (subst (λ (j : ℕ). IsOutOf (desk_at after j) m) is p)

      gone : IsOutOf now n → ⊥
      gone q = ended-in o (sym (get_or-set_same d.run.marks n (mark_for o) status.Idle marks) ∙ q.mark)

      back : m ≢ n → IsOutOf now m → IsOutOf d m
      back ne q = record { runs = q.runs; mark = sym (get_or-set_other d.run.marks n m (mark_for o) status.Idle ne) ∙ q.mark }

  pub spot-same : (k m : ℕ) → spot_at (desk_at after k) m ≡ spot_at (desk_at desks k) m
  spot-same k m = same (λ a. spot_at a m) refl k

  pub away-still : (k m device : ℕ) → ((k ≡ c) × (m ≡ n) → ⊥) → HasAway desks k m device → HasAway after k m device
  away-still k m device apart h = record { out = still-out k m apart h.out; at = h.at; spot = spot-same k m ∙ h.spot; is = h.is }

  pub away-was : (k m device : ℕ) → HasAway after k m device → HasAway desks k m device × ((k ≡ c) × (m ≡ n) → ⊥)
  away-was k m device h = let was = was-out k m h.out in (record { out = was.0; at = h.at; spot = sym (spot-same k m) ∙ h.spot; is = h.is }, was.1)

  -- one job less is out
  pub one-job-less : sum_by jobs_of after + 1 ≡ sum_by jobs_of desks
  one-job-less =
      let all = sum_by-set jobs_of desks c now no_desk below in
      let one = sum_by-set jobs_at d.run.marks n (mark_for o) status.Idle marks in
      let was : jobs_at (mark_of d.run n) ≡ 1 = ap jobs_at out.mark in
      let none = no-job o in
      omega (arith, all, one, was, none)
