-- Desks of which one has another node out.
use Rattle.std.proofs.Common.{◌≡◌, ◌≢◌, ℕ, ◌<◌, ◌+◌, ◌⊎◌, List, length, subst, sym, ap, ◌∙◌, arith, inl, inr, refl, Option, Some, None}
use Rattle.std.specs.Prelude.{slice_set, sum_by}
use Rattle.std.proofs.lemmas.Bool.{cases_eq}
use Rattle.std.proofs.lemmas.List.{get_or-set_same, get_or-set_other}
use Rattle.std.proofs.lemmas.List.Sums.{sum_by-set}
use Rattle.graph_mean.specs.declared.step.Status.TheVariants as status
use Rattle.eng_one.specs.Control.{mark_of}
use Rattle.eng_cols.specs.declared.spot.Spot.{Spot}
use Rattle.eng_clients.specs.declared.stage.Stage.TheVariants.{Runs}
use Rattle.eng_clients.specs.Desk.{Desk, desk_at, no_desk, spot_at, with_fired}
use Rattle.eng_state.specs.Sound.{IsOutOf, HasAway, jobs_of, jobs_at}
use Rattle.eng_state.proofs.Shown.{desk-set, desk-else}

module _ (desks : List Desk) (c n : ℕ) (place : Option Spot) (below : c < length desks) (runs : (desk_at desks c).stage ≡ Runs) (marks : n < length (desk_at desks c).run.marks) (spots : n < length (desk_at desks c).spots) (idle : mark_of (desk_at desks c).run n ≡ status.Idle) where
  abbrev pub d : Desk
  d = desk_at desks c

  abbrev pub now : Desk
  now = with_fired d n place

  abbrev pub after : List Desk
  after = slice_set desks c now

  pub here : desk_at after c ≡ now
  here = desk-set desks c now below

  pub other : (k : ℕ) → k ≢ c → desk_at after k ≡ desk_at desks k
  other k ne = desk-else desks c k now ne

  -- what a firing leaves as it is, it leaves of each desk
  pub same : {A : Type 0} (f : Desk → A) → f now ≡ f d → (k : ℕ) → f (desk_at after k) ≡ f (desk_at desks k)
  same f e k = elim (cases_eq k c) [
    | inl is ↦ ap (λ (j : ℕ). f (desk_at after j)) is ∙ (ap f here ∙ (e ∙ sym (ap (λ (j : ℕ). f (desk_at desks j)) is)))
    | inr ne ↦ ap f (other k ne)
  ]

  now-out : IsOutOf now n
  now-out = record { runs = runs; mark = get_or-set_same d.run.marks n status.Out status.Idle marks }

  -- the node is out now
  pub fired-out : IsOutOf (desk_at after c) n
  fired-out = subst (λ (a : Desk). IsOutOf a n) (sym here) now-out

  -- and so are those that were
  pub still-out : (k m : ℕ) → IsOutOf (desk_at desks k) m → IsOutOf (desk_at after k) m
  still-out k m o = elim (cases_eq k c) [
    | inl is ↦ subst (λ (j : ℕ). IsOutOf (desk_at after j) m) (sym is) (subst (λ (a : Desk). IsOutOf a m) (sym here) (stay (subst (λ (j : ℕ). IsOutOf (desk_at desks j) m) is o)))
    | inr ne ↦ subst (λ (a : Desk). IsOutOf a m) (sym (other k ne)) o
  ]
    where
      apart : IsOutOf d m → m ≢ n
      apart p e = let z : status.Idle ≡ status.Out = sym idle ∙ (sym (ap (mark_of d.run) e) ∙ p.mark) in let u : ⊥ = cc in u

      stay : IsOutOf d m → IsOutOf now m
      stay p = record { runs = p.runs; mark = get_or-set_other d.run.marks n m status.Out status.Idle (apart p) ∙ p.mark }

  -- and no others
  pub was-out : (k m : ℕ) → IsOutOf (desk_at after k) m → (IsOutOf (desk_at desks k) m × ((k ≡ c) × (m ≡ n) → ⊥)) ⊎ ((k ≡ c) × (m ≡ n))
  was-out k m o = elim (cases_eq k c) [
    | inl is ↦ elim (cases_eq m n) [
      | inl same_node ↦ inr (is, same_node)
      | inr ne ↦ inl (subst (λ (j : ℕ). IsOutOf (desk_at desks j) m) (sym is) (back ne (subst (λ (a : Desk). IsOutOf a m) here (subst (λ (j : ℕ). IsOutOf (desk_at after j) m) is o))), λ h. ne h.1)
    ]
    | inr ne ↦ inl (subst (λ (a : Desk). IsOutOf a m) (other k ne) o, λ h. ne h.0)
  ]
    where
      back : m ≢ n → IsOutOf now m → IsOutOf d m
      back ne p = record { runs = p.runs; mark = sym (get_or-set_other d.run.marks n m status.Out status.Idle ne) ∙ p.mark }

  -- where the unit of a node stood
  pub spot-here : spot_at (desk_at after c) n ≡ place
  spot-here = ap (λ (a : Desk). spot_at a n) here ∙ get_or-set_same d.spots n place None spots

  pub spot-other : (k m : ℕ) → ((k ≡ c) × (m ≡ n) → ⊥) → spot_at (desk_at after k) m ≡ spot_at (desk_at desks k) m
  spot-other k m apart = elim (cases_eq k c) [
    | inl is ↦ ap (λ (j : ℕ). spot_at (desk_at after j) m) is ∙ (ap (λ (a : Desk). spot_at a m) here ∙ (get_or-set_other d.spots n m place None (λ e. apart (is, e)) ∙ sym (ap (λ (j : ℕ). spot_at (desk_at desks j) m) is)))
    | inr ne ↦ ap (λ (a : Desk). spot_at a m) (other k ne)
  ]

  -- devices that are away
  pub away-still : (k m device : ℕ) → HasAway desks k m device → HasAway after k m device
  away-still k m device h = record {
    out = still-out k m h.out;
    at = h.at;
    spot = spot-other k m (λ e. apart e) ∙ h.spot;
    is = h.is;
  }
    where
      apart : (k ≡ c) × (m ≡ n) → ⊥
      apart e = let o : IsOutOf d n = subst (λ (j : ℕ). IsOutOf (desk_at desks j) n) e.0 (subst (λ (j : ℕ). IsOutOf (desk_at desks k) j) e.1 h.out) in
          let z : status.Idle ≡ status.Out = sym idle ∙ o.mark in let u : ⊥ = cc in u

  pub away-now : (at : Spot) → place ≡ Some at → HasAway after c n at.device
  away-now at is = record { out = fired-out; at = at; spot = spot-here ∙ is; is = refl }

  pub away-was : (k m device : ℕ) → HasAway after k m device → HasAway desks k m device ⊎ ((k ≡ c) × (m ≡ n) × ((at : Spot) × (place ≡ Some at) × (at.device ≡ device)))
  away-was k m device h = elim (was-out k m h.out) [
    | inl o ↦ inl (record { out = o.0; at = h.at; spot = sym (spot-other k m o.1) ∙ h.spot; is = h.is })
    | inr e ↦ inr (e.0, e.1, (h.at, sym (ap (λ (j : ℕ). spot_at (desk_at after j) m) e.0 ∙ (ap (λ (j : ℕ). spot_at (desk_at after c) j) e.1 ∙ spot-here)) ∙ h.spot, h.is))
  ]

  -- one job more is out
  pub one-job-more : sum_by jobs_of after ≡ sum_by jobs_of desks + 1
  one-job-more =
      let all = sum_by-set jobs_of desks c now no_desk below in
      let one = sum_by-set jobs_at d.run.marks n status.Out status.Idle marks in
      let was : jobs_at (mark_of d.run n) ≡ 0 = ap jobs_at idle in
      omega (arith, all, one, was)
