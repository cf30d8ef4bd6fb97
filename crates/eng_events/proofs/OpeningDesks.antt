-- Clients of which none has begun an item.
use Rattle.std.proofs.Common.{◌≡◌, ℕ, suc, ◌<◌, List, [], ◌∷◌, length, subst, sym, ap, ◌∙◌, arith, inl, inr, refl, Option, Some, None}
use Rattle.std.specs.Prelude.{sum_by, slice_get}
use Rattle.std.proofs.lemmas.Bool.{cases_lt}
use Rattle.std.proofs.lemmas.List.{get_or_past, length-replicate}
use Rattle.std.proofs.lemmas.List.Sums.{sum_by-cons}
use Rattle.buf_pool.specs.Pool as pool
use Rattle.stripe_lock.specs.Table.{Table, IsIdle}
use Rattle.lay_core.specs.Layout.{Shape}
use Rattle.graph_mean.specs.Graph.{Held}
use Rattle.eng_cols.specs.declared.spot.Spot.{Spot}
use Rattle.eng_world.specs.declared.item.Item.{Item}
use Rattle.eng_clients.specs.declared.stage.Stage.TheVariants.{Nothing, Runs}
use Rattle.eng_clients.specs.Desk.{Desk, desk_at, no_desk}
use Rattle.eng_events.specs.Opened.{NoneOut}
use Rattle.eng_state.specs.Sound.{AreWell, SeatsOut, Locked, jobs_of}
use Rattle.eng_clients.specs.Fresh.{new_desk}

-- where no desk has a job out, none has
none-sum : (desks : List Desk) → ((c : ℕ) → jobs_of (desk_at desks c) ≡ 0) → sum_by jobs_of desks ≡ 0
none-sum [] none = refl
none-sum (d ∷ ds) none = let first : jobs_of d ≡ 0 = none 0 in let rest = none-sum ds (λ c. none (suc c)) in let all = sum_by-cons jobs_of d ds in omega (arith, first, rest, all)

module _ (desks : List Desk) (items : ℕ → List Item) (count : length desks ≡ 17) (fresh : (c : ℕ) → c < 17 → desk_at desks c ≡ new_desk (items c)) where
  -- what is so of a new desk and of none is so of each
  pub of-each : (P : Desk → Type 0) → ((c : ℕ) → P (new_desk (items c))) → P no_desk → (c : ℕ) → P (desk_at desks c)
  of-each P here past c = elim (cases_lt c 17) [
    | inl lt ↦ subst P (sym (fresh c lt)) (here c)
    | inr ge ↦ subst P (sym (get_or_past desks c no_desk (omega (arith, count, ge)))) past
  ]

  pub idle : (c : ℕ) → (desk_at desks c).stage ≡ Nothing
  idle = of-each (λ (d : Desk). d.stage ≡ Nothing) (λ c. refl) refl

  pub unreplied : (c : ℕ) → (desk_at desks c).replies ≡ []
  unreplied = of-each (λ (d : Desk). d.replies ≡ []) (λ c. refl) refl

  unleased : (c : ℕ) → (desk_at desks c).lease ≡ []
  unleased = of-each (λ (d : Desk). d.lease ≡ []) (λ c. refl) refl

  no-jobs : (c : ℕ) → jobs_of (desk_at desks c) ≡ 0
  no-jobs = of-each (λ (d : Desk). jobs_of d ≡ 0) (λ c. refl) refl

  pub not-runs : (c : ℕ) → (desk_at desks c).stage ≡ Runs → ⊥
  not-runs c r = let z : Nothing ≡ Runs = sym (idle c) ∙ r in let u : ⊥ = cc in u

  pub none-out : NoneOut desks
  none-out c n out = not-runs c out.runs

  pub no-sum : sum_by jobs_of desks ≡ 0
  no-sum = none-sum desks no-jobs

  -- an item of a desk is one of those that were handed in
  pub item-of : (c n : ℕ) (i : Item) → slice_get (desk_at desks c).items n ≡ Some i → slice_get (items c) n ≡ Some i
  item-of c n i = of-each-at c n i
    where
      of-each-at : (c n : ℕ) (i : Item) → slice_get (desk_at desks c).items n ≡ Some i → slice_get (items c) n ≡ Some i
      of-each-at c n i h = elim (cases_lt c 17) [
        | inl lt ↦ sym (ap (λ (d : Desk). slice_get d.items n) (fresh c lt)) ∙ h
        | inr ge ↦ let z : None ≡ Some i = sym (ap (λ (d : Desk). slice_get d.items n) (get_or_past desks c no_desk (omega (arith, count, ge)))) ∙ h in absurd (let u : ⊥ = cc in u)
      ]

  pub are-well : (y : Shape) (graphs : List Held) (p : pool.PoolView) → AreWell y graphs p desks
  are-well y graphs p = record {
    all = count;
    each = λ c lt. record {
      runs = λ r. absurd (not-runs c r);
      idle = λ ne. (unleased c, no-jobs c);
      spots = subst (λ (d : Desk). length d.spots ≡ 2048) (sym (fresh c lt)) (length-replicate {A = Option Spot} 2048 None);
      replies = let e = ap length (unreplied c) in omega (arith, e);
    };
    apart = λ c k ne i j lt. let e = ap length (unleased c) in absurd (omega (arith, e, lt));
  }

  pub seats-out : (p : pool.PoolView) → SeatsOut desks p
  seats-out p = record {
    away = λ c n b out. absurd (none-out c n out);
    held = λ c b r. absurd (not-runs c r);
    one = λ c n m b out. absurd (none-out c n out);
  }

  pub locked : (locks : Table) → IsIdle locks 17 → Locked desks locks
  locked locks none = record {
    owners = none.owners;
    each = λ c s r. absurd (not-runs c r);
    only = λ c s r. absurd (not-runs c r);
    idle = λ c ne. none.nothing c;
  }
