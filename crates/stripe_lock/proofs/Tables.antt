-- Tables of locks by their rows.
use Rattle.std.proofs.Common.{◌≡◌, ◌≢◌, ◌↔◌, ℕ, ◌<◌, Bool, not, List, [], ◌∷◌, None, Some, IsTrue, IsFalse, refl, sym, ap, ◌∙◌, subst, inl, inr, arith}
use Rattle.std.proofs.lemmas.Bool.{cases_eq, not-false}
use Rattle.stripe_lock.specs.declared.mode.Mode.{Mode}
use Rattle.stripe_lock.specs.declared.mode.Mode.TheVariants.{Share}
use Rattle.stripe_lock.specs.declared.row.Row.{Row}
use Rattle.stripe_lock.specs.Rows.{mode_at, HoldsNone, IsBarred, Grows, IsSound}
use Rattle.stripe_lock.specs.Table.{Table, owners_of, mode_of, HoldsNothing, IsIdle, IsApart, Conflict, Acquires, Releases, IsTable}
use Rattle.stripe_lock.proofs.Holders.{both_share}
use Rattle.stripe_lock.proofs.Rows.{at_head, past_head}
use Rattle.stripe_lock.proofs.Leaving.{gone, gone_own, gone_other, gone_sound}

-- a table as its type has it
abbrev pub table_of : ℕ → List Row → Table
table_of owners rows = record { owners = owners; rows = rows }

apart_rows : (rows : List Row) (one other stripe : ℕ) (mine theirs : Mode) → one ≢ other → mode_at rows one stripe ≡ Some mine → mode_at rows other stripe ≡ Some theirs → (mine ≡ Share) × (theirs ≡ Share)
apart_rows [] one other stripe mine theirs apart first second = absurd cc
apart_rows (row ∷ rows) one other stripe mine theirs apart first second = elim (cases_eq row.stripe stripe) [
  | inl same ↦ both_share row.holder one other mine theirs apart (sym (at_head row rows one stripe same) ∙ first) (sym (at_head row rows other stripe same) ∙ second)
  | inr away ↦ apart_rows rows one other stripe mine theirs apart (sym (past_head row rows one stripe away) ∙ first) (sym (past_head row rows other stripe away) ∙ second)
]

pub apart_always : (table : Table) → IsApart table
unfolding mode_of
apart_always table one other stripe mine theirs apart first second = apart_rows table.rows one other stripe mine theirs apart first second

pub idle : (owners : ℕ) (rows : List Row) → rows ≡ [] → IsIdle (table_of owners rows) owners
unfolding owners_of mode_of
idle owners rows none = record { owners = refl; nothing = λ owner stripe. ap (λ (xs : List Row). mode_at xs owner stripe) none }

module _ (table : Table) (owners : ℕ) (rows : List Row) (is : table_of owners rows ≡ table) where
  rows_are : table.rows ≡ rows
  rows_are = sym (ap (λ (t : Table). t.rows) is)

  pub owner_few : (owner capacity : ℕ) → IsTable owners rows capacity → owner < owners_of table → owner < 17
  unfolding owners_of
  owner_few owner capacity kept low = let e : owners ≡ table.owners = ap (λ (t : Table). t.owners) is in let f = kept.few in let l : owner < table.owners = low in omega arith

  pub holds_none : (owner : ℕ) → HoldsNothing table owner → HoldsNone rows owner
  unfolding mode_of
  holds_none owner none stripe = let n : mode_at table.rows owner stripe ≡ None = none stripe in ap (λ (xs : List Row). mode_at xs owner stripe) (sym rows_are) ∙ n

  pub conflict_if_barred : (owner : ℕ) (stripes : List ℕ) (mode : Mode) → IsBarred rows owner stripes mode → Conflict table owner stripes mode
  unfolding mode_of
  conflict_if_barred owner stripes mode b = record {
    other = b.other;
    stripe = b.stripe;
    theirs = b.theirs;
    apart = b.apart;
    wanted = b.wanted;
    held = ap (λ (xs : List Row). mode_at xs b.other b.stripe) rows_are ∙ b.held;
    alone = b.alone;
  }

  pub barred_if_conflict : (owner : ℕ) (stripes : List ℕ) (mode : Mode) → Conflict table owner stripes mode → IsBarred rows owner stripes mode
  unfolding mode_of
  barred_if_conflict owner stripes mode k = record {
    other = k.other;
    stripe = k.stripe;
    theirs = k.theirs;
    apart = k.apart;
    wanted = k.wanted;
    held = let h : mode_at table.rows k.other k.stripe ≡ Some k.theirs = k.held in ap (λ (xs : List Row). mode_at xs k.other k.stripe) (sym rows_are) ∙ h;
    alone = k.alone;
  }

  pub refused_if : (owner : ℕ) (stripes : List ℕ) (mode : Mode) (barred : Bool) → (IsTrue barred ↔ IsBarred rows owner stripes mode) → IsFalse (not barred) ↔ Conflict table owner stripes mode
  refused_if owner stripes mode barred says = (
    λ refused. conflict_if_barred owner stripes mode (says.0 (not-false barred refused)),
    λ conflict. ap not (says.1 (barred_if_conflict owner stripes mode conflict)),
  )

  pub takes : (new : List Row) (owner : ℕ) (stripes : List ℕ) (mode : Mode) → HoldsNothing table owner → Grows rows owner stripes mode new → Acquires table owner stripes mode (table_of owners new)
  unfolding mode_of owners_of
  takes new owner stripes mode none grows = record {
    owners = ap (λ (t : Table). t.owners) is;
    each = λ stripe has. grows.each stripe has;
    only = λ stripe absent. grows.only stripe absent ∙ holds_none owner none stripe;
    others = λ other stripe apart. grows.others other stripe apart ∙ ap (λ (xs : List Row). mode_at xs other stripe) (sym rows_are);
  }

  pub releases : (new : List Row) (owner : ℕ) → owner < 17 → IsSound rows → new ≡ gone owner rows → Releases table owner (table_of owners new)
  unfolding mode_of owners_of
  releases new owner low sound new_is = record {
    owners = ap (λ (t : Table). t.owners) is;
    nothing = λ stripe. ap (λ (xs : List Row). mode_at xs owner stripe) new_is ∙ gone_own owner (omega arith) rows stripe;
    others = λ other stripe apart.
        ap (λ (xs : List Row). mode_at xs other stripe) new_is
        ∙ (gone_other owner (omega arith) rows other stripe sound.ascending apart ∙ ap (λ (xs : List Row). mode_at xs other stripe) (sym rows_are));
  }

pub kept_after_leave : (rows new : List Row) (owner : ℕ) → owner < 17 → IsSound rows → new ≡ gone owner rows → IsSound new
kept_after_leave rows new owner low sound new_is = subst IsSound (sym new_is) (gone_sound owner (omega arith) rows sound)
