-- Columns are in order as an array is opened, as a rebuild begins with them, and once some have died.
use Rattle.std.specs.Prelude.{◌≡◌, ◌⊎◌, ◌<◌, ℕ, List, length, true, false, Option, Some, None, Ok, IsSome, slice_get, slice_set}
use Rattle.std.proofs.Common.{refl, sym, ap, subst, inl, inr, ◌∙◌}
use Rattle.std.proofs.lemmas.Bool.{cases_eq}
use Rattle.std.proofs.lemmas.List.{length-set}
use Rattle.blk_disk.specs.declared.disk.Disk.{Ghosts}
use Rattle.lay_core.specs.Layout.{Shape, IsLayout, SparesLieByUnits}
use Rattle.eng_cols.specs.declared.column.Column.{Column}
use Rattle.eng_cols.specs.declared.column.Column.TheVariants as column
use Rattle.eng_cols.specs.Cols.{is_set_spread, passes}
use Rattle.eng_cols.proofs.Lists.{count_at_most, get_set_either, get_set_other}
use Rattle.eng_array.specs.declared.start.Start.{Start}
use Rattle.eng_array.specs.declared.start.Start.TheVariants as start
use Rattle.raid_conf.specs.Form.{IsConf}
use Rattle.raid_conf.specs.Layouts.{shape_lawful, shape_of}
use Rattle.raid_conf.proofs.ByUnits.{spares_by_units}
use Rattle.raid_conf.proofs.TableLaws.{shape-columns}
use Rattle.top_bay.specs.Asked.{Asked}
use Rattle.top_close.proofs.Counts.{none_passes}
use Rattle.top_duty.specs.declared.duty.Duty.{Duty as DeclaredDuty}
use Rattle.top_duty.specs.declared.duty.Duty.TheVariants as declared
use Rattle.top_duty.specs.Duty.{Admitted, Duty, OnArray, Shows, OneLabel, PrintConf, IsWanted, duty_by}
use Rattle.top_duty.specs.Steps.{columns_of}
use Rattle.top_duty.specs.Fit.{IsFit, IsStartIf}
use Rattle.top_duty.specs.Opening.{needs_of}
use Rattle.top_duty.specs.Views.{IsDutyOver, IsFitFor, admitted_by, duty_seen}
use Rattle.top_open.specs.declared.fronts.Front.{Front}
use Rattle.top_open.specs.Opening.{Opened, opened_seen}
use Rattle.top_serve.specs.Served.{IsKeptAs}
use Rattle.top_serve.specs.Setups.{with_start}
use Rattle.top_labelled.specs.Begun.{IsAnew}
use Rattle.raid_top.specs.Served.{AreUnfilledIf}
use Rattle.raid_top.specs.Ordered.{AreOrdered, IsOrdered}
use Rattle.raid_top.proofs.Gone.{set_spread}
use Rattle.raid_top.proofs.Labels.{unfilled_unlabelled}
use Rattle.raid_top.proofs.Wanted.{IsNamedFor, is_admitted, named_by}
use Rattle.eng_cols.proofs.Words.{all_done}

false_is : {A : Type 0} → false ≡ true → A
false_is h = absurd (let u : ⊥ = cc in u)

-- ## As an array is opened

module _ {D : Type 0} (g : Ghosts D) (k : Asked) (o : Opened) (devices : List (Option D)) (conf : IsConf k.conf) (fit : IsFit g k o devices) where
  abbrev y : Shape
  y = shape_of k.conf o.rows

  opened_ordered : AreOrdered y o.columns
  opened_ordered = record {
    count = fit.entries ∙ sym (shape-columns k.conf o.rows conf);
    spread = λ c e one two. count_at_most is_set_spread o.columns fit.spread c e (ap (passes is_set_spread) one) (ap (passes is_set_spread) two);
    spares = λ c s is within. fit.spares c s (all_done y.stripes) (set_spread y o.columns c is) within;
  }

  -- ## As a rebuild begins with them

  filled : (c d : ℕ) → AreOrdered y (slice_set o.columns c (column.Filling d 0))
  filled c d = record {
    count = length-set o.columns c (column.Filling d 0) ∙ opened_ordered.count;
    spread = λ e f one two. opened_ordered.spread e f (was e one) (was f two);
    spares = λ e s is within. opened_ordered.spares e s (was e is) within;
  }
    where
      was : (e : ℕ) → slice_get (slice_set o.columns c (column.Filling d 0)) e ≡ Some column.Spread → slice_get o.columns e ≡ Some column.Spread
      was e is = elim (get_set_either o.columns c e (column.Filling d 0)) [
        | inl set ↦ let z : Some (column.Filling d 0) ≡ Some column.Spread = sym set ∙ is in absurd (let u : ⊥ = cc in u)
        | inr old ↦ sym old ∙ is
      ]

  spread_to : (c : ℕ) → ((e : ℕ) → slice_get o.columns e ≡ Some column.Spread → ⊥) → ((s : ℕ) → s < y.stripes → IsSome (y.spare s)) → AreOrdered y (slice_set o.columns c column.Spread)
  spread_to c none each = record {
    count = length-set o.columns c column.Spread ∙ opened_ordered.count;
    spread = λ e f one two. here e one ∙ sym (here f two);
    spares = λ e s is within. each s within;
  }
    where
      here : (e : ℕ) → slice_get (slice_set o.columns c column.Spread) e ≡ Some column.Spread → e ≡ c
      here e is = elim (cases_eq e c) [
        | inl same ↦ same
        | inr other ↦ absurd (none e (sym (get_set_other o.columns c e column.Spread other) ∙ is))
      ]

  started_ordered : (how : Option Start) → IsStartIf g k o devices how → AreOrdered y (with_start how o.columns)
  started_ordered None h = opened_ordered
  started_ordered (Some (start.Fill c d most)) h = filled c d
  started_ordered (Some (start.Resume c most)) h = opened_ordered
  started_ordered (Some (start.Spread c)) h =
      spread_to c (λ e is. false_is (sym (none_passes is_set_spread o.columns h.may.1.none_spread e) ∙ ap (passes is_set_spread) is)) h.may.1.each

-- ## Once some have died

-- one that is spread in the end was so
spread_before : (was now : Option Column) → IsKeptAs was now → now ≡ Some column.Spread → was ≡ Some column.Spread
spread_before None now kept is = sym kept ∙ is
spread_before (Some (column.Live d)) now kept is = sym kept ∙ is
spread_before (Some column.Dead) now kept is = sym kept ∙ is
spread_before (Some (column.Filling d m)) now (inl kept) is = let z : Some (column.Live d) ≡ Some column.Spread = sym kept ∙ is in absurd (let u : ⊥ = cc in u)
spread_before (Some (column.Filling d m)) now (inr kept) is = let z : Some (column.Filling d kept.0) ≡ Some column.Spread = sym kept.1 ∙ is in absurd (let u : ⊥ = cc in u)
spread_before (Some column.Spread) now kept is = refl

pub ended_ordered : (y : Shape) (cause : ℕ → Type 0) (old new : List Column) → length new ≡ length old
    → ((c : ℕ) → IsKeptAs (slice_get old c) (slice_get new c) ⊎ ((slice_get new c ≡ Some column.Dead) × cause c)) → AreOrdered y old → AreOrdered y new
ended_ordered y cause old new count each order = record {
  count = count ∙ order.count;
  spread = λ c e one two. order.spread c e (was c one) (was e two);
  spares = λ c s is within. order.spares c s (was c is) within;
}
  where
    was : (c : ℕ) → slice_get new c ≡ Some column.Spread → slice_get old c ≡ Some column.Spread
    was c is = elim (each c) [
      | inl kept ↦ spread_before (slice_get old c) (slice_get new c) kept is
      | inr dead ↦ let z : Some column.Spread ≡ Some column.Dead = sym is ∙ dead.0 in absurd (let u : ⊥ = cc in u)
    ]

-- ## What is admitted

module _ {D : Type 0} (g : Ghosts D) (k : Asked) (devices : List (Option D)) (conf : IsConf k.conf) where
  pub duty_ordered : (sizes : List ℕ) (fronts : List Front) (d : DeclaredDuty) → IsDutyOver k sizes fronts d → IsFitFor g k devices d → (a : Admitted) → duty_seen k d ≡ OnArray a → IsOrdered a
  duty_ordered sizes fronts (declared.OnArray r) over fit a is =
      let same : admitted_by k r ≡ a = cc is in
      let ordered : IsOrdered (admitted_by k r) = record {
        law = subst (λ (z : Shape). IsLayout z) over.1.made.shape (shape_lawful r.layout);
        units = subst (λ (z : Shape). SparesLieByUnits z) over.1.made.shape (spares_by_units r.layout);
        opened = opened_ordered g k (opened_seen r.opened) devices conf fit.0;
        started = started_ordered g k (opened_seen r.opened) devices conf fit.0 r.start fit.1;
      } in
      subst IsOrdered same ordered
  duty_ordered sizes fronts (declared.Shows o) over fit a is = absurd (let z : ⊥ = cc is in z)
  duty_ordered sizes fronts declared.OneLabel over fit a is = absurd (let z : ⊥ = cc is in z)
  duty_ordered sizes fronts declared.PrintConf over fit a is = absurd (let z : ⊥ = cc is in z)

-- ## What is due

-- Beside that, no column of an array without labels is filling; and the column that is rebuilt anew is the one that the action names.
pub record IsArrayInOrder (a : Admitted) : Type 0 where
  pub ordered : IsOrdered a
  pub unfilled : AreUnfilledIf a.opened.newest (columns_of a)
  pub named : (c : ℕ) → IsAnew a.start c → (needs_of a.asked).excused ≡ Some c

abbrev pub IsInOrder : Duty → Type 0
IsInOrder (OnArray a) = IsArrayInOrder a
IsInOrder (Shows k o) = Unit {0}
IsInOrder (OneLabel k) = Unit {0}
IsInOrder (PrintConf k) = Unit {0}

anew_named : (how : Option Start) (columns : List Column) (excused : Option ℕ) → ((s : Start) → how ≡ Some s → IsNamedFor excused columns s) → (c : ℕ) → IsAnew how c → excused ≡ Some c
anew_named None columns excused named c anew = absurd anew
anew_named (Some (start.Fill e d most)) columns excused named c anew = named (start.Fill e d most) refl ∙ ap (λ (n : ℕ). Some n) anew
anew_named (Some (start.Resume e most)) columns excused named c anew = absurd anew
anew_named (Some (start.Spread e)) columns excused named c anew = named (start.Spread e) refl ∙ ap (λ (n : ℕ). Some n) anew

pub in_order : (k : Asked) (sizes : List ℕ) (fronts : List Front) (duty : Duty) → IsWanted (duty_by k sizes fronts) (Ok duty) → ((a : Admitted) → duty ≡ OnArray a → IsOrdered a) → IsInOrder duty
in_order k sizes fronts (OnArray a) wanted ordered =
    let by = is_admitted k sizes fronts a wanted in
    record {
      ordered = ordered a refl;
      unfilled = subst (λ (x : Admitted). AreUnfilledIf x.opened.newest (columns_of x)) by.3 (unfilled_unlabelled k sizes fronts by.0 by.2 by.0.newest refl);
      named = anew_named a.start (columns_of a) (needs_of a.asked).excused (named_by k sizes fronts (OnArray a) wanted);
    }
in_order k sizes fronts (Shows x o) wanted ordered = tt
in_order k sizes fronts (OneLabel x) wanted ordered = tt
in_order k sizes fronts (PrintConf x) wanted ordered = tt
