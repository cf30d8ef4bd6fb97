-- The arrays of the tests may be run over.
use Rattle.std.proofs.Common.{◌≡◌, ◌⊎◌, ◌≤◌, ◌+◌, ◌*◌, inl, inr, ℕ, zero, suc, List, [], ◌∷◌, true, false, length, Option, Some, None, slice_get, ap, subst, sym, ◌∙◌, arith}
use Rattle.std.specs.Prelude.{All, count_by, slice_set}
use Rattle.std.proofs.lemmas.List.Elements.{All-nil, All-push}
use Rattle.blk_disk.specs.declared.disk.Disk.{Ghosts as DiskGhosts}
use Rattle.lay_core.specs.Layout.{Shape}
use Rattle.lay_core.specs.declared.layout.Layout.{Ghosts as LayoutGhosts}
use Rattle.lay_plain.specs.LeftSymmetric.{left_symmetric}
use Rattle.eng_array.specs.declared.start.Start.{Start}
use Rattle.eng_array.specs.declared.start.Start.TheVariants as start
use Rattle.eng_cols.specs.declared.column.Column.{Column}
use Rattle.eng_cols.specs.declared.column.Column.TheVariants as column
use Rattle.eng_cols.specs.Cols.{IsFor, is_set_filling, HasDeviceOn}
use Rattle.eng_cols.specs.Lost.{NotLost}
use Rattle.eng_cols.specs.Stripes.{states_of}
use Rattle.eng_parts.specs.declared.setup.Setup.{Setup}
use Rattle.raid_label.specs.Bytes.{IsHeld}
use Rattle.top_rounds.specs.Labels.{IsNumbered}
use Rattle.crew_tests.specs.Ready.{IsReadyToServe}
use Rattle.top_labelled.specs.declared.labelled.Labelled.{Labelled}
use Rattle.top_labelled.specs.Given.{CanRunLabelled, IsRebuildable, RebuildsIf}
use Rattle.top_labelled.proofs.Arrays.{labels-of}

two-numbered : All (IsNumbered 2) (column.Live 0 ∷ column.Live 1 ∷ [])
two-numbered = All-push (IsNumbered 2) (column.Live 0 ∷ []) (column.Live 1) (All-push (IsNumbered 2) [] (column.Live 0) (All-nil (IsNumbered 2)) (omega arith)) (omega arith)

-- neither column has the second device once its own is dead
none-on-second : (k : ℕ) → HasDeviceOn (column.Live 0 ∷ column.Dead ∷ []) k 1 → ⊥
none-on-second zero h = let z : Some 0 ≡ Some 1 = h in let e : zero ≡ suc zero = cc in omega (arith, e)
none-on-second (suc zero) h = let z : None ≡ Some 1 = h in let u : ⊥ = cc in u
none-on-second (suc (suc k)) h = let z : None ≡ Some 1 = h in let u : ⊥ = cc in u

-- nor is any filling
none-filling : (c d m : ℕ) → slice_get (column.Live 0 ∷ column.Live 1 ∷ []) c ≡ Some (column.Filling d m) → ⊥
none-filling zero d m h = let z : Some (column.Live 0) ≡ Some (column.Filling d m) = h in let u : ⊥ = cc in u
none-filling (suc zero) d m h = let z : Some (column.Live 1) ≡ Some (column.Filling d m) = h in let u : ⊥ = cc in u
none-filling (suc (suc c)) d m h = let z : None ≡ Some (column.Filling d m) = h in let u : ⊥ = cc in u

-- the second column may be rebuilt onto its own device; `dead` are the columns that were judged with it dead
pub two-rebuilds : {L D : Type 0} (lay : LayoutGhosts L) (disk : DiskGhosts D) (setup : Setup L D) (most : ℕ) (first second : D) (dead : List Column) → lay.shape setup.layout ≡ left_symmetric 2 1 64 → setup.columns.items ≡ column.Live 0 ∷ column.Live 1 ∷ []
    → setup.devices.items ≡ Some first ∷ Some second ∷ [] → 128 ≤ disk.size second → setup.trace ≡ false → dead ≡ column.Live 0 ∷ column.Dead ∷ [] → NotLost (lay.shape setup.layout) (states_of (lay.shape setup.layout) dead) → IsRebuildable lay disk setup (start.Fill 1 1 most)
two-rebuilds lay disk setup most first second dead shape columns devices large trace is kept =
    let two : length setup.columns.items ≡ 2 = ap (λ (cs : List Column). length cs) columns in
    let gone : slice_set setup.columns.items 1 column.Dead ≡ column.Live 0 ∷ column.Dead ∷ [] = ap (λ (cs : List Column). slice_set cs 1 column.Dead) columns in
    record {
      within = omega (arith, two);
      kept = subst (λ (cs : List Column). NotLost (lay.shape setup.layout) (states_of (lay.shape setup.layout) cs)) (is ∙ sym gone) kept;
      alone = λ c d m fills. absurd (none-filling c d m (subst (λ (cs : List Column). slice_get cs c ≡ Some (column.Filling d m)) columns fills));
      may = record {
        target = (
          record { dead = ap (λ (cs : List Column). slice_get cs 1) gone; none_filling = ap (λ (cs : List Column). count_by is_set_filling cs) gone },
          record {
            there = second;
            there_is = ap (λ (ds : List (Option _)). slice_get ds 1) devices;
            size = subst (λ (y : Shape). 64 + y.rows * y.unit_sectors ≤ disk.size second) (sym shape) large;
            unused = λ k has. none-on-second k (subst (λ (cs : List Column). HasDeviceOn cs k 1) gone has);
          },
        );
        room = λ on. let z : false ≡ true = sym trace ∙ on in absurd (let u : ⊥ = cc in u);
      };
      seated = omega (arith, two);
    }

-- so what is asked may be, if that is it
pub two-asked : {L D : Type 0} (lay : LayoutGhosts L) (disk : DiskGhosts D) (setup : Setup L D) (asked : Option Start) → (asked ≡ None) ⊎ ((most : ℕ) × (asked ≡ Some (start.Fill 1 1 most))) → ((most : ℕ) → IsRebuildable lay disk setup (start.Fill 1 1 most)) → RebuildsIf lay disk setup asked
two-asked lay disk setup asked why can = elim why [
  | inl none ↦ subst (λ (o : Option Start). RebuildsIf lay disk setup o) (sym none) tt
  | inr is ↦ subst (λ (o : Option Start). RebuildsIf lay disk setup o) (sym is.1) (can is.0)
]

-- the judge was shown these columns
pub two-can-run : {L D : Type 0} (lay : LayoutGhosts L) (disk : DiskGhosts D) (l : Labelled L D) (shown : List Column) → IsReadyToServe lay disk l.setup → lay.shape l.setup.layout ≡ left_symmetric 2 1 64 → l.setup.columns.items ≡ column.Live 0 ∷ column.Live 1 ∷ []
    → shown ≡ l.setup.columns.items → NotLost (lay.shape l.setup.layout) (states_of (lay.shape l.setup.layout) shown) → IsHeld l.label → l.label.columns ≡ 2 → l.label.counter ≡ 5 → IsFor (lay.shape l.setup.layout) l.judge → l.room ≡ 1024 → RebuildsIf lay disk l.setup l.start → CanRunLabelled lay disk l
two-can-run lay disk l shown ready shape columns are kept held numbered counter judge room rebuilds =
    let two : length l.setup.columns.items ≡ 2 = ap (λ (cs : List Column). length cs) columns in
    let unit : (lay.shape l.setup.layout).unit_sectors ≡ 1 = ap (λ (y : Shape). y.unit_sectors) shape in
    record {
      setup = ready.may;
      few = ready.few;
      trace = ready.trace;
      kept = subst (λ (cs : List Column). NotLost (lay.shape l.setup.layout) (states_of (lay.shape l.setup.layout) cs)) are kept;
      array = labels-of lay disk l.setup ready.may (omega (arith, two)) (subst (λ (cs : List Column). All (IsNumbered (length cs)) cs) (sym columns) two-numbered);
      held = record { held = held; count = numbered ∙ sym two };
      counter = omega (arith, counter);
      judge = judge;
      room = omega (arith, unit, room);
      rebuilds = rebuilds;
    }
