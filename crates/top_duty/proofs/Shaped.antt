-- A label of the configuration's shape is that of an array of so many columns.
use Rattle.std.proofs.Common.{◌≡◌, refl, ℕ, ◌==◌, Bool, true, false, Option, Some, None, option_map}
use Rattle.std.specs.Prelude.{if◌then◌else◌}
use Rattle.std.proofs.lemmas.Bool.{eqb-true}
use Rattle.raid_label.specs.Judged.{fault_in}
use Rattle.raid_label.specs.Steps.{shape_fault, fault_unless_same}
use Rattle.raid_label.specs.declared.fault.LabelFault.{LabelFault}
use Rattle.raid_label.specs.declared.fault.LabelFault.TheVariants.{Serial, Column, Shape}
use Rattle.raid_label.specs.declared.label.Label.{Label}
use Rattle.top_open.specs.declared.fault.OpenFault.{OpenFault}
use Rattle.top_open.specs.declared.fault.OpenFault.TheVariants as fault
use Rattle.top_open.specs.declared.plan.Plan.{Plan}
use Rattle.top_open.specs.Labels.{shape_refusal, refusal_of}
use Rattle.top_open.specs.Steps.{configured}
use Rattle.top_open.specs.Plan.{are_rows}
use Rattle.std.specs.Option.{option_or}

or_none : (a b : Option OpenFault) → option_or a b ≡ None → a ≡ None
or_none None b h = refl
or_none (Some f) b h = cc h

option_none : (c : ℕ) (a : Option LabelFault) → option_map (refusal_of c) a ≡ None → a ≡ None
option_none c None h = refl
option_none c (Some f) h = cc h

fault_none : (a b : Option LabelFault) → option_or a b ≡ None → a ≡ None
fault_none None b h = refl
fault_none (Some f) b h = cc h

same_number : (a b : ℕ) → fault_unless_same Shape a b ≡ None → a ≡ b
same_number a b h = go (a == b) refl h
  where
    go : (e : Bool) → (a == b) ≡ e → (if e then None else Some (Shape a b)) ≡ None → a ≡ b
    go true is h = eqb-true a b is
    go false is h = cc h

-- the first number of the shape
same_columns : (l w : Label) → shape_fault l w ≡ None → l.columns ≡ w.columns
unfolding shape_fault
same_columns l w h =
    same_number l.columns w.columns
    (fault_none (fault_unless_same Shape l.columns w.columns)
    (option_or (fault_unless_same Shape l.unit w.unit)
    (option_or (fault_unless_same Shape l.level w.level)
    (option_or (fault_unless_same Shape l.b w.b)
    (option_or (fault_unless_same Shape l.k w.k)
    (option_or (fault_unless_same Shape l.r w.r)
    (option_or (fault_unless_same Shape l.lambda w.lambda)
    (fault_unless_same Shape l.rows w.rows))))))) h)

-- one that isn't refused is that of an array of so many columns
pub shape_columns : (p : Plan) (n : ℕ) (l : Label) → shape_refusal p n l ≡ None → l.columns ≡ n
unfolding shape_refusal fault_in shape_fault
shape_columns p n l h =
    let w = configured p n l in
    same_columns l w
    (fault_none (shape_fault l w) (option_or (fault_unless_same Serial l.serial l.serial) (fault_unless_same Column l.column l.column))
    (option_none l.column (option_or (shape_fault l w) (option_or (fault_unless_same Serial l.serial l.serial) (fault_unless_same Column l.column l.column)))
    (or_none (option_map (refusal_of l.column) (option_or (shape_fault l w) (option_or (fault_unless_same Serial l.serial l.serial) (fault_unless_same Column l.column l.column))))
    (if are_rows p l.rows then None else Some (fault.Label l.column 4 l.rows p.step)) h)))
