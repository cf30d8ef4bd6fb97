-- The causes as the checker looks for them: each by the record of Refusals, which IsCause spells out.
use Rattle.std.specs.Prelude.{◌≡◌, ◌≢◌, ℕ, zero, suc, ◌<◌, ◌⊎◌, count_by, ◌+◌, ◌*◌, length}
use Rattle.graph_mean.specs.declared.refusal.Refusal.{Refusal}
use Rattle.graph_mean.specs.declared.refusal.Refusal.TheVariants.{Large, Index, Order, Commits, Ends, Assigned, Unordered, LateRead, EarlyWrite, Missing as OfMissingUnit, Twice, Mixed, WrongValue, WrongReturn}
use Rattle.graph_mean.specs.Graph.{View, edge_count}
use Rattle.graph_mean.specs.Task.{Aim, Missing, data_units}
use Rattle.graph_mean.specs.Refusals as causes

-- a buffer (0), a node (1) or a return (2) that names what there isn't
abbrev pub IsForeign : View → Aim → ℕ → ℕ → Type 0
IsForeign g t zero place = causes.IsForeignBuf g t place
IsForeign g t (suc zero) place = causes.IsForeignNode g t place
IsForeign g t (suc (suc zero)) place = causes.IsForeignRet g t place
IsForeign g t (suc (suc (suc what))) place = ⊥

-- a buffer (0) or an exclusive-or (1) whose ranges are wrong
abbrev pub IsMixed : View → Aim → ℕ → ℕ → Type 0
IsMixed g t zero place = causes.IsBadBuf g t place
IsMixed g t (suc zero) place = causes.IsMixed g place
IsMixed g t (suc (suc what)) place = ⊥

-- the cause of this refusal holds, at the place and with the numbers that it names
abbrev pub HasCause : View → Aim → Missing → Refusal → Type 0
HasCause g t missing Large = (2048 < length g.nodes) ⊎ ((2048 < length g.bufs) ⊎ (16384 < edge_count g))
HasCause g t missing (Index what place) = IsForeign g t what place
HasCause g t missing (Order node) = causes.IsDisordered g node
HasCause g t missing (Commits count) =
    (count ≡ count_by (λ v. causes.is_commit v.kind) g.nodes) × (count ≢ 1)
HasCause g t missing (Ends count node) =
    (count ≡ count_by (λ v. causes.is_end v.kind) g.nodes)
    × (((count ≢ 1) × (node ≡ 0)) ⊎ ((count ≡ 1) × causes.IsUnended g node))
HasCause g t missing (Assigned buffer times) = causes.IsMisassigned g buffer × (times ≡ causes.made_times g buffer)
HasCause g t missing (Unordered node buffer) = causes.IsUnordered g node buffer
HasCause g t missing (LateRead node) = causes.IsLateRead g node
HasCause g t missing (EarlyWrite node) = causes.IsEarlyWrite g node
HasCause g t missing (OfMissingUnit node) = causes.IsOfMissing g t missing node
HasCause g t missing (Twice first second) = causes.IsTwice g t first second
HasCause g t missing (Mixed what place) = IsMixed g t what place
HasCause g t missing (WrongValue stripe unit offset) = causes.IsWrongValue g t missing stripe unit offset
HasCause g t missing (WrongReturn block) =
    (s : ℕ) × (i : ℕ) × (o : ℕ) × (block ≡ (s * data_units t + i) * t.unit_sectors + o)
    × causes.IsWrongReturn g t missing s i o
