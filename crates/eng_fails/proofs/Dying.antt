-- What the death of a column makes of its device, of units, and of the nodes that read them.
use Rattle.std.proofs.Common.{◌≡◌, ℕ, suc, ◌<◌, ◌+◌, List, length, ap, ◌∙◌, arith, inl, inr, refl, Bool, true, Option, Some, None, ◌&&◌, ◌||◌, not}
use Rattle.std.specs.Prelude.{slice_get, slice_index, slice_set, nat_lt}
use Rattle.std.proofs.lemmas.Bool.{lt-ltb}
use Rattle.blk_disk.specs.declared.disk.Disk.{Ghosts as DiskGhosts}
use Rattle.lay_core.specs.Layout.{Shape}
use Rattle.graph_mean.specs.declared.graph.Node.{Node}
use Rattle.graph_mean.specs.declared.graph.Node.TheVariants.{Rd}
use Rattle.graph_mean.specs.Graph.{kind_at}
use Rattle.graph_mean.specs.Steps.{reads, stripe_of}
use Rattle.eng_cols.specs.Cols.{ColumnState, Columns, Live, Dead, Filling, Spread, device_of, HasDevice}
use Rattle.eng_cols.specs.Changes.{killed}
use Rattle.eng_cols.specs.Seats.{is_available}
use Rattle.eng_parts.specs.Shelf.{Shelved}
use Rattle.eng_clients.specs.Desk.{Desk}
use Rattle.eng_state.specs.Failing.{dying, failed_after}
use Rattle.eng_world.specs.Failing.{device_on}
use Rattle.eng_state.specs.Sound.{Seated}
use Rattle.eng_state.proofs.Leaving.{seen-below}

-- ## The device

pub column-device : (cols : List ColumnState) (c device : ℕ) (o : Option ColumnState) → slice_get cols c ≡ o → device_of o ≡ Some device → HasDevice cols c device
column-device cols c device None is e = let z : None ≡ Some device = e in absurd (let u : ⊥ = cc in u)
column-device cols c device (Some (Live d)) is e = let same : d ≡ device = cc in inl (is ∙ ap (λ (j : ℕ). Some (Live j)) same)
column-device cols c device (Some (Filling d done)) is e = let same : d ≡ device = cc in inr (done, is ∙ ap (λ (j : ℕ). Some (Filling j done)) same)
column-device cols c device (Some Dead) is e = let z : None ≡ Some device = e in absurd (let u : ⊥ = cc in u)
column-device cols c device (Some (Spread done)) is e = let z : None ≡ Some device = e in absurd (let u : ⊥ = cc in u)

-- what is made of a column by its device is made of it by its kind
pub column-device-on : (o : Option ColumnState) (c device : ℕ) → device_of o ≡ Some device → device_on o c ≡ device
column-device-on None c device e = let z : None ≡ Some device = e in absurd (let u : ⊥ = cc in u)
column-device-on (Some (Live d)) c device e = cc
column-device-on (Some (Filling d done)) c device e = cc
column-device-on (Some Dead) c device e = let z : None ≡ Some device = e in absurd (let u : ⊥ = cc in u)
column-device-on (Some (Spread done)) c device e = let z : None ≡ Some device = e in absurd (let u : ⊥ = cc in u)

pub column-none-on : (o : Option ColumnState) (c : ℕ) → device_of o ≡ None → device_on o c ≡ c
column-none-on None c e = refl
column-none-on (Some (Live d)) c e = let z : Some d ≡ None = e in absurd (let u : ⊥ = cc in u)
column-none-on (Some (Filling d done)) c e = let z : Some d ≡ None = e in absurd (let u : ⊥ = cc in u)
column-none-on (Some Dead) c e = refl
column-none-on (Some (Spread done)) c e = refl

pub column-failed : (o : Option ColumnState) (failed : List Bool) (device : ℕ) → device_of o ≡ Some device → failed_after o failed ≡ slice_set failed device true
column-failed None failed device e = let z : None ≡ Some device = e in absurd (let u : ⊥ = cc in u)
column-failed (Some (Live d)) failed device e = let same : d ≡ device = cc in ap (λ (j : ℕ). slice_set failed j true) same
column-failed (Some (Filling d done)) failed device e = let same : d ≡ device = cc in ap (λ (j : ℕ). slice_set failed j true) same
column-failed (Some Dead) failed device e = let z : None ≡ Some device = e in absurd (let u : ⊥ = cc in u)
column-failed (Some (Spread done)) failed device e = let z : None ≡ Some device = e in absurd (let u : ⊥ = cc in u)

pub column-unfailed : (o : Option ColumnState) (failed : List Bool) → device_of o ≡ None → failed_after o failed ≡ failed
column-unfailed None failed e = refl
column-unfailed (Some (Live d)) failed e = let z : Some d ≡ None = e in absurd (let u : ⊥ = cc in u)
column-unfailed (Some (Filling d done)) failed e = let z : Some d ≡ None = e in absurd (let u : ⊥ = cc in u)
column-unfailed (Some Dead) failed e = refl
column-unfailed (Some (Spread done)) failed e = refl

-- a device of a column has a slot
pub device-below : {D : Type 0} → (disk : DiskGhosts D) (y : Shape) (cols : Columns) (s : Shelved D) → Seated disk y cols s → (c device : ℕ) → HasDevice cols.states c device → device < length s.slots
device-below disk y cols s seated c device h = let t = seated.there c device h in seen-below s device t.0 t.1

-- ## Units that become missing

pub dying-here : (y : Shape) (cols : List ColumnState) (k : ℕ) (d : Desk) (q i : ℕ) → q < d.task.stripes → i < y.width → dying y cols k d q i ≡ (is_available y cols (slice_index d.map.stripes q) i && not (is_available y (killed cols k) (slice_index d.map.stripes q) i))
dying-here y cols k d q i hq hi =
    ap (λ (b : Bool). (b && nat_lt i y.width) && (is_available y cols (slice_index d.map.stripes q) i && not (is_available y (killed cols k) (slice_index d.map.stripes q) i))) (lt-ltb q d.task.stripes hq)
    ∙ ap (λ (b : Bool). b && (is_available y cols (slice_index d.map.stripes q) i && not (is_available y (killed cols k) (slice_index d.map.stripes q) i))) (lt-ltb i y.width hi)

-- whether a read reads such a unit
pub read-dies : (y : Shape) (cols : List ColumnState) (k : ℕ) (d : Desk) (n i b : ℕ) → kind_at d.run.graph n ≡ Rd i b → stripe_of d.run.graph b < d.task.stripes → i < y.width
    → reads d.run.graph (kind_at d.run.graph n) (dying y cols k d) ≡ (is_available y cols (slice_index d.map.stripes (stripe_of d.run.graph b)) i && not (is_available y (killed cols k) (slice_index d.map.stripes (stripe_of d.run.graph b)) i))
read-dies y cols k d n i b is hq hi = ap (λ (v : Node). reads d.run.graph v (dying y cols k d)) is ∙ dying-here y cols k d (stripe_of d.run.graph b) i hq hi
