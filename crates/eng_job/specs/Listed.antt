-- Lists that are ready for a job.
use Rattle.std.specs.Prelude.{◌≡◌, ◌≤◌, List, [], Vec, vec_capacity, All}
use Rattle.std.specs.declared.alloc.Global.{Global}
use Rattle.eng_job.specs.declared.job.Source.{Source}

-- each is empty, and has room for 2,048 sources
abbrev pub AreEmpty : List (Vec Source Global) → Type 0
AreEmpty lists = All (λ (l : Vec Source Global). (l.items ≡ []) × (2048 ≤ vec_capacity l)) lists
