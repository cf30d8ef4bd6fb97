-- How the refusal of a part is that of the whole.
use Rattle.std.specs.Prelude.{Result}
use Rattle.std.proofs.Common.{ap}
use Rattle.top_status.specs.declared.status.Status.{Status}
use Rattle.top_status.specs.declared.status.Status.TheVariants as status
use Rattle.top_status.specs.Refusals.{Refused, ◌then◌}
use Rattle.top_fetch.specs.Answers.{RefusedAs}

-- what a refused part leads to is refused so too
pub refused_then : {A B : Type 0} (s : Status) (w : Result A Refused) (f : A → Result B Refused) → RefusedAs s w → RefusedAs s (w then f)
refused_then status.BayFault w f h = tt
refused_then status.Memory w f h = tt
refused_then status.Ok w f h = ap (λ x. x then f) h
refused_then (status.Usage i) w f h = ap (λ x. x then f) h
refused_then (status.Conf l c) w f h = ap (λ x. x then f) h
refused_then (status.Script l c) w f h = ap (λ x. x then f) h
refused_then (status.GraphText l c) w f h = ap (λ x. x then f) h
refused_then (status.NoFile n) w f h = ap (λ x. x then f) h
refused_then status.SinkFault w f h = ap (λ x. x then f) h
refused_then (status.Lost a b c) w f h = ap (λ x. x then f) h
refused_then (status.Label a b c d) w f h = ap (λ x. x then f) h
refused_then (status.Small a b c) w f h = ap (λ x. x then f) h
refused_then (status.NotInSync n) w f h = ap (λ x. x then f) h
refused_then status.NoSpare w f h = ap (λ x. x then f) h
refused_then (status.LongText n) w f h = ap (λ x. x then f) h
refused_then status.NoRebuild w f h = ap (λ x. x then f) h
refused_then (status.Rebuilding c) w f h = ap (λ x. x then f) h
