-- How a refusal of the components is that of the whole.
use Rattle.std.proofs.Common.{◌≡◌, Option, Ok, sym, subst, List}
use Rattle.raid_text.specs.Text.{Text}
use Rattle.top_fetch.specs.Answers.{RefusedAs}
use Rattle.top_fetch.specs.Fetched.{there_are}
use Rattle.top_fetch.proofs.Refusing.{refused_then}
use Rattle.top_scan.specs.Scanned.{list_in, names_in}
use Rattle.top_scan.proofs.LooksInTurn.{there_are_same}
use Rattle.top_status.specs.Refusals.{◌then◌}
use Rattle.top_status.specs.declared.status.Status.{Status}

-- the list is in its form, and one of its components is refused
pub refused_in : {D : Type 0} (s : Status) (texts : Text → Option Text) (home mid : Text → Option D) (list : Text) (names : List Text)
    → list_in texts list ≡ Ok names → ((n : Text) → mid n ≡ home n) → RefusedAs s (there_are mid names) → RefusedAs s (names_in texts home list)
unfolding names_in
refused_in s texts home mid list names is same refused =
    subst (λ w. RefusedAs s (w then λ names. there_are home names then λ there. Ok names)) (sym is)
    (refused_then s (there_are home names) _ (subst (λ w. RefusedAs s w) (there_are_same home mid names same) refused))
