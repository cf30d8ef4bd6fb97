-- What a line has to say of a place.
use Rattle.std.proofs.Common.{◌≡◌, ◌∙◌, ℕ, ◌<◌, List, [], ◌++◌, Option, Some, length, get_or, slice_get, sym, ap}
use Rattle.std.proofs.lemmas.List.{get_or_default}
use Rattle.std.proofs.lemmas.Option.{get_or_from_slice_get}
use Rattle.raid_assemble.specs.declared.sets.Set.{Set}
use Rattle.raid_assemble.specs.declared.sets.Standing.{Standing}
use Rattle.raid_text.specs.Text.{Text}
use Rattle.top_open.specs.declared.fronts.Front.{Front}
use Rattle.top_open.specs.declared.fronts.Front.TheVariants.{Away}
use Rattle.top_scan.specs.Lines.{bare_text, line_if, other_text, set_line, set_text}
use Rattle.top_scan.specs.Steps.{members_text, others_text, name_at, standing_at, bare_front, other_front, set_at}

-- what stands in a place, whatever is taken where nothing does
pub at_place : {X : Type 0} (xs : List X) (place : ℕ) (d x : X) → place < length xs → x ≡ get_or xs place x → get_or xs place d ≡ x
at_place xs place d x within is = get_or_default xs place d x within ∙ sym is

pub name_is : (names : List Text) (place : ℕ) (name : Text) → slice_get names place ≡ Some name → name_at names place ≡ name
name_is names place name is = get_or_from_slice_get names place name [] is

pub other_is : (names : List Text) (places : List Standing) (set place : ℕ) (standing : Standing) (front : Option (List ℕ)) (name : Text)
    → standing_at places place ≡ standing → front ≡ other_front set standing → slice_get names place ≡ Some name
    → other_text names places set place ≡ line_if front name
unfolding other_text
other_is names places set place standing front name standing_is front_is is =
    ap (λ (s : Standing). line_if (other_front set s) (name_at names place)) standing_is
    ∙ (ap (λ (f : Option (List ℕ)). line_if f (name_at names place)) (sym front_is)
    ∙ ap (λ (n : Text). line_if front n) (name_is names place name is))

pub bare_is : (names : List Text) (places : List Standing) (fronts : List Front) (place : ℕ) (standing : Standing) (held : Front) (front : Option (List ℕ)) (name : Text)
    → standing_at places place ≡ standing → get_or fronts place Away ≡ held → front ≡ bare_front held standing → slice_get names place ≡ Some name
    → bare_text names places fronts place ≡ line_if front name
unfolding bare_text
bare_is names places fronts place standing held front name standing_is held_is front_is is =
    ap (λ (s : Standing). line_if (bare_front (get_or fronts place Away) s) (name_at names place)) standing_is
    ∙ (ap (λ (h : Front). line_if (bare_front h standing) (name_at names place)) held_is
    ∙ (ap (λ (f : Option (List ℕ)). line_if f (name_at names place)) (sym front_is)
    ∙ ap (λ (n : Text). line_if front n) (name_is names place name is)))

pub set_is : (names : List Text) (places : List Standing) (sets : List Set) (set : ℕ) (own : Set) → set_at sets set ≡ own
    → set_text names places sets set ≡ set_line own ++ (members_text names places set own.columns ++ others_text names places set)
unfolding set_text
set_is names places sets set own is =
    ap (λ (s : Set). set_line s ++ (members_text names places set s.columns ++ others_text names places set)) is
