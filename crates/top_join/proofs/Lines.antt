-- Join lines one after another, as a loop takes them.
use Rattle.std.proofs.Common.{◌≡◌, ℕ, ◌+◌, List, [], ◌∷◌, ◌++◌, Result, Ok, Err, refl, sym, ap, subst, append_assoc, append-nil}
use Rattle.lay_core.specs.Layout.{Shape}
use Rattle.graph_mean.specs.Graph.{View}
use Rattle.graph_text.specs.Format.{Named}
use Rattle.text_steps.specs.declared.at.At.{At}
use Rattle.raid_script.specs.declared.join.Join.{Join}
use Rattle.raid_script.specs.Asked.{Asked}
use Rattle.top_join.specs.declared.fault.JoinFault.{JoinFault}
use Rattle.top_join.specs.declared.fault.JoinFault.TheVariants as fault
use Rattle.top_join.specs.Answers.{RefusesAll, RefusesOne}
use Rattle.top_join.specs.Joining.{AreJoined}
use Rattle.top_join.specs.Steps.{IsLine}

-- these graphs in front of those of the other lines
abbrev pub behind : List View → Result (List View) At → Result (List View) At
behind views (Ok more) = Ok (views ++ more)
behind views (Err at) = Err at

behind-none : (r : Result (List View) At) → behind [] r ≡ r
behind-none (Ok views) = refl
behind-none (Err at) = refl

behind-more : (views : List View) (view : View) (r : Result (List View) At) → behind views (behind (view ∷ []) r) ≡ behind (views ++ view ∷ []) r
behind-more views view (Ok more) = ap (λ (vs : List View). Ok vs) (simp append_assoc)
behind-more views view (Err at) = refl

module _ (y : Shape) (book : List Named) (clients : List (List Asked)) where
  -- whatever comes of the lines that are left, this comes of all
  abbrev pub Goes : ℕ → List Join → List View → ℕ → List Join → Type 0
  Goes first joins views n left = (r : Result (List View) At) → AreJoined y book clients n left r → AreJoined y book clients first joins (behind views r)

  pub none-gone : (n : ℕ) (joins : List Join) → Goes n joins [] n joins
  none-gone n joins r h = subst (λ (x : Result (List View) At). AreJoined y book clients n joins x) (sym (behind-none r)) h

  one-more : (n : ℕ) (join : Join) (joins : List Join) (view : View) (r : Result (List View) At) → IsLine y book clients n join (Ok view) → AreJoined y book clients (n + 1) joins r
      → AreJoined y book clients n (join ∷ joins) (behind (view ∷ []) r)
  one-more n join joins view (Ok more) line h = (Ok view, line, (refl, h))
  one-more n join joins view (Err at) line h = (Ok view, line, h)

  pub one-gone : (first : ℕ) (joins : List Join) (views : List View) (n : ℕ) (join : Join) (left : List Join) (view : View) → IsLine y book clients n join (Ok view)
      → Goes first joins views n (join ∷ left) → Goes first joins (views ++ view ∷ []) (n + 1) left
  one-gone first joins views n join left view line so_far r h =
      subst (λ (x : Result (List View) At). AreJoined y book clients first joins x) (behind-more views view r) (so_far (behind (view ∷ []) r) (one-more n join left view r line h))

  one-refused : (first : ℕ) (joins : List Join) (views : List View) (n line code : ℕ) (join : Join) (left : List Join) → line ≡ join.line → IsLine y book clients n join (Err code)
      → Goes first joins views n (join ∷ left) → AreJoined y book clients first joins (Err (record { line = line; code = code }))
  one-refused first joins views n line code join left is refused so_far =
      so_far (Err (record { line = line; code = code })) (Err code, refused, ap (λ (l : ℕ). Err (record { line = l; code = code })) is)

  pub refused-all : (first : ℕ) (joins : List Join) (views : List View) (n : ℕ) (join : Join) (left : List Join) (f : JoinFault) → RefusesOne join.line (IsLine y book clients n join) f
      → Goes first joins views n (join ∷ left) → RefusesAll (AreJoined y book clients first joins) f
  refused-all first joins views n join left (fault.At line code) h so_far = one-refused first joins views n line code join left h.0 h.1 so_far
  refused-all first joins views n join left fault.Memory h so_far = tt

  pub all-gone : (first : ℕ) (joins : List Join) (views : List View) (n : ℕ) → Goes first joins views n [] → AreJoined y book clients first joins (Ok views)
  all-gone first joins views n so_far = subst (λ (vs : List View). AreJoined y book clients first joins (Ok vs)) (append-nil views) (so_far (Ok []) refl)
