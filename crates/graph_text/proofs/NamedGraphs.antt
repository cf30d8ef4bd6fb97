-- Graphs beside their names.
use Rattle.std.proofs.Common.{◌≡◌, ℕ, zero, suc, Bool, List, [], ◌∷◌, ◌++◌, length, map, refl, ap, arith}
use Rattle.std.specs.Prelude.{◌||◌, option_map, position, slice_get}
use Rattle.std.specs.List.{list_any, position_or_len}
use Rattle.std.specs.Str.{bytes_eq}
use Rattle.raid_text.specs.Text.{Text}
use Rattle.graph_mean.specs.Graph.{Held, View}
use Rattle.graph_text.specs.Format.{Named}
use Rattle.graph_text.specs.Steps.{has_name}
use Rattle.graph_text.specs.BookView.{named_graphs}

pub length_named : (names : List Text) (graphs : List Held) → length names ≡ length graphs → length (named_graphs names graphs) ≡ length names
unfolding named_graphs
length_named [] graphs e = refl
length_named (n ∷ names) [] e = absurd (omega (arith, e))
length_named (n ∷ names) (g ∷ graphs) e = ap suc (length_named names graphs (omega (arith, e)))

pub named_push : (names : List Text) (graphs : List Held) (n : Text) (g : Held) → length names ≡ length graphs
    → named_graphs (names ++ n ∷ []) (graphs ++ g ∷ []) ≡ named_graphs names graphs ++ record { name = n; graph = g.drawn } ∷ []
unfolding named_graphs
named_push [] [] n g e = refl
named_push [] (h ∷ graphs) n g e = absurd (omega (arith, e))
named_push (m ∷ names) [] n g e = absurd (omega (arith, e))
named_push (m ∷ names) (h ∷ graphs) n g e = ap (λ (rest : List Named). record { name = m; graph = h.drawn } ∷ rest) (named_push names graphs n g (omega (arith, e)))

pub has_named : (names : List Text) (graphs : List Held) (w : Text) → length names ≡ length graphs → has_name (named_graphs names graphs) w ≡ list_any (λ n. bytes_eq n w) names
unfolding named_graphs has_name
has_named [] graphs w e = refl
has_named (n ∷ names) [] w e = absurd (omega (arith, e))
has_named (n ∷ names) (g ∷ graphs) w e = ap (λ (b : Bool). bytes_eq n w || b) (has_named names graphs w (omega (arith, e)))

place_named : (names : List Text) (graphs : List Held) (w : Text) → length names ≡ length graphs
    → position_or_len (λ (g : Named). bytes_eq g.name w) (named_graphs names graphs) ≡ position_or_len (λ n. bytes_eq n w) names
unfolding named_graphs
place_named [] graphs w e = refl
place_named (n ∷ names) [] w e = absurd (omega (arith, e))
place_named (n ∷ names) (g ∷ graphs) w e = rw (place_named names graphs w (omega (arith, e))) refl

pub position_named : (names : List Text) (graphs : List Held) (w : Text) → length names ≡ length graphs
    → position (λ (g : Named). bytes_eq g.name w) (named_graphs names graphs) ≡ position (λ n. bytes_eq n w) names
position_named names graphs w e = rw (place_named names graphs w e, length_named names graphs e) refl

pub graph_named : (names : List Text) (graphs : List Held) (i : ℕ) → length names ≡ length graphs
    → option_map (λ (g : Named). g.graph) (slice_get (named_graphs names graphs) i) ≡ option_map (λ (g : Held). g.drawn) (slice_get graphs i)
unfolding named_graphs
graph_named [] [] i e = refl
graph_named [] (g ∷ graphs) i e = absurd (omega (arith, e))
graph_named (n ∷ names) [] i e = absurd (omega (arith, e))
graph_named (n ∷ names) (g ∷ graphs) zero e = refl
graph_named (n ∷ names) (g ∷ graphs) (suc i) e = graph_named names graphs i (omega (arith, e))

pub graphs_named : (names : List Text) (graphs : List Held) → length names ≡ length graphs → map (λ (g : Held). g.drawn) graphs ≡ map (λ (g : Named). g.graph) (named_graphs names graphs)
unfolding named_graphs
graphs_named [] [] e = refl
graphs_named [] (g ∷ graphs) e = absurd (omega (arith, e))
graphs_named (n ∷ names) [] e = absurd (omega (arith, e))
graphs_named (n ∷ names) (g ∷ graphs) e = ap (λ (rest : List View). g.drawn ∷ rest) (graphs_named names graphs (omega (arith, e)))
