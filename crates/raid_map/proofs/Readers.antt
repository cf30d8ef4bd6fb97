-- The library's graph of a read has no write.
use Rattle.std.proofs.Common.{◌≡◌, ℕ, zero, suc, ◌++◌, Bool, true, false, Option, Some, None, List, [], ◌∷◌, refl, sym, ap, ◌∙◌, subst, length}
use Rattle.std.specs.Prelude.{All, map, if◌then◌else◌}
use Rattle.std.proofs.lemmas.List.Elements.{All-nil, All-cons, All-append}
use Rattle.graph_mean.specs.declared.task.Kind.{Kind}
use Rattle.graph_mean.specs.declared.task.Kind.TheVariants.{Read}
use Rattle.graph_mean.specs.Graph.{Vertex}
use Rattle.graph_mean.specs.Task.{Aim, Missing, is_touched}
use Rattle.graph_lib.specs.Piece.{Piece, At, start, reads_from, sum_nodes, write_node, write_nodes, after, when}
use Rattle.graph_lib.specs.Assembled.{spread, read_part, sum_part, write_part, commit_of, commit_node, end_node, assembled}
use Rattle.graph_lib.specs.Library.{Range, plain_read, read_piece, touched_ranges, stripe_pieces, pieces_upto, library}
use Rattle.raid_map.specs.Mapped.{HasWrite}
use Rattle.raid_map.specs.Asking.{node_writes}
use Rattle.raid_map.proofs.Spans.{quiet-graph}
use Rattle.graph_lib.proofs.Words.{sum_node, read_nodes, made_read}
use Rattle.graph_mean.proofs.Words.{no_vertex}

-- none of these nodes is a write
abbrev IsQuiet : Vertex → Type 0
IsQuiet v = node_writes v.kind ≡ false

abbrev AreQuiet : List Vertex → Type 0
AreQuiet vs = All IsQuiet vs

-- none of these pieces writes
Reading : List Piece → Type 0
Reading [] = Unit {0}
Reading (p ∷ ps) = (p.writes ≡ []) × Reading ps

reading-append : (ps qs : List Piece) → Reading ps → Reading qs → Reading (ps ++ qs)
unfolding Reading
reading-append [] qs one two = two
reading-append (p ∷ ps) qs one two = (one.0, reading-append ps qs one.1 two)

reading-piece : (t : Aim) (lacking : Option ℕ) (s : ℕ) (r : Range) → (read_piece t lacking s r).writes ≡ []
reading-piece t None s r = refl
reading-piece t (Some m) s r = go (is_touched t s m r.from)
  where
    go : (b : Bool) → (if b then made_read t m s r else plain_read t s r).writes ≡ []
    go true = refl
    go false = refl

reading-map : (t : Aim) (lacking : Option ℕ) (s : ℕ) (rs : List Range) → Reading (map (read_piece t lacking s) rs)
unfolding Reading
reading-map t lacking s [] = tt
reading-map t lacking s (r ∷ rs) = (reading-piece t lacking s r, reading-map t lacking s rs)

reading-pieces : (t : Aim) (missing : Missing) (target : Bool) (n : ℕ) → t.kind ≡ Read → Reading (pieces_upto t missing target n)
unfolding pieces_upto Reading
reading-pieces t missing target zero kind = tt
reading-pieces t missing target (suc n) kind =
    reading-append (pieces_upto t missing target n) _ (reading-pieces t missing target n kind)
    (subst (λ (k : Kind). Reading (stripe_pieces t (missing n) target k n)) (sym kind) (reading-map t (missing n) n (touched_ranges t n)))

-- ## Nodes

quiet-reads : (b : ℕ) (us : List ℕ) → AreQuiet (reads_from b us)
unfolding reads_from
quiet-reads b [] = All-nil IsQuiet
quiet-reads b (u ∷ us) = All-cons IsQuiet _ (reads_from (suc b) us) refl (quiet-reads (suc b) us)

quiet-when : (b : Bool) (v : Vertex) → IsQuiet v → AreQuiet (when b v)
quiet-when true v h = All-cons IsQuiet v [] h (All-nil IsQuiet)
quiet-when false v h = All-nil IsQuiet

quiet-spread : (f : At → Piece → List Vertex) → ((a : At) (p : Piece) → AreQuiet (f a p)) → (a : At) (ps : List Piece) → AreQuiet (spread f a ps)
unfolding spread
quiet-spread f each a [] = All-nil IsQuiet
quiet-spread f each a (p ∷ ps) = All-append IsQuiet (f a p) (spread f (after a p) ps) (each a p) (quiet-spread f each (after a p) ps)

none-written : (c : ℕ) (a : At) (ps : List Piece) → Reading ps → spread (write_nodes c) a ps ≡ []
unfolding spread Reading
none-written c a [] h = refl
none-written c a (p ∷ ps) h = ap (λ ws. map (write_node c a.buf) ws ++ spread (write_nodes c) (after a p) ps) h.0 ∙ none-written c (after a p) ps h.1

quiet-nodes : (ps : List Piece) → Reading ps → AreQuiet (assembled ps).nodes
unfolding read_part sum_part write_part
quiet-nodes ps h =
    All-append IsQuiet (read_part ps) _ (quiet-spread read_nodes (λ a p. quiet-reads _ p.reads) start ps)
    (All-append IsQuiet (sum_part ps) _ (quiet-spread sum_nodes (λ a p. quiet-when p.sums (sum_node a p) refl) start ps)
    (All-cons IsQuiet (commit_node (commit_of ps)) _ refl
    (All-append IsQuiet (write_part ps) _ (subst AreQuiet (sym (none-written (commit_of ps) start ps h)) (All-nil IsQuiet))
    (All-cons IsQuiet (end_node (commit_of ps) (length (write_part ps))) [] refl (All-nil IsQuiet)))))

pub quiet-library : (t : Aim) (missing : Missing) (target : Bool) → t.kind ≡ Read → HasWrite (library t missing target) → ⊥
quiet-library t missing target kind =
    quiet-graph (library t missing target) (λ k below. quiet-nodes (pieces_upto t missing target t.stripes) (reading-pieces t missing target t.stripes kind) k no_vertex below)
