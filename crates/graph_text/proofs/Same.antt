-- That a graph file is read as its steps say.
use Rattle.std.proofs.Common.{◌≡◌, ◌∙◌, refl, sym, ap}
use Rattle.std.specs.Prelude.{ℕ, ◌+◌, ◌&&◌, Bool, true, false, List, [], ◌∷◌, ◌++◌, length, Option, Some, None, Result, Ok, Err, if◌then◌else◌, nat_eq, nat_le, nat_lt, codes}
use Rattle.std.specs.Str.{bytes_eq}
use Rattle.raid_text.specs.Text.{Text, Numbered, is_sound, lines_in, raw_lines, words_of}
use Rattle.text_steps.specs.Steps.{◌>>=◌, after_number, after_word, at_end, at_line, next_number, next_word, number_in, numbers_of, only_if, words_in}
use Rattle.text_steps.specs.declared.at.At.{At}
use Rattle.text_steps.proofs.Thens.{assoc, then_same, step_same}
use Rattle.graph_mean.specs.declared.graph.Node.{Node}
use Rattle.graph_mean.specs.declared.graph.Node.TheVariants.{Rd, Wr, Xor, Cmt, Trm}
use Rattle.graph_mean.specs.Graph.{Vertex, View, blank, edge_count, edges_at}
use Rattle.graph_text.specs.FormatSteps.{next_pair}
use Rattle.graph_text.specs.FormatLines.{after_of, antes_of, buffer_of, kind_of, node_of, plain_of, return_of, sources_of}
use Rattle.graph_text.specs.Format.{Named, Read, after_line, after_lines, at_text_end, inside_line, outside_line, start_of, with_buffer_line, with_node_line, with_return_line}
use Rattle.graph_text.specs.Steps.{graphs_in}
use Rattle.graph_text.specs.Texts.{antes_in, graph_by, graphs_behind, graphs_of, kind_by, node_by, sources_in}

-- ---- nodes

antes_same : (words : List Text) → (after_of words >>= antes_of) ≡ antes_in words
unfolding after_of antes_of antes_in
antes_same [] = refl
antes_same (word ∷ words) = go (bytes_eq word (codes "after"))
  where
    go : (b : Bool) → ((if b then Ok (Some words) else Err 1) >>= antes_of) ≡ (only_if b 1 >>= λ after. next_number words >>= λ first. numbers_of first.1 >>= λ more. Ok (first.0 ∷ more))
    go true = refl
    go false = refl

abbrev Sourced : Type 0
Sourced = Result (List ℕ × List ℕ) ℕ

-- sources, and the antecedents that stand behind them
abbrev with_antes : {T : Type 0} → (T → Result (List ℕ) ℕ) → Result (List ℕ × T) ℕ → Sourced
with_antes f r = r >>= λ s. f s.1 >>= λ antes. Ok (s.0, antes)

abbrev no_sources : Result (List ℕ) ℕ → Sourced
no_sources r = r >>= λ antes. Ok ([], antes)

abbrev first_too : ℕ → Sourced → Sourced
first_too n r = r >>= λ p. Ok (n ∷ p.0, p.1)

consed : {T : Type 0} (n : ℕ) (f : T → Result (List ℕ) ℕ) (r : Result (List ℕ × T) ℕ) → with_antes f (r >>= λ more. Ok (n ∷ more.0, more.1)) ≡ first_too n (with_antes f r)
consed n f (Ok s) = go (f s.1)
  where
    go : (a : Result (List ℕ) ℕ) → ◌≡◌ {A = Sourced} (a >>= λ antes. Ok (n ∷ s.0, antes)) (first_too n (a >>= λ antes. Ok (s.0, antes)))
    go (Ok antes) = refl
    go (Err c) = refl
consed n f (Err c) = refl

sources_same : (words : List Text) → with_antes antes_of (sources_of words) ≡ with_antes antes_in (sources_in words)
unfolding sources_of sources_in antes_of antes_in
sources_same [] = refl
sources_same (word ∷ words) = tested (bytes_eq word (codes "after")) refl (read (number_in word) (sources_same words))
  where
    read : (n : Result ℕ ℕ) → with_antes antes_of (sources_of words) ≡ with_antes antes_in (sources_in words)
        → with_antes antes_of (n >>= λ n. sources_of words >>= λ more. Ok (n ∷ more.0, more.1)) ≡ with_antes antes_in (n >>= λ n. sources_in words >>= λ more. Ok (n ∷ more.0, more.1))
    read (Ok n) same = consed n antes_of (sources_of words) ∙ (ap (first_too n) same ∙ sym (consed n antes_in (sources_in words)))
    read (Err c) same = refl

    tested : (b : Bool) → bytes_eq word (codes "after") ≡ b
        → with_antes antes_of (number_in word >>= λ n. sources_of words >>= λ more. Ok (n ∷ more.0, more.1)) ≡ with_antes antes_in (number_in word >>= λ n. sources_in words >>= λ more. Ok (n ∷ more.0, more.1))
        → with_antes antes_of (if b then Ok ([], Some words) else (number_in word >>= λ n. sources_of words >>= λ more. Ok (n ∷ more.0, more.1)))
        ≡ with_antes antes_in (if b then Ok ([], word ∷ words) else (number_in word >>= λ n. sources_in words >>= λ more. Ok (n ∷ more.0, more.1)))
    tested true h same = sym (ap (λ (t : Bool). no_sources (only_if t 1 >>= λ after. next_number words >>= λ first. numbers_of first.1 >>= λ more. Ok (first.0 ∷ more))) h)
    tested false h same = same

-- a node of its kind, its sources and its antecedents
abbrev node_with : Node → List ℕ → List ℕ → Vertex
node_with kind sources antes = record { kind = kind; sources = sources; antes = antes }

abbrev ended : Node × List ℕ × List Text → Result Vertex ℕ
ended node = antes_in node.2 >>= λ antes. Ok (node_with node.0 node.1 antes)

plain_same : (kind : Node) (words : List Text) → plain_of kind words ≡ ended (kind, [], words)
unfolding plain_of
plain_same kind words =
    sym (assoc (after_of words) antes_of (λ antes. Ok (node_with kind [] antes)))
    ∙ ap (λ r. r >>= λ antes. Ok (node_with kind [] antes)) (antes_same words)

pair_same : (kind : ℕ → ℕ → Node) (words : List Text) → (next_pair words >>= λ pair. plain_of (kind pair.0 pair.1) pair.2) ≡ (◌>>=◌ {A = Node × List ℕ × List Text} (next_pair words >>= λ pair. Ok (kind pair.0 pair.1, [], pair.2)) ended)
pair_same kind words = go (next_pair words)
  where
    go : (r : Result (ℕ × ℕ × List Text) ℕ) → (r >>= λ pair. plain_of (kind pair.0 pair.1) pair.2) ≡ (◌>>=◌ {A = Node × List ℕ × List Text} (r >>= λ pair. Ok (kind pair.0 pair.1, [], pair.2)) ended)
    go (Ok pair) = plain_same (kind pair.0 pair.1) pair.2
    go (Err c) = refl

xor_same : (words : List Text) → (next_number words >>= λ target. sources_of target.1 >>= λ sources. antes_of sources.1 >>= λ antes. Ok (node_with (Xor target.0) sources.0 antes))
    ≡ (◌>>=◌ {A = Node × List ℕ × List Text} (next_number words >>= λ target. sources_in target.1 >>= λ sources. Ok (Xor target.0, sources.0, sources.1)) ended)
xor_same words = go (next_number words)
  where
    made : {T : Type 0} (target : ℕ) (f : T → Result (List ℕ) ℕ) (r : Result (List ℕ × T) ℕ) → (r >>= λ s. f s.1 >>= λ antes. Ok (node_with (Xor target) s.0 antes)) ≡ (with_antes f r >>= λ p. Ok (node_with (Xor target) p.0 p.1))
    made target f (Ok s) = sym (assoc (f s.1) (λ antes. Ok (s.0, antes)) (λ p. Ok (node_with (Xor target) p.0 p.1)))
    made target f (Err c) = refl

    headed : (target : ℕ) (r : Result (List ℕ × List Text) ℕ) → (r >>= λ s. antes_in s.1 >>= λ antes. Ok (node_with (Xor target) s.0 antes)) ≡ (◌>>=◌ {A = Node × List ℕ × List Text} (r >>= λ sources. Ok (Xor target, sources.0, sources.1)) ended)
    headed target (Ok s) = refl
    headed target (Err c) = refl

    go : (r : Result (ℕ × List Text) ℕ) → (r >>= λ target. sources_of target.1 >>= λ sources. antes_of sources.1 >>= λ antes. Ok (node_with (Xor target.0) sources.0 antes))
        ≡ (◌>>=◌ {A = Node × List ℕ × List Text} (r >>= λ target. sources_in target.1 >>= λ sources. Ok (Xor target.0, sources.0, sources.1)) ended)
    go (Ok target) =
        made target.0 antes_of (sources_of target.1)
        ∙ (ap (λ (r : Sourced). r >>= λ p. Ok (node_with (Xor target.0) p.0 p.1)) (sources_same target.1)
        ∙ (sym (made target.0 antes_in (sources_in target.1))
        ∙ headed target.0 (sources_in target.1)))
    go (Err c) = refl

kind_same : (kind : Text) (words : List Text) → kind_of kind words ≡ (kind_by kind words >>= ended)
unfolding kind_of kind_by
kind_same kind words = go (bytes_eq kind (codes "read")) (bytes_eq kind (codes "write")) (bytes_eq kind (codes "xor")) (bytes_eq kind (codes "commit")) (bytes_eq kind (codes "terminate"))
  where
    go : (a b c d e : Bool)
        → (if a then (next_pair words >>= λ pair. plain_of (Rd pair.0 pair.1) pair.2)
        else (if b then (next_pair words >>= λ pair. plain_of (Wr pair.0 pair.1) pair.2)
        else (if c then (next_number words >>= λ target. sources_of target.1 >>= λ sources. antes_of sources.1 >>= λ antes. Ok (node_with (Xor target.0) sources.0 antes))
        else (if d then plain_of Cmt words else (if e then plain_of Trm words else Err 1)))))
        ≡ (◌>>=◌ {A = Node × List ℕ × List Text} (if a then (next_pair words >>= λ pair. Ok (Rd pair.0 pair.1, [], pair.2))
        else (if b then (next_pair words >>= λ pair. Ok (Wr pair.0 pair.1, [], pair.2))
        else (if c then (next_number words >>= λ target. sources_in target.1 >>= λ sources. Ok (Xor target.0, sources.0, sources.1))
        else (if d then Ok (Cmt, [], words) else (if e then Ok (Trm, [], words) else Err 1))))) ended)
    go true b c d e = pair_same Rd words
    go false true c d e = pair_same Wr words
    go false false true d e = xor_same words
    go false false false true e = plain_same Cmt words
    go false false false false true = plain_same Trm words
    go false false false false false = refl

node_same : (n : ℕ) (words : List Text) → node_of n words ≡ node_by n words
unfolding node_of node_by
node_same n words = then_same (after_number n 3 words) _ _ (λ kind_word. then_same (next_word kind_word) _ _ (λ kind. kind_same kind.0 kind.1))

-- ---- lines

-- a graph begins
abbrev begun : List Named → Text → Read
begun done name = record { ended = done; current = Some (record { name = name; graph = blank }) }

-- what was read behind a line of a graph
abbrev behind : List Named → Named → Option View → Read
behind done g None = record { ended = done ++ g ∷ []; current = None }
behind done g (Some more) = record { ended = done; current = Some (record g { graph = more }) }

graph_line_same : (done : List Named) (g : Named) (first : Text) (words : List Text)
    → inside_line done g first words
    ≡ ((if bytes_eq first (codes "buffer") then (with_buffer_line g.graph words >>= λ more. Ok (Some more))
    else (if bytes_eq first (codes "node") then (with_node_line g.graph words >>= λ more. Ok (Some more))
    else (if bytes_eq first (codes "return") then (with_return_line g.graph words >>= λ more. Ok (Some more))
    else (if bytes_eq first (codes "end") then (at_end words >>= λ end. Ok None) else Err 1)))) >>= λ graph. Ok (behind done g graph))
unfolding inside_line
graph_line_same done g first words = go (bytes_eq first (codes "buffer")) (bytes_eq first (codes "node")) (bytes_eq first (codes "return")) (bytes_eq first (codes "end"))
  where
    some : (r : Result View ℕ) → (r >>= λ more. Ok (record { ended = done; current = Some (record g { graph = more }) })) ≡ ((r >>= λ more. Ok (Some more)) >>= λ graph. Ok (behind done g graph))
    some (Ok more) = refl
    some (Err c) = refl

    none : (r : Result (Unit {0}) ℕ) → (r >>= λ end. Ok (record { ended = done ++ g ∷ []; current = None })) ≡ ((r >>= λ end. Ok None) >>= λ graph. Ok (behind done g graph))
    none (Ok u) = refl
    none (Err c) = refl

    go : (a b c d : Bool)
        → (if a then (with_buffer_line g.graph words >>= λ more. Ok (record { ended = done; current = Some (record g { graph = more }) }))
        else (if b then (with_node_line g.graph words >>= λ more. Ok (record { ended = done; current = Some (record g { graph = more }) }))
        else (if c then (with_return_line g.graph words >>= λ more. Ok (record { ended = done; current = Some (record g { graph = more }) }))
        else (if d then (at_end words >>= λ end. Ok (record { ended = done ++ g ∷ []; current = None })) else Err 1))))
        ≡ ((if a then (with_buffer_line g.graph words >>= λ more. Ok (Some more))
        else (if b then (with_node_line g.graph words >>= λ more. Ok (Some more))
        else (if c then (with_return_line g.graph words >>= λ more. Ok (Some more))
        else (if d then (at_end words >>= λ end. Ok None) else Err 1)))) >>= λ graph. Ok (behind done g graph))
    go true b c d = some (with_buffer_line g.graph words)
    go false true c d = some (with_node_line g.graph words)
    go false false true d = some (with_return_line g.graph words)
    go false false false true = none (at_end words)
    go false false false false = refl

abbrev graph_of_line : View → Text × List Text → Result (Option View) ℕ
graph_of_line g first =
    if bytes_eq first.0 (codes "buffer") then (with_buffer_line g first.1 >>= λ more. Ok (Some more))
    else (if bytes_eq first.0 (codes "node") then (with_node_line g first.1 >>= λ more. Ok (Some more))
    else (if bytes_eq first.0 (codes "return") then (with_return_line g first.1 >>= λ more. Ok (Some more))
    else (if bytes_eq first.0 (codes "end") then (at_end first.1 >>= λ end. Ok None) else Err 1)))

buffer_line : (g : View) (words : List Text) → (with_buffer_line g words >>= λ more. Ok (Some more))
    ≡ (only_if (nat_eq (length g.nodes) 0 && nat_eq (length g.rets) 0) 1 >>= λ order. buffer_of (length g.bufs) words >>= λ buf. only_if (nat_lt (length g.bufs) 2048) 5 >>= λ room. Ok (Some (record g { bufs = g.bufs ++ buf ∷ [] })))
unfolding with_buffer_line
buffer_line g words =
    assoc (only_if (nat_eq (length g.nodes) 0 && nat_eq (length g.rets) 0) 1) _ (λ more. Ok (Some more)) ∙ then_same (only_if (nat_eq (length g.nodes) 0 && nat_eq (length g.rets) 0) 1) _ _ (λ order.
    assoc (buffer_of (length g.bufs) words) _ (λ more. Ok (Some more)) ∙ then_same (buffer_of (length g.bufs) words) _ _ (λ buf.
    assoc (only_if (nat_lt (length g.bufs) 2048) 5) _ (λ more. Ok (Some more))))

node_line : (g : View) (words : List Text) → (with_node_line g words >>= λ more. Ok (Some more))
    ≡ (only_if (nat_eq (length g.rets) 0) 1 >>= λ order. node_by (length g.nodes) words >>= λ node. only_if (nat_lt (length g.nodes) 2048 && nat_le (edge_count g + edges_at node) 16384) 5 >>= λ room. Ok (Some (record g { nodes = g.nodes ++ node ∷ [] })))
unfolding with_node_line
node_line g words =
    assoc (only_if (nat_eq (length g.rets) 0) 1) _ (λ more. Ok (Some more)) ∙ then_same (only_if (nat_eq (length g.rets) 0) 1) _ _ (λ order.
    assoc (node_of (length g.nodes) words) _ (λ more. Ok (Some more)) ∙ step_same (node_of (length g.nodes) words) (node_by (length g.nodes) words) _ _ (node_same (length g.nodes) words) (λ node.
    assoc (only_if (nat_lt (length g.nodes) 2048 && nat_le (edge_count g + edges_at node) 16384) 5) _ (λ more. Ok (Some more))))

return_line : (g : View) (words : List Text) → (with_return_line g words >>= λ more. Ok (Some more))
    ≡ (next_pair words >>= λ pair. at_end pair.2 >>= λ end. only_if (nat_lt (length g.rets) 2048) 5 >>= λ room. Ok (Some (record g { rets = g.rets ++ (record { unit = pair.0; buf = pair.1 }) ∷ [] })))
unfolding with_return_line return_of
return_line g words =
    assoc (return_of words) _ (λ more. Ok (Some more)) ∙ (assoc (next_pair words) _ _ ∙ then_same (next_pair words) _ _ (λ pair.
    assoc (at_end pair.2) _ _ ∙ then_same (at_end pair.2) _ _ (λ end. assoc (only_if (nat_lt (length g.rets) 2048) 5) _ (λ more. Ok (Some more)))))

graph_same : (g : View) (words : List Text) → (next_word words >>= graph_of_line g) ≡ graph_by g words
unfolding graph_by
graph_same g words = then_same (next_word words) _ _ (λ first.
    go first (bytes_eq first.0 (codes "buffer")) (bytes_eq first.0 (codes "node")) (bytes_eq first.0 (codes "return")) (bytes_eq first.0 (codes "end")))
  where
    go : (first : Text × List Text) (a b c d : Bool)
        → (if a then (with_buffer_line g first.1 >>= λ more. Ok (Some more))
        else (if b then (with_node_line g first.1 >>= λ more. Ok (Some more))
        else (if c then (with_return_line g first.1 >>= λ more. Ok (Some more))
        else (if d then (at_end first.1 >>= λ end. Ok None) else Err 1))))
        ≡ (if a then (only_if (nat_eq (length g.nodes) 0 && nat_eq (length g.rets) 0) 1 >>= λ order. buffer_of (length g.bufs) first.1 >>= λ buf. only_if (nat_lt (length g.bufs) 2048) 5 >>= λ room. Ok (Some (record g { bufs = g.bufs ++ buf ∷ [] })))
        else (if b then (only_if (nat_eq (length g.rets) 0) 1 >>= λ order. node_by (length g.nodes) first.1 >>= λ node. only_if (nat_lt (length g.nodes) 2048 && nat_le (edge_count g + edges_at node) 16384) 5 >>= λ room. Ok (Some (record g { nodes = g.nodes ++ node ∷ [] })))
        else (if c then (next_pair first.1 >>= λ pair. at_end pair.2 >>= λ end. only_if (nat_lt (length g.rets) 2048) 5 >>= λ room. Ok (Some (record g { rets = g.rets ++ (record { unit = pair.0; buf = pair.1 }) ∷ [] })))
        else (if d then (at_end first.1 >>= λ end. Ok None) else Err 1))))
    go first true b c d = buffer_line g first.1
    go first false true c d = node_line g first.1
    go first false false true d = return_line g first.1
    go first false false false true = refl
    go first false false false false = refl

-- a line's words, where the line is sound
sound_same : {A : Type 0} (line : Numbered) (f : Text × List Text → Result A ℕ) → (only_if (is_sound line.body) 1 >>= λ sound. next_word (words_of line.body) >>= f) ≡ (words_in line >>= λ words. next_word words >>= f)
unfolding words_in
sound_same line f = go (is_sound line.body)
  where
    go : (b : Bool) → (only_if b 1 >>= λ sound. next_word (words_of line.body) >>= f) ≡ ((if b then Ok (words_of line.body) else Err 1) >>= λ words. next_word words >>= f)
    go true = refl
    go false = refl

between_same : (done : List Named) (words : List Text) → (next_word words >>= λ first. outside_line done first.0 first.1)
    ≡ ((after_word (codes "graph") 1 words >>= start_of done) >>= λ name. Ok (begun done name))
unfolding outside_line next_word after_word
between_same done [] = refl
between_same done (word ∷ words) = go (bytes_eq word (codes "graph"))
  where
    go : (b : Bool) → (if b then (start_of done words >>= λ name. Ok (begun done name)) else Err 1)
        ≡ (((if b then Ok words else Err 1) >>= start_of done) >>= λ name. Ok (begun done name))
    go true = refl
    go false = refl

-- a line, and the lines behind it
line_on : {A B : Type 0} (at : ℕ) (x : Result A ℕ) (h : A → B) (f : B → Result (List Named) At) → (at_line at (x >>= λ a. Ok (h a)) >>= f) ≡ (at_line at x >>= λ a. f (h a))
line_on at (Ok x) h f = refl
line_on at (Err c) h f = refl

abbrev finish : ℕ → Read → Result (List Named) At
finish n read = at_text_end n read.ended read.current

outside_same : (done : List Named) (line : Numbered) → after_line (record { ended = done; current = None }) line
    ≡ ((words_in line >>= after_word (codes "graph") 1 >>= start_of done) >>= λ name. Ok (begun done name))
unfolding after_line
outside_same done line =
    sound_same line (λ first. outside_line done first.0 first.1)
    ∙ (then_same (words_in line) _ _ (λ words. between_same done words)
    ∙ (sym (assoc (words_in line) (λ words. after_word (codes "graph") 1 words >>= start_of done) (λ name. Ok (begun done name)))
    ∙ ap (λ r. r >>= λ name. Ok (begun done name)) (sym (assoc (words_in line) (after_word (codes "graph") 1) (start_of done)))))

inside_same : (done : List Named) (g : Named) (line : Numbered) → after_line (record { ended = done; current = Some g }) line
    ≡ ((words_in line >>= graph_by g.graph) >>= λ graph. Ok (behind done g graph))
unfolding after_line
inside_same done g line =
    sound_same line (λ first. inside_line done g first.0 first.1)
    ∙ (then_same (words_in line) _ (λ words. graph_by g.graph words >>= λ graph. Ok (behind done g graph)) (λ words.
    then_same (next_word words) _ _ (λ first. graph_line_same done g first.0 first.1)
    ∙ (sym (assoc (next_word words) (graph_of_line g.graph) (λ graph. Ok (behind done g graph)))
    ∙ ap (λ r. r >>= λ graph. Ok (behind done g graph)) (graph_same g.graph words)))
    ∙ sym (assoc (words_in line) (graph_by g.graph) (λ graph. Ok (behind done g graph))))

lines_same : (n : ℕ) (done : List Named) (current : Option Named) (lines : List Numbered) → (after_lines (record { ended = done; current = current }) lines >>= finish n) ≡ graphs_behind n done current lines
unfolding after_lines graphs_behind
lines_same n done None [] = refl
lines_same n done (Some g) [] = refl
lines_same n done None (line ∷ lines) =
    assoc (at_line line.at (after_line (record { ended = done; current = None }) line)) (λ next. after_lines next lines) (finish n)
    ∙ (ap (λ r. at_line line.at r >>= λ next. after_lines next lines >>= finish n) (outside_same done line)
    ∙ (line_on line.at (words_in line >>= after_word (codes "graph") 1 >>= start_of done) (λ name. begun done name) (λ next. after_lines next lines >>= finish n)
    ∙ then_same (at_line line.at (words_in line >>= after_word (codes "graph") 1 >>= start_of done)) _ _ (λ name. lines_same n done (Some (record { name = name; graph = blank })) lines)))
lines_same n done (Some g) (line ∷ lines) =
    assoc (at_line line.at (after_line (record { ended = done; current = Some g }) line)) (λ next. after_lines next lines) (finish n)
    ∙ (ap (λ r. at_line line.at r >>= λ next. after_lines next lines >>= finish n) (inside_same done g line)
    ∙ (line_on line.at (words_in line >>= graph_by g.graph) (behind done g) (λ next. after_lines next lines >>= finish n)
    ∙ then_same (at_line line.at (words_in line >>= graph_by g.graph)) _ _ (elim [
      | None ↦ lines_same n (done ++ g ∷ []) None lines
      | Some more ↦ lines_same n done (Some (record g { graph = more })) lines
    ])))

pub graphs_same : (text : Text) → graphs_of text ≡ graphs_in text
unfolding graphs_of graphs_in
graphs_same text = sym (lines_same (length (raw_lines text)) [] None (lines_in text))
