-- That a script is read as its steps say.
use Rattle.std.proofs.Common.{◌≡◌, ◌∙◌, refl, sym, ap}
use Rattle.std.specs.Prelude.{ℕ, ◌+◌, ◌&&◌, Bool, true, false, List, [], ◌∷◌, length, option_to_list, Option, Some, None, Result, Ok, Err, if◌then◌else◌, nat_le, nat_lt, codes}
use Rattle.std.specs.Str.{bytes_eq}
use Rattle.raid_text.specs.Text.{Text, Numbered, lines_in}
use Rattle.text_steps.specs.Steps.{◌>>=◌, at_end, at_line, next_number, next_word, only_if, words_in}
use Rattle.text_steps.proofs.Thens.{assoc, step_same, sound_then, then_same}
use Rattle.graph_text.specs.Format.{Named}
use Rattle.raid_script.specs.Asked.{Asked, Writes, WritesAll, Reads, Fails, Request, by_first, joins_of, read_sectors, scripted}
use Rattle.raid_script.specs.Format.{all_patches_of, are_apart, halves_of, item_of, join_of, line_of, next_client, next_column, next_graph, next_of, next_patch, next_pattern, next_span, patches_of, requests_behind, run_of}
use Rattle.raid_script.specs.Steps.{asked_by, script_in}
use Rattle.raid_script.specs.Texts.{item_by, join_by, request_by, requests_by, run_by, script_of}

abbrev runs : Text → Result Asked ℕ → Result Asked ℕ → Result Asked ℕ → Result Asked ℕ
runs kind write writes read =
    if bytes_eq kind (codes "write") then write else (if bytes_eq kind (codes "writes") then writes else (if bytes_eq kind (codes "read") then read else Err 1))

run_same : (graph : Option ℕ) (kind : Text) (words : List Text) → run_of graph kind words ≡ run_by graph kind words
unfolding run_of run_by all_patches_of
run_same graph kind words = ap
    (λ writes. runs kind (next_span words >>= λ span. next_pattern span.2 >>= λ bytes. at_end bytes.1 >>= λ end. Ok (Writes span.0 span.1 bytes.0 graph)) writes (next_span words >>= λ span. at_end span.2 >>= λ end. Ok (Reads span.0 span.1 graph)))
    (assoc (next_patch words) _ (λ patches. only_if (are_apart patches) 9 >>= λ apart. Ok (WritesAll patches graph))
    ∙ then_same (next_patch words) _ _ (λ first. assoc (patches_of 7 first.1) _ (λ patches. only_if (are_apart patches) 9 >>= λ apart. Ok (WritesAll patches graph))))

abbrev items : Text → Result Asked ℕ → Result Asked ℕ → Result Asked ℕ → Result Asked ℕ → Result Asked ℕ
items kind sync fail use_graph run =
    if bytes_eq kind (codes "sync") then sync else (if bytes_eq kind (codes "fail") then fail else (if bytes_eq kind (codes "use") then use_graph else run))

items_same : (kind : Text) (sync a b c d e f : Result Asked ℕ) → a ≡ b → c ≡ d → e ≡ f → items kind sync a c e ≡ items kind sync b d f
items_same kind sync a b c d e f p q r = ap (λ x. items kind sync x c e) p ∙ (ap (λ x. items kind sync b x e) q ∙ ap (λ x. items kind sync b d x) r)

item_same : (book : List Named) (columns : ℕ) (kind : Text) (words : List Text) → item_of book columns kind words ≡ item_by book columns kind words
unfolding item_of item_by next_column
item_same book columns kind words = items_same kind _ _ _ _ _ _ _
    (assoc (next_number words) _ (λ column. at_end column.1 >>= λ end. Ok (Fails column.0))
    ∙ then_same (next_number words) _ _ (λ column. assoc (only_if (nat_lt column.0 columns) 5) _ (λ column. at_end column.1 >>= λ end. Ok (Fails column.0))))
    (then_same (next_graph book words) _ _ (λ graph. then_same (next_word graph.1) _ _ (λ run. run_same (Some graph.0) run.0 run.1)))
    (run_same None kind words)

join_same : (book : List Named) (j line client : ℕ) (words : List Text) → join_of book j line client words ≡ join_by book j line client words
unfolding join_of join_by halves_of
join_same book j line client words =
    assoc (next_graph book words) _ _ ∙ then_same (next_graph book words) _ _ (λ first.
    assoc (next_patch first.1) _ _ ∙ then_same (next_patch first.1) _ _ (λ one.
    assoc (next_graph book one.1) _ _ ∙ then_same (next_graph book one.1) _ _ (λ second.
    assoc (next_patch second.1) _ _ ∙ then_same (next_patch second.1) _ _ (λ other. assoc (at_end other.1) _ _))))

abbrev kept : ℕ → ℕ → Request → Result Request ℕ
kept n r request = only_if (nat_lt n 65536 && nat_le (r + read_sectors request.asked) 262144) 7 >>= λ room. Ok request

abbrev plain : ℕ → Asked → Result Request ℕ
plain client asked = Ok (record { client = client; asked = asked; joined = None })

request_same : (book : List Named) (columns n r j : ℕ) (line : Numbered) → next_of book columns n r j line ≡ request_by book columns n r j line
unfolding next_of line_of request_by next_client
request_same book columns n r j line =
    ap (λ x. x >>= kept n r) (sound_then line (λ words. next_client words >>= λ client. next_word client.1 >>= λ kind. if bytes_eq kind.0 (codes "join") then join_of book j line.at client.0 kind.1 else (item_of book columns kind.0 kind.1 >>= plain client.0)))
    ∙ (assoc (words_in line) _ (kept n r) ∙ then_same (words_in line) _ _ (λ words.
    ap (λ x. x >>= kept n r) (assoc (next_number words) _ _ ∙ then_same (next_number words) _ _ (λ client. assoc (only_if (nat_lt client.0 16) 3) _ _))
    ∙ (assoc (next_number words) _ (kept n r) ∙ then_same (next_number words) _ _ (λ client.
    assoc (only_if (nat_lt client.0 16) 3) _ (kept n r) ∙ then_same (only_if (nat_lt client.0 16) 3) _ _ (λ known.
    assoc (next_word client.1) _ (kept n r) ∙ then_same (next_word client.1) _ _ (λ kind.
    ap (λ x. x >>= kept n r) (either (bytes_eq kind.0 (codes "join")) (join_of book j line.at client.0 kind.1) (join_by book j line.at client.0 kind.1) (item_of book columns kind.0 kind.1 >>= plain client.0) (item_by book columns kind.0 kind.1 >>= plain client.0)
    (join_same book j line.at client.0 kind.1) (ap (λ x. x >>= plain client.0) (item_same book columns kind.0 kind.1)))))))))
  where
    either : (t : Bool) (a b c d : Result Request ℕ) → a ≡ b → c ≡ d → (if t then a else c) ≡ (if t then b else d)
    either true a b c d p q = p
    either false a b c d p q = q

requests_same : (book : List Named) (columns n r j : ℕ) (lines : List Numbered) → requests_behind book columns n r j lines ≡ requests_by book columns n r j lines
unfolding requests_behind requests_by
requests_same book columns n r j [] = refl
requests_same book columns n r j (line ∷ lines) =
    step_same (at_line line.at (next_of book columns n r j line)) (at_line line.at (request_by book columns n r j line)) _ _ (ap (at_line line.at) (request_same book columns n r j line)) (λ request.
    step_same (requests_behind book columns (n + 1) (r + read_sectors request.asked) (j + length (option_to_list request.joined)) lines) (requests_by book columns (n + 1) (r + read_sectors request.asked) (j + length (option_to_list request.joined)) lines) _ _
    (requests_same book columns (n + 1) (r + read_sectors request.asked) (j + length (option_to_list request.joined)) lines) (λ more. refl))

pub script_same : (book : List Named) (columns : ℕ) (text : Text) → script_of book columns text ≡ script_in book columns text
unfolding script_of by_first asked_by joins_of
script_same book columns text = ap (λ r. r >>= λ requests. Ok (scripted requests)) (sym (requests_same book columns 0 0 0 (lines_in text)))
