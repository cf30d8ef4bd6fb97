-- That requests are read as their steps say.
use Rattle.std.proofs.Common.{◌≡◌, ◌∙◌, refl, sym, ap}
use Rattle.std.specs.Prelude.{ℕ, ◌+◌, ◌&&◌, List, [], ◌∷◌, Result, Ok, Err, if◌then◌else◌, ok_or, nat_le, nat_lt, codes}
use Rattle.std.specs.Str.{bytes_eq}
use Rattle.raid_text.specs.Pattern.{pattern_of}
use Rattle.raid_text.specs.Text.{Text, Numbered}
use Rattle.text_steps.specs.Steps.{◌>>=◌, after_word, at_end, at_line, line_by, next_line, next_number, next_word, only_if, Rest, whole, words_in}
use Rattle.text_steps.proofs.Thens.{assoc, map_same, step_same, then_same}
use Rattle.top_sim.specs.Asked.{Asked, Reads, Transfer, Writes, read_sectors}
use Rattle.top_sim.specs.Format.{disk_line, disk_of, next_of, next_pattern, next_span, next_tick, op_of, request_of, requests_behind}
use Rattle.top_sim.specs.Steps.{workload_read}
use Rattle.top_sim.specs.Texts.{request_by, requests_by, workload_of}

abbrev op_by : ℕ → Text → List Text → Result Transfer ℕ
op_by sectors kind words =
    if bytes_eq kind (codes "write") then (next_span sectors words >>= λ span. next_word span.2 >>= λ word. ok_or (pattern_of word.0) 17 >>= λ bytes. at_end word.1 >>= λ end. Ok (Writes span.0 span.1 bytes))
    else (if bytes_eq kind (codes "read") then (next_span sectors words >>= λ span. at_end span.2 >>= λ end. Ok (Reads span.0 span.1)) else Err 1)

op_same : (sectors : ℕ) (kind : Text) (words : List Text) → op_of sectors kind words ≡ op_by sectors kind words
unfolding op_of next_pattern
op_same sectors kind words =
    ap (λ (write : Result Transfer ℕ). if bytes_eq kind (codes "write") then write else (if bytes_eq kind (codes "read") then (next_span sectors words >>= λ span. at_end span.2 >>= λ end. Ok (Reads span.0 span.1)) else Err 1))
    (then_same (next_span sectors words) _ _ (λ span. assoc (next_word span.2) _ (λ bytes. at_end bytes.1 >>= λ end. Ok (Writes span.0 span.1 bytes.0)) ∙ then_same (next_word span.2) _ _ (λ word. assoc (ok_or (pattern_of word.0) 17) _ (λ bytes. at_end bytes.1 >>= λ end. Ok (Writes span.0 span.1 bytes.0)))))

abbrev kept : ℕ → ℕ → Asked → Result Asked ℕ
kept n r asked = only_if (nat_lt n 4096 && nat_le (r + read_sectors asked.transfer) 262144) 16 >>= λ room. Ok asked

request_same : (sectors low n r : ℕ) (words : List Text) → (request_of sectors low words >>= kept n r) ≡ request_by sectors low n r words
unfolding request_of request_by next_tick
request_same sectors low n r words =
    assoc (after_word (codes "at") 1 words) _ (kept n r) ∙ then_same (after_word (codes "at") 1 words) _ _ (λ rest.
    ap (λ x. x >>= kept n r) (assoc (next_number rest) _ _ ∙ then_same (next_number rest) _ _ (λ tick. assoc (only_if (nat_le low tick.0) 15) _ _))
    ∙ (assoc (next_number rest) _ (kept n r) ∙ then_same (next_number rest) _ _ (λ tick.
    assoc (only_if (nat_le low tick.0) 15) _ (kept n r) ∙ then_same (only_if (nat_le low tick.0) 15) _ _ (λ order.
    assoc (next_word tick.1) _ (kept n r) ∙ then_same (next_word tick.1) _ _ (λ kind.
    assoc (op_of sectors kind.0 kind.1) _ (kept n r) ∙ step_same (op_of sectors kind.0 kind.1) (op_by sectors kind.0 kind.1) _ _ (op_same sectors kind.0 kind.1) (λ transfer. refl))))))

next_same : (sectors low n r : ℕ) (line : Numbered) → next_of sectors low n r line ≡ (words_in line >>= request_by sectors low n r)
unfolding next_of
next_same sectors low n r line =
    assoc (words_in line) (request_of sectors low) (kept n r) ∙ then_same (words_in line) _ _ (λ words. request_same sectors low n r words)

requests_same : (sectors low n r : ℕ) (lines : List Numbered) → requests_behind sectors low n r lines ≡ requests_by sectors low n r lines
unfolding requests_behind requests_by
requests_same sectors low n r [] = refl
requests_same sectors low n r (line ∷ lines) =
    step_same (at_line line.at (next_of sectors low n r line)) (at_line line.at (words_in line >>= request_by sectors low n r)) _ _ (ap (at_line line.at) (next_same sectors low n r line)) (λ asked.
    step_same (requests_behind sectors asked.tick (n + 1) (r + read_sectors asked.transfer) lines) (requests_by sectors asked.tick (n + 1) (r + read_sectors asked.transfer) lines) _ _
    (requests_same sectors asked.tick (n + 1) (r + read_sectors asked.transfer) lines) (λ more. refl))

disk_same : (rest : Rest) → disk_line rest ≡ (line_by 1 disk_of rest >>= λ disk. Ok (disk.0, disk.1.lines))
unfolding disk_line line_by
disk_same rest = sym (
    assoc (next_line 1 rest) _ _ ∙ then_same (next_line 1 rest) _ _ (λ line. assoc (at_line line.at (disk_of line.words)) _ _))

pub workload_same : (text : Text) → workload_of text ≡ workload_read text
unfolding workload_of workload_read
workload_same text = sym (map_same (disk_line (whole text)) (line_by 1 disk_of (whole text)) (λ disk. (disk.0, disk.1.lines)) _ _ (disk_same (whole text)) (λ disk.
    step_same (requests_behind disk.0 0 0 0 disk.1.lines) (requests_by disk.0 0 0 0 disk.1.lines) _ _ (requests_same disk.0 0 0 0 disk.1.lines) (λ asked. refl)))
