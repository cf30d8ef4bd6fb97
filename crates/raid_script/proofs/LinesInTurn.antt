-- Lines that are read one after another, as a loop does.
use Rattle.std.proofs.Common.{◌≡◌, ◌∙◌, ℕ, ◌+◌, List, [], ◌∷◌, ◌++◌, Result, Ok, Err, length, refl, sym, ap, append_assoc, append-nil}
use Rattle.raid_text.specs.Text.{Numbered}
use Rattle.text_steps.specs.Steps.{◌>>=◌}
use Rattle.graph_text.specs.Format.{Named}
use Rattle.text_steps.specs.declared.at.At.{At}
use Rattle.raid_script.specs.Asked.{Request, read_sectors}
use Rattle.raid_script.specs.Steps.{joined_in}
use Rattle.raid_script.specs.Format.{next_of, requests_behind}

-- what was read before, and what is still read
abbrev pub with_front : List Request → Result (List Request) At → Result (List Request) At
with_front front read = read >>= λ x. Ok (front ++ x)

regroup : (front : List Request) (q : Request) (read : Result (List Request) At) → with_front front (read >>= λ more. Ok (q ∷ more)) ≡ with_front (front ++ q ∷ []) read
regroup front q (Ok more) = ap (λ (qs : List Request). Ok qs) (simp append_assoc)
regroup front q (Err a) = refl

pub goes_on : (book : List Named) (columns n r j : ℕ) (front : List Request) (line : Numbered) (lines : List Numbered) (q : Request) (total : Result (List Request) At) → next_of book columns n r j line ≡ Ok q
    → with_front front (requests_behind book columns n r j (line ∷ lines)) ≡ total → with_front (front ++ q ∷ []) (requests_behind book columns (n + 1) (r + read_sectors q.asked) (j + length (joined_in q.joined)) lines) ≡ total
unfolding requests_behind
goes_on book columns n r j front line lines q total h so_far =
    let one : with_front front (requests_behind book columns n r j (line ∷ lines)) ≡ with_front (front ++ q ∷ []) (requests_behind book columns (n + 1) (r + read_sectors q.asked) (j + length (joined_in q.joined)) lines) =
    rw h (regroup front q (requests_behind book columns (n + 1) (r + read_sectors q.asked) (j + length (joined_in q.joined)) lines)) in
    sym one ∙ so_far

pub ends : (book : List Named) (columns n r j code : ℕ) (front : List Request) (line : Numbered) (lines : List Numbered) (total : Result (List Request) At) → next_of book columns n r j line ≡ Err code
    → with_front front (requests_behind book columns n r j (line ∷ lines)) ≡ total → total ≡ Err (record { line = line.at; code = code })
unfolding requests_behind
ends book columns n r j code front line lines total h so_far =
    let one : with_front front (requests_behind book columns n r j (line ∷ lines)) ≡ Err (record { line = line.at; code = code }) = rw h refl in
    sym so_far ∙ one

pub is_done : (book : List Named) (columns n r j : ℕ) (front : List Request) (total : Result (List Request) At) → with_front front (requests_behind book columns n r j []) ≡ total → total ≡ Ok front
unfolding requests_behind
is_done book columns n r j front total so_far = sym so_far ∙ ap (λ (qs : List Request). Ok qs) (append-nil front)
