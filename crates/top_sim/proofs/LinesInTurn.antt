-- Lines that are read one after another, as a loop does.
use Rattle.std.proofs.Common.{◌≡◌, ◌∙◌, ℕ, ◌+◌, List, [], ◌∷◌, ◌++◌, Result, Ok, Err, refl, sym, ap, append_assoc, append-nil}
use Rattle.raid_text.specs.Text.{Numbered}
use Rattle.text_steps.specs.declared.at.At.{At}
use Rattle.text_steps.specs.Steps.{◌>>=◌}
use Rattle.top_sim.specs.Asked.{Asked, read_sectors}
use Rattle.top_sim.specs.Format.{next_of, requests_behind}

-- what was read before, and what is still read
abbrev pub with_front : List Asked → Result (List Asked) At → Result (List Asked) At
with_front front read = read >>= λ x. Ok (front ++ x)

regroup : (front : List Asked) (a : Asked) (read : Result (List Asked) At)
    → with_front front (read >>= λ more. Ok (a ∷ more)) ≡ with_front (front ++ a ∷ []) read
regroup front a (Ok more) = ap (λ (xs : List Asked). Ok xs) (simp append_assoc)
regroup front a (Err at) = refl

-- before the first line
pub at_first : (read : Result (List Asked) At) → with_front [] read ≡ read
at_first (Ok more) = refl
at_first (Err at) = refl

pub goes_on : (sectors low n r : ℕ) (front : List Asked) (line : Numbered) (lines : List Numbered)
    (a : Asked) (total : Result (List Asked) At)
    → next_of sectors low n r line ≡ Ok a
    → with_front front (requests_behind sectors low n r (line ∷ lines)) ≡ total
    → with_front (front ++ a ∷ [])
    (requests_behind sectors a.tick (n + 1) (r + read_sectors a.transfer) lines) ≡ total
unfolding requests_behind
goes_on sectors low n r front line lines a total h so_far =
    let rest = requests_behind sectors a.tick (n + 1) (r + read_sectors a.transfer) lines in
    let one : with_front front (requests_behind sectors low n r (line ∷ lines))
    ≡ with_front (front ++ a ∷ []) rest = rw h (regroup front a rest) in
    sym one ∙ so_far

pub ends : (sectors low n r code : ℕ) (front : List Asked) (line : Numbered)
    (lines : List Numbered) (total : Result (List Asked) At)
    → next_of sectors low n r line ≡ Err code
    → with_front front (requests_behind sectors low n r (line ∷ lines)) ≡ total
    → total ≡ Err (record { line = line.at; code = code })
unfolding requests_behind
ends sectors low n r code front line lines total h so_far =
    let one : with_front front (requests_behind sectors low n r (line ∷ lines))
    ≡ Err (record { line = line.at; code = code }) = rw h refl in
    sym so_far ∙ one

pub is_done : (sectors low n r : ℕ) (front : List Asked) (total : Result (List Asked) At)
    → with_front front (requests_behind sectors low n r []) ≡ total → total ≡ Ok front
unfolding requests_behind
is_done sectors low n r front total so_far =
    sym so_far ∙ ap (λ (xs : List Asked). Ok xs) (append-nil front)
