-- Buffers of new data that are filled one after another.
use Rattle.std.proofs.Common.{◌≡◌, ◌≢◌, ℕ, ◌+◌, ◌<◌, ◌≤◌, inl, inr, List, Some, None, length, refl, sym, ap, ◌∙◌, subst, arith}
use Rattle.std.proofs.lemmas.Bool.{cases_eq, cases_lt}
use Rattle.std.proofs.lemmas.List.{get_or_past}
use Rattle.graph_mean.specs.Steps.{Covers}
use Rattle.blk_disk.specs.Disk.{sector_at}
use Rattle.buf_pool.specs.Pool.{PoolView}
use Rattle.graph_mean.specs.Graph.{View, buf_at}
use Rattle.eng_log.specs.Filled.{HasBuffers, FillsAlone, bytes_of}
use Rattle.eng_log.proofs.Seating.{fills-refl, fills-then, fills-lease, fills-home}
use Rattle.graph_mean.proofs.Words.{no_buf}

-- a buffer that covers an offset is one of the graph's
pub covers-below : (g : View) (b o : ℕ) → Covers g b o → b < length g.bufs
covers-below g b o co = elim (cases_lt b (length g.bufs)) [
  | inl l ↦ l
  | inr past ↦ let none = get_or_past g.bufs b no_buf past in absurd (nothing (subst (λ r. (r.from ≤ o) × (o < r.from + r.count)) none co))
]
  where
    nothing : (0 ≤ o) × (o < 0 + 0) → ⊥
    nothing h = let l : o < 0 + 0 = h.1 in omega arith

-- the first m buffers are filled where they are of new data, each sector with what is said of it, and those that aren't have their bytes
pub record FilledTo (g : View) (l : List ℕ) (at : ℕ → ℕ → ℕ → List ℕ) (p q : PoolView) (m : ℕ) : Type 0 where
  pub filled : (b u j : ℕ) → b < m → (buf_at g b).new_of ≡ Some u → j < (buf_at g b).count → sector_at (bytes_of q l b) j ≡ at b u j
  pub others : (b : ℕ) → b < length g.bufs → (buf_at g b).new_of ≡ None → bytes_of q l b ≡ bytes_of p l b
  pub fills : FillsAlone p l q

pub buffers-filled : (g : View) (l : List ℕ) (p q : PoolView) → FillsAlone p l q → HasBuffers g p l → HasBuffers g q l
buffers-filled g l p q fills b = record { lease = fills-lease p q l l fills b.lease; home = fills-home p q l l fills b.home; count = b.count; long = λ n h. let old = b.long n h in let same = fills.unit in omega (arith, old, same) }

pub filled-none : (g : View) (l : List ℕ) (at : ℕ → ℕ → ℕ → List ℕ) (p : PoolView) → FilledTo g l at p p 0
filled-none g l at p = record { filled = λ b u j h. absurd (omega (arith, h)); others = λ b h new. refl; fills = fills-refl p l }

pub filled-more : (g : View) (l : List ℕ) (at : ℕ → ℕ → ℕ → List ℕ) (p q r : PoolView) (m : ℕ) → m < length g.bufs → FilledTo g l at p q m → ((u j : ℕ) → (buf_at g m).new_of ≡ Some u → j < (buf_at g m).count → sector_at (bytes_of r l m) j ≡ at m u j) → ((buf_at g m).new_of ≡ None → r ≡ q) → ((c : ℕ) → c < length g.bufs → c ≢ m → bytes_of r l c ≡ bytes_of q l c) → FillsAlone q l r → FilledTo g l at p r (m + 1)
filled-more g l at p q r m below so_far filled old others fills = record {
  filled = λ b u j h new within. elim (cases_eq b m) [
    | inl e ↦ ap (λ (c : ℕ). sector_at (bytes_of r l c) j) e ∙ (filled u j (ap (λ (c : ℕ). (buf_at g c).new_of) (sym e) ∙ new) (subst (λ (c : ℕ). j < (buf_at g c).count) e within) ∙ ap (λ (c : ℕ). at c u j) (sym e))
    | inr apart ↦ ap (λ (bytes : List ℕ). sector_at bytes j) (others b (omega (arith, h, below)) apart) ∙ so_far.filled b u j (omega (arith, h, apart)) new within
  ];
  others = λ b h none. elim (cases_eq b m) [
    | inl e ↦ ap (λ (s : PoolView). bytes_of s l b) (old (ap (λ (c : ℕ). (buf_at g c).new_of) (sym e) ∙ none)) ∙ so_far.others b h none
    | inr apart ↦ others b h apart ∙ so_far.others b h none
  ];
  fills = fills-then p q r l so_far.fills fills;
}
