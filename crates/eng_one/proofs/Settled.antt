-- Whether a node is out, and phases that are settled by it.
use Rattle.std.proofs.Common.{◌≡◌, ℕ, zero, suc, ◌<◌, ◌≤◌, List, Bool, true, false, arith, sym, ap, ◌∙◌, inl, inr, refl, ◌&&◌, not, length, count_by}
use Rattle.std.specs.Prelude.{slice_set, if◌then◌else◌}
use Rattle.std.proofs.lemmas.List.{get_or_past}
use Rattle.std.proofs.lemmas.Bool.{cases_eq, cases_lt, cases_Bool}
use Rattle.blk_plain.specs.declared.op.Outcome.{Outcome}
use Rattle.blk_plain.specs.declared.op.Outcome.TheVariants as outcome
use Rattle.graph_mean.specs.declared.graph.Node.{Node}
use Rattle.graph_mean.specs.declared.graph.Node.TheVariants.{Rd, Wr, Xor, Cmt, Trm}
use Rattle.graph_mean.specs.declared.step.Status.{Status}
use Rattle.graph_mean.specs.declared.step.Status.TheVariants.{Idle, Out, Good, Bad, Skipped}
use Rattle.graph_mean.specs.declared.step.Phase.{Phase}
use Rattle.graph_mean.specs.declared.step.Phase.TheVariants.{Before, After, RollingBack, Ended, Undone}
use Rattle.graph_mean.specs.Graph.{View}
use Rattle.graph_mean.specs.Steps.{IsRunning, none_out, is_out, phase_after}
use Rattle.graph_mean.proofs.Tallies.{none-counted, counted-none}
use Rattle.eng_one.specs.Control.{Stands, mark_in, mark_for, settled_in, phase_bad, phase_on}
use Rattle.eng_one.specs.Counts.{IsSettled}

-- a node that is out
pub some_out : (node : ℕ → Status) (n i : ℕ) → i < n → node i ≡ Out → none_out node n ≡ false
some_out node zero i h e = absurd (omega arith)
some_out node (suc n) i h e = elim (cases_eq i n) [
  | inl is ↦ ap (λ (s : Status). not (is_out s) && none_out node n) (ap node (sym is) ∙ e)
  | inr apart ↦ ap (λ (b : Bool). not (is_out (node n)) && b) (some_out node n i (omega (arith, apart)) e) ∙ and_false (not (is_out (node n)))
]
  where
    and_false : (b : Bool) → (b && false) ≡ false
    and_false true = refl
    and_false false = refl

-- none is, where none of them is out
pub none-of : (node : ℕ → Status) (n : ℕ) → ((k : ℕ) → node k ≡ Out → ⊥) → none_out node n ≡ true
none-of node zero h = refl
none-of node (suc n) h = not-out (node n) (h n) (none_out node n) (none-of node n h)
  where
    not-out : (s : Status) → (s ≡ Out → ⊥) → (b : Bool) → b ≡ true → (not (is_out s) && b) ≡ true
    not-out Idle apart b e = e
    not-out Out apart b e = absurd (apart refl)
    not-out Good apart b e = e
    not-out Bad apart b e = e
    not-out Skipped apart b e = e

-- where the test fails, one of them is out
pub out-of : (node : ℕ → Status) (n : ℕ) → none_out node n ≡ false → (k : ℕ) × (k < n) × (node k ≡ Out)
out-of node zero e = absurd (let q : ⊥ = cc in q)
out-of node (suc n) e = by-mark (node n) refl (λ f. let o = out-of node n f in (o.0, omega (arith, o.1), o.2))
  where
    by-mark : (s : Status) → node n ≡ s → (none_out node n ≡ false → (k : ℕ) × (k < suc n) × (node k ≡ Out)) → (k : ℕ) × (k < suc n) × (node k ≡ Out)
    by-mark Idle is below = below (sym (ap (λ (s : Status). not (is_out s) && none_out node n) is) ∙ e)
    by-mark Out is below = (n, omega arith, is)
    by-mark Good is below = below (sym (ap (λ (s : Status). not (is_out s) && none_out node n) is) ∙ e)
    by-mark Bad is below = below (sym (ap (λ (s : Status). not (is_out s) && none_out node n) is) ∙ e)
    by-mark Skipped is below = below (sym (ap (λ (s : Status). not (is_out s) && none_out node n) is) ∙ e)

-- the same by how many are out
pub still-is : (marks : List Status) → count_by is_out marks ≡ 0 → none_out (mark_in marks) (length marks) ≡ true
still-is marks none = none-of (mark_in marks) (length marks) (λ k out. elim (cases_lt k (length marks)) [
  | inl low ↦ let f : true ≡ false = sym (ap is_out out) ∙ none-counted is_out Idle marks none k low in let q : ⊥ = cc in q
  | inr past ↦ let f : Idle ≡ Out = sym (get_or_past marks k Idle past) ∙ out in let q : ⊥ = cc in q
])

pub not-still : (marks : List Status) → (count_by is_out marks ≡ 0 → ⊥) → none_out (mark_in marks) (length marks) ≡ false
not-still marks some = elim (cases_Bool (none_out (mark_in marks) (length marks))) [
  | inr is ↦ is
  | inl none ↦ absurd (some (counted-none is_out Idle marks (λ k l. elim (cases_Bool (is_out (mark_in marks k))) [
    | inr not-out ↦ not-out
    | inl out ↦ let f : true ≡ false = sym none ∙ some_out (mark_in marks) (length marks) k l (out-is (mark_in marks k) out) in absurd (let q : ⊥ = cc in q)
  ])))
]
  where
    out-is : (s : Status) → is_out s ≡ true → s ≡ Out
    out-is Idle e = absurd (let q : ⊥ = cc in q)
    out-is Out e = refl
    out-is Good e = absurd (let q : ⊥ = cc in q)
    out-is Bad e = absurd (let q : ⊥ = cc in q)
    out-is Skipped e = absurd (let q : ⊥ = cc in q)

-- ---- settled phases

-- a phase in which nodes are fired is settled
pub running-settled : (marks : List Status) (p : Phase) → IsRunning p → IsSettled marks p
running-settled marks Before h = record { rolling = λ e. absurd (let q : ⊥ = cc in q); undone = λ e. absurd (let q : ⊥ = cc in q) }
running-settled marks After h = record { rolling = λ e. absurd (let q : ⊥ = cc in q); undone = λ e. absurd (let q : ⊥ = cc in q) }
running-settled marks RollingBack h = absurd h
running-settled marks Ended h = absurd h
running-settled marks Undone h = absurd h

-- so is each, once it has been settled, if it wasn't undone before
pub settling : (marks : List Status) (p : Phase) → (p ≡ Undone → ⊥) → IsSettled marks (settled_in marks p)
settling marks Before h = running-settled marks Before tt
settling marks After h = running-settled marks After tt
settling marks RollingBack h = by-test (none_out (mark_in marks) (length marks)) refl
  where
    by-test : (b : Bool) → none_out (mark_in marks) (length marks) ≡ b → IsSettled marks (if b then Undone else RollingBack)
    by-test true is = record { rolling = λ e. absurd (let q : ⊥ = cc in q); undone = λ e. is }
    by-test false is = record { rolling = λ e. is; undone = λ e. absurd (let q : ⊥ = cc in q) }
settling marks Ended h = record { rolling = λ e. absurd (let q : ⊥ = cc in q); undone = λ e. absurd (let q : ⊥ = cc in q) }
settling marks Undone h = absurd (h refl)

-- no run is undone as one of its nodes ends
undone-good : (k : Node) (p : Phase) → phase_after k p ≡ Undone → p ≡ Undone
undone-good (Rd unit buf) p e = e
undone-good (Wr unit buf) p e = e
undone-good (Xor to) p e = e
undone-good Cmt p e = absurd (let q : ⊥ = cc in q)
undone-good Trm p e = absurd (let q : ⊥ = cc in q)

undone-bad : (p : Phase) → phase_bad p ≡ Undone → p ≡ Undone
undone-bad Before e = absurd (let q : ⊥ = cc in q)
undone-bad After e = e
undone-bad RollingBack e = e
undone-bad Ended e = e
undone-bad Undone e = e

undone-on : (o : Outcome) (k : Node) (p : Phase) → phase_on o k p ≡ Undone → p ≡ Undone
undone-on outcome.Good k p e = undone-good k p e
undone-on outcome.Bad k p e = undone-bad p e

pub end-settles : (marks : List Status) (o : Outcome) (k : Node) (p : Phase) (n : ℕ) → IsSettled marks p → n < length marks → mark_in marks n ≡ Out → IsSettled (slice_set marks n (mark_for o)) (settled_in (slice_set marks n (mark_for o)) (phase_on o k p))
end-settles marks o k p n h l out = settling (slice_set marks n (mark_for o)) (phase_on o k p) (λ e. let t : true ≡ false = sym (h.undone (undone-on o k p e)) ∙ some_out (mark_in marks) (length marks) n l out in let q : ⊥ = cc in q)

-- what is so of every run
pub stands-by : (g : View) (marks : List Status) (phase : Phase) → length g.nodes ≤ 2048 → length marks ≡ length g.nodes → IsSettled marks phase → Stands (record { graph = g; marks = marks; phase = phase })
stands-by g marks phase few nodes settled = record {
  few = few;
  marks = nodes;
  rolling = λ e. let o = out-of (mark_in marks) (length marks) (settled.rolling e) in record { node = o.0; below = omega (arith, o.1, nodes); out = o.2 };
  undone = λ e n o. elim (cases_lt n (length marks)) [
    | inl low ↦ let t : true ≡ false = sym (settled.undone e) ∙ some_out (mark_in marks) (length marks) n low o in let q : ⊥ = cc in q
    | inr past ↦ let t : Idle ≡ Out = sym (get_or_past marks n Idle past) ∙ o in let q : ⊥ = cc in q
  ];
}
