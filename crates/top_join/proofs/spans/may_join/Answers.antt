use Rattle.std.proofs.Common.{◌≡◌, ◌∙◌, ℕ, ◌+◌, false, refl, subst}
use Rattle.std.specs.Prelude.{nat_lt}
use Rattle.std.specs.List.{list_any}
use Rattle.blk_plain.specs.declared.op.Span.{Span}
use Rattle.blk_plain.specs.Plain.{spans_of}
use Rattle.lay_core.specs.Layout.{blocks_in}
use Rattle.top_bound.proofs.Patched.{some-passes}
use Rattle.top_join.proofs.spans.may_join.Goals as goal

pub returns : goal.returns
returns g c =
    let y = g.L.Layout.shape c.args.layout.now in
    let spans = spans_of c.args.patches.now in
    let tested : list_any (λ (s : Span). nat_lt c.blocks-2.result (s.first + s.count)) spans ≡ false =
    some-passes c.blocks-2.result spans c.some_passes_end.result c.some_passes_end.ensures ∙ c.if-some_passes_end.false in
    let past : list_any (λ (s : Span). nat_lt (blocks_in y) (s.first + s.count)) spans ≡ false =
    subst (λ (n : ℕ). list_any (λ (s : Span). nat_lt n (s.first + s.count)) spans ≡ false) c.blocks-2.ensures tested in
    rw (c.count_all.ensures, past) refl
