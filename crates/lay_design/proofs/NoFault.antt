-- A design has no fault.
use Rattle.std.specs.Prelude.{◌≡◌, ◌<◌, not}
use Rattle.std.proofs.Common.{refl, ap, sym, ◌∙◌}
use Rattle.std.proofs.lemmas.Bool.{true≢false, and_parts, ltb-true, eq-eqb}
use Rattle.lay_design.specs.declared.fault.DesignFault.{DesignFault}
use Rattle.lay_design.specs.declared.fault.DesignFault.TheVariants.{Count, Element, Repeat, Degree, Pair, Memory}
use Rattle.lay_design.specs.Blocks.{together}
use Rattle.lay_design.specs.Design.{Blocks, IsDesign, IsFault}

pub no_fault : (d : Blocks) (fault : DesignFault) → IsDesign d → IsFault d fault → fault ≡ Memory
no_fault d Count h f = absurd (f h.numbers)
no_fault d (Element t i) h f = absurd (true≢false (sym f.1.passes ∙ h.below t i f.1.row f.1.place))
no_fault d (Repeat t i) h f = absurd (true≢false (sym f.2.passes ∙ h.distinct t i f.2.row f.2.place))
no_fault d (Degree x has) h f = absurd (f.2 (f.1 ∙ h.degrees x f.3))
no_fault d (Pair x y has) h f =
    let both = and_parts _ _ f.3.passes in
    let less : x < y = ltb-true x y both.0 in
    absurd (true≢false (sym both.1 ∙ ap not (eq-eqb (together d.b d.k d.objects x y) d.lambda (h.pairs x y less f.3.place))))
no_fault d Memory h f = refl
