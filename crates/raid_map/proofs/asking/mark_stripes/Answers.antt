use Rattle.std.proofs.Common.{◌≡◌, ◌<◌, length, get_or, subst, arith}
use Rattle.std.proofs.lemmas.Option.{slice_get-get_or}
use Rattle.raid_map.specs.Asking.{MarksAlso}
use Rattle.raid_map.proofs.Spans.{FirstOnes, firsts-none, firsts-more, firsts-contain, also-one}
use Rattle.raid_map.proofs.asking.mark_stripes.Goals as goal

pub mark-requires : goal.mark-requires
mark-requires c =
    let within : c.loop-i.i < length c.args.stripes.now = omega arith in
    let below = c.requires c.loop-i.i 0 within in
    let same = c.loop-i.invariant.stripes_same in
    omega (arith, below, same)

pub loop-i-init : goal.loop-i-init
loop-i-init c = firsts-none (λ x s. s ≡ x) c.args.stripes.now c.args.map.now

pub loop-i-preserved : goal.loop-i-preserved
loop-i-preserved c =
    let stripe = get_or c.args.stripes.now c.loop-i.i 0 in
    let within : c.loop-i.i < length c.args.stripes.now = omega arith in
    let below = c.requires c.loop-i.i 0 within in
    let same = c.loop-i.invariant.stripes_same in
    let there : stripe < c.loop-i.map.stripes = omega (arith, below, same) in
    firsts-more (λ x s. s ≡ x) c.args.stripes.now c.loop-i.i stripe c.args.map.now c.loop-i.map c.mark.new.self
    (slice_get-get_or c.args.stripes.now c.loop-i.i 0 within) c.loop-i.invariant
    (also-one c.loop-i.map c.mark.new.self stripe there c.mark.ensures.value c.mark.ensures.marked)

pub returns : goal.returns
returns c =
    let end : c.loop-i.i ≡ length c.args.stripes.now = omega arith in
    firsts-contain c.args.stripes.now c.args.map.now c.loop-i.map
    (subst (λ n. MarksAlso (FirstOnes (λ x s. s ≡ x) c.args.stripes.now n) c.args.map.now c.loop-i.map) end c.loop-i.invariant)
