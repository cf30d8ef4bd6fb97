use Rattle.std.proofs.Common.{arith, rules, ◌≡◌}
use Rattle.lay_core.specs.Layout.{data_units}
use Rattle.lay_core.proofs.StripesOnce.{once, counted, within, few}
use Rattle.lay_core.proofs.spans.span_stripes.Goals as goal

pub overflow_cast-result : goal.overflow_cast-result
overflow_cast-result g c =
    let y = g.L.Layout.shape c.args.layout.now in
    let sectors : c.from.result ≡ y.unit_sectors = search rules in
    let units : c.from-2.result ≡ data_units y = search rules in
    let count : c.from-3.result ≡ c.args.span.count = search rules in
    omega (arith, few y (g.met.L.Layout.is_layout c.args.layout.now) c.args.span c.requires.some c.requires.inside c.from.result c.from-2.result c.from-3.result c.next_quotient-last.result sectors units count c.next_quotient-last.ensures)

pub overflow_cast-result-2 : goal.overflow_cast-result-2
overflow_cast-result-2 g c =
    let y = g.L.Layout.shape c.args.layout.now in
    let sectors : c.from.result ≡ y.unit_sectors = search rules in
    let units : c.from-2.result ≡ data_units y = search rules in
    let count : c.from-3.result ≡ c.args.span.count = search rules in
    omega (arith, few y (g.met.L.Layout.is_layout c.args.layout.now) c.args.span c.requires.some c.requires.inside c.from.result c.from-2.result c.from-3.result c.next_quotient-last.result sectors units count c.next_quotient-last.ensures)

pub returns-clause-first : goal.returns-clause-first
returns-clause-first g c =
    let y = g.L.Layout.shape c.args.layout.now in
    let sectors : c.from.result ≡ y.unit_sectors = search rules in
    let units : c.from-2.result ≡ data_units y = search rules in
    once y c.args.span.first c.from.result c.from-2.result sectors units

pub returns-clause-count : goal.returns-clause-count
returns-clause-count g c =
    let y = g.L.Layout.shape c.args.layout.now in
    let sectors : c.from.result ≡ y.unit_sectors = search rules in
    let units : c.from-2.result ≡ data_units y = search rules in
    let count : c.from-3.result ≡ c.args.span.count = search rules in
    counted y (g.met.L.Layout.is_layout c.args.layout.now) c.args.span c.requires.some c.requires.inside c.from.result c.from-2.result c.from-3.result c.next_quotient-last.result sectors units count c.next_quotient-last.ensures

pub returns-clause-within : goal.returns-clause-within
returns-clause-within g c =
    let y = g.L.Layout.shape c.args.layout.now in
    let sectors : c.from.result ≡ y.unit_sectors = search rules in
    let units : c.from-2.result ≡ data_units y = search rules in
    let count : c.from-3.result ≡ c.args.span.count = search rules in
    within y (g.met.L.Layout.is_layout c.args.layout.now) c.args.span c.requires.some c.requires.inside c.from.result c.from-2.result c.from-3.result c.next_quotient-last.result sectors units count c.next_quotient-last.ensures
