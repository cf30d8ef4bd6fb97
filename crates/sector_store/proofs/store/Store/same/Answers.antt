use Rattle.std.proofs.Common.{◌≡◌, ◌<◌, ◌∙◌, ℕ, List, length, get_or, sym, ap, arith}
use Rattle.std.proofs.lemmas.Bool.{eq-eqb}
use Rattle.std.proofs.lemmas.List.{get_or_default}
use Rattle.blk_disk.specs.Disk.{sector_at}
use Rattle.sector_store.specs.Places.{kept_at}
use Rattle.sector_store.proofs.Chosen.{length-chosen, sector-chosen}
use Rattle.sector_store.proofs.store.Store.same.Goals as goal

pub index-requires : goal.index-requires
index-requires c =
    let n = length-chosen c.self.inside.kept.items c.self.inside.places.items _ c.self.invariant.kept in
    let l = ap length c.self.view_is in
    let k = c.self.inside.places.ok.0 in
    omega (arith, n, l, k, c.requires.one)

pub index-requires-2 : goal.index-requires-2
index-requires-2 c =
    let n = length-chosen c.self.inside.kept.items c.self.inside.places.items _ c.self.invariant.kept in
    let l = ap length c.self.view_is in
    let k = c.self.inside.places.ok.0 in
    omega (arith, n, l, k, c.requires.other)

pub returns-then-index : goal.returns-then-index
returns-then-index c =
    let kept = c.self.inside.kept.items in
    let places = c.self.inside.places.items in
    let inv = c.self.invariant.kept in
    let n = length-chosen kept places _ inv in
    let l = ap length c.self.view_is in
    let one : c.args.one < length places = omega (arith, n, l, c.requires.one) in
    let other : c.args.other < length places = omega (arith, n, l, c.requires.other) in
    let of : (i : ℕ) → i < length places → sector_at c.args.self.now i ≡ kept_at kept (get_or places i 0) = λ i lt. sym (ap (λ (b : List ℕ). sector_at b i) c.self.view_is) ∙ sector-chosen kept places _ inv i lt in
    let a : c.index.result.now ≡ get_or places c.args.one 0 = c.index.ensures ∙ get_or_default places c.args.one c.index.result.now 0 one in
    let b : c.index-2.result.now ≡ get_or places c.args.other 0 = c.index-2.ensures ∙ get_or_default places c.args.other c.index-2.result.now 0 other in (
      (λ t. of c.args.one one ∙ (ap (λ (p : ℕ). kept_at kept p) (sym a ∙ (c.if-index.true ∙ b)) ∙ sym (of c.args.other other))),
      (λ e. eq-eqb c.index.result.now c.index-2.result.now c.if-index.true),
    )
