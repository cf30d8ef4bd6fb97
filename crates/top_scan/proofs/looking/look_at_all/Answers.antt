use Rattle.std.proofs.Common.{◌≡◌, ◌∙◌, ℕ, ◌++◌, ◌∷◌, [], List, Some, length, slice_get, refl, sym, ap, subst, arith, inl, inr, length-append}
use Rattle.std.specs.Prelude.{Option}
use Rattle.std.proofs.lemmas.Bool.{cases_lt}
use Rattle.blk_disk.specs.Devices.{StaysIf}
use Rattle.top_fetch.specs.Answers.{RefusedAs}
use Rattle.top_fetch.specs.Fetched.{there_is}
use Rattle.top_scan.proofs.LooksInTurn.{all_stay, all_there, looked_behind, looked_more, none_looked, not_yet, refused_there, some_eq, there_same}
use Rattle.top_scan.proofs.looking.look_at_all.Goals as goal

pub loop-place-init : goal.loop-place-init
loop-place-init g c =
    let B = g.B.Bay in
    record {
      count = ap length c.new-fronts.ensures.items;
      looked = rw c.new-fronts.ensures.items (none_looked g.B.D.Disk B.tells c.args.names.now c.requires (B.home c.args.bay.now) (B.home c.args.bay.now) (λ told n. refl));
      there = λ told d n lt is. absurd (omega (arith, lt));
      later = omega arith;
    }

pub returns-in-Err-clause-answer : goal.returns-in-Err-clause-answer
returns-in-Err-clause-answer g c = λ told.
    let B = g.B.Bay in
    let home = B.home c.args.bay.now in
    let mid = B.home c.loop-place.bay in
    let names = c.args.names.now in
    let name : List ℕ = c.name_at.result.now in
    let at : slice_get names (length c.loop-place.fronts.items) ≡ Some name = ap (λ (j : ℕ). slice_get names j) c.loop-place.invariant.count ∙ c.name_at.ensures in
    refused_there home names c.loop-place.place name c.in-Err.status c.name_at.ensures
    (λ j n lt is. c.loop-place.invariant.there told j n lt is)
    (subst (λ w. RefusedAs c.in-Err.status w)
    (there_same home mid name (not_yet g.B.D.Disk B.tells names c.requires home mid c.loop-place.fronts.items name at c.loop-place.invariant.looked told))
    (c.in-Err.ensures.answer told))

pub returns-in-Err-clause-stays : goal.returns-in-Err-clause-stays
returns-in-Err-clause-stays g c = λ told n.
    let B = g.B.Bay in
    subst (λ (z : Option _). StaysIf g.B.D.Disk (λ _. ⊥) (B.home c.args.bay.now n) z) (sym (c.in-Err.ensures.same told n))
    (all_stay g.B.D.Disk B.tells (B.home c.args.bay.now) (B.home c.loop-place.bay) c.args.names.now c.loop-place.fronts.items told c.loop-place.invariant.looked n)

pub returns-in-Err-push-clause-stays : goal.returns-in-Err-push-clause-stays
returns-in-Err-push-clause-stays g c = λ told n.
    let B = g.B.Bay in
    let home = B.home c.args.bay.now in
    let mid = B.home c.loop-place.bay in
    let now = B.home c.look_at.new.bay in
    let names = c.args.names.now in
    let fronts = c.loop-place.fronts.items in
    let front = c.in-Ok.front in
    let name : List ℕ = c.name_at.result.now in
    let at : slice_get names (length fronts) ≡ Some name = ap (λ (j : ℕ). slice_get names j) c.loop-place.invariant.count ∙ c.name_at.ensures in
    all_stay g.B.D.Disk B.tells home now names (fronts ++ front ∷ []) told
    (looked_more g.B.D.Disk B.tells names c.requires home mid now fronts (fronts ++ front ∷ []) front name refl at
    c.loop-place.invariant.looked c.in-Ok.ensures.looked c.in-Ok.ensures.homes) n

pub loop-place-preserved : goal.loop-place-preserved
loop-place-preserved g c =
    let B = g.B.Bay in
    let home = B.home c.args.bay.now in
    let mid = B.home c.loop-place.bay in
    let now = B.home c.look_at.new.bay in
    let names = c.args.names.now in
    let fronts = c.loop-place.fronts.items in
    let front = c.in-Ok.front in
    let name : List ℕ = c.name_at.result.now in
    let place : ℕ = c.loop-place.place in
    let here : slice_get names place ≡ Some name = c.name_at.ensures in
    let at : slice_get names (length fronts) ≡ Some name = ap (λ (j : ℕ). slice_get names j) c.loop-place.invariant.count ∙ here in
    let pushed : c.push.new.self.items ≡ fronts ++ front ∷ [] = c.in-Ok-push.ensures.items in
    record {
      count = omega (arith, ap length pushed, length-append fronts (front ∷ []), c.loop-place.invariant.count);
      looked = looked_more g.B.D.Disk B.tells names c.requires home mid now fronts c.push.new.self.items front name pushed at
          c.loop-place.invariant.looked c.in-Ok.ensures.looked c.in-Ok.ensures.homes;
      there = λ told d n lt is. elim (cases_lt d place) [
        | inl less ↦ c.loop-place.invariant.there told d n less is
        | inr most ↦
            let end : d ≡ place = omega (arith, lt, most) in
            let same : name ≡ n = some_eq name n (sym here ∙ (ap (λ (j : ℕ). slice_get names j) (sym end) ∙ is)) in
            ap (λ (t : List ℕ). there_is home t) (sym same)
            ∙ (sym (there_same home mid name (not_yet g.B.D.Disk B.tells names c.requires home mid fronts name at c.loop-place.invariant.looked told))
            ∙ c.in-Ok.ensures.answer told)
      ];
      later = omega (arith, c.look_at.ensures.later, c.loop-place.invariant.later);
    }

pub returns-clause-answer : goal.returns-clause-answer
returns-clause-answer g c = λ told.
    all_there (g.B.Bay.home c.args.bay.now) c.args.names.now (λ j n lt is. c.loop-place.invariant.there told j n (omega (arith, lt, c.loop-place-test.false)) is)

pub returns-clause-looked : goal.returns-clause-looked
returns-clause-looked g c = c.loop-place.invariant.looked

pub returns-clause-stays : goal.returns-clause-stays
returns-clause-stays g c = λ told n.
    all_stay g.B.D.Disk g.B.Bay.tells (g.B.Bay.home c.args.bay.now) (g.B.Bay.home c.loop-place.bay) c.args.names.now c.loop-place.fronts.items told c.loop-place.invariant.looked n

pub returns-in-Err-clause-part : goal.returns-in-Err-clause-part
returns-in-Err-clause-part g c =
    let B = g.B.Bay in
    (c.loop-place.fronts.items, looked_behind g.B.D.Disk B.tells c.args.names.now (B.home c.args.bay.now) (B.home c.loop-place.bay) (B.home c.look_at.new.bay) c.loop-place.fronts.items c.in-Err.ensures.same c.loop-place.invariant.looked)

pub returns-in-Err-push-clause-part : goal.returns-in-Err-push-clause-part
returns-in-Err-push-clause-part g c =
    let B = g.B.Bay in
    let names = c.args.names.now in
    let fronts = c.loop-place.fronts.items in
    let front = c.in-Ok.front in
    let name : List ℕ = c.name_at.result.now in
    let at : slice_get names (length fronts) ≡ Some name = ap (λ (j : ℕ). slice_get names j) c.loop-place.invariant.count ∙ c.name_at.ensures in (
      fronts ++ front ∷ [],
      looked_more g.B.D.Disk B.tells names c.requires (B.home c.args.bay.now) (B.home c.loop-place.bay) (B.home c.look_at.new.bay) fronts (fronts ++ front ∷ []) front name refl at
          c.loop-place.invariant.looked c.in-Ok.ensures.looked c.in-Ok.ensures.homes,
    )
