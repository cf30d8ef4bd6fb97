use Rattle.std.proofs.Common.{◌≡◌, ◌∙◌, ⊎_elim, ℕ, List, [], ◌∷◌, ◌++◌, Some, length, slice_get, ap, sym, subst, arith}
use Rattle.std.proofs.lemmas.Bool.{cases_lt}
use Rattle.top_fetch.specs.Answers.{RefusedAs}
use Rattle.top_words.specs.Views.{action_seen}
use Rattle.top_bay.specs.Asked.{names_by}
use Rattle.top_bay.specs.Steps.{is_at_home}
use Rattle.top_bay.proofs.NamesBy.{differ_by}
use Rattle.top_bay.specs.Lent.{AreOut, IsLent}
use Rattle.top_bay.proofs.Asking.{device_in-same, devices_all, found, refused_device}
use Rattle.top_bay.proofs.Homes.{home_again}
use Rattle.top_bay.proofs.Meant.{some-eq}
use Rattle.top_bay.proofs.Lending.{lent_more, not_meant, out_more}
use Rattle.top_bay.proofs.devices.take_all.Goals as goal

pub returns-in-Err-take_one-clause-answer : goal.returns-in-Err-take_one-clause-answer
returns-in-Err-take_one-clause-answer g c = λ told.
    let B = g.B.Bay in
    let home = B.home c.args.bay.now in
    let names = names_by c.args.conf.now (action_seen c.args.action) in
    let name : List ℕ = c.name_for.result.now in
    let k : ℕ = length c.loop-k.devices.items in
    let same : k ≡ c.loop-k.k = omega (arith, c.loop-k.invariant.many, c.loop-k.devices.ok.0) in
    let at : slice_get names k ≡ Some name = ap (λ (j : ℕ). slice_get names j) same ∙ c.name_for.ensures in
    refused_device home (names_by c.args.conf.now (action_seen c.args.action)) c.loop-k.k c.name_for.result.now c.in-Err-take_one.status c.name_for.ensures
    (λ j n lt is. c.loop-k.invariant.there told j n lt is)
    (subst (λ w. RefusedAs c.in-Err-take_one.status w) (device_in-same home (B.home c.loop-k.bay) name (λ named. (c.loop-k.invariant.lent told).others name (not_meant names k name (differ_by c.args.conf.now (action_seen c.args.action) c.requires) at))) (c.in-Err-take_one.ensures.answer told))

pub returns-in-Err-take_one-clause-same : goal.returns-in-Err-take_one-clause-same
returns-in-Err-take_one-clause-same g c = λ told n.
    let B = g.B.Bay in
    let lent = c.loop-k.invariant.lent told in
    home_again (B.home c.args.bay.now) (B.home c.take_one.new.bay) (B.home c.put_all.new.bay) (B.is_out c.loop-k.bay) (names_by c.args.conf.now (action_seen c.args.action)) c.loop-k.devices.items
    (record { each = lent.each; others = λ m apart. c.in-Err-take_one.ensures.same told m ∙ lent.others m apart })
    c.loop-k.invariant.out (c.put_all.ensures.back told) n

pub loop-k-preserved : goal.loop-k-preserved
loop-k-preserved g c =
    let B = g.B.Bay in
    let names = names_by c.args.conf.now (action_seen c.args.action) in
    let name : List ℕ = c.name_for.result.now in
    let ds = c.loop-k.devices.items in
    let k : ℕ = length ds in
    let device = c.in-Ok-take_one.device in
    let same : k ≡ c.loop-k.k = omega (arith, c.loop-k.invariant.many, c.loop-k.devices.ok.0) in
    let at : slice_get names k ≡ Some name = ap (λ (j : ℕ). slice_get names j) same ∙ c.name_for.ensures in
    let pushed : c.push.new.self.items ≡ ds ++ device ∷ [] = c.in-Ok-push.ensures.items in
    record {
      count = c.loop-k.invariant.count;
      many = omega (arith, c.in-Ok-push.ensures.len, c.loop-k.invariant.many);
      room = omega (arith, c.loop-k.invariant.room, c.in-Ok-push.ensures.capacity);
      lent = λ told. subst (λ l. IsLent (B.home c.args.bay.now) (B.home c.take_one.new.bay) names l) (sym pushed)
          (lent_more (B.home c.args.bay.now) (B.home c.loop-k.bay) (B.home c.take_one.new.bay) names ds device name (differ_by c.args.conf.now (action_seen c.args.action) c.requires) at (c.loop-k.invariant.lent told)
          (c.in-Ok-take_one.ensures.ok told) (c.in-Ok-take_one.ensures.homes told));
      out = subst (λ l. AreOut (B.is_out c.take_one.new.bay) names l) (sym pushed)
          (out_more (B.is_out c.loop-k.bay) (B.is_out c.take_one.new.bay) names ds device name at c.loop-k.invariant.out c.in-Ok-take_one.ensures.out c.in-Ok-take_one.ensures.there c.in-Ok-take_one.ensures.is_out);
      there = λ told d n lt is. ⊎_elim
          (λ less. c.loop-k.invariant.there told d n less is)
          (λ ge.
          let e : d ≡ c.loop-k.k = omega (arith, ge, lt) in
          let here : name ≡ n = some-eq name n (sym c.name_for.ensures ∙ (ap (λ (j : ℕ). slice_get names j) (sym e) ∙ is)) in
          ap (λ (t : List ℕ). is_at_home (B.home c.args.bay.now) t) (sym here) ∙ found (B.home c.args.bay.now) name
          (sym (device_in-same (B.home c.args.bay.now) (B.home c.loop-k.bay) name (λ named. (c.loop-k.invariant.lent told).others name (not_meant names k name (differ_by c.args.conf.now (action_seen c.args.action) c.requires) at))) ∙ c.in-Ok-take_one.ensures.answer told))
          (cases_lt d c.loop-k.k);
      later = omega (arith, c.loop-k.invariant.later, c.in-Ok-take_one.ensures.later);
    }

pub returns-clause-answer : goal.returns-clause-answer
returns-clause-answer g c = λ told.
    devices_all (g.B.Bay.home c.args.bay.now) (names_by c.args.conf.now (action_seen c.args.action)) (λ j n lt is. c.loop-k.invariant.there told j n (omega (arith, lt, c.loop-k.invariant.count, c.loop-k-test.false)) is)
