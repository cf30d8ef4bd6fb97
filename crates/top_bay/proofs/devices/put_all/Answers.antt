use Rattle.std.specs.Prelude.{Option}
use Rattle.std.proofs.Common.{◌≡◌, ◌<◌, ◌-◌, ◌∙◌, ⊎_elim, ℕ, List, [], Some, IsSome, length, get_or, take, vec_len, slice_get, ap, sym, subst, arith}
use Rattle.std.proofs.lemmas.List.{take-take, get_or-take}
use Rattle.std.proofs.lemmas.Bool.{cases_order}
use Rattle.blk_disk.specs.Devices.{device_at}
use Rattle.blk_disk.proofs.DeviceLaws.{device_at-get}
use Rattle.top_words.specs.Views.{action_seen}
use Rattle.top_bay.specs.Asked.{names_by}
use Rattle.top_bay.proofs.NamesBy.{differ_by}
use Rattle.top_bay.proofs.Meant.{other_place, some-eq}
use Rattle.top_bay.proofs.devices.put_all.Goals as goal

-- the device that was popped is the one of this number
popped_is : {D : Type 0} (device : Option D) (all was : List (Option D)) (i n : ℕ) → i < n → i < length all → Some device ≡ Some (get_or was i device) → was ≡ take n all → device ≡ device_at all i
popped_is device all was i n few inside value items =
    some-eq device (get_or was i device) value ∙ (ap (λ l. get_or l i device) items ∙ (get_or-take n all i device few ∙ sym (device_at-get all i device inside)))

pub put_one-requires-clause-there : goal.put_one-requires-clause-there
put_one-requires-clause-there g c = λ some.
    let i : ℕ = vec_len c.pop.new.self in
    let was = c.loop-device.devices in
    let all = c.args.devices.items in
    let at : slice_get (names_by c.args.conf.now (action_seen c.args.action)) i ≡ Some c.name_for.result.now = ap (λ (k : ℕ). slice_get (names_by c.args.conf.now (action_seen c.args.action)) k) (sym c.len.ensures) ∙ c.name_for.ensures in
    let few : i < vec_len was = omega (arith, c.in-Some.ensures.cases) in
    let last : vec_len was - 1 ≡ i = omega (arith, few, c.in-Some.ensures.cases) in
    let inside : i < length all = omega (arith, few, c.loop-device.invariant.many, c.args.devices.ok.0) in
    let is : c.in-Some.device ≡ device_at all i = popped_is c.in-Some.device all was.items i (vec_len was) few inside (c.in-Some.ensures.value c.in-Some.device (omega (arith, few)) ∙ ap (λ (k : ℕ). Some (get_or was.items k c.in-Some.device)) last) c.loop-device.invariant.items in
    (c.requires.out.there i c.name_for.result.now inside at).0 (subst (λ o. IsSome o) is some)

pub put_one-requires-clause-out : goal.put_one-requires-clause-out
put_one-requires-clause-out g c = λ some.
    let i : ℕ = vec_len c.pop.new.self in
    let at : slice_get (names_by c.args.conf.now (action_seen c.args.action)) i ≡ Some c.name_for.result.now = ap (λ (k : ℕ). slice_get (names_by c.args.conf.now (action_seen c.args.action)) k) (sym c.len.ensures) ∙ c.name_for.ensures in
    c.loop-device.invariant.out i c.name_for.result.now (omega (arith, c.in-Some.ensures.cases)) at (put_one-requires-clause-there g c some)

pub loop-device-preserved : goal.loop-device-preserved
loop-device-preserved g c =
    let B = g.B.Bay in
    let was = c.loop-device.devices in
    let all = c.args.devices.items in
    let i : ℕ = vec_len c.pop.new.self in
    let name : List ℕ = c.name_for.result.now in
    let names = names_by c.args.conf.now (action_seen c.args.action) in
    let at : slice_get names i ≡ Some name = ap (λ (k : ℕ). slice_get names k) (sym c.len.ensures) ∙ c.name_for.ensures in
    let few : i < vec_len was = omega (arith, c.in-Some.ensures.cases) in
    let last : vec_len was - 1 ≡ i = omega (arith, few, c.in-Some.ensures.cases) in
    let inside : i < length all = omega (arith, few, c.loop-device.invariant.many, c.args.devices.ok.0) in
    let is : c.in-Some.device ≡ device_at all i = popped_is c.in-Some.device all was.items i (vec_len was) few inside (c.in-Some.ensures.value c.in-Some.device (omega (arith, few)) ∙ ap (λ (k : ℕ). Some (get_or was.items k c.in-Some.device)) last) c.loop-device.invariant.items in
    let full : IsSome c.in-Some.device → (n : List ℕ) → slice_get names i ≡ Some n → n ≡ [] → ⊥ = λ some n here. (c.requires.out.there i n inside here).0 (subst (λ o. IsSome o) is some) in
    record {
      many = omega (arith, few, c.loop-device.invariant.many);
      items = c.in-Some.ensures.rest ∙ (ap (λ (k : ℕ). take k was.items) last ∙ (ap (λ l. take i l) c.loop-device.invariant.items ∙ take-take i (vec_len was) all (omega (arith, few))));
      out = λ d n lt here named. c.put_one.ensures.out n
          (λ e. other_place names d i n (differ_by c.args.conf.now (action_seen c.args.action) c.requires.conf) named lt here (at ∙ ap (λ (t : List ℕ). Some t) (sym e)))
          (c.loop-device.invariant.out d n (omega (arith, lt, few)) here named);
      back = λ told d n low high some here. ⊎_elim
          (λ same.
          let e : n ≡ name = some-eq n name (sym here ∙ (ap (λ (k : ℕ). slice_get names k) same ∙ at)) in
          let here_too : device_at all d ≡ c.in-Some.device = ap (λ (k : ℕ). device_at all k) same ∙ sym is in
          ap (λ (t : List ℕ). B.home c.put_one.new.bay t) e ∙ (c.put_one.ensures.back told (subst (λ o. IsSome o) here_too some) ∙ sym here_too))
          (λ order.
          let past : i < d = ⊎_elim (λ lt. absurd (omega (arith, lt, low))) (λ gt. gt) order in
          let named = (c.requires.out.there d n (omega (arith, high, c.args.devices.ok.0)) here).0 some in
          c.put_one.ensures.homes told n (λ some2 same. other_place names i d n (differ_by c.args.conf.now (action_seen c.args.action) c.requires.conf) named past (at ∙ ap (λ (t : List ℕ). Some t) (sym same)) here)
          ∙ c.loop-device.invariant.back told d n (omega (arith, past, c.in-Some.ensures.cases)) high some here)
          (cases_order d i);
      others = λ told n apart. c.put_one.ensures.homes told n
          (λ some e. let here : slice_get names i ≡ Some n = at ∙ ap (λ (t : List ℕ). Some t) (sym e) in
          apart (record { at = i; before = omega (arith, few, c.loop-device.invariant.many); is = here; named = full some n here }))
          ∙ c.loop-device.invariant.others told n apart;
      faults = c.put_one.ensures.faults ∙ c.loop-device.invariant.faults;
    }
