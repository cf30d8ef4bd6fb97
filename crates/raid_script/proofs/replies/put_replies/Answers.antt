use Rattle.std.proofs.Common.{◌∙◌, ◌+◌, ◌*◌, ◌<◌, ◌++◌, ℕ, List, length, drop, min, true, false, refl, ap, arith, append-nil}
use Rattle.std.proofs.lemmas.Result.{err_from_is_err_and}
use Rattle.raid_script.specs.Steps.{client_text}
use Rattle.raid_script.proofs.Printed.{from_place, place_more, place_none, puts_on, puts_off}
use Rattle.raid_script.proofs.ReplyTexts.{client_is, before_more, before_within}
use Rattle.raid_script.proofs.replies.put_replies.Goals as goal

pub put_row-requires-clause-enough : goal.put_row-requires-clause-enough
put_row-requires-clause-enough g c =
    let k : c.loop-client.client < length c.args.clients.now = omega (arith, c.loop-client-test.true, c.min-client-end.ensures) in
    let within = before_within c.args.clients.now c.loop-client.client c.index-clients-client.result _ k c.index-clients-client.is refl in
    let place = c.loop-client.invariant.place in
    let enough = c.requires.enough in
    omega (arith, within, place, enough)

pub returns-in_err-at-clause-output : goal.returns-in_err-at-clause-output
returns-in_err-at-clause-output g c = λ told.
    let p = err_from_is_err_and c.from_residual.result c.from_residual.ensures.1 in
    let f = client_text c.args.clients.now c.args.replies.now c.args.sectors.now in
    let n = min (length c.args.clients.now) 16 in
    let i = c.loop-client.client in
    let h : i < n = omega (arith, c.loop-client-test.true, c.min-client-end.ensures) in
    let k : i < length c.args.clients.now = omega (arith, h) in
    let j : i < length c.args.replies.now = omega (arith, h, c.requires.clients_answered) in
    let is = client_is c.args.clients.now c.args.replies.now c.args.sectors.now (drop (512 * c.loop-client.at) c.args.sectors.now) i c.index-clients-client.result c.index-replies-client.result _ _ (512 * c.loop-client.at) k j c.index-clients-client.is c.index-replies-client.is refl c.as_slice-told.ensures.value (ap (λ (m : ℕ). 512 * m) c.loop-client.invariant.place) refl in
    rw p.1 (c.loop-client.invariant.rest told false _
    (puts_off _ _ _ _ _ (place_more f i n h ∙ ap (λ (t : List ℕ). t ++ from_place f (i + 1) n) is) (c.in_err-at.ensures.output told)))

pub loop-client-preserved : goal.loop-client-preserved
loop-client-preserved g c =
    let f = client_text c.args.clients.now c.args.replies.now c.args.sectors.now in
    let n = min (length c.args.clients.now) 16 in
    let i = c.loop-client.client in
    let h : i < n = omega (arith, c.loop-client-test.true, c.min-client-end.ensures) in
    let k : i < length c.args.clients.now = omega (arith, h) in
    let j : i < length c.args.replies.now = omega (arith, h, c.requires.clients_answered) in
    let is = client_is c.args.clients.now c.args.replies.now c.args.sectors.now (drop (512 * c.loop-client.at) c.args.sectors.now) i c.index-clients-client.result c.index-replies-client.result _ _ (512 * c.loop-client.at) k j c.index-clients-client.is c.index-replies-client.is refl c.as_slice-told.ensures.value (ap (λ (m : ℕ). 512 * m) c.loop-client.invariant.place) refl in
    let more = before_more c.args.clients.now i c.index-clients-client.result _ k c.index-clients-client.is refl in
    record {
      rest = λ told b new puts. c.loop-client.invariant.rest told b new
          (puts_on b _ _ new _ _ _ (place_more f i n h ∙ ap (λ (t : List ℕ). t ++ from_place f (i + 1) n) is) (c.in_ok-at.ensures.output told) puts);
      later = omega (arith, c.put_row.ensures.later, c.loop-client.invariant.later);
      place = omega (arith, more, c.loop-client.invariant.place, c.in_ok-at.ensures.passed);
    }

pub returns-clause-output : goal.returns-clause-output
returns-clause-output g c = λ told.
    let f = client_text c.args.clients.now c.args.replies.now c.args.sectors.now in
    c.loop-client.invariant.rest told true _ (rw (place_none f c.loop-client.client (min (length c.args.clients.now) 16) (omega (arith, c.loop-client-test.false, c.min-client-end.ensures)), append-nil) refl)
