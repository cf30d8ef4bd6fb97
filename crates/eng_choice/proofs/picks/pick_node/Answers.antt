use Rattle.std.proofs.Common.{◌≡◌, ◌∙◌, ℕ, MatchOption, Option, Some, None, false, inl, inr, refl, sym, ap, subst, arith}
use Rattle.std.specs.Option.{is_some}
use Rattle.std.proofs.lemmas.Bool.{false≢true}
use borrow.Author.Count.{below_more}
use Rattle.eng_clients.specs.Desk.{desk_at}
use Rattle.eng_state.specs.Can.{CanFire, CanSkip}
use Rattle.eng_choice.specs.Picked.{NoneReadyOf, IsLeastReadyOf}
use Rattle.eng_choice.proofs.Picking.{refuted, before-ready, none-ready}
use Rattle.eng_choice.proofs.picks.pick_node.Goals as goal

none-from : {X : Type 0} (o : Option X) → is_some o ≡ false → o ≡ None
none-from None e = refl
none-from (Some x) e = absurd (false≢true (sym e))

pub place_of-at-requires-clause-runs : goal.place_of-at-requires-clause-runs
place_of-at-requires-clause-runs g c = (subst (λ (o : Option ℕ). MatchOption o (NoneReadyOf c.args.array.now c.args.client c.loop-node.from) (IsLeastReadyOf c.args.array.now c.args.client c.loop-node.from)) c.in-Some.is c.ready_from.ensures).0

pub place_of-at-requires-clause-node : goal.place_of-at-requires-clause-node
place_of-at-requires-clause-node g c = (subst (λ (o : Option ℕ). MatchOption o (NoneReadyOf c.args.array.now c.args.client c.loop-node.from) (IsLeastReadyOf c.args.array.now c.args.client c.loop-node.from)) c.in-Some.is c.ready_from.ensures).1.ready.below

pub can_skip_at-requires-clause-not_lost : goal.can_skip_at-requires-clause-not_lost
can_skip_at-requires-clause-not_lost g c = none-from c.args.array.now.lost (sym c.is_some.ensures ∙ c.if-is_some.false)

pub can_skip_at-requires-clause-ripe : goal.can_skip_at-requires-clause-ripe
can_skip_at-requires-clause-ripe g c =
    let least = (subst (λ (o : Option ℕ). MatchOption o (NoneReadyOf c.args.array.now c.args.client c.loop-node.from) (IsLeastReadyOf c.args.array.now c.args.client c.loop-node.from)) c.in-Some.is c.ready_from.ensures) in
    (least.0, least.1.ready)

pub can_fire_at-requires-clause-not_lost : goal.can_fire_at-requires-clause-not_lost
can_fire_at-requires-clause-not_lost g c = none-from c.args.array.now.lost (sym c.is_some.ensures ∙ c.if-is_some.false)

pub can_fire_at-requires-clause-ripe : goal.can_fire_at-requires-clause-ripe
can_fire_at-requires-clause-ripe g c =
    let least = (subst (λ (o : Option ℕ). MatchOption o (NoneReadyOf c.args.array.now c.args.client c.loop-node.from) (IsLeastReadyOf c.args.array.now c.args.client c.loop-node.from)) c.in-Some.is c.ready_from.ensures) in
    (least.0, least.1.ready)

pub loop-node-init : goal.loop-node-init
loop-node-init g c = λ k lt. absurd (omega (arith, lt))

pub returns-then-can_skip_at-clause-event : goal.returns-then-can_skip_at-clause-event
returns-then-can_skip_at-clause-event g c = record {
  node = c.in-Some.node;
  event = inl refl;
  can = c.can_skip_at.ensures.0 c.if-can_skip_at.true;
  before = before-ready (desk_at c.args.array.now.clients c.args.client).run c.loop-node.from c.in-Some.node (λ n h. h.ready) (λ n h. h.ready) (subst (λ (o : Option ℕ). MatchOption o (NoneReadyOf c.args.array.now c.args.client c.loop-node.from) (IsLeastReadyOf c.args.array.now c.args.client c.loop-node.from)) c.in-Some.is c.ready_from.ensures).1 c.loop-node.invariant;
}

pub returns-then-can_fire_at-clause-event : goal.returns-then-can_fire_at-clause-event
returns-then-can_fire_at-clause-event g c = record {
  node = c.in-Some.node;
  event = inr refl;
  can = c.can_fire_at.ensures.0 c.if-can_fire_at.true;
  before = before-ready (desk_at c.args.array.now.clients c.args.client).run c.loop-node.from c.in-Some.node (λ n h. h.ready) (λ n h. h.ready) (subst (λ (o : Option ℕ). MatchOption o (NoneReadyOf c.args.array.now c.args.client c.loop-node.from) (IsLeastReadyOf c.args.array.now c.args.client c.loop-node.from)) c.in-Some.is c.ready_from.ensures).1 c.loop-node.invariant;
}

pub loop-node-smaller : goal.loop-node-smaller
loop-node-smaller g c =
    let least = (subst (λ (o : Option ℕ). MatchOption o (NoneReadyOf c.args.array.now c.args.client c.loop-node.from) (IsLeastReadyOf c.args.array.now c.args.client c.loop-node.from)) c.in-Some.is c.ready_from.ensures).1 in
    let from = least.from_on in let below = least.ready.below in omega (arith, from, below)

pub loop-node-preserved : goal.loop-node-preserved
loop-node-preserved g c = below_more _ c.in-Some.node
    (before-ready (desk_at c.args.array.now.clients c.args.client).run c.loop-node.from c.in-Some.node (λ n h. h.ready) (λ n h. h.ready) (subst (λ (o : Option ℕ). MatchOption o (NoneReadyOf c.args.array.now c.args.client c.loop-node.from) (IsLeastReadyOf c.args.array.now c.args.client c.loop-node.from)) c.in-Some.is c.ready_from.ensures).1 c.loop-node.invariant) (
      refuted c.can_skip_at.result _ c.can_skip_at.ensures c.if-can_skip_at.false,
      refuted c.can_fire_at.result _ c.can_fire_at.ensures c.if-can_fire_at.false,
    )

pub returns-clause-event : goal.returns-clause-event
returns-clause-event g c = λ n. (
  λ h. (none-ready {CanS = CanSkip g.L.Layout c.args.array.now c.args.client} {CanF = CanFire g.L.Layout c.args.array.now c.args.client} (desk_at c.args.array.now.clients c.args.client).run c.loop-node.from (λ m s. s.ready) (λ m s. s.ready) (subst (λ (o : Option ℕ). MatchOption o (NoneReadyOf c.args.array.now c.args.client c.loop-node.from) (IsLeastReadyOf c.args.array.now c.args.client c.loop-node.from)) c.in_default.is c.ready_from.ensures h.runs) c.loop-node.invariant n).0 h,
  λ h. (none-ready {CanS = CanSkip g.L.Layout c.args.array.now c.args.client} {CanF = CanFire g.L.Layout c.args.array.now c.args.client} (desk_at c.args.array.now.clients c.args.client).run c.loop-node.from (λ m s. s.ready) (λ m s. s.ready) (subst (λ (o : Option ℕ). MatchOption o (NoneReadyOf c.args.array.now c.args.client c.loop-node.from) (IsLeastReadyOf c.args.array.now c.args.client c.loop-node.from)) c.in_default.is c.ready_from.ensures h.runs) c.loop-node.invariant n).1 h,
)

pub returns-then-is_some-clause-event : goal.returns-then-is_some-clause-event
returns-then-is_some-clause-event g c = λ n. (
  λ h. false≢true (sym (c.is_some.ensures ∙ ap is_some h.not_lost) ∙ c.if-is_some.true),
  λ h. false≢true (sym (c.is_some.ensures ∙ ap is_some h.not_lost) ∙ c.if-is_some.true),
)
