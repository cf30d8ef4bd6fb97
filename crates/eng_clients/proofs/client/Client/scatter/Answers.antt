use Rattle.std.proofs.Common.{◌≡◌, ◌++◌, ◌∷◌, ◌∙◌, [], List, append_assoc, append-nil, ap, refl, subst, sym}
use Rattle.eng_job.specs.declared.job.Source.{Source}
use Rattle.eng_clients.specs.Scattered.{SourcesOut, SourcesHome}
use Rattle.eng_clients.proofs.Scattered.{none-home, one-below, one-out, one-long, still-leased, one-home}
use Rattle.eng_clients.proofs.client.Client.scatter.Goals as goal

pub loop-source-init : goal.loop-source-init
loop-source-init c = ([], sym (append-nil c.args.sources.now.items), none-home c.args.pool.now c.args.self.now.lease, refl)

-- all sources: those that are left, this one, and those that are home
split : (from was still done : List Source) (s : Source) → from ≡ was ++ done → was ≡ still ++ s ∷ [] → from ≡ still ++ s ∷ done
split from was still done s e is = e ∙ (ap (λ (l : List Source). l ++ done) is ∙ append_assoc still (s ∷ []) done)

out : (c : goal.After-put-arg-1) → SourcesOut c.args.pool.now c.args.self.now.lease (c.pop.new.self.items ++ c.in-Some.source ∷ c.loop-source.invariant.0)
out c = subst (SourcesOut c.args.pool.now c.args.self.now.lease) (split c.args.sources.now.items c.loop-source.sources.items c.pop.new.self.items c.loop-source.invariant.0 c.in-Some.source c.loop-source.invariant.1 c.in-Some.ensures.items) c.requires.out

pub put-requires-clause-lease : goal.put-requires-clause-lease
put-requires-clause-lease c = still-leased c.args.pool.now c.loop-source.pool c.args.self.now.lease c.pop.new.self.items c.in-Some.source c.loop-source.invariant.0 c.requires.lease (out c) c.loop-source.invariant.2

pub put-requires-clause-buf : goal.put-requires-clause-buf
put-requires-clause-buf c = one-below c.args.pool.now c.loop-source.pool c.args.self.now.lease c.pop.new.self.items c.in-Some.source c.loop-source.invariant.0 c.requires.lease (out c) c.loop-source.invariant.2

pub put-requires-clause-out : goal.put-requires-clause-out
put-requires-clause-out c = one-out c.args.pool.now c.loop-source.pool c.args.self.now.lease c.pop.new.self.items c.in-Some.source c.loop-source.invariant.0 c.requires.lease (out c) c.loop-source.invariant.2

pub put-requires-clause-long : goal.put-requires-clause-long
put-requires-clause-long c = one-long c.args.pool.now c.loop-source.pool c.args.self.now.lease c.pop.new.self.items c.in-Some.source c.loop-source.invariant.0 c.requires.lease (out c) c.loop-source.invariant.2

pub loop-source-preserved : goal.loop-source-preserved
loop-source-preserved c =
    let done = c.loop-source.invariant.0 in
    let is = split c.args.sources.now.items c.loop-source.sources.items c.pop.new.self.items done c.in-Some.source c.loop-source.invariant.1 c.in-Some.ensures.items in (
      c.in-Some.source ∷ done,
      is,
      subst (SourcesHome c.args.pool.now c.args.self.now.lease (c.in-Some.source ∷ done)) (sym c.put.ensures)
          (one-home c.args.pool.now c.loop-source.pool c.args.self.now.lease c.pop.new.self.items c.in-Some.source done c.requires.lease (subst (SourcesOut c.args.pool.now c.args.self.now.lease) is c.requires.out) c.loop-source.invariant.2),
      c.in-Some.ensures.capacity ∙ c.loop-source.invariant.3,
    )
