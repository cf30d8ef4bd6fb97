use Rattle.std.proofs.Common.{ℕ, List, length, subst, sym, ap, ◌∙◌, arith}
use Rattle.std.proofs.lemmas.Option.{slice_get_within}
use Rattle.buf_pool.specs.Pool.{PoolView, IsLease, AllHome}
use Rattle.eng_clients.specs.Desk.{Desk, desk_at}
use Rattle.eng_ends.proofs.EndingPlain.{below, well, all-home}
use Rattle.eng_ends.proofs.Terminating.{terminated}
use Rattle.eng_state.proofs.Shown.{desk-set}
use Rattle.eng_state.proofs.Ending.{ends-good}
use Rattle.eng_ends.proofs.end.terminate.Goals as goal

pub release-requires-clause-left : goal.release-requires-clause-left
release-requires-clause-left g c =
    let w = well g.L.Layout g.D.Disk c.args.array.now c.args.client c.args.node c.requires.sound c.requires.out c.requires.end in
    let lt = below g.L.Layout g.D.Disk c.args.array.now c.args.client c.args.node c.requires.sound c.requires.out c.requires.end in
    let h = c.plain_home.ensures in
    let d = desk_at c.args.array.now.clients c.args.client in
    let replies = ap (λ (e : Desk). length e.replies) (ap (λ (l : List Desk). desk_at l c.args.client) h.clients ∙ desk-set c.args.array.now.clients c.args.client _ lt) in
    let items = ap (λ (e : Desk). length e.items) (ap (λ (l : List Desk). desk_at l c.args.client) h.clients ∙ desk-set c.args.array.now.clients c.args.client _ lt) in
    let left = slice_get_within d.items (length d.replies) _ w.item in
    omega (arith, replies, items, left)

pub release-requires-clause-lease : goal.release-requires-clause-lease
release-requires-clause-lease g c =
    let w = well g.L.Layout g.D.Disk c.args.array.now c.args.client c.args.node c.requires.sound c.requires.out c.requires.end in
    let lt = below g.L.Layout g.D.Disk c.args.array.now c.args.client c.args.node c.requires.sound c.requires.out c.requires.end in
    let h = c.plain_home.ensures in
    subst (λ (p : PoolView). IsLease p (desk_at c.plain_home.new.self.clients c.args.client).lease) (sym h.pool)
    (subst (λ (l : List ℕ). IsLease c.args.array.now.pool l) (sym (ap (λ (e : Desk). e.lease) (ap (λ (l : List Desk). desk_at l c.args.client) h.clients ∙ desk-set c.args.array.now.clients c.args.client _ lt))) w.lease)

pub release-requires-clause-home : goal.release-requires-clause-home
release-requires-clause-home g c =
    let lt = below g.L.Layout g.D.Disk c.args.array.now c.args.client c.args.node c.requires.sound c.requires.out c.requires.end in
    let h = c.plain_home.ensures in
    subst (λ (p : PoolView). AllHome p (desk_at c.plain_home.new.self.clients c.args.client).lease) (sym h.pool)
    (subst (λ (l : List ℕ). AllHome c.args.array.now.pool l) (sym (ap (λ (e : Desk). e.lease) (ap (λ (l : List Desk). desk_at l c.args.client) h.clients ∙ desk-set c.args.array.now.clients c.args.client _ lt)))
    (all-home g.L.Layout g.D.Disk c.args.array.now c.args.client c.args.node c.requires.sound c.requires.out c.requires.end))

pub returns : goal.returns
returns g c =
    let lt = below g.L.Layout g.D.Disk c.args.array.now c.args.client c.args.node c.requires.sound c.requires.out c.requires.end in
    terminated c.args.array.now c.plain_home.new.self c.release.new.array c.args.client c.args.node c.args.reply lt c.plain_home.ensures c.release.ensures.released c.release.ensures.log

pub plain_home-requires-clause-can : goal.plain_home-requires-clause-can
plain_home-requires-clause-can g c = ends-good g.L.Layout g.D.Disk c.args.array.now c.args.client c.args.node c.requires.sound c.requires.out
