use Rattle.std.proofs.Common.{◌≡◌, ◌-◌, ℕ, length, replicate, sym, ap, ◌∙◌, arith}
use Rattle.std.proofs.lemmas.List.{length-append, length-replicate}
use Rattle.std.specs.Vec.{vec_len}
use Rattle.buf_pool.proofs.Writing.{put_is}
use Rattle.buf_pool.proofs.zeroed.Zeroed.put.Goals as goal

pub returns : goal.returns
returns c =
    let w = c.self.inside.written.items in
    let l = vec_len c.self.inside.written in
    let known : length w ≡ l = sym c.self.inside.written.ok.0 in
    let whole : length c.args.self.now ≡ c.self.inside.count = ap length (sym c.self.view_is) ∙ omega (arith, length-append w (replicate {A = ℕ} (c.self.inside.count - l) 0), length-replicate {A = ℕ} (c.self.inside.count - l) 0, known, c.self.invariant.0) in
    put_is w c.args.self.now c.args.from.now c.reach.new.written.items c.lay.new.written.items c.self.inside.count c.args.at l (vec_len c.lay.new.written) known c.self.invariant.0 c.self.view_is
    (omega (arith, whole, c.requires)) c.reach.ensures.items c.lay.ensures.items c.lay.new.written.ok.0
