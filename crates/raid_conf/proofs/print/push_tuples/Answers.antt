use Rattle.std.proofs.Common.{◌≡◌, ◌∙◌, ℕ, suc, ◌+◌, ◌-◌, ◌*◌, arith}
use Rattle.std.proofs.Math.Nat.{suc-mul}
use Rattle.raid_conf.proofs.PrintedLines.{tuples_all, tuples_more}
use Rattle.raid_conf.proofs.print.push_tuples.Goals as goal

-- the numbers behind those of one tuple
behind : (len m n k : ℕ) → m ≡ suc n → len + k ≡ m * k → len ≡ n * k
behind len m n k left all =
    let whole : len + k ≡ suc n * k = rw left at all in
    omega (arith, whole, suc-mul n k)

pub loop-preserved : goal.loop-preserved
loop-preserved c =
    let left : c.args.b - c.loop.counter ≡ suc (c.args.b - (c.loop.counter + 1)) = omega arith in
    record {
      count = behind _ (c.args.b - c.loop.counter) (c.args.b - (c.loop.counter + 1)) c.args.k left (c.split_at.ensures.back_len ∙ c.loop.invariant.count);
      lines = tuples_more _ _ _ (c.args.b - c.loop.counter) (c.args.b - (c.loop.counter + 1)) c.args.k c.loop.rest.now _ _ left c.split_at.ensures.front c.split_at.ensures.back c.in_ok-push_tuple.ensures c.loop.invariant.lines;
    }

pub returns : goal.returns
returns c = tuples_all _ _ (c.args.b - c.loop.counter) c.args.k c.loop.rest.now (omega arith) c.loop.invariant.lines
