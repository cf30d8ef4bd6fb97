use Rattle.std.proofs.Common.{◌≡◌, ◌/◌, length, refl, ap, arith, rules, length-append}
use Rattle.blk_disk.specs.Stops.{written}
use Rattle.blk_disk.proofs.Written.{through_is, put_before, put_behind, put_same}
use Rattle.blk_disk.proofs.Stopping.{length_written, all_logged, logs_good}
use Rattle.blk_disk.proofs.stop.MemStopDisk.write.Goals as goal

pub invariant_of-self-2 : goal.invariant_of-self-2
invariant_of-self-2 c = record {
  whole = let t = ap length (through_is c.args.self.now.bytes.items c.put_at.new.bytes c.args.self.now.bytes.len (search rules)) in let l : length c.put_at.new.bytes ≡ length c.args.self.now.bytes.items = search rules in omega (arith, t, l, c.args.self.now.whole);
  same = let t = ap length (through_is c.args.self.now.bytes.items c.put_at.new.bytes c.args.self.now.bytes.len (search rules)) in let l : length c.put_at.new.bytes ≡ length c.args.self.now.bytes.items = search rules in omega (arith, t, l, c.args.self.now.same);
  few = let e = ap length c.log_sectors.ensures.items in omega (arith, e, length-append c.args.self.now.logged.items (written c.args.first c.args.from.now (length c.args.from.now / 512)), length_written c.args.first c.args.from.now (length c.args.from.now / 512), c.if-from-self.false, c.args.self.now.few);
  roomy = let e = c.log_sectors.ensures.room in let r = c.args.self.now.roomy in omega (arith, e, r);
  inside = all_logged c.args.self.now.logged.items c.log_sectors.new.logged.items c.args.first c.args.from.now (length c.args.self.now.bytes.items) _ c.log_sectors.ensures.items (let t = ap length (through_is c.args.self.now.bytes.items c.put_at.new.bytes c.args.self.now.bytes.len (search rules)) in let l : length c.put_at.new.bytes ≡ length c.args.self.now.bytes.items = search rules in omega (arith, t, l)) c.requires.inside c.args.self.now.inside;
}

pub returns-clause-before : goal.returns-clause-before
returns-clause-before c = λ s h. put_before c.args.self.now.bytes.items c.args.self.now.bytes.items c.args.from.now c.put_at.new.bytes c.args.self.now.bytes.len c.args.first s (search rules) (rw c.deref_mut.ensures.value at c.put_at.ensures) refl (let i = c.requires.inside in omega (arith, i)) h

pub returns-clause-behind : goal.returns-clause-behind
returns-clause-behind c = λ s h. put_behind c.args.self.now.bytes.items c.args.self.now.bytes.items c.args.from.now c.put_at.new.bytes c.args.self.now.bytes.len c.args.first s (search rules) (rw c.deref_mut.ensures.value at c.put_at.ensures) refl c.requires.whole (let i = c.requires.inside in omega (arith, i)) h

pub returns-clause-bytes : goal.returns-clause-bytes
returns-clause-bytes c = λ k h. put_same c.args.self.now.bytes.items c.args.self.now.bytes.items c.args.from.now c.put_at.new.bytes c.args.self.now.bytes.len c.args.first k (search rules) (rw c.deref_mut.ensures.value at c.put_at.ensures) refl (let i = c.requires.inside in omega (arith, i)) h

pub returns-clause-left : goal.returns-clause-left
returns-clause-left c = logs_good c.args.first c.args.from.now _ _ refl c.log_sectors.ensures.items
