use Rattle.std.proofs.Common.{◌≡◌, ℕ, ◌+◌, length, take}
use Rattle.std.specs.Prelude.{◌==◌, if◌then◌else◌}
use Rattle.eng_one.specs.Followers.{followers_in}
use Rattle.eng_one.specs.Counts.{times}
use Rattle.eng_one.proofs.followers.Followers.enter.Given as goal

abbrev pub invariant-loop-ante : goal.invariant-loop-ante
invariant-loop-ante l = record {
  lists : (c k : ℕ) → times k (followers_in l.self c) ≡ times k (followers_in l.fn.self c) + (if k == l.follower then times c (take l.ante-index l.antes) else 0);
  nodes : length l.self.first ≡ length l.fn.self.first;
  entries : length l.self.names ≡ length l.fn.self.names + l.ante-index;
}
