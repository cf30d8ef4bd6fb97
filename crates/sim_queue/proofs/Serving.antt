-- One service more.
use Rattle.std.proofs.Common.{◌≡◌, ℕ, ◌+◌, ◌≤◌, List, [], ◌∷◌, ◌++◌, refl}
use Rattle.blk_plain.specs.declared.op.Op.{Op}
use Rattle.blk_plain.specs.declared.op.Op.TheVariants.{Write, Writes, Read, Rebuild, Sync}
use Rattle.sim_queue.specs.declared.request.Request.{Request}
use Rattle.sim_queue.specs.declared.request.Served.{Served}
use Rattle.sim_queue.specs.declared.request.Queue.{Queue}
use Rattle.sim_queue.specs.Service.{Moment, IsServed, after, span_of, IsTransfer}
use Rattle.sim_queue.proofs.Words.{after_all, AreNext}

pub push_served : (requests : List Request) (queue : Queue) (m : Moment) (ss : List Served) (s : Served) → AreNext requests queue m ss → IsServed requests queue (after_all requests queue m ss) s → AreNext requests queue m (ss ++ s ∷ [])
push_served requests queue m [] s are is = (is, tt)
push_served requests queue m (t ∷ ts) s are is = (are.0, push_served requests queue (after requests queue m t) ts s are.1 is)

pub push_after : (requests : List Request) (queue : Queue) (m : Moment) (ss : List Served) (s : Served) → after_all requests queue m (ss ++ s ∷ []) ≡ after requests queue (after_all requests queue m ss) s
push_after requests queue m [] s = refl
push_after requests queue m (t ∷ ts) s = push_after requests queue (after requests queue m t) ts s

-- a transfer's span lies within the sectors
pub span_within : (n : ℕ) (op : Op) → IsTransfer n op → (span_of op).first + (span_of op).count ≤ n
span_within n (Write span pattern) h = h
span_within n (Read span) h = h
span_within n (Writes patches) h = absurd h
span_within n (Rebuild stripe) h = absurd h
span_within n (Sync stripe) h = absurd h
