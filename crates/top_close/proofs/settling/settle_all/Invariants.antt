use Rattle.top_close.specs.Settled.{AreSettled}
use Rattle.top_close.proofs.settling.settle_all.Given as goal

-- the columns so far were settled
abbrev pub invariant-loop-column : goal.invariant-loop-column
invariant-loop-column g l = AreSettled g.D.Disk l.column l.fn.columns l.columns l.fn.devices l.devices
