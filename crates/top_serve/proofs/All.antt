-- All that is promised of what is served.
use Rattle.std.proofs.Common.{◌++◌, Option}
use Rattle.blk_disk.specs.declared.disk.Disk.{Ghosts as DiskGhosts}
use Rattle.lay_core.specs.declared.layout.Layout.{Ghosts as LayoutGhosts}
use Rattle.eng_parts.specs.declared.setup.Setup.{Setup}
use Rattle.eng_parts.specs.declared.setup.Closed.{Closed}
use Rattle.eng_state.specs.declared.array.Array.{Array}
use Rattle.eng_array.specs.declared.start.Start.{Start}
use Rattle.top_serve.specs.Served.{IsServed}
use Rattle.top_serve.proofs.Begins.{opens, rests}
use Rattle.top_serve.proofs.Between.{Between, course}
use Rattle.top_serve.proofs.Causing.{causes}
use Rattle.top_serve.proofs.Hands.{tells, hands}
use Rattle.top_serve.proofs.Leaving.{means, leaves}
use Rattle.top_serve.proofs.Starting.{first_of}

pub is-served : {L D : Type 0} (lay : LayoutGhosts L) (disk : DiskGhosts D) (setup : Setup L D) (how : Option Start) (first last : Array L D) (closed : Closed L D) → Between lay disk setup how first last closed → IsServed lay disk setup how closed
is-served lay disk setup how first last closed between =
    let p = course lay disk setup how first last closed between in
    record {
      start = p.start;
      events = p.own ++ first_of how p.count;
      now = p.now;
      opens = opens lay disk setup how first last closed p;
      rests = rests lay disk setup how first last closed p;
      means = means lay disk setup how first last closed p;
      tells = tells lay disk setup how first last closed p;
      hands = hands lay disk setup how first last closed p;
      leaves = leaves lay disk setup how first last closed p;
      causes = causes lay disk setup how first last closed p;
    }
