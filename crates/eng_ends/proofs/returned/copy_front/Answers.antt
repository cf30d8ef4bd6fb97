use Rattle.std.proofs.Common.{◌*◌, ℕ, List, length, take, sym, ap, ◌∙◌}
use Rattle.blk_disk.specs.Sectors.{put}
use Rattle.eng_state.specs.declared.array.Array.{Array}
use Rattle.eng_log.specs.Log.{with_bytes}
use Rattle.eng_ends.proofs.Copying.{front-returned, left-lease}
use Rattle.eng_ends.proofs.Rebuilding.{well-run}
use Rattle.eng_ends.proofs.returned.copy_front.Goals as goal

pub buffer_home-requires-clause-lease : goal.buffer_home-requires-clause-lease
buffer_home-requires-clause-lease g c =
    let w = well-run g.L.Layout g.D.Disk c.args.array.now c.requires.sound c.args.client c.requires.runs in
    left-lease g.L.Layout g.D.Disk c.args.array.now c.args.client (record { first = 0; count = 0 }) c.buffer_leaves-buffer.new.self c.args.buf w.lease c.requires.buf c.buffer_leaves-buffer.ensures.now

pub returns-clause-now : goal.returns-clause-now
returns-clause-now g c =
    let w = well-run g.L.Layout g.D.Disk c.args.array.now c.requires.sound c.args.client c.requires.runs in
    let mid : Array g.row.L.Denot g.row.D.Denot = c.buffer_leaves-buffer.new.self in
    front-returned g.L.Layout g.D.Disk c.args.array.now c.args.client (record { first = 0; count = 0 }) mid c.buffer_home.new.self c.args.buf c.args.first (512 * c.args.count) c.buffer_leaves-buffer.result c.hand.new.self
    (w.lease c.args.buf c.requires.buf).0 (c.requires.home c.args.buf c.requires.buf) c.buffer_leaves-buffer.ensures.bytes c.buffer_leaves-buffer.ensures.now
    (c.hand.ensures ∙ ap (λ (b : List ℕ). with_bytes mid.log (put mid.log.handed.bytes c.args.first (take (512 * c.args.count) b))) c.bytes.ensures)
    c.buffer_home.ensures

pub returns-clause-long : goal.returns-clause-long
returns-clause-long g c = sym (ap (λ (b : List ℕ). length b) c.buffer_leaves-buffer.ensures.bytes) ∙ c.buffer_leaves-buffer.ensures.long
