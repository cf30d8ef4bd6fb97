use Rattle.std.proofs.Common.{◌≡◌, [], append-nil}
use Rattle.put_line.proofs.Pages.{put_by}
use Rattle.put_line.proofs.paging.put_paged.Goals as goal

pub returns-clause-output : goal.returns-clause-output
returns-clause-output g c = λ told.
    let none : c.args.room.bytes.items ≡ [] = c.args.room.empty in
    let f = c.finish-finished.ensures in
    put_by c.put_into-printed.result c.finish-finished.result g.N.Start.output _ (g.P.Prints.text c.args.what.now) _ _
    (cc (c.requires.start, none, append-nil g.N.Start.output)) f.printed (f.ok told) (f.err told) (c.put_into-printed.ensures.output told)
