use Rattle.put_line.proofs.paging.put_by_pages.Given as goal

abbrev pub ghosts-put_paged : goal.ghosts-put_paged
ghosts-put_paged g a = record { sink = a.lent.sink.ghost_name; output = g.K.Sink.output a.lent.sink.now; faults = g.K.Sink.faults a.lent.sink.now }
