use Rattle.base_tests.proofs.buffers.two_leases_have_buffers_of_their_own.Goals as goal

pub put-requires-clause-lease : goal.put-requires-clause-lease
put-requires-clause-lease g c =
    let first = c.in_ok-one.ensures.leased.is_lease in
    c.take-mine.ensures.leases c.in_ok-one.one (c.in_ok-other.ensures.apart c.in_ok-one.one first).0
