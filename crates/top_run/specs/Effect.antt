-- What a run of clients asks and tells, in the words of what it comes to.
use Rattle.run_effect.specs.Effect.{Request, Answer}
use Rattle.top_run.specs.Work.{Work, Service}

abbrev pub request_of : Work → Request
request_of a = record { layout = a.layout; columns = a.columns; clients = a.clients }

abbrev pub answer_of : Service → Answer
answer_of s = record { clients = s.clients; replies = s.replies; sectors = s.sectors; history = s.history; columns = s.ending.columns; lost = s.ending.lost }
