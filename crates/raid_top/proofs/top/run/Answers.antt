use Rattle.std.proofs.Common.{subst, ◌∙◌}
use Rattle.blk_disk.specs.Disk.{Rose}
use Rattle.top_status.specs.Refusals.{refusal_text}
use Rattle.top_status.specs.declared.status.Status.{Status}
use Rattle.raid_top.specs.Calls.{Refuses, call_text}
use Rattle.raid_top.specs.Words.{Printed}
use Rattle.raid_top.specs.Finished.{finished_seen}
use Rattle.raid_top.proofs.Endings.{acts_of, finished_status, printed_of}
use Rattle.raid_top.proofs.Headline.{headline}
use Rattle.raid_top.proofs.top.run.Goals as goal

pub returns-in-Ok-clause-answer : goal.returns-in-Ok-clause-answer
returns-in-Ok-clause-answer g c =
    let K = g.K.Sink in
    let f = c.in-Ok.finished in
    let ending = c.status_finished-status.result in
    record {
      outcome = finished_seen f;
      acts = acts_of _ _ _ f c.in-Ok.ensures.followed;
      printed =
          subst (λ (s : Status). Printed K.tells (Rose (K.faults c.args.out.now) (K.faults c.put_by_pages-printed.new.out)) s c.answer_of.result (call_text (finished_seen f)) (K.output c.args.out.now) (K.output c.put_by_pages-printed.new.out))
          (c.status_finished-status.ensures ∙ finished_status f)
          (printed_of K.tells (Rose (K.faults c.args.out.now) (K.faults c.put_by_pages-printed.new.out)) ending c.answer_of.result (call_text (finished_seen f)) (K.output c.args.out.now) (K.output c.put_by_pages-printed.new.out) c.put_by_pages-printed.result c.answer_of.ensures.ok c.answer_of.ensures.err c.put_by_pages-printed.ensures.output c.put_by_pages-printed.ensures.cause);
    }

pub returns-in-Err-clause-answer : goal.returns-in-Err-clause-answer
returns-in-Err-clause-answer g c =
    let K = g.K.Sink in
    let refusal = c.in-Err.refusal in
    let ending = c.into_status.result in
    record {
      outcome = Refuses refusal;
      acts = c.in-Err.ensures.refused;
      printed =
          subst (λ (s : Status). Printed K.tells (Rose (K.faults c.args.out.now) (K.faults c.put_refusal-printed.new.out)) s c.answer_of-in-Err.result (refusal_text refusal) (K.output c.args.out.now) (K.output c.put_refusal-printed.new.out))
          c.into_status.ensures
          (printed_of K.tells (Rose (K.faults c.args.out.now) (K.faults c.put_refusal-printed.new.out)) ending c.answer_of-in-Err.result (refusal_text refusal) (K.output c.args.out.now) (K.output c.put_refusal-printed.new.out) c.put_refusal-printed.result c.answer_of-in-Err.ensures.ok c.answer_of-in-Err.ensures.err c.put_refusal-printed.ensures.output c.put_refusal-printed.ensures.cause);
    }

pub returns-in-Ok-clause-headline : goal.returns-in-Ok-clause-headline
returns-in-Ok-clause-headline g c = headline _ _ _ _ _ _ _ _ (returns-in-Ok-clause-answer g c)

pub returns-in-Err-clause-headline : goal.returns-in-Err-clause-headline
returns-in-Err-clause-headline g c = headline _ _ _ _ _ _ _ _ (returns-in-Err-clause-answer g c)
