use Rattle.std.proofs.Common.{rules, ◌∙◌, Some}
use Rattle.std.proofs.lemmas.List.Elements.{All-pop}
use denote.Param.{param}
use denote.Param.Send.{IsSend, IsSync, Quiet-if, cell_keyless}
use denote.Memory.{raw_all}
use denote.Plain.{UInt}
use mir.Syntax.{of_param, w64}
use Rattle.eng_crew.specs.Idle.{IsSpare}
use Rattle.eng_crew.proofs.Sent.{pass-goes, turn-goes}
use Rattle.eng_crew.proofs.crew.+crew+fn-crew-join+arg3.Goals as goal

pub join-other-requires-send-F : goal.join-other-requires-send-F
join-other-requires-send-F g t c κs within =
    let l : IsSend (param 0 g.row.L) = search rules in
    let d : IsSend (param 1 g.row.D) = search rules in
    let runtime : IsSync g.row.R = search rules in
    let told : IsSync g.row.P = search rules in
    let its_turn = turn-goes (param 0 g.row.L) (param 1 g.row.D) g.L.Layout g.D.Disk l d in
    let its_pass = pass-goes (param 0 g.row.L) (param 1 g.row.D) l d in
    record {
      owned = λ x vs vss. (tt, ((tt, runtime.shared x.0.now x.0.ref_ptr.0 x.0.ref_ptr.1 κs.1.1.1.1.1.1.0), ((tt, its_turn.shared x.1.now x.1.ref_ptr.0 x.1.ref_ptr.1 κs.1.1.1.1.1.1.1.0), (its_pass.owned x.2 vss.1.1.0, ((tt, told.shared x.3.now x.3.ref_ptr.0 x.3.ref_ptr.1 κs.1.1.1.1.1.1.1.1.0), ((tt, λ ys. ((tt, tt), λ q. cell_keyless q (raw_all (UInt w64).mir) ys x.4.ref_ptr.0 x.4.ref_ptr.1)), tt))))));
      leaving = λ k. Quiet-if (k (of_param 1)) _ _ (λ x w. (tt, (tt, ((tt, tt), tt)))) (λ x w. tt);
    }

pub join-other-requires-send-A : goal.join-other-requires-send-A
join-other-requires-send-A g t c κs within =
    let l : IsSend (param 0 g.row.L) = search rules in
    let d : IsSend (param 1 g.row.D) = search rules in
    let its_pass = pass-goes (param 0 g.row.L) (param 1 g.row.D) l d in
    record { owned = λ x vs. its_pass.owned x vs; leaving = λ k. Quiet-if (k (of_param 3)) _ _ (λ x w. (tt, tt)) (λ x w. tt) }

pub join-other-requires-after_bounds : goal.join-other-requires-after_bounds
join-other-requires-after_bounds g t c κs within =
    let popped = All-pop (IsSpare c.args.turn.now) c.args.others.items c.pop.new.self.items (Some c.in-Some.other) c.in-Some.ensures.items c.requires.others in
    (popped.1, (search (rules, c.decreases), (λ a m. m, (λ a m. m, (λ a m. m, (λ a m. m, ((search rules, search rules, (c.requires.ready, popped.0)), (search rules, search rules, search rules, search rules))))))))

pub returns-clause-idle : goal.returns-clause-idle
returns-clause-idle g t c = let idle = c.join-other.ensures.second.2 in (idle.0, c.join.ensures.mark ∙ idle.1, idle.2, idle.3)
