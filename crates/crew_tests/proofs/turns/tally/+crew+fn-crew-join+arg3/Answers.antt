use Rattle.std.proofs.Common.{rules, [], ◌∷◌}
use mir.Syntax.{of_param}
use denote.RattleType.{RattleType}
use denote.Param.Send.{IsSend, IsSync, sendable, param_send, Quiet-if}
use denote.Struct.Field.{u64-field, bool-field}
use denote.Struct.Tuple.{Tuple}
use Rattle.crew_tests.specs.contracts.turns.tally.Tally as tally
use Rattle.crew_tests.specs.contracts.turns.tally.TallyTurnRule.TheImpl.{ghosts}
use Rattle.eng_turn.specs.contracts.turn.Pass as pass
use Rattle.eng_turn.proofs.Sent.{pass_send, turn_sync}
use Rattle.crew_tests.proofs.turns.tally.+crew+fn-crew-join+arg3.Goals as goal

abbrev units : RattleType
units = Tuple (u64-field.row ∷ u64-field.row ∷ [])

units_send : IsSend units
units_send = search sendable depth 20

pass_goes : IsSend (pass.the_row tally.the_row units bool-field.row)
pass_goes = pass_send tally.the_row units bool-field.row units_send

pub join-other-requires-send-F : goal.join-other-requires-send-F
join-other-requires-send-F g t c κs within =
    let turn_goes = turn_sync tally.the_row units bool-field.row ghosts units_send in
    let runtime_goes : IsSync g.row.R = search rules in
    record {
      owned = λ x vs vss. (tt, ((tt, runtime_goes.shared x.0.now x.0.ref_ptr.0 x.0.ref_ptr.1 κs.1.1.1.1.1.1.0), ((tt, turn_goes.shared x.1.now x.1.ref_ptr.0 x.1.ref_ptr.1 κs.1.1.1.1.1.1.1.0), (pass_goes.owned x.2 vss.1.1.0, tt))));
      leaving = λ k. Quiet-if (k (of_param 1)) _ _ (λ x w. (tt, (tt, ((tt, tt), tt)))) (λ x w. tt);
    }

pub join-other-requires-send-A : goal.join-other-requires-send-A
join-other-requires-send-A g t c κs within = let sent = param_send 3 (pass.the_row tally.the_row units bool-field.row) pass_goes in record { owned = λ x vs. sent.owned x vs; leaving = λ k x w. sent.leaving k x w }
