use Rattle.std.proofs.Common.{◌≡◌, refl, subst, sym}
use Rattle.std.specs.Prelude.{option_map}
use Rattle.eng_state.specs.declared.array.Array.{Array}
use Rattle.eng_choice.specs.Picked.{next_after}
use Rattle.eng_array.specs.Steady.{IsSteady}
use Rattle.eng_array.proofs.SteadyPick.{steady-stands, steady-moved}
use Rattle.eng_array.proofs.calls.Core.choose.Goals as goal

pub pick-requires-clause-stands : goal.pick-requires-clause-stands
pick-requires-clause-stands g c = steady-stands g.L.Layout g.D.Disk c.args.self.now.array c.requires c.in-None.is

pub returns-in-None-clause-steady : goal.returns-in-None-clause-steady
returns-in-None-clause-steady g c =
    subst (λ (k : Array g.row.L.Denot g.row.D.Denot). IsSteady g.L.Layout g.D.Disk k) (sym c.pick.ensures.next)
    (steady-moved g.L.Layout g.D.Disk c.args.self.now.array (next_after c.args.self.now.array.next (option_map (λ x. x.event) c.pick.result)) c.requires)

pub returns-in-None-clause-quiet : goal.returns-in-None-clause-quiet
returns-in-None-clause-quiet g c = record {
  sound = returns-in-None-clause-steady g c;
  is = subst (λ (k : Array g.row.L.Denot g.row.D.Denot). k ≡ record c.args.self.now.array { next = k.next }) (sym c.pick.ensures.next) refl;
}
