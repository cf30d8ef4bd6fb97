use Rattle.eng_array.proofs.SteadyHome.{home-room, home-enters, home-counts, home-standing, home-within, home-on, home-steady}
use Rattle.eng_array.proofs.HappeningHome.{end-of, home-happens, home-gets}
use Rattle.eng_state.specs.Moves.{id_of}
use Rattle.eng_fails.specs.Returned.{ends_bad}
use Rattle.eng_array.proofs.calls.Core.finish.Goals as goal

pub goes_home-requires-clause-place : goal.goes_home-requires-clause-place
goes_home-requires-clause-place g c = home-room g.L.Layout g.D.Disk c.args.self.now.array c.args.job c.args.outcome c.requires.steady c.requires.back

pub goes_home-requires-clause-history : goal.goes_home-requires-clause-history
goes_home-requires-clause-history g c = home-enters g.L.Layout g.D.Disk c.args.self.now.array c.args.job c.args.outcome c.requires.steady c.requires.back

pub goes_home-requires-clause-standing : goal.goes_home-requires-clause-standing
goes_home-requires-clause-standing g c = home-standing g.L.Layout g.D.Disk c.args.self.now.array c.args.job c.args.outcome c.requires.steady c.requires.back

pub goes_home-requires-clause-within : goal.goes_home-requires-clause-within
goes_home-requires-clause-within g c = home-within g.L.Layout g.D.Disk c.args.self.now.array c.args.job c.args.outcome c.requires.steady c.requires.back

pub goes_home-requires-clause-on : goal.goes_home-requires-clause-on
goes_home-requires-clause-on g c = λ loss is. home-on g.L.Layout g.D.Disk c.args.self.now.array c.args.job c.args.outcome c.requires.steady c.requires.back

pub goes_home-requires-clause-laid : goal.goes_home-requires-clause-laid
goes_home-requires-clause-laid g c = λ none. c.requires.steady.laid

pub goes_home-requires-clause-count : goal.goes_home-requires-clause-count
goes_home-requires-clause-count g c = λ none end. home-counts g.L.Layout g.D.Disk c.args.self.now.array c.args.job c.args.outcome c.requires.steady c.requires.back none

pub returns-clause-steady : goal.returns-clause-steady
returns-clause-steady g c =
    let h = c.goes_home.ensures.home in
    home-steady g.L.Layout g.D.Disk c.args.self.now.array c.args.job c.args.outcome c.requires.steady c.requires.back c.goes_home.new.array
    h.step h.sound h.goes c.goes_home.ensures.trace

pub returns-clause-happens : goal.returns-clause-happens
returns-clause-happens g c =
    let h = c.goes_home.ensures.home in
    home-happens g.L.Layout g.D.Disk c.args.self.now.array c.goes_home.new.array c.args.job c.args.outcome c.requires.steady c.requires.back h.devices (returns-clause-steady g c) h.step h.goes c.goes_home.ensures.trace

pub returns-clause-end : goal.returns-clause-end
returns-clause-end g c = end-of (ends_bad c.args.self.now.array c.args.job c.args.outcome) (id_of c.args.self.now.array.clients c.args.job.client) c.args.job.node

pub returns-clause-gets : goal.returns-clause-gets
returns-clause-gets g c =
    let h = c.goes_home.ensures.home in
    home-gets g.L.Layout g.D.Disk c.args.self.now.array c.goes_home.new.array c.args.job c.args.outcome c.requires.steady c.requires.back h.devices (returns-clause-steady g c) h.step h.goes c.goes_home.ensures.trace h.stays

pub returns-clause-step : goal.returns-clause-step
returns-clause-step g c = c.goes_home.ensures.home.step

pub returns-clause-stays : goal.returns-clause-stays
returns-clause-stays g c = c.goes_home.ensures.home.stays

pub returns-clause-devices : goal.returns-clause-devices
returns-clause-devices g c = c.goes_home.ensures.home.devices
