use Rattle.std.proofs.Common.{◌≡◌, ◌∙◌, ℕ, List, is_ok, sym, subst, ap}
use Rattle.raid_bay.specs.Sink.{Puts}
use Rattle.top_scan.specs.Lines.{named_line}
use Rattle.top_scan.specs.Steps.{member_front}
use Rattle.top_scan.proofs.Here.{name_is}
use Rattle.top_scan.proofs.members.put_member.Goals as goal

pub returns-clause-output : goal.returns-clause-output
returns-clause-output g c = λ told.
    let name = name_is c.args.names.now c.args.found.place c.name_at.result.now c.name_at.ensures in
    let front : c.bytes.result.now ≡ member_front c.args.found.column = c.bytes.ensures ∙ c.set_member.ensures in
    subst (λ (t : List ℕ). Puts (is_ok c.put_named.result) (g.K.Sink.output c.args.out.now) t (g.K.Sink.output c.put_named.new.out))
    (ap (λ (f : List ℕ). named_line f c.name_at.result.now) front ∙ ap (λ (n : List ℕ). named_line (member_front c.args.found.column) n) (sym name))
    (c.put_named.ensures.output told)
