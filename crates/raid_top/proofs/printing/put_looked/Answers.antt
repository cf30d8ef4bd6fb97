use Rattle.std.proofs.Common.{Bool, is_ok, subst, sym}
use Rattle.raid_bay.specs.Sink.{Puts}
use Rattle.top_open.specs.Opening.{opened_seen}
use Rattle.raid_top.specs.Shown.{shown_text}
use Rattle.raid_top.proofs.printing.put_looked.Goals as goal

pub returns-then-map-clause-output : goal.returns-then-map-clause-output
returns-then-map-clause-output g c = λ told.
    let s = c.args.shown.now in
    subst (λ (map : Bool). Puts (is_ok c.put_map.result) (g.K.Sink.output c.args.out.now) (shown_text map c.args.conf.now (opened_seen s.opened) s.sizes.items s.fronts.items s.map) (g.K.Sink.output c.put_map.new.out))
    (sym c.if-map.true) (c.put_map.ensures.output told)

pub returns-clause-output : goal.returns-clause-output
returns-clause-output g c = λ told.
    let s = c.args.shown.now in
    subst (λ (map : Bool). Puts (is_ok c.put_show.result) (g.K.Sink.output c.args.out.now) (shown_text map c.args.conf.now (opened_seen s.opened) s.sizes.items s.fronts.items s.map) (g.K.Sink.output c.put_show.new.out))
    (sym c.if-map.false) (rw c.deref.ensures.value at (rw c.deref-2.ensures.value at (rw c.is_any_marked.ensures at (c.put_show.ensures.output told))))
