use Rattle.std.proofs.Common.{◌+◌, drop, length, map}
use Rattle.item_list.specs.ItemList.{ItemList}
use Rattle.raid_script.specs.Asked.{seen}
use Rattle.top_join.proofs.Lines.{Goes}
use Rattle.top_join.proofs.joining.join_all.Given as goal

-- the graphs of the lines so far, and those of the others behind them
abbrev pub invariant-loop-j : goal.invariant-loop-j
invariant-loop-j g l =
    Goes (g.L.Layout.shape l.layout) l.book (map (λ (row : ItemList). map seen row.items) l.clients) (length l.book) l.joins
    (map (λ v. v.drawn) l.joined.items) (length l.book + l.j) (drop l.j l.joins)
