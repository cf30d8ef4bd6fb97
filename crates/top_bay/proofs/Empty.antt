-- A text without bytes.
use Rattle.std.specs.Prelude.{◌≡◌, [], Result, Ok}
use Rattle.std.proofs.Common.{refl}
use Rattle.graph_text.specs.Texts.{graphs_behind, graphs_of}
use Rattle.raid_text.specs.Text.{numbered, raw_lines}

-- it has no graphs
pub no_graphs_in : graphs_of [] ≡ Ok []
unfolding graphs_of raw_lines graphs_behind numbered
no_graphs_in = refl

-- what was read is what there is
pub ok_is : {A E : Type 0} (r : Result A E) (x z : A) → r ≡ Ok x → r ≡ Ok z → x ≡ z
ok_is r x z one two = cc (one, two)
