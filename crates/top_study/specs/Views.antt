-- What is told, without where it lies in memory.
use Rattle.std.specs.Prelude.{ℕ, List}
use Rattle.raid_conf.specs.Layouts.{shape_in}
use Rattle.top_layout.specs.Lines.{layout_text}
use Rattle.top_study.specs.declared.studying.Studied.{Studied}
use Rattle.top_study.specs.declared.studying.Studied.TheVariants as studied

abbrev pub studied_text : Studied → List ℕ
studied_text (studied.Layout level layout) = layout_text level (shape_in layout)
