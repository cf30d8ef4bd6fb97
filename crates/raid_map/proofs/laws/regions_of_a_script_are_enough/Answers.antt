use Rattle.raid_map.specs.Asking.{ScriptMayWrite}
use Rattle.raid_map.proofs.Script.{script-asked, also-marked}
use Rattle.raid_map.proofs.laws.regions_of_a_script_are_enough.Goals as goal

pub returns : goal.returns
returns c = record {
  asked = λ y graphs clients regions w marked quiet from. script-asked y graphs clients regions w marked quiet from;
  marked = λ y file clients old new same m. also-marked y (ScriptMayWrite y file clients) old new same m;
}
