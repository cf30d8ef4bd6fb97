use Rattle.std.proofs.Common.{true, false, Bool, refl, subst}
use Rattle.raid_map.specs.Reading.{IsUnion}
use Rattle.raid_top.proofs.showing.union_of.Goals as goal

pub returns-then-read_maps : goal.returns-then-read_maps
returns-then-read_maps g c = record {
  marks = c.read_maps.new.map;
  any = true;
  read = c.read_maps.ensures.read;
  union = λ told y same. subst (λ (b : Bool). IsUnion g.D.Disk y c.read_maps.new.columns c.read_maps.new.devices c.args.map c.read_maps.new.map b) c.if-read_maps.true (c.read_maps.ensures.union told y same);
  found_is = cc (c.regions.ensures, c.count.ensures);
}

pub returns : goal.returns
returns g c = record {
  marks = c.read_maps.new.map;
  any = false;
  read = c.read_maps.ensures.read;
  union = λ told y same. subst (λ (b : Bool). IsUnion g.D.Disk y c.read_maps.new.columns c.read_maps.new.devices c.args.map c.read_maps.new.map b) c.if-read_maps.false (c.read_maps.ensures.union told y same);
  found_is = refl;
}
