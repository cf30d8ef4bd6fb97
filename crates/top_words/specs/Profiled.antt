-- What is seen of what an action is, without where its words lie in memory.
use Rattle.std.specs.Prelude.{option_map}
use Rattle.top_words.specs.declared.profile.Component.{Component as declared_component}
use Rattle.top_words.specs.declared.profile.Component.TheVariants as component
use Rattle.top_words.specs.declared.profile.Profile as declared_profile
use Rattle.top_words.specs.Asked.{Component, Profile, Nameless, Column, Device}
use Rattle.top_words.specs.Views.{beside_seen}

abbrev pub component_seen : declared_component → Component
component_seen component.Nameless = Nameless
component_seen (component.Column name) = Column name.now
component_seen (component.Device name) = Device name.now

abbrev pub profile_seen : declared_profile.Profile → Profile
profile_seen p = record {
  kind = p.kind;
  component = component_seen p.component;
  deed = p.deed;
  reads = p.reads;
  plain = p.plain;
  labels = p.labels;
  writes = p.writes;
  rebuild = p.rebuild;
  limit = p.limit;
  beside = option_map beside_seen p.beside;
  drawn = p.drawn;
  workers = p.workers;
  map = p.map;
}
