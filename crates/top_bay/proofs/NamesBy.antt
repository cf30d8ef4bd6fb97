-- The names of the devices that an action goes by.
use Rattle.std.specs.Prelude.{[], ◌∷◌}
use Rattle.std.proofs.Common.{arith}
use Rattle.raid_conf.specs.declared.conf.Conf.{Conf}
use Rattle.raid_conf.specs.Form.{Differ, IsConf}
use Rattle.raid_text.specs.Text.{Text}
use Rattle.top_words.specs.Asked.{Action, Component, Nameless, Column, Device, profile_of}
use Rattle.top_words.specs.declared.profile.Kind.{Kind}
use Rattle.top_words.specs.declared.profile.Kind.TheVariants as kind
use Rattle.top_bay.specs.Asked.{names_by, names_with}
use Rattle.top_bay.specs.Steps.{name_of}

none_differ : Differ []
none_differ i j m n lt within same = absurd (omega (arith, within))

one_differs : (name : Text) → Differ (name ∷ [])
one_differs name i j m n lt within same = absurd (omega (arith, lt, within))

name_differs : (component : Component) → Differ (name_of component)
name_differs Nameless = none_differ
name_differs (Column name) = one_differs name
name_differs (Device name) = one_differs name

differ_with : (conf : Conf) (k : Kind) (component : Component) → IsConf conf → Differ (names_with conf k component)
differ_with conf kind.Array component is = is.differ
differ_with conf kind.Shown component is = is.differ
differ_with conf kind.Label component is = name_differs component
differ_with conf kind.Conf component is = none_differ

-- no two of them are the same, but for the empty one
pub differ_by : (conf : Conf) (action : Action) → IsConf conf → Differ (names_by conf action)
differ_by conf action is = differ_with conf (profile_of action).kind (profile_of action).component is
