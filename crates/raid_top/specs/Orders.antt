-- What an action is, of an array that something is done to without a core.
use Rattle.std.specs.Prelude.{ℕ, replicate, Option, Some, None}
use Rattle.raid_conf.specs.declared.conf.Conf.{Conf}
use Rattle.raid_label.specs.declared.label.Label.{Label}
use Rattle.top_acts.specs.declared.sweeping.Renewal.TheVariants as renewal
use Rattle.top_duty.specs.Opening.{plan_of}
use Rattle.top_words.specs.declared.profile.Deed.{Deed}
use Rattle.top_words.specs.declared.profile.Deed.TheVariants as deed
use Rattle.raid_top.specs.declared.array.Order.{Order}
use Rattle.raid_top.specs.declared.array.Order.TheVariants as order

-- the label of an array of this configuration that was never labelled: rounds count from 1 on, and none has said that the array is clean
abbrev pub first_label : Conf → ℕ → ℕ → Label
first_label conf rows serial = record {
  version = 2;
  serial = serial;
  counter = 0;
  column = 0;
  columns = conf.columns;
  unit = conf.unit;
  rows = rows;
  level = conf.level;
  clean = 0;
  b = (plan_of conf).b;
  k = (plan_of conf).k;
  r = (plan_of conf).r;
  lambda = (plan_of conf).lambda;
  seats = replicate 32 0;
  filling = 0;
  done = 0;
}

-- a column is failed where one is named and the array has labels
abbrev pub kill_of : Option ℕ → Option Label → Option Order
kill_of None newest = None
kill_of (Some c) None = None
kill_of (Some c) (Some l) = Some (order.Kill c l)

-- what is to be done, by the deed, the column that is named, the newest label, and the rows of the
-- configuration; None where clients are served, or the array is only looked at
abbrev pub order_for : Deed → Option ℕ → Option Label → Conf → ℕ → Option Order
order_for deed.Looks comp newest conf rows = None
order_for deed.Serves comp newest conf rows = None
order_for deed.Checks comp newest conf rows = Some order.Check
order_for deed.Inits comp newest conf rows = Some (order.Renew renewal.Init newest)
order_for deed.Rewrites comp newest conf rows = Some (order.Renew renewal.Rewrite newest)
order_for deed.Kills comp newest conf rows = kill_of comp newest
order_for (deed.Labels serial) comp newest conf rows =
    Some (order.Label (first_label conf rows serial))
