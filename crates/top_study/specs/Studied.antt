-- What is told of a configuration alone, or how it is refused.
use Rattle.std.specs.Prelude.{ℕ, List, Option, Result, Ok, Err, if◌then◌else◌}
use Rattle.raid_conf.specs.Layouts.{shape_of}
use Rattle.raid_conf.specs.declared.conf.Conf.{Conf}
use Rattle.raid_text.specs.Text.{Text}
use Rattle.top_bay.specs.Asked.{conf_in}
use Rattle.top_layout.specs.Lines.{layout_text}
use Rattle.top_status.specs.declared.status.Status.TheVariants as status
use Rattle.top_status.specs.Refusals.{Refused, ◌then◌, only}
use Rattle.top_study.specs.Rows.{are_rows, rows_for}
use Rattle.top_words.specs.declared.study.Study.{Study}
use Rattle.top_words.specs.declared.study.Study.TheVariants as study

-- the layout over so many rows, where there is one
unfoldable pub layout_over : Conf → ℕ → Result (List ℕ) Refused
layout_over conf rows =
    if are_rows conf rows then Ok (layout_text conf.level (shape_of conf rows))
    else Err (only (status.Usage 3))

-- what is asked of a configuration
abbrev pub study_of : Conf → Study → Result (List ℕ) Refused
study_of conf (study.Layout rows) = layout_over conf (rows_for conf rows)

-- the same of the configuration of a name
unfoldable pub study_in : (Text → Option Text) → Text → Study → Result (List ℕ) Refused
study_in texts name asked = conf_in texts name then λ conf. study_of conf asked
