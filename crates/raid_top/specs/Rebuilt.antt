-- The line of a rebuild.
use Rattle.std.specs.Prelude.{ℕ, List, ◌++◌, codes, decimal}
use Rattle.std.specs.Option.{option_map_or}
use Rattle.top_run.specs.declared.service.Line.{Line}
use Rattle.top_run.specs.declared.service.Told.{Told}
use Rattle.top_run.specs.declared.service.Told.TheVariants as told

-- how far it came: so many stripes are done, all or fewer, or it was stopped
unfoldable pub end_text : Told → List ℕ
end_text (told.Done count) = codes " done " ++ decimal count ++ codes "\n"
end_text (told.Paused count) = codes " paused " ++ decimal count ++ codes "\n"
end_text told.Stopped = codes " stopped\n"

-- and where its units went: onto a device, by its number, or into the stripes' spare places
unfoldable pub rebuild_line : Line → List ℕ
rebuild_line l = codes "reconstruct column " ++ decimal l.column
    ++ option_map_or (λ device. codes " device " ++ decimal device) l.device (codes " spread") ++ end_text l.told
