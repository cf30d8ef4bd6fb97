-- The numbers of the block design that a configuration gives.
use Rattle.std.specs.Prelude.{Option, Some, None}
use Rattle.raid_conf.specs.declared.given.Given.{Given}
use Rattle.raid_conf.specs.declared.parameters.Parameters.{Parameters}
use Rattle.raid_conf.specs.Designs.{blocks_of}

-- its tuples, the objects of one, and in how many of them an object stands, and two; all 0 without a design
abbrev pub parameters_of : Option Given → Parameters
parameters_of None = record { b = 0; k = 0; r = 0; lambda = 0 }
parameters_of (Some given) = record { b = (blocks_of given).b; k = (blocks_of given).k; r = (blocks_of given).r; lambda = (blocks_of given).lambda }
