-- What was done to an array, and its line.
use Rattle.std.specs.Prelude.{ℕ, zero, suc, List, [], ◌∷◌, Option, Some, None, codes, decimal}
use Rattle.eng_cols.specs.declared.spot.Loss.{Loss}
use Rattle.put_line.specs.Line.{line}
use Rattle.top_acts.specs.declared.done.Done.{Done}
use Rattle.top_acts.specs.declared.done.Done.TheVariants as done

-- what is said to be done in the end: nothing where the array is lost
abbrev pub unless_lost : Option Loss → Done → Done
unless_lost None act = act
unless_lost (Some loss) act = done.Nothing

-- the line of what was done, if it has one
abbrev pub done_text : Done → List ℕ
done_text done.Nothing = []
done_text (done.Init n) = line (codes "parity initialised " ∷ decimal n ∷ codes "\n" ∷ [])
done_text (done.Check zero) = codes "parity clean\n"
done_text (done.Check (suc n)) = []
done_text (done.Rewrite n) = line (codes "parity rewritten " ∷ decimal n ∷ codes "\n" ∷ [])
done_text (done.Killed c) = line (codes "failed column " ∷ decimal c ∷ codes "\n" ∷ [])
done_text (done.Labelled n) = line (codes "labels written " ∷ decimal n ∷ codes "\n" ∷ [])
