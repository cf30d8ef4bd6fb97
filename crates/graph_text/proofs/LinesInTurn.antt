-- Lines that are read one after another, as a loop does.
use Rattle.std.proofs.Common.{◌≡◌, ◌∙◌, ℕ, List, [], ◌∷◌, Result, Ok, Err, length, refl, sym, ap}
use Rattle.raid_text.specs.Text.{Numbered, Text, lines_in, raw_lines}
use Rattle.text_steps.specs.Steps.{◌>>=◌}
use Rattle.graph_text.specs.Format.{Named, Read, after_line, after_lines, at_text_end}
use Rattle.graph_text.specs.Texts.{graphs_of}
use Rattle.text_steps.specs.declared.at.At.{At}
use Rattle.graph_text.specs.Steps.{nothing_read, graphs_in}
use Rattle.std.specs.Prelude.{IfOk}
use Rattle.graph_text.specs.FormatForm.{AreGraphs}
use Rattle.graph_text.specs.declared.fault.BookFault.{BookFault}
use Rattle.graph_text.proofs.CanonicalForm.{file_of_form}
use Rattle.graph_text.specs.Answers.{GivesBook, GivesFault, GivesRead, fault_at}
use Rattle.graph_text.specs.declared.fault.LineFault.{LineFault}
use Rattle.graph_text.specs.declared.fault.LineFault.TheVariants as fault
use Rattle.graph_text.proofs.Same.{graphs_same}

-- a line was read
pub line_read : (read next : Read) (line : Numbered) (rest : List Numbered) (total : Result Read At) → after_line read line ≡ Ok next
    → after_lines read (line ∷ rest) ≡ total → after_lines next rest ≡ total
unfolding after_lines
line_read read next line rest total one so_far =
    let step : after_lines read (line ∷ rest) ≡ after_lines next rest = rw one refl in
    sym step ∙ so_far

-- a line was refused, and so is the text
pub line_refused : (text : Text) (read : Read) (line : Numbered) (rest : List Numbered) (code : ℕ) → after_line read line ≡ Err code
    → after_lines read (line ∷ rest) ≡ after_lines nothing_read (lines_in text) → graphs_of text ≡ Err (record { line = line.at; code = code })
unfolding after_lines graphs_in
line_refused text read line rest code one so_far =
    let step : after_lines read (line ∷ rest) ≡ Err (record { line = line.at; code = code }) = rw one refl in
    graphs_same text ∙ ap (λ (r : Result Read At). r >>= λ read. at_text_end (length (raw_lines text)) read.ended read.current) (sym so_far ∙ step)

-- no line is left
pub lines_done : (text : Text) (read : Read) (n : ℕ) → n ≡ length (raw_lines text)
    → after_lines read [] ≡ after_lines nothing_read (lines_in text) → graphs_of text ≡ at_text_end n read.ended read.current
unfolding after_lines graphs_in
lines_done text read n is so_far =
    graphs_same text
    ∙ (ap (λ (r : Result Read At). r >>= λ read. at_text_end (length (raw_lines text)) read.ended read.current) (sym so_far)
    ∙ ap (λ (m : ℕ). at_text_end m read.ended read.current) (sym is))

-- the fault of a line is the text's
pub line_faulty : (text : Text) (read next : Read) (line : Numbered) (rest : List Numbered) (f : LineFault) → GivesRead (Err f) next (after_line read line)
    → after_lines read (line ∷ rest) ≡ after_lines nothing_read (lines_in text) → GivesFault (fault_at line.at f) (graphs_of text)
line_faulty text read next line rest (fault.Code code) told so_far = line_refused text read line rest code told so_far
line_faulty text read next line rest fault.Memory told so_far = tt

-- what was read are graphs of a file
pub graphs_are : (text : Text) (r : Result (List Named) BookFault) → GivesBook r (graphs_of text) → IfOk r (λ graphs. AreGraphs graphs)
graphs_are text (Ok graphs) told = (file_of_form text graphs told).0
graphs_are text (Err fault) told = tt
