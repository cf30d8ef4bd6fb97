-- What a text's readers still have to give.
use Rattle.std.specs.Prelude.{ℕ, ◌+◌, List, length}
use Rattle.raid_text.specs.declared.readers.Lines.{Lines}
use Rattle.raid_text.specs.declared.readers.Line.{Line}
use Rattle.raid_text.specs.declared.readers.Words.{Words}
use Rattle.raid_text.specs.Text.{Numbered, Text, numbered, raw_lines, words_of}

-- a line, without where it lies in memory
abbrev pub seen : Line → Numbered
seen line = record { at = line.at; body = line.body.now }

-- the lines with a word that are still to come
unfoldable pub left : Lines → List Numbered
left l = numbered (l.passed + 1) (raw_lines l.rest.now)

-- how many lines were passed, those without a word too
abbrev pub passed_count : Lines → ℕ
passed_count l = l.passed

-- how many lines the text has
unfoldable pub line_count : Lines → ℕ
line_count l = l.passed + length (raw_lines l.rest.now)

-- the words that are still to come
unfoldable pub words_left : Words → List Text
words_left w = words_of w.rest.now
