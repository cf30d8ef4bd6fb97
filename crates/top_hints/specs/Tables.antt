-- What each code says in words.
use Rattle.std.specs.Prelude.{ℕ, List, codes, if◌then◌else◌, nat_eq}

-- of a configuration, a list of components, or requests
unfoldable pub conf_words : ℕ → List ℕ
conf_words code =
    if nat_eq code 1 then codes "a word that isn't expected here, or too few or too many words; names have no blanks and are ASCII"
    else (if nat_eq code 2 then codes "not a number, or out of its range"
    else (if nat_eq code 3 then codes "the section is unknown, repeated, out of order or missing"
    else (if nat_eq code 4 then codes "this level can't have so many columns, or v isn't their number"
    else (if nat_eq code 5 then codes "more or fewer disks than the array's line says"
    else (if nat_eq code 6 then codes "more or fewer spares than the array's line says"
    else (if nat_eq code 7 then codes "a name that stands already, is longer than 255 bytes, or is absent as a spare"
    else (if nat_eq code 8 then codes "the level isn't 0, 1, 4, 5, C, T or D"
    else (if nat_eq code 9 then codes "SUsPerPU and SUsPerRU are 1 here"
    else (if nat_eq code 10 then codes "the queue is fifo"
    else (if nat_eq code 11 then codes "a design is wanted here, or its tuple lines are too few or of another length"
    else (if nat_eq code 12 then codes "this is no block design, or k is below 3 at level D"
    else (if nat_eq code 13 then codes "more than 1024 names"
    else (if nat_eq code 14 then codes "the span passes the disk's end"
    else (if nat_eq code 15 then codes "the tick is below that of the line before"
    else (if nat_eq code 16 then codes "more than 4096 requests, or more than 262144 sectors in all reads together"
    else codes "not a pattern: 2, 4, 8, 16, 32 or 64 hexadecimal digits")))))))))))))))

-- of a script; code 8 is of the trace
unfoldable pub script_words : ℕ → List ℕ
script_words code =
    if nat_eq code 1 then codes "a word that isn't expected here, or too few or too many words"
    else (if nat_eq code 2 then codes "not a number, or a count of 0"
    else (if nat_eq code 3 then codes "the client isn't 0 to 15"
    else (if nat_eq code 4 then codes "not a pattern: 2, 4, 8, 16, 32 or 64 hexadecimal digits"
    else (if nat_eq code 5 then codes "the array has no such column"
    else (if nat_eq code 6 then codes "no graph of the file behind --graphs has this name"
    else (if nat_eq code 7 then codes "more than 65536 items, or more than 262144 blocks in all reads together"
    else (if nat_eq code 9 then codes "two spans of the item share a block"
    else (if nat_eq code 10 then codes "a graph can't be half of a joined one, or the first has a stripe that its span doesn't touch"
    else (if nat_eq code 11 then codes "the stripes of the first span aren't all before those of the second"
    else (if nat_eq code 12 then codes "the two graphs are too large together"
    else codes "more than 64 joins"))))))))))

-- of a file of graphs
unfoldable pub graph_words : ℕ → List ℕ
graph_words code =
    if nat_eq code 1 then codes "a word that isn't expected here, too few or too many words, or no name of a graph"
    else (if nat_eq code 2 then codes "not a number"
    else (if nat_eq code 3 then codes "not the next number: buffers and nodes are numbered from 0"
    else (if nat_eq code 4 then codes "an earlier graph of the file has this name"
    else (if nat_eq code 5 then codes "more than 2048 buffers, nodes or returns, 16384 sources and antecedents, or 64 graphs"
    else codes "the text ends within a graph"))))
