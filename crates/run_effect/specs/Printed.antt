-- A script as it is printed: one line an item, in the order in which it stands.
use Rattle.std.specs.Prelude.{◌≡◌, ◌<◌, ◌≤◌, ◌^◌, ℕ, IsTrue, List, [], ◌∷◌, Option, Some, None, Ok, length, map, sum_by, codes, decimal, All}
use Rattle.hex.specs.Hex.{encode_lower, IsBytes}
use Rattle.raid_text.specs.Text.{Text}
use Rattle.raid_text.specs.Printed.{text_of, is_digit_count}
use Rattle.raid_script.specs.Asked.{Asked, AskedPatch, Writes, WritesAll, Reads, Syncs, Fails, Other, ArePatches, Request, scripted}
use Rattle.raid_script.specs.Form.{AreRequests}
use Rattle.raid_script.specs.Texts.{script_of}

-- FIRST COUNT PATTERN of each span
abbrev pub patch_words : List AskedPatch → List Text
patch_words [] = []
patch_words (p ∷ patches) = decimal p.span.first ∷ decimal p.span.count ∷ encode_lower p.bytes ∷ patch_words patches

-- the words behind the client
abbrev pub item_words : Asked → List Text
item_words (Writes first count bytes graph) = codes "write" ∷ decimal first ∷ decimal count ∷ encode_lower bytes ∷ []
item_words (WritesAll patches graph) = codes "writes" ∷ patch_words patches
item_words (Reads first count graph) = codes "read" ∷ decimal first ∷ decimal count ∷ []
item_words (Syncs stripe) = codes "sync" ∷ decimal stripe ∷ []
item_words (Fails column) = codes "fail" ∷ decimal column ∷ []
item_words Other = []

abbrev pub request_words : Request → List Text
request_words r = decimal r.client ∷ item_words r.asked

-- the text of a script
abbrev pub script_text : List Request → Text
script_text requests = text_of (map request_words requests)

-- 1, 2, 4, 8, 16 or 32 bytes
abbrev pub IsPattern : List ℕ → Type 0
IsPattern bytes = (0 < length bytes) × IsBytes bytes × IsTrue (is_digit_count (length (encode_lower bytes)))

-- what can be printed and read: an item that names no graph, within the limits of its numbers
abbrev pub IsPlain : ℕ → Asked → Type 0
IsPlain columns (Writes first count bytes None) = (first < 2 ^ 32) × (0 < count) × (count < 2 ^ 32) × IsPattern bytes
IsPlain columns (WritesAll patches None) = ArePatches patches × All (λ p. (p.span.first < 2 ^ 32) × (p.span.count < 2 ^ 32) × IsPattern p.bytes) patches
IsPlain columns (Reads first count None) = (first < 2 ^ 32) × (0 < count) × (count < 2 ^ 32)
IsPlain columns (Syncs stripe) = stripe < 2 ^ 32
IsPlain columns (Fails column) = (column < columns) × (column < 2 ^ 32)
IsPlain columns _ = ⊥

-- a client's item
pub record IsPlainRequest (columns : ℕ) (r : Request) : Type 0 where
  pub client : r.client < 16
  pub item : IsPlain columns r.asked
  pub alone : r.joined ≡ None

-- each script of such items is read from its text
abbrev pub PrintedScriptIsRead : Type 0
PrintedScriptIsRead = (columns : ℕ) (requests : List Request) → All (IsPlainRequest columns) requests → AreRequests requests
    → script_of [] columns (script_text requests) ≡ Ok (scripted requests)
