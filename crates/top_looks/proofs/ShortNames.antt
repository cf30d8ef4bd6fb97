-- Names that a configuration may have are short enough for a line.
use Rattle.std.proofs.Common.{◌≡◌, ℕ, ◌≤◌, List, [], ◌∷◌, length, Some, subst, arith}
use Rattle.std.specs.Prelude.{All, slice_get}
use Rattle.std.proofs.lemmas.List.Elements.{All-get_or}
use Rattle.std.proofs.lemmas.Option.{get_or_from_slice_get, slice_get_within}
use Rattle.raid_text.specs.Text.{Text}
use Rattle.raid_conf.specs.Form.{IsDiskName, IsName, disk_word}

at_place : (P : Text → Type 0) (names : List Text) (i : ℕ) (name : Text) → All P names → slice_get names i ≡ Some name → P name
at_place P names i name all at = subst P (get_or_from_slice_get names i name name at) (All-get_or P names i name (slice_get_within names i name at) all)

word_is_short : (name : Text) → IsDiskName name → length (disk_word name) ≤ 255
word_is_short [] h = omega arith
word_is_short (b ∷ name) h = h.short

pub disk_words_are_short : (names : List Text) (i : ℕ) (name : Text) → slice_get names i ≡ Some name → All IsDiskName names → length (disk_word name) ≤ 255
disk_words_are_short names i name at all = word_is_short name (at_place IsDiskName names i name all at)

pub names_are_short : (names : List Text) (i : ℕ) (name : Text) → slice_get names i ≡ Some name → All IsName names → length name ≤ 255
names_are_short names i name at all = (at_place IsName names i name all at).short
