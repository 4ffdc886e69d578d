use Rattle.std.specs.Prelude.{ℕ, ◌+◌, ◌^◌, ◌≡◌, ◌≤◌, nat_lt, Bool, true, false, ◌||◌, if◌then◌else◌, Some, List, [], ◌∷◌, ◌++◌, length, take, drop}
use Rattle.std.specs.Str.{is_utf8}
use Rattle.sql_tokens.specs.declared.splitter.place.Place.{Place}
use Rattle.sql_tokens.specs.declared.splitter.place.Place.TheVariants.{Between}
use Rattle.sql_tokens.specs.declared.splitter.text.Reading.{Reading}
use Rattle.sql_tokens.specs.declared.splitter.text.Reading.TheVariants as reading
use Rattle.sql_tokens.specs.Script.{Content, Text, texts}
use Rattle.sql_tokens.specs.Places.{depth_of, place_after}

-- The first text of what was fed, of which some bytes were scanned before.

-- the first `scanned` bytes have no cut and lead to the place
pub record IsScanned (fed : List ℕ) (scanned : ℕ) (place : Place) : Type 0 where
  pub within : scanned ≤ length fed
  pub leads : place_after (Between true) (take scanned fed) ≡ Some place
  pub depth : depth_of place ≤ scanned

-- what a splitter keeps: the bytes from `begin` on weren't passed
pub record IsStanding (taken : ℕ) (buffer : List ℕ) (begin scanned : ℕ) (place : Place) : Type 0 where
  pub limit : taken ≤ 2 ^ 30
  pub begins : begin ≤ length buffer
  pub fed : IsScanned (drop begin buffer) scanned place

-- the first text has a first text's bytes and more, in whatever comes
pub record IsLonger (fed more : List ℕ) : Type 0 where
  pub text : Text
  pub others : List Text
  pub are : texts (fed ++ more) ≡ text ∷ others
  pub longer : length fed ≤ length text.bytes

-- the first `length` bytes are the first text, and a cut stands after them, or they are all
abbrev pub IsFirst : List ℕ → ℕ → Content → Bool → Type 0
IsFirst fed count content true =
    (count + 1 ≤ length fed)
    × ((more : List ℕ) → texts (fed ++ more) ≡ record { bytes = take count fed; content = content; cut = true } ∷ texts (drop (count + 1) fed ++ more))
IsFirst fed count content false =
    (count ≡ length fed)
    × (texts fed ≡ record { bytes = fed; content = content; cut = false } ∷ [])
    × ((more : List ℕ) → IsLonger fed more)

abbrev pub exceeds : ℕ → ℕ → Bool → Bool
exceeds taken count cut = nat_lt (2 ^ 20) count || nat_lt (2 ^ 30) (taken + (count + (if cut then 1 else 0)))

-- what a whole text is
abbrev pub reading_of : List ℕ → Bool → Reading
reading_of bytes blank = if is_utf8 bytes then (if blank then reading.Blank else reading.Command bytes) else reading.NotText
