use Rattle.std.specs.Prelude.{ℕ, zero, suc, pred, ◌+◌, ◌-◌, ◌^◌, ◌==◌, nat_lt, Bool, true, false, not, ◌&&◌, ◌||◌, if◌then◌else◌, Option, None, Some, option_map, List, [], ◌∷◌, length}
use Rattle.std.specs.Str.{is_utf8}

-- A script is cut into parts: strings, quoted identifiers, line comments, nested comments, backslash
-- lines and single bytes. A cut is a `;` that is a part of its own, or the line feed after a backslash
-- line. A text is what stands between two cuts.

-- what a text has up to some place: blanks and ended comments alone, more than these, or a backslash
-- line as its last part
pub data Content : Type 0 where
  Blanks : Content
  More : Content
  Line : Content

-- a part at the front of some bytes: how many it has, and what its text has up to its end
pub record Part : Type 0 where
  pub length : ℕ
  pub content : Content

-- space, tab, line feed, form feed, carriage return
abbrev pub is_blank : ℕ → Bool
is_blank b = b == 32 || b == 9 || b == 10 || b == 12 || b == 13

-- the bytes begin with that byte
abbrev pub is_next : ℕ → List ℕ → Bool
is_next byte [] = false
is_next byte (b ∷ bytes) = b == byte

-- how many bytes stand before the first `end`, or are there at all
abbrev pub until : ℕ → List ℕ → ℕ
until end [] = 0
until end (b ∷ bytes) = if b == end then 0 else suc (until end bytes)

-- the same, with that `end`
abbrev pub through : ℕ → List ℕ → ℕ
through end [] = 0
through end (b ∷ bytes) = if b == end then 1 else suc (through end bytes)

-- how many bytes there are up to the end of the comments, `depth` of them being open; none if it is missing
abbrev pub comment_length : ℕ → List ℕ → Option ℕ
comment_length depth [] = None
comment_length depth (a ∷ []) = None
comment_length depth (a ∷ b ∷ bytes) =
    if a == 47 && b == 42 then option_map (λ n. suc (suc n)) (comment_length (depth + 1) bytes)
    else (if a == 42 && b == 47 then (if nat_lt 1 depth then option_map (λ n. suc (suc n)) (comment_length (depth - 1) bytes) else Some 2)
    else option_map suc (comment_length depth (b ∷ bytes)))

-- a comment of that length, or one without its end, which runs to the end of the bytes
abbrev pub comment : Content → List ℕ → Option ℕ → Part
comment content bytes (Some n) = record { length = n; content = content }
comment content bytes None = record { length = length bytes; content = More }

abbrev pub is_blanks : Content → Bool
is_blanks Blanks = true
is_blanks More = false
is_blanks Line = false

-- the part that the byte b begins, in a text that has `content` before it. A string or an identifier
-- without its end runs to the end of the bytes; a doubled quote ends one and begins the next.
abbrev pub part : Content → ℕ → List ℕ → Part
part content b bytes =
    if b == 39 || b == 34 then record { length = suc (through b bytes); content = More }
    else (if b == 45 && is_next 45 bytes then record { length = suc (until 10 bytes); content = content }
    else (if b == 47 && is_next 42 bytes then comment content (b ∷ bytes) (comment_length 0 (b ∷ bytes))
    else (if b == 92 && is_blanks content then record { length = suc (until 10 bytes); content = Line }
    else record { length = 1; content = if is_blank b then content else More })))

-- the byte is a cut, where it would begin a part of a text that has `content` before it
abbrev pub is_cut : Content → ℕ → Bool
is_cut Blanks b = b == 59
is_cut More b = b == 59
is_cut Line b = b == 10

-- a text: its bytes, what it has, and whether a cut stands after it
pub record Text : Type 0 where
  pub bytes : List ℕ
  pub content : Content
  pub cut : Bool

abbrev pub with_byte : ℕ → List Text → List Text
with_byte b [] = []
with_byte b (text ∷ texts) = record text { bytes = b ∷ text.bytes } ∷ texts

-- the texts of the bytes, the first of which has `content` before them, or up to the end of a part that
-- began before and goes on for `within` bytes
abbrev pub texts_from : Content → ℕ → List ℕ → List Text
texts_from content within [] = record { bytes = []; content = content; cut = false } ∷ []
texts_from content zero (b ∷ bytes) =
    if is_cut content b then record { bytes = []; content = content; cut = true } ∷ texts_from Blanks 0 bytes
    else (let p = part content b bytes in with_byte b (texts_from p.content (pred p.length) bytes))
texts_from content (suc within) (b ∷ bytes) = with_byte b (texts_from content within bytes)

abbrev pub texts : List ℕ → List Text
texts bytes = texts_from Blanks 0 bytes

-- how many bytes of the script a text takes, with its cut
abbrev pub size : Text → ℕ
size text = length text.bytes + (if text.cut then 1 else 0)

-- no more bytes can come to the text
abbrev pub is_whole : Bool → Text → Bool
is_whole over text = text.cut || over

-- more than 2^20 bytes, or a byte past the script's 2^30th in it or as its cut
abbrev pub is_too_long : ℕ → Text → Bool
is_too_long taken text = nat_lt (2 ^ 20) (length text.bytes) || nat_lt (2 ^ 30) (taken + size text)

pub data Verdict : Type 0 where
  Over : Verdict
  NotYet : Verdict
  NotText : Verdict
  TooLong : Verdict

-- the commands of a script in order, and why there are no more
pub record Scan : Type 0 where
  pub commands : List (List ℕ)
  pub verdict : Verdict

abbrev pub ends : Verdict → Scan
ends verdict = record { commands = []; verdict = verdict }

-- a whole text is a command, unless it has blanks and ended comments alone
abbrev pub with_text : Text → Scan → Scan
with_text text scan = if is_blanks text.content then scan else record scan { commands = text.bytes ∷ scan.commands }

-- the commands up to the first text that is too long or, being whole, isn't UTF-8
abbrev pub judge : ℕ → Bool → List Text → Scan
judge taken over [] = ends (if over then Over else NotYet)
judge taken over (text ∷ texts) =
    if is_too_long taken text then ends TooLong
    else (if not (is_whole over text) then judge (taken + size text) over texts
    else (if not (is_utf8 text.bytes) then ends NotText
    else with_text text (judge (taken + size text) over texts)))

-- the scan of bytes at the script's start or after a cut, where `taken` bytes of the script stand
-- before them, and where they are all that is left if `over` holds
abbrev pub scan_from : ℕ → List ℕ → Bool → Scan
scan_from taken bytes over = judge taken over (texts bytes)

-- the scan of a script, or of a front of it
abbrev pub scan : List ℕ → Bool → Scan
scan bytes over = scan_from 0 bytes over
