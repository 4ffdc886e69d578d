use Rattle.std.specs.Prelude.{ℕ, ◌+◌, ◌-◌, ◌==◌, nat_lt, Bool, true, false, ◌&&◌, ◌||◌, if◌then◌else◌, Option, None, Some, option_and_then, List, [], ◌∷◌}
use Rattle.sql_tokens.specs.declared.splitter.place.Place.{Place}
use Rattle.sql_tokens.specs.declared.splitter.place.Place.TheVariants.{Between, AfterMinus, AfterSlash, Quoted, LineComment, Comment, CommentStar, CommentSlash, BackslashLine}
use Rattle.sql_tokens.specs.Script.{Content, Blanks, More, Line, is_blank}

-- How a splitter follows the bytes of a text, one by one.

abbrev pub between : Bool → ℕ → Option Place
between blank b =
    if b == 39 || b == 34 then Some (Quoted b)
    else (if b == 45 then Some (AfterMinus blank)
    else (if b == 47 then Some (AfterSlash blank)
    else (if b == 92 && blank then Some BackslashLine
    else (if b == 59 then None
    else Some (Between (blank && is_blank b))))))

abbrev pub in_comment : Bool → ℕ → ℕ → Place
in_comment blank depth b =
    if b == 42 then CommentStar blank depth
    else (if b == 47 then CommentSlash blank depth
    else Comment blank depth)

-- the place after a byte, or none where the byte is a cut
abbrev pub after : Place → ℕ → Option Place
after (Between blank) b = between blank b
after (AfterMinus blank) b = if b == 45 then Some (LineComment blank) else between false b
after (AfterSlash blank) b = if b == 42 then Some (Comment blank 1) else between false b
after (Quoted quote) b = Some (if b == quote then Between false else Quoted quote)
after (LineComment blank) b = Some (if b == 10 then Between blank else LineComment blank)
after (Comment blank depth) b = Some (in_comment blank depth b)
after (CommentStar blank depth) b =
    Some (if b == 47 then (if nat_lt 1 depth then Comment blank (depth - 1) else Between blank) else in_comment blank depth b)
after (CommentSlash blank depth) b = Some (if b == 42 then Comment blank (depth + 1) else in_comment blank depth b)
after BackslashLine b = if b == 10 then None else Some BackslashLine

abbrev pub depth_of : Place → ℕ
depth_of (Between blank) = 0
depth_of (AfterMinus blank) = 0
depth_of (AfterSlash blank) = 0
depth_of (Quoted quote) = 0
depth_of (LineComment blank) = 0
depth_of (Comment blank depth) = depth
depth_of (CommentStar blank depth) = depth
depth_of (CommentSlash blank depth) = depth
depth_of BackslashLine = 0

abbrev pub blanks_if : Bool → Content
blanks_if true = Blanks
blanks_if false = More

-- what a text has that ends there
abbrev pub content_at : Place → Content
content_at (Between blank) = blanks_if blank
content_at (AfterMinus blank) = More
content_at (AfterSlash blank) = More
content_at (Quoted quote) = More
content_at (LineComment blank) = blanks_if blank
content_at (Comment blank depth) = More
content_at (CommentStar blank depth) = More
content_at (CommentSlash blank depth) = More
content_at BackslashLine = Line

-- the place after the bytes, where none of them is a cut
abbrev pub place_after : Place → List ℕ → Option Place
place_after place [] = Some place
place_after place (b ∷ bytes) = option_and_then (λ next. place_after next bytes) (after place b)
