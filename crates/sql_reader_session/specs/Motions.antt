-- Where FETCH and MOVE go.
use Rattle.std.specs.Prelude.{ℤ, Option, None, Some, codes, if◌then◌else◌}
use Rattle.std.specs.Str.{bytes_eq}
use Rattle.sql_tokens.specs.declared.token.Token.{Token}
use Rattle.sql_tokens.specs.declared.token.Token.TheVariants as token
use Rattle.sql_tree.specs.declared.cursors.Motion.{Motion}
use Rattle.sql_tree.specs.declared.cursors.Motion.TheVariants as motion
use Rattle.sql_expr.specs.Reading.{Text, Parser, ◌>>=◌, ◌<$>◌, pure, taken, eat_word}
use Rattle.sql_reader_session.specs.declared.motions.Direction.{Direction}
use Rattle.sql_reader_session.specs.declared.motions.Direction.TheVariants as direction
use Rattle.sql_reader_session.specs.Numbers.{integer, optional_integer}

abbrev pub direction_of_word : Text → Option Direction
direction_of_word word =
    if bytes_eq word (codes "next") then Some direction.Next
    else (if bytes_eq word (codes "prior") then Some direction.Prior
    else (if bytes_eq word (codes "first") then Some direction.First
    else (if bytes_eq word (codes "last") then Some direction.Last
    else (if bytes_eq word (codes "absolute") then Some direction.Absolute
    else (if bytes_eq word (codes "relative") then Some direction.Relative
    else (if bytes_eq word (codes "all") then Some direction.All
    else (if bytes_eq word (codes "forward") then Some direction.Forward
    else (if bytes_eq word (codes "backward") then Some direction.Backward else None))))))))

-- the direction that a token is; a quoted one is none
abbrev pub direction_of : Token → Option Direction
direction_of (token.Word word) = direction_of_word word
direction_of _ = None

-- behind FORWARD
unfoldable pub forward : Parser Motion
forward = do
  all ← eat_word (codes "all")
  if all then pure motion.ForwardAll else motion.Forward <$> optional_integer

-- behind BACKWARD
unfoldable pub backward : Parser Motion
backward = do
  all ← eat_word (codes "all")
  if all then pure motion.BackwardAll else motion.Backward <$> optional_integer

-- behind a direction
abbrev pub directed : Direction → Parser Motion
directed direction.Next = pure motion.Next
directed direction.Prior = pure motion.Prior
directed direction.First = pure motion.First
directed direction.Last = pure motion.Last
directed direction.Absolute = motion.Absolute <$> integer
directed direction.Relative = motion.Relative <$> integer
directed direction.All = pure motion.All
directed direction.Forward = forward
directed direction.Backward = backward

abbrev pub directed_or_next : Option Direction → Parser Motion
directed_or_next (Some found) = directed found
directed_or_next None = pure motion.Next

abbrev pub counted_or_directed : Option ℤ → Parser Motion
counted_or_directed (Some count) = pure (motion.Count count)
counted_or_directed None = taken direction_of >>= directed_or_next

-- A word that is a direction is never the cursor's name here. Without a motion it is NEXT.
unfoldable pub optional_motion : Parser Motion
optional_motion = optional_integer >>= counted_or_directed
