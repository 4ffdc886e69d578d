-- What a motion means, and where it leads on a list of rows.
use Rattle.std.specs.Prelude.{ℕ, ◌+◌, ◌-◌, ◌&&◌, min, max, nat_lt, nat_le, ℤ, pos, neg_ℤ, unsigned_abs, int_lt, Bool, true, false, Option, Some, None, if◌then◌else◌}
use Rattle.std.specs.Ordering.{int_eq}
use Rattle.sql_tree.specs.declared.cursors.Motion.{Motion}
use Rattle.sql_tree.specs.declared.cursors.Motion.TheVariants as motion
use Rattle.portals.specs.declared.course.Course.{Course}
use Rattle.portals.specs.declared.course.Course.TheVariants as course
use Rattle.portals.specs.declared.cursor.Stretch.{Stretch}

-- the row of a place; a negative place counts back from the last row
abbrev pub absolute : ℤ → Course
absolute n = if int_lt n (pos 0) then course.FromEnd (unsigned_abs n) else course.To (unsigned_abs n)

-- the row n rows on; a negative n goes back
abbrev pub relative : ℤ → Course
relative n =
    if int_lt n (pos 0) then course.Behind (unsigned_abs n)
    else if int_eq n (pos 0) then course.Stay
    else course.Ahead (unsigned_abs n)

-- the next n rows; a negative n goes back
abbrev pub counted : ℤ → Course
counted n =
    if int_lt n (pos 0) then course.Backward (Some (unsigned_abs n))
    else if int_eq n (pos 0) then course.Stay
    else course.Forward (Some (unsigned_abs n))

-- what a motion means
abbrev pub course_of : Motion → Course
course_of motion.Next = course.Forward (Some 1)
course_of motion.Prior = course.Backward (Some 1)
course_of motion.First = course.To 1
course_of motion.Last = course.FromEnd 1
course_of (motion.Absolute n) = absolute n
course_of (motion.Relative n) = relative n
course_of (motion.Count n) = counted n
course_of motion.All = course.Forward None
course_of (motion.Forward None) = course.Forward (Some 1)
course_of (motion.Forward (Some n)) = counted n
course_of motion.ForwardAll = course.Forward None
course_of (motion.Backward None) = course.Backward (Some 1)
course_of (motion.Backward (Some n)) = counted (neg_ℤ n)
course_of motion.BackwardAll = course.Backward None

-- a place is that of a row, of which the last has a place
abbrev pub is_row : ℕ → ℕ → Bool
is_row place last = nat_le 1 place && nat_le place last

-- a cursor that doesn't scroll refuses the course: it goes back, begins again, or gives the row stood on once more
abbrev pub goes_back : Course → Bool → ℕ → ℕ → Bool
goes_back course.Stay fetching position last = fetching && is_row position last
goes_back (course.Forward n) fetching position last = false
goes_back (course.Backward n) fetching position last = true
goes_back (course.To n) fetching position last = nat_le n position && nat_lt 0 position
goes_back (course.FromEnd n) fetching position last = true
goes_back (course.Ahead n) fetching position last = false
goes_back (course.Behind n) fetching position last = true

-- the farthest place that a course needs; nothing where it needs all
abbrev pub needs : Course → ℕ → Option ℕ
needs course.Stay position = Some position
needs (course.Forward None) position = None
needs (course.Forward (Some n)) position = Some (position + n)
needs (course.Backward n) position = Some position
needs (course.To n) position = Some n
needs (course.FromEnd n) position = None
needs (course.Ahead n) position = Some (position + n)
needs (course.Behind n) position = Some position

-- the place stood on afterwards, where the place behind the last row is the end
abbrev pub arrival : Course → ℕ → ℕ → ℕ
arrival course.Stay position end = position
arrival (course.Forward None) position end = end
arrival (course.Forward (Some n)) position end = min (position + n) end
arrival (course.Backward None) position end = 0
arrival (course.Backward (Some n)) position end = position - n
arrival (course.To n) position end = min n end
arrival (course.FromEnd n) position end = end - n
arrival (course.Ahead n) position end = min (position + n) end
arrival (course.Behind n) position end = position - n

-- the row of one place, where it is that of a row
abbrev pub single : ℕ → ℕ → Stretch
single place last = record { start = place; count = if is_row place last then 1 else 0; downwards = false }

-- the places of the rows that a course gives, where it leads from a position to another
abbrev pub stretch : Course → ℕ → ℕ → ℕ → Stretch
stretch course.Stay position arrived last = single arrived last
stretch (course.Forward n) position arrived last = record { start = position + 1; count = min arrived last - position; downwards = false }
stretch (course.Backward n) position arrived last = record { start = position - 1; count = position - max arrived 1; downwards = true }
stretch (course.To n) position arrived last = single arrived last
stretch (course.FromEnd n) position arrived last = single arrived last
stretch (course.Ahead n) position arrived last = single arrived last
stretch (course.Behind n) position arrived last = single arrived last
