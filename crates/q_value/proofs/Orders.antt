use Rattle.std.proofs.Common.{◌≡◌, ℕ, ℤ, pos, Bool, true, false, List, [], if◌then◌else◌, refl, sym, subst}
use Rattle.std.specs.declared.cmp.Ordering.{Ordering}
use Rattle.std.specs.declared.cmp.Ordering.TheVariants.{Less, Equal, Greater}
use Rattle.std.specs.Ordering.{nat_cmp, int_cmp, ordering_reverse, ordering_then, then_cmp, on}
use Rattle.std.specs.Cmp.{IsTotalOrder}
use Rattle.std.specs.Cmp.Lexicographic.{slice_cmp}
use Rattle.std.proofs.lemmas.Cmp.{nat_cmp_total, int_cmp_total, nat_list_cmp_total, on_total, then_total, back_total}
use Rattle.q_value.specs.declared.value.Value.{Value}
use Rattle.q_value.specs.declared.value.Value.TheVariants as value
use Rattle.q_value.specs.Order.{rank_of, key_cmp, sort_cmp}

-- the order of keys as three orders, one after another: by rank, by number and by bytes
abbrev place_of : Value → ℤ
place_of value.Null = pos 0
place_of (value.Int2 number) = number
place_of (value.Int4 number) = number
place_of (value.Int8 number) = number
place_of (value.Text text) = pos 0
place_of (value.Bool truth) = if truth then pos 1 else pos 0

abbrev bytes_of : Value → List ℕ
bytes_of value.Null = []
bytes_of (value.Int2 number) = []
bytes_of (value.Int4 number) = []
bytes_of (value.Int8 number) = []
bytes_of (value.Text text) = text
bytes_of (value.Bool truth) = []

abbrev parts_cmp : Value → Value → Ordering
parts_cmp = then_cmp (on rank_of nat_cmp) (then_cmp (on place_of int_cmp) (on bytes_of (slice_cmp nat_cmp)))

then_equal : (order : Ordering) → order ≡ ordering_then order Equal
then_equal Less = refl
then_equal Equal = refl
then_equal Greater = refl

null_by_parts : (right : Value) → key_cmp value.Null right ≡ parts_cmp value.Null right
null_by_parts value.Null = refl
null_by_parts (value.Int2 number) = refl
null_by_parts (value.Int4 number) = refl
null_by_parts (value.Int8 number) = refl
null_by_parts (value.Text text) = refl
null_by_parts (value.Bool truth) = refl

text_by_parts : (text : List ℕ) (right : Value) → key_cmp (value.Text text) right ≡ parts_cmp (value.Text text) right
text_by_parts text value.Null = refl
text_by_parts text (value.Int2 number) = refl
text_by_parts text (value.Int4 number) = refl
text_by_parts text (value.Int8 number) = refl
text_by_parts text (value.Text other) = refl
text_by_parts text (value.Bool truth) = refl

by_parts : (left right : Value) → key_cmp left right ≡ parts_cmp left right
by_parts (value.Int2 a) (value.Int2 b) = then_equal (int_cmp a b)
by_parts (value.Int2 a) (value.Int4 b) = then_equal (int_cmp a b)
by_parts (value.Int2 a) (value.Int8 b) = then_equal (int_cmp a b)
by_parts (value.Int4 a) (value.Int2 b) = then_equal (int_cmp a b)
by_parts (value.Int4 a) (value.Int4 b) = then_equal (int_cmp a b)
by_parts (value.Int4 a) (value.Int8 b) = then_equal (int_cmp a b)
by_parts (value.Int8 a) (value.Int2 b) = then_equal (int_cmp a b)
by_parts (value.Int8 a) (value.Int4 b) = then_equal (int_cmp a b)
by_parts (value.Int8 a) (value.Int8 b) = then_equal (int_cmp a b)
by_parts (value.Bool false) (value.Bool false) = refl
by_parts (value.Bool false) (value.Bool true) = refl
by_parts (value.Bool true) (value.Bool false) = refl
by_parts (value.Bool true) (value.Bool true) = refl
by_parts value.Null right = null_by_parts right
by_parts (value.Text text) right = text_by_parts text right
by_parts left right = refl

pub keys_total : IsTotalOrder key_cmp
keys_total = subst IsTotalOrder (λ i left right. sym (by_parts left right) i) (then_total (on_total rank_of nat_cmp_total) (then_total (on_total place_of int_cmp_total) (on_total bytes_of nat_list_cmp_total)))

-- a sort's order as two: nulls before or after the others, and then by key in a direction
abbrev null_rank : Bool → Value → ℕ
null_rank first value.Null = if first then 0 else 2
null_rank first other = 1

abbrev directed : Bool → Value → Value → Ordering
directed false left right = key_cmp left right
directed true left right = ordering_reverse (key_cmp left right)

directed_total : (desc : Bool) → IsTotalOrder (directed desc)
directed_total false = keys_total
directed_total true = subst IsTotalOrder (λ i left right. keys_total.antisymm right left i) (back_total keys_total)

by_nulls : (desc nulls_first : Bool) (left right : Value) → sort_cmp desc nulls_first left right ≡ then_cmp (on (null_rank nulls_first) nat_cmp) (directed desc) left right
by_nulls true true value.Null value.Null = refl
by_nulls true false value.Null value.Null = refl
by_nulls false true value.Null value.Null = refl
by_nulls false false value.Null value.Null = refl
by_nulls desc true value.Null right = refl
by_nulls desc false value.Null right = refl
by_nulls desc true left value.Null = refl
by_nulls desc false left value.Null = refl
by_nulls desc nulls_first left right = refl

pub sorts_total : (desc nulls_first : Bool) → IsTotalOrder (sort_cmp desc nulls_first)
sorts_total desc nulls_first = subst IsTotalOrder (λ i left right. sym (by_nulls desc nulls_first left right) i) (then_total (on_total (null_rank nulls_first) nat_cmp_total) (directed_total desc))

-- ascending with nulls last is the order of keys
pub plain_is_key : (left right : Value) → sort_cmp false false left right ≡ key_cmp left right
plain_is_key value.Null value.Null = refl
plain_is_key value.Null right = refl
plain_is_key left value.Null = refl
plain_is_key left right = refl
