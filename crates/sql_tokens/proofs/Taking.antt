use Rattle.std.proofs.Common.{◌≡◌, ℕ, ◌+◌, ◌^◌, ◌<◌, ◌≤◌, Bool, true, false, cond, not, ◌||◌, List, [], ◌∷◌, ◌++◌, length, take, drop, refl, ap, sym, ◌∙◌, arith, add-zero, add_assoc}
use Rattle.std.specs.Prelude.{nat_lt, Result, Ok, Err, OnErr}
use Rattle.std.specs.Str.{is_utf8}
use Rattle.std.proofs.lemmas.List.{append-nil, drop-drop, length-take-le}
use Rattle.std.proofs.lemmas.Bool.{ltb-true, ltb-false, lt-ltb, le-ltb}
use Rattle.std.proofs.lemmas.Str.{IsUtf8-nil, is_utf8-from_IsUtf8}
use Rattle.std.proofs.Math.Seq.{take-length, drop-length}
use Rattle.sql_tokens.specs.Script.{Content, Text, texts, size, is_blanks, is_whole, is_too_long, Blanks, Over, NotYet, NotText, TooLong, ends, with_text, judge, scan_from}
use Rattle.sql_tokens.specs.FirstText.{IsFirst, exceeds, reading_of}
use Rattle.sql_tokens.specs.Splitting.{Input, scan_of, scan_with, passed, without_front, Takes, SameTake, Precedes}
use Rattle.sql_tokens.specs.declared.splitter.text.Reading.{Reading}
use Rattle.sql_tokens.specs.declared.splitter.text.Reading.TheVariants as reading
use Rattle.sql_tokens.specs.declared.splitter.took.Took.TheVariants as took

-- What a take gives at the first text.

pub on_err : {T E : Type 0} {P : Type 0} (r : Result T E) → P → OnErr r P
on_err (Ok x) p = tt
on_err (Err e) p = p

judge_long : (taken : ℕ) (over : Bool) (t : Text) (ts : List Text) → is_too_long taken t ≡ true → judge taken over (t ∷ ts) ≡ ends TooLong
judge_long taken over t ts h = rw h refl

judge_short : (taken : ℕ) (over : Bool) (t : Text) (ts : List Text) → is_too_long taken t ≡ false
    → judge taken over (t ∷ ts) ≡ cond (not (is_whole over t)) (judge (taken + size t) over ts) (cond (not (is_utf8 t.bytes)) (ends NotText) (with_text t (judge (taken + size t) over ts)))
judge_short taken over t ts h = rw h refl

passed_long : (taken : ℕ) (over : Bool) (t : Text) (ts : List Text) → is_too_long taken t ≡ true → passed taken over (t ∷ ts) ≡ 0
passed_long taken over t ts h = rw h refl

passed_short : (taken : ℕ) (over : Bool) (t : Text) (ts : List Text) → is_too_long taken t ≡ false
    → passed taken over (t ∷ ts) ≡ cond (not (is_whole over t) || not (is_utf8 t.bytes)) 0 (size t + cond (is_blanks t.content) (passed (taken + size t) over ts) 0)
passed_short taken over t ts h = rw h refl

scan_of-with : (i : Input) → scan_of i ≡ scan_with i [] i.over
scan_of-with i = ap (λ (bytes : List ℕ). scan_from i.taken bytes i.over) (sym (append-nil i.fed))

front_none : (i : Input) → without_front 0 i ≡ i
front_none i = ap (λ (n : ℕ). record i { taken = n }) (add-zero i.taken)

front_more : (k m : ℕ) (i : Input) → without_front (k + m) i ≡ without_front m (without_front k i)
front_more k m i = rw (drop-drop m k i.fed, add_assoc i.taken k m) refl

either_more : (a b c d : Bool) → (a ≡ true → c ≡ true) → (b ≡ true → d ≡ true) → (a || b) ≡ true → (c || d) ≡ true
either_more true b c d f g e = rw (f refl) refl
either_more false true true d f g e = refl
either_more false true false d f g e = g refl
either_more false false c d f g e = cc

long_more : (taken n : ℕ) (t : Text) → n ≤ length t.bytes → exceeds taken n false ≡ true → is_too_long taken t ≡ true
long_more taken n t h e =
    either_more (nat_lt (2 ^ 20) n) (nat_lt (2 ^ 30) (taken + (n + 0))) (nat_lt (2 ^ 20) (length t.bytes)) (nat_lt (2 ^ 30) (taken + size t))
    (λ l. let b : 2 ^ 20 < n = ltb-true (2 ^ 20) n l in lt-ltb (2 ^ 20) (length t.bytes) (omega arith))
    (λ l. let b : 2 ^ 30 < taken + (n + 0) = ltb-true (2 ^ 30) (taken + (n + 0)) l in lt-ltb (2 ^ 30) (taken + size t) (omega arith)) e

module _ (i : Input) (long : (more : List ℕ) → (t : Text) × (ts : List Text) × (texts (i.fed ++ more) ≡ t ∷ ts) × (is_too_long i.taken t ≡ true)) where
  scan_long : (more : List ℕ) (over : Bool) → scan_with i more over ≡ ends TooLong
  scan_long more over = let w = long more in ap (judge i.taken over) w.2 ∙ judge_long i.taken over w.0 w.1 w.3

  pub takes_long : Takes took.TooLong i i
  takes_long =
      let scan : scan_of i ≡ ends TooLong = scan_of-with i ∙ scan_long [] i.over in
      let w = long [] in
      let none : passed i.taken i.over (texts i.fed) ≡ 0
      = ap (λ (bytes : List ℕ). passed i.taken i.over (texts bytes)) (sym (append-nil i.fed)) ∙ ap (passed i.taken i.over) w.2 ∙ passed_long i.taken i.over w.0 w.1 w.3 in
      record {
        first = rw scan refl;
        left = rw none (sym (front_none i));
        rest = (scan, scan);
        further = λ o more over. (scan_long more over, scan_long more over);
      }

-- a text, and its cut where it has one
module _ (i : Input) (n : ℕ) (content : Content) (cut : Bool) (within : n ≤ length i.fed) where
  fits_text : exceeds i.taken n cut ≡ false → is_too_long i.taken (record { bytes = take n i.fed; content = content; cut = cut }) ≡ false
  fits_text fits = rw (length-take-le n i.fed within) fits

  long_text : exceeds i.taken n cut ≡ true → is_too_long i.taken (record { bytes = take n i.fed; content = content; cut = cut }) ≡ true
  long_text long = rw (length-take-le n i.fed within) long

module _ (i : Input) (n : ℕ) (content : Content) (first : IsFirst i.fed n content true) where
  in_front : n ≤ length i.fed
  in_front = let w = first.0 in omega arith

  pub takes_long_cut : exceeds i.taken n true ≡ true → Takes took.TooLong i i
  takes_long_cut long = takes_long i (λ more. (_, _, first.1 more, long_text i n content true in_front long))

  -- the scan, and what a take passes, by what the text is
  scan_cut : exceeds i.taken n true ≡ false → (more : List ℕ) (over : Bool)
      → scan_with i more over ≡ cond (not (is_utf8 (take n i.fed))) (ends NotText) (with_text (record { bytes = take n i.fed; content = content; cut = true }) (scan_with (without_front (n + 1) i) more over))
  scan_cut fits more over =
      let t : Text = record { bytes = take n i.fed; content = content; cut = true } in
      ap (judge i.taken over) (first.1 more)
      ∙ judge_short i.taken over t (texts (drop (n + 1) i.fed ++ more)) (fits_text i n content true in_front fits)
      ∙ rw (length-take-le n i.fed in_front) refl

  passed_cut : exceeds i.taken n true ≡ false
      → passed i.taken i.over (texts i.fed) ≡ cond (not (is_utf8 (take n i.fed))) 0 (n + 1 + cond (is_blanks content) (passed (i.taken + (n + 1)) i.over (texts (drop (n + 1) i.fed))) 0)
  passed_cut fits =
      let t : Text = record { bytes = take n i.fed; content = content; cut = true } in
      ap (λ (bytes : List ℕ). passed i.taken i.over (texts bytes)) (sym (append-nil i.fed))
      ∙ ap (passed i.taken i.over) (first.1 [])
      ∙ passed_short i.taken i.over t (texts (drop (n + 1) i.fed ++ [])) (fits_text i n content true in_front fits)
      ∙ rw (length-take-le n i.fed in_front, append-nil (drop (n + 1) i.fed)) refl

  pub takes_bad_cut : exceeds i.taken n true ≡ false → is_utf8 (take n i.fed) ≡ false → Takes took.NotText i i
  takes_bad_cut fits bad =
      let with : (more : List ℕ) (over : Bool) → scan_with i more over ≡ ends NotText = λ more over. rw bad at (scan_cut fits more over) in
      let scan : scan_of i ≡ ends NotText = scan_of-with i ∙ with [] i.over in
      let none : passed i.taken i.over (texts i.fed) ≡ 0 = rw bad at (passed_cut fits) in
      record {
        first = rw scan refl;
        left = rw none (sym (front_none i));
        rest = (scan, scan);
        further = λ o more over. (with more over, with more over);
      }

  pub passes_blank : exceeds i.taken n true ≡ false → is_utf8 (take n i.fed) ≡ true → is_blanks content ≡ true → SameTake i (without_front (n + 1) i)
  passes_blank fits good blank =
      let with : (more : List ℕ) (over : Bool) → scan_with i more over ≡ scan_with (without_front (n + 1) i) more over = λ more over. rw (good, blank) at (scan_cut fits more over) in
      let count : passed i.taken i.over (texts i.fed) ≡ n + 1 + passed (i.taken + (n + 1)) i.over (texts (drop (n + 1) i.fed)) = rw (good, blank) at (passed_cut fits) in
      record {
        over = refl;
        left = rw count (sym (front_more (n + 1) _ i));
        rest = scan_of-with (without_front (n + 1) i) ∙ sym (scan_of-with i ∙ with [] i.over);
        further = λ more over. sym (with more over);
      }

  pub takes_command_cut : exceeds i.taken n true ≡ false → is_utf8 (take n i.fed) ≡ true → is_blanks content ≡ false → Takes (took.Command (take n i.fed)) i (without_front (n + 1) i)
  takes_command_cut fits good filled =
      let with : (more : List ℕ) (over : Bool) → Precedes (took.Command (take n i.fed)) (scan_with i more over) (scan_with (without_front (n + 1) i) more over) = λ more over. rw (good, filled) at (scan_cut fits more over) in
      let scan : Precedes (took.Command (take n i.fed)) (scan_of i) (scan_of (without_front (n + 1) i)) = rw (scan_of-with i, scan_of-with (without_front (n + 1) i)) (with [] i.over) in
      let count : passed i.taken i.over (texts i.fed) ≡ n + 1 + 0 = rw (good, filled) at (passed_cut fits) in
      record {
        first = rw scan refl;
        left = rw (count, add-zero (n + 1)) refl;
        rest = scan;
        further = λ o more over. with more over;
      }

either_false : (a b : Bool) → (a || b) ≡ false → b ≡ false
either_false true b e = cc
either_false false b e = e

-- nothing is left
scan_empty : (taken : ℕ) → taken ≤ 2 ^ 30 → scan_from taken [] true ≡ ends Over
scan_empty taken h =
    judge_short taken true (record { bytes = []; content = Blanks; cut = false }) [] (le-ltb (2 ^ 30) (taken + 0) (omega arith))
    ∙ rw (is_utf8-from_IsUtf8 [] IsUtf8-nil) refl

-- a text without a cut
module _ (i : Input) (n : ℕ) (content : Content) (first : IsFirst i.fed n content false) where
  all_of : take n i.fed ≡ i.fed
  all_of = rw first.0 (take-length i.fed)

  pub takes_long_open : exceeds i.taken n false ≡ true → Takes took.TooLong i i
  takes_long_open long = takes_long i (λ more.
      let w = first.2 more in
      let l = w.longer in
      let e = first.0 in
      (w.text, w.others, w.are, long_more i.taken n w.text (omega arith) long))

  fits_open : exceeds i.taken n false ≡ false → is_too_long i.taken (record { bytes = i.fed; content = content; cut = false }) ≡ false
  fits_open fits = rw (← first.0) fits

  scan_open : exceeds i.taken n false ≡ false → (over : Bool)
      → scan_from i.taken i.fed over ≡ cond (not over) (ends (cond over Over NotYet)) (cond (not (is_utf8 i.fed)) (ends NotText) (with_text (record { bytes = i.fed; content = content; cut = false }) (ends (cond over Over NotYet))))
  scan_open fits over =
      ap (judge i.taken over) first.1 ∙ judge_short i.taken over (record { bytes = i.fed; content = content; cut = false }) [] (fits_open fits)

  passed_open : exceeds i.taken n false ≡ false → (over : Bool)
      → passed i.taken over (texts i.fed) ≡ cond (not over || not (is_utf8 i.fed)) 0 (length i.fed + 0 + cond (is_blanks content) 0 0)
  passed_open fits over =
      ap (passed i.taken over) first.1 ∙ passed_short i.taken over (record { bytes = i.fed; content = content; cut = false }) [] (fits_open fits)

  pub takes_not_yet : exceeds i.taken n false ≡ false → i.over ≡ false → Takes took.NotYet i i
  takes_not_yet fits o =
      let scan : scan_of i ≡ ends NotYet = rw o (scan_open fits false) in
      let none : passed i.taken i.over (texts i.fed) ≡ 0 = rw o (passed_open fits false) in
      record {
        first = rw scan refl;
        left = rw none (sym (front_none i));
        rest = refl;
        further = λ o more over. refl;
      }

  pub takes_bad_open : exceeds i.taken n false ≡ false → i.over ≡ true → is_utf8 (take n i.fed) ≡ false → Takes took.NotText i i
  takes_bad_open fits o b =
      let bad : is_utf8 i.fed ≡ false = rw all_of at b in
      let scan : scan_of i ≡ ends NotText = rw o (rw (bad) at (scan_open fits true)) in
      let none : passed i.taken i.over (texts i.fed) ≡ 0 = rw o (rw (bad) at (passed_open fits true)) in
      record {
        first = rw scan refl;
        left = rw none (sym (front_none i));
        rest = (scan, scan);
        further = λ open' more over. absurd cc;
      }

  fits_script : exceeds i.taken n false ≡ false → i.taken + n ≤ 2 ^ 30
  fits_script fits =
      let l : i.taken + (n + 0) ≤ 2 ^ 30 = ltb-false (2 ^ 30) (i.taken + (n + 0)) (either_false (nat_lt (2 ^ 20) n) _ fits) in
      omega arith

  none_left : drop n i.fed ≡ []
  none_left = rw first.0 (drop-length i.fed)

  scan_left : exceeds i.taken n false ≡ false → i.over ≡ true → scan_of (without_front n i) ≡ ends Over
  scan_left fits o = rw (none_left, o) (scan_empty (i.taken + n) (fits_script fits))

  front_of : length i.fed + 0 + 0 ≡ n
  front_of = let e = first.0 in omega arith

  pub takes_over : exceeds i.taken n false ≡ false → i.over ≡ true → is_utf8 (take n i.fed) ≡ true → is_blanks content ≡ true → Takes took.Over i (without_front n i)
  takes_over fits o g blank =
      let good : is_utf8 i.fed ≡ true = rw all_of at g in
      let scan : scan_of i ≡ ends Over = rw o (rw (good, blank) at (scan_open fits true)) in
      let count : passed i.taken i.over (texts i.fed) ≡ length i.fed + 0 + 0 = rw o (rw (good, blank) at (passed_open fits true)) in
      record {
        first = rw scan refl;
        left = rw (count, front_of) refl;
        rest = scan ∙ sym (scan_left fits o);
        further = λ open' more over. cc;
      }

  pub takes_command_open : exceeds i.taken n false ≡ false → i.over ≡ true → is_utf8 (take n i.fed) ≡ true → is_blanks content ≡ false → Takes (took.Command (take n i.fed)) i (without_front n i)
  takes_command_open fits o g filled =
      let good : is_utf8 i.fed ≡ true = rw all_of at g in
      let scan : scan_of i ≡ record (ends Over) { commands = i.fed ∷ [] } = rw o (rw (good, filled) at (scan_open fits true)) in
      let count : passed i.taken i.over (texts i.fed) ≡ length i.fed + 0 + 0 = rw o (rw (good, filled) at (passed_open fits true)) in
      record {
        first = rw (scan, all_of) refl;
        left = rw (count, front_of) refl;
        rest = rw (scan, scan_left fits o, all_of) refl;
        further = λ open' more over. cc;
      }

-- The same, whether a cut follows or not.

pub at_long : (i : Input) (n : ℕ) (content : Content) (cut : Bool) → IsFirst i.fed n content cut → exceeds i.taken n cut ≡ true → Takes took.TooLong i i
at_long i n content true first long = takes_long_cut i n content first long
at_long i n content false first long = takes_long_open i n content first long

pub at_not_yet : (i : Input) (n : ℕ) (content : Content) (cut : Bool) → cut ≡ false → i.over ≡ false → IsFirst i.fed n content cut → exceeds i.taken n cut ≡ false → Takes took.NotYet i i
at_not_yet i n content true e o first fits = cc
at_not_yet i n content false e o first fits = takes_not_yet i n content first fits o

pub at_bad : (i : Input) (n : ℕ) (content : Content) (cut : Bool) → (cut ≡ false → i.over ≡ true) → IsFirst i.fed n content cut → exceeds i.taken n cut ≡ false
    → is_utf8 (take n i.fed) ≡ false → Takes took.NotText i i
at_bad i n content true o first fits bad = takes_bad_cut i n content first fits bad
at_bad i n content false o first fits bad = takes_bad_open i n content first fits (o refl) bad

pub at_blank : (i : Input) (n : ℕ) (content : Content) (cut : Bool) → cut ≡ true → IsFirst i.fed n content cut → exceeds i.taken n cut ≡ false
    → is_utf8 (take n i.fed) ≡ true → is_blanks content ≡ true → SameTake i (without_front (n + cond cut 1 0) i)
at_blank i n content true e first fits good blank = passes_blank i n content first fits good blank
at_blank i n content false e first fits good blank = absurd cc

pub at_end : (i : Input) (n : ℕ) (content : Content) (cut : Bool) → cut ≡ false → i.over ≡ true → IsFirst i.fed n content cut → exceeds i.taken n cut ≡ false
    → is_utf8 (take n i.fed) ≡ true → is_blanks content ≡ true → Takes took.Over i (without_front (n + cond cut 1 0) i)
at_end i n content true e o first fits good blank = absurd cc
at_end i n content false e o first fits good blank = rw (add-zero n) (takes_over i n content first fits o good blank)

pub at_command : (i : Input) (n : ℕ) (content : Content) (cut : Bool) → (cut ≡ false → i.over ≡ true) → IsFirst i.fed n content cut → exceeds i.taken n cut ≡ false
    → is_utf8 (take n i.fed) ≡ true → is_blanks content ≡ false → Takes (took.Command (take n i.fed)) i (without_front (n + cond cut 1 0) i)
at_command i n content true o first fits good filled = takes_command_cut i n content first fits good filled
at_command i n content false o first fits good filled = rw (add-zero n) (takes_command_open i n content first fits (o refl) good filled)

abbrev pub IsReading : List ℕ → Bool → Reading → Type 0
IsReading bytes blank reading.NotText = is_utf8 bytes ≡ false
IsReading bytes blank reading.Blank = (is_utf8 bytes ≡ true) × (blank ≡ true)
IsReading bytes blank (reading.Command command) = (is_utf8 bytes ≡ true) × (blank ≡ false) × (command ≡ bytes)

read_along : (bytes : List ℕ) (blank good : Bool) (r : Reading) → r ≡ cond good (cond blank reading.Blank (reading.Command bytes)) reading.NotText → is_utf8 bytes ≡ good → IsReading bytes blank r
read_along bytes true true r e h = rw e (h, refl)
read_along bytes false true r e h = rw e (h, refl, refl)
read_along bytes true false r e h = rw e h
read_along bytes false false r e h = rw e h

-- what a reading says of the bytes
pub reads : (bytes : List ℕ) (blank : Bool) (r : Reading) → r ≡ reading_of bytes blank → IsReading bytes blank r
reads bytes blank r e = read_along bytes blank (is_utf8 bytes) r e refl

-- what a take gives at a whole text that is read so, or that it goes on
abbrev pub Follows : Input → ℕ → Bool → Reading → Type 0
Follows i n cut reading.NotText = Takes took.NotText i i
Follows i n cut reading.Blank = (cut ≡ true → SameTake i (without_front (n + cond cut 1 0) i)) × (cut ≡ false → Takes took.Over i (without_front (n + cond cut 1 0) i))
Follows i n cut (reading.Command command) = Takes (took.Command command) i (without_front (n + cond cut 1 0) i)

or_over : (cut over : Bool) → (cut || over) ≡ true → cut ≡ false → over ≡ true
or_over true over e h = cc
or_over false over e h = e

follows : (i : Input) (n : ℕ) (content : Content) (cut : Bool) (r : Reading) → IsFirst i.fed n content cut → exceeds i.taken n cut ≡ false → (cut ≡ false → i.over ≡ true)
    → IsReading (take n i.fed) (is_blanks content) r → Follows i n cut r
follows i n content cut reading.NotText first fits o is = at_bad i n content cut o first fits is
follows i n content cut reading.Blank first fits o is =
    (λ e. at_blank i n content cut e first fits is.0 is.1, λ e. at_end i n content cut e (o e) first fits is.0 is.1)
follows i n content cut (reading.Command command) first fits o is = rw is.2 (at_command i n content cut o first fits is.0 is.1)

-- the same of what the code has at hand
pub follows_read : (i j : Input) (n taken : ℕ) (content : Content) (cut over blank : Bool) (fed : List ℕ) (r : Reading) → j ≡ i → taken ≡ j.taken → over ≡ j.over → fed ≡ j.fed
    → IsFirst i.fed n content cut → exceeds taken n cut ≡ false → (cut || over) ≡ true → blank ≡ is_blanks content → r ≡ reading_of (take n fed) blank → Follows i n cut r
follows_read i j n taken content cut over blank fed r same t o f first fits whole b is =
    let taken_is : taken ≡ i.taken = t ∙ ap (λ (x : Input). x.taken) same in
    let over_is : over ≡ i.over = o ∙ ap (λ (x : Input). x.over) same in
    let fed_is : fed ≡ i.fed = f ∙ ap (λ (x : Input). x.fed) same in
    follows i n content cut r first (sym (ap (λ (x : ℕ). exceeds x n cut) taken_is) ∙ fits) (λ e. sym over_is ∙ or_over cut over whole e)
    (reads (take n i.fed) (is_blanks content) r (is ∙ ap (λ (x : List ℕ). reading_of (take n x) blank) fed_is ∙ ap (reading_of (take n i.fed)) b))

pub reads_command : (bytes : List ℕ) (blank : Bool) → is_utf8 bytes ≡ true → blank ≡ false → reading.Command bytes ≡ reading_of bytes blank
reads_command bytes blank good filled = rw (good, filled) refl
