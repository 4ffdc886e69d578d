-- What can come next: the heads with which a line begins, and the tokens that would go on with it.
use Rattle.std.proofs.Common.{◌≡◌, Bool, true, false, cond, not, ◌&&◌, ◌||◌, List, [], ◌∷◌, ◌++◌, Some, None, refl, sym, ap, subst}
use Rattle.std.specs.Prelude.{is_some}
use Rattle.std.specs.List.{list_any, list_all}
use Rattle.std.specs.Str.{bytes_eq}
use Rattle.std.proofs.lemmas.Slice.Eq.{bytes_eq-Decides}
use denote.Enum.Bare.{same_true}
use Rattle.sql_tokens.specs.declared.token.Token.{Token}
use Rattle.sql_tokens.specs.declared.token.Token.TheVariants as token
use Rattle.sql_tokens.specs.declared.token.Sign.{Sign}
use Rattle.sql_tokens.specs.contracts.token.Sign.{the_type}
use Rattle.sql_expr.specs.Reading.{Text, Tokens, same_sign}
use Rattle.sql_expr.specs.Names.{is_reserved, name_of}

-- tokens that must not come next
pub record Barred : Type 0 where
  pub words : List Text
  pub signs : List Sign
  pub names : Bool
  pub numbers : Bool
  pub strings : Bool
  pub params : Bool

pub data Head : Type 0 where
  word : Text → Head
  sign : Sign → Head
  name : Head
  number : Head
  string : Head
  param : Head
  -- any token but these, or none
  others : Barred → Head

abbrev pub has_word : List Text → Text → Bool
has_word words w = list_any (λ word. bytes_eq w word) words

abbrev pub has_sign : List Sign → Sign → Bool
has_sign signs s = list_any (λ sign. same_sign s sign) signs

abbrev pub is_free_name : Bool → Text → Bool
is_free_name names w = names && not (is_reserved w)

abbrev pub bars : Barred → Token → Bool
bars b (token.Word w) = has_word b.words w || is_free_name b.names w
bars b (token.Quoted q) = b.names
bars b (token.Sign s) = has_sign b.signs s
bars b (token.Number d) = b.numbers
bars b (token.Text t) = b.strings
bars b (token.Param d) = b.params
bars b (token.Backslash l) = false

-- none of the tokens comes next
abbrev pub clear : Barred → Tokens → Bool
clear b [] = true
clear b (t ∷ ts) = not (bars b t)

abbrev pub is : Head → Token → Bool
is (word w) (token.Word v) = bytes_eq v w
is (sign s) (token.Sign r) = same_sign r s
is name t = is_some (name_of t)
is number (token.Number d) = true
is string (token.Text x) = true
is param (token.Param d) = true
is (others b) t = not (bars b t)
is _ _ = false

abbrev pub may_end : Head → Bool
may_end (others b) = true
may_end _ = false

-- one of the heads comes next
abbrev pub begins : List Head → Tokens → Bool
begins heads [] = list_any may_end heads
begins heads (t ∷ ts) = list_any (λ head. is head t) heads

abbrev pub implies : Bool → Bool → Bool
implies true b = b
implies false b = true

-- no token with that head is barred
abbrev pub avoids : Barred → Head → Bool
avoids b (word w) = not (has_word b.words w || is_free_name b.names w)
avoids b (sign s) = not (has_sign b.signs s)
avoids b name = not b.names && list_all is_reserved b.words
avoids b number = not b.numbers
avoids b string = not b.strings
avoids b param = not b.params
avoids b (others c) =
    list_all (has_word c.words) b.words && (list_all (has_sign c.signs) b.signs && (implies b.names c.names
    && (implies b.numbers c.numbers && (implies b.strings c.strings && implies b.params c.params))))

abbrev pub all_avoid : Barred → List Head → Bool
all_avoid b heads = list_all (avoids b) heads

-- ---- how the tests go together

pub not-true : (b : Bool) → not b ≡ true → b ≡ false
not-true true e = cc
not-true false e = refl

pub and-left : (a b : Bool) → (a && b) ≡ true → a ≡ true
and-left true b e = refl
and-left false b e = cc

pub and-right : (a b : Bool) → (a && b) ≡ true → b ≡ true
and-right true b e = e
and-right false b e = cc

or-left : (a b : Bool) → (a || b) ≡ false → a ≡ false
or-left true b e = cc
or-left false b e = refl

or-right : (a b : Bool) → (a || b) ≡ false → b ≡ false
or-right true b e = cc
or-right false b e = e

or-both : (a b : Bool) → a ≡ false → b ≡ false → (a || b) ≡ false
or-both true b e k = cc
or-both false b e k = k

unless-implied : (a b : Bool) → implies a b ≡ true → b ≡ false → a ≡ false
unless-implied true b i e = cc
unless-implied false b i e = refl

-- a member of the smaller list would be one of the greater
none-smaller : {X : Type 0} (test : X → X → Bool) (same : (x y : X) → test x y ≡ true → x ≡ y) (small great : List X) (x : X)
    → list_all (λ y. list_any (λ z. test y z) great) small ≡ true → list_any (λ z. test x z) great ≡ false → list_any (λ z. test x z) small ≡ false
none-smaller test same [] great x all none = refl
none-smaller test same (y ∷ small) great x all none = or-both _ _ (by (test x y) refl) (none-smaller test same small great x (and-right _ _ all) none)
  where
    by : (t : Bool) → test x y ≡ t → t ≡ false
    by true e = let here = and-left _ _ all in let moved = subst (λ v. list_any (λ z. test v z) great ≡ true) (sym (same x y e)) here in cc
    by false e = refl

same-word : (v w : Text) → bytes_eq v w ≡ true → v ≡ w
same-word v w e = (bytes_eq-Decides v w).0 e

same-signs : (r s : Sign) → same_sign r s ≡ true → r ≡ s
same-signs r s e = same_true the_type tt r s e

none-reserved : (words : List Text) (w : Text) → list_all is_reserved words ≡ true → is_reserved w ≡ false → has_word words w ≡ false
none-reserved [] w all free = refl
none-reserved (x ∷ words) w all free = or-both _ _ (by (bytes_eq w x) refl) (none-reserved words w (and-right _ _ all) free)
  where
    by : (t : Bool) → bytes_eq w x ≡ t → t ≡ false
    by true e = let here = and-left _ _ all in let moved = subst (λ v. is_reserved v ≡ true) (sym (same-word w x e)) here in cc
    by false e = refl

free-name : (names : Bool) (w : Text) → names ≡ false → is_free_name names w ≡ false
free-name true w e = cc
free-name false w e = refl

smaller-names : (b c : Bool) (w : Text) → implies b c ≡ true → is_free_name c w ≡ false → is_free_name b w ≡ false
smaller-names true true w i e = e
smaller-names true false w i e = cc
smaller-names false c w i e = refl

-- the tokens that one bars are all barred by the other
record Smaller (b c : Barred) : Type 0 where
  words : list_all (has_word c.words) b.words ≡ true
  signs : list_all (has_sign c.signs) b.signs ≡ true
  names : implies b.names c.names ≡ true
  numbers : implies b.numbers c.numbers ≡ true
  strings : implies b.strings c.strings ≡ true
  params : implies b.params c.params ≡ true

smaller : (b c : Barred) → avoids b (Head.others c) ≡ true → Smaller b c
smaller b c a =
    let after_words = and-right (list_all (has_word c.words) b.words) _ a in
    let after_signs = and-right (list_all (has_sign c.signs) b.signs) _ after_words in
    let after_names = and-right (implies b.names c.names) _ after_signs in
    let after_numbers = and-right (implies b.numbers c.numbers) _ after_names in
    record {
      words = and-left _ (list_all (has_sign c.signs) b.signs && (implies b.names c.names && (implies b.numbers c.numbers && (implies b.strings c.strings && implies b.params c.params)))) a;
      signs = and-left _ (implies b.names c.names && (implies b.numbers c.numbers && (implies b.strings c.strings && implies b.params c.params))) after_words;
      names = and-left _ (implies b.numbers c.numbers && (implies b.strings c.strings && implies b.params c.params)) after_signs;
      numbers = and-left _ (implies b.strings c.strings && implies b.params c.params) after_names;
      strings = and-left _ (implies b.params c.params) after_numbers;
      params = and-right (implies b.strings c.strings) _ after_numbers;
    }

safe-others : (b c : Barred) → Smaller b c → (t : Token) → not (bars c t) ≡ true → bars b t ≡ false
safe-others b c s (token.Word v) i =
    let open_to = not-true _ i in
    or-both _ _ (none-smaller bytes_eq same-word b.words c.words v s.words (or-left _ _ open_to)) (smaller-names b.names c.names v s.names (or-right (has_word c.words v) _ open_to))
safe-others b c s (token.Quoted v) i = unless-implied b.names c.names s.names (not-true _ i)
safe-others b c s (token.Sign r) i = none-smaller same_sign same-signs b.signs c.signs r s.signs (not-true _ i)
safe-others b c s (token.Number v) i = unless-implied b.numbers c.numbers s.numbers (not-true _ i)
safe-others b c s (token.Text v) i = unless-implied b.strings c.strings s.strings (not-true _ i)
safe-others b c s (token.Param v) i = unless-implied b.params c.params s.params (not-true _ i)
safe-others b c s (token.Backslash v) i = refl

-- a token with a head that avoids them isn't barred
safe : (b : Barred) (head : Head) (t : Token) → avoids b head ≡ true → is head t ≡ true → bars b t ≡ false
safe b (Head.word w) (token.Word v) a i = subst (λ x. (has_word b.words x || is_free_name b.names x) ≡ false) (sym (same-word v w i)) (not-true _ a)
safe b (Head.word w) (token.Quoted v) a i = cc
safe b (Head.word w) (token.Sign r) a i = cc
safe b (Head.word w) (token.Number v) a i = cc
safe b (Head.word w) (token.Text v) a i = cc
safe b (Head.word w) (token.Param v) a i = cc
safe b (Head.word w) (token.Backslash v) a i = cc
safe b (Head.sign s) (token.Word v) a i = cc
safe b (Head.sign s) (token.Quoted v) a i = cc
safe b (Head.sign s) (token.Sign r) a i = subst (λ x. has_sign b.signs x ≡ false) (sym (same-signs r s i)) (not-true _ a)
safe b (Head.sign s) (token.Number v) a i = cc
safe b (Head.sign s) (token.Text v) a i = cc
safe b (Head.sign s) (token.Param v) a i = cc
safe b (Head.sign s) (token.Backslash v) a i = cc
safe b Head.number (token.Word v) a i = cc
safe b Head.number (token.Quoted v) a i = cc
safe b Head.number (token.Sign r) a i = cc
safe b Head.number (token.Number v) a i = not-true _ a
safe b Head.number (token.Text v) a i = cc
safe b Head.number (token.Param v) a i = cc
safe b Head.number (token.Backslash v) a i = cc
safe b Head.string (token.Word v) a i = cc
safe b Head.string (token.Quoted v) a i = cc
safe b Head.string (token.Sign r) a i = cc
safe b Head.string (token.Number v) a i = cc
safe b Head.string (token.Text v) a i = not-true _ a
safe b Head.string (token.Param v) a i = cc
safe b Head.string (token.Backslash v) a i = cc
safe b Head.param (token.Word v) a i = cc
safe b Head.param (token.Quoted v) a i = cc
safe b Head.param (token.Sign r) a i = cc
safe b Head.param (token.Number v) a i = cc
safe b Head.param (token.Text v) a i = cc
safe b Head.param (token.Param v) a i = not-true _ a
safe b Head.param (token.Backslash v) a i = cc
safe b Head.name (token.Word v) a i = or-both _ _ (none-reserved b.words v (and-right _ _ a) (by (is_reserved v) refl)) (free-name b.names v (not-true _ (and-left _ _ a)))
  where
    by : (t : Bool) → is_reserved v ≡ t → t ≡ false
    by true e = let none = subst (λ r. is_some (cond r None (Some v)) ≡ true) e i in cc
    by false e = refl
safe b Head.name (token.Quoted v) a i = not-true _ (and-left _ _ a)
safe b Head.name (token.Sign r) a i = cc
safe b Head.name (token.Number v) a i = cc
safe b Head.name (token.Text v) a i = cc
safe b Head.name (token.Param v) a i = cc
safe b Head.name (token.Backslash v) a i = cc
safe b (Head.others c) t a i = safe-others b c (smaller b c a) t i

-- what begins with heads that avoid them begins with none of them
safe-head : (b : Barred) (heads : List Head) (t : Token) → all_avoid b heads ≡ true → list_any (λ head. is head t) heads ≡ true → not (bars b t) ≡ true
safe-head b [] t a i = cc
safe-head b (head ∷ heads) t a i = by (is head t) refl (safe-head b heads t (and-right _ _ a))
  where
    by : (found : Bool) → is head t ≡ found → (list_any (λ h. is h t) heads ≡ true → not (bars b t) ≡ true) → not (bars b t) ≡ true
    by true e later = ap not (safe b head t (and-left _ _ a) e)
    by false e later = later (subst (λ f. (f || list_any (λ h. is h t) heads) ≡ true) e i)

pub begins-clear : (b : Barred) (heads : List Head) (ts : Tokens) → all_avoid b heads ≡ true → begins heads ts ≡ true → clear b ts ≡ true
begins-clear b heads [] a i = refl
begins-clear b heads (t ∷ ts) a i = safe-head b heads t a i

pub clear-begins : (b : Barred) (ts : Tokens) → clear b ts ≡ true → begins (Head.others b ∷ []) ts ≡ true
clear-begins b [] e = refl
clear-begins b (t ∷ ts) e = ap (λ f. f || false) e

or-longer : (t a b : Bool) → (t || a) ≡ true → (a ≡ true → b ≡ true) → (t || b) ≡ true
or-longer true a b e later = refl
or-longer false a b e later = later e

any-left : {X : Type 0} (test : X → Bool) (xs ys : List X) → list_any test xs ≡ true → list_any test (xs ++ ys) ≡ true
any-left test [] ys e = cc
any-left test (x ∷ xs) ys e = or-longer (test x) (list_any test xs) (list_any test (xs ++ ys)) e (any-left test xs ys)

or-later : (t b : Bool) → b ≡ true → (t || b) ≡ true
or-later true b e = refl
or-later false b e = e

any-right : {X : Type 0} (test : X → Bool) (xs ys : List X) → list_any test ys ≡ true → list_any test (xs ++ ys) ≡ true
any-right test [] ys e = e
any-right test (x ∷ xs) ys e = or-later (test x) _ (any-right test xs ys e)

pub begins-left : (heads more : List Head) (ts : Tokens) → begins heads ts ≡ true → begins (heads ++ more) ts ≡ true
begins-left heads more [] e = any-left may_end heads more e
begins-left heads more (t ∷ ts) e = any-left (λ head. is head t) heads more e

pub begins-right : (heads more : List Head) (ts : Tokens) → begins more ts ≡ true → begins (heads ++ more) ts ≡ true
begins-right heads more [] e = any-right may_end heads more e
begins-right heads more (t ∷ ts) e = any-right (λ head. is head t) heads more e
