-- The tokens that stand for something by themselves, which tokens those are, and the lines that spell them.
use Rattle.std.proofs.Common.{◌≡◌, ◌≢◌, inl, inr, Bool, true, false, cond, not, ◌||◌, List, [], ◌∷◌, Option, Some, None, codes, refl, sym, ap, subst, ◌∙◌}
use Rattle.std.specs.Prelude.{is_some, All}
use Rattle.std.specs.List.{list_any}
use Rattle.std.specs.Str.{bytes_eq}
use Rattle.std.proofs.lemmas.Slice.Eq.{bytes_eq-Decides}
use Rattle.std.proofs.lemmas.List.Elements.{All-nil, All-cons, All-head, All-tail}
use Rattle.sql_tokens.specs.declared.token.Token.{Token}
use Rattle.sql_tokens.specs.declared.token.Token.TheVariants as token
use Rattle.sql_tokens.specs.declared.token.Sign.{Sign}
use Rattle.sql_tokens.specs.declared.token.Sign.TheVariants as sign
use Rattle.sql_tree.specs.declared.expr.Arithmetic.{Arithmetic}
use Rattle.sql_tree.specs.declared.expr.Comparison.{Comparison}
use Rattle.sql_tree.specs.declared.expr.Literal.{Literal}
use Rattle.sql_tree.specs.declared.expr.Literal.TheVariants as literal
use Rattle.sql_tree.specs.declared.expr.Expr.{Expr}
use Rattle.sql_tree.specs.declared.expr.Expr.TheVariants as e
use Rattle.sql_expr.specs.Reading.{Text, Tokens}
use Rattle.sql_expr.specs.Literals.{digits_of, literal_of, constant_of, constant_of_literal}
use Rattle.sql_expr.specs.Operators.{comparison_of, additive_of, multiplicative_of}
use Rattle.sql_expr.specs.Names.{is_reserved, name_of}
use Rattle.sql_expr.specs.Lines.{reserved_words, Line, TakesToken, gives, mark, word as a_word, name, number, parameter}
use Rattle.sql_expr.specs.Lines as lines
use Rattle.sql_expr.specs.Grammar as grammar
use Rattle.sql_expr.proofs.Heads.{Barred, Head, bars, is}
use Rattle.sql_expr.proofs.Agreement.{Stands, one, taking, ending}

-- ---- a token that is there and stands for the value

unsome : {A : Type 0} (a b : A) → Some a ≡ Some b → b ≡ a
unsome a b e = cc

pub mark-gives : {A : Type 0} (s : Sign) (value a : A) (ts us : Tokens) → TakesToken (token.Sign s) ts us → Some value ≡ Some a → (lines.◌>>◌ (mark s) (gives value)) ts a us
mark-gives s value a ts us same v = (tt, us, same, (unsome value a v, refl))

pub gives-mark : {A : Type 0} {value_of : Token → Option A} (s : Sign) (value a : A) (ts us : Tokens) → value_of (token.Sign s) ≡ Some value → (lines.◌>>◌ (mark s) (gives value)) ts a us → one value_of ts a us
gives-mark s value a ts us known (u, middle, same, (v, end)) = (token.Sign s, ending same (sym end), known ∙ ap Some (sym v))

pub word-gives : {A : Type 0} (w v : Text) (value a : A) (ts us : Tokens) → bytes_eq w v ≡ true → TakesToken (token.Word w) ts us → Some value ≡ Some a → (lines.◌>>◌ (a_word v) (gives value)) ts a us
word-gives w v value a ts us q same found = (tt, us, taking same (ap token.Word ((bytes_eq-Decides w v).0 q)), (unsome value a found, refl))

pub gives-word : {A : Type 0} {value_of : Token → Option A} (w : Text) (value a : A) (ts us : Tokens) → value_of (token.Word w) ≡ Some value → (lines.◌>>◌ (a_word w) (gives value)) ts a us → one value_of ts a us
gives-word w value a ts us known (u, middle, same, (v, end)) = (token.Word w, ending same (sym end), known ∙ ap Some (sym v))

-- ---- names and numbers

none-left : (a b : Bool) → (a || b) ≡ false → a ≡ true → ⊥
none-left true b e f = cc
none-left false b e f = cc

none-right : (a b : Bool) → (a || b) ≡ false → b ≡ false
none-right true b e = cc
none-right false b e = e

abbrev differs : Text → Text → Type 0
differs n reserved = reserved ≢ n

free-none : (words : List Text) (n : Text) → list_any (λ reserved. bytes_eq reserved n) words ≡ false → All (differs n) words
free-none [] n e = All-nil (differs n)
free-none (w ∷ words) n e = All-cons (differs n) w words (λ same. none-left (bytes_eq w n) _ e ((bytes_eq-Decides w n).1 same)) (free-none words n (none-right (bytes_eq w n) _ e))

none-free : (words : List Text) (n : Text) → All (differs n) words → list_any (λ reserved. bytes_eq reserved n) words ≡ false
none-free [] n all = refl
none-free (w ∷ words) n all = by (bytes_eq w n) refl (none-free words n (All-tail (differs n) w words all))
  where
    by : (b : Bool) → bytes_eq w n ≡ b → list_any (λ reserved. bytes_eq reserved n) words ≡ false → (bytes_eq w n || list_any (λ reserved. bytes_eq reserved n) words) ≡ false
    by true q rest = absurd (All-head (differs n) w words all ((bytes_eq-Decides w n).0 q))
    by false q rest = ap (λ b. b || list_any (λ reserved. bytes_eq reserved n) words) q ∙ rest

pub free-word : (n : Text) → is_reserved n ≡ false → All (λ reserved. reserved ≢ n) reserved_words
unfolding is_reserved
free-word n e = free-none reserved_words n e

pub word-free : (n : Text) → All (λ reserved. reserved ≢ n) reserved_words → is_reserved n ≡ false
unfolding is_reserved
word-free n all = none-free reserved_words n all

abbrev pub bar_names : Barred
bar_names = record { words = []; signs = []; names = true; numbers = false; strings = false; params = false }

pub stands-name : Stands name_of name (Head.name ∷ []) bar_names
stands-name = record {
  shows = λ t a found. ap (λ o. is_some o || false) found;
  none = λ t b. by t b;
  there = λ ts a us spelt. there ts a us spelt.0 spelt.1 spelt.2;
  back = back;
}
  where
    free : (w : Text) (r : Bool) → not r ≡ false → cond r None (Some w) ≡ None
    free w true b = refl
    free w false b = cc

    by : (t : Token) → bars bar_names t ≡ false → name_of t ≡ None
    by (token.Word w) b = free w (is_reserved w) b
    by (token.Quoted q) b = cc
    by t b = refl

    there-word : (w a : Text) (ts us : Tokens) (r : Bool) → is_reserved w ≡ r → TakesToken (token.Word w) ts us → cond r None (Some w) ≡ Some a → name ts a us
    there-word w a ts us true q same v = cc
    there-word w a ts us false q same v = let is : w ≡ a = cc in inl (taking same (ap token.Word is), free-word a (subst (λ x. is_reserved x ≡ false) is q))

    there : (ts : Tokens) (a : Text) (us : Tokens) (t : Token) → TakesToken t ts us → name_of t ≡ Some a → name ts a us
    there ts a us (token.Word w) same v = there-word w a ts us (is_reserved w) refl same v
    there ts a us (token.Quoted q) same v = let is : q ≡ a = cc in inr (taking same (ap token.Quoted is))
    there ts a us t same v = cc

    back : (ts : Tokens) (a : Text) (us : Tokens) → name ts a us → one name_of ts a us
    back ts a us (inl (same, free_word)) = (token.Word a, same, ap (λ r. cond r None (Some a)) (word-free a free_word))
    back ts a us (inr same) = (token.Quoted a, same, refl)

abbrev bar_numbers : Barred
bar_numbers = record { words = []; signs = []; names = false; numbers = true; strings = false; params = false }

pub stands-number : Stands digits_of number (Head.number ∷ []) bar_numbers
stands-number = record { shows = shows; none = none; there = λ ts a us spelt. there ts a us spelt.0 spelt.1 spelt.2; back = λ ts a us same. (token.Number a, same, refl) }
  where
    shows : (t : Token) (a : Text) → digits_of t ≡ Some a → list_any (λ head. is head t) (Head.number ∷ []) ≡ true
    shows (token.Number d) a v = refl
    shows t a v = cc

    none : (t : Token) → bars bar_numbers t ≡ false → digits_of t ≡ None
    none (token.Number d) b = cc
    none t b = refl

    there : (ts : Tokens) (a : Text) (us : Tokens) (t : Token) → TakesToken t ts us → digits_of t ≡ Some a → number ts a us
    there ts a us (token.Number d) same v = let is : d ≡ a = cc in taking same (ap token.Number is)
    there ts a us t same v = cc

-- ---- operators

abbrev pub comparison_signs : Barred
comparison_signs = record { words = []; signs = sign.Equal ∷ sign.NotEqual ∷ sign.Less ∷ sign.LessEqual ∷ sign.Greater ∷ sign.GreaterEqual ∷ []; names = false; numbers = false; strings = false; params = false }

abbrev pub comparison_heads : List Head
comparison_heads = Head.sign sign.Equal ∷ Head.sign sign.NotEqual ∷ Head.sign sign.Less ∷ Head.sign sign.LessEqual ∷ Head.sign sign.Greater ∷ Head.sign sign.GreaterEqual ∷ []

pub stands-comparison : Stands comparison_of grammar.comparison_operator comparison_heads comparison_signs
stands-comparison = record { shows = shows; none = none; there = λ ts a us spelt. there ts a us spelt.0 spelt.1 spelt.2; back = back }
  where
    shows : (t : Token) (a : Comparison) → comparison_of t ≡ Some a → list_any (λ head. is head t) comparison_heads ≡ true
    shows (token.Sign sign.Equal) a v = refl
    shows (token.Sign sign.NotEqual) a v = refl
    shows (token.Sign sign.Less) a v = refl
    shows (token.Sign sign.LessEqual) a v = refl
    shows (token.Sign sign.Greater) a v = refl
    shows (token.Sign sign.GreaterEqual) a v = refl
    shows t a v = cc

    none : (t : Token) → bars comparison_signs t ≡ false → comparison_of t ≡ None
    none (token.Sign sign.Equal) b = cc
    none (token.Sign sign.NotEqual) b = cc
    none (token.Sign sign.Less) b = cc
    none (token.Sign sign.LessEqual) b = cc
    none (token.Sign sign.Greater) b = cc
    none (token.Sign sign.GreaterEqual) b = cc
    none t b = refl

    there : (ts : Tokens) (a : Comparison) (us : Tokens) (t : Token) → TakesToken t ts us → comparison_of t ≡ Some a → grammar.comparison_operator ts a us
    there ts a us (token.Sign sign.Equal) same v = inl (mark-gives sign.Equal _ a ts us same v)
    there ts a us (token.Sign sign.NotEqual) same v = inr (inl (mark-gives sign.NotEqual _ a ts us same v))
    there ts a us (token.Sign sign.Less) same v = inr (inr (inl (mark-gives sign.Less _ a ts us same v)))
    there ts a us (token.Sign sign.LessEqual) same v = inr (inr (inr (inl (mark-gives sign.LessEqual _ a ts us same v))))
    there ts a us (token.Sign sign.Greater) same v = inr (inr (inr (inr (inl (mark-gives sign.Greater _ a ts us same v)))))
    there ts a us (token.Sign sign.GreaterEqual) same v = inr (inr (inr (inr (inr (mark-gives sign.GreaterEqual _ a ts us same v)))))
    there ts a us t same v = cc

    back : (ts : Tokens) (a : Comparison) (us : Tokens) → grammar.comparison_operator ts a us → one comparison_of ts a us
    back ts a us (inl spelt) = gives-mark sign.Equal _ a ts us refl spelt
    back ts a us (inr (inl spelt)) = gives-mark sign.NotEqual _ a ts us refl spelt
    back ts a us (inr (inr (inl spelt))) = gives-mark sign.Less _ a ts us refl spelt
    back ts a us (inr (inr (inr (inl spelt)))) = gives-mark sign.LessEqual _ a ts us refl spelt
    back ts a us (inr (inr (inr (inr (inl spelt))))) = gives-mark sign.Greater _ a ts us refl spelt
    back ts a us (inr (inr (inr (inr (inr spelt))))) = gives-mark sign.GreaterEqual _ a ts us refl spelt

abbrev pub additive_signs : Barred
additive_signs = record { words = []; signs = sign.Plus ∷ sign.Minus ∷ []; names = false; numbers = false; strings = false; params = false }

abbrev pub additive_heads : List Head
additive_heads = Head.sign sign.Plus ∷ Head.sign sign.Minus ∷ []

pub stands-additive : Stands additive_of grammar.additive additive_heads additive_signs
stands-additive = record { shows = shows; none = none; there = λ ts a us spelt. there ts a us spelt.0 spelt.1 spelt.2; back = back }
  where
    shows : (t : Token) (a : Arithmetic) → additive_of t ≡ Some a → list_any (λ head. is head t) additive_heads ≡ true
    shows (token.Sign sign.Plus) a v = refl
    shows (token.Sign sign.Minus) a v = refl
    shows t a v = cc

    none : (t : Token) → bars additive_signs t ≡ false → additive_of t ≡ None
    none (token.Sign sign.Plus) b = cc
    none (token.Sign sign.Minus) b = cc
    none t b = refl

    there : (ts : Tokens) (a : Arithmetic) (us : Tokens) (t : Token) → TakesToken t ts us → additive_of t ≡ Some a → grammar.additive ts a us
    there ts a us (token.Sign sign.Plus) same v = inl (mark-gives sign.Plus _ a ts us same v)
    there ts a us (token.Sign sign.Minus) same v = inr (mark-gives sign.Minus _ a ts us same v)
    there ts a us t same v = cc

    back : (ts : Tokens) (a : Arithmetic) (us : Tokens) → grammar.additive ts a us → one additive_of ts a us
    back ts a us (inl spelt) = gives-mark sign.Plus _ a ts us refl spelt
    back ts a us (inr spelt) = gives-mark sign.Minus _ a ts us refl spelt

abbrev pub multiplicative_signs : Barred
multiplicative_signs = record { words = []; signs = sign.Star ∷ sign.Slash ∷ []; names = false; numbers = false; strings = false; params = false }

abbrev pub multiplicative_heads : List Head
multiplicative_heads = Head.sign sign.Star ∷ Head.sign sign.Slash ∷ []

pub stands-multiplicative : Stands multiplicative_of grammar.multiplicative multiplicative_heads multiplicative_signs
stands-multiplicative = record { shows = shows; none = none; there = λ ts a us spelt. there ts a us spelt.0 spelt.1 spelt.2; back = back }
  where
    shows : (t : Token) (a : Arithmetic) → multiplicative_of t ≡ Some a → list_any (λ head. is head t) multiplicative_heads ≡ true
    shows (token.Sign sign.Star) a v = refl
    shows (token.Sign sign.Slash) a v = refl
    shows t a v = cc

    none : (t : Token) → bars multiplicative_signs t ≡ false → multiplicative_of t ≡ None
    none (token.Sign sign.Star) b = cc
    none (token.Sign sign.Slash) b = cc
    none t b = refl

    there : (ts : Tokens) (a : Arithmetic) (us : Tokens) (t : Token) → TakesToken t ts us → multiplicative_of t ≡ Some a → grammar.multiplicative ts a us
    there ts a us (token.Sign sign.Star) same v = inl (mark-gives sign.Star _ a ts us same v)
    there ts a us (token.Sign sign.Slash) same v = inr (mark-gives sign.Slash _ a ts us same v)
    there ts a us t same v = cc

    back : (ts : Tokens) (a : Arithmetic) (us : Tokens) → grammar.multiplicative ts a us → one multiplicative_of ts a us
    back ts a us (inl spelt) = gives-mark sign.Star _ a ts us refl spelt
    back ts a us (inr spelt) = gives-mark sign.Slash _ a ts us refl spelt

-- ---- literals, and constants, which are literals and parameters

literal-word : (ts : Tokens) (a : Literal) (us : Tokens) (w : Text) (n t f : Bool) → bytes_eq w (codes "null") ≡ n → bytes_eq w (codes "true") ≡ t → bytes_eq w (codes "false") ≡ f
    → TakesToken (token.Word w) ts us → cond n (Some literal.Null) (cond t (Some (literal.Bool true)) (cond f (Some (literal.Bool false)) None)) ≡ Some a → grammar.literal ts a us
literal-word ts a us w true t f p q r same v = inr (inr (inl (word-gives w (codes "null") _ a ts us p same v)))
literal-word ts a us w false true f p q r same v = inr (inr (inr (inl (word-gives w (codes "true") _ a ts us q same v))))
literal-word ts a us w false false true p q r same v = inr (inr (inr (inr (word-gives w (codes "false") _ a ts us r same v))))
literal-word ts a us w false false false p q r same v = cc

pub literal-there : (ts : Tokens) (a : Literal) (us : Tokens) → one literal_of ts a us → grammar.literal ts a us
literal-there ts a us (t, same, v) = by t same v
  where
    by : (t : Token) → TakesToken t ts us → literal_of t ≡ Some a → grammar.literal ts a us
    by (token.Number d) same v = inl (d, us, same, (unsome _ a v, refl))
    by (token.Text x) same v = inr (inl (x, us, same, (unsome _ a v, refl)))
    by (token.Word w) same v = literal-word ts a us w (bytes_eq w (codes "null")) (bytes_eq w (codes "true")) (bytes_eq w (codes "false")) refl refl refl same v
    by t same v = cc

pub literal-back : (ts : Tokens) (a : Literal) (us : Tokens) → grammar.literal ts a us → one literal_of ts a us
literal-back ts a us (inl (d, middle, same, (v, end))) = (token.Number d, ending same (sym end), ap Some (sym v))
literal-back ts a us (inr (inl (x, middle, same, (v, end)))) = (token.Text x, ending same (sym end), ap Some (sym v))
literal-back ts a us (inr (inr (inl spelt))) = gives-word (codes "null") _ a ts us refl spelt
literal-back ts a us (inr (inr (inr (inl spelt)))) = gives-word (codes "true") _ a ts us refl spelt
literal-back ts a us (inr (inr (inr (inr spelt)))) = gives-word (codes "false") _ a ts us refl spelt

abbrev pub constants : Barred
constants = record { words = codes "null" ∷ codes "true" ∷ codes "false" ∷ []; signs = []; names = false; numbers = true; strings = true; params = true }

abbrev pub constant_heads : List Head
constant_heads = Head.number ∷ Head.string ∷ Head.param ∷ Head.word (codes "null") ∷ Head.word (codes "true") ∷ Head.word (codes "false") ∷ []

word-shows : (w : Text) (a : Expr) (n t f : Bool) → constant_of_literal (cond n (Some literal.Null) (cond t (Some (literal.Bool true)) (cond f (Some (literal.Bool false)) None))) ≡ Some a → (n || (t || (f || false))) ≡ true
word-shows w a true t f v = refl
word-shows w a false true f v = refl
word-shows w a false false true v = refl
word-shows w a false false false v = cc

word-none : (w : Text) (n t f : Bool) → ((n || (t || (f || false))) || false) ≡ false → constant_of_literal (cond n (Some literal.Null) (cond t (Some (literal.Bool true)) (cond f (Some (literal.Bool false)) None))) ≡ None
word-none w true t f b = cc
word-none w false true f b = cc
word-none w false false true b = cc
word-none w false false false b = refl

abbrev pub constant : Line Expr
constant = lines.◌or◌ (lines.◌<$>◌ e.Literal grammar.literal) (lines.◌<$>◌ e.Param parameter)

of-literal : (ts : Tokens) (a : Expr) (us : Tokens) (t : Token) (l : Option Literal) → literal_of t ≡ l → TakesToken t ts us → constant_of_literal l ≡ Some a → constant ts a us
of-literal ts a us t (Some l) q same v = inl (l, us, literal-there ts l us (t, same, q), (unsome _ a v, refl))
of-literal ts a us t None q same v = cc

pub stands-constant : Stands constant_of constant constant_heads constants
stands-constant = record { shows = shows; none = none; there = λ ts a us spelt. there ts a us spelt.0 spelt.1 spelt.2; back = back }
  where
    shows : (t : Token) (a : Expr) → constant_of t ≡ Some a → list_any (λ head. is head t) constant_heads ≡ true
    shows (token.Number d) a v = refl
    shows (token.Text d) a v = refl
    shows (token.Param d) a v = refl
    shows (token.Word w) a v = word-shows w a (bytes_eq w (codes "null")) (bytes_eq w (codes "true")) (bytes_eq w (codes "false")) v
    shows t a v = cc

    none : (t : Token) → bars constants t ≡ false → constant_of t ≡ None
    none (token.Number d) b = cc
    none (token.Text d) b = cc
    none (token.Param d) b = cc
    none (token.Word w) b = word-none w (bytes_eq w (codes "null")) (bytes_eq w (codes "true")) (bytes_eq w (codes "false")) b
    none t b = refl

    there : (ts : Tokens) (a : Expr) (us : Tokens) (t : Token) → TakesToken t ts us → constant_of t ≡ Some a → constant ts a us
    there ts a us (token.Param d) same v = inr (d, us, same, (unsome _ a v, refl))
    there ts a us (token.Number d) same v = of-literal ts a us (token.Number d) (literal_of (token.Number d)) refl same v
    there ts a us (token.Text x) same v = of-literal ts a us (token.Text x) (literal_of (token.Text x)) refl same v
    there ts a us (token.Word w) same v = of-literal ts a us (token.Word w) (literal_of (token.Word w)) refl same v
    there ts a us t same v = cc

    literal_constant : (t : Token) (l : Literal) → literal_of t ≡ Some l → constant_of t ≡ Some (e.Literal l)
    literal_constant (token.Number d) l v = ap constant_of_literal v
    literal_constant (token.Text x) l v = ap constant_of_literal v
    literal_constant (token.Word w) l v = ap constant_of_literal v
    literal_constant t l v = cc

    back : (ts : Tokens) (a : Expr) (us : Tokens) → constant ts a us → one constant_of ts a us
    back ts a us (inl (l, middle, spelt, (value, end))) =
        let here = literal-back ts l middle spelt in
        (here.0, ending here.1 (sym end), literal_constant here.0 l here.2 ∙ ap Some (sym value))
    back ts a us (inr (d, middle, same, (value, end))) = (token.Param d, ending same (sym end), ap Some (sym value))
