-- Constants of definitions are read exactly where they are spelt.
use Rattle.std.proofs.Common.{◌≡◌, inl, inr, ℕ, Bool, true, false, cond, ◌||◌, List, [], ◌∷◌, ◌++◌, Option, Some, None, codes, refl, sym, subst, arith}
use Rattle.std.specs.List.{list_any}
use Rattle.std.specs.Str.{bytes_eq}
use Rattle.sql_tokens.specs.declared.token.Token.{Token}
use Rattle.sql_tokens.specs.declared.token.Token.TheVariants as token
use Rattle.sql_tokens.specs.declared.token.Sign.TheVariants as sign
use Rattle.sql_tree.specs.declared.expr.Literal.{Literal}
use Rattle.sql_tree.specs.declared.expr.Literal.TheVariants as literal
use Rattle.sql_tree.specs.declared.expr.Numeral.{Numeral}
use Rattle.sql_expr.specs.Reading.{Text, Tokens, Parser, and_then, ◌>>=◌, ◌>>◌, ◌<$>◌, pure, taken, taken_first, required, behind, expect_sign, sees_sign, same_sign}
use Rattle.sql_expr.specs.Literals.{literal_of, literal_of_word, digits_of, numeral}
use Rattle.sql_expr.specs.Lines.{Line, gives}
use Rattle.sql_expr.specs.Grammar.{literal as literal_line}
use Rattle.sql_expr.specs.Lines as lines
use Rattle.sql_reader_catalog.specs.Constants as spec
use Rattle.sql_expr.proofs.Heads.{Barred, Head, bars, is}
use Rattle.sql_expr.proofs.Agreement.{Agrees, Stands, nothing, agrees-pure, agrees-bind, agrees-same, agrees-fewer, agrees-expect_sign, agrees-one, agrees-taken}
use Rattle.sql_expr.proofs.TokenKinds.{stands-number, literal-there, literal-back}
use Rattle.sql_reader.proofs.CommandLines as line
use Rattle.sql_reader.proofs.OptionalAgreement.{agrees-read}

-- a line with what it gives
given : {A : Type 0} (P : Line A) (ts : Tokens) (a : A) (us : Tokens) → (lines.◌>>=◌ P (λ value. gives value)) ts a us → P ts a us
given P ts a us (value, middle, front, (same, end)) = subst (λ vs. P ts a vs) (sym end) (subst (λ v. P ts v middle) (sym same) front)

giving : {A : Type 0} (P : Line A) (ts : Tokens) (a : A) (us : Tokens) → P ts a us → (lines.◌>>=◌ P (λ value. gives value)) ts a us
giving P ts a us front = (a, us, front, (refl, refl))

-- ---- the tokens that stand for something

abbrev pub literals : Barred
literals = record { words = codes "null" ∷ codes "true" ∷ codes "false" ∷ []; signs = []; names = false; numbers = true; strings = true; params = false }

abbrev pub literal_heads : List Head
literal_heads = Head.number ∷ Head.string ∷ Head.word (codes "null") ∷ Head.word (codes "true") ∷ Head.word (codes "false") ∷ []

word-shows : (a : Literal) (n t f : Bool) → cond n (Some literal.Null) (cond t (Some (literal.Bool true)) (cond f (Some (literal.Bool false)) None)) ≡ Some a → (n || (t || (f || false))) ≡ true
word-shows a true t f e = refl
word-shows a false true f e = refl
word-shows a false false true e = refl
word-shows a false false false e = cc

word-none : (n t f : Bool) → ((n || (t || (f || false))) || false) ≡ false → cond n (Some literal.Null) (cond t (Some (literal.Bool true)) (cond f (Some (literal.Bool false)) None)) ≡ None
word-none true t f e = cc
word-none false true f e = cc
word-none false false true e = cc
word-none false false false e = refl

pub stands-literal : Stands literal_of literal_line literal_heads literals
stands-literal = record { shows = λ t a e. shows t a e; none = λ t b. none t b; there = literal-there; back = literal-back }
  where
    shows : (t : Token) (a : Literal) → literal_of t ≡ Some a → list_any (λ head. is head t) literal_heads ≡ true
    shows (token.Number d) a e = refl
    shows (token.Text d) a e = refl
    shows (token.Word w) a e = word-shows a (bytes_eq w (codes "null")) (bytes_eq w (codes "true")) (bytes_eq w (codes "false")) e
    shows (token.Quoted d) a e = cc
    shows (token.Sign d) a e = cc
    shows (token.Param d) a e = cc
    shows (token.Backslash d) a e = cc

    none : (t : Token) → bars literals t ≡ false → literal_of t ≡ None
    none (token.Number d) b = cc
    none (token.Text d) b = cc
    none (token.Word w) b = word-none (bytes_eq w (codes "null")) (bytes_eq w (codes "true")) (bytes_eq w (codes "false")) b
    none (token.Quoted d) b = refl
    none (token.Sign d) b = refl
    none (token.Param d) b = refl
    none (token.Backslash d) b = refl

-- ---- constants

-- a number with its sign; one without a sign stands for a constant already
abbrev negative : Parser Numeral
negative = expect_sign sign.Minus >> ((taken digits_of >>= required) >>= (λ digits. pure (record { negative = true; digits = digits })))

abbrev literal_or_negative : Option Literal → Parser Literal
literal_or_negative (Some l) = pure l
literal_or_negative None = literal.Number <$> negative

-- what is read of a token that is no constant
same-signed : (s : Bool) (t : Token) (ts : Tokens) → digits_of t ≡ None
    → and_then (and_then (◌>>=◌ (taken digits_of) required (behind s (t ∷ ts))) (λ digits. pure (record { negative = s; digits = digits }))) (λ n. pure (literal.Number n))
    ≡ and_then (and_then (cond {A = Parser (Unit {0})} s (pure tt) (λ us. None) (behind s (t ∷ ts))) (λ u. (taken digits_of >>= required) >>= (λ digits. pure (record { negative = true; digits = digits })))) (λ n. pure (literal.Number n))
unfolding taken
same-signed true t ts e = refl
same-signed false t ts e = rw e

same-word : (o : Option Literal) (w : Text) (ts : Tokens) → and_then (taken_first o (token.Word w) ts) spec.literal_or_numeral ≡ and_then (taken_first o (token.Word w) ts) literal_or_negative
unfolding numeral sees_sign taken
same-word (Some l) w ts = refl
same-word None w ts = refl

same-constant : (ts : Tokens) → spec.constant ts ≡ (taken literal_of >>= literal_or_negative) ts
unfolding spec.constant numeral sees_sign taken
same-constant [] = refl
same-constant (token.Number d ∷ ts) = refl
same-constant (token.Text d ∷ ts) = refl
same-constant (token.Word w ∷ ts) = same-word (literal_of_word w) w ts
same-constant (token.Quoted d ∷ ts) = refl
same-constant (token.Sign s ∷ ts) = same-signed (same_sign s sign.Minus) (token.Sign s) ts refl
same-constant (token.Param d ∷ ts) = refl
same-constant (token.Backslash d ∷ ts) = refl

abbrev pub constant_heads : List Head
constant_heads = literal_heads ++ Head.sign sign.Minus ∷ []

there : (ts : Tokens) (l : Literal) (us : Tokens) → (lines.◌or◌ (lines.◌>>=◌ literal_line (λ l. gives l)) (lines.◌<$>◌ literal.Number line.negative)) ts l us → line.constant ts l us
unfolding line.constant
there ts l us (inl alone) = inl (given literal_line ts l us alone)
there ts l us (inr signed) = inr signed

back : (ts : Tokens) (l : Literal) (us : Tokens) → line.constant ts l us → (lines.◌or◌ (lines.◌>>=◌ literal_line (λ l. gives l)) (lines.◌<$>◌ literal.Number line.negative)) ts l us
unfolding line.constant
back ts l us (inl alone) = inl (giving literal_line ts l us alone)
back ts l us (inr signed) = inr signed

module _ {S : Type 0} {n : ℕ} where
  agrees-negative : Agrees S n negative line.negative 2 (Head.sign sign.Minus ∷ []) nothing
  agrees-negative = agrees-bind (agrees-expect_sign sign.Minus) (λ u. agrees-bind (agrees-one stands-number) (λ digits. agrees-pure (record { negative = true; digits = digits }) nothing) refl) refl

  pub agrees-constant : Agrees S n spec.constant line.constant 1 constant_heads nothing
  agrees-constant = agrees-read (λ ts. sym (same-constant ts)) (agrees-same there back (agrees-fewer 1 (omega arith)
      (agrees-taken literal_or_negative (omega arith) stands-literal (λ l. agrees-pure {n = n} l nothing) (agrees-bind agrees-negative (λ number. agrees-pure (literal.Number number) nothing) refl) refl)))
