-- CREATE is read exactly where it is spelt, behind that word.
use Rattle.std.proofs.Common.{◌≡◌, inl, inr, ℕ, suc, Bool, true, false, cond, List, [], ◌∷◌, codes, refl, sym, subst, arith}
use Rattle.std.specs.Prelude.{min}
use Rattle.sql_tokens.specs.declared.token.Sign.TheVariants as sign
use Rattle.sql_tree.specs.declared.catalog.SchemaCommand.TheVariants as schema
use Rattle.sql_tree.specs.declared.command.Command.{Command}
use Rattle.sql_tree.specs.declared.command.Command.TheVariants as command
use Rattle.sql_tree.specs.declared.statement.Statement.TheVariants as statement
use Rattle.sql_expr.specs.Reading.{Tokens, Parser, and_then, ◌>>=◌, pure, behind, eat_word, sees_word}
use Rattle.sql_expr.specs.Lines.{Line, gives, word as a_word, said}
use Rattle.sql_expr.specs.Lines as lines
use Rattle.sql_reader_query.specs.Names.{optional_names}
use Rattle.sql_reader_catalog.specs.Creation as spec
use Rattle.sql_expr.proofs.Heads.{Barred, Head, all_avoid}
use Rattle.sql_expr.proofs.Agreement.{Agrees, nothing, bar_word, agrees-pure, agrees-bind, agrees-same, agrees-wider, agrees-fewer, agrees-word, agrees-sign, agrees-expect_word}
use Rattle.sql_expr.proofs.ExpressionAgreement.{agrees-name}
use Rattle.sql_reader.proofs.CommandLines as line
use Rattle.sql_reader.proofs.OptionalAgreement.{also, agrees-read}
use Rattle.sql_reader.proofs.QueryAgreement.{select_tail, agrees-select}
use Rattle.sql_reader.proofs.NameAgreement.{agrees-relation, agrees-enclosed_names, agrees-parenthesized_names}
use Rattle.sql_reader.proofs.TableAgreement.{agrees-table, agrees-temp_table}

-- ---- words that choose

-- TEMP | TEMPORARY
abbrev temporary : Line (Unit {0})
temporary = lines.◌or◌ (a_word (codes "temp")) (a_word (codes "temporary"))

temp-by : {B : Type 0} (f : Bool → Parser B) (b : Bool) (ts : Tokens) → and_then (cond {A = Parser Bool} b (pure true) (eat_word (codes "temporary")) (behind b ts)) f ≡ cond {A = Parser B} b (f true) (eat_word (codes "temporary") >>= f) (behind b ts)
temp-by f true ts = refl
temp-by f false ts = refl

temp-there : {B : Type 0} (P Q : Line B) (ts : Tokens) (b : B) (us : Tokens) → (lines.◌or◌ (lines.◌>>◌ (a_word (codes "temp")) P) (lines.◌or◌ (lines.◌>>◌ (a_word (codes "temporary")) P) Q)) ts b us → (lines.◌or◌ (lines.◌>>◌ temporary P) Q) ts b us
temp-there P Q ts b us (inl (u, middle, front, rest)) = inl (u, middle, inl front, rest)
temp-there P Q ts b us (inr (inl (u, middle, front, rest))) = inl (u, middle, inr front, rest)
temp-there P Q ts b us (inr (inr other)) = inr other

temp-back : {B : Type 0} (P Q : Line B) (ts : Tokens) (b : B) (us : Tokens) → (lines.◌or◌ (lines.◌>>◌ temporary P) Q) ts b us → (lines.◌or◌ (lines.◌>>◌ (a_word (codes "temp")) P) (lines.◌or◌ (lines.◌>>◌ (a_word (codes "temporary")) P) Q)) ts b us
temp-back P Q ts b us (inl (u, middle, inl front, rest)) = inl (u, middle, front, rest)
temp-back P Q ts b us (inl (u, middle, inr front, rest)) = inr (inl (u, middle, front, rest))
temp-back P Q ts b us (inr other) = inr (inr other)

agrees-temp : {S : Type 0} {n : ℕ} {B : Type 0} {p q : Parser B} {P Q : Line B} {k m : ℕ} {ahead heads : List Head} {tail : Barred}
    → Agrees S n p P k ahead tail → Agrees S n q Q m heads tail → all_avoid (bar_word (codes "temp")) (Head.word (codes "temporary") ∷ heads) ≡ true → all_avoid (bar_word (codes "temporary")) heads ≡ true
    → Agrees S n (spec.eat_temp >>= (λ found. cond found p q)) (lines.◌or◌ (lines.◌>>◌ temporary P) Q) (min (suc k) (min (suc k) m)) (Head.word (codes "temp") ∷ Head.word (codes "temporary") ∷ heads) tail
agrees-temp {p = p} {q = q} {P = P} {Q = Q} found_so not_so apart_first apart_second =
    agrees-same (temp-there P Q) (temp-back P Q) (agrees-read (λ ts. sym (temp-by (λ found. cond found p q) (sees_word (codes "temp") ts) ts))
    (agrees-word (codes "temp") found_so (agrees-word (codes "temporary") found_so not_so apart_second) apart_first))

-- `[UNIQUE]` before what begins with another word, and another line
unique-there : {B : Type 0} (R : Bool → Line B) (Q : Line B) (ts : Tokens) (b : B) (us : Tokens) → (lines.◌or◌ (lines.◌>>◌ (a_word (codes "unique")) (R true)) (lines.◌or◌ (R false) Q)) ts b us → (lines.◌or◌ (lines.◌>>=◌ (said "unique") R) Q) ts b us
unique-there R Q ts b us (inl (u, middle, front, rest)) = inl (true, middle, inl (u, middle, front, (refl, refl)), rest)
unique-there R Q ts b us (inr (inl rest)) = inl (false, ts, inr (refl, refl), rest)
unique-there R Q ts b us (inr (inr other)) = inr other

moved : {A B : Type 0} (R : A → Line B) (x y : A) (ts vs : Tokens) (b : B) (us : Tokens) → x ≡ y → ts ≡ vs → R x ts b us → R y vs b us
moved R x y ts vs b us same here rest = subst (λ z. R z vs b us) same (subst (λ ws. R x ws b us) here rest)

unique-back : {B : Type 0} (R : Bool → Line B) (Q : Line B) (ts : Tokens) (b : B) (us : Tokens) → (lines.◌or◌ (lines.◌>>=◌ (said "unique") R) Q) ts b us → (lines.◌or◌ (lines.◌>>◌ (a_word (codes "unique")) (R true)) (lines.◌or◌ (R false) Q)) ts b us
unique-back R Q ts b us (inl (x, middle, inl (u, last, front, (value, end)), rest)) = inl (u, last, front, moved R x true middle last b us value end rest)
unique-back R Q ts b us (inl (x, middle, inr (value, end), rest)) = inr (inl (moved R x false middle ts b us value end rest))
unique-back R Q ts b us (inr other) = inr (inr other)

-- ---- indexes and views

-- the words behind CREATE; none stands where [OR REPLACE] is left out
abbrev create_words : Barred
create_words = record {
  words = codes "or" ∷ codes "schema" ∷ codes "table" ∷ codes "temp" ∷ codes "temporary" ∷ codes "unique" ∷ codes "index" ∷ [];
  signs = [];
  names = false;
  numbers = false;
  strings = false;
  params = false;
}

abbrev view_heads : List Head
view_heads = Head.word (codes "or") ∷ Head.others create_words ∷ []

-- what can't stand behind a view's name without its columns
abbrev opened : Barred
opened = record { words = []; signs = sign.Dot ∷ sign.LeftParen ∷ []; names = false; numbers = false; strings = false; params = false }

module _ {n : ℕ} where
  agrees-index : (unique : Bool) → Agrees (Unit {0}) n (spec.index unique) (line.index unique) 1 (Head.name ∷ []) nothing
  unfolding spec.index line.index
  agrees-index unique = agrees-fewer 1 (omega arith) (agrees-bind agrees-name (λ name. agrees-bind (agrees-expect_word (codes "on")) (λ u. agrees-bind agrees-relation (λ table.
      agrees-bind agrees-parenthesized_names (λ columns. agrees-pure (record { name = name; unique = unique; table = table; columns = columns }) nothing) refl) refl) refl) refl)

  agrees-or_replace : Agrees (Unit {0}) n spec.or_replace (lines.◌or◌ (lines.◌>>◌ (a_word (codes "or")) (lines.◌>>◌ (a_word (codes "replace")) (gives true))) (gives false)) 0 view_heads create_words
  unfolding spec.or_replace
  agrees-or_replace = agrees-word (codes "or") (agrees-bind (agrees-expect_word (codes "replace")) (λ u. agrees-pure true create_words) refl) (agrees-pure false create_words) refl

  pub agrees-optional_names : Agrees (Unit {0}) n optional_names (lines.◌or◌ line.parenthesized_names (gives [])) 0 (Head.sign sign.LeftParen ∷ Head.others opened ∷ []) opened
  unfolding optional_names line.parenthesized_names
  agrees-optional_names = agrees-sign sign.LeftParen (agrees-wider opened refl agrees-enclosed_names) (agrees-pure [] opened) refl

abbrev indexed : Bool → Line Command
indexed unique = lines.◌>>◌ (a_word (codes "index")) (lines.◌<$>◌ command.CreateIndex (line.index unique))

-- the tokens that could go on with it
abbrev pub create_tail : Barred
create_tail = also (codes "on" ∷ []) [] select_tail

module _ {n : ℕ} where
  agrees-view : Agrees (Unit {0}) n spec.view line.view 1 view_heads create_tail
  unfolding spec.view line.view
  agrees-view = agrees-fewer 1 (omega arith) (agrees-bind agrees-or_replace (λ replace. agrees-bind (agrees-expect_word (codes "view")) (λ u. agrees-bind agrees-relation (λ name.
      agrees-bind agrees-optional_names (λ columns. agrees-bind (agrees-expect_word (codes "as")) (λ v. agrees-bind agrees-select (λ selected.
      agrees-pure (record { name = name; replace = replace; columns = columns; query = statement.ViewSelect selected }) create_tail) refl) refl) refl) refl) refl) refl)

  agrees-indexed : (unique : Bool) → Agrees (Unit {0}) n (◌>>=◌ (spec.index unique) (λ index. pure (command.CreateIndex index))) (lines.◌<$>◌ command.CreateIndex (line.index unique)) 1 (Head.name ∷ []) create_tail
  agrees-indexed unique = agrees-bind (agrees-index unique) (λ index. agrees-pure (command.CreateIndex index) create_tail) refl

  agrees-create_view : Agrees (Unit {0}) n (◌>>=◌ spec.view (λ view. pure (command.CreateView view))) (lines.◌<$>◌ command.CreateView line.view) 1 view_heads create_tail
  agrees-create_view = agrees-bind agrees-view (λ view. agrees-pure (command.CreateView view) create_tail) refl

  pub agrees-create : Agrees (Unit {0}) n spec.create line.create 1
      (Head.word (codes "schema") ∷ Head.word (codes "table") ∷ Head.word (codes "temp") ∷ Head.word (codes "temporary") ∷ Head.word (codes "unique") ∷ Head.word (codes "index") ∷ view_heads) create_tail
  unfolding spec.create line.create
  agrees-create = agrees-fewer 1 (omega arith)
      (agrees-word (codes "schema") (agrees-bind agrees-name (λ made. agrees-pure (command.Schema (schema.Create made)) create_tail) refl)
      (agrees-word (codes "table") (agrees-bind agrees-table (λ table. agrees-pure (command.CreateTable table) create_tail) refl)
      (agrees-temp (agrees-bind (agrees-expect_word (codes "table")) (λ u. agrees-bind agrees-temp_table (λ table. agrees-pure (command.CreateTempTable table) create_tail) refl) refl)
      (agrees-same (unique-there indexed (lines.◌<$>◌ command.CreateView line.view)) (unique-back indexed (lines.◌<$>◌ command.CreateView line.view))
      (agrees-word (codes "unique") (agrees-bind (agrees-expect_word (codes "index")) (λ u. agrees-indexed true) refl)
      (agrees-word (codes "index") (agrees-indexed false) agrees-create_view refl) refl)) refl refl) refl) refl)
