-- Row changes are read exactly where they are spelt.
use Rattle.std.proofs.Common.{◌≡◌, inl, inr, ℕ, true, List, [], ◌∷◌, None, codes, refl, ap, subst, arith}
use Rattle.sql_tokens.specs.declared.token.Sign.TheVariants as sign
use Rattle.sql_tree.specs.declared.names.QName.{QName}
use Rattle.sql_tree.specs.declared.rows.InsertTree.{InsertTree}
use Rattle.sql_tree.specs.declared.rows.NewValue.TheVariants as value_of
use Rattle.sql_tree.specs.declared.statement.PositionedTree.{PositionedTree}
use Rattle.sql_reader_query.specs.declared.changes.Change.{Change}
use Rattle.sql_reader_query.specs.declared.changes.Change.TheVariants.{Update, Delete}
use Rattle.sql_reader_query.specs.declared.changes.InsertTarget.{InsertTarget}
use Rattle.sql_expr.specs.Reading.{Text, Tokens, ◌>>=◌, ◌>>◌, pure, expect_word}
use Rattle.sql_expr.specs.Names.{is_reserved}
use Rattle.sql_expr.specs.Lines.{Line, gives, word as a_word}
use Rattle.sql_expr.specs.Lines as lines
use Rattle.sql_reader_query.specs.Changes as spec
use Rattle.sql_reader_query.specs.Lists as spec_lists
use Rattle.sql_reader_query.specs.Names as spec_names
use Rattle.sql_reader_query.specs.Outputs as spec_outputs
use Rattle.sql_reader_query.specs.Query as spec_query
use Rattle.sql_reader.specs.Grammar as grammar
use Rattle.sql_expr.proofs.LineWords.{nowhere, any, list}
use Rattle.sql_expr.proofs.Heads.{Barred, Head, all_avoid}
use Rattle.sql_expr.proofs.Agreement.{Agrees, nothing, bar_word, bar_sign, agrees-pure, agrees-refuse, agrees-bind, agrees-same, agrees-wider, agrees-fewer, agrees-word, agrees-sign, agrees-expect_word, agrees-expect_sign}
use Rattle.sql_expr.proofs.ListAgreement.{agrees-list}
use Rattle.sql_expr.proofs.ExpressionAgreement.{agrees-expression, expression_heads, operators, list_tail, agrees-name}
use Rattle.sql_reader.proofs.CommandLines as line
use Rattle.sql_reader.proofs.NameAgreement.{agrees-relation, agrees-enclosed_names}
use Rattle.sql_reader.proofs.OptionalAgreement.{also, agrees-any, agrees-maybe}
use Rattle.sql_reader.proofs.OutputAgreement.{outputs_tail, agrees-outputs}

-- ---- what could go on behind the parts of a change

-- behind a table that columns may follow
abbrev target_tail : Barred
target_tail = also [] (sign.LeftParen ∷ sign.Dot ∷ []) nothing

-- behind [WHERE expression]
abbrev pub where_tail : Barred
where_tail = also (codes "where" ∷ []) [] list_tail

-- behind RETURNING, also where there is none and no WHERE
abbrev pub returning_tail : Barred
returning_tail = also (codes "where" ∷ codes "returning" ∷ []) [] outputs_tail

-- ---- INSERT

abbrev target_line : Line InsertTarget
target_line = lines.◌>>◌ (a_word (codes "into")) (lines.◌>>=◌ line.relation (λ table. lines.◌>>=◌ (any line.parenthesized_names) (λ columns. gives (record { table = table; columns = columns }))))

abbrev rows_line : QName → List Text → Line InsertTree
rows_line table columns = lines.◌>>◌ (a_word (codes "values")) (lines.◌>>=◌ (list line.row) (λ rows. lines.◌>>=◌ line.returning (λ given. gives (record { table = table; columns = columns; rows = rows; returning = given }))))

there : (ts : Tokens) (i : InsertTree) (us : Tokens) → (lines.◌>>=◌ target_line (λ into. rows_line into.table into.columns)) ts i us → line.insertion ts i us
unfolding line.insertion
there ts i us (target, middle, (u, behind_into, into, (table, behind_table, named, (columns, end, listed, given))), rest) = (
  u,
  behind_into,
  into,
  (
    table,
    behind_table,
    named,
    (
      columns,
      end,
      listed,
      subst (λ t. rows_line t.table t.columns end i us) given.0 (subst (λ vs. rows_line target.table target.columns vs i us) given.1 rest),
    ),
  ),
)

back : (ts : Tokens) (i : InsertTree) (us : Tokens) → line.insertion ts i us → (lines.◌>>=◌ target_line (λ into. rows_line into.table into.columns)) ts i us
unfolding line.insertion
back ts i us (u, behind_into, into, (table, behind_table, named, (columns, end, listed, rest))) =
    (record { table = table; columns = columns }, end, (u, behind_into, into, (table, behind_table, named, (columns, end, listed, (refl, refl)))), rest)

agrees-target : {n : ℕ} → Agrees (Unit {0}) n spec.target target_line 2 (Head.word (codes "into") ∷ []) target_tail
unfolding spec.target spec_names.optional_names line.parenthesized_names
agrees-target = agrees-bind (agrees-expect_word (codes "into")) (λ u. agrees-bind agrees-relation (λ table.
    agrees-bind (agrees-sign sign.LeftParen (agrees-wider target_tail refl agrees-enclosed_names) (agrees-pure [] target_tail) refl) (λ columns. agrees-pure (record { table = table; columns = columns }) target_tail) refl) refl) refl

-- ---- UPDATE and DELETE

-- a change as it is read
abbrev updated_line : Line Change
updated_line = lines.◌>>=◌ line.relation (λ table. lines.◌>>◌ (a_word (codes "set")) (lines.◌>>=◌ (list line.assignment) (λ assignments. gives (Update table assignments))))

abbrev deleted_line : Line Change
deleted_line = lines.◌>>◌ (a_word (codes "from")) (lines.◌>>=◌ line.relation (λ table. gives (Delete table)))

abbrev pub changed_line : Line Change
changed_line = lines.◌or◌ (lines.◌>>◌ (a_word (codes "update")) updated_line) (lines.◌or◌ (lines.◌>>◌ (a_word (codes "delete")) deleted_line) nowhere)

pub changed-there : (ts : Tokens) (c : Change) (us : Tokens) → changed_line ts c us → line.changed ts (spec.statement_of c) us
unfolding line.changed line.updated line.deleted
changed-there ts c us (inl (u, behind_update, update, (table, behind_table, named, (v, behind_set, set, (assignments, last, listed, (value, end)))))) =
    inl (u, behind_update, update, (table, behind_table, named, (v, behind_set, set, (assignments, last, listed, (ap spec.statement_of value, end)))))
changed-there ts c us (inr (inl (u, behind_delete, delete, (v, behind_from, from, (table, last, named, (value, end)))))) =
    inr (u, behind_delete, delete, (v, behind_from, from, (table, last, named, (ap spec.statement_of value, end))))
changed-there ts c us (inr (inr none)) = absurd none

pub changed-back : (ts : Tokens) (f : grammar.Changed) (us : Tokens) → line.changed ts f us → (c : Change) × (f ≡ spec.statement_of c) × changed_line ts c us
unfolding line.changed line.updated line.deleted
changed-back ts f us (inl (u, behind_update, update, (table, behind_table, named, (v, behind_set, set, (assignments, last, listed, (value, end)))))) =
    (Update table assignments, value, inl (u, behind_update, update, (table, behind_table, named, (v, behind_set, set, (assignments, last, listed, (refl, end))))))
changed-back ts f us (inr (u, behind_delete, delete, (v, behind_from, from, (table, last, named, (value, end))))) =
    (Delete table, value, inr (inl (u, behind_delete, delete, (v, behind_from, from, (table, last, named, (refl, end))))))

-- ---- WHERE CURRENT OF name

abbrev position_line : Line Text
position_line = lines.◌>>◌ (a_word (codes "where")) (lines.◌>>◌ (a_word (codes "current")) (lines.◌>>◌ (a_word (codes "of")) lines.name))

abbrev positioned_line : Change → Line PositionedTree
positioned_line c = lines.◌>>=◌ position_line (λ cursor. lines.◌>>=◌ line.returning (λ given. gives (record { statement = spec.statement_of c None given; cursor = cursor })))

positioned-there : (c : Change) (ts : Tokens) (p : PositionedTree) (us : Tokens) → positioned_line c ts p us → line.positioned (spec.statement_of c) ts p us
unfolding line.positioned
positioned-there c ts p us (cursor, middle, (u, behind_where, where_word, (v, behind_current, current, (x, behind_of, of, named))), rest) =
    (x, behind_of, (v, behind_current, (u, behind_where, where_word, current), of), (cursor, middle, named, rest))

positioned-back : (c : Change) (ts : Tokens) (p : PositionedTree) (us : Tokens) → line.positioned (spec.statement_of c) ts p us → positioned_line c ts p us
unfolding line.positioned
positioned-back c ts p us (x, behind_of, (v, behind_current, (u, behind_where, where_word, current), of), (cursor, middle, named, rest)) =
    (cursor, middle, (u, behind_where, where_word, (v, behind_current, current, (x, behind_of, of, named))), rest)

agrees-position : {n : ℕ} → Agrees (Unit {0}) n spec.position position_line 4 (Head.word (codes "where") ∷ []) nothing
unfolding spec.position
agrees-position = agrees-bind (agrees-expect_word (codes "where")) (λ u. agrees-bind (agrees-expect_word (codes "current")) (λ v. agrees-bind (agrees-expect_word (codes "of")) (λ x. agrees-name) refl) refl) refl

module _ {n : ℕ} where
  pub agrees-returning : (tail : Barred) → all_avoid outputs_tail (Head.others tail ∷ []) ≡ true → all_avoid (bar_word (codes "returning")) (Head.others tail ∷ []) ≡ true
      → Agrees (Unit {0}) n spec_outputs.returning line.returning 0 (Head.word (codes "returning") ∷ Head.others tail ∷ []) tail
  unfolding spec_outputs.returning line.returning
  agrees-returning tail ends apart = agrees-any (codes "returning") tail agrees-outputs ends apart

  agrees-value : Agrees (Unit {0}) n spec.value line.value 1 (Head.word (codes "default") ∷ expression_heads) operators
  unfolding spec.value line.value is_reserved
  agrees-value = agrees-word (codes "default") (agrees-pure value_of.Default operators) (agrees-bind agrees-expression (λ x. agrees-pure (value_of.Expr x) operators) refl) refl

  pub agrees-row : Agrees (Unit {0}) n spec.row line.row 1 (Head.sign sign.LeftParen ∷ []) nothing
  unfolding spec.row line.row spec_lists.listed is_reserved
  agrees-row = agrees-fewer 1 (omega arith) (agrees-bind (agrees-expect_sign sign.LeftParen) (λ u. agrees-bind (agrees-list list_tail agrees-value refl refl) (λ values.
      agrees-bind (agrees-expect_sign sign.RightParen) (λ v. agrees-pure values nothing) refl) refl) refl)

  agrees-rows : (table : QName) (columns : List Text) → Agrees (Unit {0}) n
      (expect_word (codes "values") >> (spec_lists.listed spec.row >>= (λ rows. spec_outputs.returning >>= (λ given. pure (record { table = table; columns = columns; rows = rows; returning = given })))))
      (rows_line table columns) 2 (Head.word (codes "values") ∷ []) returning_tail
  unfolding spec_lists.listed is_reserved
  agrees-rows table columns = agrees-bind (agrees-expect_word (codes "values")) (λ u. agrees-bind (agrees-list (bar_sign sign.Comma) agrees-row refl refl) (λ rows.
      agrees-bind (agrees-returning returning_tail refl refl) (λ given. agrees-pure (record { table = table; columns = columns; rows = rows; returning = given }) returning_tail) refl) refl) refl

  pub agrees-insertion : Agrees (Unit {0}) n spec.insertion line.insertion 4 (Head.word (codes "into") ∷ []) returning_tail
  unfolding spec.insertion
  agrees-insertion = agrees-same there back (agrees-bind agrees-target (λ into. agrees-rows into.table into.columns) refl)

  agrees-assignment : Agrees (Unit {0}) n spec.assignment line.assignment 1 (Head.name ∷ []) operators
  unfolding spec.assignment line.assignment
  agrees-assignment = agrees-fewer 1 (omega arith) (agrees-bind agrees-name (λ column. agrees-bind (agrees-expect_sign sign.Equal) (λ u. agrees-bind agrees-value (λ new.
      agrees-pure (record { column = column; value = new }) operators) refl) refl) refl)

  pub agrees-updated : Agrees (Unit {0}) n spec.updated updated_line 3 (Head.name ∷ []) list_tail
  unfolding spec.updated spec_lists.listed
  agrees-updated = agrees-bind agrees-relation (λ table. agrees-bind (agrees-expect_word (codes "set")) (λ u. agrees-bind (agrees-list list_tail agrees-assignment refl refl) (λ assignments.
      agrees-pure (Update table assignments) list_tail) refl) refl) refl

  pub agrees-deleted : Agrees (Unit {0}) n spec.deleted deleted_line 2 (Head.word (codes "from") ∷ []) list_tail
  unfolding spec.deleted
  agrees-deleted = agrees-bind (agrees-expect_word (codes "from")) (λ u. agrees-bind agrees-relation (λ table. agrees-pure (Delete table) list_tail) refl) refl

  pub agrees-change : Agrees (Unit {0}) n spec.change changed_line 3 (Head.word (codes "update") ∷ Head.word (codes "delete") ∷ []) list_tail
  unfolding spec.change
  agrees-change = agrees-word (codes "update") agrees-updated (agrees-word (codes "delete") agrees-deleted (agrees-refuse 3 [] list_tail) refl) refl

  pub agrees-searched : (c : Change) → Agrees (Unit {0}) n (spec.searched c) (line.searched (spec.statement_of c)) 0 (Head.word (codes "where") ∷ Head.others where_tail ∷ []) returning_tail
  unfolding spec.searched line.searched spec_query.condition is_reserved
  agrees-searched c = agrees-bind (agrees-maybe (codes "where") where_tail agrees-expression refl refl) (λ filter. agrees-bind (agrees-returning returning_tail refl refl) (λ given.
      agrees-pure (spec.statement_of c filter given) returning_tail) refl) refl

  pub agrees-positioned : (c : Change) → Agrees (Unit {0}) n (spec.positioned c) (line.positioned (spec.statement_of c)) 4 (Head.word (codes "where") ∷ []) returning_tail
  unfolding spec.positioned line.positioned spec.position
  agrees-positioned c = agrees-same (positioned-there c) (positioned-back c) (agrees-bind agrees-position (λ cursor. agrees-bind (agrees-returning returning_tail refl refl) (λ given.
      agrees-pure (record { statement = spec.statement_of c None given; cursor = cursor }) returning_tail) refl) refl)
