-- Statements, and the commands that are statements, are read exactly where they are spelt.
use Rattle.std.proofs.Common.{◌≡◌, inl, inr, ℕ, Bool, true, false, cond, ◌&&◌, [], ◌∷◌, drop, Option, Some, None, codes, refl, sym, ap, subst, ◌∙◌, arith}
use Rattle.sql_tokens.specs.declared.token.Token.TheVariants as token
use Rattle.sql_tree.specs.declared.command.Command.{Command}
use Rattle.sql_tree.specs.declared.command.Command.TheVariants as command
use Rattle.sql_tree.specs.declared.statement.Statement.{Statement}
use Rattle.sql_tree.specs.declared.statement.Statement.TheVariants.{Select, Insert}
use Rattle.sql_reader_query.specs.declared.changes.Change.{Change}
use Rattle.sql_expr.specs.Reading.{Tokens, Outcome, Parser, and_then, ◌>>=◌, ◌<$>◌, pure, eat_word, sees_word}
use Rattle.sql_expr.specs.Names.{is_reserved}
use Rattle.sql_expr.specs.Lines.{Line, word as a_word, unless}
use Rattle.sql_expr.specs.Lines as lines
use Rattle.sql_reader_query.specs.Changes as spec_changes
use Rattle.sql_reader_query.specs.Query as spec_query
use Rattle.sql_reader_query.specs.Statements as spec
use Rattle.sql_reader.specs.Grammar as grammar
use Rattle.sql_expr.proofs.Heads.{Barred, Head, and-left, and-right}
use Rattle.sql_expr.proofs.Agreement.{Agrees, word-seen, agrees-pure, agrees-bind, agrees-same, agrees-wider, agrees-fewer, agrees-word, two-tokens}
use Rattle.sql_reader.proofs.CommandLines as line
use Rattle.sql_reader.proofs.OptionalAgreement.{also, agrees-read, agrees-looking-unless}
use Rattle.sql_reader.proofs.QueryAgreement.{select_tail, agrees-selection}
use Rattle.sql_reader.proofs.ChangeAgreement.{changed_line, changed-there, changed-back, where_tail, returning_tail, agrees-insertion, agrees-change, agrees-searched, agrees-positioned}

-- ---- WHERE CURRENT OF

record Position (ts : Tokens) : Type 0 where
  rest : Tokens
  same : ts ≡ token.Word (codes "where") ∷ token.Word (codes "current") ∷ token.Word (codes "of") ∷ rest

position-seen : (ts : Tokens) → spec_changes.sees_position ts ≡ true → Position ts
unfolding spec_changes.sees_position
position-seen ts e =
    let sooner = and-left (sees_word (codes "where") ts && sees_word (codes "current") (drop 1 ts)) (sees_word (codes "of") (drop 1 (drop 1 ts))) e in
    let first = word-seen (codes "where") ts (and-left (sees_word (codes "where") ts) (sees_word (codes "current") (drop 1 ts)) sooner) in
    let second = word-seen (codes "current") (drop 1 ts) (and-right (sees_word (codes "where") ts) (sees_word (codes "current") (drop 1 ts)) sooner) in
    let third = word-seen (codes "of") (drop 1 (drop 1 ts)) (and-right (sees_word (codes "where") ts && sees_word (codes "current") (drop 1 ts)) (sees_word (codes "of") (drop 1 (drop 1 ts))) e) in
    record { rest = drop 1 (drop 1 (drop 1 ts)); same = first.tokens ∙ ap (λ vs. token.Word (codes "where") ∷ vs) (two-tokens second third) }

current-there : (ts : Tokens) → spec_changes.sees_position ts ≡ true → (u : Unit {0}) × (vs : Tokens) × grammar.current_of ts u vs
current-there ts e = let p = position-seen ts e in (tt, p.rest, (tt, token.Word (codes "of") ∷ p.rest, (tt, token.Word (codes "current") ∷ token.Word (codes "of") ∷ p.rest, record { tokens = p.same }, record { tokens = refl }), record { tokens = refl }))

sees-current : (ts : Tokens) (u : Unit {0}) (vs : Tokens) → grammar.current_of ts u vs → spec_changes.sees_position ts ≡ true
unfolding spec_changes.sees_position sees_word
sees-current ts u vs (v, behind_current, (x, behind_where, where_word, current), of) =
    let same : ts ≡ token.Word (codes "where") ∷ token.Word (codes "current") ∷ token.Word (codes "of") ∷ vs
    = where_word.tokens ∙ ap (λ ws. token.Word (codes "where") ∷ ws) (two-tokens current of) in
    ap spec_changes.sees_position same

sees-position : (c : Change) (ts : Tokens) (b : Command) (us : Tokens) → (lines.◌<$>◌ command.Positioned (line.positioned (spec_changes.statement_of c))) ts b us → spec_changes.sees_position ts ≡ true
unfolding line.positioned
sees-position c ts b us (p, end, (x, behind_of, position, named), given) = sees-current ts x behind_of position

-- ---- the readings by the first word

-- what is read behind SELECT or INSERT stands for the value, and else another line is read
abbrev by_word : {B : Type 0} → (Statement → B) → Parser B → Parser B
by_word f other = do
  selects ← eat_word (codes "select")
  cond selects ((λ s. f (Select s)) <$> spec_query.selection) (do
    inserts ← eat_word (codes "insert")
    cond inserts ((λ i. f (Insert i)) <$> spec_changes.insertion) other)

abbrev by_word_line : {B : Type 0} → (Statement → B) → Line B → Line B
by_word_line f other =
    lines.◌or◌ (lines.◌>>◌ (a_word (codes "select")) (lines.◌<$>◌ (λ s. f (Select s)) line.selection))
    (lines.◌or◌ (lines.◌>>◌ (a_word (codes "insert")) (lines.◌<$>◌ (λ i. f (Insert i)) line.insertion)) other)

-- a statement that was read, and what is made of it
made : {A B : Type 0} (o : Outcome A) (of : A → Statement) (f : Statement → B) (further : Option Statement → Parser B) → ((s : Statement) → further (Some s) ≡ pure (f s))
    → and_then o (λ a. pure (f (of a))) ≡ and_then (and_then o (λ a. pure (Some (of a)))) further
made (Some p) of f further same = sym (ap (λ (r : Parser _). r p.1) (same (of p.0)))
made None of f further same = refl

same-by-word : {B : Type 0} (f : Statement → B) (other : Parser B) (further : Option Statement → Parser B) → ((s : Statement) → further (Some s) ≡ pure (f s)) → further None ≡ other
    → (ts : Tokens) → by_word f other ts ≡ (spec.select_or_insert >>= further) ts
unfolding spec.select_or_insert
same-by-word {B = B} f other further some none ts = by (sees_word (codes "select") ts) refl (sees_word (codes "insert") ts) refl
  where
    by : (selects : Bool) → sees_word (codes "select") ts ≡ selects → (inserts : Bool) → sees_word (codes "insert") ts ≡ inserts → by_word f other ts ≡ (spec.select_or_insert >>= further) ts
    by true e inserts k = rw e (made (spec_query.selection (drop 1 ts)) Select f further some)
    by false e true k = rw e (rw k (made (spec_changes.insertion (drop 1 ts)) Insert f further some))
    by false e false k = rw e (rw k (sym (ap (λ (r : Parser B). r ts) none)))

-- ---- statement

abbrev searched_line : Line Statement
searched_line = lines.◌>>=◌ changed_line (λ c. line.searched (spec_changes.statement_of c))

statement-there : (ts : Tokens) (s : Statement) (us : Tokens) → by_word_line (λ s. s) searched_line ts s us → line.statement ts s us
unfolding line.statement line.select
statement-there ts s us (inl (u, middle, select, (q, end, spelt, given))) = inl (inl (q, end, (u, middle, select, spelt), given))
statement-there ts s us (inr (inl (u, middle, insert, (i, end, spelt, given)))) = inl (inr (i, end, (u, middle, insert, spelt), given))
statement-there ts s us (inr (inr (c, middle, changed, rest))) = inr (spec_changes.statement_of c, middle, changed-there ts c middle changed, rest)

statement-back : (ts : Tokens) (s : Statement) (us : Tokens) → line.statement ts s us → by_word_line (λ s. s) searched_line ts s us
unfolding line.statement line.select
statement-back ts s us (inl (inl (q, end, (u, middle, select, spelt), given))) = inl (u, middle, select, (q, end, spelt, given))
statement-back ts s us (inl (inr (i, end, (u, middle, insert, spelt), given))) = inr (inl (u, middle, insert, (i, end, spelt, given)))
statement-back ts s us (inr (f, middle, changed, rest)) =
    let read = changed-back ts f middle changed in
    inr (inr (read.0, middle, read.2, subst (λ g. line.searched g middle s us) read.1 rest))

-- ---- statement_command

-- behind a change
abbrev changing_of : grammar.Changed → Line Command
changing_of f = lines.◌or◌ (lines.◌<$>◌ command.Positioned (line.positioned f)) (lines.◌>>◌ (unless grammar.current_of) (lines.◌<$>◌ command.Statement (line.searched f)))

abbrev changing_line : Change → Line Command
changing_line c = changing_of (spec_changes.statement_of c)

command-there : (ts : Tokens) (b : Command) (us : Tokens) → by_word_line command.Statement (lines.◌>>=◌ changed_line changing_line) ts b us → line.statement_command ts b us
unfolding line.statement_command line.select
command-there ts b us (inl (u, middle, select, (q, end, spelt, given))) = inl (Select q, end, inl (q, end, (u, middle, select, spelt), (refl, refl)), given)
command-there ts b us (inr (inl (u, middle, insert, (i, end, spelt, given)))) = inl (Insert i, end, inr (i, end, (u, middle, insert, spelt), (refl, refl)), given)
command-there ts b us (inr (inr (c, middle, changed, rest))) = inr (spec_changes.statement_of c, middle, changed-there ts c middle changed, rest)

command-back : (ts : Tokens) (b : Command) (us : Tokens) → line.statement_command ts b us → by_word_line command.Statement (lines.◌>>=◌ changed_line changing_line) ts b us
unfolding line.statement_command line.select
command-back ts b us (inl (s, end, inl (q, rest, (u, middle, select, spelt), same), given)) =
    inl (u, middle, select, (q, rest, spelt, (given.0 ∙ ap command.Statement same.0, given.1 ∙ same.1)))
command-back ts b us (inl (s, end, inr (i, rest, (u, middle, insert, spelt), same), given)) =
    inr (inl (u, middle, insert, (i, rest, spelt, (given.0 ∙ ap command.Statement same.0, given.1 ∙ same.1))))
command-back ts b us (inr (f, middle, changed, rest)) =
    let read = changed-back ts f middle changed in
    inr (inr (read.0, middle, read.2, subst (λ g. changing_of g middle b us) read.1 rest))

-- behind a statement, also where it ends sooner
abbrev pub statement_tail : Barred
statement_tail = also (codes "returning" ∷ []) [] select_tail

agrees-by_word : {n : ℕ} {B : Type 0} {other : Parser B} {line : Line B} (f : Statement → B) → Agrees (Unit {0}) n other line 1 (Head.word (codes "update") ∷ Head.word (codes "delete") ∷ []) statement_tail
    → Agrees (Unit {0}) n (by_word f other) (by_word_line f line) 1 (Head.word (codes "select") ∷ Head.word (codes "insert") ∷ Head.word (codes "update") ∷ Head.word (codes "delete") ∷ []) statement_tail
agrees-by_word f rest = agrees-word (codes "select") (agrees-bind agrees-selection (λ s. agrees-pure (f (Select s)) statement_tail) refl)
    (agrees-word (codes "insert") (agrees-bind agrees-insertion (λ i. agrees-pure (f (Insert i)) statement_tail) refl) rest refl) refl

pub agrees-statement : {n : ℕ} → Agrees (Unit {0}) n spec.statement line.statement 1
    (Head.word (codes "select") ∷ Head.word (codes "insert") ∷ Head.word (codes "update") ∷ Head.word (codes "delete") ∷ []) statement_tail
unfolding spec.statement
agrees-statement = agrees-read (same-by-word (λ s. s) (spec_changes.change >>= spec_changes.searched) spec.statement_or_change (λ s. refl) refl)
    (agrees-same statement-there statement-back (agrees-by_word (λ s. s)
    (agrees-wider statement_tail refl (agrees-fewer 1 (omega arith) (agrees-bind agrees-change (λ c. agrees-searched c) refl)))))

agrees-changing : {n : ℕ} (c : Change) → Agrees (Unit {0}) n (spec_changes.change_command c) (changing_line c) 0 (Head.word (codes "where") ∷ Head.word (codes "where") ∷ Head.others where_tail ∷ []) returning_tail
unfolding spec_changes.change_command is_reserved
agrees-changing c = agrees-looking-unless current-there sees-current (sees-position c)
    (agrees-bind (agrees-positioned c) (λ p. agrees-pure (command.Positioned p) returning_tail) refl)
    (agrees-bind (agrees-searched c) (λ s. agrees-pure (command.Statement s) returning_tail) refl)

pub agrees-statement_command : {n : ℕ} → Agrees (Unit {0}) n spec.statement_command line.statement_command 1
    (Head.word (codes "select") ∷ Head.word (codes "insert") ∷ Head.word (codes "update") ∷ Head.word (codes "delete") ∷ []) statement_tail
unfolding spec.statement_command
agrees-statement_command = agrees-read (same-by-word command.Statement (spec_changes.change >>= spec_changes.change_command) spec.command_or_change (λ s. refl) refl)
    (agrees-same command-there command-back (agrees-by_word command.Statement
    (agrees-wider statement_tail refl (agrees-fewer 1 (omega arith) (agrees-bind agrees-change (λ c. agrees-changing c) refl)))))
