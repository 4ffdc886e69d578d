-- Blocks are read exactly where they are spelt.
use Rattle.std.proofs.Common.{inl, inr, ℕ, true, false, cond, List, [], ◌∷◌, codes, refl}
use Rattle.sql_tree.specs.declared.command.Command.{Command}
use Rattle.sql_tree.specs.declared.command.Command.TheVariants as command
use Rattle.sql_expr.specs.Reading.{Tokens, Parser, ◌>>=◌, pure, eat_word}
use Rattle.sql_expr.specs.Lines.{Line, gives, word as a_word}
use Rattle.sql_expr.specs.Lines as lines
use Rattle.sql_reader_session.specs.Blocks as spec
use Rattle.sql_reader.specs.Grammar as grammar
use Rattle.sql_expr.proofs.Heads.{Barred, Head}
use Rattle.sql_expr.proofs.Agreement.{Agrees, nothing, agrees-pure, agrees-bind, agrees-same, agrees-wider, agrees-word, agrees-expect_word}
use Rattle.sql_expr.proofs.ExpressionAgreement.{agrees-name}
use Rattle.sql_expr.proofs.TokenKinds.{bar_names}
use Rattle.sql_reader.proofs.CommandLines as line
use Rattle.sql_reader.proofs.KeywordAgreement.{agrees-either, agrees-before, looks-name}

-- what could go on with a command that ends a block or begins one
abbrev pub work_words : Barred
work_words = record { words = codes "work" ∷ codes "transaction" ∷ codes "to" ∷ []; signs = []; names = true; numbers = false; strings = false; params = false }

abbrev pub work_heads : List Head
work_heads = Head.word (codes "work") ∷ Head.word (codes "transaction") ∷ Head.others work_words ∷ []

-- what may stand behind ROLLBACK [WORK | TRANSACTION]
abbrev rest_read : Parser Command
rest_read = eat_word (codes "to") >>= (λ to. cond to (spec.savepoint_name >>= (λ found. pure (command.RollbackTo found))) (pure command.Rollback))

abbrev rest_line : Line Command
rest_line = lines.◌or◌ (lines.◌>>◌ (a_word (codes "to")) (lines.◌<$>◌ command.RollbackTo grammar.savepoint_name)) (gives command.Rollback)

module _ {n : ℕ} where
  pub agrees-begin : Agrees (Unit {0}) n spec.begin line.begin 0 work_heads work_words
  unfolding spec.begin line.begin
  agrees-begin = agrees-either (codes "work") (codes "transaction") refl refl (agrees-pure command.Begin work_words)

  pub agrees-start : Agrees (Unit {0}) n spec.start line.start 1 (Head.word (codes "transaction") ∷ []) nothing
  unfolding spec.start line.start
  agrees-start = agrees-bind (agrees-expect_word (codes "transaction")) (λ u. agrees-pure command.StartTransaction nothing) refl

  pub agrees-commit : Agrees (Unit {0}) n spec.commit line.commit 0 work_heads work_words
  unfolding spec.commit line.commit
  agrees-commit = agrees-either (codes "work") (codes "transaction") refl refl (agrees-pure command.Commit work_words)

  pub agrees-abort : Agrees (Unit {0}) n spec.abort line.abort 0 work_heads work_words
  unfolding spec.abort line.abort
  agrees-abort = agrees-either (codes "work") (codes "transaction") refl refl (agrees-pure command.Rollback work_words)

  pub agrees-savepoint : Agrees (Unit {0}) n spec.savepoint (lines.◌<$>◌ command.Savepoint lines.name) 1 (Head.name ∷ []) nothing
  unfolding spec.savepoint
  agrees-savepoint = agrees-bind agrees-name (λ found. agrees-pure (command.Savepoint found) nothing) refl

  pub agrees-savepoint_name : Agrees (Unit {0}) n spec.savepoint_name grammar.savepoint_name 1 (Head.word (codes "savepoint") ∷ Head.name ∷ []) bar_names
  unfolding spec.savepoint_name
  agrees-savepoint_name = agrees-before "savepoint" (looks-name (codes "savepoint")) (agrees-wider bar_names refl agrees-name)

  pub agrees-release : Agrees (Unit {0}) n spec.release (lines.◌<$>◌ command.Release grammar.savepoint_name) 1 (Head.word (codes "savepoint") ∷ Head.name ∷ []) bar_names
  unfolding spec.release
  agrees-release = agrees-bind agrees-savepoint_name (λ found. agrees-pure (command.Release found) bar_names) refl

  -- behind [WORK | TRANSACTION]
  agrees-to : Agrees (Unit {0}) n rest_read rest_line 0 (Head.word (codes "to") ∷ Head.others work_words ∷ []) work_words
  agrees-to = agrees-word (codes "to") (agrees-bind (agrees-wider work_words refl agrees-savepoint_name) (λ found. agrees-pure (command.RollbackTo found) work_words) refl) (agrees-pure command.Rollback work_words) refl

  pub agrees-rollback : Agrees (Unit {0}) n spec.rollback line.rollback 0 (Head.word (codes "work") ∷ Head.word (codes "transaction") ∷ Head.word (codes "to") ∷ Head.others work_words ∷ []) work_words
  unfolding spec.rollback line.rollback
  agrees-rollback = agrees-same there back (agrees-either (codes "work") (codes "transaction") refl refl agrees-to)
    where
      there : (ts : Tokens) (c : Command) (us : Tokens) → lines.◌>>◌ grammar.work rest_line ts c us → line.rollback ts c us
      there ts c us (o, middle, front, inl to) = inr (o, middle, front, to)
      there ts c us (o, middle, front, inr none) = inl (o, middle, front, none)

      back : (ts : Tokens) (c : Command) (us : Tokens) → line.rollback ts c us → lines.◌>>◌ grammar.work rest_line ts c us
      back ts c us (inl (o, middle, front, none)) = (o, middle, front, inr none)
      back ts c us (inr (o, middle, front, to)) = (o, middle, front, inl to)
