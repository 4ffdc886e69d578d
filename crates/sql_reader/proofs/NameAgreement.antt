-- Names of relations and columns are read exactly where they are spelt.
use Rattle.std.proofs.Common.{inl, inr, ℕ, [], ◌∷◌, Option, Some, None, refl}
use Rattle.sql_tokens.specs.declared.token.Sign.TheVariants as sign
use Rattle.sql_expr.specs.Reading.{Text, Tokens}
use Rattle.sql_expr.specs.Lines.{Line, gives, mark}
use Rattle.sql_expr.specs.Lines as lines
use Rattle.sql_reader_query.specs.Lists as spec_lists
use Rattle.sql_reader_query.specs.Names as spec
use Rattle.sql_expr.specs.Grammar.{qualified, column}
use Rattle.sql_expr.proofs.LineWords as words
use Rattle.sql_expr.proofs.Heads.{Head}
use Rattle.sql_expr.proofs.Agreement.{Agrees, nothing, bar_sign, agrees-pure, agrees-bind, agrees-same, agrees-sign, agrees-expect_sign}
use Rattle.sql_expr.proofs.ListAgreement.{agrees-list}
use Rattle.sql_expr.proofs.ExpressionAgreement.{agrees-name}
use Rattle.sql_reader.proofs.CommandLines as line

-- the line in the order in which it is read
abbrev pub factored : Line (Option Text × Text)
factored = lines.◌>>=◌ lines.name (λ first. lines.◌or◌ (lines.◌>>◌ (mark sign.Dot) (lines.◌<$>◌ (λ second. (Some first, second)) lines.name)) (gives (None, first)))

there : (ts : Tokens) (q : Option Text × Text) (us : Tokens) → factored ts q us → qualified ts q us
unfolding qualified
there ts q us (first, middle, front, inl dotted) = inl (first, middle, front, dotted)
there ts q us (first, middle, front, inr alone) = inr (first, middle, front, alone)

back : (ts : Tokens) (q : Option Text × Text) (us : Tokens) → qualified ts q us → factored ts q us
unfolding qualified
back ts q us (inl (first, middle, front, dotted)) = (first, middle, front, inl dotted)
back ts q us (inr (first, middle, front, alone)) = (first, middle, front, inr alone)

module _ {n : ℕ} where
  agrees-qualified : Agrees (Unit {0}) n spec.qualified qualified 1 (Head.name ∷ []) (bar_sign sign.Dot)
  unfolding spec.qualified
  agrees-qualified = agrees-same there back (agrees-bind agrees-name (λ first.
      agrees-sign sign.Dot (agrees-bind agrees-name (λ second. agrees-pure (Some first, second) (bar_sign sign.Dot)) refl) (agrees-pure (None, first) (bar_sign sign.Dot)) refl) refl)

  pub agrees-relation : Agrees (Unit {0}) n spec.relation line.relation 1 (Head.name ∷ []) (bar_sign sign.Dot)
  unfolding spec.relation line.relation
  agrees-relation = agrees-bind agrees-qualified (λ q. agrees-pure (record { schema = q.0; name = q.1 }) (bar_sign sign.Dot)) refl

  pub agrees-column : Agrees (Unit {0}) n spec.column column 1 (Head.name ∷ []) (bar_sign sign.Dot)
  unfolding spec.column column
  agrees-column = agrees-bind agrees-qualified (λ q. agrees-pure (record { item = q.0; name = q.1 }) (bar_sign sign.Dot)) refl

  -- in parentheses
  pub agrees-enclosed_names : Agrees (Unit {0}) n spec.enclosed_names (lines.◌>>=◌ (words.list lines.name) (λ found. lines.◌>>◌ (mark sign.RightParen) (gives found))) 2 (Head.name ∷ []) nothing
  unfolding spec.enclosed_names spec.names spec_lists.listed
  agrees-enclosed_names = agrees-bind (agrees-list (bar_sign sign.Comma) agrees-name refl refl) (λ found. agrees-bind (agrees-expect_sign sign.RightParen) (λ u. agrees-pure found nothing) refl) refl

  -- with the parentheses
  pub agrees-parenthesized_names : Agrees (Unit {0}) n spec.parenthesized_names line.parenthesized_names 3 (Head.sign sign.LeftParen ∷ []) nothing
  unfolding spec.parenthesized_names line.parenthesized_names
  agrees-parenthesized_names = agrees-bind (agrees-expect_sign sign.LeftParen) (λ u. agrees-enclosed_names) refl
