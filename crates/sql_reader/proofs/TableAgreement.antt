-- What CREATE TABLE and CREATE TEMP TABLE make is read exactly where it is spelt.
use Rattle.std.proofs.Common.{inl, inr, ℕ, true, List, [], ◌∷◌, codes, refl, arith}
use Rattle.sql_tokens.specs.declared.token.Sign.TheVariants as sign
use Rattle.sql_tree.specs.declared.catalog.KeyKind.{KeyKind}
use Rattle.sql_tree.specs.declared.catalog.KeyKind.TheVariants as kind
use Rattle.sql_tree.specs.declared.catalog.OnCommit.{OnCommit}
use Rattle.sql_tree.specs.declared.catalog.OnCommit.TheVariants.{Preserve, Delete, Drop}
use Rattle.sql_tree.specs.declared.catalog.TableElement.TheVariants as element_of
use Rattle.sql_expr.specs.Reading.{Tokens}
use Rattle.sql_expr.specs.Lines.{Line, gives, word as a_word}
use Rattle.sql_expr.specs.Lines as lines
use Rattle.sql_expr.specs.Names.{is_reserved}
use Rattle.sql_reader_catalog.specs.Tables as spec
use Rattle.sql_reader.specs.Grammar as grammar
use Rattle.sql_expr.proofs.Heads.{Barred, Head}
use Rattle.sql_expr.proofs.Agreement.{Agrees, nothing, bar_word, agrees-pure, agrees-bind, agrees-same, agrees-fewer, agrees-word, agrees-expect_word, agrees-expect_sign}
use Rattle.sql_expr.proofs.ListAgreement.{agrees-list}
use Rattle.sql_reader.proofs.CommandLines as line
use Rattle.sql_reader.proofs.ColumnAgreement.{agrees-column_def}
use Rattle.sql_reader.proofs.NameAgreement.{agrees-relation, agrees-parenthesized_names}
use Rattle.sql_reader.proofs.PartAgreement.{part_words}

abbrev pub element_heads : List Head
element_heads = Head.word (codes "primary") ∷ Head.word (codes "unique") ∷ Head.name ∷ []

-- the tokens that could go on with a list of elements
abbrev pub element_tail : Barred
element_tail = record part_words { signs = sign.Comma ∷ [] }

module _ {n : ℕ} where
  agrees-constraint : (kind : KeyKind) → Agrees (Unit {0}) n (spec.constraint kind) (line.constraint kind) 3 (Head.sign sign.LeftParen ∷ []) part_words
  unfolding spec.constraint
  agrees-constraint kind = agrees-bind agrees-parenthesized_names (λ columns. agrees-pure (element_of.Key (record { kind = kind; columns = columns })) part_words) refl

  pub agrees-element : Agrees (Unit {0}) n spec.element line.element 1 element_heads part_words
  unfolding spec.element line.element is_reserved
  agrees-element = agrees-fewer 1 (omega arith)
      (agrees-word (codes "primary") (agrees-bind (agrees-expect_word (codes "key")) (λ u. agrees-constraint kind.Primary) refl)
      (agrees-word (codes "unique") (agrees-constraint kind.Unique)
      (agrees-bind (agrees-column_def true) (λ def. agrees-pure (element_of.Column def) part_words) refl) refl) refl)

  pub agrees-table : Agrees (Unit {0}) n spec.table line.table 1 (Head.name ∷ []) nothing
  unfolding spec.table line.table
  agrees-table = agrees-fewer 1 (omega arith)
      (agrees-bind agrees-relation (λ name. agrees-bind (agrees-expect_sign sign.LeftParen) (λ u. agrees-bind (agrees-list element_tail agrees-element refl refl) (λ elements.
      agrees-bind (agrees-expect_sign sign.RightParen) (λ v. agrees-pure (record { name = name; elements = elements }) nothing) refl) refl) refl) refl)

-- ---- ON COMMIT

-- in the order in which it is read
abbrev commit_line : Line OnCommit
commit_line = lines.◌or◌ (lines.◌>>◌ (a_word (codes "drop")) (gives Drop)) (lines.◌or◌ (lines.◌>>◌ (a_word (codes "delete")) (lines.◌>>◌ (a_word (codes "rows")) (gives Delete)))
    (lines.◌>>◌ (a_word (codes "preserve")) (lines.◌>>◌ (a_word (codes "rows")) (gives Preserve))))

there : (ts : Tokens) (ends : OnCommit) (us : Tokens) → commit_line ts ends us → grammar.commit_action ts ends us
there ts ends us (inl drop) = inr (inr drop)
there ts ends us (inr (inl delete)) = inr (inl delete)
there ts ends us (inr (inr preserve)) = inl preserve

back : (ts : Tokens) (ends : OnCommit) (us : Tokens) → grammar.commit_action ts ends us → commit_line ts ends us
back ts ends us (inl preserve) = inr (inr preserve)
back ts ends us (inr (inl delete)) = inr (inl delete)
back ts ends us (inr (inr drop)) = inl drop

abbrev pub bar_on : Barred
bar_on = bar_word (codes "on")

module _ {n : ℕ} where
  pub agrees-on_commit : Agrees (Unit {0}) n spec.on_commit grammar.on_commit 0 (Head.word (codes "on") ∷ Head.others bar_on ∷ []) bar_on
  unfolding spec.on_commit grammar.on_commit
  agrees-on_commit = agrees-word (codes "on") (agrees-bind (agrees-expect_word (codes "commit")) (λ u. agrees-same there back
      (agrees-word (codes "drop") (agrees-pure Drop bar_on)
      (agrees-word (codes "delete") (agrees-bind (agrees-expect_word (codes "rows")) (λ v. agrees-pure Delete bar_on) refl)
      (agrees-bind (agrees-expect_word (codes "preserve")) (λ v. agrees-bind (agrees-expect_word (codes "rows")) (λ w. agrees-pure Preserve bar_on) refl) refl) refl) refl)) refl)
      (agrees-pure Preserve bar_on) refl

  pub agrees-temp_table : Agrees (Unit {0}) n spec.temp_table line.temp_table 1 (Head.name ∷ []) bar_on
  unfolding spec.temp_table line.temp_table
  agrees-temp_table = agrees-bind agrees-table (λ made. agrees-bind agrees-on_commit (λ ends. agrees-pure (record { table = made; on_commit = ends }) bar_on) refl) refl
