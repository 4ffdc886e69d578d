-- The examples: ten texts by their derivations, and five that are read as no command.
use Rattle.std.proofs.Common.{◌≡◌, List, [], ◌∷◌, true, false, Option, Some, None, codes, refl, subst, sym, ◌∙◌}
use Rattle.std.specs.Prelude.{Result, Ok, Err}
use Rattle.q_base.specs.declared.errors.SqlError.{SqlError}
use Rattle.std.specs.Str.{chars}
use lib.Utf8.{encode}
use Rattle.sql_tokens.specs.declared.token.Token.{Token}
use Rattle.sql_tokens.specs.Spelling.{TextSpells}
use Rattle.sql_tokens.proofs.SpellingWhole.{tokens_of-sound}
use Rattle.sql_tree.specs.declared.command.Command.{Command}
use Rattle.sql_expr.specs.Reading.{Text}
use Rattle.q_base.specs.declared.settings.SetValue.TheVariants as value
use Rattle.sql_tree.specs.declared.command.Command.TheVariants as command
use Rattle.sql_tree.specs.declared.expr.Comparison.TheVariants as comparison
use Rattle.sql_tree.specs.declared.expr.Expr.TheVariants as e
use Rattle.sql_tree.specs.declared.select.Join.TheVariants as join
use Rattle.sql_tree.specs.declared.select.OutputItem.TheVariants as output
use Rattle.sql_tree.specs.declared.statement.Statement.TheVariants as statement
use Rattle.sql_reader.specs.Examples.{Derives, DerivesNone, Examples, number, column, relation, item, selected, computed, altered, plain}
use Rattle.sql_reader.specs.Grammar.{SpellsAll}
use Rattle.sql_reader.proofs.CommandAgreement.{read-when-spelt}
use Rattle.sql_reader.proofs.Derivations as derivations
use Rattle.sql_tokens.specs.Tokens as tokens_tokens
use Rattle.sql_expr.specs.Reading as expr_reading
use Rattle.sql_expr.specs.Literals as expr_literals
use Rattle.sql_expr.specs.Names as expr_names
use Rattle.sql_expr.specs.Expressions as expr_expressions
use Rattle.sql_reader_query.specs.Lists as query_lists
use Rattle.sql_reader_query.specs.Names as query_names
use Rattle.sql_reader_query.specs.Outputs as query_outputs
use Rattle.sql_reader_query.specs.FromClause as query_fromclause
use Rattle.sql_reader_query.specs.Limits as query_limits
use Rattle.sql_reader_query.specs.Query as query_query
use Rattle.sql_reader_query.specs.Changes as query_changes
use Rattle.sql_reader_query.specs.Statements as query_statements
use Rattle.sql_reader_catalog.specs.Constants as catalog_constants
use Rattle.sql_reader_catalog.specs.Keywords as catalog_keywords
use Rattle.sql_reader_catalog.specs.Columns as catalog_columns
use Rattle.sql_reader_catalog.specs.Tables as catalog_tables
use Rattle.sql_reader_catalog.specs.Creation as catalog_creation
use Rattle.sql_reader_catalog.specs.Alteration as catalog_alteration
use Rattle.sql_reader_session.specs.Blocks as session_blocks
use Rattle.sql_reader_session.specs.Settings as session_settings
use Rattle.sql_reader_session.specs.Prepared as session_prepared
use Rattle.sql_reader_session.specs.Cursors as session_cursors
use Rattle.sql_reader_session.specs.Motions as session_motions
use Rattle.sql_reader_session.specs.Numbers as session_numbers
use Rattle.sql_reader.specs.Leading as reader_leading
use Rattle.sql_reader.specs.Commands as reader_commands

-- what the tokens of a text are read as, if it has them
abbrev read_text : Result (List Token) SqlError → Option (Option Command)
read_text (Ok tokens) = Some (reader_commands.command_of tokens)
read_text (Err error) = None

found : (text : Text) (given : Result (List Token) SqlError) (c : Option Command) → tokens_tokens.tokens_of text ≡ given → read_text given ≡ Some c
    → (tokens : List Token) × TextSpells text (Ok tokens) × (reader_commands.command_of tokens ≡ c)
found text (Ok tokens) c cut read = (tokens, subst (TextSpells text) cut (tokens_of-sound text), cc)
found text (Err error) c cut read = cc

derives : (text : Text) (tokens : List Token) (c : Command) → tokens_tokens.tokens_of text ≡ Ok tokens → SpellsAll tokens c → Derives text c
derives text tokens c cut spelt = (tokens, subst (TextSpells text) cut (tokens_of-sound text), spelt)

derives_none : (text : Text) → read_text (tokens_tokens.tokens_of text) ≡ Some None → DerivesNone text
derives_none text read =
    let f = found text (tokens_tokens.tokens_of text) None refl read in
    (f.0, f.1, λ c spelt. let both = sym f.2 ∙ read-when-spelt f.0 c spelt in cc)

pub examples : Examples
unfolding chars encode tokens_tokens.after_block tokens_tokens.block_turn tokens_tokens.after_comment tokens_tokens.after_gap
    tokens_tokens.identifier_of tokens_tokens.word_at tokens_tokens.content_at tokens_tokens.quoted_at tokens_tokens.text_at
    tokens_tokens.number_at tokens_tokens.param_at tokens_tokens.backslash_at tokens_tokens.sign_at tokens_tokens.token_at
    tokens_tokens.piece_at tokens_tokens.tokens_from tokens_tokens.tokens_of expr_reading.taken expr_reading.sees_word
    expr_reading.sees_sign expr_reading.separated_from expr_literals.numeral expr_names.is_reserved expr_names.sees_name
    expr_expressions.column expr_expressions.grouped_from expr_expressions.parenthesized expr_expressions.call
    expr_expressions.named expr_expressions.primary expr_expressions.signed expr_expressions.product expr_expressions.sum
    expr_expressions.in_list expr_expressions.between expr_expressions.membership expr_expressions.comparison
    expr_expressions.null_test expr_expressions.negation expr_expressions.conjunction expr_expressions.disjunction
    expr_expressions.nested expr_expressions.expression reader_leading.keyword_of reader_commands.from_word
    reader_commands.command reader_commands.command_of query_lists.listed query_names.qualified query_names.relation
    query_names.column query_names.names query_names.enclosed_names query_names.parenthesized_names query_names.optional_names
    query_outputs.alias query_outputs.sees_all_of query_outputs.all_of query_outputs.computed query_outputs.output
    query_outputs.returning query_fromclause.item query_fromclause.inner_join query_fromclause.cross_join query_fromclause.join
    query_fromclause.joins_from query_fromclause.joins query_fromclause.chain query_fromclause.from query_limits.count
    query_limits.limit_count query_limits.limit query_limits.offset query_limits.limits query_query.distinct
    query_query.condition query_query.core query_query.group_keys query_query.grouping query_query.descending
    query_query.nulls_first query_query.key query_query.order query_query.selection query_query.select query_changes.target
    query_changes.value query_changes.row query_changes.insertion query_changes.assignment query_changes.updated
    query_changes.deleted query_changes.change query_changes.searched query_changes.sees_position query_changes.position
    query_changes.positioned query_changes.change_command query_statements.select_or_insert query_statements.statement
    query_statements.statement_command catalog_constants.constant catalog_keywords.sees_change catalog_columns.key
    catalog_columns.part catalog_columns.next_part catalog_columns.parts_from catalog_columns.column_def
    catalog_tables.constraint catalog_tables.element catalog_tables.table catalog_tables.on_commit catalog_tables.temp_table
    catalog_creation.index catalog_creation.or_replace catalog_creation.view catalog_creation.create
    catalog_alteration.renamed_to catalog_alteration.renaming catalog_alteration.not_null catalog_alteration.set_type
    catalog_alteration.set_part catalog_alteration.drop_part catalog_alteration.alter_column catalog_alteration.rename
    catalog_alteration.table_action catalog_alteration.alter session_blocks.savepoint_name session_blocks.begin
    session_blocks.start session_blocks.commit session_blocks.rollback session_blocks.abort session_blocks.savepoint
    session_blocks.release session_settings.setting session_settings.settings session_settings.set_value session_settings.scope
    session_settings.expect_to session_settings.set session_settings.reset session_settings.show session_prepared.expressions
    session_prepared.arguments session_prepared.prepare_tree session_prepared.execute_tree session_prepared.prepare
    session_prepared.execute session_prepared.explain session_prepared.deallocate session_prepared.discard
    session_cursors.cursor_option session_cursors.options_from session_cursors.cursor_options session_cursors.hold
    session_cursors.cursor_for session_cursors.declare session_cursors.fetch_tree session_cursors.fetch
    session_cursors.move_cursor session_cursors.close session_motions.forward session_motions.backward
    session_motions.optional_motion session_numbers.number_of session_numbers.count session_numbers.integer
    session_numbers.begins_integer session_numbers.optional_integer
examples = record {
  negative_literal = derives (codes "SELECT - 5") derivations.in_negative_literal (computed (number true (codes "5"))) refl derivations.negative_literal;
  between_with_and = derives (codes "SELECT a BETWEEN 1 AND 2 AND b") derivations.in_between_with_and (computed (e.And (e.Between (column (codes "a")) (number false (codes "1")) (number false (codes "2")) false ∷ column (codes "b") ∷ []))) refl derivations.between_with_and;
  not_of_a_comparison = derives (codes "SELECT NOT a = b") derivations.in_not_of_a_comparison (computed (e.Not (e.Comparison comparison.Equal (column (codes "a")) (column (codes "b"))))) refl derivations.not_of_a_comparison;
  chain_of_joins = derives (codes "SELECT * FROM a JOIN b ON c CROSS JOIN d") derivations.in_chain_of_joins (selected output.All (record { first = item (codes "a"); joins = join.Inner (item (codes "b")) (column (codes "c")) ∷ join.Cross (item (codes "d")) ∷ [] } ∷ [])) refl derivations.chain_of_joins;
  column_as_name = derives (codes "ALTER TABLE t ADD column int") derivations.in_column_as_name (altered (codes "t") (plain (codes "column"))) refl derivations.column_as_name;
  column_as_keyword = derives (codes "ALTER TABLE t ADD column a int") derivations.in_column_as_keyword (altered (codes "t") (plain (codes "a"))) refl derivations.column_as_keyword;
  savepoint_as_name = derives (codes "RELEASE savepoint") derivations.in_savepoint_as_name (command.Release (codes "savepoint")) refl derivations.savepoint_as_name;
  local_as_name = derives (codes "SET local = 1") derivations.in_local_as_name (command.Set (record { name = codes "local"; local = false; value = value.List (record { text = codes "1"; number = true } ∷ []) })) refl derivations.local_as_name;
  prepare_as_name = derives (codes "DEALLOCATE prepare") derivations.in_prepare_as_name (command.Deallocate (codes "prepare")) refl derivations.prepare_as_name;
  current_as_column = derives (codes "DELETE FROM t WHERE current = 1") derivations.in_current_as_column (command.Statement (statement.Delete (record { table = relation (codes "t"); condition = Some (e.Comparison comparison.Equal (column (codes "current")) (number false (codes "1"))); returning = [] }))) refl derivations.current_as_column;
  two_comparisons = derives_none (codes "SELECT 1 = 2 = 3") refl;
  not_before_an_operand = derives_none (codes "SELECT a NOT 1") refl;
  direction_without_name = derives_none (codes "FETCH next") refl;
  positioned_explained = derives_none (codes "EXPLAIN DELETE FROM t WHERE CURRENT OF c") refl;
  null_and_not_null = derives_none (codes "CREATE TABLE t (a int NULL NOT NULL)") refl;
}
