-- The lines of commands in the order in which they are read, behind the leading word where they have one of their own.
use Rattle.std.specs.Prelude.{ℤ, pos, neg_ℤ, Bool, true, false, List, Option, Some, None}
use Rattle.q_base.specs.declared.{settings.Setting.Setting, settings.SetValue.SetValue}
use Rattle.q_base.specs.declared.settings.SetValue.TheVariants as set_to
use Rattle.sql_tokens.specs.declared.token.Sign.TheVariants as sign
use Rattle.sql_tree.specs.declared.{command.Command.Command, expr.Expr.Expr, expr.Literal.Literal, expr.Literal.TheVariants.Number as NumberLiteral, expr.Numeral.Numeral, names.QName.QName}
use Rattle.sql_tree.specs.declared.command.Command.TheVariants as command_of
use Rattle.sql_tree.specs.declared.select.{FromChain.FromChain, FromItem.FromItem, Grouping.Grouping, Join.Join, Join.TheVariants.Inner, Join.TheVariants.Cross, Limits.Limits, OrderItem.OrderItem, OutputItem.OutputItem, RowCount.RowCount, Select.Select, SelectCore.SelectCore}
use Rattle.sql_tree.specs.declared.select.OutputItem.TheVariants as output_of
use Rattle.sql_tree.specs.declared.select.RowCount.TheVariants as count_of
use Rattle.sql_tree.specs.declared.{rows.Assignment.Assignment, rows.InsertTree.InsertTree, rows.NewValue.NewValue, statement.PositionedTree.PositionedTree, statement.Statement.Statement}
use Rattle.sql_tree.specs.declared.rows.NewValue.TheVariants as value_of
use Rattle.sql_tree.specs.declared.statement.Statement.TheVariants as statement_of
use Rattle.sql_tree.specs.declared.prepared.{BindTree.BindTree, ExecuteTree.ExecuteTree, PrepareTree.PrepareTree, RunTree.RunTree}
use Rattle.sql_tree.specs.declared.cursors.{FetchTree.FetchTree, Motion.Motion}
use Rattle.sql_tree.specs.declared.cursors.Motion.TheVariants as moves
use Rattle.sql_tree.specs.declared.catalog.{AlterAction.AlterAction, ColumnDef.ColumnDef, IndexTree.IndexTree, KeyKind.KeyKind, SchemaCommand.SchemaCommand, TableElement.TableElement, TableTree.TableTree, TempTableTree.TempTableTree, ViewTree.ViewTree}
use Rattle.sql_tree.specs.declared.catalog.{KeyKind.TheVariants.Primary, KeyKind.TheVariants.Unique, TableElement.TheVariants.Key, TableElement.TheVariants.Column}
use Rattle.sql_tree.specs.declared.catalog.AlterAction.TheVariants as alteration
use Rattle.sql_tree.specs.declared.catalog.SchemaCommand.TheVariants as schema
use Rattle.sql_expr.specs.Lines.{Text, Line, ◌>>=◌, ◌>>◌, ◌<$>◌, ◌or◌, gives, name, number, parameter, key, mark, unless, before, maybe, said, many}
use Rattle.sql_expr.specs.Grammar.{literal, qualified, column, expression}
use Rattle.sql_reader.specs.Grammar.{distinct, descending, nulls_first, current_of, deallocated, unsigned_integer, cursor_option, gathered, hold, direction, work, savepoint_name, scope, setting_text, on_commit, object_kind, cascaded, change_begun, backslash, Changed, Part, none_twice, nullability_of, default_of, keys_of, or_replace, written_number}
use Rattle.sql_expr.proofs.LineWords.{nowhere, provided, any, list, parenthesized}

-- ---- queries

unfoldable pub relation : Line QName
relation = (λ q. record { schema = q.0; name = q.1 }) <$> qualified

unfoldable pub parenthesized_names : Line (List Text)
parenthesized_names = parenthesized (list name)

unfoldable pub alias : Line (Option Text)
alias = maybe (said "as" >> name)

unfoldable pub output : Line OutputItem
output = mark sign.Star >> gives output_of.All
    or (do item ← name; mark sign.Dot; mark sign.Star; gives (output_of.AllOf item))
    or (do expr ← expression; named ← alias; gives (output_of.Expr expr named))

unfoldable pub item : Line FromItem
item = do table ← relation; named ← alias; gives (record { relation = table; alias = named })

unfoldable pub join : Line Join
join = (do said "inner"; key "join"; joined ← item; key "on"; condition ← expression; gives (Inner joined condition))
    or (do key "cross"; key "join"; joined ← item; gives (Cross joined))

unfoldable pub chain : Line FromChain
chain = do first ← item; further ← many join; gives (record { first = first; joins = further })

abbrev pub condition : Line (Option Expr)
condition = maybe (key "where" >> expression)

unfoldable pub core : Line SelectCore
core = do unique ← distinct; outputs ← list output; chains ← any (key "from" >> list chain); filter ← condition; gives (record { distinct = unique; outputs = outputs; from = chains; condition = filter })

unfoldable pub grouping : Line Grouping
grouping = do keys ← any (key "group" >> (key "by" >> list column)); having ← maybe (key "having" >> expression); gives (record { keys = keys; having = having })

unfoldable pub sort_key : Line OrderItem
sort_key = do expr ← expression; falls ← descending; first ← nulls_first falls; gives (record { expr = expr; descending = falls; nulls_first = first })

unfoldable pub numeral : Line Numeral
numeral = do negative ← mark sign.Minus >> gives true or gives false; digits ← number; gives (record { negative = negative; digits = digits })

unfoldable pub count : Line RowCount
count = key "null" >> gives count_of.Null or count_of.Param <$> parameter or count_of.Number <$> numeral

unfoldable pub limit : Line (Option RowCount)
limit = maybe (key "limit" >> (key "all" >> gives count_of.Null or count))

unfoldable pub offset : Line (Option RowCount)
offset = maybe (key "offset" >> count)

unfoldable pub limits : Line Limits
limits = (do most ← limit; skipped ← offset; gives (record { limit = most; offset = skipped }))
    or (do skipped ← offset; most ← limit; gives (record { limit = most; offset = skipped }))

unfoldable pub selection : Line Select
selection = do c ← core; g ← grouping; keys ← any (key "order" >> (key "by" >> list sort_key)); cut ← limits; gives (record { core = c; grouping = g; order = keys; limits = cut })

unfoldable pub select : Line Select
select = key "select" >> selection

-- ---- row changes

unfoldable pub returning : Line (List OutputItem)
returning = any (key "returning" >> list output)

unfoldable pub value : Line NewValue
value = key "default" >> gives value_of.Default or value_of.Expr <$> expression

unfoldable pub row : Line (List NewValue)
row = parenthesized (list value)

unfoldable pub insertion : Line InsertTree
insertion = do key "into"; table ← relation; columns ← any parenthesized_names; key "values"; rows ← list row; given ← returning; gives (record { table = table; columns = columns; rows = rows; returning = given })

unfoldable pub assignment : Line Assignment
assignment = do column ← name; mark sign.Equal; new ← value; gives (record { column = column; value = new })

unfoldable pub updated : Line Changed
updated = do table ← relation; key "set"; all ← list assignment; gives (λ filter given. statement_of.Update (record { table = table; assignments = all; condition = filter; returning = given }))

unfoldable pub deleted : Line Changed
deleted = do key "from"; table ← relation; gives (λ filter given. statement_of.Delete (record { table = table; condition = filter; returning = given }))

unfoldable pub changed : Line Changed
changed = key "update" >> updated or key "delete" >> deleted

-- behind a change
unfoldable pub searched : Changed → Line Statement
searched made = do filter ← condition; given ← returning; gives (made filter given)

-- behind a change, of the row at which a cursor stands
unfoldable pub positioned : Changed → Line PositionedTree
positioned made = do current_of; cursor ← name; given ← returning; gives (record { statement = made None given; cursor = cursor })

abbrev pub plain : Line Statement
plain = statement_of.Select <$> select or statement_of.Insert <$> (key "insert" >> insertion)

unfoldable pub statement : Line Statement
statement = plain or (changed >>= searched)

-- a change is positioned exactly where WHERE CURRENT OF comes next
unfoldable pub statement_command : Line Command
statement_command = command_of.Statement <$> plain
    or (do made ← changed; command_of.Positioned <$> positioned made or unless current_of >> command_of.Statement <$> searched made)

-- ---- prepared statements

unfoldable pub arguments : Line (List Expr)
arguments = parenthesized (list expression)

unfoldable pub prepare_tree : Line PrepareTree
prepare_tree = do n ← name; types ← any parenthesized_names; key "as"; s ← statement; gives (record { name = n; types = types; statement = s })

unfoldable pub execute_tree : Line ExecuteTree
execute_tree = do n ← name; found ← any arguments; gives (record { name = n; arguments = found })

unfoldable pub explain : Line Command
explain = command_of.Explain <$> statement or key "execute" >> command_of.ExplainExecute <$> execute_tree

unfoldable pub deallocate : Line Command
deallocate = before "prepare" deallocated >> deallocated

unfoldable pub discard : Line Command
discard = key "plans" >> gives command_of.DiscardPlans or (key "temp" or key "temporary") >> gives command_of.DiscardTemp

-- ---- cursors

unfoldable pub declare : Line Command
declare = do cursor ← name; options ← gathered <$> many cursor_option; key "cursor"; held ← hold; key "for"; query ← select; gives (command_of.Declare (record { name = cursor; options = options; hold = held; query = statement_of.Select query }))

unfoldable pub integer : Line ℤ
integer = pos <$> unsigned_integer or mark sign.Minus >> (λ n. neg_ℤ (pos n)) <$> unsigned_integer

unfoldable pub motion : Line Motion
motion = key "next" >> gives moves.Next or key "prior" >> gives moves.Prior
    or key "first" >> gives moves.First or key "last" >> gives moves.Last
    or key "absolute" >> moves.Absolute <$> integer or key "relative" >> moves.Relative <$> integer
    or moves.Count <$> integer or key "all" >> gives moves.All
    or key "forward" >> (key "all" >> gives moves.ForwardAll or moves.Forward <$> maybe integer)
    or key "backward" >> (key "all" >> gives moves.BackwardAll or moves.Backward <$> maybe integer)

-- left out only where no direction comes next, and then NEXT
abbrev pub optional_motion : Line Motion
optional_motion = motion or unless direction >> gives moves.Next

unfoldable pub fetch_tree : Line FetchTree
fetch_tree = do motion ← optional_motion; maybe (key "from" or key "in"); cursor ← name; gives (record { motion = motion; cursor = cursor })

unfoldable pub close : Line Command
close = key "all" >> gives command_of.CloseAll or command_of.Close <$> name

-- ---- blocks and settings

unfoldable pub begin : Line Command
begin = work >> gives command_of.Begin

unfoldable pub start : Line Command
start = key "transaction" >> gives command_of.StartTransaction

unfoldable pub commit : Line Command
commit = work >> gives command_of.Commit

unfoldable pub rollback : Line Command
rollback = work >> gives command_of.Rollback or (do work; key "to"; command_of.RollbackTo <$> savepoint_name)

unfoldable pub abort : Line Command
abort = work >> gives command_of.Rollback

-- a number as it is written, with the minus directly before it
unfoldable pub setting : Line Setting
setting = (λ text. record { text = text; number = false }) <$> setting_text
    or (λ n. record { text = written_number n; number = true }) <$> numeral

abbrev pub set_value : Line SetValue
set_value = key "default" >> gives set_to.Default or set_to.List <$> list setting

unfoldable pub set : Line Command
set = do local ← scope; n ← name; key "to" or mark sign.Equal; v ← set_value; gives (command_of.Set (record { name = n; local = local; value = v }))

-- ---- catalog

abbrev pub negative : Line Numeral
negative = do mark sign.Minus; digits ← number; gives (record { negative = true; digits = digits })

unfoldable pub constant : Line Literal
constant = literal or NumberLiteral <$> negative

-- in CREATE TABLE alone
unfoldable pub key_part : Bool → Line Part
key_part true = key "primary" >> (key "key" >> gives (Part.keyed Primary)) or key "unique" >> gives (Part.keyed Unique)
key_part false = nowhere

unfoldable pub part : Bool → Line Part
part with_keys = key "not" >> (key "null" >> gives (Part.nulls false)) or key "null" >> gives (Part.nulls true)
    or key "default" >> Part.default <$> constant or key_part with_keys

unfoldable pub column_def : Bool → Line ColumnDef
column_def with_keys = do column ← name; type_name ← name; parts ← many (part with_keys); provided (none_twice parts); gives (record { name = column; type_name = type_name; nullability = nullability_of parts; default = default_of parts; keys = keys_of parts })

abbrev pub constraint : KeyKind → Line TableElement
constraint kind = (λ columns. Key (record { kind = kind; columns = columns })) <$> parenthesized_names

unfoldable pub element : Line TableElement
element = key "primary" >> (key "key" >> constraint Primary) or key "unique" >> constraint Unique
    or Column <$> column_def true

unfoldable pub table : Line TableTree
table = do made ← relation; mark sign.LeftParen; elements ← list element; mark sign.RightParen; gives (record { name = made; elements = elements })

unfoldable pub temp_table : Line TempTableTree
temp_table = do made ← table; ends ← on_commit; gives (record { table = made; on_commit = ends })

unfoldable pub index : Bool → Line IndexTree
index unique = do named ← name; key "on"; indexed ← relation; columns ← parenthesized_names; gives (record { name = named; unique = unique; table = indexed; columns = columns })

unfoldable pub view : Line ViewTree
view = do replace ← or_replace; key "view"; named ← relation; columns ← any parenthesized_names; key "as"; query ← select; gives (record { name = named; replace = replace; columns = columns; query = statement_of.ViewSelect query })

unfoldable pub create : Line Command
create = key "schema" >> (λ made. command_of.Schema (schema.Create made)) <$> name
    or key "table" >> command_of.CreateTable <$> table
    or (do key "temp" or key "temporary"; key "table"; command_of.CreateTempTable <$> temp_table)
    or (do unique ← said "unique"; key "index"; command_of.CreateIndex <$> index unique)
    or command_of.CreateView <$> view

unfoldable pub drop_object : Line Command
drop_object = key "schema" >> (λ dropped. command_of.Schema (schema.Drop dropped)) <$> name
    or (do kind ← object_kind; dropped ← relation; cascade ← cascaded; gives (command_of.Drop (record { kind = kind; name = dropped; cascade = cascade })))

unfoldable pub truncate : Line Command
truncate = said "table" >> command_of.Truncate <$> relation

unfoldable pub analyze : Line Command
analyze = (λ table. command_of.Analyze (Some table)) <$> relation or gives (command_of.Analyze None)

abbrev pub renamed : Line Text
renamed = key "to" >> name

abbrev pub not_null : Line (Unit {0})
not_null = key "not" >> key "null"

unfoldable pub change : Text → Line AlterAction
change column = (do maybe (key "set" >> key "data"); key "type"; alteration.SetType column <$> name)
    or (do key "set"; key "default"; alteration.SetDefault column <$> constant)
    or key "drop" >> (key "default" >> gives (alteration.DropDefault column))
    or key "set" >> (not_null >> gives (alteration.SetNotNull column))
    or key "drop" >> (not_null >> gives (alteration.DropNotNull column))

unfoldable pub action : Line AlterAction
action = (do key "add"; before "column" (name >> name); alteration.AddColumn <$> column_def false)
    or (do key "drop"; before "column" name; alteration.DropColumn <$> name)
    or (do key "rename"; before "column" name; column ← name; alteration.RenameColumn column <$> renamed)
    or key "rename" >> alteration.RenameTo <$> renamed
    or key "set" >> (key "schema" >> alteration.SetSchema <$> name)
    or (do key "alter"; before "column" (name >> change_begun); column ← name; change column)

unfoldable pub renaming : Line SchemaCommand
renaming = do old ← name; key "rename"; schema.Rename old <$> renamed

unfoldable pub alter : Line Command
alter = key "schema" >> command_of.Schema <$> renaming
    or (do key "table"; altered ← relation; done ← action; gives (command_of.AlterTable (record { table = altered; action = done })))

-- ---- commands

abbrev pub prepared_command : Line Command
prepared_command = key "prepare" >> command_of.Prepare <$> prepare_tree or key "execute" >> command_of.Execute <$> execute_tree
    or key "explain" >> explain or key "deallocate" >> deallocate or key "discard" >> discard

abbrev pub cursor_command : Line Command
cursor_command = key "declare" >> declare or key "fetch" >> command_of.Fetch <$> fetch_tree or key "move" >> command_of.Move <$> fetch_tree
    or key "close" >> close

abbrev pub block_command : Line Command
block_command = key "begin" >> begin or key "start" >> start or key "commit" >> commit or key "end" >> commit
    or key "rollback" >> rollback or key "abort" >> abort
    or key "savepoint" >> command_of.Savepoint <$> name or key "release" >> command_of.Release <$> savepoint_name

abbrev pub setting_command : Line Command
setting_command = key "set" >> set or key "reset" >> command_of.Reset <$> name or key "show" >> command_of.Show <$> name

abbrev pub catalog_command : Line Command
catalog_command = key "create" >> create or key "drop" >> drop_object or key "truncate" >> truncate
    or key "analyze" >> analyze or key "alter" >> alter

-- the name is that of a portal, here and below
unfoldable pub bind_tree : Line BindTree
bind_tree = do portal ← name; execute ← execute_tree; gives (record { portal = portal; execute = execute })

unfoldable pub run_tree : Line RunTree
run_tree = do portal ← name; rows ← unsigned_integer; gives (record { portal = portal; count = rows })

unfoldable pub backslash_line : Line Command
backslash_line = backslash "prepared" >> gives command_of.ShowPrepared
    or backslash "cursors" >> gives command_of.ShowCursors
    or backslash "sync" >> gives command_of.Sync
    or backslash "parse" >> command_of.Parse <$> prepare_tree
    or backslash "bind" >> command_of.Bind <$> bind_tree
    or backslash "run" >> command_of.Run <$> run_tree
    or backslash "end" >> command_of.EndPortal <$> name

unfoldable pub command : Line Command
command = statement_command or prepared_command or cursor_command or block_command or setting_command or catalog_command or backslash_line
