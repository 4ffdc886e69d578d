-- The grammar of commands: which tokens spell one. Each case of `Spells` is an alternative of a rule.
use Rattle.std.specs.Prelude.{◌≡◌, ◌≤◌, ◌<◌, ◌⊎◌, ℕ, ◌+◌, ◌-◌, ◌*◌, ◌^◌, ℤ, pos, neg_ℤ, Bool, true, false, not, ◌&&◌, List, [], ◌∷◌, ◌++◌, length, Option, Some, None, Result, Ok, Err, codes, if◌then◌else◌}
use Rattle.std.specs.List.{list_any}
use Prim.Native.String.{String}
use denote.Enum.Bare.{sameb}
use Rattle.q_base.specs.declared.{code.Code.TheVariants.StackDepthExceeded, code.Code.TheVariants.SyntaxError, errors.SqlError.SqlError, settings.Setting.Setting, settings.SetValue.SetValue}
use Rattle.q_base.specs.declared.settings.SetValue.TheVariants as set_to
use Rattle.sql_tokens.specs.declared.token.{Token.Token, Token.TheVariants.Backslash}
use Rattle.sql_tokens.specs.declared.token.Sign.TheVariants as sign
use Rattle.sql_tree.specs.contracts.catalog.KeyKind.{the_type}
use Rattle.sql_tree.specs.declared.{command.Command.Command, expr.Expr.Expr, expr.Literal.Literal, expr.Literal.TheVariants.Number as NumberLiteral, expr.Numeral.Numeral, names.{QName.QName, ColumnRef.ColumnRef}}
use Rattle.sql_tree.specs.declared.command.Command.TheVariants as command_of
use Rattle.sql_tree.specs.declared.select.{FromChain.FromChain, FromItem.FromItem, Join.Join, Join.TheVariants.Inner, Join.TheVariants.Cross, Limits.Limits, OrderItem.OrderItem, OutputItem.OutputItem, RowCount.RowCount, Select.Select}
use Rattle.sql_tree.specs.declared.select.OutputItem.TheVariants as output_of
use Rattle.sql_tree.specs.declared.select.RowCount.TheVariants as count_of
use Rattle.sql_tree.specs.declared.{rows.Assignment.Assignment, rows.InsertTree.InsertTree, rows.NewValue.NewValue, statement.Statement.Statement}
use Rattle.sql_tree.specs.declared.rows.NewValue.TheVariants as value_of
use Rattle.sql_tree.specs.declared.statement.Statement.TheVariants as statement_of
use Rattle.sql_tree.specs.declared.prepared.{BindTree.BindTree, ExecuteTree.ExecuteTree, PrepareTree.PrepareTree, RunTree.RunTree}
use Rattle.sql_tree.specs.declared.cursors.{CursorOptions.CursorOptions, FetchTree.FetchTree, Motion.Motion}
use Rattle.sql_tree.specs.declared.cursors.Motion.TheVariants as moves
use Rattle.sql_tree.specs.declared.catalog.{AlterAction.AlterAction, ColumnDef.ColumnDef, IndexTree.IndexTree, KeyKind.KeyKind, Nullability.Nullability, ObjectKind.ObjectKind, OnCommit.OnCommit, TableElement.TableElement, TableTree.TableTree, TempTableTree.TempTableTree, ViewTree.ViewTree}
use Rattle.sql_tree.specs.declared.catalog.{KeyKind.TheVariants.Primary, KeyKind.TheVariants.Unique, Nullability.TheVariants.Unsaid, Nullability.TheVariants.Null, Nullability.TheVariants.NotNull, ObjectKind.TheVariants.Table, ObjectKind.TheVariants.View, ObjectKind.TheVariants.Index, OnCommit.TheVariants.Preserve, OnCommit.TheVariants.Delete, OnCommit.TheVariants.Drop, TableElement.TheVariants.Key, TableElement.TheVariants.Column}
use Rattle.sql_tree.specs.declared.catalog.AlterAction.TheVariants as alteration
use Rattle.sql_tree.specs.declared.catalog.SchemaCommand.TheVariants as schema
use Rattle.sql_expr.specs.Lines.{Text, Tokens, TakesToken, Line, ◌>>◌, ◌<$>◌, ◌or◌, gives, name, number, string, parameter, word, key, mark, ahead, unless, before, maybe, said, many}
use Rattle.sql_expr.specs.Grammar.{literal, qualified, column, expression}
use Rattle.sql_expr.specs.Load.{load_of}

-- ---- what is made of tokens alone

-- whether it is DISTINCT
unfoldable pub distinct : Line Bool
distinct = key "distinct" >> gives true or key "all" >> gives false or gives false

-- whether it is DESC
unfoldable pub descending : Line Bool
descending = key "asc" >> gives false or key "desc" >> gives true or gives false

-- without it, nulls come first where the key descends
unfoldable pub nulls_first : Bool → Line Bool
nulls_first falls = key "nulls" >> (key "first" >> gives true or key "last" >> gives false) or gives falls

abbrev pub current_of : Line (Unit {0})
current_of = key "where" >> key "current" >> key "of"

abbrev pub deallocated : Line Command
deallocated = key "all" >> gives command_of.DeallocateAll or command_of.Deallocate <$> name

-- the number that decimal digits write
abbrev pub decimal : Text → ℕ
decimal [] = 0
decimal (d ∷ digits) = (d - 48) * 10 ^ length digits + decimal digits

-- at most 2147483647
abbrev pub unsigned_integer : Line ℕ
unsigned_integer ts n us = (digits : Text) × number ts digits us × (n ≡ decimal digits) × (n ≤ 2147483647)

abbrev no_options : CursorOptions
no_options = record { scroll = false; no_scroll = false; insensitive = false; asensitive = false }

abbrev pub cursor_option : Line CursorOptions
cursor_option = key "scroll" >> gives (record no_options { scroll = true })
    or key "no" >> (key "scroll" >> gives (record no_options { no_scroll = true }))
    or key "insensitive" >> gives (record no_options { insensitive = true })
    or key "asensitive" >> gives (record no_options { asensitive = true })

-- an option is set where it is written, in any order and also several times
abbrev pub gathered : List CursorOptions → CursorOptions
gathered written = record { scroll = list_any (λ o. o.scroll) written; no_scroll = list_any (λ o. o.no_scroll) written; insensitive = list_any (λ o. o.insensitive) written; asensitive = list_any (λ o. o.asensitive) written }

-- whether WITH is written
abbrev pub hold : Line Bool
hold = key "with" >> (key "hold" >> gives true) or key "without" >> (key "hold" >> gives false) or gives false

abbrev pub direction : Line (Unit {0})
direction = key "next" or key "prior" or key "first" or key "last" or key "absolute" or key "relative" or key "all" or key "forward" or key "backward"

abbrev pub work : Line (Option (Unit {0}))
work = maybe (key "work" or key "transaction")

abbrev pub savepoint_name : Line Text
savepoint_name = before "savepoint" name >> name

-- each is the keyword exactly where a name follows; whether it is LOCAL
abbrev pub scope : Line Bool
scope = key "session" >> (ahead name >> gives false) or key "local" >> (ahead name >> gives true)
    or unless ((key "session" or key "local") >> name) >> gives false

-- a word that stands for itself, though it is no name
abbrev pub itself : Text → Line Text
itself w = word w >> gives w

abbrev pub setting_text : Line Text
setting_text = name or string or itself (codes "on") or itself (codes "true") or itself (codes "false")

abbrev pub commit_action : Line OnCommit
commit_action = key "preserve" >> (key "rows" >> gives Preserve) or key "delete" >> (key "rows" >> gives Delete) or key "drop" >> gives Drop

-- without it, the rows stay
unfoldable pub on_commit : Line OnCommit
on_commit = key "on" >> (key "commit" >> commit_action) or gives Preserve

-- whether it is written
abbrev pub or_replace : Line Bool
or_replace = key "or" >> (key "replace" >> gives true) or gives false

unfoldable pub object_kind : Line ObjectKind
object_kind = key "table" >> gives Table or key "view" >> gives View or key "index" >> gives Index

-- whether it is CASCADE
abbrev pub cascaded : Line Bool
cascaded = key "restrict" >> gives false or key "cascade" >> gives true or gives false

-- what shows that a change of a column comes
abbrev pub change_begun : Line (Unit {0})
change_begun = key "type" >> ahead name or key "set" or key "drop" >> (key "default" or key "not")

abbrev pub altered_column : Line Text
altered_column = key "alter" >> (before "column" (name >> change_begun) >> name)

-- the backslash with the letters, as they are written
abbrev pub backslash : String → Line (Unit {0})
backslash letters ts u us = TakesToken (Backslash (codes letters)) ts us

-- ---- what the cases below give

-- what an UPDATE or DELETE is, by its condition and by what it returns
abbrev pub Changed : Type 0
Changed = Option Expr → List OutputItem → Statement

-- a number as it is written, with the minus directly before it
abbrev pub written_number : Numeral → Text
written_number n = if n.negative then codes "-" ++ n.digits else n.digits

-- what may stand behind a column's type: whether nulls are allowed, a default, a key
pub data Part : Type 0 where
  nulls : Bool → Part
  default : Literal → Part
  keyed : KeyKind → Part

-- parts of which a column has one at most; NULL and NOT NULL are of one kind
abbrev pub same_kind : Part → Part → Bool
same_kind (Part.nulls a) (Part.nulls b) = true
same_kind (Part.default a) (Part.default b) = true
same_kind (Part.keyed a) (Part.keyed b) = sameb the_type a b
same_kind _ _ = false

abbrev pub none_twice : List Part → Bool
none_twice [] = true
none_twice (p ∷ parts) = not (list_any (same_kind p) parts) && none_twice parts

abbrev pub nullability_of : List Part → Nullability
nullability_of [] = Unsaid
nullability_of (Part.nulls allowed ∷ parts) = if allowed then Null else NotNull
nullability_of (_ ∷ parts) = nullability_of parts

abbrev pub default_of : List Part → Option Literal
default_of [] = None
default_of (Part.default value ∷ parts) = Some value
default_of (_ ∷ parts) = default_of parts

abbrev pub keys_of : List Part → List KeyKind
keys_of [] = []
keys_of (Part.keyed kind ∷ parts) = kind ∷ keys_of parts
keys_of (_ ∷ parts) = keys_of parts

-- ---- the rules, and what each gives

pub data Rule : Type 0 where
  list_of repeated : Rule → Rule
  relation names parenthesized_names optional_names alias output item join chain from condition : Rule
  group_key group_by having sort_key order_by numeral count limit offset limits select : Rule
  returning value row insert assignment change statement : Rule
  argument arguments prepare_tree execute_tree integer motion optional_motion fetch_tree setting set_value constant : Rule
  part column_def : Bool → Rule
  element table temp_table index view action bind_tree run_tree command : Rule

abbrev pub Meaning : Rule → Type 0
Meaning (list_of rule) = List (Meaning rule)
Meaning (repeated rule) = List (Meaning rule)
Meaning relation = QName
Meaning names = List Text
Meaning parenthesized_names = List Text
Meaning optional_names = List Text
Meaning alias = Option Text
Meaning output = OutputItem
Meaning item = FromItem
Meaning join = Join
Meaning chain = FromChain
Meaning from = List FromChain
Meaning condition = Option Expr
Meaning group_key = ColumnRef
Meaning group_by = List ColumnRef
Meaning having = Option Expr
Meaning sort_key = OrderItem
Meaning order_by = List OrderItem
Meaning numeral = Numeral
Meaning count = RowCount
Meaning limit = Option RowCount
Meaning offset = Option RowCount
Meaning limits = Limits
Meaning select = Select
Meaning returning = List OutputItem
Meaning value = NewValue
Meaning row = List NewValue
Meaning insert = InsertTree
Meaning assignment = Assignment
Meaning change = Changed
Meaning statement = Statement
Meaning argument = Expr
Meaning arguments = List Expr
Meaning prepare_tree = PrepareTree
Meaning execute_tree = ExecuteTree
Meaning integer = ℤ
Meaning motion = Motion
Meaning optional_motion = Motion
Meaning fetch_tree = FetchTree
Meaning setting = Setting
Meaning set_value = SetValue
Meaning constant = Literal
Meaning (part with_keys) = Part
Meaning (column_def with_keys) = ColumnDef
Meaning element = TableElement
Meaning table = TableTree
Meaning temp_table = TempTableTree
Meaning index = IndexTree
Meaning view = ViewTree
Meaning action = AlterAction
Meaning bind_tree = BindTree
Meaning run_tree = RunTree
Meaning command = Command

pub data Spells : (rule : Rule) → Tokens → Meaning rule → Tokens → Type 0 where
  -- lists with commas between, and repetitions without
  last_one : {r : Rule} {ts us : Tokens} {y : Meaning r} {x : List (Meaning r)} → Spells r ts y us → x ≡ y ∷ [] → Spells (list_of r) ts x us
  next_one : {r : Rule} {ts a b us : Tokens} {y : Meaning r} {ys : List (Meaning r)} {x : List (Meaning r)}
      → Spells r ts y a → mark sign.Comma a tt b → Spells (list_of r) b ys us → x ≡ y ∷ ys → Spells (list_of r) ts x us
  no_more : {r : Rule} {ts us : Tokens} {x : List (Meaning r)} → x ≡ [] → us ≡ ts → Spells (repeated r) ts x us
  one_more : {r : Rule} {ts a us : Tokens} {y : Meaning r} {ys : List (Meaning r)} {x : List (Meaning r)}
      → Spells r ts y a → Spells (repeated r) a ys us → x ≡ y ∷ ys → Spells (repeated r) ts x us
  -- queries
  named_relation : {ts us : Tokens} {x : QName} → qualified ts (x.schema, x.name) us → Spells relation ts x us
  last_name : {ts us : Tokens} {n : Text} {x : List Text} → name ts n us → x ≡ n ∷ [] → Spells names ts x us
  next_name : {ts a b us : Tokens} {n : Text} {ns : List Text} {x : List Text}
      → name ts n a → mark sign.Comma a tt b → Spells names b ns us → x ≡ n ∷ ns → Spells names ts x us
  between_parentheses : {ts a b us : Tokens} {x : List Text}
      → mark sign.LeftParen ts tt a → Spells names a x b → mark sign.RightParen b tt us → Spells parenthesized_names ts x us
  no_names : {ts us : Tokens} {x : List Text} → x ≡ [] → us ≡ ts → Spells optional_names ts x us
  some_names : {ts us : Tokens} {x : List Text} → Spells parenthesized_names ts x us → Spells optional_names ts x us
  no_alias : {ts us : Tokens} {x : Option Text} → x ≡ None → us ≡ ts → Spells alias ts x us
  aliased : {ts us : Tokens} {n : Text} {x : Option Text} (is_said : Bool) (a : Tokens) → said "as" ts is_said a → name a n us → x ≡ Some n → Spells alias ts x us
  every_column : {ts us : Tokens} {x : OutputItem} → mark sign.Star ts tt us → x ≡ output_of.All → Spells output ts x us
  every_column_of : {ts a b us : Tokens} {n : Text} {x : OutputItem}
      → name ts n a → mark sign.Dot a tt b → mark sign.Star b tt us → x ≡ output_of.AllOf n → Spells output ts x us
  expression_output : {ts a us : Tokens} {y : Expr} {n : Option Text} {x : OutputItem} → expression ts y a → Spells alias a n us → x ≡ output_of.Expr y n → Spells output ts x us
  relation_item : {ts a us : Tokens} {x : FromItem} → Spells relation ts x.relation a → Spells alias a x.alias us → Spells item ts x us
  inner_joined : {ts a b c d us : Tokens} {i : FromItem} {y : Expr} {x : Join} (is_said : Bool)
      → said "inner" ts is_said a → key "join" a tt b → Spells item b i c → key "on" c tt d → expression d y us → x ≡ Inner i y → Spells join ts x us
  cross_joined : {ts a b us : Tokens} {i : FromItem} {x : Join} → key "cross" ts tt a → key "join" a tt b → Spells item b i us → x ≡ Cross i → Spells join ts x us
  chained : {ts a us : Tokens} {x : FromChain} → Spells item ts x.first a → Spells (repeated join) a x.joins us → Spells chain ts x us
  no_from : {ts us : Tokens} {x : List FromChain} → x ≡ [] → us ≡ ts → Spells from ts x us
  from_chains : {ts a us : Tokens} {x : List FromChain} → key "from" ts tt a → Spells (list_of chain) a x us → Spells from ts x us
  no_condition : {ts us : Tokens} {x : Option Expr} → x ≡ None → us ≡ ts → Spells condition ts x us
  conditioned : {ts a us : Tokens} {y : Expr} {x : Option Expr} → key "where" ts tt a → expression a y us → x ≡ Some y → Spells condition ts x us
  grouped_column : {ts us : Tokens} {x : ColumnRef} → column ts x us → Spells group_key ts x us
  ungrouped : {ts us : Tokens} {x : List ColumnRef} → x ≡ [] → us ≡ ts → Spells group_by ts x us
  grouped : {ts a b us : Tokens} {x : List ColumnRef} → key "group" ts tt a → key "by" a tt b → Spells (list_of group_key) b x us → Spells group_by ts x us
  no_having : {ts us : Tokens} {x : Option Expr} → x ≡ None → us ≡ ts → Spells having ts x us
  having_condition : {ts a us : Tokens} {y : Expr} {x : Option Expr} → key "having" ts tt a → expression a y us → x ≡ Some y → Spells having ts x us
  sorted : {ts us : Tokens} {x : OrderItem} (a b : Tokens)
      → expression ts x.expr a → descending a x.descending b → nulls_first x.descending b x.nulls_first us → Spells sort_key ts x us
  unordered : {ts us : Tokens} {x : List OrderItem} → x ≡ [] → us ≡ ts → Spells order_by ts x us
  ordered : {ts a b us : Tokens} {x : List OrderItem} → key "order" ts tt a → key "by" a tt b → Spells (list_of sort_key) b x us → Spells order_by ts x us
  plain_numeral : {ts us : Tokens} {digits : Text} {x : Numeral} → number ts digits us → x ≡ record { negative = false; digits = digits } → Spells numeral ts x us
  negative_numeral : {ts a us : Tokens} {digits : Text} {x : Numeral}
      → mark sign.Minus ts tt a → number a digits us → x ≡ record { negative = true; digits = digits } → Spells numeral ts x us
  null_count : {ts us : Tokens} {x : RowCount} → key "null" ts tt us → x ≡ count_of.Null → Spells count ts x us
  parameter_count : {ts us : Tokens} {digits : Text} {x : RowCount} → parameter ts digits us → x ≡ count_of.Param digits → Spells count ts x us
  number_count : {ts us : Tokens} {n : Numeral} {x : RowCount} → Spells numeral ts n us → x ≡ count_of.Number n → Spells count ts x us
  no_limit : {ts us : Tokens} {x : Option RowCount} → x ≡ None → us ≡ ts → Spells limit ts x us
  limit_all : {ts a us : Tokens} {x : Option RowCount} → key "limit" ts tt a → key "all" a tt us → x ≡ Some count_of.Null → Spells limit ts x us
  limited : {ts a us : Tokens} {n : RowCount} {x : Option RowCount} → key "limit" ts tt a → Spells count a n us → x ≡ Some n → Spells limit ts x us
  no_offset : {ts us : Tokens} {x : Option RowCount} → x ≡ None → us ≡ ts → Spells offset ts x us
  skipped : {ts a us : Tokens} {n : RowCount} {x : Option RowCount} → key "offset" ts tt a → Spells count a n us → x ≡ Some n → Spells offset ts x us
  limit_first : {ts a us : Tokens} {x : Limits} → Spells limit ts x.limit a → Spells offset a x.offset us → Spells limits ts x us
  offset_first : {ts a us : Tokens} {x : Limits} → Spells offset ts x.offset a → Spells limit a x.limit us → Spells limits ts x us
  selected : {ts a b c d e f g h us : Tokens} {x : Select}
      → key "select" ts tt a → distinct a x.core.distinct b → Spells (list_of output) b x.core.outputs c → Spells from c x.core.from d → Spells condition d x.core.condition e
      → Spells group_by e x.grouping.keys f → Spells having f x.grouping.having g → Spells order_by g x.order h → Spells limits h x.limits us → Spells select ts x us
  -- row changes
  returning_nothing : {ts us : Tokens} {x : List OutputItem} → x ≡ [] → us ≡ ts → Spells returning ts x us
  returning_outputs : {ts a us : Tokens} {x : List OutputItem} → key "returning" ts tt a → Spells (list_of output) a x us → Spells returning ts x us
  default_value : {ts us : Tokens} {x : NewValue} → key "default" ts tt us → x ≡ value_of.Default → Spells value ts x us
  expression_value : {ts us : Tokens} {y : Expr} {x : NewValue} → expression ts y us → x ≡ value_of.Expr y → Spells value ts x us
  row_of_values : {ts a b us : Tokens} {x : List NewValue} → mark sign.LeftParen ts tt a → Spells (list_of value) a x b → mark sign.RightParen b tt us → Spells row ts x us
  inserted : {ts a b c d e f us : Tokens} {x : InsertTree}
      → key "insert" ts tt a → key "into" a tt b → Spells relation b x.table c → Spells optional_names c x.columns d
      → key "values" d tt e → Spells (list_of row) e x.rows f → Spells returning f x.returning us → Spells insert ts x us
  assigned : {ts a b us : Tokens} {x : Assignment} → name ts x.column a → mark sign.Equal a tt b → Spells value b x.value us → Spells assignment ts x us
  updated : {ts a b c us : Tokens} {q : QName} {all : List Assignment} {x : Changed}
      → key "update" ts tt a → Spells relation a q b → key "set" b tt c → Spells (list_of assignment) c all us
      → x ≡ (λ filter given. statement_of.Update (record { table = q; assignments = all; condition = filter; returning = given })) → Spells change ts x us
  deleted : {ts a b us : Tokens} {q : QName} {x : Changed}
      → key "delete" ts tt a → key "from" a tt b → Spells relation b q us
      → x ≡ (λ filter given. statement_of.Delete (record { table = q; condition = filter; returning = given })) → Spells change ts x us
  select_statement : {ts us : Tokens} {s : Select} {x : Statement} → Spells select ts s us → x ≡ statement_of.Select s → Spells statement ts x us
  insert_statement : {ts us : Tokens} {i : InsertTree} {x : Statement} → Spells insert ts i us → x ≡ statement_of.Insert i → Spells statement ts x us
  searched_statement : {ts a b us : Tokens} {made : Changed} {filter : Option Expr} {given : List OutputItem} {x : Statement}
      → Spells change ts made a → Spells condition a filter b → Spells returning b given us → x ≡ made filter given → Spells statement ts x us
  -- prepared statements
  given_argument : {ts us : Tokens} {x : Expr} → expression ts x us → Spells argument ts x us
  no_arguments : {ts us : Tokens} {x : List Expr} → x ≡ [] → us ≡ ts → Spells arguments ts x us
  some_arguments : {ts a b us : Tokens} {x : List Expr}
      → mark sign.LeftParen ts tt a → Spells (list_of argument) a x b → mark sign.RightParen b tt us → Spells arguments ts x us
  to_prepare : {ts a b c us : Tokens} {x : PrepareTree}
      → name ts x.name a → Spells optional_names a x.types b → key "as" b tt c → Spells statement c x.statement us → Spells prepare_tree ts x us
  to_execute : {ts a us : Tokens} {x : ExecuteTree} → name ts x.name a → Spells arguments a x.arguments us → Spells execute_tree ts x us
  -- cursors
  plain_integer : {ts us : Tokens} {n : ℕ} {x : ℤ} → unsigned_integer ts n us → x ≡ pos n → Spells integer ts x us
  negative_integer : {ts a us : Tokens} {n : ℕ} {x : ℤ} → mark sign.Minus ts tt a → unsigned_integer a n us → x ≡ neg_ℤ (pos n) → Spells integer ts x us
  next_row : {ts us : Tokens} {x : Motion} → key "next" ts tt us → x ≡ moves.Next → Spells motion ts x us
  prior_row : {ts us : Tokens} {x : Motion} → key "prior" ts tt us → x ≡ moves.Prior → Spells motion ts x us
  first_row : {ts us : Tokens} {x : Motion} → key "first" ts tt us → x ≡ moves.First → Spells motion ts x us
  last_row : {ts us : Tokens} {x : Motion} → key "last" ts tt us → x ≡ moves.Last → Spells motion ts x us
  absolute : {ts a us : Tokens} {n : ℤ} {x : Motion} → key "absolute" ts tt a → Spells integer a n us → x ≡ moves.Absolute n → Spells motion ts x us
  relative : {ts a us : Tokens} {n : ℤ} {x : Motion} → key "relative" ts tt a → Spells integer a n us → x ≡ moves.Relative n → Spells motion ts x us
  counted : {ts us : Tokens} {n : ℤ} {x : Motion} → Spells integer ts n us → x ≡ moves.Count n → Spells motion ts x us
  all_rows : {ts us : Tokens} {x : Motion} → key "all" ts tt us → x ≡ moves.All → Spells motion ts x us
  forward_all : {ts a us : Tokens} {x : Motion} → key "forward" ts tt a → key "all" a tt us → x ≡ moves.ForwardAll → Spells motion ts x us
  forward_count : {ts a us : Tokens} {n : ℤ} {x : Motion} → key "forward" ts tt a → Spells integer a n us → x ≡ moves.Forward (Some n) → Spells motion ts x us
  forward : {ts us : Tokens} {x : Motion} → key "forward" ts tt us → x ≡ moves.Forward None → Spells motion ts x us
  backward_all : {ts a us : Tokens} {x : Motion} → key "backward" ts tt a → key "all" a tt us → x ≡ moves.BackwardAll → Spells motion ts x us
  backward_count : {ts a us : Tokens} {n : ℤ} {x : Motion} → key "backward" ts tt a → Spells integer a n us → x ≡ moves.Backward (Some n) → Spells motion ts x us
  backward : {ts us : Tokens} {x : Motion} → key "backward" ts tt us → x ≡ moves.Backward None → Spells motion ts x us
  some_motion : {ts us : Tokens} {x : Motion} → Spells motion ts x us → Spells optional_motion ts x us
  no_motion : {ts us : Tokens} {x : Motion} → unless direction ts tt us → x ≡ moves.Next → Spells optional_motion ts x us
  of_cursor : {ts a us : Tokens} {x : FetchTree} (o : Option (Unit {0})) (b : Tokens)
      → Spells optional_motion ts x.motion a → maybe (key "from" or key "in") a o b → name b x.cursor us → Spells fetch_tree ts x us
  -- settings
  text_setting : {ts us : Tokens} {text : Text} {x : Setting} → setting_text ts text us → x ≡ record { text = text; number = false } → Spells setting ts x us
  number_setting : {ts us : Tokens} {n : Numeral} {x : Setting} → Spells numeral ts n us → x ≡ record { text = written_number n; number = true } → Spells setting ts x us
  set_to_default : {ts us : Tokens} {x : SetValue} → key "default" ts tt us → x ≡ set_to.Default → Spells set_value ts x us
  set_to_list : {ts us : Tokens} {all : List Setting} {x : SetValue} → Spells (list_of setting) ts all us → x ≡ set_to.List all → Spells set_value ts x us
  -- the catalog
  constant_literal : {ts us : Tokens} {x : Literal} → literal ts x us → Spells constant ts x us
  negative_constant : {ts a us : Tokens} {digits : Text} {x : Literal}
      → mark sign.Minus ts tt a → number a digits us → x ≡ NumberLiteral (record { negative = true; digits = digits }) → Spells constant ts x us
  not_null_part : {with_keys : Bool} {ts a us : Tokens} {x : Part} → key "not" ts tt a → key "null" a tt us → x ≡ Part.nulls false → Spells (part with_keys) ts x us
  null_part : {with_keys : Bool} {ts us : Tokens} {x : Part} → key "null" ts tt us → x ≡ Part.nulls true → Spells (part with_keys) ts x us
  default_part : {with_keys : Bool} {ts a us : Tokens} {l : Literal} {x : Part}
      → key "default" ts tt a → Spells constant a l us → x ≡ Part.default l → Spells (part with_keys) ts x us
  primary_part : {ts a us : Tokens} {x : Part} → key "primary" ts tt a → key "key" a tt us → x ≡ Part.keyed Primary → Spells (part true) ts x us
  unique_part : {ts us : Tokens} {x : Part} → key "unique" ts tt us → x ≡ Part.keyed Unique → Spells (part true) ts x us
  column_defined : {with_keys : Bool} {ts us : Tokens} {parts : List Part} {x : ColumnDef} (a b : Tokens)
      → name ts x.name a → name a x.type_name b → Spells (repeated (part with_keys)) b parts us → none_twice parts ≡ true
      → x.nullability ≡ nullability_of parts → x.default ≡ default_of parts → x.keys ≡ keys_of parts → Spells (column_def with_keys) ts x us
  primary_element : {ts a b us : Tokens} {ns : List Text} {x : TableElement}
      → key "primary" ts tt a → key "key" a tt b → Spells parenthesized_names b ns us → x ≡ Key (record { kind = Primary; columns = ns }) → Spells element ts x us
  unique_element : {ts a us : Tokens} {ns : List Text} {x : TableElement}
      → key "unique" ts tt a → Spells parenthesized_names a ns us → x ≡ Key (record { kind = Unique; columns = ns }) → Spells element ts x us
  column_element : {ts us : Tokens} {d : ColumnDef} {x : TableElement} → Spells (column_def true) ts d us → x ≡ Column d → Spells element ts x us
  made_of_elements : {ts a b c us : Tokens} {x : TableTree}
      → Spells relation ts x.name a → mark sign.LeftParen a tt b → Spells (list_of element) b x.elements c → mark sign.RightParen c tt us → Spells table ts x us
  temporary : {ts a us : Tokens} {x : TempTableTree} → Spells table ts x.table a → on_commit a x.on_commit us → Spells temp_table ts x us
  index_defined : {ts a b c d e us : Tokens} {x : IndexTree}
      → said "unique" ts x.unique a → key "index" a tt b → name b x.name c
      → key "on" c tt d → Spells relation d x.table e → Spells parenthesized_names e x.columns us → Spells index ts x us
  view_defined : {ts a b c d e us : Tokens} {s : Select} {x : ViewTree}
      → or_replace ts x.replace a → key "view" a tt b → Spells relation b x.name c → Spells optional_names c x.columns d
      → key "as" d tt e → Spells select e s us → x.query ≡ statement_of.ViewSelect s → Spells view ts x us
  column_added : {ts a b us : Tokens} {d : ColumnDef} {x : AlterAction}
      → key "add" ts tt a → before "column" (name >> name) a tt b → Spells (column_def false) b d us → x ≡ alteration.AddColumn d → Spells action ts x us
  column_dropped : {ts a us : Tokens} {n : Text} {x : AlterAction} (b : Tokens)
      → key "drop" ts tt a → before "column" name a tt b → name b n us → x ≡ alteration.DropColumn n → Spells action ts x us
  column_renamed : {ts a c d us : Tokens} {old new : Text} {x : AlterAction} (b : Tokens)
      → key "rename" ts tt a → before "column" name a tt b → name b old c → key "to" c tt d → name d new us → x ≡ alteration.RenameColumn old new → Spells action ts x us
  table_renamed : {ts a b us : Tokens} {n : Text} {x : AlterAction} → key "rename" ts tt a → key "to" a tt b → name b n us → x ≡ alteration.RenameTo n → Spells action ts x us
  schema_set : {ts a b us : Tokens} {n : Text} {x : AlterAction} → key "set" ts tt a → key "schema" a tt b → name b n us → x ≡ alteration.SetSchema n → Spells action ts x us
  type_set : {ts b c us : Tokens} {n t : Text} {x : AlterAction} (o : Option (Unit {0})) (a : Tokens)
      → altered_column ts n a → maybe (key "set" >> key "data") a o b → key "type" b tt c → name c t us → x ≡ alteration.SetType n t → Spells action ts x us
  default_set : {ts a b c us : Tokens} {n : Text} {l : Literal} {x : AlterAction}
      → altered_column ts n a → key "set" a tt b → key "default" b tt c → Spells constant c l us → x ≡ alteration.SetDefault n l → Spells action ts x us
  default_dropped : {ts a b us : Tokens} {n : Text} {x : AlterAction}
      → altered_column ts n a → key "drop" a tt b → key "default" b tt us → x ≡ alteration.DropDefault n → Spells action ts x us
  not_null_set : {ts a b c us : Tokens} {n : Text} {x : AlterAction}
      → altered_column ts n a → key "set" a tt b → key "not" b tt c → key "null" c tt us → x ≡ alteration.SetNotNull n → Spells action ts x us
  not_null_dropped : {ts a b c us : Tokens} {n : Text} {x : AlterAction}
      → altered_column ts n a → key "drop" a tt b → key "not" b tt c → key "null" c tt us → x ≡ alteration.DropNotNull n → Spells action ts x us
  -- portals
  to_bind : {ts a us : Tokens} {x : BindTree} → name ts x.portal a → Spells execute_tree a x.execute us → Spells bind_tree ts x us
  to_run : {ts us : Tokens} {x : RunTree} (a : Tokens) → name ts x.portal a → unsigned_integer a x.count us → Spells run_tree ts x us
  -- commands: statements
  select_command : {ts us : Tokens} {s : Select} {x : Command} → Spells select ts s us → x ≡ command_of.Statement (statement_of.Select s) → Spells command ts x us
  insert_command : {ts us : Tokens} {i : InsertTree} {x : Command} → Spells insert ts i us → x ≡ command_of.Statement (statement_of.Insert i) → Spells command ts x us
  searched_command : {ts a b c us : Tokens} {made : Changed} {filter : Option Expr} {given : List OutputItem} {x : Command}
      → Spells change ts made a → unless current_of a tt b → Spells condition b filter c → Spells returning c given us
      → x ≡ command_of.Statement (made filter given) → Spells command ts x us
  positioned_command : {ts a c us : Tokens} {made : Changed} {cursor : Text} {given : List OutputItem} {x : Command} (b : Tokens)
      → Spells change ts made a → current_of a tt b → name b cursor c → Spells returning c given us
      → x ≡ command_of.Positioned (record { statement = made None given; cursor = cursor }) → Spells command ts x us
  -- commands: prepared statements
  prepared : {ts a us : Tokens} {p : PrepareTree} {x : Command} → key "prepare" ts tt a → Spells prepare_tree a p us → x ≡ command_of.Prepare p → Spells command ts x us
  executed : {ts a us : Tokens} {t : ExecuteTree} {x : Command} → key "execute" ts tt a → Spells execute_tree a t us → x ≡ command_of.Execute t → Spells command ts x us
  explained : {ts a us : Tokens} {s : Statement} {x : Command} → key "explain" ts tt a → Spells statement a s us → x ≡ command_of.Explain s → Spells command ts x us
  execute_explained : {ts a b us : Tokens} {t : ExecuteTree} {x : Command}
      → key "explain" ts tt a → key "execute" a tt b → Spells execute_tree b t us → x ≡ command_of.ExplainExecute t → Spells command ts x us
  deallocating : {ts a us : Tokens} {x : Command} (b : Tokens) → key "deallocate" ts tt a → before "prepare" deallocated a tt b → deallocated b x us → Spells command ts x us
  plans_discarded : {ts a us : Tokens} {x : Command} → key "discard" ts tt a → key "plans" a tt us → x ≡ command_of.DiscardPlans → Spells command ts x us
  temp_discarded : {ts a us : Tokens} {x : Command} → key "discard" ts tt a → (key "temp" or key "temporary") a tt us → x ≡ command_of.DiscardTemp → Spells command ts x us
  -- commands: cursors
  declared : {ts a c d e f us : Tokens} {n : Text} {held : Bool} {s : Select} {x : Command} (written : List CursorOptions) (b : Tokens)
      → key "declare" ts tt a → name a n b → many cursor_option b written c → key "cursor" c tt d → hold d held e → key "for" e tt f → Spells select f s us
      → x ≡ command_of.Declare (record { name = n; options = gathered written; hold = held; query = statement_of.Select s }) → Spells command ts x us
  fetched : {ts a us : Tokens} {f : FetchTree} {x : Command} → key "fetch" ts tt a → Spells fetch_tree a f us → x ≡ command_of.Fetch f → Spells command ts x us
  moved : {ts a us : Tokens} {f : FetchTree} {x : Command} → key "move" ts tt a → Spells fetch_tree a f us → x ≡ command_of.Move f → Spells command ts x us
  all_closed : {ts a us : Tokens} {x : Command} → key "close" ts tt a → key "all" a tt us → x ≡ command_of.CloseAll → Spells command ts x us
  closed : {ts a us : Tokens} {n : Text} {x : Command} → key "close" ts tt a → name a n us → x ≡ command_of.Close n → Spells command ts x us
  -- commands: blocks
  begun : {ts a us : Tokens} {x : Command} (o : Option (Unit {0})) → key "begin" ts tt a → work a o us → x ≡ command_of.Begin → Spells command ts x us
  started : {ts a us : Tokens} {x : Command} → key "start" ts tt a → key "transaction" a tt us → x ≡ command_of.StartTransaction → Spells command ts x us
  committed : {ts a us : Tokens} {x : Command} (o : Option (Unit {0})) → key "commit" ts tt a → work a o us → x ≡ command_of.Commit → Spells command ts x us
  ended : {ts a us : Tokens} {x : Command} (o : Option (Unit {0})) → key "end" ts tt a → work a o us → x ≡ command_of.Commit → Spells command ts x us
  rolled_back : {ts a us : Tokens} {x : Command} (o : Option (Unit {0})) → key "rollback" ts tt a → work a o us → x ≡ command_of.Rollback → Spells command ts x us
  aborted : {ts a us : Tokens} {x : Command} (o : Option (Unit {0})) → key "abort" ts tt a → work a o us → x ≡ command_of.Rollback → Spells command ts x us
  rolled_back_to : {ts a b c us : Tokens} {n : Text} {x : Command} (o : Option (Unit {0}))
      → key "rollback" ts tt a → work a o b → key "to" b tt c → savepoint_name c n us → x ≡ command_of.RollbackTo n → Spells command ts x us
  savepoint_set : {ts a us : Tokens} {n : Text} {x : Command} → key "savepoint" ts tt a → name a n us → x ≡ command_of.Savepoint n → Spells command ts x us
  released : {ts a us : Tokens} {n : Text} {x : Command} → key "release" ts tt a → savepoint_name a n us → x ≡ command_of.Release n → Spells command ts x us
  -- commands: settings
  setting_set : {ts a d us : Tokens} {local : Bool} {n : Text} {v : SetValue} {x : Command} (b c : Tokens)
      → key "set" ts tt a → scope a local b → name b n c → (key "to" or mark sign.Equal) c tt d → Spells set_value d v us
      → x ≡ command_of.Set (record { name = n; local = local; value = v }) → Spells command ts x us
  setting_reset : {ts a us : Tokens} {n : Text} {x : Command} → key "reset" ts tt a → name a n us → x ≡ command_of.Reset n → Spells command ts x us
  setting_shown : {ts a us : Tokens} {n : Text} {x : Command} → key "show" ts tt a → name a n us → x ≡ command_of.Show n → Spells command ts x us
  -- commands: the catalog
  schema_created : {ts a b us : Tokens} {n : Text} {x : Command}
      → key "create" ts tt a → key "schema" a tt b → name b n us → x ≡ command_of.Schema (schema.Create n) → Spells command ts x us
  table_created : {ts a b us : Tokens} {t : TableTree} {x : Command}
      → key "create" ts tt a → key "table" a tt b → Spells table b t us → x ≡ command_of.CreateTable t → Spells command ts x us
  temp_table_created : {ts a b c us : Tokens} {t : TempTableTree} {x : Command}
      → key "create" ts tt a → (key "temp" or key "temporary") a tt b → key "table" b tt c → Spells temp_table c t us
      → x ≡ command_of.CreateTempTable t → Spells command ts x us
  index_created : {ts a us : Tokens} {i : IndexTree} {x : Command} → key "create" ts tt a → Spells index a i us → x ≡ command_of.CreateIndex i → Spells command ts x us
  view_created : {ts a us : Tokens} {v : ViewTree} {x : Command} → key "create" ts tt a → Spells view a v us → x ≡ command_of.CreateView v → Spells command ts x us
  schema_dropped : {ts a b us : Tokens} {n : Text} {x : Command}
      → key "drop" ts tt a → key "schema" a tt b → name b n us → x ≡ command_of.Schema (schema.Drop n) → Spells command ts x us
  object_dropped : {ts a b c us : Tokens} {k : ObjectKind} {q : QName} {cascade : Bool} {x : Command}
      → key "drop" ts tt a → object_kind a k b → Spells relation b q c → cascaded c cascade us
      → x ≡ command_of.Drop (record { kind = k; name = q; cascade = cascade }) → Spells command ts x us
  truncated : {ts a b us : Tokens} {q : QName} {x : Command} (is_said : Bool)
      → key "truncate" ts tt a → said "table" a is_said b → Spells relation b q us → x ≡ command_of.Truncate q → Spells command ts x us
  table_analyzed : {ts a us : Tokens} {q : QName} {x : Command} → key "analyze" ts tt a → Spells relation a q us → x ≡ command_of.Analyze (Some q) → Spells command ts x us
  all_analyzed : {ts us : Tokens} {x : Command} → key "analyze" ts tt us → x ≡ command_of.Analyze None → Spells command ts x us
  schema_renamed : {ts a b c d e us : Tokens} {old new : Text} {x : Command}
      → key "alter" ts tt a → key "schema" a tt b → name b old c → key "rename" c tt d → key "to" d tt e → name e new us
      → x ≡ command_of.Schema (schema.Rename old new) → Spells command ts x us
  table_altered : {ts a b c us : Tokens} {q : QName} {y : AlterAction} {x : Command}
      → key "alter" ts tt a → key "table" a tt b → Spells relation b q c → Spells action c y us
      → x ≡ command_of.AlterTable (record { table = q; action = y }) → Spells command ts x us
  -- commands: backslash lines
  prepared_shown : {ts us : Tokens} {x : Command} → backslash "prepared" ts tt us → x ≡ command_of.ShowPrepared → Spells command ts x us
  cursors_shown : {ts us : Tokens} {x : Command} → backslash "cursors" ts tt us → x ≡ command_of.ShowCursors → Spells command ts x us
  synchronized : {ts us : Tokens} {x : Command} → backslash "sync" ts tt us → x ≡ command_of.Sync → Spells command ts x us
  parsed : {ts a us : Tokens} {p : PrepareTree} {x : Command} → backslash "parse" ts tt a → Spells prepare_tree a p us → x ≡ command_of.Parse p → Spells command ts x us
  bound : {ts a us : Tokens} {p : BindTree} {x : Command} → backslash "bind" ts tt a → Spells bind_tree a p us → x ≡ command_of.Bind p → Spells command ts x us
  portal_run : {ts a us : Tokens} {p : RunTree} {x : Command} → backslash "run" ts tt a → Spells run_tree a p us → x ≡ command_of.Run p → Spells command ts x us
  portal_ended : {ts a us : Tokens} {n : Text} {x : Command} → backslash "end" ts tt a → name a n us → x ≡ command_of.EndPortal n → Spells command ts x us

-- the tokens, all of them, spell the command
abbrev pub SpellsAll : List Token → Command → Type 0
SpellsAll tokens c = Spells command tokens c []

-- what a list of tokens is read as: the command that it spells, or its first refusal; that of a load past 200 comes first
abbrev pub IsRead : List Token → Result Command SqlError → Type 0
IsRead tokens (Ok c) = (load_of tokens ≤ 200) × SpellsAll tokens c
IsRead tokens (Err error) =
    ((200 < load_of tokens) × (error ≡ record { code = StackDepthExceeded; args = [] }))
    ⊎ ((load_of tokens ≤ 200) × ((c : Command) → ¬ SpellsAll tokens c) × (error ≡ record { code = SyntaxError; args = [] }))
