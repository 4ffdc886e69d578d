-- The tags that commands print.
use Rattle.std.specs.Prelude.{ℕ, Bool, true, false, List, [], ◌++◌, codes}
use Rattle.std.specs.Fmt.{decimal}
use Rattle.result_text.specs.declared.tags.Tag.{Tag}
use Rattle.result_text.specs.declared.tags.Tag.TheVariants as tag
use Rattle.result_text.specs.declared.tags.TagKind.{TagKind}
use Rattle.result_text.specs.declared.tags.TagKind.TheVariants as kind

-- the words that a tag begins with
abbrev pub words : Tag → List ℕ
words tag.Prepare = codes "PREPARE"
words tag.Deallocate = codes "DEALLOCATE"
words tag.DeallocateAll = codes "DEALLOCATE ALL"
words tag.DiscardPlans = codes "DISCARD PLANS"
words tag.DiscardTemp = codes "DISCARD TEMP"
words tag.DeclareCursor = codes "DECLARE CURSOR"
words tag.CloseCursor = codes "CLOSE CURSOR"
words tag.CloseCursorAll = codes "CLOSE CURSOR ALL"
words tag.Move = codes "MOVE "
words tag.Begin = codes "BEGIN"
words tag.StartTransaction = codes "START TRANSACTION"
words tag.Commit = codes "COMMIT"
words tag.Rollback = codes "ROLLBACK"
words tag.Savepoint = codes "SAVEPOINT"
words tag.Release = codes "RELEASE"
words tag.Set = codes "SET"
words tag.Reset = codes "RESET"
words tag.Insert = codes "INSERT 0 "
words tag.Update = codes "UPDATE "
words tag.Delete = codes "DELETE "
words (tag.Create object) = codes "CREATE "
words (tag.Alter object) = codes "ALTER "
words (tag.Drop object) = codes "DROP "
words tag.Truncate = codes "TRUNCATE TABLE"
words tag.Analyze = codes "ANALYZE"
words tag.Parse = codes "PARSE"
words tag.Bind = codes "BIND"
words tag.Suspended = codes "SUSPENDED"
words tag.Complete = codes "COMPLETE"
words tag.End = codes "END"
words tag.Sync = codes "SYNC"

abbrev pub kind_word : TagKind → List ℕ
kind_word kind.Schema = codes "SCHEMA"
kind_word kind.Table = codes "TABLE"
kind_word kind.View = codes "VIEW"
kind_word kind.Index = codes "INDEX"

-- the kind behind CREATE, ALTER and DROP
abbrev pub behind_words : Tag → List ℕ
behind_words (tag.Create object) = kind_word object
behind_words (tag.Alter object) = kind_word object
behind_words (tag.Drop object) = kind_word object
behind_words _ = []

-- the number of rows stands behind the words
abbrev pub has_count : Tag → Bool
has_count tag.Move = true
has_count tag.Insert = true
has_count tag.Update = true
has_count tag.Delete = true
has_count _ = false

abbrev pub count_behind : Bool → ℕ → List ℕ
count_behind true count = decimal count
count_behind false count = []

-- the line of a tag
unfoldable pub tag_line : Tag → ℕ → List ℕ
tag_line t count = words t ++ behind_words t ++ count_behind (has_count t) count ++ codes "\n"
