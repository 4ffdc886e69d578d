-- The lines of a plan.
use Rattle.std.specs.Prelude.{ℕ, Bool, true, false, Option, None, Some, List, [], ◌++◌, codes, if◌then◌else◌}
use Rattle.std.specs.Fmt.{decimal}
use Rattle.std.specs.Str.{bytes_eq}
use Rattle.query_tree.specs.declared.query.Relation.{Relation}
use Rattle.query_tree.specs.declared.query.Item.{Item}
use Rattle.plan_tree.specs.declared.node.Estimate.{Estimate}
use Rattle.plan_tree.specs.declared.node.Scan.{Scan}
use Rattle.plan_tree.specs.Expressions.{relation_at}

-- the cost and the rows, and the end of the line
abbrev pub estimate_text : Estimate → List ℕ
estimate_text estimate = codes "  (cost=" ++ decimal estimate.cost ++ codes " rows=" ++ decimal estimate.rows ++ codes ")\n"

abbrev pub behind_name : List ℕ → Option (List ℕ) → List ℕ
behind_name name None = []
behind_name name (Some alias) = if bytes_eq alias name then [] else codes " " ++ alias

-- the name of a relation, and its alias where it is another
abbrev pub relation_text : Relation → List ℕ
relation_text relation = relation.name ++ behind_name relation.name relation.alias

abbrev pub scanned : Option Relation → List ℕ
scanned None = []
scanned (Some relation) = relation_text relation

abbrev pub scan_text : List ℕ → List Item → Scan → List ℕ
scan_text kind items scan = kind ++ codes " on " ++ scanned (relation_at items scan.item)

abbrev pub name_of : Option Relation → List ℕ
name_of None = []
name_of (Some relation) = relation.name

abbrev pub changed_text : List ℕ → List Item → List ℕ
changed_text kind items = kind ++ name_of (relation_at items 0)

abbrev pub index_label : Bool → List ℕ
index_label true = codes "Index Cond: "
index_label false = codes "Filter: "
