-- What the items of a query name.
use Rattle.std.specs.Prelude.{ℕ, Option, List, map, length, take, option_map}
use Rattle.std.specs.List.{flat_map}
use Rattle.q_base.specs.declared.ids.ObjId.{ObjId}
use Rattle.q_value.specs.declared.value.SqlType.{SqlType}
use Rattle.query_tree.specs.declared.query.Relation.{Relation}
use Rattle.query_tree.specs.declared.query.Item.{Item, out-Item}
use Rattle.query_tree.specs.declared.query.Item.TheOpen.{Item-F}
use Rattle.query_tree.specs.declared.query.Query.{Query}

abbrev pub head_relation : {A B : Type 0} → Item-F A B → Relation
head_relation (Item-F.Table relation) = relation
head_relation (Item-F.View relation) = relation
head_relation (Item-F.Derived relation block) = relation

-- the table or view that an item names
abbrev pub relation_of : Item → Relation
relation_of item = head_relation (out-Item item)

-- the ids of the items, in order
abbrev pub ids_of : Query → List ObjId
ids_of query = map (λ item. (relation_of item).id) query.items
