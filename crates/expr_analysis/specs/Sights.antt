-- What an expression sees.
use Rattle.std.specs.Prelude.{ℕ, List}
use Rattle.expr_analysis.specs.declared.scope.Scope.{Scope}
use Rattle.expr_analysis.specs.declared.scope.ScopeItem.{ScopeItem}

-- the items from a number on, and how long a row of all items of the query is
pub record Sight : Type 0 where
  pub first : ℕ
  pub items : List ScopeItem
  pub width : ℕ

abbrev pub sight : Scope → Sight
sight scope = record { first = scope.first; items = scope.items.now; width = scope.width }
