-- Surroundings in which the relation names mean what was found.
use Rattle.std.proofs.Common.{◌≡◌, List, [], ◌∷◌, Result, Ok, Err, refl, sym, subst}
use Rattle.q_base.specs.declared.errors.SqlError.{SqlError}
use Rattle.q_base.specs.declared.errors.Stop.{Stop}
use Rattle.q_base.specs.declared.errors.Stop.TheVariants.{Sql, NoMemory}
use Rattle.q_base.specs.declared.code.Code.TheVariants.{SyntaxError}
use Rattle.q_value.specs.Conversions.{plain}
use Rattle.sql_tree.specs.declared.names.QName.{QName}
use Rattle.sql_tree.specs.declared.select.FromChain.{FromChain}
use Rattle.expr_analysis.specs.declared.scope.ScopeItem.{ScopeItem}
use Rattle.expr_analysis.specs.Nodes.{go_on}
use Rattle.analyzer.specs.declared.assignments.Changed.{Changed}
use Rattle.analyzer.specs.declared.statements.Analysed.{Analysed}
use Rattle.analyzer.specs.Statements.{Found, AnalysedAs, Surroundings, items_in, Follows}

abbrev with_items : Result (List ScopeItem) SqlError → Result Changed SqlError → Surroundings
with_items items changed = record { items = λ _. items; changed = λ _. changed }

no_table : Result Changed SqlError
no_table = Err (plain SyntaxError)

pub over_items : (from : List FromChain) (f : List ScopeItem → Result Found SqlError) (found : Result (List ScopeItem) Stop) (result : Result Analysed Stop)
    → (from ≡ [] → found ≡ Ok []) → Follows f found result
    → (place : Surroundings) × AnalysedAs (go_on (items_in place from) f) result
over_items [] f found result plain follows = (with_items (Ok []) no_table, subst (λ r. Follows f r result) (plain refl) follows)
over_items (chain ∷ chains) f (Ok items) result plain follows = (with_items (Ok items) no_table, follows)
over_items (chain ∷ chains) f (Err (Sql error)) result plain follows = (with_items (Err error) no_table, subst (λ r. AnalysedAs (Err error) r) (sym follows) refl)
over_items (chain ∷ chains) f (Err NoMemory) result plain follows = (with_items (Ok []) no_table, subst (λ r. AnalysedAs (f []) r) (sym follows) tt)

-- the items of FROM as it is written, where what was read is the same
pub over_written : (written from : List FromChain) (f : List ScopeItem → Result Found SqlError) (found : Result (List ScopeItem) Stop) (result : Result Analysed Stop)
    → from ≡ written → (from ≡ [] → found ≡ Ok []) → Follows f found result
    → (place : Surroundings) × AnalysedAs (go_on (items_in place written) f) result
over_written written from f found result same plain follows =
    subst (λ w. (place : Surroundings) × AnalysedAs (go_on (items_in place w) f) result) same (over_items from f found result plain follows)

pub over_changed : (name : QName) (f : Changed → Result Found SqlError) (found : Result Changed Stop) (result : Result Analysed Stop)
    → Follows f found result → (place : Surroundings) × AnalysedAs (go_on (place.changed name) f) result
over_changed name f (Ok changed) result follows = (with_items (Ok []) (Ok changed), follows)
over_changed name f (Err (Sql error)) result follows = (with_items (Ok []) (Err error), subst (λ r. AnalysedAs (Err error) r) (sym follows) refl)
over_changed name f (Err NoMemory) result follows = (with_items (Ok []) no_table, subst (λ r. AnalysedAs (go_on no_table f) r) (sym follows) tt)
