-- The laws of a run as a feed of rows.
use Rattle.std.specs.Prelude.{◌≡◌, ◌↔◌, ℕ, suc, zero, Bool, true, false, if◌then◌else◌, Option, None, Some, Result, Ok, Err, List, [], ◌∷◌, map, take}
use Rattle.std.proofs.Common.{refl, ap, ◌∙◌}
use Rattle.std.proofs.Math.Path.{fun_ext}
use Rattle.q_base.specs.declared.code.Code.{Code}
use Rattle.q_value.specs.declared.value.Value.{Value}
use Rattle.q_value.specs.Feed.{EndsAtFault}
use Rattle.query_tree.specs.declared.target.Target.{Target}
use Rattle.executor.specs.declared.cut.Window.{Window}
use Rattle.executor.specs.declared.cut.Window.TheVariants as window
use Rattle.executor.specs.declared.run.Run.{Run}
use Rattle.executor.specs.declared.stores.Stores.{Stores}
use Rattle.executor.specs.Cuts.{skipped, first_rows, windowed}
use Rattle.executor.specs.Lists.{Rows, before, projected, values_from}
use Rattle.executor.specs.Rest.{rest_of}
use Rattle.executor.specs.Runs.{run_rest, projection, outcome_of, AreAlike, FitsAll}
use Rattle.executor.specs.Scans.{Scan, Along, scan_of, along_of}

with_scan : (run : Run) (scan scan2 : Scan) (along : Along) → scan ≡ scan2 → rest_of scan along run.params run.state ≡ rest_of scan2 along run.params run.state
with_scan run scan scan2 along e = ap (λ (s : Scan). rest_of s along run.params run.state) e

with_along : (run : Run) (scan : Scan) (along along2 : Along) → along ≡ along2 → rest_of scan along run.params run.state ≡ rest_of scan along2 run.params run.state
with_along run scan along along2 e = ap (λ (a : Along). rest_of scan a run.params run.state) e

pub same_rest : (run : Run) (p q : Stores) → AreAlike run p q → run_rest run p ≡ run_rest run q
same_rest run p q alike =
    ap (λ (rows : Rows). if run.ended then [] else map outcome_of (windowed run.window (projected run.targets run.params rows)))
    (with_scan run (scan_of p run.snap) (scan_of q run.snap) (along_of p run.snap) (fun_ext (λ table. fun_ext (λ from. alike.rows table from)))
    ∙ with_along run (scan_of q run.snap) (along_of p run.snap) (along_of q run.snap) (fun_ext (λ table. fun_ext (λ index. fun_ext (λ range. fun_ext (λ last. alike.along table index range last))))))

pub same_fits : (run : Run) (p q : Stores) → AreAlike run p q → (FitsAll run p ↔ FitsAll run q)
same_fits run p q alike = ((λ fits. fits), (λ fits. fits))

-- a fault stands only as the last
abbrev Ends : Rows → Type 0
Ends [] = Unit {0}
Ends (Ok found ∷ more) = Ends more
Ends (Err code ∷ more) = more ≡ []

before_ends : {A : Type 0} (found : Result A Code) (rows : A → Rows) → ((a : A) → Ends (rows a)) → Ends (before found rows)
before_ends (Ok a) rows all = all a
before_ends (Err code) rows all = refl

projected_ends : (targets : List Target) (params : List Value) (rows : Rows) → Ends (projected targets params rows)
projected_ends targets params [] = tt
projected_ends targets params (Ok found ∷ more) = before_ends (values_from [] targets found.row params) (λ row. Ok (record { row = row; slot = found.slot }) ∷ projected targets params more) (λ row. projected_ends targets params more)
projected_ends targets params (Err code ∷ more) = refl

skipped_ends : (n : ℕ) (rows : Rows) → Ends rows → Ends (skipped n rows)
skipped_ends zero rows ends = ends
skipped_ends (suc n) [] ends = tt
skipped_ends (suc n) (Ok found ∷ more) ends = skipped_ends n more ends
skipped_ends (suc n) (Err code ∷ more) ends = refl

take_none : (n : ℕ) → (let none : Rows = [] in take n none ≡ none)
take_none zero = refl
take_none (suc n) = refl

taken_ends : (n : ℕ) (rows : Rows) → Ends rows → Ends (take n rows)
taken_ends zero rows ends = tt
taken_ends (suc n) [] ends = tt
taken_ends (suc n) (Ok found ∷ more) ends = taken_ends n more ends
taken_ends (suc n) (Err code ∷ more) ends = ap (λ (rows : Rows). take n rows) ends ∙ take_none n

first_ends : (count : Option ℕ) (rows : Rows) → Ends rows → Ends (first_rows count rows)
first_ends None rows ends = ends
first_ends (Some n) rows ends = taken_ends n rows ends

windowed_ends : (cut : Window) (rows : Rows) → Ends rows → Ends (windowed cut rows)
windowed_ends (window.Fault code) rows ends = refl
windowed_ends (window.Rows skip count) rows ends = first_ends count (skipped skip rows) (skipped_ends skip rows ends)

outcomes_end : (rows : Rows) → Ends rows → EndsAtFault (map outcome_of rows)
outcomes_end [] ends = tt
outcomes_end (Ok found ∷ more) ends = outcomes_end more ends
outcomes_end (Err code ∷ more) ends = ap (map outcome_of) ends

pub faults_last : (run : Run) (p : Stores) → FitsAll run p → EndsAtFault (run_rest run p)
faults_last run p fits = go run.ended (outcomes_end (windowed run.window (projection run p)) (windowed_ends run.window (projection run p) (projected_ends run.targets run.params _)))
  where
    go : (ended : Bool) → EndsAtFault (map outcome_of (windowed run.window (projection run p))) → EndsAtFault (if ended then [] else map outcome_of (windowed run.window (projection run p)))
    go true ends = tt
    go false ends = ends
