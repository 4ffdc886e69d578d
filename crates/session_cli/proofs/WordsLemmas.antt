-- The values that a parse found, by the rows of its entries.
use Rattle.std.proofs.Common.{◌≡◌, ℕ, Bool, true, false, cond, List, [], ◌∷◌, Option, Some, map, option_map, slice_get, find, refl, sym}
use Rattle.std.proofs.lemmas.Option.{slice_get-map}
use Rattle.std.specs.Option.{option_and_then}
use Rattle.std.specs.Str.{bytes_eq}
use Rattle.clap.specs.Facts.{Entry}
use Rattle.clap.specs.Words.{Row, first_of, first_value}
use Rattle.clap.specs.Walk.{row_of, rows_of}
use Rattle.clap.specs.declared.parser.matches.Found.{Found}
use Rattle.clap.specs.declared.parser.matches.MatchedArg.{MatchedArg}

-- the first value of an entry, where one was found
abbrev value_in : Option MatchedArg → Option (List ℕ)
value_in found = option_and_then (λ (a : MatchedArg). option_map (λ s. s.now) (slice_get a.vals.items 0)) found

abbrev first_in_row : Option Row → Option (List ℕ)
first_in_row found = option_and_then (λ (r : Row). slice_get r.values 0) found

in_entries : (entries : List Entry) (id : List ℕ) → value_in (option_map (λ (e : Entry). e.1) (find (λ (e : Entry). bytes_eq e.0.now id) entries)) ≡ first_in_row (find (λ (r : Row). bytes_eq r.id id) (map row_of entries))
in_entries [] id = refl
in_entries (e ∷ entries) id = by (bytes_eq e.0.now id) (in_entries entries id)
  where
    by : (b : Bool) → value_in (option_map (λ (x : Entry). x.1) (find (λ (x : Entry). bytes_eq x.0.now id) entries)) ≡ first_in_row (find (λ (r : Row). bytes_eq r.id id) (map row_of entries))
        → value_in (option_map (λ (x : Entry). x.1) (cond b (Some e) (find (λ (x : Entry). bytes_eq x.0.now id) entries))) ≡ first_in_row (cond b (Some (row_of e)) (find (λ (r : Row). bytes_eq r.id id) (map row_of entries)))
    by true rest = sym (slice_get-map (λ s. s.now) e.1.vals.items 0)
    by false rest = rest

pub first_value_of_rows : (f : Found) (id : List ℕ) → first_value f id ≡ first_of id (rows_of f)
first_value_of_rows f id = in_entries f.entries.items id
