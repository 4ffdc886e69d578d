-- Definitions of columns are read exactly where they are spelt.
use Rattle.std.proofs.Common.{◌≡◌, ◌⊎◌, inl, inr, ℕ, zero, suc, ◌≤◌, Bool, true, false, cond, not, ◌&&◌, List, [], ◌∷◌, length, Option, Some, None, refl, sym, ap, subst, ◌∙◌, arith}
use Rattle.sql_tree.specs.declared.catalog.ColumnDef.{ColumnDef}
use Rattle.sql_expr.specs.Reading.{Text, Tokens, Outcome, Parser, pure, refuse, goes_on}
use Rattle.sql_expr.specs.Lines.{Line, gives, many}
use Rattle.sql_expr.specs.Lines as lines
use Rattle.sql_reader_catalog.specs.declared.columns.Part.{Part}
use Rattle.sql_reader_catalog.specs.Columns as spec
use Rattle.sql_reader.specs.Grammar as grammar
use Rattle.sql_expr.proofs.LineWords as words
use Rattle.sql_expr.proofs.Heads.{Head, clear}
use Rattle.sql_expr.proofs.Agreement.{Agrees, bind_some, same_value, same_rest, same_read, read_then, agrees-bind}
use Rattle.sql_expr.proofs.ExpressionAgreement.{agrees-name}
use Rattle.sql_reader.proofs.CommandLines as line
use Rattle.sql_reader.proofs.KeywordAgreement.{anything, begins-anything}
use Rattle.sql_reader.proofs.PartAgreement.{Read, part_words, part-sound, part-known, part-takes, part-none}
use Rattle.sql_reader.proofs.PartLemmas.{defined, meant, fitting, with_parts, not-repeated, later-fit, fitting-bare, with-bare}

-- ---- the next part

-- what was read of a part that has to be new
abbrev New : Bool → ColumnDef → Tokens → Option Part → Tokens → Type 0
New with_keys def ts found us =
    ((p : grammar.Part) × (found ≡ Some (meant p)) × line.part with_keys ts p us × (spec.repeats (meant p) def ≡ false)) ⊎ ((found ≡ None) × (us ≡ ts))

abbrev if_new : ColumnDef → Part → Parser (Option Part)
if_new def = λ p. cond (spec.repeats p def) refuse (pure (Some p))

next-fresh : (with_keys : Bool) (def : ColumnDef) (ts : Tokens) (p : grammar.Part) (middle : Tokens) (found : Option Part) (us : Tokens) → line.part with_keys ts p middle
    → (r : Bool) → spec.repeats (meant p) def ≡ r → cond {A = Parser (Option Part)} r refuse (pure (Some (meant p))) middle ≡ Some (found, us) → New with_keys def ts found us
next-fresh with_keys def ts p middle found us front true new read = cc
next-fresh with_keys def ts p middle found us front false new read =
    inl (p, same_value (Some (meant p)) found middle us read, subst (λ vs. line.part with_keys ts p vs) (sym (same_rest (Some (meant p)) found middle us read)) front, new)

next-by : (with_keys : Bool) (def : ColumnDef) (ts : Tokens) (first : Option Part) (middle : Tokens) (found : Option Part) (us : Tokens)
    → goes_on first (if_new def) None middle ≡ Some (found, us) → Read with_keys ts first middle → New with_keys def ts found us
next-by with_keys def ts first middle found us read (inl (p, same, front)) =
    next-fresh with_keys def ts p middle found us front (spec.repeats (meant p) def) refl (subst (λ o. goes_on o (if_new def) None middle ≡ Some (found, us)) same read)
next-by with_keys def ts first middle found us read (inr (none, end)) =
    let last = subst (λ o. goes_on o (if_new def) None middle ≡ Some (found, us)) none read in
    inr (same_value None found middle us last, same_rest None found middle us last ∙ end)

next-sound : (with_keys : Bool) (def : ColumnDef) (ts : Tokens) (found : Option Part) (us : Tokens) → spec.next_part with_keys def ts ≡ Some (found, us) → New with_keys def ts found us
unfolding spec.next_part
next-sound with_keys def ts found us read =
    let parts = bind_some (spec.part with_keys ts) (λ o. goes_on o (if_new def) None) found us read in
    next-by with_keys def ts parts.a parts.middle found us parts.ended (part-sound with_keys ts parts.a parts.middle parts.begun)

next-known : (with_keys : Bool) (def : ColumnDef) (ts : Tokens) (p : grammar.Part) (us : Tokens) → line.part with_keys ts p us → spec.repeats (meant p) def ≡ false
    → spec.next_part with_keys def ts ≡ Some (Some (meant p), us)
unfolding spec.next_part
next-known with_keys def ts p us front new =
    read_then (λ o. goes_on o (if_new def) None) (Some (meant p)) us (part-known with_keys ts p us front) (ap (λ r. cond {A = Parser (Option Part)} r refuse (pure (Some (meant p))) us) new)

next-none : (with_keys : Bool) (def : ColumnDef) (ts : Tokens) → clear part_words ts ≡ true → spec.next_part with_keys def ts ≡ Some (None, ts)
unfolding spec.next_part
next-none with_keys def ts c = read_then (λ o. goes_on o (if_new def) None) None ts (part-none with_keys ts c) refl

-- ---- all parts

-- what was read of a definition's parts
record Said (with_keys : Bool) (def : ColumnDef) (ts : Tokens) (whole : ColumnDef) (us : Tokens) : Type 0 where
  parts : List grammar.Part
  spelt : many (line.part with_keys) ts parts us
  fit : fitting def parts ≡ true
  same : whole ≡ with_parts def parts

abbrev goes : Bool → ℕ → ColumnDef → Option Part → Parser ColumnDef
goes with_keys turns def = λ found. goes_on found (λ p. spec.parts_from with_keys turns (spec.with_part p def)) def

said-none : (with_keys : Bool) (def : ColumnDef) (ts : Tokens) (whole : ColumnDef) (us middle : Tokens) → middle ≡ ts → ◌≡◌ {A = Outcome ColumnDef} (Some (def, middle)) (Some (whole, us)) → Said with_keys def ts whole us
said-none with_keys def ts whole us middle end read = record {
  parts = [];
  spelt = same_rest def whole middle us read ∙ end;
  fit = refl;
  same = same_value def whole middle us read;
}

said-more : (with_keys : Bool) (def : ColumnDef) (ts : Tokens) (whole : ColumnDef) (us : Tokens) (p : grammar.Part) (middle : Tokens) → line.part with_keys ts p middle
    → spec.repeats (meant p) def ≡ false → Said with_keys (spec.with_part (meant p) def) middle whole us → Said with_keys def ts whole us
said-more with_keys def ts whole us p middle front new s = record {
  parts = p ∷ s.parts;
  spelt = (middle, front, s.spelt);
  fit = ap (λ r. not r && fitting (spec.with_part (meant p) def) s.parts) new ∙ s.fit;
  same = s.same;
}

said-from : (with_keys : Bool) (turns : ℕ) (def : ColumnDef) (ts : Tokens) (whole : ColumnDef) (us : Tokens) → spec.parts_from with_keys turns def ts ≡ Some (whole, us) → Said with_keys def ts whole us
unfolding spec.parts_from
said-from with_keys zero def ts whole us read = said-none with_keys def ts whole us ts refl read
said-from with_keys (suc turns) def ts whole us read =
    let found = bind_some (spec.next_part with_keys def ts) (goes with_keys turns def) whole us read in
    by found.a found.middle found.ended (next-sound with_keys def ts found.a found.middle found.begun) (λ p. said-from with_keys turns (spec.with_part (meant p) def) found.middle whole us)
  where
    by : (o : Option Part) (middle : Tokens) → goes with_keys turns def o middle ≡ Some (whole, us) → New with_keys def ts o middle
        → ((p : grammar.Part) → spec.parts_from with_keys turns (spec.with_part (meant p) def) middle ≡ Some (whole, us) → Said with_keys (spec.with_part (meant p) def) middle whole us)
        → Said with_keys def ts whole us
    by o middle rest (inl (p, same, front, new)) later = said-more with_keys def ts whole us p middle front new (later p (subst (λ f. goes with_keys turns def f middle ≡ Some (whole, us)) same rest))
    by o middle rest (inr (none, end)) later = said-none with_keys def ts whole us middle end (subst (λ f. goes with_keys turns def f middle ≡ Some (whole, us)) none rest)

reads-from : (with_keys : Bool) (turns : ℕ) (def : ColumnDef) (ts : Tokens) (parts : List grammar.Part) (us : Tokens) → length ts ≤ turns → many (line.part with_keys) ts parts us
    → fitting def parts ≡ true → clear part_words us ≡ true → spec.parts_from with_keys turns def ts ≡ Some (with_parts def parts, us)
unfolding spec.parts_from
reads-from with_keys zero def ts [] us enough spelt fit c = ap (λ vs. Some (def, vs)) (sym spelt)
reads-from with_keys zero def ts (p ∷ parts) us enough spelt fit c = let some = part-takes with_keys ts p spelt.0 spelt.1 in absurd (omega arith)
reads-from with_keys (suc turns) def ts [] us enough spelt fit c =
    read_then (goes with_keys turns def) None ts (next-none with_keys def ts (subst (λ vs. clear part_words vs ≡ true) spelt c)) (ap (λ vs. Some (def, vs)) (sym spelt))
reads-from with_keys (suc turns) def ts (p ∷ parts) us enough spelt fit c =
    let some = part-takes with_keys ts p spelt.0 spelt.1 in
    read_then (goes with_keys turns def) (Some (meant p)) spelt.0 (next-known with_keys def ts p spelt.0 spelt.1 (not-repeated _ _ fit))
    (reads-from with_keys turns (spec.with_part (meant p) def) spelt.0 parts us (omega arith) spelt.2 (later-fit _ _ fit) c)

parts-take : (with_keys : Bool) (ts : Tokens) (parts : List grammar.Part) (us : Tokens) → many (line.part with_keys) ts parts us → length us ≤ length ts
parts-take with_keys ts [] us spelt = let same = ap length spelt in omega (arith, same)
parts-take with_keys ts (p ∷ parts) us spelt =
    let first = part-takes with_keys ts p spelt.0 spelt.1 in
    let rest = parts-take with_keys spelt.0 parts us spelt.2 in omega (arith, first, rest)

-- behind a column's name and type
abbrev parted : Bool → Text → Text → Line ColumnDef
parted with_keys column type_name = lines.◌>>=◌ (many (line.part with_keys)) (λ parts. lines.◌>>◌ (words.provided (grammar.none_twice parts)) (gives (defined column type_name parts)))

module _ {n : ℕ} (with_keys : Bool) where
  agrees-parts : (column type_name : Text) → Agrees (Unit {0}) n (spec.parts with_keys (spec.bare column type_name)) (parted with_keys column type_name) 0 anything part_words
  agrees-parts column type_name = record {
    sound = λ s ts whole us read.
        let found = said-from with_keys (length ts) (spec.bare column type_name) ts whole us read in
        (found.parts, us, found.spelt, (tt, us, (refl, sym (fitting-bare column type_name found.parts) ∙ found.fit), (found.same ∙ with-bare column type_name found.parts found.fit, refl)));
    complete = λ ts whole us within spelt c.
        let rest = spelt.3 in
        let end = rest.3.1 ∙ rest.2.0 in
        let fit = fitting-bare column type_name spelt.0 ∙ rest.2.1 in
        reads-from with_keys (length ts) (spec.bare column type_name) ts spelt.0 spelt.1 (omega arith) spelt.2 fit (subst (λ vs. clear part_words vs ≡ true) end c)
        ∙ same_read (with_parts (spec.bare column type_name) spelt.0) whole spelt.1 us (rest.3.0 ∙ sym (with-bare column type_name spelt.0 fit)) end;
    starts = λ ts whole us spelt c. begins-anything ts;
    takes = λ ts whole us spelt.
        let rest = spelt.3 in
        let all = parts-take with_keys ts spelt.0 spelt.1 spelt.2 in
        let end = ap length (rest.3.1 ∙ rest.2.0) in omega (arith, all, end);
  }

  pub agrees-column_def : Agrees (Unit {0}) n (spec.column_def with_keys) (line.column_def with_keys) 2 (Head.name ∷ []) part_words
  unfolding spec.column_def line.column_def
  agrees-column_def = agrees-bind agrees-name (λ column. agrees-bind agrees-name (λ type_name. agrees-parts column type_name) refl) refl
