-- The parts of a column's definition are read exactly where they are spelt, none of them twice.
use Rattle.std.proofs.Common.{◌≡◌, ◌⊎◌, inl, inr, ℕ, ◌+◌, ◌≤◌, Bool, true, false, cond, List, [], ◌∷◌, ◌++◌, length, Option, Some, None, codes, refl, sym, ap, ◌∙◌, arith}
use Rattle.sql_tree.specs.declared.catalog.KeyKind.TheVariants as kind
use Rattle.sql_tree.specs.declared.catalog.Nullability.TheVariants as nullability
use Rattle.sql_expr.specs.Reading.{Tokens, Parser, pure, sees_word}
use Rattle.sql_expr.specs.Lines.{Line, gives, word as a_word}
use Rattle.sql_expr.specs.Lines as lines
use Rattle.sql_reader_catalog.specs.declared.columns.Part.{Part}
use Rattle.sql_reader_catalog.specs.declared.columns.Part.TheVariants as variant
use Rattle.sql_reader_catalog.specs.Columns as spec
use Rattle.sql_reader.specs.Grammar as grammar
use Rattle.sql_expr.proofs.Heads.{Barred, Head, clear, begins-clear, begins-right}
use Rattle.sql_expr.proofs.Agreement.{Agrees, same_read, read_then, nothing, agrees-pure, agrees-bind, agrees-word, agrees-expect_word, two-tokens}
use Rattle.sql_reader.proofs.CommandLines as line
use Rattle.sql_reader.proofs.ConstantAgreement.{agrees-constant}
use Rattle.sql_reader.proofs.KeywordAgreement.{anything, begins-anything}
use Rattle.sql_reader.proofs.PartLemmas.{meant}

-- ---- one part

-- the words with which another part would begin
abbrev pub part_words : Barred
part_words = record { words = codes "not" ∷ codes "null" ∷ codes "default" ∷ codes "primary" ∷ codes "unique" ∷ []; signs = []; names = false; numbers = false; strings = false; params = false }

abbrev pub part_heads : List Head
part_heads = Head.word (codes "not") ∷ Head.word (codes "null") ∷ Head.word (codes "default") ∷ Head.word (codes "primary") ∷ Head.word (codes "unique") ∷ Head.others part_words ∷ []

-- what is read if a part comes next
abbrev key_line : Bool → Line (Option Part)
key_line true = lines.◌or◌ (lines.◌>>◌ (a_word (codes "primary")) (lines.◌>>◌ (a_word (codes "key")) (gives (Some (variant.Key kind.Primary)))))
    (lines.◌or◌ (lines.◌>>◌ (a_word (codes "unique")) (gives (Some (variant.Key kind.Unique)))) (gives None))
key_line false = gives None

abbrev part_line : Bool → Line (Option Part)
part_line with_keys = lines.◌or◌ (lines.◌>>◌ (a_word (codes "not")) (lines.◌>>◌ (a_word (codes "null")) (gives (Some (variant.Nulls nullability.NotNull)))))
    (lines.◌or◌ (lines.◌>>◌ (a_word (codes "null")) (gives (Some (variant.Nulls nullability.Null))))
    (lines.◌or◌ (lines.◌>>◌ (a_word (codes "default")) (lines.◌<$>◌ (λ value. Some (variant.Default value)) line.constant)) (key_line with_keys)))

-- more heads may be named
pub agrees-heads : {S : Type 0} {n : ℕ} {A : Type 0} {p : Parser A} {P : Line A} {k : ℕ} {heads : List Head} {tail : Barred} (more : List Head)
    → Agrees S n p P k heads tail → Agrees S n p P k (more ++ heads) tail
agrees-heads {heads = heads} more all = record {
  sound = all.sound;
  complete = all.complete;
  starts = λ ts a us spelt c. begins-right more heads ts (all.starts ts a us spelt c);
  takes = all.takes;
}

module _ {n : ℕ} where
  agrees-key : Agrees (Unit {0}) n spec.key (key_line true) 0 (Head.word (codes "primary") ∷ Head.word (codes "unique") ∷ Head.others part_words ∷ []) part_words
  unfolding spec.key
  agrees-key = agrees-word (codes "primary") (agrees-bind (agrees-expect_word (codes "key")) (λ u. agrees-pure (Some (variant.Key kind.Primary)) part_words) refl)
      (agrees-word (codes "unique") (agrees-pure (Some (variant.Key kind.Unique)) part_words) (agrees-pure None part_words) refl) refl

  agrees-keyed : (with_keys : Bool) → Agrees (Unit {0}) n (cond with_keys spec.key (pure None)) (key_line with_keys) 0 (Head.word (codes "primary") ∷ Head.word (codes "unique") ∷ Head.others part_words ∷ []) part_words
  agrees-keyed true = agrees-key
  agrees-keyed false = agrees-heads (Head.word (codes "primary") ∷ Head.word (codes "unique") ∷ []) (agrees-pure None part_words)

  agrees-part_line : (with_keys : Bool) → Agrees (Unit {0}) n (spec.part with_keys) (part_line with_keys) 0 part_heads part_words
  unfolding spec.part
  agrees-part_line with_keys =
      agrees-word (codes "not") (agrees-bind (agrees-expect_word (codes "null")) (λ u. agrees-pure (Some (variant.Nulls nullability.NotNull)) part_words) refl)
      (agrees-word (codes "null") (agrees-pure (Some (variant.Nulls nullability.Null)) part_words)
      (agrees-word (codes "default") (agrees-bind agrees-constant (λ value. agrees-pure (Some (variant.Default value)) part_words) refl) (agrees-keyed with_keys) refl) refl) refl

-- what was read, with the meaning of a part
abbrev pub Read : Bool → Tokens → Option Part → Tokens → Type 0
Read with_keys ts found us = ((p : grammar.Part) × (found ≡ Some (meant p)) × line.part with_keys ts p us) ⊎ ((found ≡ None) × (us ≡ ts))

key-read : (with_keys : Bool) (ts : Tokens) (found : Option Part) (us : Tokens) → key_line with_keys ts found us → Read with_keys ts found us
unfolding line.part line.key_part
key-read true ts found us (inl (u, middle, first, (v, last, second, (value, end)))) =
    inl (grammar.Part.keyed kind.Primary, value, inr (inr (inr (inl (u, middle, first, (v, last, second, (refl, end)))))))
key-read true ts found us (inr (inl (u, middle, first, (value, end)))) = inl (grammar.Part.keyed kind.Unique, value, inr (inr (inr (inr (u, middle, first, (refl, end))))))
key-read true ts found us (inr (inr none)) = inr none
key-read false ts found us none = inr none

part-read : (with_keys : Bool) (ts : Tokens) (found : Option Part) (us : Tokens) → part_line with_keys ts found us → Read with_keys ts found us
unfolding line.part
part-read with_keys ts found us (inl (u, middle, first, (v, last, second, (value, end)))) =
    inl (grammar.Part.nulls false, value, inl (u, middle, first, (v, last, second, (refl, end))))
part-read with_keys ts found us (inr (inl (u, middle, first, (value, end)))) = inl (grammar.Part.nulls true, value, inr (inl (u, middle, first, (refl, end))))
part-read with_keys ts found us (inr (inr (inl (u, middle, first, (given, last, front, (value, end)))))) =
    inl (grammar.Part.default given, value, inr (inr (inl (u, middle, first, (given, last, front, (refl, end))))))
part-read with_keys ts found us (inr (inr (inr keyed))) = key-read with_keys ts found us keyed

pub part-sound : (with_keys : Bool) (ts : Tokens) (found : Option Part) (us : Tokens) → spec.part with_keys ts ≡ Some (found, us) → Read with_keys ts found us
part-sound with_keys ts found us read = part-read with_keys ts found us ((agrees-part_line {n = 0} with_keys).sound tt ts found us read)

-- whatever follows a part, it is read
key-known : (with_keys : Bool) (ts : Tokens) (p : grammar.Part) (us : Tokens) → line.key_part with_keys ts p us → cond with_keys spec.key (pure None) ts ≡ Some (Some (meant p), us)
unfolding line.key_part spec.key sees_word
key-known true ts p us (inl (u, middle, first, (v, last, second, (value, end)))) =
    ap spec.key (two-tokens first second)
    ∙ same_read (Some (variant.Key kind.Primary)) (Some (meant p)) last us (ap (λ q. Some (meant q)) value) end
key-known true ts p us (inr (u, middle, first, (value, end))) =
    ap spec.key first.tokens ∙ same_read (Some (variant.Key kind.Unique)) (Some (meant p)) middle us (ap (λ q. Some (meant q)) value) end
key-known false ts p us nothing_spelt = absurd nothing_spelt

key-passed : (with_keys : Bool) (ts : Tokens) (p : grammar.Part) (us : Tokens) → line.key_part with_keys ts p us → spec.part with_keys ts ≡ cond with_keys spec.key (pure None) ts
unfolding line.key_part spec.part sees_word
key-passed true ts p us (inl (u, middle, first, rest)) = ap (spec.part true) first.tokens ∙ ap spec.key (sym first.tokens)
key-passed true ts p us (inr (u, middle, first, rest)) = ap (spec.part true) first.tokens ∙ ap spec.key (sym first.tokens)
key-passed false ts p us nothing_spelt = absurd nothing_spelt

pub part-known : (with_keys : Bool) (ts : Tokens) (p : grammar.Part) (us : Tokens) → line.part with_keys ts p us → spec.part with_keys ts ≡ Some (Some (meant p), us)
unfolding line.part spec.part sees_word
part-known with_keys ts p us (inl (u, middle, first, (v, last, second, (value, end)))) =
    ap (spec.part with_keys) (two-tokens first second)
    ∙ same_read (Some (variant.Nulls nullability.NotNull)) (Some (meant p)) last us (ap (λ q. Some (meant q)) value) end
part-known with_keys ts p us (inr (inl (u, middle, first, (value, end)))) =
    ap (spec.part with_keys) first.tokens ∙ same_read (Some (variant.Nulls nullability.Null)) (Some (meant p)) middle us (ap (λ q. Some (meant q)) value) end
part-known with_keys ts p us (inr (inr (inl (u, middle, first, (given, last, front, (value, end)))))) =
    ap (spec.part with_keys) first.tokens
    ∙ read_then (λ value. pure (Some (variant.Default value))) given last
    ((agrees-constant {S = ⊥} {n = length middle}).complete middle given last (omega arith) front (begins-clear nothing anything last refl (begins-anything last)))
    (same_read (Some (variant.Default given)) (Some (meant p)) last us (ap (λ q. Some (meant q)) value) end)
part-known with_keys ts p us (inr (inr (inr keyed))) = key-passed with_keys ts p us keyed ∙ key-known with_keys ts p us keyed

pub part-takes : (with_keys : Bool) (ts : Tokens) (p : grammar.Part) (us : Tokens) → line.part with_keys ts p us → 1 + length us ≤ length ts
unfolding line.part line.key_part
part-takes with_keys ts p us (inl (u, middle, first, (v, last, second, (value, end)))) = let a = ap length first.tokens in let b = ap length second.tokens in let c = ap length end in omega (arith, a, b, c)
part-takes with_keys ts p us (inr (inl (u, middle, first, (value, end)))) = let a = ap length first.tokens in let c = ap length end in omega (arith, a, c)
part-takes with_keys ts p us (inr (inr (inl (u, middle, first, (given, last, front, (value, end)))))) =
    let a = ap length first.tokens in let b = (agrees-constant {S = ⊥} {n = 0}).takes middle given last front in let c = ap length end in omega (arith, a, b, c)
part-takes true ts p us (inr (inr (inr (inl (u, middle, first, (v, last, second, (value, end))))))) = let a = ap length first.tokens in let b = ap length second.tokens in let c = ap length end in omega (arith, a, b, c)
part-takes true ts p us (inr (inr (inr (inr (u, middle, first, (value, end)))))) = let a = ap length first.tokens in let c = ap length end in omega (arith, a, c)
part-takes false ts p us (inr (inr (inr nothing_spelt))) = absurd nothing_spelt

no-part : (with_keys : Bool) (ts : Tokens) → part_line with_keys ts None ts
no-part true ts = inr (inr (inr (inr (inr (refl, refl)))))
no-part false ts = inr (inr (inr (refl, refl)))

-- nor is one read where none comes next
pub part-none : (with_keys : Bool) (ts : Tokens) → clear part_words ts ≡ true → spec.part with_keys ts ≡ Some (None, ts)
part-none with_keys ts c = (agrees-part_line {n = length ts} with_keys).complete ts None ts (omega arith) (no-part with_keys ts) c
