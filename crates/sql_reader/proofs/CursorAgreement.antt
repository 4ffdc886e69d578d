-- DECLARE is read exactly where it is spelt.
use Rattle.std.proofs.Common.{◌≡◌, ◌⊎◌, inl, inr, ⊎_elim, ℕ, zero, suc, ◌+◌, ◌≤◌, Bool, true, false, cond, ◌||◌, List, [], ◌∷◌, ◌++◌, length, drop, map, Option, Some, None, codes, refl, sym, ap, subst, ◌∙◌, arith}
use Rattle.std.specs.Prelude.{is_some}
use Rattle.std.specs.Str.{bytes_eq}
use Rattle.std.proofs.lemmas.Slice.Eq.{bytes_eq-Decides}
use Rattle.sql_tokens.specs.declared.token.Token.{Token}
use Rattle.sql_tokens.specs.declared.token.Token.TheVariants as token
use Rattle.sql_tree.specs.declared.command.Command.{Command}
use Rattle.sql_tree.specs.declared.command.Command.TheVariants as command
use Rattle.sql_tree.specs.declared.cursors.CursorOptions.{CursorOptions}
use Rattle.sql_tree.specs.declared.select.Select.{Select}
use Rattle.sql_tree.specs.declared.statement.Statement.TheVariants as statement
use Rattle.sql_expr.specs.Reading.{Text, Tokens, Parser, ◌>>◌, pure, taken, goes_on, behind, expect_word, sees_word}
use Rattle.sql_expr.specs.Lines.{Line, gives, word as a_word, many, TakesToken}
use Rattle.sql_expr.specs.Lines as lines
use Rattle.sql_reader_session.specs.declared.cursors.CursorOption.{CursorOption}
use Rattle.sql_reader_session.specs.declared.cursors.CursorOption.TheVariants.{Scroll, NoScroll, Insensitive, Asensitive}
use Rattle.sql_reader_session.specs.Cursors.{option_of, cursor_option, with_option, no_options, options_from}
use Rattle.sql_reader_session.specs.Cursors as spec
use Rattle.sql_reader.specs.Grammar as grammar
use Rattle.sql_expr.proofs.Heads.{Barred, Head, bars, clear, begins, begins-clear, clear-begins, begins-left, begins-right, not-true}
use Rattle.sql_expr.proofs.Agreement.{Agrees, one, stands_for, taken-nothing, bind_some, nothing, bar_word, same_value, same_rest, same_read, read_then, word-seen, sees-no-word, taken-cases, agrees-pure, agrees-bind, agrees-same, agrees-fewer, agrees-word, agrees-expect_word, taking, two-tokens}
use Rattle.sql_expr.proofs.ExpressionAgreement.{agrees-name}
use Rattle.sql_reader.proofs.CommandLines as line
use Rattle.sql_reader.proofs.QueryAgreement.{select_tail, agrees-select}
use Rattle.sql_reader.proofs.KeywordAgreement.{agrees-map}

-- an option as it is read
abbrev option_line : Line CursorOption
option_line = lines.◌or◌ (lines.◌>>◌ (a_word (codes "scroll")) (gives Scroll)) (lines.◌or◌ (lines.◌>>◌ (a_word (codes "no")) (lines.◌>>◌ (a_word (codes "scroll")) (gives NoScroll)))
    (lines.◌or◌ (lines.◌>>◌ (a_word (codes "insensitive")) (gives Insensitive)) (lines.◌>>◌ (a_word (codes "asensitive")) (gives Asensitive))))

-- all that are read, one after another
abbrev gathered : CursorOptions → List CursorOption → CursorOptions
gathered options [] = options
gathered options (option ∷ more) = gathered (with_option options option) more

abbrev option_heads : List Head
option_heads = Head.word (codes "scroll") ∷ Head.word (codes "no") ∷ Head.word (codes "insensitive") ∷ Head.word (codes "asensitive") ∷ []

-- the tokens that could go on with options
abbrev bar_options : Barred
bar_options = record { words = codes "scroll" ∷ codes "no" ∷ codes "insensitive" ∷ codes "asensitive" ∷ []; signs = []; names = false; numbers = false; strings = false; params = false }

-- no option comes next
no-option : (t : Token) → bars bar_options t ≡ false → option_of t ≡ None
no-option (token.Word w) b = by (bytes_eq w (codes "scroll")) (bytes_eq w (codes "no")) (bytes_eq w (codes "insensitive")) (bytes_eq w (codes "asensitive")) b
  where
    by : (a b c d : Bool) → ((a || (b || (c || (d || false)))) || false) ≡ false → cond {A = Option CursorOption} a (Some Scroll) (cond c (Some Insensitive) (cond d (Some Asensitive) None)) ≡ None
    by true b c d e = cc
    by false true c d e = cc
    by false false true d e = cc
    by false false false true e = cc
    by false false false false e = refl
no-option (token.Quoted q) b = refl
no-option (token.Sign s) b = refl
no-option (token.Number d) b = refl
no-option (token.Text x) b = refl
no-option (token.Param d) b = refl
no-option (token.Backslash l) b = refl

-- a single option, by its token
option-spelt : (ts : Tokens) (a : CursorOption) (us : Tokens) → one option_of ts a us → option_line ts a us
option-spelt ts a us (t, e, v) = by t e v
  where
    by-word : (w : Text) (b c d : Bool) → bytes_eq w (codes "scroll") ≡ b → bytes_eq w (codes "insensitive") ≡ c → bytes_eq w (codes "asensitive") ≡ d → TakesToken (token.Word w) ts us
        → cond b (Some Scroll) (cond c (Some Insensitive) (cond d (Some Asensitive) None)) ≡ Some a → option_line ts a us
    by-word w true c d p q r e v = let same : a ≡ Scroll = cc in inl (tt, us, taking e (ap token.Word ((bytes_eq-Decides w (codes "scroll")).0 p)), (same, refl))
    by-word w false true d p q r e v = let same : a ≡ Insensitive = cc in inr (inr (inl (tt, us, taking e (ap token.Word ((bytes_eq-Decides w (codes "insensitive")).0 q)), (same, refl))))
    by-word w false false true p q r e v = let same : a ≡ Asensitive = cc in inr (inr (inr (tt, us, taking e (ap token.Word ((bytes_eq-Decides w (codes "asensitive")).0 r)), (same, refl))))
    by-word w false false false p q r e v = cc

    by : (t : Token) → TakesToken t ts us → option_of t ≡ Some a → option_line ts a us
    by (token.Word w) e v = by-word w (bytes_eq w (codes "scroll")) (bytes_eq w (codes "insensitive")) (bytes_eq w (codes "asensitive")) refl refl refl e v
    by (token.Quoted q) e v = cc
    by (token.Sign s) e v = cc
    by (token.Number d) e v = cc
    by (token.Text x) e v = cc
    by (token.Param d) e v = cc
    by (token.Backslash l) e v = cc

-- what comes behind NO, or without it
abbrev behind_no : Bool → Parser (Option CursorOption)
behind_no negated = cond negated (expect_word (codes "scroll") >> pure (Some NoScroll)) (taken option_of)

-- what is read of one option: it, or nothing
option-cases : (ts : Tokens) (o : Option CursorOption) (us : Tokens) → cursor_option ts ≡ Some (o, us)
    → ((a : CursorOption) × (o ≡ Some a) × option_line ts a us) ⊎ ((o ≡ None) × (us ≡ ts))
unfolding cursor_option
option-cases ts o us read = by (sees_word (codes "no") ts) refl read
  where
    by : (b : Bool) → sees_word (codes "no") ts ≡ b → behind_no (sees_word (codes "no") ts) (behind (sees_word (codes "no") ts) ts) ≡ Some (o, us)
        → ((a : CursorOption) × (o ≡ Some a) × option_line ts a us) ⊎ ((o ≡ None) × (us ≡ ts))
    by true q e =
        let read : (expect_word (codes "scroll") >> pure (Some NoScroll)) (drop 1 ts) ≡ Some (o, us) = subst (λ x. behind_no x (behind x ts) ≡ Some (o, us)) q e in
        let parts = bind_some (expect_word (codes "scroll") (drop 1 ts)) (λ u. pure (Some NoScroll)) o us read in
        let scroll = (agrees-expect_word {S = Unit {0}} {n = 0} (codes "scroll")).sound tt (drop 1 ts) parts.a parts.middle parts.begun in
        inl (
          NoScroll,
          same_value (Some NoScroll) o parts.middle us parts.ended,
          inr (inl (tt, drop 1 ts, word-seen (codes "no") ts q, (parts.a, parts.middle, scroll, (refl, same_rest (Some NoScroll) o parts.middle us parts.ended)))),
        )
    by false q e = ⊎_elim
        (λ some. inl (some.0, some.1, option-spelt ts some.0 us some.2))
        (λ none. inr (none.0, none.1))
        (taken-cases option_of ts o us (subst (λ x. behind_no x (behind x ts) ≡ Some (o, us)) q e))

-- an option that is spelt is read
option-read : (ts : Tokens) (a : CursorOption) (us : Tokens) → option_line ts a us → (cursor_option ts ≡ Some (Some a, us)) × (1 + length us ≤ length ts) × (begins option_heads ts ≡ true)
unfolding cursor_option sees_word taken
option-read ts a us (inl (u, middle, e, same)) = (
  ap cursor_option e.tokens ∙ same_read (Some Scroll) (Some a) middle us (ap Some same.0) same.1,
  (let count = ap length e.tokens in let rest = ap length same.1 in omega (arith, count, rest)),
  ap (begins option_heads) e.tokens,
)
option-read ts a us (inr (inl (u, middle, e, (v, rest, k, same)))) = (
  ap cursor_option (two-tokens e k) ∙ same_read (Some NoScroll) (Some a) rest us (ap Some same.0) same.1,
  (let count = ap length e.tokens in let more = ap length k.tokens in let rest = ap length same.1 in omega (arith, count, more, rest)),
  ap (begins option_heads) e.tokens,
)
option-read ts a us (inr (inr (inl (u, middle, e, same)))) = (
  ap cursor_option e.tokens ∙ same_read (Some Insensitive) (Some a) middle us (ap Some same.0) same.1,
  (let count = ap length e.tokens in let rest = ap length same.1 in omega (arith, count, rest)),
  ap (begins option_heads) e.tokens,
)
option-read ts a us (inr (inr (inr (u, middle, e, same)))) = (
  ap cursor_option e.tokens ∙ same_read (Some Asensitive) (Some a) middle us (ap Some same.0) same.1,
  (let count = ap length e.tokens in let rest = ap length same.1 in omega (arith, count, rest)),
  ap (begins option_heads) e.tokens,
)

option-none : (ts : Tokens) → clear bar_options ts ≡ true → cursor_option ts ≡ Some (None, ts)
unfolding cursor_option
option-none ts c =
    let unseen = sees-no-word (codes "no") ts (begins-clear (bar_word (codes "no")) (Head.others bar_options ∷ []) ts refl (clear-begins bar_options ts c)) in
    ap (λ x. behind_no x (behind x ts)) unseen ∙ taken-nothing option_of ts (none ts c)
  where
    none : (ts : Tokens) → clear bar_options ts ≡ true → stands_for option_of ts ≡ false
    none [] c = refl
    none (t ∷ ts) c = ap is_some (no-option t (not-true _ c))

-- ---- options one behind another

abbrev read_options : Line CursorOptions
read_options = lines.◌<$>◌ (gathered no_options) (many option_line)

abbrev options_line : Line CursorOptions
options_line = lines.◌<$>◌ grammar.gathered (many grammar.cursor_option)

abbrev alone : CursorOption → CursorOptions
alone = with_option no_options

option-there : (ts : Tokens) (a : CursorOption) (us : Tokens) → option_line ts a us → grammar.cursor_option ts (alone a) us
option-there ts a us (inl (u, middle, e, (value, end))) = inl (u, middle, e, (ap alone value, end))
option-there ts a us (inr (inl (u, middle, e, (v, last, k, (value, end))))) = inr (inl (u, middle, e, (v, last, k, (ap alone value, end))))
option-there ts a us (inr (inr (inl (u, middle, e, (value, end))))) = inr (inr (inl (u, middle, e, (ap alone value, end))))
option-there ts a us (inr (inr (inr (u, middle, e, (value, end))))) = inr (inr (inr (u, middle, e, (ap alone value, end))))

option-back : (ts : Tokens) (o : CursorOptions) (us : Tokens) → grammar.cursor_option ts o us → (a : CursorOption) × (o ≡ alone a) × option_line ts a us
option-back ts o us (inl (u, middle, e, (value, end))) = (Scroll, value, inl (u, middle, e, (refl, end)))
option-back ts o us (inr (inl (u, middle, e, (v, last, k, (value, end))))) = (NoScroll, value, inr (inl (u, middle, e, (v, last, k, (refl, end)))))
option-back ts o us (inr (inr (inl (u, middle, e, (value, end))))) = (Insensitive, value, inr (inr (inl (u, middle, e, (refl, end)))))
option-back ts o us (inr (inr (inr (u, middle, e, (value, end))))) = (Asensitive, value, inr (inr (inr (u, middle, e, (refl, end)))))

many-there : (ts : Tokens) (found : List CursorOption) (us : Tokens) → many option_line ts found us → many grammar.cursor_option ts (map alone found) us
many-there ts [] us spelt = spelt
many-there ts (a ∷ found) us (middle, first, rest) = (middle, option-there ts a middle first, many-there middle found us rest)

many-back : (ts : Tokens) (written : List CursorOptions) (us : Tokens) → many grammar.cursor_option ts written us → (found : List CursorOption) × (written ≡ map alone found) × many option_line ts found us
many-back ts [] us spelt = ([], refl, spelt)
many-back ts (o ∷ written) us (middle, first, rest) =
    let here = option-back ts o middle first in
    let later = many-back middle written us rest in
    (here.0 ∷ later.0, ap (λ x. x ∷ written) here.1 ∙ ap (λ xs. alone here.0 ∷ xs) later.1, (middle, here.2, later.2))

or-set : (b x : Bool) → (true || x) ≡ (b || (true || x))
or-set true x = refl
or-set false x = refl

-- those before, or those that are written
abbrev joined : CursorOptions → CursorOptions → CursorOptions
joined a b = record { scroll = a.scroll || b.scroll; no_scroll = a.no_scroll || b.no_scroll; insensitive = a.insensitive || b.insensitive; asensitive = a.asensitive || b.asensitive }

or-none : (b : Bool) → b ≡ (b || false)
or-none true = refl
or-none false = refl

same-options : {a b c d p q r s : Bool} → a ≡ p → b ≡ q → c ≡ r → d ≡ s
    → ◌≡◌ {A = CursorOptions} (record { scroll = a; no_scroll = b; insensitive = c; asensitive = d }) (record { scroll = p; no_scroll = q; insensitive = r; asensitive = s })
same-options {a = a} {b = b} {c = c} {d = d} {p = p} {q = q} {r = r} {s = s} i j k l =
    ap (λ x. record { scroll = x; no_scroll = b; insensitive = c; asensitive = d }) i
    ∙ (ap (λ x. record { scroll = p; no_scroll = x; insensitive = c; asensitive = d }) j
    ∙ (ap (λ x. record { scroll = p; no_scroll = q; insensitive = x; asensitive = d }) k
    ∙ ap (λ x. record { scroll = p; no_scroll = q; insensitive = r; asensitive = x }) l))

one-joined : (options : CursorOptions) (a : CursorOption) (later : CursorOptions) → joined (with_option options a) later ≡ joined options (joined (alone a) later)
one-joined options Scroll later = same-options (or-set options.scroll later.scroll) refl refl refl
one-joined options NoScroll later = same-options refl (or-set options.no_scroll later.no_scroll) refl refl
one-joined options Insensitive later = same-options refl refl (or-set options.insensitive later.insensitive) refl
one-joined options Asensitive later = same-options refl refl refl (or-set options.asensitive later.asensitive)

gathered-joined : (options : CursorOptions) (found : List CursorOption) → gathered options found ≡ joined options (grammar.gathered (map alone found))
gathered-joined options [] = same-options (or-none options.scroll) (or-none options.no_scroll) (or-none options.insensitive) (or-none options.asensitive)
gathered-joined options (a ∷ found) = gathered-joined (with_option options a) found ∙ one-joined options a (grammar.gathered (map alone found))

options-there : (ts : Tokens) (all : CursorOptions) (us : Tokens) → read_options ts all us → options_line ts all us
options-there ts all us (found, middle, spelt, (value, end)) = (map alone found, middle, many-there ts found middle spelt, (value ∙ gathered-joined no_options found, end))

options-back : (ts : Tokens) (all : CursorOptions) (us : Tokens) → options_line ts all us → read_options ts all us
options-back ts all us (written, middle, spelt, (value, end)) =
    let read = many-back ts written middle spelt in
    (read.0, middle, read.2, (value ∙ (ap grammar.gathered read.1 ∙ sym (gathered-joined no_options read.0)), end))

options-sound : (turns : ℕ) (options : CursorOptions) (ts : Tokens) (all : CursorOptions) (us : Tokens) → options_from turns options ts ≡ Some (all, us)
    → (found : List CursorOption) × many option_line ts found us × (all ≡ gathered options found)
unfolding options_from
options-sound zero options ts all us read = ([], same_rest options all ts us read, same_value options all ts us read)
options-sound (suc turns) options ts all us read =
    let parts = bind_some (cursor_option ts) (λ found. goes_on found (λ option. options_from turns (with_option options option)) options) all us read in
    ⊎_elim
    (λ some.
    let ended = subst (λ o. goes_on o (λ option. options_from turns (with_option options option)) options parts.middle ≡ Some (all, us)) some.1 parts.ended in
    let later = options-sound turns (with_option options some.0) parts.middle all us ended in
    (some.0 ∷ later.0, (parts.middle, some.2, later.1), later.2))
    (λ none.
    let ended = subst (λ o. goes_on o (λ option. options_from turns (with_option options option)) options parts.middle ≡ Some (all, us)) none.0 parts.ended in
    ([], same_rest options all parts.middle us ended ∙ none.1, same_value options all parts.middle us ended))
    (option-cases ts parts.a parts.middle parts.begun)

options-take : (ts : Tokens) (found : List CursorOption) (us : Tokens) → many option_line ts found us → length us ≤ length ts
options-take ts [] us spelt = let same = ap length spelt in omega (arith, same)
options-take ts (a ∷ found) us spelt =
    let here = (option-read ts a spelt.0 spelt.1).1 in
    let rest = options-take spelt.0 found us spelt.2 in omega (arith, here, rest)

options-start : (ts : Tokens) (found : List CursorOption) (us : Tokens) → many option_line ts found us → clear bar_options us ≡ true → begins (option_heads ++ Head.others bar_options ∷ []) ts ≡ true
options-start ts [] us spelt c = begins-right option_heads (Head.others bar_options ∷ []) ts (clear-begins bar_options ts (subst (λ vs. clear bar_options vs ≡ true) spelt c))
options-start ts (a ∷ found) us spelt c = begins-left option_heads (Head.others bar_options ∷ []) ts (option-read ts a spelt.0 spelt.1).2

options-complete : (turns : ℕ) (options : CursorOptions) (ts : Tokens) (found : List CursorOption) (us : Tokens) → length ts ≤ turns → many option_line ts found us → clear bar_options us ≡ true
    → options_from turns options ts ≡ Some (gathered options found, us)
unfolding options_from
options-complete zero options ts [] us enough spelt c = ap (λ vs. Some (options, vs)) (sym spelt)
options-complete zero options ts (a ∷ found) us enough spelt c = let here = (option-read ts a spelt.0 spelt.1).1 in absurd (omega arith)
options-complete (suc turns) options ts [] us enough spelt c =
    read_then (λ o. goes_on o (λ option. options_from turns (with_option options option)) options) None ts (option-none ts (subst (λ vs. clear bar_options vs ≡ true) spelt c)) (ap (λ vs. Some (options, vs)) (sym spelt))
options-complete (suc turns) options ts (a ∷ found) us enough spelt c =
    let here = option-read ts a spelt.0 spelt.1 in
    let shorter = here.1 in
    read_then (λ o. goes_on o (λ option. options_from turns (with_option options option)) options) (Some a) spelt.0 here.0
    (options-complete turns (with_option options a) spelt.0 found us (omega (arith, shorter)) spelt.2 c)

-- CURSOR [(WITH | WITHOUT) HOLD] FOR
abbrev for_line : Line Bool
for_line = lines.◌>>◌ (a_word (codes "cursor")) (lines.◌>>=◌ grammar.hold (λ held. lines.◌>>◌ (a_word (codes "for")) (gives held)))

abbrev declared : Text → CursorOptions → Bool → Select → Command
declared cursor options held query = command.Declare (record { name = cursor; options = options; hold = held; query = statement.Select query })

abbrev of_query : Text → CursorOptions → Bool → Line Command
of_query cursor options held = lines.◌<$>◌ (declared cursor options held) line.select

-- the line in the parts in which it is read
abbrev ordered : Line Command
ordered = lines.◌>>=◌ lines.name (λ cursor. lines.◌>>=◌ options_line (λ options. lines.◌>>=◌ for_line (of_query cursor options)))

abbrev bar_hold : Barred
bar_hold = record { words = codes "with" ∷ codes "without" ∷ []; signs = []; names = false; numbers = false; strings = false; params = false }

module _ {n : ℕ} where
  agrees-options : Agrees (Unit {0}) n spec.cursor_options options_line 0 (option_heads ++ Head.others bar_options ∷ []) bar_options
  unfolding spec.cursor_options
  agrees-options = agrees-same options-there options-back (record {
    sound = λ s ts all us read. let found = options-sound (length ts) no_options ts all us read in (found.0, us, found.1, (found.2, refl));
    complete = λ ts all us within (found, middle, spelt, same) c.
        options-complete (length ts) no_options ts found middle (omega arith) spelt (subst (λ vs. clear bar_options vs ≡ true) same.1 c) ∙ same_read (gathered no_options found) all middle us same.0 same.1;
    starts = λ ts all us (found, middle, spelt, same) c. options-start ts found middle spelt (subst (λ vs. clear bar_options vs ≡ true) same.1 c);
    takes = λ ts all us (found, middle, spelt, same). let rest = options-take ts found middle spelt in let end = ap length same.1 in omega (arith, rest, end);
  })

  -- [(WITH | WITHOUT) HOLD]
  agrees-hold : Agrees (Unit {0}) n spec.hold grammar.hold 0 (Head.word (codes "with") ∷ Head.word (codes "without") ∷ Head.others bar_hold ∷ []) bar_hold
  unfolding spec.hold
  agrees-hold = agrees-word (codes "with") (held true) (agrees-word (codes "without") (held false) (agrees-pure false bar_hold) refl) refl
    where
      held : (with_it : Bool) → Agrees (Unit {0}) n (expect_word (codes "hold") >> pure with_it) (lines.◌>>◌ (a_word (codes "hold")) (gives with_it)) 1 (Head.word (codes "hold") ∷ []) bar_hold
      held with_it = agrees-bind (agrees-expect_word (codes "hold")) (λ u. agrees-pure with_it bar_hold) refl

  agrees-cursor_for : Agrees (Unit {0}) n spec.cursor_for for_line 2 (Head.word (codes "cursor") ∷ []) nothing
  unfolding spec.cursor_for
  agrees-cursor_for = agrees-bind (agrees-expect_word (codes "cursor")) (λ u. agrees-bind agrees-hold (λ held. agrees-bind (agrees-expect_word (codes "for")) (λ v. agrees-pure held nothing) refl) refl) refl

  pub agrees-declare : Agrees (Unit {0}) n spec.declare line.declare 1 (Head.name ∷ []) select_tail
  unfolding spec.declare line.declare
  agrees-declare = agrees-same there back (agrees-fewer 1 (omega arith) (agrees-bind agrees-name (λ cursor. agrees-bind agrees-options (λ options.
      agrees-bind agrees-cursor_for (λ held. agrees-map (declared cursor options held) agrees-select) refl) refl) refl))
    where
      there : (ts : Tokens) (c : Command) (us : Tokens) → ordered ts c us → line.declare ts c us
      there ts c us (cursor, a, name, (options, b, found, (held, d, (u, x, cursor_word, (h, y, hold, (v, z, for_word, same))), query))) = (
        cursor,
        a,
        name,
        (
          options,
          b,
          found,
          (
            u,
            x,
            cursor_word,
            (
              h,
              y,
              hold,
              (
                v,
                z,
                for_word,
                subst (λ l. of_query cursor options l z c us) same.0 (subst (λ vs. of_query cursor options held vs c us) same.1 query),
              ),
            ),
          ),
        ),
      )

      back : (ts : Tokens) (c : Command) (us : Tokens) → line.declare ts c us → ordered ts c us
      back ts c us (cursor, a, name, (options, b, found, (u, x, cursor_word, (h, y, hold, (v, z, for_word, query))))) =
          (cursor, a, name, (options, b, found, (h, z, (u, x, cursor_word, (h, y, hold, (v, z, for_word, (refl, refl)))), query)))
