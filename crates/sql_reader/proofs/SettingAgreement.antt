-- Settings are read exactly where they are spelt.
use Rattle.std.proofs.Common.{◌≡◌, inl, inr, ℕ, Bool, true, false, cond, not, ◌||◌, List, [], ◌∷◌, ◌++◌, Option, Some, None, codes, refl, sym, ap, subst, ◌∙◌, arith}
use Rattle.std.specs.Prelude.{is_some}
use Rattle.std.specs.List.{list_any}
use Rattle.std.specs.Str.{bytes_eq}
use Rattle.std.proofs.lemmas.Slice.Eq.{bytes_eq-Decides}
use Rattle.q_base.specs.declared.settings.SetValue.TheVariants as value
use Rattle.sql_tokens.specs.declared.token.Token.{Token}
use Rattle.sql_tokens.specs.declared.token.Token.TheVariants as token
use Rattle.sql_tokens.specs.declared.token.Sign.TheVariants as sign
use Rattle.sql_tree.specs.declared.command.Command.{Command}
use Rattle.sql_tree.specs.declared.command.Command.TheVariants as command
use Rattle.sql_expr.specs.Reading.{Text, Tokens, Parser, ◌>>=◌, pure, sees_word}
use Rattle.sql_expr.specs.Lines.{Line, gives, ahead, unless, name, word as a_word, mark, TakesToken}
use Rattle.sql_expr.specs.Lines as lines
use Rattle.sql_expr.specs.Names.{is_reserved}
use Rattle.sql_expr.specs.Names as names
use Rattle.sql_reader_session.specs.Keywords.{eat_before_name}
use Rattle.sql_reader_session.specs.Settings.{text_of}
use Rattle.sql_reader_session.specs.Settings as spec
use Rattle.sql_reader.specs.Grammar as grammar
use Rattle.sql_expr.proofs.Heads.{Barred, Head, bars, is}
use Rattle.sql_expr.proofs.Agreement.{Agrees, Stands, nothing, bar_sign, agrees-pure, agrees-bind, agrees-same, agrees-word, agrees-taken, agrees-expect_sign, one, beginning, taking, ending}
use Rattle.sql_expr.proofs.ListAgreement.{agrees-list}
use Rattle.sql_expr.proofs.ExpressionAgreement.{agrees-name}
use Rattle.sql_expr.proofs.TokenKinds.{free-word, word-free}
use Rattle.sql_reader.proofs.CommandLines as line
use Rattle.sql_reader.proofs.LimitsAgreement.{agrees-numeral}
use Rattle.sql_reader.proofs.KeywordAgreement.{agrees-keyword, looks-name}

-- the tokens that stand for the text of a setting
abbrev pub text_heads : List Head
text_heads = Head.word (codes "on") ∷ Head.word (codes "true") ∷ Head.word (codes "false") ∷ Head.name ∷ Head.string ∷ []

abbrev pub bar_texts : Barred
bar_texts = record { words = codes "on" ∷ codes "true" ∷ codes "false" ∷ []; signs = []; names = true; numbers = false; strings = true; params = false }

abbrev pub numeral_heads : List Head
numeral_heads = Head.sign sign.Minus ∷ Head.number ∷ []

-- the line of the texts, by the token that stands for one
text-there : (ts : Tokens) (a : Text) (us : Tokens) → one text_of ts a us → grammar.setting_text ts a us
text-there ts a us (t, e, v) = by t e v
  where
    by-word : (w : Text) (on truth falsity reserved : Bool) → bytes_eq w (codes "on") ≡ on → bytes_eq w (codes "true") ≡ truth → bytes_eq w (codes "false") ≡ falsity → is_reserved w ≡ reserved
        → TakesToken (token.Word w) ts us → cond (on || truth || falsity || not reserved) (Some w) None ≡ Some a → grammar.setting_text ts a us
    by-word w true truth falsity reserved o t f r e v = let same = (bytes_eq-Decides w (codes "on")).0 o in let value : a ≡ w = cc in inr (inr (inl (tt, us, taking e (ap token.Word same), (value ∙ same, refl))))
    by-word w false true falsity reserved o t f r e v = let same = (bytes_eq-Decides w (codes "true")).0 t in let value : a ≡ w = cc in inr (inr (inr (inl (tt, us, taking e (ap token.Word same), (value ∙ same, refl)))))
    by-word w false false true reserved o t f r e v = let same = (bytes_eq-Decides w (codes "false")).0 f in let value : a ≡ w = cc in inr (inr (inr (inr (tt, us, taking e (ap token.Word same), (value ∙ same, refl)))))
    by-word w false false false true o t f r e v = cc
    by-word w false false false false o t f r e v = let is : w ≡ a = cc in inl (inl (taking e (ap token.Word is), free-word a (subst (λ x. is_reserved x ≡ false) is r)))

    by : (t : Token) → TakesToken t ts us → text_of t ≡ Some a → grammar.setting_text ts a us
    by (token.Word w) e v = by-word w (bytes_eq w (codes "on")) (bytes_eq w (codes "true")) (bytes_eq w (codes "false")) (is_reserved w) refl refl refl refl e v
    by (token.Quoted q) e v = let is : q ≡ a = cc in inl (inr (taking e (ap token.Quoted is)))
    by (token.Text x) e v = let is : x ≡ a = cc in inr (inl (taking e (ap token.Text is)))
    by t e v = cc

text-back : (ts : Tokens) (a : Text) (us : Tokens) → grammar.setting_text ts a us → one text_of ts a us
text-back ts a us (inl (inl (e, r))) = (token.Word a, e, free (bytes_eq a (codes "on")) (bytes_eq a (codes "true")) (bytes_eq a (codes "false")) (is_reserved a) (word-free a r))
  where
    free : (on truth falsity reserved : Bool) → reserved ≡ false → cond {A = Option Text} (on || truth || falsity || not reserved) (Some a) None ≡ Some a
    free on truth falsity true q = cc
    free true truth falsity false q = refl
    free false true falsity false q = refl
    free false false true false q = refl
    free false false false false q = refl
text-back ts a us (inl (inr e)) = (token.Quoted a, e, refl)
text-back ts a us (inr (inl e)) = (token.Text a, e, refl)
text-back ts a us (inr (inr (inl (u, middle, e, same)))) = (token.Word (codes "on"), ending e (sym same.1), ap Some (sym same.0))
text-back ts a us (inr (inr (inr (inl (u, middle, e, same))))) = (token.Word (codes "true"), ending e (sym same.1), ap Some (sym same.0))
text-back ts a us (inr (inr (inr (inr (u, middle, e, same))))) = (token.Word (codes "false"), ending e (sym same.1), ap Some (sym same.0))

stands-text : Stands text_of grammar.setting_text text_heads bar_texts
stands-text = record { shows = shows; none = none; there = text-there; back = text-back }
  where
    shows-word : (on truth falsity reserved : Bool) (w a : Text) → cond (on || truth || falsity || not reserved) (Some w) None ≡ Some a
        → (on || (truth || (falsity || (is_some (cond reserved None (Some w)) || (false || false))))) ≡ true
    shows-word true truth falsity reserved w a e = refl
    shows-word false true falsity reserved w a e = refl
    shows-word false false true reserved w a e = refl
    shows-word false false false true w a e = cc
    shows-word false false false false w a e = refl

    shows : (t : Token) (a : Text) → text_of t ≡ Some a → list_any (λ head. is head t) text_heads ≡ true
    shows (token.Word w) a e = shows-word (bytes_eq w (codes "on")) (bytes_eq w (codes "true")) (bytes_eq w (codes "false")) (is_reserved w) w a e
    shows (token.Quoted q) a e = refl
    shows (token.Sign s) a e = cc
    shows (token.Number d) a e = cc
    shows (token.Text x) a e = refl
    shows (token.Param d) a e = cc
    shows (token.Backslash l) a e = cc

    none-word : (on truth falsity reserved : Bool) (w : Text) → ((on || (truth || (falsity || false))) || not reserved) ≡ false
        → cond {A = Option Text} (on || truth || falsity || not reserved) (Some w) None ≡ None
    none-word true truth falsity reserved w b = cc
    none-word false true falsity reserved w b = cc
    none-word false false true reserved w b = cc
    none-word false false false true w b = refl
    none-word false false false false w b = cc

    none : (t : Token) → bars bar_texts t ≡ false → text_of t ≡ None
    none (token.Word w) b = none-word (bytes_eq w (codes "on")) (bytes_eq w (codes "true")) (bytes_eq w (codes "false")) (is_reserved w) w b
    none (token.Quoted q) b = cc
    none (token.Sign s) b = refl
    none (token.Number d) b = refl
    none (token.Text x) b = cc
    none (token.Param d) b = refl
    none (token.Backslash l) b = refl

-- what stands behind the scope of SET, and behind the name
abbrev valued_read : Bool → Text → Parser Command
valued_read local n = spec.expect_to >>= (λ u. spec.set_value >>= (λ v. pure (command.Set (record { name = n; local = local; value = v }))))

abbrev valued : Bool → Text → Line Command
valued local n = lines.◌>>◌ (lines.◌or◌ (a_word (codes "to")) (mark sign.Equal)) (lines.◌>>=◌ line.set_value (λ v. gives (command.Set (record { name = n; local = local; value = v }))))

abbrev scoped_read : Bool → Parser Command
scoped_read local = names.name >>= valued_read local

abbrev scoped : Bool → Line Command
scoped local = lines.◌>>=◌ name (valued local)

abbrev value_heads : List Head
value_heads = Head.word (codes "to") ∷ Head.sign sign.Equal ∷ []

module _ {n : ℕ} where
  agrees-setting : Agrees (Unit {0}) n spec.setting line.setting 1 (text_heads ++ numeral_heads) nothing
  unfolding spec.setting line.setting
  agrees-setting = agrees-taken {n = n} spec.text_or_number (omega arith) stands-text (λ text. agrees-pure (record { text = text; number = false }) nothing) (agrees-bind agrees-numeral (λ found. agrees-pure (spec.number_setting found) nothing) refl) refl

  agrees-set_value : Agrees (Unit {0}) n spec.set_value line.set_value 1 (Head.word (codes "default") ∷ text_heads ++ numeral_heads) (bar_sign sign.Comma)
  unfolding spec.set_value spec.settings is_reserved
  agrees-set_value = agrees-word (codes "default") (agrees-pure value.Default (bar_sign sign.Comma)) (agrees-bind (agrees-list (bar_sign sign.Comma) agrees-setting refl refl) (λ found. agrees-pure (value.List found) (bar_sign sign.Comma)) refl) refl

  agrees-expect_to : Agrees (Unit {0}) n spec.expect_to (lines.◌or◌ (a_word (codes "to")) (mark sign.Equal)) 1 value_heads nothing
  unfolding spec.expect_to
  agrees-expect_to = agrees-same there back (agrees-word (codes "to") (agrees-pure tt nothing) (agrees-expect_sign sign.Equal) refl)
    where
      there : (ts : Tokens) (u : Unit {0}) (us : Tokens) → (lines.◌or◌ (lines.◌>>◌ (a_word (codes "to")) (gives tt)) (mark sign.Equal)) ts u us → (lines.◌or◌ (a_word (codes "to")) (mark sign.Equal)) ts u us
      there ts u us (inl (v, middle, front, same)) = inl (ending front (sym same.1))
      there ts u us (inr equal) = inr equal

      back : (ts : Tokens) (u : Unit {0}) (us : Tokens) → (lines.◌or◌ (a_word (codes "to")) (mark sign.Equal)) ts u us → (lines.◌or◌ (lines.◌>>◌ (a_word (codes "to")) (gives tt)) (mark sign.Equal)) ts u us
      back ts u us (inl front) = inl (tt, us, front, (refl, refl))
      back ts u us (inr equal) = inr equal

  agrees-valued : (local : Bool) (name : Text) → Agrees (Unit {0}) n (valued_read local name) (valued local name) 2 value_heads (bar_sign sign.Comma)
  agrees-valued local name = agrees-bind agrees-expect_to (λ u. agrees-bind agrees-set_value (λ v. agrees-pure (command.Set (record { name = name; local = local; value = v })) (bar_sign sign.Comma)) refl) refl

  agrees-scoped : (local : Bool) → Agrees (Unit {0}) n (scoped_read local) (scoped local) 3 (Head.name ∷ []) (bar_sign sign.Comma)
  agrees-scoped local = agrees-bind agrees-name (agrees-valued local) refl

-- the line in the order in which it is read
abbrev session_or_not : Line Command
session_or_not = lines.◌or◌ (lines.◌>>◌ (a_word (codes "session")) (lines.◌>>◌ (ahead name) (scoped false))) (lines.◌>>◌ (unless (lines.◌>>◌ (a_word (codes "session")) name)) (scoped false))

abbrev ordered : Line Command
ordered = lines.◌or◌ (lines.◌>>◌ (a_word (codes "local")) (lines.◌>>◌ (ahead name) (scoped true))) (lines.◌>>◌ (unless (lines.◌>>◌ (a_word (codes "local")) name)) session_or_not)

set-there : (ts : Tokens) (c : Command) (us : Tokens) → ordered ts c us → line.set ts c us
unfolding line.set
set-there ts c us (inl (u, middle, here, (v, start, front, rest))) = (true, start, inr (inl (u, middle, here, (v, start, front, (refl, refl)))), rest)
set-there ts c us (inr (x, first, none, inl (u, middle, here, (v, start, front, rest)))) = (false, start, inl (u, middle, beginning none.0 here, (v, start, front, (refl, refl))), rest)
set-there ts c us (inr (x, first, none, inr (y, second, neither, rest))) =
    (false, second, inr (inr (tt, second, (neither.0 ∙ none.0, both), (refl, refl))), rest)
  where
    both : (a : Text) (vs : Tokens) → ¬ (lines.◌>>◌ (lines.◌or◌ (a_word (codes "session")) (a_word (codes "local"))) name) ts a vs
    both a vs (u, middle, inl session, named) = neither.1 a vs (u, middle, beginning (sym none.0) session, named)
    both a vs (u, middle, inr local, named) = none.1 a vs (u, middle, local, named)

moved : (local wanted : Bool) (middle start : Tokens) (c : Command) (us : Tokens) → (local ≡ wanted) × (middle ≡ start) → scoped local middle c us → scoped wanted start c us
moved local wanted middle start c us same rest = subst (λ l. scoped l start c us) same.0 (subst (λ vs. scoped local vs c us) same.1 rest)

-- SESSION is not LOCAL
not-local : (ts middle : Tokens) → TakesToken (token.Word (codes "session")) ts middle → (a : Text) (vs : Tokens) → ¬ (lines.◌>>◌ (a_word (codes "local")) name) ts a vs
unfolding sees_word
not-local ts middle here a vs (u, last, local, named) = let clash : true ≡ false = ap (sees_word (codes "local")) (sym local.tokens ∙ here.tokens) in cc

set-back : (ts : Tokens) (c : Command) (us : Tokens) → line.set ts c us → ordered ts c us
unfolding line.set
set-back ts c us (local, middle, inl (u, start, here, (v, last, front, same)), rest) =
    inr (tt, ts, (refl, not-local ts start here), inl (u, start, here, (v, last, front, moved local false middle last c us same rest)))
set-back ts c us (local, middle, inr (inl (u, start, here, (v, last, front, same))), rest) = inl (u, start, here, (v, last, front, moved local true middle last c us same rest))
set-back ts c us (local, middle, inr (inr (v, start, none, same)), rest) =
    inr (
      tt,
      ts,
      (refl, λ a vs spelt. none.1 a vs (spelt.0, spelt.1, inr spelt.2, spelt.3)),
      inr (
        tt,
        ts,
        (refl, λ a vs spelt. none.1 a vs (spelt.0, spelt.1, inl spelt.2, spelt.3)),
        moved local false middle ts c us (same.0, same.1 ∙ none.0) rest,
      ),
    )

module _ {n : ℕ} where
  pub agrees-set : Agrees (Unit {0}) n spec.set line.set 3 (Head.word (codes "local") ∷ Head.word (codes "session") ∷ Head.name ∷ []) (bar_sign sign.Comma)
  unfolding spec.set spec.scope
  agrees-set = agrees-same set-there set-back (agrees-keyword (codes "local") (λ found. cond found (pure true) (eat_before_name (codes "session") >>= (λ u. pure false)) >>= scoped_read) (looks-name (codes "local")) (agrees-scoped true)
      (agrees-keyword (codes "session") (λ found. scoped_read false) (looks-name (codes "session")) (agrees-scoped false) (agrees-scoped false)))

  pub agrees-reset : Agrees (Unit {0}) n spec.reset (lines.◌<$>◌ command.Reset name) 1 (Head.name ∷ []) nothing
  unfolding spec.reset
  agrees-reset = agrees-bind agrees-name (λ found. agrees-pure (command.Reset found) nothing) refl

  pub agrees-show : Agrees (Unit {0}) n spec.show (lines.◌<$>◌ command.Show name) 1 (Head.name ∷ []) nothing
  unfolding spec.show
  agrees-show = agrees-bind agrees-name (λ found. agrees-pure (command.Show found) nothing) refl
