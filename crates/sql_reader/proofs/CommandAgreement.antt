-- Commands are read exactly where they are spelt.
use Rattle.std.proofs.Common.{◌≡◌, ◌↔◌, inl, inr, ℕ, Bool, true, false, cond, ◌||◌, List, [], ◌∷◌, length, Option, Some, None, codes, refl, sym, ap, subst, ◌∙◌, arith}
use Rattle.std.specs.Prelude.{Result, Ok, Err, MatchResult, nat_lt}
use Rattle.std.specs.Map.{lookup}
use Rattle.std.specs.Str.{bytes_eq}
use Rattle.std.proofs.lemmas.Slice.Eq.{bytes_eq-Decides}
use Rattle.std.proofs.lemmas.Bool.{ltb-true, ltb-false, lt-ltb, le-ltb}
use Rattle.q_base.specs.declared.code.Code.TheVariants.{StackDepthExceeded}
use Rattle.q_base.specs.declared.errors.SqlError.{SqlError}
use Rattle.q_base.specs.declared.errors.Stop.{Stop}
use Rattle.q_base.specs.declared.errors.Stop.TheVariants.{Sql, NoMemory}
use Rattle.q_base.specs.Stops.{StopsBy}
use Rattle.sql_tokens.specs.declared.token.Token.{Token}
use Rattle.sql_tokens.specs.declared.token.Token.TheVariants as token
use Rattle.sql_tree.specs.declared.command.Command.{Command}
use Rattle.sql_expr.specs.Load.{load_of}
use Rattle.sql_expr.specs.Reading.{Text, Tokens, Outcome, Parser}
use Rattle.sql_expr.specs.Lines.{Line, word as a_word, TakesToken}
use Rattle.sql_expr.specs.Lines as lines
use Rattle.sql_reader.specs.declared.leading.Keyword.{Keyword}
use Rattle.sql_reader.specs.Leading.{leading_words, keyword_of}
use Rattle.sql_reader.specs.Commands.{from_keyword, from_word, whole, command_of, or_syntax_error, command_read}
use Rattle.sql_reader.specs.Commands as spec
use Rattle.sql_reader.specs.Grammar.{SpellsAll, IsRead}
use Rattle.sql_reader_query.specs.Statements as statements
use Rattle.sql_expr.proofs.Heads.{Barred, Head, begins}
use Rattle.sql_expr.proofs.Agreement.{Agrees}
use Rattle.sql_reader.proofs.CommandCases.{line-command, case-command}
use Rattle.sql_reader.proofs.CommandLines as line
use Rattle.sql_reader.proofs.StatementAgreement.{agrees-statement_command}
use Rattle.sql_reader.proofs.PreparedAgreement.{agrees-prepare, agrees-execute, agrees-explain, agrees-deallocate, agrees-discard}
use Rattle.sql_reader.proofs.CursorAgreement.{agrees-declare}
use Rattle.sql_reader.proofs.MotionAgreement.{agrees-fetch, agrees-move_cursor, agrees-close}
use Rattle.sql_reader.proofs.BlockAgreement.{agrees-begin, agrees-start, agrees-commit, agrees-rollback, agrees-abort, agrees-savepoint, agrees-release}
use Rattle.sql_reader.proofs.SettingAgreement.{agrees-set, agrees-reset, agrees-show}
use Rattle.sql_reader.proofs.CreationAgreement.{agrees-create}
use Rattle.sql_reader.proofs.RemovalAgreement.{agrees-drop_object, agrees-truncate, agrees-analyze}
use Rattle.sql_reader.proofs.AlterationAgreement.{agrees-alter}
use Rattle.sql_reader.proofs.LineAgreement.{agrees-backslash_line}

-- ---- what is read is spelt

-- The command behind a leading word is spelt from that word on.
abbrev Row : Text × Keyword → Type 0
Row row = (ts : Tokens) (c : Command) (us : Tokens) → from_keyword (Some row.1) (token.Word row.0 ∷ ts) ≡ Some (c, us) → line.command (token.Word row.0 ∷ ts) c us

abbrev Rows : List (Text × Keyword) → Type 0
Rows [] = Unit {0}
Rows (row ∷ rows) = Row row × Rows rows

by_rows : (rows : List (Text × Keyword)) → Rows rows → (w : Text) (ts : Tokens) (c : Command) (us : Tokens)
    → from_keyword (lookup (λ leading. bytes_eq leading w) rows) (token.Word w ∷ ts) ≡ Some (c, us) → line.command (token.Word w ∷ ts) c us
by_rows [] all w ts c us e = cc
by_rows (row ∷ rows) all w ts c us e = by (bytes_eq row.0 w) refl (by_rows rows all.1 w ts c us)
  where
    Found : Bool → Type 0
    Found b = from_keyword (cond b (Some row.1) (lookup (λ leading. bytes_eq leading w) rows)) (token.Word w ∷ ts) ≡ Some (c, us)

    by : (b : Bool) → bytes_eq row.0 w ≡ b
        → (from_keyword (lookup (λ leading. bytes_eq leading w) rows) (token.Word w ∷ ts) ≡ Some (c, us) → line.command (token.Word w ∷ ts) c us) → line.command (token.Word w ∷ ts) c us
    by true q later =
        let same = (bytes_eq-Decides row.0 w).0 q in
        let here : from_keyword (Some row.1) (token.Word w ∷ ts) ≡ Some (c, us) = subst Found q e in
        subst (λ v. line.command (token.Word v ∷ ts) c us) same (all.0 ts c us (subst (λ v. from_keyword (Some row.1) (token.Word v ∷ ts) ≡ Some (c, us)) (sym same) here))
    by false q later = later (subst Found q e)

all_rows : Rows leading_words
unfolding line.command
all_rows = (
  (λ ts c us e. inr (inr (inr (inl (inr (inr (inr (inr (inr (inl (tt, ts, record { tokens = refl }, (agrees-abort {n = 0}).sound tt ts c us e))))))))))),
  (
    (λ ts c us e. inr (inr (inr (inr (inr (inl (inr (inr (inr (inr ((tt, ts, record { tokens = refl }, (agrees-alter {n = 0}).sound tt ts c us e)))))))))))),
    (
      (λ ts c us e. inr (inr (inr (inr (inr (inl (inr (inr (inr (inl (tt, ts, record { tokens = refl }, (agrees-analyze {n = 0}).sound tt ts c us e))))))))))),
      (
        (λ ts c us e. inr (inr (inr (inl (inl (tt, ts, record { tokens = refl }, (agrees-begin {n = 0}).sound tt ts c us e)))))),
        (
          (λ ts c us e. inr (inr (inl (inr (inr (inr ((tt, ts, record { tokens = refl }, (agrees-close {n = 0}).sound tt ts c us e)))))))),
          (
            (λ ts c us e. inr (inr (inr (inl (inr (inr (inl (tt, ts, record { tokens = refl }, (agrees-commit {n = 0}).sound tt ts c us e)))))))),
            (
              (λ ts c us e. inr (inr (inr (inr (inr (inl (inl (tt, ts, record { tokens = refl }, (agrees-create {n = 0}).sound tt ts c us e)))))))),
              (
                (λ ts c us e. inr (inl (inr (inr (inr (inl (tt, ts, record { tokens = refl }, (agrees-deallocate {n = 0}).sound tt ts c us e))))))),
                (
                  (λ ts c us e. inr (inr (inl (inl (tt, ts, record { tokens = refl }, (agrees-declare {n = 0}).sound tt ts c us e))))),
                  (
                    (λ ts c us e. inl ((agrees-statement_command {n = 0}).sound tt (token.Word (codes "delete") ∷ ts) c us e)),
                    (
                      (λ ts c us e. inr (inl (inr (inr (inr (inr ((tt, ts, record { tokens = refl }, (agrees-discard {n = 0}).sound tt ts c us e)))))))),
                      (
                        (λ ts c us e. inr (inr (inr (inr (inr (inl (inr (inl (tt, ts, record { tokens = refl }, (agrees-drop_object {n = 0}).sound tt ts c us e))))))))),
                        (
                          (λ ts c us e. inr (inr (inr (inl (inr (inr (inr (inl (tt, ts, record { tokens = refl }, (agrees-commit {n = 0}).sound tt ts c us e))))))))),
                          (
                            (λ ts c us e. inr (inl (inr (inl (tt, ts, record { tokens = refl }, (agrees-execute {n = 0}).sound tt ts c us e))))),
                            (
                              (λ ts c us e. inr (inl (inr (inr (inl (tt, ts, record { tokens = refl }, (agrees-explain {n = 0}).sound tt ts c us e)))))),
                              (
                                (λ ts c us e. inr (inr (inl (inr (inl (tt, ts, record { tokens = refl }, (agrees-fetch {n = 0}).sound tt ts c us e)))))),
                                (
                                  (λ ts c us e. inl ((agrees-statement_command {n = 0}).sound tt (token.Word (codes "insert") ∷ ts) c us e)),
                                  (
                                    (λ ts c us e. inr (inr (inl (inr (inr (inl (tt, ts, record { tokens = refl }, (agrees-move_cursor {n = 0}).sound tt ts c us e))))))),
                                    (
                                      (λ ts c us e. inr (inl (inl (tt, ts, record { tokens = refl }, (agrees-prepare {n = 0}).sound tt ts c us e)))),
                                      (
                                        (λ ts c us e. inr (inr (inr (inl (inr (inr (inr (inr (inr (inr (inr ((tt, ts, record { tokens = refl }, (agrees-release {n = 0}).sound tt ts c us e))))))))))))),
                                        (
                                          (λ ts c us e. inr (inr (inr (inr (inl (inr (inl (tt, ts, record { tokens = refl }, (agrees-reset {n = 0}).sound tt ts c us e)))))))),
                                          (
                                            (λ ts c us e. inr (inr (inr (inl (inr (inr (inr (inr (inl (tt, ts, record { tokens = refl }, (agrees-rollback {n = 0}).sound tt ts c us e)))))))))),
                                            (
                                              (λ ts c us e. inr (inr (inr (inl (inr (inr (inr (inr (inr (inr (inl (tt, ts, record { tokens = refl }, (agrees-savepoint {n = 0}).sound tt ts c us e)))))))))))),
                                              (
                                                (λ ts c us e. inl ((agrees-statement_command {n = 0}).sound tt (token.Word (codes "select") ∷ ts) c us e)),
                                                (
                                                  (λ ts c us e. inr (inr (inr (inr (inl (inl (tt, ts, record { tokens = refl }, (agrees-set {n = 0}).sound tt ts c us e))))))),
                                                  (
                                                    (λ ts c us e. inr (inr (inr (inr (inl (inr (inr ((tt, ts, record { tokens = refl }, (agrees-show {n = 0}).sound tt ts c us e))))))))),
                                                    (
                                                      (λ ts c us e. inr (inr (inr (inl (inr (inl (tt, ts, record { tokens = refl }, (agrees-start {n = 0}).sound tt ts c us e))))))),
                                                      (
                                                        (λ ts c us e. inr (inr (inr (inr (inr (inl (inr (inr (inl (tt, ts, record { tokens = refl }, (agrees-truncate {n = 0}).sound tt ts c us e)))))))))),
                                                        (
                                                          (λ ts c us e. inl ((agrees-statement_command {n = 0}).sound tt (token.Word (codes "update") ∷ ts) c us e)),
                                                          tt,
                                                        ),
                                                      ),
                                                    ),
                                                  ),
                                                ),
                                              ),
                                            ),
                                          ),
                                        ),
                                      ),
                                    ),
                                  ),
                                ),
                              ),
                            ),
                          ),
                        ),
                      ),
                    ),
                  ),
                ),
              ),
            ),
          ),
        ),
      ),
    ),
  ),
)

pub command-sound : (ts : Tokens) (c : Command) (us : Tokens) → spec.command ts ≡ Some (c, us) → line.command ts c us
unfolding spec.command from_word keyword_of line.command
command-sound (token.Word w ∷ ts) c us e = by_rows leading_words all_rows w ts c us e
command-sound (token.Backslash letters ∷ ts) c us e = inr (inr (inr (inr (inr (inr ((agrees-backslash_line {n = 0} letters).sound tt ts c us e))))))
command-sound [] c us e = cc
command-sound (token.Quoted x ∷ ts) c us e = cc
command-sound (token.Sign x ∷ ts) c us e = cc
command-sound (token.Number x ∷ ts) c us e = cc
command-sound (token.Text x ∷ ts) c us e = cc
command-sound (token.Param x ∷ ts) c us e = cc

-- ---- what is spelt is read

behind_word : {run : Parser Command} {P : Line Command} {k : ℕ} {heads : List Head} {tail : Barred} (w : Text) → ((n : ℕ) → Agrees (Unit {0}) n run P k heads tail)
    → ((ts : Tokens) → spec.command (token.Word w ∷ ts) ≡ run ts) → (ts : Tokens) (c : Command) → (lines.◌>>◌ (a_word w) P) ts c [] → spec.command ts ≡ Some (c, [])
behind_word w agrees begins ts c (u, behind, here, rest) = ap spec.command here.tokens ∙ (begins behind ∙ (agrees (length behind)).complete behind c [] (omega arith) rest refl)

statement-word : (w : Text) (ts : Tokens) → (bytes_eq w (codes "select") || (bytes_eq w (codes "insert") || (bytes_eq w (codes "update") || (bytes_eq w (codes "delete") || false)))) ≡ true
    → spec.command (token.Word w ∷ ts) ≡ statements.statement_command (token.Word w ∷ ts)
unfolding spec.command from_word keyword_of
statement-word w ts e = by (bytes_eq w (codes "select")) (bytes_eq w (codes "insert")) (bytes_eq w (codes "update")) (bytes_eq w (codes "delete")) refl refl refl refl e
  where
    Same : Text → Type 0
    Same v = spec.command (token.Word v ∷ ts) ≡ statements.statement_command (token.Word v ∷ ts)

    moved : (v : Text) → bytes_eq w v ≡ true → Same v → Same w
    moved v q same = subst Same (sym ((bytes_eq-Decides w v).0 q)) same

    by : (s i u d : Bool) → bytes_eq w (codes "select") ≡ s → bytes_eq w (codes "insert") ≡ i → bytes_eq w (codes "update") ≡ u → bytes_eq w (codes "delete") ≡ d → (s || (i || (u || (d || false)))) ≡ true → Same w
    by true i u d q r v x y = moved (codes "select") q refl
    by false true u d q r v x y = moved (codes "insert") r refl
    by false false true d q r v x y = moved (codes "update") v refl
    by false false false true q r v x y = moved (codes "delete") x refl
    by false false false false q r v x y = cc

statement-begins : (ts : Tokens) → begins (Head.word (codes "select") ∷ Head.word (codes "insert") ∷ Head.word (codes "update") ∷ Head.word (codes "delete") ∷ []) ts ≡ true → spec.command ts ≡ statements.statement_command ts
statement-begins [] e = cc
statement-begins (token.Word w ∷ ts) e = statement-word w ts e
statement-begins (token.Quoted x ∷ ts) e = cc
statement-begins (token.Sign x ∷ ts) e = cc
statement-begins (token.Number x ∷ ts) e = cc
statement-begins (token.Text x ∷ ts) e = cc
statement-begins (token.Param x ∷ ts) e = cc
statement-begins (token.Backslash x ∷ ts) e = cc

prepared-complete : (ts : Tokens) (c : Command) → line.prepared_command ts c [] → spec.command ts ≡ Some (c, [])
unfolding spec.command from_word keyword_of
prepared-complete ts c (inl here) = behind_word (codes "prepare") (λ n. agrees-prepare {n = n}) (λ vs. refl) ts c here
prepared-complete ts c (inr (inl here)) = behind_word (codes "execute") (λ n. agrees-execute {n = n}) (λ vs. refl) ts c here
prepared-complete ts c (inr (inr (inl here))) = behind_word (codes "explain") (λ n. agrees-explain {n = n}) (λ vs. refl) ts c here
prepared-complete ts c (inr (inr (inr (inl here)))) = behind_word (codes "deallocate") (λ n. agrees-deallocate {n = n}) (λ vs. refl) ts c here
prepared-complete ts c (inr (inr (inr (inr here)))) = behind_word (codes "discard") (λ n. agrees-discard {n = n}) (λ vs. refl) ts c here

cursor-complete : (ts : Tokens) (c : Command) → line.cursor_command ts c [] → spec.command ts ≡ Some (c, [])
unfolding spec.command from_word keyword_of
cursor-complete ts c (inl here) = behind_word (codes "declare") (λ n. agrees-declare {n = n}) (λ vs. refl) ts c here
cursor-complete ts c (inr (inl here)) = behind_word (codes "fetch") (λ n. agrees-fetch {n = n}) (λ vs. refl) ts c here
cursor-complete ts c (inr (inr (inl here))) = behind_word (codes "move") (λ n. agrees-move_cursor {n = n}) (λ vs. refl) ts c here
cursor-complete ts c (inr (inr (inr here))) = behind_word (codes "close") (λ n. agrees-close {n = n}) (λ vs. refl) ts c here

block-complete : (ts : Tokens) (c : Command) → line.block_command ts c [] → spec.command ts ≡ Some (c, [])
unfolding spec.command from_word keyword_of
block-complete ts c (inl here) = behind_word (codes "begin") (λ n. agrees-begin {n = n}) (λ vs. refl) ts c here
block-complete ts c (inr (inl here)) = behind_word (codes "start") (λ n. agrees-start {n = n}) (λ vs. refl) ts c here
block-complete ts c (inr (inr (inl here))) = behind_word (codes "commit") (λ n. agrees-commit {n = n}) (λ vs. refl) ts c here
block-complete ts c (inr (inr (inr (inl here)))) = behind_word (codes "end") (λ n. agrees-commit {n = n}) (λ vs. refl) ts c here
block-complete ts c (inr (inr (inr (inr (inl here))))) = behind_word (codes "rollback") (λ n. agrees-rollback {n = n}) (λ vs. refl) ts c here
block-complete ts c (inr (inr (inr (inr (inr (inl here)))))) = behind_word (codes "abort") (λ n. agrees-abort {n = n}) (λ vs. refl) ts c here
block-complete ts c (inr (inr (inr (inr (inr (inr (inl here))))))) = behind_word (codes "savepoint") (λ n. agrees-savepoint {n = n}) (λ vs. refl) ts c here
block-complete ts c (inr (inr (inr (inr (inr (inr (inr here))))))) = behind_word (codes "release") (λ n. agrees-release {n = n}) (λ vs. refl) ts c here

setting-complete : (ts : Tokens) (c : Command) → line.setting_command ts c [] → spec.command ts ≡ Some (c, [])
unfolding spec.command from_word keyword_of
setting-complete ts c (inl here) = behind_word (codes "set") (λ n. agrees-set {n = n}) (λ vs. refl) ts c here
setting-complete ts c (inr (inl here)) = behind_word (codes "reset") (λ n. agrees-reset {n = n}) (λ vs. refl) ts c here
setting-complete ts c (inr (inr here)) = behind_word (codes "show") (λ n. agrees-show {n = n}) (λ vs. refl) ts c here

catalog-complete : (ts : Tokens) (c : Command) → line.catalog_command ts c [] → spec.command ts ≡ Some (c, [])
unfolding spec.command from_word keyword_of
catalog-complete ts c (inl here) = behind_word (codes "create") (λ n. agrees-create {n = n}) (λ vs. refl) ts c here
catalog-complete ts c (inr (inl here)) = behind_word (codes "drop") (λ n. agrees-drop_object {n = n}) (λ vs. refl) ts c here
catalog-complete ts c (inr (inr (inl here))) = behind_word (codes "truncate") (λ n. agrees-truncate {n = n}) (λ vs. refl) ts c here
catalog-complete ts c (inr (inr (inr (inl here)))) = behind_word (codes "analyze") (λ n. agrees-analyze {n = n}) (λ vs. refl) ts c here
catalog-complete ts c (inr (inr (inr (inr here)))) = behind_word (codes "alter") (λ n. agrees-alter {n = n}) (λ vs. refl) ts c here

line-complete : (ts : Tokens) (c : Command) → line.backslash_line ts c [] → spec.command ts ≡ Some (c, [])
unfolding line.backslash_line spec.command
line-complete ts c here = by here
  where
    at : (letters : Text) (behind : Tokens) → TakesToken (token.Backslash letters) ts behind → spec.command ts ≡ Some (c, [])
    at letters behind same = ap spec.command same.tokens ∙ (agrees-backslash_line {n = length behind} letters).complete behind c [] (omega arith) (subst (λ vs. line.backslash_line vs c []) same.tokens here) refl

    by : line.backslash_line ts c [] → spec.command ts ≡ Some (c, [])
    by (inl (u, behind, same, rest)) = at (codes "prepared") behind same
    by (inr (inl (u, behind, same, rest))) = at (codes "cursors") behind same
    by (inr (inr (inl (u, behind, same, rest)))) = at (codes "sync") behind same
    by (inr (inr (inr (inl (u, behind, same, rest))))) = at (codes "parse") behind same
    by (inr (inr (inr (inr (inl (u, behind, same, rest)))))) = at (codes "bind") behind same
    by (inr (inr (inr (inr (inr (inl (u, behind, same, rest))))))) = at (codes "run") behind same
    by (inr (inr (inr (inr (inr (inr (u, behind, same, rest))))))) = at (codes "end") behind same

command-complete : (ts : Tokens) (c : Command) → line.command ts c [] → spec.command ts ≡ Some (c, [])
unfolding line.command spec.command
command-complete ts c (inl here) =
    let agrees = agrees-statement_command {n = length ts} in
    statement-begins ts (agrees.starts ts c [] here refl) ∙ agrees.complete ts c [] (omega arith) here refl
command-complete ts c (inr (inl here)) = prepared-complete ts c here
command-complete ts c (inr (inr (inl here))) = cursor-complete ts c here
command-complete ts c (inr (inr (inr (inl here)))) = block-complete ts c here
command-complete ts c (inr (inr (inr (inr (inl here))))) = setting-complete ts c here
command-complete ts c (inr (inr (inr (inr (inr (inl here)))))) = catalog-complete ts c here
command-complete ts c (inr (inr (inr (inr (inr (inr here)))))) = line-complete ts c here

-- ---- all the tokens

whole-read : (o : Outcome Command) (c : Command) → whole o ≡ Some c → o ≡ Some (c, [])
whole-read (Some (d, [])) c e = cc
whole-read (Some (d, t ∷ ts)) c e = cc
whole-read None c e = cc

pub spelt-when-read : (ts : Tokens) (c : Command) → command_of ts ≡ Some c → SpellsAll ts c
unfolding command_of
spelt-when-read ts c e = case-command ts c [] (command-sound ts c [] (whole-read (spec.command ts) c e))

pub read-when-spelt : (ts : Tokens) (c : Command) → SpellsAll ts c → command_of ts ≡ Some c
unfolding command_of
read-when-spelt ts c spelt = ap whole (command-complete ts c (line-command spelt))

-- ---- commands and refusals

some-one : (c d : Command) → ◌≡◌ {A = Option Command} (Some c) (Some d) → c ≡ d
some-one c d e = cc

pub one_spelt : (tokens : List Token) (first second : Command) → SpellsAll tokens first → SpellsAll tokens second → first ≡ second
one_spelt tokens first second here there = some-one first second (sym (read-when-spelt tokens first here) ∙ read-when-spelt tokens second there)

none-spelt : (tokens : List Token) → command_of tokens ≡ None → (c : Command) → ¬ SpellsAll tokens c
none-spelt tokens none c spelt = let read = sym none ∙ read-when-spelt tokens c spelt in cc

-- what was read, by whether the load passes the limit, and by what the tokens spell
read-cases : (tokens : List Token) (deep : Bool) (found : Option Command) → nat_lt 200 (load_of tokens) ≡ deep → command_of tokens ≡ found
    → IsRead tokens (cond deep (Err (record { code = StackDepthExceeded; args = [] })) (or_syntax_error found))
read-cases tokens true found over here = inl (ltb-true 200 (load_of tokens) over, refl)
read-cases tokens false (Some c) over here = (ltb-false 200 (load_of tokens) over, spelt-when-read tokens c here)
read-cases tokens false None over here = inr (ltb-false 200 (load_of tokens) over, none-spelt tokens here, refl)

pub is-read : (tokens : List Token) → IsRead tokens (command_read tokens)
is-read tokens = read-cases tokens (nat_lt 200 (load_of tokens)) (command_of tokens) refl refl

none-other : (tokens : List Token) → ((c : Command) → ¬ SpellsAll tokens c) → command_of tokens ≡ None
none-other tokens none = by (command_of tokens) refl
  where
    by : (found : Option Command) → command_of tokens ≡ found → command_of tokens ≡ None
    by None same = same
    by (Some c) same = absurd (none c (spelt-when-read tokens c same))

pub read-exactly : (tokens : List Token) (read : Result Command SqlError) → IsRead tokens read → command_read tokens ≡ read
read-exactly tokens (Ok c) is =
    ap (λ deep. cond deep (Err (record { code = StackDepthExceeded; args = [] })) (or_syntax_error (command_of tokens))) (le-ltb 200 (load_of tokens) is.0)
    ∙ ap or_syntax_error (read-when-spelt tokens c is.1)
read-exactly tokens (Err error) (inl (over, same)) =
    ap (λ deep. cond deep (Err (record { code = StackDepthExceeded; args = [] })) (or_syntax_error (command_of tokens))) (lt-ltb 200 (load_of tokens) over) ∙ ap Err (sym same)
read-exactly tokens (Err error) (inr (within, none, same)) =
    ap (λ deep. cond deep (Err (record { code = StackDepthExceeded; args = [] })) (or_syntax_error (command_of tokens))) (le-ltb 200 (load_of tokens) within)
    ∙ (ap or_syntax_error (none-other tokens none) ∙ ap Err (sym same))

pub is-exactly : (tokens : List Token) (read : Result Command SqlError) → IsRead tokens read ↔ (command_read tokens ≡ read)
is-exactly tokens read = (read-exactly tokens read, λ same. subst (IsRead tokens) same (is-read tokens))

pub one_read : (tokens : List Token) (first second : Result Command SqlError) → IsRead tokens first → IsRead tokens second → first ≡ second
one_read tokens first second here there = sym (read-exactly tokens first here) ∙ read-exactly tokens second there

-- the same of a call that may lack memory
pub reading : (tokens : List Token) (result : Result Command Stop)
    → MatchResult result (λ c. command_read tokens ≡ Ok c) (StopsBy (λ error. command_read tokens ≡ Err error))
    → MatchResult result (λ c. IsRead tokens (Ok c)) (StopsBy (λ error. IsRead tokens (Err error)))
reading tokens (Ok c) same = subst (IsRead tokens) same (is-read tokens)
reading tokens (Err NoMemory) same = tt
reading tokens (Err (Sql error)) same = subst (IsRead tokens) same (is-read tokens)
