-- What stands behind FROM is read exactly where it is spelt.
use Rattle.std.proofs.Common.{◌≡◌, inl, inr, ℕ, true, false, cond, [], ◌∷◌, Option, Some, None, codes, refl, arith}
use Rattle.sql_tokens.specs.declared.token.Sign.TheVariants as sign
use Rattle.sql_tree.specs.declared.select.Join.{Join}
use Rattle.sql_tree.specs.declared.select.Join.TheVariants.{Inner, Cross}
use Rattle.sql_expr.specs.Reading.{Tokens, Parser, ◌>>=◌, ◌>>◌, ◌<$>◌, refuse, eat_word, expect_word}
use Rattle.sql_expr.specs.Names.{is_reserved}
use Rattle.sql_expr.specs.Lines.{Line, gives, word as a_word, maybe}
use Rattle.sql_expr.specs.Lines as lines
use Rattle.sql_expr.specs.Grammar as expression
use Rattle.sql_reader_query.specs.Lists as spec_lists
use Rattle.sql_reader_query.specs.FromClause as spec
use Rattle.sql_expr.proofs.LineWords.{nowhere}
use Rattle.sql_expr.proofs.LineWords as words
use Rattle.sql_expr.proofs.Heads.{Barred, Head, all_avoid}
use Rattle.sql_expr.proofs.Agreement.{Agrees, agrees-pure, agrees-refuse, agrees-bind, agrees-same, agrees-fewer, agrees-word, agrees-expect_word, beginning}
use Rattle.sql_expr.proofs.ListAgreement.{agrees-list}
use Rattle.sql_expr.proofs.ExpressionAgreement.{agrees-expression, operators}
use Rattle.sql_expr.proofs.TokenKinds.{bar_names}
use Rattle.sql_reader.proofs.CommandLines as line
use Rattle.sql_reader.proofs.NameAgreement.{agrees-relation}
use Rattle.sql_reader.proofs.OptionalAgreement.{also, agrees-any, agrees-many, Less, less-refuse, less-word}
use Rattle.sql_reader.proofs.OutputAgreement.{agrees-alias, output_tail}

-- ---- relation alias

abbrev pub item_tail : Barred
item_tail = also (codes "as" ∷ []) (sign.Dot ∷ []) bar_names

pub agrees-item : {n : ℕ} → Agrees (Unit {0}) n spec.item line.item 1 (Head.name ∷ []) item_tail
unfolding spec.item line.item is_reserved
agrees-item = agrees-bind agrees-relation (λ table. agrees-bind (agrees-alias item_tail refl refl) (λ named. agrees-pure (record { relation = table; alias = named }) item_tail) refl) refl

-- ---- [INNER] JOIN item ON expression | CROSS JOIN item

-- behind JOIN
abbrev inner_line : Line Join
inner_line = lines.◌>>=◌ line.item (λ joined. lines.◌>>◌ (a_word (codes "on")) (lines.◌>>=◌ expression.expression (λ condition. gives (Inner joined condition))))

-- behind CROSS
abbrev cross_line : Line Join
cross_line = lines.◌>>◌ (a_word (codes "join")) (lines.◌>>=◌ line.item (λ joined. gives (Cross joined)))

-- a join, or else what is read and spelt otherwise
abbrev join_or : Parser (Option Join) → Parser (Option Join)
join_or other = do
  crossed ← eat_word (codes "cross")
  cond crossed (Some <$> spec.cross_join) (do
    inner ← eat_word (codes "inner")
    cond inner (expect_word (codes "join") >> Some <$> spec.inner_join) (do
      joined ← eat_word (codes "join")
      cond joined (Some <$> spec.inner_join) other))

abbrev factored : Line (Option Join) → Line (Option Join)
factored other =
    lines.◌or◌ (lines.◌>>◌ (a_word (codes "cross")) (lines.◌<$>◌ Some cross_line))
    (lines.◌or◌ (lines.◌>>◌ (a_word (codes "inner")) (lines.◌>>◌ (a_word (codes "join")) (lines.◌<$>◌ Some inner_line)))
    (lines.◌or◌ (lines.◌>>◌ (a_word (codes "join")) (lines.◌<$>◌ Some inner_line)) other))

join-there : (other : Line (Option Join)) (ts : Tokens) (o : Option Join) (us : Tokens) → factored other ts o us → (lines.◌or◌ (lines.◌<$>◌ Some line.join) other) ts o us
unfolding line.join
join-there other ts o us (inl (u, middle, cross, (j, rest, spelt, given))) = inl (j, rest, inr (u, middle, cross, spelt), given)
join-there other ts o us (inr (inl (u, middle, inner, (v, behind_join, join, (j, rest, spelt, given))))) = inl (j, rest, inl (true, middle, inl (u, middle, inner, (refl, refl)), (v, behind_join, join, spelt)), given)
join-there other ts o us (inr (inr (inl (v, behind_join, join, (j, rest, spelt, given))))) = inl (j, rest, inl (false, ts, inr (refl, refl), (v, behind_join, join, spelt)), given)
join-there other ts o us (inr (inr (inr none))) = inr none

join-back : (other : Line (Option Join)) (ts : Tokens) (o : Option Join) (us : Tokens) → (lines.◌or◌ (lines.◌<$>◌ Some line.join) other) ts o us → factored other ts o us
unfolding line.join
join-back other ts o us (inl (j, rest, inr (u, middle, cross, spelt), given)) = inl (u, middle, cross, (j, rest, spelt, given))
join-back other ts o us (inl (j, rest, inl (b, middle, inl (u, behind_inner, inner, same), (v, behind_join, join, spelt)), given)) =
    inr (inl (u, behind_inner, inner, (v, behind_join, beginning same.1 join, (j, rest, spelt, given))))
join-back other ts o us (inl (j, rest, inl (b, middle, inr same, (v, behind_join, join, spelt)), given)) = inr (inr (inl (v, behind_join, beginning same.1 join, (j, rest, spelt, given))))
join-back other ts o us (inr none) = inr (inr (inr none))

certain-less : Less (join_or refuse) spec.join
unfolding spec.join
certain-less = less-word (codes "cross") _ (less-word (codes "inner") _ (less-word (codes "join") _ less-refuse))

-- behind a join
abbrev join_tail : Barred
join_tail = output_tail

-- behind a chain
abbrev pub chain_tail : Barred
chain_tail = also (codes "cross" ∷ codes "inner" ∷ codes "join" ∷ []) [] output_tail

-- [FROM list(chain)]
abbrev pub from_tail : Barred
from_tail = also (codes "from" ∷ []) (sign.Comma ∷ []) chain_tail

module _ {n : ℕ} where
  agrees-inner : (tail : Barred) → all_avoid operators (Head.others tail ∷ []) ≡ true → Agrees (Unit {0}) n spec.inner_join inner_line 1 (Head.name ∷ []) tail
  unfolding spec.inner_join is_reserved
  agrees-inner tail ends = agrees-fewer 1 (omega arith) (agrees-bind agrees-item (λ joined. agrees-bind (agrees-expect_word (codes "on")) (λ u. agrees-bind agrees-expression (λ condition. agrees-pure (Inner joined condition) tail) ends) refl) refl)

  agrees-cross : (tail : Barred) → all_avoid item_tail (Head.others tail ∷ []) ≡ true → Agrees (Unit {0}) n spec.cross_join cross_line 1 (Head.word (codes "join") ∷ []) tail
  unfolding spec.cross_join
  agrees-cross tail ends = agrees-fewer 1 (omega arith) (agrees-bind (agrees-expect_word (codes "join")) (λ u. agrees-bind agrees-item (λ joined. agrees-pure (Cross joined) tail) ends) refl)

  agrees-certain : Agrees (Unit {0}) n (join_or refuse) (lines.◌<$>◌ Some line.join) 1 (Head.word (codes "cross") ∷ Head.word (codes "inner") ∷ Head.word (codes "join") ∷ []) join_tail
  agrees-certain = agrees-same (λ ts o us s. certain-there ts o us (join-there nowhere ts o us s)) (λ ts o us s. join-back nowhere ts o us (inl s))
      (agrees-word (codes "cross") (agrees-bind (agrees-cross join_tail refl) (λ j. agrees-pure (Some j) join_tail) refl)
      (agrees-word (codes "inner") (agrees-bind (agrees-expect_word (codes "join")) (λ u. agrees-bind (agrees-inner join_tail refl) (λ j. agrees-pure (Some j) join_tail) refl) refl)
      (agrees-word (codes "join") (agrees-bind (agrees-inner join_tail refl) (λ j. agrees-pure (Some j) join_tail) refl) (agrees-refuse 1 [] join_tail) refl) refl) refl)
    where
      certain-there : (ts : Tokens) (o : Option Join) (us : Tokens) → (lines.◌or◌ (lines.◌<$>◌ Some line.join) nowhere) ts o us → (lines.◌<$>◌ Some line.join) ts o us
      certain-there ts o us (inl spelt) = spelt
      certain-there ts o us (inr none) = absurd none

  agrees-either : Agrees (Unit {0}) n spec.join (maybe line.join) 0 (Head.word (codes "cross") ∷ Head.word (codes "inner") ∷ Head.word (codes "join") ∷ Head.others chain_tail ∷ []) chain_tail
  unfolding spec.join
  agrees-either = agrees-same (join-there (gives None)) (join-back (gives None))
      (agrees-word (codes "cross") (agrees-bind (agrees-cross chain_tail refl) (λ j. agrees-pure (Some j) chain_tail) refl)
      (agrees-word (codes "inner") (agrees-bind (agrees-expect_word (codes "join")) (λ u. agrees-bind (agrees-inner chain_tail refl) (λ j. agrees-pure (Some j) chain_tail) refl) refl)
      (agrees-word (codes "join") (agrees-bind (agrees-inner chain_tail refl) (λ j. agrees-pure (Some j) chain_tail) refl) (agrees-pure None chain_tail) refl) refl) refl)

  agrees-joins : Agrees (Unit {0}) n spec.joins (lines.many line.join) 0 (Head.word (codes "cross") ∷ Head.word (codes "inner") ∷ Head.word (codes "join") ∷ Head.others chain_tail ∷ []) chain_tail
  unfolding spec.joins spec.joins_from is_reserved
  agrees-joins = agrees-many spec.joins_from (λ found ts. refl) (λ turns found ts. refl) agrees-certain agrees-either certain-less chain_tail refl refl

  pub agrees-chain : Agrees (Unit {0}) n spec.chain line.chain 1 (Head.name ∷ []) chain_tail
  unfolding spec.chain line.chain is_reserved
  agrees-chain = agrees-bind agrees-item (λ first. agrees-bind agrees-joins (λ further. agrees-pure (record { first = first; joins = further }) chain_tail) refl) refl

  pub agrees-from : Agrees (Unit {0}) n spec.from (words.any (lines.◌>>◌ (a_word (codes "from")) (words.list line.chain))) 0 (Head.word (codes "from") ∷ Head.others from_tail ∷ []) from_tail
  unfolding spec.from spec_lists.listed
  agrees-from = agrees-any (codes "from") from_tail (agrees-list from_tail agrees-chain refl refl) refl refl
