-- Answers that don't hang on an order of the rows.
use Rattle.std.proofs.Common.{◌≡◌, Bool, true, false, Result, Ok, Err, sym, ◌∙◌, true≢false}
use Rattle.q_base.specs.declared.code.Code.{Code}
use Rattle.query_tree.specs.declared.query.Query.{Query}
use Rattle.query_meaning.specs.Rows.{Row, Meaning, listed, over, faulty}
use Rattle.query_meaning.specs.Answers.{Outcomes, Cut, AnswersWhere, AnswersBy, Answers, is_open, is_list, cut_of}

same_where : (lets : Bool) (query : Query) (params : Row) (cut : Cut) (rows : Meaning) (one other : Outcomes) → is_list rows ≡ false →
    AnswersWhere lets query params cut rows one → AnswersWhere lets query params cut rows other → one ≡ other
same_where false query params cut rows one other whole a b = a ∙ sym b
same_where true query params cut over one other whole a b = a ∙ sym b
same_where true query params cut (faulty code) one other whole a b = a ∙ sym b
same_where true query params cut (listed rows) one other whole a b = absurd (true≢false whole)

same_by : (cut : Result Cut Code) (query : Query) (params : Row) (rows : Meaning) (one other : Outcomes) → is_list rows ≡ false →
    AnswersBy cut query params rows one → AnswersBy cut query params rows other → one ≡ other
same_by (Err code) query params rows one other whole a b = a ∙ sym b
same_by (Ok cut) query params rows one other whole a b = same_where (is_open cut.most) query params cut rows one other whole a b

pub same : (query : Query) (params : Row) (rows : Meaning) (one other : Outcomes) → is_list rows ≡ false →
    Answers query params rows one → Answers query params rows other → one ≡ other
same query params rows one other whole a b = same_by (cut_of query params) query params rows one other whole a b
