use Rattle.std.proofs.Common.{Ok, Err, get_or, sym, rules}
use Rattle.std.proofs.lemmas.Fn.{always_returns_same}
use Rattle.q_base.proofs.Tables.{found_by}
use Rattle.q_base.proofs.table.Table.find.Goals as goal

-- each call of the closure compares a row's key with the key that is looked for
pub returns-in-Ok : goal.returns-in-Ok
returns-in-Ok g c =
    let by_key = c.in-Ok.ensures.position (λ row. g.K.Ord.cmp row.0 c.args.key.now) (always_returns_same _ _ _ (λ a r f called. (search rules, search rules))) in
    let found = found_by g.K.Ord.cmp g.met.K.Ord.total c.args.key.now c.args.self.now.rows.now (Ok c.in-Ok.at) c.args.self.now.ascending c.in-Ok.ensures.bound by_key c.index-rows-at.result in
    record { value = sym found.0; only = ((get_or c.args.self.now.rows.now c.in-Ok.at c.index-rows-at.result).0, found.1) }

pub returns-in-Err : goal.returns-in-Err
returns-in-Err g c =
    let by_key = c.in-Err.ensures.position (λ row. g.K.Ord.cmp row.0 c.args.key.now) (always_returns_same _ _ _ (λ a r f called. (search rules, search rules))) in
    let found = found_by g.K.Ord.cmp g.met.K.Ord.total c.args.key.now c.args.self.now.rows.now (Err c.in-Err.field-0) c.args.self.now.ascending c.in-Err.ensures.bound by_key in
    record { value = sym found.0; only = found.1 }
