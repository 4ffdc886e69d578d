use Rattle.sql_tokens.proofs.TokensWhole.{all_tokens-nil, all_tokens-cons}
use Rattle.sql_tokens.proofs.laws.pieces.Goals as goal

pub returns : goal.returns
returns c = record { none = all_tokens-nil; some = all_tokens-cons }
