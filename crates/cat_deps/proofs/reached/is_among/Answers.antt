use Rattle.cat_deps.proofs.Sought.{among}
use Rattle.cat_deps.proofs.reached.is_among.Goals as goal

pub returns : goal.returns
returns c = among c.args.id c.args.ids.now c.binary_search.result c.is_ok.result c.is_ok.ensures.value c.requires c.binary_search.ensures.bound c.binary_search.ensures.position
