use Rattle.std.proofs.Common.{◌≡◌}
use Rattle.cat_undo.specs.Restored.{settled, told_settled, heard}
use Rattle.cat_undo.proofs.now.Now.settle.Given as goal

-- the rows so far have their stamps, and were told of
abbrev pub invariant-loop-place : goal.invariant-loop-place
invariant-loop-place g l = record {
  state : l.self ≡ settled l.place l.fn.copied l.fn.self;
  told : l.marks ≡ heard g.T.Touched.hear (told_settled l.place l.fn.copied l.fn.self) l.fn.marks;
}
