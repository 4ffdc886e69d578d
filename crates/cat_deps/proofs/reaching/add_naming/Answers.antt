use Rattle.std.proofs.Common.{◌∙◌, ap, sym, arith}
use Rattle.std.specs.declared.rc.Rc.{Rc}
use Rattle.std.specs.declared.alloc.Global.{Global}
use Rattle.std.proofs.lemmas.List.{get_or-map, length-map}
use Rattle.cat_core.specs.declared.entry.Entry.{Entry}
use Rattle.cat_core.specs.Finding.{entries}
use Rattle.cat_deps.proofs.Rounds.{looked_none, looked_more, looked_all}
use Rattle.cat_deps.proofs.reaching.add_naming.Goals as goal

abbrev value_of : Rc Entry Global → Entry
value_of entry = entry.value

pub loop-view-init : goal.loop-view-init
loop-view-init c = looked_none (entries c.args.views.now) c.args.id c.args.found.now

pub loop-view-preserved : goal.loop-view-preserved
loop-view-preserved c =
    looked_more (entries c.args.views.now) c.args.id c.loop-view.view-index c.deref.result.now c.args.found.now c.loop-view.found c.add_view.new.found
    (omega (arith, length-map c.args.views.now value_of))
    (get_or-map value_of c.args.views.now c.loop-view.view-index c.view-item.result c.deref.result.now (omega arith) ∙ ap value_of (sym c.view-item.is) ∙ sym c.deref.ensures)
    c.in_ok-add_view.ensures c.loop-view.invariant

pub returns : goal.returns
returns c = looked_all (entries c.args.views.now) c.args.id c.loop-view.view-index c.args.found.now c.loop-view.found (omega (arith, length-map c.args.views.now value_of)) c.loop-view.invariant
