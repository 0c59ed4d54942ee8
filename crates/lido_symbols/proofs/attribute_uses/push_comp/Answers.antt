use Rattle.std.proofs.Common.{◌∙◌, ap, map}
use Rattle.std.specs.Borrow.{Bor}
use Rattle.lido_syntax.specs.declared.spec.Expr.{Expr}
use Rattle.lido_syntax.specs.Parts.{leaves_of}
use Rattle.lido_symbols.specs.Uses.{attributes_in, attributes_of_target}
use Rattle.lido_symbols.proofs.CollectedLemmas.{collected_seen}
use Rattle.lido_symbols.proofs.attribute_uses.push_comp.Goals as goal

pub returns : goal.returns
returns c =
    collected_seen attributes_in c.deref-leaf-items.result.now (leaves_of c.args.comp.now) c.loop-leaf.leaf-index c.args.names.now.items (attributes_of_target c.args.comp.now.target) c.push_target.new.names.items c.loop-leaf.names.items
    c.loop-leaf-test.false (ap (map (λ (r : Bor Expr). r.now)) c.deref-leaf-items.ensures.value ∙ c.in_ok-found.ensures)
    c.in_ok-push_target.ensures c.loop-leaf.invariant
