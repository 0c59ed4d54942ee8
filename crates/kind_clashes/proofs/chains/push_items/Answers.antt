use Rattle.std.proofs.Common.{◌++◌, ◌∙◌, ap, map}
use Rattle.lido_syntax.specs.declared.spec.Decl.{Decl}
use Rattle.lido_syntax.specs.declared.spec.SymbolItem.{SymbolItem}
use Rattle.lido_symbols.proofs.CollectedLemmas.{collected_more}
use Rattle.kind_clashes.proofs.chains.push_items.Goals as goal

pub loop-item-preserved : goal.loop-item-preserved
loop-item-preserved c =
    collected_more (λ (item : SymbolItem). map (λ (d : Decl). d.attr) item.decls) c.args.items.now c.loop-item.item-index c.item-item.result c.item-item.result
    c.args.names.now.items c.loop-item.names.items c.push_decls.new.names.items c.loop-item-test.true c.item-item.is c.loop-item.invariant
    (c.in_ok-push_decls.ensures ∙ ap (λ ds. c.loop-item.names.items ++ map (λ (d : Decl). d.attr) ds) c.as_slice.ensures)
