use Rattle.std.proofs.Common.{◌≡◌, ◌++◌, ◌∙◌, ap, map, flat_map}
use Rattle.lido_syntax.specs.declared.spec.Decl.{Decl}
use Rattle.lido_syntax.specs.declared.spec.SymbolItem.{SymbolItem}
use Rattle.lido_symbols.proofs.CollectedLemmas.{map_behind}
use Rattle.kind_clashes.proofs.chains.names_of_declarations.Goals as goal

pub returns : goal.returns
returns c =
    let spec = c.args.spec.now in
    let attr : Decl → _ = λ d. d.attr in
    let first : c.push_decls.new.names.items ≡ map attr spec.attrs = c.in_ok-push_decls.ensures ∙ ap (λ l. l ++ map attr c.as_slice.result.now) c.new-names.ensures.items ∙ ap (map attr) c.as_slice.ensures in
    c.in_ok-push_items.ensures ∙ (λ i. first i ++ flat_map (λ (item : SymbolItem). map attr item.decls) (c.as_slice-2.ensures i)) ∙ map_behind attr (λ (item : SymbolItem). item.decls) spec.attrs spec.symbols
