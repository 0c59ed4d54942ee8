use Rattle.std.proofs.Common.{◌≡◌, ◌++◌, ◌∙◌, ap, map, flat_map}
use Rattle.lido_syntax.specs.declared.spec.Typed1.{Typed1 as Typed}
use Rattle.lido_symbols.specs.Uses.{symbols_of_rule, symbols_of_item, with_place}
use Rattle.lido_symbols.proofs.symbol_uses.symbol_names.Goals as goal

pub returns : goal.returns
returns c env e =
    let spec = c.args.spec.now in
    let rules : c.push_rules.new.names.items ≡ flat_map (symbols_of_rule spec env) spec.rules =
    c.in_ok-push_rules.ensures env spec e ∙ ap (λ l. l ++ flat_map (symbols_of_rule spec env) c.as_slice.result.now) c.new-names.ensures.items ∙ ap (flat_map (symbols_of_rule spec env)) c.as_slice.ensures in
    let items : c.push_items.new.names.items ≡ flat_map (symbols_of_rule spec env) spec.rules ++ flat_map (symbols_of_item spec env) spec.symbols =
    c.in_ok-push_items.ensures env spec e ∙ ap (λ l. l ++ flat_map (symbols_of_item spec env) c.as_slice-2.result.now) rules
    ∙ ap (λ l. flat_map (symbols_of_rule spec env) spec.rules ++ flat_map (symbols_of_item spec env) l) c.as_slice-2.ensures in
    ap (map with_place) (c.in_ok-push_terms.ensures ∙ ap (λ l. l ++ map (λ (x : Typed). x.name) c.as_slice-3.result.now) items
    ∙ ap (λ l. (flat_map (symbols_of_rule spec env) spec.rules ++ flat_map (symbols_of_item spec env) spec.symbols) ++ map (λ (x : Typed). x.name) l) c.as_slice-3.ensures)
