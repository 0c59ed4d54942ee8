use Rattle.std.proofs.Common.{◌≡◌, ◌++◌, ◌∙◌, ap, flat_map, append_assoc}
use Rattle.lido_symbols.specs.Uses.{symbols_of_computation, is_coordinate_of_symbol}
use Rattle.lido_symbols.proofs.CollectedLemmas.{collected_none, collected_more, collected_behind}
use Rattle.lido_symbols.proofs.symbol_uses.push_item.Goals as goal

pub loop-comp-init : goal.loop-comp-init
loop-comp-init c env e = collected_none (symbols_of_computation (is_coordinate_of_symbol env)) c.as_slice-comp-items.result.now c.extend_from_slice-2.new.self.items

pub loop-comp-preserved : goal.loop-comp-preserved
loop-comp-preserved c env e =
    collected_more (symbols_of_computation (is_coordinate_of_symbol env)) c.as_slice-comp-items.result.now c.loop-comp.comp-index c.comp-item.result c.comp-item.result
    c.extend_from_slice-2.new.self.items c.loop-comp.names.items c.push_symbol_comp.new.names.items c.loop-comp-test.true c.comp-item.is (c.loop-comp.invariant env e) (c.in_ok-push_symbol_comp.ensures env e)

pub returns : goal.returns
returns c env spec e =
    let item = c.args.item.now in
    let old = c.args.names.now.items in
    let first : c.extend_from_slice.new.self.items ≡ old ++ item.names = c.in_ok-extend_from_slice.ensures.items ∙ ap (λ l. old ++ l) c.as_slice.ensures in
    let second : c.extend_from_slice-2.new.self.items ≡ old ++ (item.names ++ item.inherits) =
    c.in_ok-extend_from_slice-2.ensures.items ∙ ap (λ l. c.extend_from_slice.new.self.items ++ l) c.as_slice-2.ensures ∙ ap (λ l. l ++ item.inherits) first ∙ append_assoc old item.names item.inherits in
    collected_behind (symbols_of_computation (is_coordinate_of_symbol env)) c.as_slice-comp-items.result.now c.loop-comp.comp-index old (item.names ++ item.inherits) c.extend_from_slice-2.new.self.items c.loop-comp.names.items
    c.loop-comp-test.false second (c.loop-comp.invariant env e)
    ∙ ap (λ l. old ++ ((item.names ++ item.inherits) ++ flat_map (symbols_of_computation (is_coordinate_of_symbol env)) l)) c.as_slice-comp-items.ensures
