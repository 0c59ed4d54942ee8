use Rattle.std.proofs.Common.{◌≡◌, ◌++◌, ◌∙◌, ap, map, flat_map, append_assoc}
use Rattle.lido_syntax.specs.declared.spec.Decl.{Decl as Declared}
use Rattle.lido_syntax.specs.declared.spec.RuleItem.{RuleItem as Rule}
use Rattle.lido_syntax.specs.declared.spec.SymbolItem.{SymbolItem as Item}
use Rattle.lido_symbols.specs.Uses.{declared_names, with_place}
use Rattle.lido_symbols.specs.Occurrences.{attributes_of}
use Rattle.lido_symbols.proofs.CollectedLemmas.{map_behind, flat_both}
use Rattle.lido_symbols.proofs.attribute_uses.attribute_names.Goals as goal

pub returns : goal.returns
returns c =
    let spec = c.args.spec.now in
    let attr : Declared → _ = λ d. d.attr in
    let first : c.push_decls.new.names.items ≡ map attr spec.attrs = c.in_ok-push_decls.ensures ∙ ap (λ l. l ++ map attr c.as_slice.result.now) c.new-names.ensures.items ∙ ap (map attr) c.as_slice.ensures in
    let second : c.push_item_decls.new.names.items ≡ declared_names spec =
    c.in_ok-push_item_decls.ensures ∙ (λ i. first i ++ flat_map (λ (item : Item). map attr item.decls) (c.as_slice-2.ensures i)) ∙ map_behind attr (λ (item : Item). item.decls) spec.attrs spec.symbols in
    let third : c.push_rules.new.names.items ≡ declared_names spec ++ flat_map (λ (r : Rule). flat_map attributes_of r.body) spec.rules =
    c.in_ok-push_rules.ensures ∙ (λ i. second i ++ flat_map (λ (r : Rule). flat_map attributes_of r.body) (c.as_slice-3.ensures i)) in
    ap (map with_place) (
    c.in_ok-push_items.ensures ∙ (λ i. third i ++ flat_map (λ (item : Item). flat_map attributes_of item.body) (c.as_slice-4.ensures i))
    ∙ append_assoc (declared_names spec) (flat_map (λ (r : Rule). flat_map attributes_of r.body) spec.rules) (flat_map (λ (item : Item). flat_map attributes_of item.body) spec.symbols)
    ∙ ap (λ l. declared_names spec ++ l) (flat_both attributes_of (λ (r : Rule). r.body) (λ (item : Item). item.body) spec.rules spec.symbols))
