use Rattle.std.specs.Prelude.{Contains, IsTrue, flat_map, ◌↔◌}
use Rattle.std.proofs.Common.{◌≡◌, ◌∙◌, ◌++◌, ℕ, List, subst}
use Rattle.lido_syntax.specs.declared.spec.RuleItem.{RuleItem}
use Rattle.lido_syntax.specs.declared.spec.SymbolItem.{SymbolItem}
use Rattle.need_graphs.specs.Users.{has, readers_of, text_readers}
use Rattle.need_graphs.proofs.readers.set_of_readers.Goals as goal

pub returns : goal.returns
returns c =
    let spec = c.args.spec.now in
    let of_rule = λ (r : RuleItem). readers_of c.args.chain.0 c.args.starts r.body in
    let of_item = λ (item : SymbolItem). readers_of c.args.chain.0 c.args.starts item.body in
    let rules : c.note_rules.new.found.items ≡ flat_map of_rule spec.rules = c.in_ok-note_rules.ensures ∙ (λ i. c.new-found.ensures.items i ++ flat_map of_rule (c.as_slice.ensures i)) in
    let all : c.note_items.new.found.items ≡ text_readers spec c.args.chain.0 c.args.starts = c.in_ok-note_items.ensures ∙ (λ i. rules i ++ flat_map of_item (c.as_slice-2.ensures i)) in
    subst (λ (l : List ℕ). (n : ℕ) → IsTrue (has c.in_ok-set.set n) ↔ Contains l n) (c.deref.ensures.value ∙ all) c.in_ok-set.ensures
