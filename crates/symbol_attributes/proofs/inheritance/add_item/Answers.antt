use Rattle.std.specs.Prelude.{Contains}
use Rattle.std.proofs.Common.{◌∙◌, ℕ, List, ap, subst}
use Rattle.symbol_attributes.specs.Inheritance.{numbers_of}
use Rattle.symbol_attributes.proofs.RowsLemmas.{item-edges}
use Rattle.symbol_attributes.proofs.inheritance.add_item.Goals as goal

pub join-requires : goal.join-requires
join-requires c = λ y m. c.requires y (subst (λ (l : List ℕ). Contains l y) (c.deref.ensures.value ∙ c.in_ok-from.ensures ∙ ap (numbers_of c.args.numbers.now) c.as_slice.ensures) m)

pub returns-clause-edges : goal.returns-clause-edges
returns-clause-edges c = item-edges c.args.graph.now.items c.join.new.graph.items c.args.numbers.now c.args.item.now c.deref.result.now c.deref-2.result.now
    (c.deref.ensures.value ∙ c.in_ok-from.ensures ∙ ap (numbers_of c.args.numbers.now) c.as_slice.ensures)
    (c.deref-2.ensures.value ∙ c.in_ok-to.ensures ∙ ap (numbers_of c.args.numbers.now) c.as_slice-2.ensures)
    c.in_ok-join.ensures.edges
