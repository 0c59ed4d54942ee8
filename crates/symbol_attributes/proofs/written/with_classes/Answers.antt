use Rattle.std.proofs.Common.{◌≡◌, ◌∙◌, get_or}
use Rattle.std.proofs.lemmas.Option.{slice_get-get_or}
use Rattle.symbol_attributes.specs.Inheritance.{number, is_heir}
use Rattle.symbol_attributes.proofs.OwnersLemmas.{owners-next, are-owners}
use Rattle.symbol_attributes.proofs.written.with_classes.Goals as goal

pub loop-class-preserved : goal.loop-class-preserved
loop-class-preserved c =
    let names = c.args.numbers.now in
    let items = c.as_slice-class-items.result.now in
    let x = get_or items c.loop-class.class-index 0 in
    let is : c.inherits-is_inherited.result ≡ is_heir c.args.inheritance.now (number names c.args.symbol) (number names x) =
    c.inherits-is_inherited.ensures ∙ (λ i. is_heir c.args.inheritance.now (c.number-x.ensures.number i) (c.number.ensures.number i)) in
    owners-next names c.args.inheritance.now c.args.symbol items c.loop-class.class-index x c.loop-class.list.items c.push_where.new.list.items c.inherits-is_inherited.result
    c.as_slice-class-items.ensures (slice_get-get_or _ _ 0 c.loop-class-test.true) is c.in_ok-push_where.ensures c.loop-class.invariant

pub returns : goal.returns
returns c = λ spec known is. are-owners c.args.numbers.now c.args.inheritance.now c.args.symbol c.as_slice-class-items.result.now c.loop-class.class-index c.loop-class.list.items
    c.as_slice-class-items.ensures c.loop-class-test.false c.loop-class.invariant spec known is
