use Rattle.std.proofs.Common.{length, subst}
use Rattle.std.proofs.lemmas.List.{take_all}
use Rattle.std.proofs.lemmas.Option.{slice_get-get_or}
use Rattle.std.specs.List.{AllZip}
use Rattle.symbol_attributes.proofs.OrderLemmas.{lists-more}
use Rattle.rule_tables.proofs.LaterTexts.{more-again, no-fewer}
use Rattle.flat_symbols.specs.Attributes.{IsMade}
use Rattle.flat_symbols.proofs.MadeLemmas.{made-below}
use Rattle.flat_symbols.proofs.attributes.attributes_of.Goals as goal

pub loop-slot-preserved : goal.loop-slot-preserved
loop-slot-preserved c =
    let old = c.args.strings.now in
    let before = c.loop-slot.strings in
    let new = c.attribute.new.strings in
    let added = c.args.added.now in
    let attrs = c.args.attrs.now in
    let slots = c.args.slots.now in
    let limit = length old in
    record {
      made = λ env later.
          lists-more (IsMade env limit added attrs) slots c.loop-slot.slot-index _ c.loop-slot.made.items c.push.new.self.items c.in_ok-attribute.field-0
          (slice_get-get_or slots c.loop-slot.slot-index _ c.loop-slot-test.true) c.in_ok-push.ensures.items
          (c.loop-slot.invariant.made env (more-again before new env.texts c.in_ok-attribute.ensures.kept later))
          (made-below env limit (length before) (no-fewer old before c.loop-slot.invariant.kept) added attrs _ c.in_ok-attribute.field-0
          (c.in_ok-attribute.ensures.attr env later));
      kept = more-again old before new c.loop-slot.invariant.kept c.in_ok-attribute.ensures.kept;
    }

pub returns-clause-attrs : goal.returns-clause-attrs
returns-clause-attrs c env later =
    subst (λ l. AllZip (IsMade env (length c.args.strings.now) c.args.added.now c.args.attrs.now) l c.loop-slot.made.items)
    (take_all c.loop-slot.slot-index c.args.slots.now c.loop-slot-test.false)
    (c.loop-slot.invariant.made env later)
