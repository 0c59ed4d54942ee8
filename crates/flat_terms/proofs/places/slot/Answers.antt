use Rattle.std.specs.Prelude.{option_map}
use Rattle.std.proofs.Common.{ap, subst, ◌∙◌}
use Rattle.flat_slots.specs.Named.{slot_of}
use Rattle.rule_tables.specs.ExtraOf.{IsSlotAs}
use Rattle.flat_terms.proofs.AddedLemmas.{written-slot, front-slot, behind-slot}
use Rattle.flat_terms.proofs.places.slot.Goals as goal

pub returns-in-Written : goal.returns-in-Written
returns-in-Written c = λ s h.
    ap (option_map slot_of) c.written.ensures
    ∙ written-slot c.args.tables.now c.args.symbol.0 c.in-Written.id c.attribute_name.result s c.attribute_name.ensures (subst (λ a. IsSlotAs c.args.tables.now c.args.symbol.0 a s) c.in-Written.is h)

pub returns-in-Front : goal.returns-in-Front
returns-in-Front c = λ s h.
    ap (option_map slot_of) c.front.ensures
    ∙ front-slot c.args.tables.now c.args.symbol.0 c.in-Front.place c.chain_name.result s c.chain_name.ensures (subst (λ a. IsSlotAs c.args.tables.now c.args.symbol.0 a s) c.in-Front.is h)

pub returns-in-Behind : goal.returns-in-Behind
returns-in-Behind c = λ s h.
    ap (option_map slot_of) c.behind.ensures
    ∙ behind-slot c.args.tables.now c.args.symbol.0 c.in-Behind.place c.chain_name-in-Behind.result s c.chain_name-in-Behind.ensures (subst (λ a. IsSlotAs c.args.tables.now c.args.symbol.0 a s) c.in-Behind.is h)
