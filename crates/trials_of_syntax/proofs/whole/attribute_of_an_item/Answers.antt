use Rattle.std.proofs.Common.{arith}
use Rattle.lido_syntax.specs.Attributes.{HasType}
use Rattle.lido_base.specs.declared.value.ValueType.TheVariants as type
use Rattle.trials_of_syntax.specs.SumOfItems.{undeclared, Item, n}
use Rattle.trials_of_syntax.proofs.RulesOnly.{not_typed_by_symbol}
use Rattle.trials_of_syntax.proofs.SumOfItemsLemmas.{only_number, has_number, kind_number, type_number}
use Rattle.trials_of_syntax.proofs.whole.attribute_of_an_item.Goals as goal

void : HasType undeclared Item n type.Void
void = HasType.by_default (not_typed_by_symbol undeclared.rules undeclared.attrs undeclared.terms undeclared.chains Item n) (λ other h. omega (arith, h.1.1))

pub returns : goal.returns
returns c = record { has = has_number; no_other = only_number; kind = kind_number; declared_type = type_number; default_type = void }
