use Rattle.std.specs.Prelude.{nat_eq}
use Rattle.std.specs.List.{AllZip}
use Rattle.std.proofs.Common.{take}
use Rattle.lido_syntax.specs.declared.spec.Spec.{Spec}
use Rattle.lido_symbols.specs.Numbers.{AreNumbered}
use Rattle.lido_symbols.specs.Uses.{attribute_uses}
use Rattle.symbol_attributes.specs.Inheritance.{AreNumberedIn, IsInheritance}
use Rattle.symbol_attributes.specs.Written.{AreAttributesOf, AreFactsOf}
use Rattle.symbol_attributes.proofs.written.attributes_of_all.Given as goal

-- the lists of the symbols so far
abbrev pub invariant-loop-symbol : goal.invariant-loop-symbol
invariant-loop-symbol l = (spec : Spec) → AreFactsOf spec l.tables l.by_attr → AreNumberedIn l.numbers spec.symbols → IsInheritance spec l.numbers l.inheritance → AreNumbered nat_eq (attribute_uses spec) l.names
    → AllZip (AreAttributesOf spec) (take l.symbol-index l.symbol-items) l.lists.items
