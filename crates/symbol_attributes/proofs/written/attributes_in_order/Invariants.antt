use Rattle.std.proofs.Common.{ℕ}
use Rattle.lido_syntax.specs.declared.spec.Spec.{Spec}
use Rattle.symbol_attributes.specs.Written.{AreFactsOf, AreOwners}
use Rattle.symbol_attributes.proofs.OrderLemmas.{AreFirst}
use Rattle.symbol_attributes.proofs.written.attributes_in_order.Given as goal

-- the attributes of the names so far
abbrev pub invariant-loop-name : goal.invariant-loop-name
invariant-loop-name l = (spec : Spec) (s : ℕ) → AreFactsOf spec l.tables l.by_attr → AreOwners spec s l.owners → AreFirst spec s l.names l.name-index l.attrs.items
