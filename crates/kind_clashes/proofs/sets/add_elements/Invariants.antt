use Rattle.std.specs.Prelude.{Some}
use Rattle.std.proofs.Common.{◌≡◌}
use Rattle.lido_syntax.specs.declared.spec.Element.{Element}
use Rattle.lido_syntax.specs.Production.{symbol_of}
use Rattle.kind_clashes.specs.Names.{HasMore}
use Rattle.kind_clashes.proofs.LeastLemmas.{AmongFirst}
use Rattle.kind_clashes.proofs.sets.add_elements.Given as goal

-- the names so far were added
abbrev pub invariant-loop-element : goal.invariant-loop-element
invariant-loop-element l = HasMore (AmongFirst (λ (e : Element) s. symbol_of e ≡ Some s) l.elements l.element-index) l.initial.names l.names
