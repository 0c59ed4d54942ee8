use Rattle.std.specs.Prelude.{Some}
use Rattle.std.proofs.Common.{◌≡◌}
use Rattle.lido_syntax.specs.declared.spec.Element.{Element}
use Rattle.lido_syntax.specs.declared.spec.RuleItem.{RuleItem}
use Rattle.lido_syntax.specs.Production.{symbol_of}
use Rattle.kind_clashes.specs.Least.{Among}
use Rattle.kind_clashes.specs.Names.{HasMore}
use Rattle.kind_clashes.proofs.LeastLemmas.{AmongFirst}
use Rattle.kind_clashes.proofs.sets.add_right_sides.Given as goal

-- the names so far were added
abbrev pub invariant-loop-rule : goal.invariant-loop-rule
invariant-loop-rule l = HasMore (AmongFirst (λ (r : RuleItem). Among (λ (e : Element) s. symbol_of e ≡ Some s) r.right) l.rules l.rule-index) l.initial.names l.names
