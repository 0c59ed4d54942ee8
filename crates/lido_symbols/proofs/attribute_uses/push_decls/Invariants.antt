use Rattle.std.proofs.Common.{◌≡◌, ◌++◌, map, take}
use Rattle.lido_syntax.specs.declared.spec.Decl.{Decl as Declared}
use Rattle.lido_symbols.proofs.attribute_uses.push_decls.Given as goal

abbrev pub invariant-loop-decl : goal.invariant-loop-decl
invariant-loop-decl l = l.names.items ≡ l.initial.names.items ++ map (λ (d : Declared). d.attr) (take l.decl-index l.decls)
