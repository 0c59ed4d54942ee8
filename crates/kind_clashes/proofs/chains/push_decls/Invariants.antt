use Rattle.std.proofs.Common.{◌≡◌, ◌++◌, map, take}
use Rattle.lido_syntax.specs.declared.spec.Decl.{Decl}
use Rattle.kind_clashes.proofs.chains.push_decls.Given as goal

abbrev pub invariant-loop-decl : goal.invariant-loop-decl
invariant-loop-decl l = l.names.items ≡ l.initial.names.items ++ map (λ (d : Decl). d.attr) (take l.decl-index l.decls)
