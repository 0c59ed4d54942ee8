use Rattle.std.proofs.Common.{◌≡◌, ◌++◌, take, flat_map}
use Rattle.lido_syntax.specs.declared.spec.Name.{Name}
use Rattle.lido_syntax.specs.Production.{name_of}
use Rattle.table_faults.specs.Doubles.{all_if_shared}
use Rattle.table_faults.proofs.doubles.note_item.Given as goal

-- the computations so far
abbrev pub invariant-loop-name : goal.invariant-loop-name
invariant-loop-name l = l.all.items ≡ l.initial.all.items ++ flat_map (λ (x : Name). all_if_shared l.shared l.item.body (name_of x)) (take l.name-index l.item.names)
