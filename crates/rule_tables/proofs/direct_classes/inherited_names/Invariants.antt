use Rattle.std.proofs.Common.{◌≡◌, map, take}
use Rattle.rule_tables.specs.DirectClasses.{inherited_by}
use Rattle.rule_tables.proofs.direct_classes.inherited_names.Given as goal

abbrev pub invariant-loop-item : goal.invariant-loop-item
invariant-loop-item l = l.lists.items ≡ map inherited_by (take l.item-index l.items)
