use Rattle.std.proofs.Common.{◌≡◌, ◌-◌, ◌≤◌, length, map, unwrap_or}
use Rattle.std.specs.List.{range_with_len}
use Rattle.lido_base.specs.declared.value.ValueType.TheVariants.{Text}
use Rattle.ptg_patterns.specs.Tables.{type_at}
use Rattle.ptg_patterns.proofs.arguments.types_from_one.Given as goal

abbrev pub invariant-loop-number : goal.invariant-loop-number
invariant-loop-number l = record {
  found : l.found.items ≡ map (λ j. unwrap_or (type_at l.types j) Text) (range_with_len 1 (l.number - 1));
  below : l.number - 1 ≤ length l.types - 1;
}
