use Rattle.std.proofs.Common.{◌≡◌, nat_eq, map, take}
use Rattle.lido_base.specs.declared.ids.SymId.{SymId as SymbolId}
use Rattle.lido_base.specs.declared.ids.StrId.{StrId as TextId}
use Rattle.lido_symbols.specs.Numbers.{place_in}
use Rattle.rule_tables.proofs.rule_shapes.symbol_ids.Given as goal

abbrev pub invariant-loop-name : goal.invariant-loop-name
invariant-loop-name l = map (λ (s : SymbolId). s.0) l.ids.items ≡ map (λ (name : TextId). place_in (nat_eq name.0) l.symbols) (take l.name-index l.names)
