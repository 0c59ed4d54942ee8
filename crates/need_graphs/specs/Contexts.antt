-- The symbols of the contexts of computations in force, as the tables hold them.
use Rattle.std.specs.Prelude.{ℕ, if◌then◌else◌, List, filter_map, flat_map, Option, None}
use Rattle.lido_symbols.specs.Numbers.{enumerated}
use Rattle.flat_grammar.specs.declared.flat.FlatRule.{FlatRule}
use Rattle.rule_tables.specs.declared.forced.Force.{Force as Entry}
use Rattle.need_graphs.specs.declared.numbers.Numbers.{Numbers}
use Rattle.need_graphs.specs.Users.{has, symbol_in, entries_at}

-- the symbol of a computation's context, if its number is in the set
abbrev pub context_by : Numbers → FlatRule → Entry → Option ℕ
context_by numbers rule e = if has numbers e.number then symbol_in rule e.context else None

-- those of a plain rule, and of all
abbrev pub rule_contexts : Numbers → FlatRule → List Entry → List ℕ
rule_contexts numbers rule es = filter_map (context_by numbers rule) es

abbrev pub all_contexts : Numbers → List FlatRule → List (List Entry) → List ℕ
all_contexts numbers plain comps = flat_map (λ (x : ℕ × FlatRule). rule_contexts numbers x.1 (entries_at comps x.0)) (enumerated 0 plain)
