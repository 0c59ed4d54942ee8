use Rattle.std.specs.Prelude.{[], ◌∷◌, refl}
use Rattle.lido_symbols.specs.Uses.{attribute_uses, symbol_uses}
use Rattle.trials_of_tables.specs.CountedItems.{spec, env, symbols, b, t, no}
use Rattle.trials_of_tables.proofs.NumberLemmas.{numbered}
use Rattle.trials_of_tables.proofs.counted_items.tables_of_items.Goals as goal

pub returns-clause-numbers : goal.returns-clause-numbers
returns-clause-numbers c = numbered (symbol_uses spec env) symbols refl refl refl

pub returns-clause-attributes : goal.returns-clause-attributes
returns-clause-attributes c = numbered (attribute_uses spec) (b ∷ t ∷ no ∷ []) refl refl refl
