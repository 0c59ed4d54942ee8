-- The grammars of the trials are well formed.
use Rattle.std.specs.Prelude.{refl}
use Rattle.std.proofs.Common.{arith}
use Rattle.flat_grammar.specs.WellFormed.{IsWellFormed}
use Rattle.trials_of_grammar.specs.ListOfItems.{symbol}
use Rattle.trials_of_grammar.proofs.Finite.{never}
use Rattle.trials_of_grammar.proofs.TestedGrammars.{IsTestedRule, grammar-tested}
use Rattle.trials_of_orders.specs.BareLeaf as bare
use Rattle.trials_of_orders.specs.ClashingContexts as clashing
use Rattle.trials_of_orders.specs.TwoVisits as two

bare-Top : IsTestedRule bare.symbols bare.Top_rule
bare-Top = record { left_side = refl; right_side = refl; goals = refl; once = refl; dependencies_in_range = refl; terminals = refl; origins = refl }

bare-Leaf : IsTestedRule bare.symbols bare.Leaf_rule
bare-Leaf = record { left_side = refl; right_side = refl; goals = refl; once = refl; dependencies_in_range = refl; terminals = refl; origins = refl }

pub bare-well-formed : IsWellFormed bare.symbols bare.rules bare.shapes (symbol 0)
bare-well-formed = grammar-tested bare.symbols bare.rules bare.shapes (symbol 0) (record {
  root_symbol = refl;
  terminals_bare = (λ h. never h, (λ h. never h, tt));
  symbol_names = refl;
  attribute_names = refl;
  rule_names = refl;
  each_rule = (bare-Top, (bare-Leaf, tt));
  each_list = (λ h. never h, (λ h. never h, tt));
  each_plain = (λ h. refl, (λ h. refl, tt));
  each_shape = refl;
  numbers = (omega arith, omega arith);
  occurrences = refl;
  few_attributes = refl;
  few_occurrences = refl;
})

clashing-X : IsTestedRule clashing.symbols clashing.X_rule
clashing-X = record { left_side = refl; right_side = refl; goals = refl; once = refl; dependencies_in_range = refl; terminals = refl; origins = refl }

clashing-A : IsTestedRule clashing.symbols clashing.A_rule
clashing-A = record { left_side = refl; right_side = refl; goals = refl; once = refl; dependencies_in_range = refl; terminals = refl; origins = refl }

clashing-B : IsTestedRule clashing.symbols clashing.B_rule
clashing-B = record { left_side = refl; right_side = refl; goals = refl; once = refl; dependencies_in_range = refl; terminals = refl; origins = refl }

pub clashing-well-formed : IsWellFormed clashing.symbols clashing.rules clashing.shapes (symbol 1)
clashing-well-formed = grammar-tested clashing.symbols clashing.rules clashing.shapes (symbol 1) (record {
  root_symbol = refl;
  terminals_bare = (λ h. never h, (λ h. never h, tt));
  symbol_names = refl;
  attribute_names = refl;
  rule_names = refl;
  each_rule = (clashing-X, (clashing-A, (clashing-B, tt)));
  each_list = (λ h. never h, (λ h. never h, (λ h. never h, tt)));
  each_plain = (λ h. refl, (λ h. refl, (λ h. refl, tt)));
  each_shape = refl;
  numbers = (omega arith, omega arith);
  occurrences = refl;
  few_attributes = refl;
  few_occurrences = refl;
})

two-S : IsTestedRule two.symbols two.S_rule
two-S = record { left_side = refl; right_side = refl; goals = refl; once = refl; dependencies_in_range = refl; terminals = refl; origins = refl }

two-X : IsTestedRule two.symbols two.X_rule
two-X = record { left_side = refl; right_side = refl; goals = refl; once = refl; dependencies_in_range = refl; terminals = refl; origins = refl }

pub two-well-formed : IsWellFormed two.symbols two.rules two.shapes (symbol 0)
two-well-formed = grammar-tested two.symbols two.rules two.shapes (symbol 0) (record {
  root_symbol = refl;
  terminals_bare = (λ h. never h, (λ h. never h, (λ h. refl, tt)));
  symbol_names = refl;
  attribute_names = refl;
  rule_names = refl;
  each_rule = (two-S, (two-X, tt));
  each_list = (λ h. never h, (λ h. never h, tt));
  each_plain = (λ h. refl, (λ h. refl, tt));
  each_shape = refl;
  numbers = (omega arith, omega arith);
  occurrences = refl;
  few_attributes = refl;
  few_occurrences = refl;
})
