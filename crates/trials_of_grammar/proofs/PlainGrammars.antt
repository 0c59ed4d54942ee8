-- The grammars without lists are well formed.
use Rattle.std.specs.Prelude.{refl}
use Rattle.std.proofs.Common.{arith}
use Rattle.flat_grammar.specs.WellFormed.{IsWellFormed}
use Rattle.trials_of_grammar.specs.ListOfItems.{symbol}
use Rattle.trials_of_grammar.specs.LateInherited as late
use Rattle.trials_of_grammar.specs.CrossedUses as crossed
use Rattle.trials_of_grammar.proofs.Finite.{never}
use Rattle.trials_of_grammar.proofs.TestedGrammars.{IsTestedRule, grammar-tested}

late-S : IsTestedRule late.symbols late.S_rule
late-S = record { left_side = refl; right_side = refl; goals = refl; once = refl; dependencies_in_range = refl; terminals = refl; origins = refl }

late-A : IsTestedRule late.symbols late.A_rule
late-A = record { left_side = refl; right_side = refl; goals = refl; once = refl; dependencies_in_range = refl; terminals = refl; origins = refl }

late-B : IsTestedRule late.symbols late.B_rule
late-B = record { left_side = refl; right_side = refl; goals = refl; once = refl; dependencies_in_range = refl; terminals = refl; origins = refl }

pub late-well-formed : IsWellFormed late.symbols late.rules late.shapes (symbol 0)
late-well-formed = grammar-tested late.symbols late.rules late.shapes (symbol 0) (record {
  root_symbol = refl;
  terminals_bare = (λ h. never h, (λ h. never h, (λ h. never h, tt)));
  symbol_names = refl;
  attribute_names = refl;
  rule_names = refl;
  each_rule = (late-S, (late-A, (late-B, tt)));
  each_list = (λ h. never h, (λ h. never h, (λ h. never h, tt)));
  each_plain = (λ h. refl, (λ h. refl, (λ h. refl, tt)));
  each_shape = refl;
  numbers = (omega arith, omega arith);
  occurrences = refl;
  few_attributes = refl;
  few_occurrences = refl;
})

crossed-S : IsTestedRule crossed.symbols crossed.S_rule
crossed-S = record { left_side = refl; right_side = refl; goals = refl; once = refl; dependencies_in_range = refl; terminals = refl; origins = refl }

crossed-X : IsTestedRule crossed.symbols crossed.X_rule
crossed-X = record { left_side = refl; right_side = refl; goals = refl; once = refl; dependencies_in_range = refl; terminals = refl; origins = refl }

pub crossed-well-formed : IsWellFormed crossed.symbols crossed.rules crossed.shapes (symbol 0)
crossed-well-formed = grammar-tested crossed.symbols crossed.rules crossed.shapes (symbol 0) (record {
  root_symbol = refl;
  terminals_bare = (λ h. never h, (λ h. never h, tt));
  symbol_names = refl;
  attribute_names = refl;
  rule_names = refl;
  each_rule = (crossed-S, (crossed-X, tt));
  each_list = (λ h. never h, (λ h. never h, tt));
  each_plain = (λ h. refl, (λ h. refl, tt));
  each_shape = refl;
  numbers = (omega arith, omega arith);
  occurrences = refl;
  few_attributes = refl;
  few_occurrences = refl;
})
