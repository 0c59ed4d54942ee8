-- The grammar of expressions is well formed.
use Rattle.std.specs.Prelude.{refl, not, ◌&&◌}
use Rattle.std.proofs.Common.{arith, sym}
use Rattle.flat_grammar.specs.WellFormed.{IsListShape, IsWellFormed, is_nonterminal, is_same_symbol}
use Rattle.trials_of_grammar.specs.ListOfItems.{symbol}
use Rattle.trials_of_grammar.proofs.Finite.{never}
use Rattle.trials_of_grammar.proofs.TestedGrammars.{IsTestedRule, all-tested, grammar-tested}
use Rattle.trials_of_trees.specs.Expressions.{symbols, rules, shapes, sum_shape, block_shape, top_rule, add_rule, num_rule, sum_rule, block_rule, pair_rule, rich_rule, round_rule, sum_cell, sum_end, expr_cell, item_cell, block_end}

tested-top-rule : IsTestedRule symbols top_rule
tested-top-rule = record { left_side = refl; right_side = refl; goals = refl; once = refl; dependencies_in_range = refl; terminals = refl; origins = refl }

tested-add-rule : IsTestedRule symbols add_rule
tested-add-rule = record { left_side = refl; right_side = refl; goals = refl; once = refl; dependencies_in_range = refl; terminals = refl; origins = refl }

tested-num-rule : IsTestedRule symbols num_rule
tested-num-rule = record { left_side = refl; right_side = refl; goals = refl; once = refl; dependencies_in_range = refl; terminals = refl; origins = refl }

tested-sum-rule : IsTestedRule symbols sum_rule
tested-sum-rule = record { left_side = refl; right_side = refl; goals = refl; once = refl; dependencies_in_range = refl; terminals = refl; origins = refl }

tested-block-rule : IsTestedRule symbols block_rule
tested-block-rule = record { left_side = refl; right_side = refl; goals = refl; once = refl; dependencies_in_range = refl; terminals = refl; origins = refl }

tested-pair-rule : IsTestedRule symbols pair_rule
tested-pair-rule = record { left_side = refl; right_side = refl; goals = refl; once = refl; dependencies_in_range = refl; terminals = refl; origins = refl }

tested-rich-rule : IsTestedRule symbols rich_rule
tested-rich-rule = record { left_side = refl; right_side = refl; goals = refl; once = refl; dependencies_in_range = refl; terminals = refl; origins = refl }

tested-round-rule : IsTestedRule symbols round_rule
tested-round-rule = record { left_side = refl; right_side = refl; goals = refl; once = refl; dependencies_in_range = refl; terminals = refl; origins = refl }

tested-sum-cell : IsTestedRule symbols sum_cell
tested-sum-cell = record { left_side = refl; right_side = refl; goals = refl; once = refl; dependencies_in_range = refl; terminals = refl; origins = refl }

tested-sum-end : IsTestedRule symbols sum_end
tested-sum-end = record { left_side = refl; right_side = refl; goals = refl; once = refl; dependencies_in_range = refl; terminals = refl; origins = refl }

tested-expr-cell : IsTestedRule symbols expr_cell
tested-expr-cell = record { left_side = refl; right_side = refl; goals = refl; once = refl; dependencies_in_range = refl; terminals = refl; origins = refl }

tested-item-cell : IsTestedRule symbols item_cell
tested-item-cell = record { left_side = refl; right_side = refl; goals = refl; once = refl; dependencies_in_range = refl; terminals = refl; origins = refl }

tested-block-end : IsTestedRule symbols block_end
tested-block-end = record { left_side = refl; right_side = refl; goals = refl; once = refl; dependencies_in_range = refl; terminals = refl; origins = refl }

sum-list : IsListShape symbols rules sum_shape (symbol 5)
sum-list = record { leads = refl; elements = all-tested (λ s. is_nonterminal symbols s && not (is_same_symbol s (symbol 5))) sum_shape.right refl; cells = refl; used_once = refl }

block-list : IsListShape symbols rules block_shape (symbol 6)
block-list = record { leads = refl; elements = all-tested (λ s. is_nonterminal symbols s && not (is_same_symbol s (symbol 6))) block_shape.right refl; cells = refl; used_once = refl }

pub expressions-well-formed : IsWellFormed symbols rules shapes (symbol 0)
expressions-well-formed = grammar-tested symbols rules shapes (symbol 0) (record {
  root_symbol = refl;
  terminals_bare = (λ h. never h, (λ h. never h, (λ h. refl, (λ h. never h, (λ h. refl, (λ h. never h, (λ h. never h, tt)))))));
  symbol_names = refl;
  attribute_names = refl;
  rule_names = refl;
  each_rule = (tested-top-rule, (tested-add-rule, (tested-num-rule, (tested-sum-rule, (tested-block-rule, (tested-pair-rule, (tested-rich-rule, (tested-round-rule, (tested-sum-cell, (tested-sum-end, (tested-expr-cell, (tested-item-cell, (tested-block-end, tt)))))))))))));
  each_list = (λ h. never h, (λ h. never h, (λ h. never h, (λ h. sum-list, (λ h. block-list, (λ h. never h, (λ h. never h, (λ h. never h, tt))))))));
  each_plain = (λ h. refl, (λ h. refl, (λ h. refl, (λ h. never (sym h), (λ h. never (sym h), (λ h. refl, (λ h. refl, (λ h. refl, tt))))))));
  each_shape = refl;
  numbers = (omega arith, omega arith);
  occurrences = refl;
  few_attributes = refl;
  few_occurrences = refl;
})
