-- The list of items: its flat grammar is well formed, and three faulty ones are not.
use Rattle.std.specs.Prelude.{[], ◌∷◌, length, not, ◌&&◌, refl}
use Rattle.std.proofs.Common.{arith, ap, sym}
use Rattle.flat_grammar.specs.WellFormed.{IsListShape, IsWellFormed, is_nonterminal, is_same_symbol}
use Rattle.trials_of_grammar.specs.ListOfItems.{symbol, symbols, rules, list_rule, item_rule, cell_rule, end_rule, shapes, list_shape, item_with_cell, root, occurrence, n_of_item, goal_missing, goal_twice, cell_used_elsewhere}
use Rattle.trials_of_grammar.proofs.Finite.{never}
use Rattle.trials_of_grammar.proofs.TestedGrammars.{IsTestedRule, all-tested, grammar-tested}

list-rule : IsTestedRule symbols list_rule
list-rule = record { left_side = refl; right_side = refl; goals = refl; once = refl; dependencies_in_range = refl; terminals = refl; origins = refl }

item-rule : IsTestedRule symbols item_rule
item-rule = record { left_side = refl; right_side = refl; goals = refl; once = refl; dependencies_in_range = refl; terminals = refl; origins = refl }

cell-rule : IsTestedRule symbols cell_rule
cell-rule = record { left_side = refl; right_side = refl; goals = refl; once = refl; dependencies_in_range = refl; terminals = refl; origins = refl }

end-rule : IsTestedRule symbols end_rule
end-rule = record { left_side = refl; right_side = refl; goals = refl; once = refl; dependencies_in_range = refl; terminals = refl; origins = refl }

list-shape : IsListShape symbols rules list_shape (symbol 3)
list-shape = record { leads = refl; elements = all-tested (λ s. is_nonterminal symbols s && not (is_same_symbol s (symbol 3))) list_shape.right refl; cells = refl; used_once = refl }

pub well-formed : IsWellFormed symbols rules shapes root
well-formed = grammar-tested symbols rules shapes root (record {
  root_symbol = refl;
  terminals_bare = (λ h. never h, (λ h. never h, (λ h. refl, (λ h. never h, tt))));
  symbol_names = refl;
  attribute_names = refl;
  rule_names = refl;
  each_rule = (list-rule, (item-rule, (cell-rule, (end-rule, tt))));
  each_list = (λ h. list-shape, (λ h. never h, tt));
  each_plain = (λ h. never (sym h), (λ h. refl, tt));
  each_shape = refl;
  numbers = (omega arith, omega arith);
  occurrences = refl;
  few_attributes = refl;
  few_occurrences = refl;
})

pub missing : IsWellFormed symbols goal_missing shapes root → ⊥
missing w = never ((w.each_rule 1 item_rule (omega arith)).goals (occurrence 0 1))

pub twice : IsWellFormed symbols goal_twice shapes root → ⊥
twice w = (w.each_rule 1 item_rule (omega arith)).once 0 2 n_of_item (omega arith) (omega arith) refl

pub elsewhere : IsWellFormed symbols cell_used_elsewhere (list_shape ∷ item_with_cell ∷ []) root → ⊥
elsewhere w = let e = ap length (w.each_list 0 list_shape (omega arith) refl).used_once in absurd (omega (arith, e))
