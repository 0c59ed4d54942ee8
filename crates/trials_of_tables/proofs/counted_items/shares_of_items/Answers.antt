use Rattle.std.specs.Prelude.{IsTrue, [], ◌≡◌, true, refl}
use Rattle.std.proofs.Common.{arith, subst}
use Rattle.lido_syntax.specs.Sets.{Sets}
use Rattle.lido_syntax.specs.Computation.{by_rule}
use Rattle.rule_tables.specs.Needs.{Needs}
use Rattle.rule_tables.specs.Slots.{Front, Con, has_con}
use Rattle.rule_tables.specs.Shares.{ConstituentsShare, gathered, weight_term, below_term, Comb, Read, ChainShare, Copied, front_term, handed_down, in_front, behind}
use Rattle.trials_of_tables.specs.CountedItems.{spec, tables, cell, Item, no, pairs, sum, with_sum, rule_of_top, rule_of_link, of_top, start}
use Rattle.trials_of_tables.proofs.ItemsLemmas.{item_needs, cell_needs, item_chain, cell_chain, item_wanted, cell_wanted, item_reaches, cell_reaches}
use Rattle.trials_of_tables.proofs.counted_items.shares_of_items.Goals as goal

pub returns-clause-from_root : goal.returns-clause-from_root
returns-clause-from_root c sets needs = handed_down 0 cell 0 pairs refl refl ((needs.including_exactly pairs cell).1 (cell_needs sets))

pub returns-clause-from_cell : goal.returns-clause-from_cell
returns-clause-from_cell c sets needs = handed_down 0 Item 0 pairs refl refl ((needs.including_exactly pairs Item).1 (item_needs sets))

entered : (sets : Sets spec) (needs : Needs spec (tables sets)) → needs.chain no cell ≡ true → front_term spec (tables sets) needs rule_of_top of_top no 1 ≡ Copied by_rule start
entered sets needs e = rw e refl

pub returns-clause-started : goal.returns-clause-started
returns-clause-started c sets needs =
    let needed : needs.chain no cell ≡ true = (needs.chain_exactly no cell).1 (cell_chain sets) in
    subst (ChainShare spec (tables sets) needs rule_of_top of_top 1 (Front no)) (entered sets needs needed) (in_front 0 cell no refl (0, omega arith, refl) needed)

pub returns-clause-assigned : goal.returns-clause-assigned
returns-clause-assigned c sets needs = behind no (0, omega arith, refl) ((needs.chain_exactly no Item).1 (item_chain sets))

module _ (sets : Sets spec) (needs : Needs spec (tables sets)) where
  item_is_wanted : needs.wanted sum Item ≡ true
  item_is_wanted = (needs.wanted_exactly sum Item).1 (item_wanted sets)

  cell_is_wanted : needs.wanted sum cell ≡ true
  cell_is_wanted = (needs.wanted_exactly sum cell).1 (cell_wanted sets)

  item_does_reach : needs.reaches sum Item ≡ true
  item_does_reach = (needs.reaches_exactly sum Item).1 (item_reaches sets)

  cell_does_reach : needs.reaches sum cell ≡ true
  cell_does_reach = (needs.reaches_exactly sum cell).1 (cell_reaches sets)

  cell_has : IsTrue (has_con spec (tables sets) needs sum cell)
  cell_has = rw (cell_is_wanted, cell_does_reach) refl

  in_cell : weight_term spec (tables sets) needs rule_of_link [] sum ≡ Comb 4 with_sum.comb (Read 1 (Con 4)) (Read 2 (Con 4))
  in_cell = rw (item_is_wanted, item_does_reach, cell_is_wanted, cell_does_reach) refl

  from_cell : below_term spec (tables sets) needs rule_of_top of_top sum ≡ Read 1 (Con 4)
  from_cell = rw (cell_is_wanted, cell_does_reach) refl

pub returns-clause-gathered : goal.returns-clause-gathered
returns-clause-gathered c sets needs = subst (ConstituentsShare spec (tables sets) needs rule_of_link [] 0 (Con 4)) (in_cell sets needs) (gathered sum (0, omega arith, refl) (cell_has sets needs))

pub returns-clause-below_root : goal.returns-clause-below_root
returns-clause-below_root c = from_cell
