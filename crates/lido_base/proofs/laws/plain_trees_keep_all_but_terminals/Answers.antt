use Rattle.lido_base.proofs.PlainLemmas.{plain_rule, plain_parent, plain_place, plain_coordinate, plain_items, plain_length, plain_children, plain_ancestors, plain_is_tree, stored_is_tree}
use Rattle.lido_base.proofs.laws.plain_trees_keep_all_but_terminals.Goals as goal

pub returns-clause-count : goal.returns-clause-count
returns-clause-count c = λ texts t. plain_length texts t

pub returns-clause-rules : goal.returns-clause-rules
returns-clause-rules c = λ texts t n. plain_rule texts t n

pub returns-clause-parents : goal.returns-clause-parents
returns-clause-parents c = λ texts t n. plain_parent texts t n

pub returns-clause-places : goal.returns-clause-places
returns-clause-places c = λ texts t n. plain_place texts t n

pub returns-clause-coordinates : goal.returns-clause-coordinates
returns-clause-coordinates c = λ texts t n part. plain_coordinate texts t n part

pub returns-clause-items : goal.returns-clause-items
returns-clause-items c = λ texts t n. plain_items texts t n

pub returns-clause-children : goal.returns-clause-children
returns-clause-children c = λ texts t n. plain_children texts t n

pub returns-clause-ancestors : goal.returns-clause-ancestors
returns-clause-ancestors c = λ texts t n. plain_ancestors texts t n

pub returns-clause-tree : goal.returns-clause-tree
returns-clause-tree c = λ texts t. (stored_is_tree texts t, plain_is_tree texts t)
