-- What stands at an occurrence, as the tree has it.
use Rattle.lido_base.specs.declared.value.Value.{Value}
use Rattle.lido_base.specs.Tree.{Item, Child, Leaf}
use Rattle.region_engine.specs.declared.sites.Standing.{Standing}
use Rattle.region_engine.specs.declared.sites.Standing.TheVariants.{Node, Terminal}

-- the item of the tree
abbrev pub item_of : Standing → Item Value
item_of (Node c) = Child c.0
item_of (Terminal v) = Leaf v
