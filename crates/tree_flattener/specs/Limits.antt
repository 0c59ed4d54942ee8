-- What is too much in a flat tree.
use Rattle.std.specs.Prelude.{ℕ, ◌<◌, ◌≤◌, ◌≡◌, ◌⊎◌, List}
use Rattle.lido_base.specs.declared.kinds.Many.TheVariants as many
use Rattle.lido_base.specs.Tree.{Tree}
use Rattle.flat_grammar.specs.declared.flat.FlatSymbol.{FlatSymbol}
use Rattle.flat_grammar.specs.declared.flat.FlatRule.{FlatRule}
use Rattle.flat_grammar.specs.declared.flat.Shape.{Shape}
use Rattle.flat_grammar.specs.Fitting.{instances, text_cells, most_instances, most_text_cells}
use Rattle.flat_grammar.specs.FlatTrees.{IsFlatTree}
use Rattle.tree_store.specs.declared.fault.TreeFault.{TreeFault}
use Rattle.tree_store.specs.declared.fault.TreeFault.TheVariants as fault

-- the flat tree has too much of this: instances, or else text cells
abbrev pub HasTooMany : {V : Type 0} → List FlatSymbol → List FlatRule → Tree V → TreeFault → Type 0
HasTooMany symbols rules flat (fault.TooMany many.Instances) = most_instances < instances symbols rules flat
HasTooMany symbols rules flat (fault.TooMany many.TextCells) = (instances symbols rules flat ≤ most_instances) × (most_text_cells < text_cells symbols rules flat)
HasTooMany symbols rules flat _ = ⊥

-- the written tree is refused for want of memory, or because its flat tree has too much of something
abbrev pub IsRefused : {V : Type 0} → List FlatSymbol → List FlatRule → List Shape → Tree V → TreeFault → Type 0
IsRefused {V} symbols rules shapes written e = (e ≡ fault.Memory) ⊎ ((flat : Tree V) × (node_of : List ℕ) × IsFlatTree rules shapes written flat node_of × HasTooMany symbols rules flat e)
