use Rattle.std.proofs.Common.{◌≡◌, ◌<◌, ◌+◌, ℕ, arith, Some}
use Rattle.lido_base.specs.Tree.{parent_of}
use Rattle.lido_base.proofs.TreeLemmas.{parent_before}
use Rattle.lido_base.proofs.PathLemmas.{child_parent, child_place, own_item, parent_there, with_parent_inside, ascending, root_on_path, on_path_before, in_subtree, together}
use Rattle.lido_base.proofs.laws.subtrees_stand_together.Goals as goal

pub returns-clause-child : goal.returns-clause-child
returns-clause-child g c = λ t p place d tree e. let up = child_parent t tree p place d e in (up, child_place t tree p place d e, parent_before t tree d p up, with_parent_inside t d p up)

pub returns-clause-item : goal.returns-clause-item
returns-clause-item g c = λ t p d tree up. own_item t tree d p up

pub returns-clause-parent : goal.returns-clause-parent
returns-clause-parent g c = λ t n tree inside. let there = parent_there t tree n inside in (there.0, there.1, parent_before t tree (n + 1) there.0 there.1)

pub returns-clause-in_order : goal.returns-clause-in_order
returns-clause-in_order g c = λ t p i j d e tree at_i at_j less. ascending t tree p i j d e at_i at_j less

pub returns-clause-whole : goal.returns-clause-whole
returns-clause-whole g c = λ t n tree inside. root_on_path t tree n inside

pub returns-clause-behind : goal.returns-clause-behind
returns-clause-behind g c = λ t m n tree within. on_path_before t tree n m within

pub returns-clause-inner : goal.returns-clause-inner
returns-clause-inner g c = λ t m q n tree outer within. in_subtree t tree m q n outer within

pub returns-clause-together : goal.returns-clause-together
returns-clause-together g c = λ t m n y tree within low high. together t tree m n y within low high
