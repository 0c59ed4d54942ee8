-- Who needs what in the specification of counted items.
use Rattle.std.specs.Prelude.{◌≡◌, ℕ, false, refl}
use Rattle.lido_base.specs.Reach.{source, edge}
use Rattle.lido_syntax.specs.Sets.{Sets, Inherits}
use Rattle.trials_of_syntax.proofs.Members.{one_of}
use Rattle.trials_of_syntax.proofs.Classes.{inherits_within}
use Rattle.trials_of_syntax.proofs.RulesOnly.{false_from}
use Rattle.rule_tables.specs.Needs.{NeedsIncluding, NeedsChain, IsWanted, CanReach}
use Rattle.trials_of_tables.specs.CountedItems.{spec, tables, cell, Counted, Top, Item, no, pairs, sum}

-- the one class that anything inherits
inherits_counted : (s class : ℕ) → Inherits spec s class → class ≡ Counted
inherits_counted = inherits_within spec (λ s class. class ≡ Counted) ((λ s class h k. cc), ((λ s class h k. one_of class Counted k), tt)) (λ s class above x y. y)

pub no_top : (sets : Sets spec) (s : ℕ) → sets.inherits s Top ≡ false
no_top sets s = false_from (sets.inherits s Top) (λ h. let wrong : Top ≡ Counted = inherits_counted s Top ((sets.inherits_exactly s Top).0 h) in cc)

pub item_needs : (sets : Sets spec) → NeedsIncluding spec (tables sets) pairs Item
item_needs sets = source (rw (no_top sets Item) refl)

pub cell_needs : (sets : Sets spec) → NeedsIncluding spec (tables sets) pairs cell
cell_needs sets = edge {c = Item} refl (item_needs sets)

pub item_wanted : (sets : Sets spec) → IsWanted spec (tables sets) sum Item
item_wanted sets = edge {c = cell} refl (source refl)

pub item_reaches : (sets : Sets spec) → CanReach spec (tables sets) sum Item
item_reaches sets = source refl

pub cell_reaches : (sets : Sets spec) → CanReach spec (tables sets) sum cell
cell_reaches sets = edge {c = Item} refl (item_reaches sets)

pub item_chain : (sets : Sets spec) → NeedsChain spec (tables sets) no Item
item_chain sets = source refl

pub cell_chain : (sets : Sets spec) → NeedsChain spec (tables sets) no cell
cell_chain sets = edge {c = Item} refl (item_chain sets)

pub cell_wanted : (sets : Sets spec) → IsWanted spec (tables sets) sum cell
cell_wanted sets = source refl
