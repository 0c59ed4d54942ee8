-- The least origin of a fault among the values of a list, and the notes that they tell.
use Rattle.std.specs.Prelude.{◌≡◌, ◌<◌, ◌⊎◌, ℕ, true, List, Option, Some, None, slice_get}
use Rattle.lido_base.specs.declared.value.Value.{Value}
use Rattle.lido_base.specs.declared.value.Value.TheVariants as value
use Rattle.lido_base.specs.declared.value.Origin.{Origin}
use Rattle.lido_base.specs.Origins.{IsAtMost}
use Rattle.flat_grammar.specs.declared.flat.FlatRule.{FlatRule}
use Rattle.flat_grammar.specs.declared.flat.FlatAttr.{FlatAttr}
use Rattle.flat_grammar.specs.Rules.{attrs_of, HasRule}
use Rattle.flat_grammar.specs.WholeOrder.{Instance}
use Rattle.core_machine.specs.Core.{Task}
use Rattle.core_machine.specs.Slots.{found}

-- the least origin of which the fact holds, or nothing where it holds of none
abbrev pub IsLeast : (Origin → Type 0) → Option Origin → Type 0
IsLeast P None = (o : Origin) → ¬ P o
IsLeast P (Some o) = P o × ((p : Origin) → P p → IsAtMost o p)

-- the lesser of two origins, of which there may be none
abbrev pub IsLesser : Option Origin → Option Origin → Option Origin → Type 0
IsLesser None b r = r ≡ b
IsLesser (Some a) None r = r ≡ Some a
IsLesser (Some a) (Some b) r = ((r ≡ Some a) × IsAtMost a b) ⊎ ((r ≡ Some b) × IsAtMost b a)

-- the origin of a Bad value of an attribute that is marked as written
abbrev pub fault_of : FlatAttr → Value → Option Origin
fault_of attr (value.Bad o) = elim attr.written [ true ↦ Some o | _ ↦ None ]
fault_of attr _ = None

-- the instance is of a node before n, or of node n and an attribute before a
abbrev pub IsBefore : ℕ → ℕ → Instance → Type 0
IsBefore n a i = (i.0 < n) ⊎ ((i.0 ≡ n) × (i.1 < a))

module _ (j : Task) (values : List Value) where
  -- the instance's attribute is marked as written, and its value in the list is Bad with this origin
  abbrev pub IsFaultOf : Instance → Origin → Type 0
  IsFaultOf i o = (r : FlatRule) × (attr : FlatAttr) × HasRule j.rules j.flat i.0 r × (slice_get (attrs_of j.symbols r.left) i.1 ≡ Some attr)
      × (attr.written ≡ true) × (found j values i ≡ Some (value.Bad o))

  -- the same of some instance before this place
  abbrev pub IsFaultBefore : ℕ → ℕ → Origin → Type 0
  IsFaultBefore n a o = (i : Instance) × IsBefore n a i × IsFaultOf i o
