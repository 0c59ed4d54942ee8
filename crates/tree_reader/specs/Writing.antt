-- A tree that is written in part.
use Rattle.std.specs.Prelude.{◌≡◌, ◌<◌, ◌≤◌, ⊤, ℕ, Bool, false, List, [], ◌∷◌, ◌++◌, length, Option, None, Some, Result, Err}
use Rattle.lido_base.specs.Plain.{Plain, plain_tree}
use Rattle.lido_base.specs.Tree.{Tree, IsTree, parent_of, places}
use Rattle.lido_base.specs.declared.value.Value.{Value}
use Rattle.tree_store.specs.Growth.{IsOpen}
use Rattle.tree_store.specs.declared.fault.TreeFault.{TreeFault}
use Rattle.tree_store.specs.declared.fault.TreeFault.TheVariants as fault
use Rattle.tree_reader.specs.Language.{parts_of, Forest, node, none}
use Rattle.tree_reader.specs.WrittenTrees.{Asked, Frame, resume, meaning}
use Rattle.tree_reader.specs.declared.part.Coordinates.{Coordinates}
use Rattle.tree_reader.specs.declared.part.Part.{Part}
use Rattle.tree_reader.specs.declared.part.Part.TheVariants as part
use Rattle.tree_reader.specs.declared.writer.Open.{Open}

-- The fault tells of the place where the test fails; or memory ran out.
abbrev pub RefusesIf : Bool → ℕ → TreeFault → Type 0
RefusesIf test at (fault.WrongChild place) = (place ≡ at) × (test ≡ false)
RefusesIf test at fault.Memory = ⊤
RefusesIf test at _ = ⊥

-- The fault is this one; or memory ran out.
abbrev pub StopsAt : Option TreeFault → TreeFault → Type 0
StopsAt o fault.Memory = ⊤
StopsAt o e = o ≡ Some e

-- ---- the open nodes

-- The number of the innermost of these nodes.
abbrev pub innermost : List Open → Option ℕ
innermost [] = None
innermost (o ∷ os) = Some o.node

-- The nodes are open ones of a tree, from the innermost on: each has a smaller number than the one before, which is its child, and
-- as many children as it says, of which there are at most `most`; and each has one of so many shapes.
abbrev pub AreOpen : Tree Value → ℕ → ℕ → ℕ → List Open → Type 0
AreOpen t shapes most bound [] = ⊤
AreOpen t shapes most bound (o ∷ os) = (o.node < bound) × (o.has ≡ places t o.node) × (o.has ≤ most) × (o.shape < shapes) × (parent_of t o.node ≡ innermost os) × AreOpen t shapes most o.node os

-- The innermost node can get items.
abbrev pub CanGrow : Tree Value → List Open → Type 0
CanGrow t [] = ⊤
CanGrow t (o ∷ os) = IsOpen t o.node

-- A stack of the outer nodes, the outermost first.
abbrev pub IsStack : List Open → List Open → Type 0
IsStack outer [] = outer ≡ []
IsStack outer (o ∷ os) = (first : List Open) × (outer ≡ first ++ o ∷ []) × IsStack first os

-- The innermost node, if one is open, and the stack of the others.
abbrev pub IsPath : Option Open → List Open → List Open → Type 0
IsPath None outer os = (os ≡ []) × (outer ≡ [])
IsPath (Some o) outer os = (rest : List Open) × (os ≡ o ∷ rest) × IsStack outer rest

-- The parts are those that the open nodes still ask for.
abbrev pub AreLeft : List Open → List (Frame ℕ) → List Part → Type 0
AreLeft [] [] parts = parts ≡ []
AreLeft (o ∷ os) (f ∷ fs) parts = (o.node ≡ f.at) × (o.shape ≡ f.shape) × (more : List Part) × (parts ≡ parts_of f.rest ++ (part.End f.close ∷ more)) × AreLeft os fs more
AreLeft _ _ parts = ⊥

-- What is left of the parts makes of the tree what the whole text means.
pub record MakesOf (g : Asked ℕ) (texts : List (List ℕ)) (t : Tree Value) (os : List Open) (parts : List Part) (answer : Result (Tree Plain) TreeFault) : Type 0 where
  pub frames : List (Frame ℕ)
  pub left : AreLeft os frames parts
  pub comes : answer ≡ resume g frames (plain_tree texts t)
  pub stable : (more : List (List ℕ)) → plain_tree (texts ++ more) t ≡ plain_tree texts t

-- A tree is written in part: some of its nodes are open, and what is left of the parts makes of it what the whole text means.
pub record IsWritten (g : Asked ℕ) (texts : List (List ℕ)) (t : Tree Value) (shapes most : ℕ) (next : Option Open) (outer : List Open) (parts : List Part) (answer : Result (Tree Plain) TreeFault) : Type 0 where
  pub os : List Open
  pub path : IsPath next outer os
  pub are_open : AreOpen t shapes most (length t) os
  pub can_grow : CanGrow t os
  pub tree : IsTree t
  pub makes : MakesOf g texts t os parts answer

-- The whole text means this fault; or memory ran out.
abbrev pub FailsAs : Result (Tree Plain) TreeFault → TreeFault → Type 0
FailsAs answer fault.Memory = ⊤
FailsAs answer e = answer ≡ Err e

-- The parts are those of a node, and this is what it means.
abbrev pub IsMeaning : Asked ℕ → List Part → Result (Tree Plain) TreeFault → Type 0
IsMeaning g parts r = (at : ℕ) × (name_at : ℕ) × (name : List ℕ) × (coordinates : Option Coordinates) × (below : Forest) × (end : ℕ) × (parts ≡ parts_of (node at name_at name coordinates below end none)) × (meaning g name_at name coordinates below end ≡ r)

-- The parts mean this fault; or memory ran out.
abbrev pub MeansFault : Asked ℕ → List Part → TreeFault → Type 0
MeansFault g parts fault.Memory = ⊤
MeansFault g parts e = IsMeaning g parts (Err e)

-- The parts are those of a node of this name, which stands at this place, with these coordinates, and others are behind the first.
abbrev pub IsFirstPart : List Part → ℕ → List ℕ → Option Coordinates → List Part → Type 0
IsFirstPart parts name_at name coordinates rest = (at : ℕ) × (below : Forest) × (end : ℕ) × (parts ≡ parts_of (node at name_at name coordinates below end none)) × (rest ≡ parts_of below ++ (part.End end ∷ []))
