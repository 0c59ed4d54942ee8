-- The partition of a symbol's attributes into visits, peeled from the last class to the first. After Kastens 1980; the form
-- of the peeling, and that what is left is one earliest class, are our own.
use Rattle.std.specs.Prelude.{◌≡◌, ℕ, zero, suc, ◌+◌, ◌*◌, ◌<◌, ◌≤◌, ◌⊎◌, ◌↔◌, List, [], map, reverse, length, Some, slice_get, IsTrue, IsFalse, Contains, IsSome}
use Rattle.std.specs.List.Sorted.{IsStrictlyIncreasing}
use Rattle.lido_base.specs.declared.ids.SymId.{SymId}
use Rattle.lido_base.specs.declared.ids.AttrId.{AttrId}
use Rattle.lido_base.specs.declared.kinds.Kind.{Kind}
use Rattle.lido_base.specs.declared.kinds.Kind.TheVariants.{Synthesized, Inherited}
use Rattle.flat_grammar.specs.declared.flat.FlatSymbol.{FlatSymbol}
use Rattle.flat_grammar.specs.declared.flat.FlatAttr.{FlatAttr}
use Rattle.flat_grammar.specs.declared.flat.FlatRule.{FlatRule}
use Rattle.flat_grammar.specs.declared.plan.VisitClass.{VisitClass}
use Rattle.flat_grammar.specs.Rules.{attribute_at}
use Rattle.flat_grammar.specs.Dependencies.{IDS}
use Rattle.flat_grammar.specs.WellFormed.{is_nonterminal}

-- Classes count from 0 at the end. Synthesized and inherited ones take turns, and the last is synthesized.
abbrev pub kind_of_class : ℕ → Kind
kind_of_class zero = Synthesized
kind_of_class (suc zero) = Inherited
kind_of_class (suc (suc k)) = kind_of_class k

-- the symbol has the attribute, and it is of this kind
abbrev pub HasKind : List FlatSymbol → SymId → Kind → AttrId → Type 0
HasKind symbols x kind a = (attr : FlatAttr) × (attribute_at symbols x a ≡ Some attr) × (attr.kind ≡ kind)

module _ (symbols : List FlatSymbol) (rules : List FlatRule) (x : SymId) where
  -- a set of attributes of one kind, all of whose induced successors are peeled or in the set
  abbrev pub IsClosedSet : (AttrId → Type 0) → Kind → List AttrId → Type 0
  IsClosedSet Peeled kind set = (a : AttrId) → Contains set a → HasKind symbols x kind a × ((b : AttrId) → IDS rules x a b → Peeled b ⊎ Contains set b)

  -- The attribute is in one of the first so many classes that are peeled. Each is the greatest such set of its kind: an attribute
  -- is in it where some such set holds it.
  abbrev pub IsPeeled : ℕ → AttrId → Type 0
  IsPeeled zero a = ⊥
  IsPeeled (suc k) a = IsPeeled k a ⊎ ((set : List AttrId) × Contains set a × IsClosedSet (IsPeeled k) (kind_of_class k) set)

  -- the attribute is in this class
  abbrev pub IsInClass : ℕ → AttrId → Type 0
  IsInClass k a = IsPeeled (suc k) a × ¬ IsPeeled k a

  -- a is in an earlier class than b; what is never peeled is in the earliest
  abbrev pub IsEarlier : AttrId → AttrId → Type 0
  IsEarlier a b = IsSome (attribute_at symbols x a) × (k : ℕ) × IsPeeled k b × ¬ IsPeeled k a

  -- the list has the attributes of the class, by ascending numbers
  pub record IsClass (k : ℕ) (attrs : List AttrId) : Type 0 where
    pub same : (a : AttrId) → Contains attrs a ↔ IsInClass k a
    pub ascending : IsStrictlyIncreasing (map (λ (a : AttrId). a.0) attrs)

  -- so many classes have all attributes
  abbrev pub PeelsAll : ℕ → Type 0
  PeelsAll k = (a : AttrId) → IsSome (attribute_at symbols x a) → IsPeeled k a

  -- The visits of a nonterminal, the first one first. The last has class 0, synthesized, and class 1, inherited; the one
  -- before it has classes 2 and 3; and so on. They are as few as have all attributes, and one at least.
  pub record AreVisits (row : List VisitClass) : Type 0 where
    pub classes : (k : ℕ) (c : VisitClass) → slice_get (reverse row) k ≡ Some c → IsClass (2 * k) c.synthesized × IsClass (2 * k + 1) c.inherited
    pub all : PeelsAll (2 * length row)
    pub fewest : (k : ℕ) → PeelsAll (2 * k) → 0 < k → length row ≤ k
    pub one : 0 < length row

-- for each symbol its visits, and none for a terminal
abbrev pub AreAllVisits : List FlatSymbol → List FlatRule → List (List VisitClass) → Type 0
AreAllVisits symbols rules visits = (length visits ≡ length symbols)
    × ((x : SymId) (row : List VisitClass) → slice_get visits x.0 ≡ Some row
    → (IsTrue (is_nonterminal symbols x) → AreVisits symbols rules x row) × (IsFalse (is_nonterminal symbols x) → row ≡ []))
