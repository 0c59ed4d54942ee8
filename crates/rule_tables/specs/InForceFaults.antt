-- The faults that stand between a specification and its computations in force. Symbols and attributes are ordered by number.
use Rattle.std.specs.Prelude.{◌≡◌, ℕ, suc, ◌<◌, ◌≤◌, ◌⊎◌, Bool, false, nat_eq, List, [], ◌∷◌, map, Option, Some, slice_get}
use Rattle.std.specs.List.{AllZip}
use Rattle.lido_base.specs.Reach.{IsLeastCycle}
use Rattle.lido_base.specs.declared.ids.StrId.{StrId}
use Rattle.lido_base.specs.declared.kinds.Kind.TheVariants as kind
use Rattle.lido_syntax.specs.declared.fault.SpecFault.{SpecFault}
use Rattle.lido_syntax.specs.declared.fault.SpecFault.TheVariants as fault
use Rattle.lido_syntax.specs.declared.spec.Spec.{Spec}
use Rattle.lido_syntax.specs.declared.spec.Comp.{Comp}
use Rattle.lido_syntax.specs.declared.spec.RuleItem.{RuleItem}
use Rattle.lido_syntax.specs.Production.{name_of, left_of, right_of}
use Rattle.lido_syntax.specs.Symbols.{IsNonterminal, IsRoot, IsChain}
use Rattle.lido_syntax.specs.Sets.{inherits_directly}
use Rattle.lido_syntax.specs.Attributes.{Has, HasKind}
use Rattle.lido_syntax.specs.Computation.{Goal, Synthesized, Inherited, Start, Behind, Output, Message, InSymbol, HasInSymbol, HasComputation, IsLeft}
use Rattle.lido_symbols.specs.Numbers.{place_in}
use Rattle.rule_tables.specs.Needs.{Tables}

-- of two pairs of numbers the first comes before the second
abbrev pub IsBefore : ℕ × ℕ → ℕ × ℕ → Type 0
IsBefore x y = (x.0 < y.0) ⊎ ((x.0 ≡ y.0) × (x.1 < y.1))

-- what a goal is about
abbrev pub name_in : Goal → ℕ
name_in (Synthesized a) = a
name_in (Inherited a) = a
name_in (Start c) = c
name_in (Behind c) = c
name_in _ = 0

module _ (spec : Spec) (T : Tables spec) where
  -- an edge from a class to one that an item of it names behind INHERITS, by their numbers
  abbrev pub inherits_of : Option ℕ → Option ℕ → Bool
  inherits_of (Some s) (Some class) = inherits_directly spec s class
  inherits_of _ _ = false

  abbrev pub is_heir : ℕ → ℕ → Bool
  is_heir x y = inherits_of (slice_get T.symbols x) (slice_get T.symbols y)

  -- ClassCycle: a class inherits itself, by the least of the shortest ways
  abbrev pub IsClassCycle : SpecFault → Type 0
  IsClassCycle f = (numbers : List ℕ) × (path : List StrId) × IsLeastCycle is_heir numbers × AllZip (λ x (id : StrId). slice_get T.symbols x ≡ Some id.0) numbers path × (f ≡ fault.ClassCycle path)

  -- the order of goals: attributes, starts of chains, assignments of chains, the output, messages; each by number
  abbrev pub goal_place : Goal → ℕ × ℕ
  goal_place (Synthesized a) = (0, place_in (nat_eq a) T.attributes)
  goal_place (Inherited a) = (0, place_in (nat_eq a) T.attributes)
  goal_place (Start c) = (1, place_in (nat_eq c) (map (λ d. name_of d.name) spec.chains))
  goal_place (Behind c) = (2, place_in (nat_eq c) (map (λ d. name_of d.name) spec.chains))
  goal_place Output = (3, 0)
  goal_place (Message j) = (4, j)

  -- a goal that a symbol can have in its bodies: one of its attributes, or of a chain that is declared
  abbrev pub IsGoalFor : ℕ → Goal → Type 0
  IsGoalFor s (Synthesized a) = Has spec s a × HasKind spec s a kind.Synthesized
  IsGoalFor s (Inherited a) = Has spec s a × HasKind spec s a kind.Inherited
  IsGoalFor s (Start c) = IsChain spec c
  IsGoalFor s (Behind c) = IsChain spec c
  IsGoalFor s _ = ⊥

  -- the symbol has no computation of its own, and those of two classes are left
  pub record IsClash (s : ℕ) (g : Goal) : Type 0 where
    pub nonterminal : IsNonterminal spec s
    pub its_goal : IsGoalFor s g
    pub not_own : ¬ HasInSymbol spec s g
    pub one : ℕ
    pub other : ℕ
    pub one_left : IsLeft spec s g one
    pub other_left : IsLeft spec s g other
    pub two : one ≡ other → ⊥

  -- a class is left for the symbol, and its computation of the goal has that place
  abbrev pub IsLeftAt : ℕ → Goal → ℕ → ℕ → Type 0
  IsLeftAt s g class at = (c : Comp) × IsLeft spec s g class × InSymbol spec class g c × (c.at ≡ at)

  -- the places of the first two classes' computations that are left; those in one body of both classes have one place
  pub record AreFirstTwo (s : ℕ) (g : Goal) (first second : ℕ) : Type 0 where
    pub one : ℕ
    pub other : ℕ
    pub is_first : IsLeftAt s g one first
    pub is_second : IsLeftAt s g other second
    pub two : one ≡ other → ⊥
    pub in_order : first ≤ second
    pub no_other : (class at : ℕ) → IsLeftAt s g class at → (class ≡ one) ⊎ (second ≤ at)

  -- ClashInherited: at the least nonterminal, and at its least goal
  pub record IsClashInherited (f : SpecFault) : Type 0 where
    pub x : ℕ
    pub s : ℕ
    pub g : Goal
    pub first : ℕ
    pub second : ℕ
    pub number : slice_get T.symbols x ≡ Some s
    pub clash : IsClash s g
    pub least_symbol : (y q : ℕ) (h : Goal) → slice_get T.symbols y ≡ Some q → IsClash q h → x ≤ y
    pub least_goal : (h : Goal) → IsClash s h → ¬ IsBefore (goal_place h) (goal_place g)
    pub places : AreFirstTwo s g first second
    pub fault : f ≡ fault.ClashInherited (record { 0 = s }) (record { 0 = name_in g }) first second

  -- an attribute of the symbol at an occurrence that the written rule has to compute, and nothing does; an inherited one of the
  -- root is missing whatever computes it, but nobody can
  pub data IsMissing (i : ℕ) : ℕ → ℕ → Type 0 where
    left : (r : RuleItem) (a : ℕ) → slice_get spec.rules i ≡ Some r → Has spec (left_of r) a → HasKind spec (left_of r) a kind.Synthesized → ¬ HasComputation spec r 0 (left_of r) (Synthesized a) → IsMissing i 0 a
    right : (r : RuleItem) (j s a : ℕ) → slice_get spec.rules i ≡ Some r → slice_get (right_of r) j ≡ Some s → Has spec s a → HasKind spec s a kind.Inherited → ¬ HasComputation spec r (suc j) s (Inherited a) → IsMissing i (suc j) a
    root : (r : RuleItem) (a : ℕ) → slice_get spec.rules i ≡ Some r → IsRoot spec (left_of r) → Has spec (left_of r) a → HasKind spec (left_of r) a kind.Inherited → IsMissing i 0 a

  -- MissingComputation: in the first rule, at its first occurrence, the first attribute by number
  pub record IsMissingComputation (f : SpecFault) : Type 0 where
    pub i : ℕ
    pub k : ℕ
    pub a : ℕ
    pub rule : RuleItem
    pub missing : IsMissing i k a
    pub first_occurrence : (j l b : ℕ) → IsMissing j l b → ¬ IsBefore (j, l) (i, k)
    pub first_attribute : (b : ℕ) → IsMissing i k b → place_in (nat_eq a) T.attributes ≤ place_in (nat_eq b) T.attributes
    pub of_rule : slice_get spec.rules i ≡ Some rule
    pub fault : f ≡ fault.MissingComputation rule.name k (record { 0 = a })

  -- the faults of the computations in force, in order
  abbrev pub in_force_faults : List (SpecFault → Type 0)
  in_force_faults = IsClassCycle ∷ IsClashInherited ∷ IsMissingComputation ∷ []
