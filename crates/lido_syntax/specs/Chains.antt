-- Chains: a value that is threaded through a subtree from its start (after LIDO, CHAIN; what stands at a node with a start and at one without nonterminal children is this profile's own).
use Rattle.std.specs.Prelude.{◌≡◌, ℕ, ◌⊎◌, List, [], ◌∷◌, ◌++◌, Some, Contains}
use Rattle.lido_base.specs.declared.value.ValueType.{ValueType}
use Rattle.lido_base.specs.Plain.{Plain, Void}
use Rattle.lido_base.specs.Operations.{kept}
use Rattle.lido_base.specs.Tree.{Tree, children}
use Rattle.lido_syntax.specs.declared.spec.Spec.{Spec}
use Rattle.lido_syntax.specs.declared.spec.Name.{Name}
use Rattle.lido_syntax.specs.declared.spec.RuleItem.{RuleItem}
use Rattle.lido_syntax.specs.declared.spec.Comp.{Comp}
use Rattle.lido_syntax.specs.declared.spec.Expr.{Expr}
use Rattle.lido_syntax.specs.declared.spec.Place.TheVariants as place
use Rattle.lido_syntax.specs.Production.{name_of}
use Rattle.lido_syntax.specs.Attributes.{reads}
use Rattle.lido_syntax.specs.Computation.{Holder}
use Rattle.lido_syntax.specs.Computation as goal
use Rattle.lido_syntax.specs.Assignment.{Assignment, Front, Behind, value_at}
use Rattle.lido_base.specs.Environment.{Environment}
use Rattle.lido_syntax.specs.Nodes.{IsAt, InForceAt, HasInForce, IsUnder}
use Rattle.lido_syntax.specs.Sets.{Sets}
use Rattle.lido_syntax.specs.Value.{value}

module _ (spec : Spec) (sets : Sets spec) (env : Environment) (t : Tree Plain) (A : Assignment) where
  -- the value of a computation of that holder at its context node, whose rule is r, where TAIL gives what `tail` says
  abbrev pub value_by : (ℕ → Plain) → ℕ → Holder → RuleItem → Comp → Plain
  value_by tail n h r c = value spec sets env t A h r c.number n tail c.value

  -- the value with which chain c starts at node n; no TAIL stands in it
  abbrev pub IsStart : ℕ → ℕ → Plain → Type 0
  IsStart c n v = (h : Holder) × (comp : Comp) × (r : RuleItem) × InForceAt spec t n (goal.Start c) h comp × IsAt spec t n r × (v ≡ value_by (λ chain. Void) n h r comp)

  -- What a first child of node n has in front of it: the start's value, or where no start is in force what stands in front of n.
  abbrev pub IsEntry : ℕ → ℕ → Plain → Type 0
  IsEntry c n v = IsStart c n v ⊎ (¬ HasInForce spec t n (goal.Start c) × (v ≡ value_at A n (Front c)))

  -- TAIL at node n: behind the last nonterminal child, and where there is none what a first one would have in front
  abbrev pub IsTail : ℕ → ℕ → Plain → Type 0
  IsTail c n v = ((before : List ℕ) × (m : ℕ) × (children t n ≡ before ++ m ∷ []) × (v ≡ value_at A m (Behind c))) ⊎ ((children t n ≡ []) × IsEntry c n v)

  -- the expression reads TAIL of the chain
  abbrev pub ReadsTail : Expr → ℕ → Type 0
  ReadsTail e c = (x : Name) × Contains (reads e) (place.Tail, x) × (name_of x ≡ c)

  -- v is the value of an expression at the context node of the computation of that holder and number in which it stands
  abbrev pub IsValue : ℕ → Holder → ℕ → Expr → Plain → Type 0
  IsValue n h number e v = (r : RuleItem) × (tail : ℕ → Plain) × IsAt spec t n r × ((c : ℕ) → ReadsTail e c → IsTail c n (tail c)) × (v ≡ value spec sets env t A h r number n tail e)

  -- v is the value of the computation of that holder at its context node
  abbrev pub IsComputed : ℕ → Holder → Comp → Plain → Type 0
  IsComputed n h comp v = IsValue n h comp.number comp.value v

  -- The chain of that type is threaded: what stands in front of each node and behind it. What isn't under a start has neither.
  -- Of a start and of an assignment a VOID chain keeps a Bad alone.
  pub record IsThreaded (c : ℕ) (ty : ValueType) : Type 0 where
    pub first_child : (n m : ℕ) (rest : List ℕ) (v : Plain) → children t n ≡ m ∷ rest → IsStart c n v → A m (Front c) ≡ Some (kept ty v)
    pub first_child_passed : (n m : ℕ) (rest : List ℕ) → children t n ≡ m ∷ rest → ¬ HasInForce spec t n (goal.Start c) → A m (Front c) ≡ A n (Front c)
    pub later_child : (n j m : ℕ) (before rest : List ℕ) → children t n ≡ before ++ j ∷ m ∷ rest → A m (Front c) ≡ A j (Behind c)
    pub assigned : (n : ℕ) (h : Holder) (comp : Comp) → IsUnder spec t c n → InForceAt spec t n (goal.Behind c) h comp → (v : Plain) × IsComputed n h comp v × (A n (Behind c) ≡ Some (kept ty v))
    pub not_passed_on : (n : ℕ) → ¬ HasInForce spec t n (goal.Behind c) → (children t n ≡ []) ⊎ HasInForce spec t n (goal.Start c) → A n (Behind c) ≡ A n (Front c)
    pub passed_on : (n m : ℕ) (before : List ℕ) → ¬ HasInForce spec t n (goal.Behind c) → ¬ HasInForce spec t n (goal.Start c) → children t n ≡ before ++ m ∷ [] → A n (Behind c) ≡ A m (Behind c)
