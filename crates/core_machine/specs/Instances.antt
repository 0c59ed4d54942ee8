-- The instances of a flat tree in an order: which node computes each, and on which others it depends.
use Rattle.std.specs.Prelude.{◌≡◌, ◌↔◌, ℕ, List, ◌∷◌, ◌++◌, Contains}
use Rattle.lido_base.specs.Tree.{Tree}
use Rattle.flat_grammar.specs.declared.flat.Occ.{Occ}
use Rattle.flat_grammar.specs.declared.flat.FlatSymbol.{FlatSymbol}
use Rattle.flat_grammar.specs.declared.flat.FlatRule.{FlatRule}
use Rattle.flat_grammar.specs.declared.flat.FlatComp.{FlatComp}
use Rattle.flat_grammar.specs.Rules.{dependencies, HasRule}
use Rattle.flat_grammar.specs.SoundPlan.{goals_of}
use Rattle.flat_grammar.specs.WholeOrder.{Instance}
use Rattle.flat_grammar.specs.Instances.{IsInstance, instance_at}

module _ {V : Type 0} (symbols : List FlatSymbol) (rules : List FlatRule) (t : Tree V) where
  -- the rule of node n computes the instance, as this goal of its
  pub record IsSite (i : Instance) (n : ℕ) (o : Occ) : Type 0 where
    pub rule : FlatRule
    pub at : HasRule rules t n rule
    pub goal : Contains (goals_of rule) o
    pub gives : i ≡ instance_at t n o

  -- the computation of i, at some node, depends on j
  pub record DependsOn (i j : Instance) : Type 0 where
    pub node : ℕ
    pub rule : FlatRule
    pub at : HasRule rules t node rule
    pub comp : FlatComp
    pub computes : Contains rule.comps comp
    pub gives : i ≡ instance_at t node comp.goal
    pub on : Occ
    pub depends : Contains (dependencies comp) on
    pub is : j ≡ instance_at t node on

  -- The list has exactly the instances, each once, behind all on which it depends.
  pub record IsInOrder (whole : List Instance) : Type 0 where
    pub instances : (i : Instance) → Contains whole i ↔ IsInstance symbols rules t i
    pub once : (front back : List Instance) (i : Instance) → whole ≡ front ++ i ∷ back → ¬ Contains front i
    pub behind : (front back : List Instance) (i j : Instance) → whole ≡ front ++ i ∷ back → DependsOn i j → Contains front j
