-- The extended dependencies of a rule and their cycles. After Kastens 1980; the edges between all classes of a symbol and the
-- labels are our own.
use Rattle.std.specs.Prelude.{◌≡◌, ℕ, ◌<◌, ◌≤◌, ◌⊎◌, List, [], ◌∷◌, take, Some, slice_get, All, AllPairs}
use Rattle.lido_base.specs.declared.ids.SymId.{SymId}
use Rattle.lido_base.specs.declared.ids.AttrId.{AttrId}
use Rattle.flat_grammar.specs.declared.flat.Occ.{Occ}
use Rattle.flat_grammar.specs.declared.flat.FlatSymbol.{FlatSymbol}
use Rattle.flat_grammar.specs.declared.flat.FlatRule.{FlatRule}
use Rattle.flat_grammar.specs.declared.plan.CycleStep.{CycleStep}
use Rattle.flat_grammar.specs.declared.plan.Label.{Label}
use Rattle.flat_grammar.specs.declared.plan.Label.TheVariants.{Direct, Induced, Partition}
use Rattle.flat_grammar.specs.Rules.{symbol_at}
use Rattle.flat_grammar.specs.Dependencies.{DP, IDS}
use Rattle.flat_grammar.specs.Partition.{IsEarlier}

-- the order of attribute occurrences: by occurrence, then by attribute
abbrev pub IsAtMost : Occ → Occ → Type 0
IsAtMost u v = (u.occ < v.occ) ⊎ ((u.occ ≡ v.occ) × (u.attr.0 ≤ v.attr.0))

module _ (symbols : List FlatSymbol) (rules : List FlatRule) where
  -- the dependencies of a symbol: the induced ones, and from each class to each later one
  abbrev pub DS : SymId → AttrId → AttrId → Type 0
  DS x a b = IDS rules x a b ⊎ IsEarlier symbols rules x a b

  -- An edge of the extended dependencies of a rule, which are its direct ones and those of the symbol at each occurrence. Its
  -- label is the first that fits.
  pub data EDP (r : FlatRule) (u v : Occ) : Label → Type 0 where
    direct : DP r u v → EDP r u v Direct
    induced : {x : SymId} → ¬ DP r u v → u.occ ≡ v.occ → symbol_at r u.occ ≡ Some x → IDS rules x u.attr v.attr → EDP r u v Induced
    partition : {x : SymId} → ¬ DP r u v → u.occ ≡ v.occ → symbol_at r u.occ ≡ Some x → ¬ IDS rules x u.attr v.attr → IsEarlier symbols rules x u.attr v.attr → EDP r u v Partition

  -- an edge of the extended dependencies, whatever its label
  abbrev pub IsExtended : FlatRule → Occ → Occ → Type 0
  IsExtended r u v = DP r u v ⊎ ((u.occ ≡ v.occ) × (x : SymId) × (symbol_at r u.occ ≡ Some x) × DS x u.attr v.attr)

  module _ (r : FlatRule) where
    -- a walk along the steps to w
    abbrev pub IsWalk : List CycleStep → Occ → Type 0
    IsWalk [] w = ⊥
    IsWalk (s ∷ []) w = EDP r s.from w s.label
    IsWalk (s ∷ q ∷ more) w = EDP r s.from q.from s.label × IsWalk (q ∷ more) w

    -- a closed walk in which no vertex stands twice, begun at its least one
    abbrev pub IsCycle : List CycleStep → Type 0
    IsCycle [] = ⊥
    IsCycle (s ∷ more) = IsWalk (s ∷ more) s.from × AllPairs (λ p q. p.from ≡ q.from → ⊥) (s ∷ more) × All (λ (q : CycleStep). IsAtMost s.from q.from) more

    -- the extended dependencies of the rule have no cycle
    abbrev pub IsAcyclic : Type 0
    IsAcyclic = (steps : List CycleStep) → ¬ IsCycle steps

  -- the steps are a cycle of the first rule that has one
  abbrev pub IsCircular : ℕ → List CycleStep → Type 0
  IsCircular i steps = (r : FlatRule) × (slice_get rules i ≡ Some r) × IsCycle r steps × All IsAcyclic (take i rules)

  -- the grammar is ordered: no rule has a cycle
  abbrev pub IsOrderedGrammar : Type 0
  IsOrderedGrammar = All IsAcyclic rules
