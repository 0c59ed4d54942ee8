-- All clashes but those of an attribute with two kinds or two types, by the sets of names.
use Rattle.std.specs.Prelude.{ℕ, ◌⊎◌, List}
use Rattle.lido_syntax.specs.declared.spec.Spec.{Spec}
use Rattle.lido_syntax.specs.declared.spec.RuleItem.{RuleItem}
use Rattle.lido_syntax.specs.declared.spec.SymbolItem.{SymbolItem}
use Rattle.kind_clashes.specs.declared.names.Names.{Names}
use Rattle.kind_clashes.specs.declared.sets.NameSets.{NameSets}
use Rattle.kind_clashes.specs.Comps.{IsBodyClash}
use Rattle.kind_clashes.specs.Items.{IsTerminalOfItem}
use Rattle.kind_clashes.specs.KindClash.{IsChainAgain}
use Rattle.kind_clashes.specs.Least.{Among}
use Rattle.kind_clashes.specs.Sides.{IsRuleCompClash}
use Rattle.kind_clashes.specs.Symbols.{IsClassInProduction, IsTerminalInList, InheritsNoClass}
use Rattle.kind_clashes.specs.Types.{IsFaultyTerm}

module _ (spec : Spec) (sets : NameSets) where
  -- of productions and of names that are declared
  abbrev pub IsNameClash : ℕ → Type 0
  IsNameClash at = (Among (IsClassInProduction sets) spec.rules at ⊎ Among (IsTerminalInList sets) spec.rules at)
      ⊎ (Among (InheritsNoClass sets) spec.symbols at ⊎ (IsFaultyTerm spec at ⊎ IsChainAgain spec at))

  -- in computations
  abbrev pub IsClashInRules : List (List ℕ) → ℕ → Type 0
  IsClashInRules texts = Among (λ (r : RuleItem). Among (IsRuleCompClash sets r texts) r.body) spec.rules

  abbrev pub IsClashInItems : ℕ → Type 0
  IsClashInItems = Among (λ (item : SymbolItem). Among (IsBodyClash sets) item.body) spec.symbols

  -- Of the second set are the names that have an attribute.
  abbrev pub IsPlainClash : Names → List (List ℕ) → ℕ → Type 0
  IsPlainClash bearers texts at = IsNameClash at ⊎ (Among (IsTerminalOfItem sets bearers) spec.symbols at ⊎ (IsClashInRules texts at ⊎ IsClashInItems at))
