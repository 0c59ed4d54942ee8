-- What SYMBOL items bring to the symbols that they are about: declarations, attributes that their bodies name on these symbols,
-- and classes that have attributes. For each its place.
use Rattle.std.specs.Prelude.{◌≡◌, ℕ, ◌⊎◌, not, IsTrue}
use Rattle.lido_syntax.specs.declared.spec.Name.{Name}
use Rattle.lido_syntax.specs.declared.spec.Comp.{Comp}
use Rattle.lido_syntax.specs.declared.spec.Decl.{Decl}
use Rattle.lido_syntax.specs.declared.spec.Place.{Place}
use Rattle.lido_syntax.specs.declared.spec.Place.TheVariants as place
use Rattle.lido_syntax.specs.declared.spec.SymbolItem.{SymbolItem}
use Rattle.lido_syntax.specs.declared.spec.Target.{Target}
use Rattle.lido_syntax.specs.declared.spec.Target.TheVariants as target
use Rattle.lido_syntax.specs.declared.spec.Expr.{Expr, Read}
use Rattle.lido_syntax.specs.Production.{name_of}
use Rattle.lido_syntax.specs.Parts.{leaves_of}
use Rattle.kind_clashes.specs.declared.names.Names.{Names}
use Rattle.kind_clashes.specs.declared.sets.NameSets.{NameSets}
use Rattle.kind_clashes.specs.Comps.{is_chain_in, IsTerminalName}
use Rattle.kind_clashes.specs.Least.{Among}
use Rattle.kind_clashes.specs.Names.{has}

module _ (sets : NameSets) where
  abbrev pub IsNoChain : Name → ℕ → Type 0
  IsNoChain a at = IsTrue (not (is_chain_in sets a)) × (at ≡ a.at)

  -- an attribute at a place that means the symbol itself
  abbrev pub IsOwnUse : Place → Name → ℕ → Type 0
  IsOwnUse place.Synt a at = IsNoChain a at
  IsOwnUse place.Inh a at = IsNoChain a at
  IsOwnUse place.This a at = IsNoChain a at
  IsOwnUse _ a at = ⊥

  abbrev pub IsOwnLeaf : Expr → ℕ → Type 0
  IsOwnLeaf (Read first p a) at = IsOwnUse p a at
  IsOwnLeaf _ at = ⊥

  abbrev pub IsOwnTarget : Target → ℕ → Type 0
  IsOwnTarget (target.Attr p a) at = IsOwnUse p a at
  IsOwnTarget _ at = ⊥

  abbrev pub IsOwnIn : Comp → ℕ → Type 0
  IsOwnIn c at = IsOwnTarget c.target at ⊎ Among IsOwnLeaf (leaves_of c) at

  -- Of the set are the names that have an attribute.
  module _ (bearers : Names) where
    abbrev pub IsBrought : SymbolItem → ℕ → Type 0
    IsBrought item at = Among (λ (d : Decl) at. at ≡ d.attr.at) item.decls at
        ⊎ (Among IsOwnIn item.body at ⊎ Among (λ (x : Name) at. IsTrue (has bearers (name_of x)) × (at ≡ x.at)) item.inherits at)

    -- a terminal that the item is about, where it brings something
    abbrev pub IsTerminalOfItem : SymbolItem → ℕ → Type 0
    IsTerminalOfItem item at = ((first : ℕ) × IsBrought item first) × Among (IsTerminalName sets) item.names at
