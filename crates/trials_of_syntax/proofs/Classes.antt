-- Inheritance and symbol computations, item by item.
use Rattle.std.specs.Prelude.{Bool, true, false, IsTrue, ◌||◌, ◌&&◌, map}
use Rattle.std.specs.List.{AllByRecursion, list_any}
use Rattle.std.proofs.Common.{◌≡◌, ℕ, List, [], ◌∷◌, refl}
use Rattle.lido_base.specs.Tree.{contains}
use Rattle.lido_syntax.specs.declared.spec.Spec.{Spec}
use Rattle.lido_syntax.specs.declared.spec.Comp.{Comp}
use Rattle.lido_syntax.specs.declared.spec.SymbolItem.{SymbolItem}
use Rattle.lido_syntax.specs.Production.{name_of}
use Rattle.lido_syntax.specs.Sets.{names_of, Inherits}
use Rattle.lido_syntax.specs.Computation.{Goal, InSymbol, IsSymbolTarget}
use Rattle.lido_syntax.proofs.SetsLemmas.{Inherits-least}
use Rattle.trials_of_syntax.proofs.Members.{every}

-- what a SYMBOL item says of inheritance is in the relation
abbrev pub ItemWithin : (ℕ → ℕ → Type 0) → SymbolItem → Type 0
ItemWithin R item = (s class : ℕ) → IsTrue (contains s (names_of item)) → IsTrue (contains class (map name_of item.inherits)) → R s class

direct : (R : ℕ → ℕ → Type 0) (items : List SymbolItem) → AllByRecursion (ItemWithin R) items → (s class : ℕ)
    → IsTrue (list_any (λ (item : SymbolItem). contains s (names_of item) && contains class (map name_of item.inherits)) items) → R s class
direct R [] all s class h = cc
direct R (item ∷ items) all s class h = go (contains s (names_of item)) (contains class (map name_of item.inherits)) refl refl (direct R items all.1 s class) h
  where
    go : (a b : Bool) → contains s (names_of item) ≡ a → contains class (map name_of item.inherits) ≡ b
        → (IsTrue (list_any (λ (other : SymbolItem). contains s (names_of other) && contains class (map name_of other.inherits)) items) → R s class)
        → IsTrue ((a && b) || list_any (λ (other : SymbolItem). contains s (names_of other) && contains class (map name_of other.inherits)) items) → R s class
    go true true d e later h = all.0 s class d e
    go true false d e later h = later h
    go false b d e later h = later h

-- a transitive relation that holds what the SYMBOL items say holds all of inheritance
pub inherits_within : (spec : Spec) (R : ℕ → ℕ → Type 0) → AllByRecursion (ItemWithin R) spec.symbols → ((s class above : ℕ) → R s class → R class above → R s above) → (s class : ℕ) → Inherits spec s class → R s class
inherits_within spec R all joined = Inherits-least spec R (direct R spec.symbols all) joined

-- what holds of each computation of a goal in the symbol's bodies
pub in_bodies : (spec : Spec) (s : ℕ) (goal : Goal) (P : Comp → Type 0)
    → AllByRecursion (λ (item : SymbolItem). IsTrue (contains s (names_of item)) → AllByRecursion (λ (c : Comp). IsSymbolTarget spec c.target goal → P c) item.body) spec.symbols
    → (c : Comp) → InSymbol spec s goal c → P c
in_bodies spec s goal P all c ((item, m, named, k), h) =
    every (λ (c : Comp). IsSymbolTarget spec c.target goal → P c) item.body
    (every (λ (item : SymbolItem). IsTrue (contains s (names_of item)) → AllByRecursion (λ (c : Comp). IsSymbolTarget spec c.target goal → P c) item.body) spec.symbols all item m named) c k h
