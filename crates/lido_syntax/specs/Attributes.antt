-- The attributes of a symbol, with their kinds and types (LIDO, attributes; the defaults are this profile's own).
use Rattle.std.specs.Prelude.{◌≡◌, ℕ, zero, suc, ℤ, ◌⊎◌, List, [], ◌∷◌, ◌++◌, map, flat_map, Option, Some, None, Contains, IsTrue}
use Rattle.lido_base.specs.declared.kinds.Kind.{Kind}
use Rattle.lido_base.specs.declared.kinds.Kind.TheVariants.{Synthesized, Inherited}
use Rattle.lido_base.specs.declared.value.ValueType.{ValueType}
use Rattle.lido_base.specs.declared.value.ValueType.TheVariants as type
use Rattle.lido_base.specs.Tree.{contains}
use Rattle.lido_syntax.specs.declared.spec.Spec.{Spec}
use Rattle.lido_syntax.specs.declared.spec.Name.{Name}
use Rattle.lido_syntax.specs.declared.spec.Decl.{Decl}
use Rattle.lido_syntax.specs.declared.spec.Pair.{Pair}
use Rattle.lido_syntax.specs.declared.spec.Comp.{Comp}
use Rattle.lido_syntax.specs.declared.spec.RuleItem.{RuleItem}
use Rattle.lido_syntax.specs.declared.spec.SymbolItem.{SymbolItem}
use Rattle.lido_syntax.specs.declared.spec.Target.{Target}
use Rattle.lido_syntax.specs.declared.spec.Target.TheVariants as target
use Rattle.lido_syntax.specs.declared.spec.Place.{Place}
use Rattle.lido_syntax.specs.declared.spec.Place.TheVariants as place
use Rattle.lido_syntax.specs.declared.spec.Expr.{Expr, Read, Including, Constituents}
use Rattle.lido_syntax.specs.Production.{name_of, symbols_of, occurrence, places_from}
use Rattle.lido_syntax.specs.Parts.{parts, expressions_of}
use Rattle.lido_syntax.specs.Symbols.{IsChain}
use Rattle.lido_syntax.specs.Sets.{names_of, Inherits}

-- an attribute or chain, and the place at which it is named
abbrev pub Use : Type 0
Use = Place × Name

-- a pair of a remote list names an attribute of its symbol
abbrev pub use_of_pair : Pair → Use
use_of_pair p = (place.Named p.sym None, p.attr)

-- what a part of an expression reads by itself
abbrev pub uses_of_part : Expr → List Use
uses_of_part (Read at p a) = (p, a) ∷ []
uses_of_part (Including at pairs) = map use_of_pair pairs
uses_of_part (Constituents k) = map use_of_pair k.pairs
uses_of_part _ = []

-- all that an expression reads, in both branches of an IF
abbrev pub reads : Expr → List Use
reads e = flat_map uses_of_part (parts e)

-- what a target names: the start of a chain names no place, and a message nothing
abbrev pub target_uses : Target → List Use
target_uses (target.Attr p a) = (p, a) ∷ []
target_uses _ = []

-- all that a computation names: its target, and what its expressions read, a message's condition and the dependencies too
abbrev pub uses : Comp → List Use
uses c = target_uses c.target ++ flat_map reads (expressions_of c)

-- the places of a symbol's body that mean the symbol itself
abbrev pub IsOwn : Place → Type 0
IsOwn place.Synt = Unit {0}
IsOwn place.Inh = Unit {0}
IsOwn place.This = Unit {0}
IsOwn _ = ⊥

-- The occurrences that a name can mean: the one that it means, or where its index is faulty all that the name has, in a list rule among the elements too.
abbrev pub possible : RuleItem → Name → Option ℤ → List ℕ
possible r x i = elim (occurrence r x i) [ Some k ↦ k ∷ [] | None ↦ places_from 0 (name_of x) (symbols_of r) ]

-- All occurrences that the name can mean are on that side: the left side is occurrence 0 alone, and they ascend.
abbrev pub IsOnSide : Kind → List ℕ → Type 0
IsOnSide Synthesized (zero ∷ []) = Unit {0}
IsOnSide Inherited (suc k ∷ more) = Unit {0}
IsOnSide _ _ = ⊥

module _ (spec : Spec) where
  -- the computation stands in a body of the symbol or class
  abbrev pub InBody : ℕ → Comp → Type 0
  InBody s c = (item : SymbolItem) × Contains spec.symbols item × IsTrue (contains s (names_of item)) × Contains item.body c

  -- the computation stands in the text
  abbrev pub InText : Comp → Type 0
  InText c = ((r : RuleItem) × Contains spec.rules r × Contains r.body c) ⊎ ((s : ℕ) × InBody s c)

  -- a SYMBOL item of s declares attribute a
  abbrev pub IsDeclared : ℕ → ℕ → Decl → Type 0
  IsDeclared s a d = (item : SymbolItem) × Contains spec.symbols item × IsTrue (contains s (names_of item)) × Contains item.decls d × (name_of d.attr ≡ a)

  -- the computation names the attribute at this place; a chain is no attribute
  abbrev pub IsUse : Comp → Place → ℕ → Type 0
  IsUse c p a = (b : Name) × Contains (uses c) (p, b) × (name_of b ≡ a) × ¬ IsChain spec a

  -- a declaration, a computation or a use names the attribute on this symbol
  pub data IsNamed (s a : ℕ) : Type 0 where
    declared : (d : Decl) → IsDeclared s a d → IsNamed s a
    by_name : (c : Comp) (x : Name) (i : Option ℤ) → InText c → IsUse c (place.Named x i) a → name_of x ≡ s → IsNamed s a
    in_body : (c : Comp) (p : Place) → InBody s c → IsUse c p a → IsOwn p → IsNamed s a

  -- what holds of the symbol or of a class that it inherits
  abbrev pub OfClass : (ℕ → Type 0) → ℕ → Type 0
  OfClass P s = P s ⊎ ((class : ℕ) × Inherits spec s class × P class)

  -- the symbol has the attribute: it is named on it or on a class of it
  abbrev pub Has : ℕ → ℕ → Type 0
  Has s a = OfClass (λ x. IsNamed x a) s

  -- a SYMBOL item of the symbol or of a class of it gives the attribute this type
  abbrev pub IsTypedBySymbol : ℕ → ℕ → ValueType → Type 0
  IsTypedBySymbol s a ty = OfClass (λ x. (d : Decl) × IsDeclared x a d × (d.ty ≡ ty)) s

  -- ATTR gives attributes of this name this type
  abbrev pub IsTypedByAttr : ℕ → ValueType → Type 0
  IsTypedByAttr a ty = (d : Decl) × Contains spec.attrs d × (name_of d.attr ≡ a) × (d.ty ≡ ty)

  -- the type of a symbol's attribute: as a SYMBOL item says, else as ATTR says, else VOID
  pub data HasType (s a : ℕ) : ValueType → Type 0 where
    by_symbol : {ty : ValueType} → IsTypedBySymbol s a ty → HasType s a ty
    by_attr : {ty : ValueType} → ((other : ValueType) → ¬ IsTypedBySymbol s a other) → IsTypedByAttr a ty → HasType s a ty
    by_default : ((other : ValueType) → ¬ IsTypedBySymbol s a other) → ((other : ValueType) → ¬ IsTypedByAttr a other) → HasType s a type.Void

  -- a declaration of the attribute, by SYMBOL or ATTR, gives it this kind
  abbrev pub IsDeclaredKind : ℕ → ℕ → Kind → Type 0
  IsDeclaredKind s a kind = OfClass (λ x. (d : Decl) × IsDeclared x a d × (d.kind ≡ Some kind)) s ⊎ ((d : Decl) × Contains spec.attrs d × (name_of d.attr ≡ a) × (d.kind ≡ Some kind))

  -- What tells a kind where none is declared: a target of that side of a rule, or a target or a read by SYNT or INH.
  pub data Tells (s a : ℕ) : Kind → Type 0 where
    side : {kind : Kind} (r : RuleItem) (c : Comp) (x : Name) (i : Option ℤ) (b : Name) → Contains spec.rules r → Contains r.body c → c.target ≡ target.Attr (place.Named x i) b
        → IsOnSide kind (possible r x i) → name_of x ≡ s → name_of b ≡ a → ¬ IsChain spec a → Tells s a kind
    synt : (c : Comp) → InBody s c → IsUse c place.Synt a → Tells s a Synthesized
    inh : (c : Comp) → InBody s c → IsUse c place.Inh a → Tells s a Inherited

  -- the kind of a symbol's attribute: as declared, else as the symbol or a class of it tells, else synthesized
  pub data HasKind (s a : ℕ) : Kind → Type 0 where
    by_declaration : {kind : Kind} → IsDeclaredKind s a kind → HasKind s a kind
    by_side : {kind : Kind} → ((other : Kind) → ¬ IsDeclaredKind s a other) → OfClass (λ x. Tells x a kind) s → HasKind s a kind
    by_default : ((other : Kind) → ¬ IsDeclaredKind s a other) → ((other : Kind) → ¬ OfClass (λ x. Tells x a other) s) → HasKind s a Synthesized
