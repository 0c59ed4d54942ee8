-- What is said of attributes, and what several sayings make together: of each matter one that is said, if one is.
use Rattle.std.specs.Prelude.{◌≡◌, ◌↔◌, ℕ, ◌&&◌, Bool, nat_eq, List, [], Option, Some, None, MatchOption, Contains, option_map, unwrap_or}
use Rattle.std.specs.Option.{option_or}
use Rattle.std.specs.Global.{Vec}
use Rattle.std.specs.HashMap as table
use Rattle.lido_base.specs.declared.kinds.Kind.{Kind}
use Rattle.lido_base.specs.declared.value.ValueType.{ValueType}
use Rattle.lido_syntax.specs.declared.spec.Decl.{Decl}
use Rattle.lido_syntax.specs.Production.{name_of}
use Rattle.symbol_attributes.specs.declared.facts.Facts.{Facts}
use Rattle.symbol_attributes.specs.declared.facts.Said.{Said}
use Rattle.symbol_attributes.specs.declared.facts.FactTable.{FactTable}
use Rattle.symbol_attributes.specs.declared.facts.AttrTable.{AttrTable}
use Rattle.symbol_attributes.specs.declared.rows.NamedRows.{NamedRows}
use Rattle.symbol_attributes.specs.declared.rows.SaidTables.{SaidTables}
use Rattle.kind_clashes.specs.declared.names.Names.{Names}
use Rattle.kind_clashes.specs.Names.{IsSetOf}

-- the one and, in what it doesn't say, the other
abbrev pub combined : Facts → Facts → Facts
combined f g = record { ty = option_or f.ty g.ty; kind = option_or f.kind g.kind; told = option_or f.told g.told }

-- some facts, if there are any, and others
abbrev pub added : Option Facts → Facts → Facts
added None g = g
added (Some f) g = combined f g

abbrev pub joined : Option Facts → Option Facts → Option Facts
joined o None = o
joined o (Some g) = Some (added o g)

-- a value of which this is so, and none where it is so of none
abbrev pub IsOneOf : {V : Type 0} → (V → Type 0) → Option V → Type 0
IsOneOf {V} P o = MatchOption o ((v : V) → ¬ P v) P

-- Of these facts, one of which there is at least, it says what some say.
pub record AreSummed (P : Facts → Type 0) (f : Facts) : Type 0 where
  pub there : (g : Facts) × P g
  pub ty : IsOneOf (λ (v : ValueType). (g : Facts) × P g × (g.ty ≡ Some v)) f.ty
  pub kind : IsOneOf (λ (v : Kind). (g : Facts) × P g × (g.kind ≡ Some v)) f.kind
  pub told : IsOneOf (λ (v : Kind). (g : Facts) × P g × (g.told ≡ Some v)) f.told

-- the same, and none where there are no facts
abbrev pub AreSums : (Facts → Type 0) → Option Facts → Type 0
AreSums P o = MatchOption o ((f : Facts) → ¬ P f) (AreSummed P)

abbrev pub is_same_key : ℕ × ℕ → ℕ × ℕ → Bool
is_same_key p q = nat_eq p.0 q.0 && nat_eq p.1 q.1

-- what the table has for attribute a of symbol s
unfoldable pub known : FactTable → ℕ → ℕ → Option Facts
known facts s a = table.get is_same_key facts.facts (s, a)

unfoldable pub known_of : AttrTable → ℕ → Option Facts
known_of facts a = table.get nat_eq facts.facts a

abbrev pub said : ℕ → ℕ → Facts → Said
said s a f = record { symbol = record { 0 = s }; attribute = record { 0 = a }; facts = f }

-- The table has of each attribute of each symbol what is said of it.
abbrev pub IsTableOf : List Said → FactTable → Type 0
IsTableOf list facts = (s a : ℕ) → AreSums (λ f. Contains list (said s a f)) (known facts s a)

-- the attributes of symbol s that the rows have
unfoldable pub row_of : NamedRows → ℕ → List ℕ
row_of rows s = unwrap_or (option_map (λ (v : Vec ℕ). v.items) (table.get nat_eq rows.rows s)) []

-- The rows have the attributes of each symbol of which something is said.
abbrev pub AreRowsOf : List Said → NamedRows → Type 0
AreRowsOf list rows = (s a : ℕ) → Contains (row_of rows s) a ↔ ((f : Facts) × Contains list (said s a f))

-- what is said, by symbol and attribute
pub record AreSaidTables (list : List Said) (tables : SaidTables) : Type 0 where
  pub facts : IsTableOf list tables.facts
  pub rows : AreRowsOf list tables.rows

-- The set has the attributes of any of these symbols of which something is said.
abbrev pub AreSaidOn : List Said → List ℕ → Names → Type 0
AreSaidOn list symbols = IsSetOf (λ a. (s : ℕ) × Contains symbols s × ((f : Facts) × Contains list (said s a f)))

-- what a declaration says
abbrev pub declared_facts : Decl → Facts
declared_facts d = record { ty = Some d.ty; kind = d.kind; told = None }

-- a declaration of the attribute says this
abbrev pub IsSaidBy : List Decl → ℕ → Facts → Type 0
IsSaidBy decls a f = (d : Decl) × Contains decls d × (name_of d.attr ≡ a) × (f ≡ declared_facts d)

-- The table has of each attribute what the declarations say of it.
abbrev pub IsAttrTableOf : List Decl → AttrTable → Type 0
IsAttrTableOf decls facts = (a : ℕ) → AreSums (IsSaidBy decls a) (known_of facts a)
