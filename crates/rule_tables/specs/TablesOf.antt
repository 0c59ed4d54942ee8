-- The tables of a specification: its symbols and cells, each with its attributes, its plain rules and its shapes.
use Rattle.std.specs.Prelude.{◌≡◌, ℕ, ◌+◌, true, nat_eq, List, [], ◌++◌, map, filter_map, length, Option, Some, None, slice_get, codes, AllPairs, Contains}
use Rattle.std.specs.List.{AllZip}
use Rattle.lido_base.specs.declared.ids.SymId.{SymId}
use Rattle.lido_base.specs.Environment.{Environment}
use Rattle.lido_syntax.specs.declared.spec.Spec.{Spec}
use Rattle.lido_syntax.specs.declared.spec.RuleItem.{RuleItem}
use Rattle.lido_syntax.specs.Functions.{text_of}
use Rattle.lido_syntax.specs.Symbols.{IsNonterminal, IsTerminal, IsRoot}
use Rattle.lido_syntax.specs.Sets.{inherits_directly}
use Rattle.flat_grammar.specs.declared.flat.FlatRule.{FlatRule}
use Rattle.lido_symbols.specs.Numbers.{AreNumbered, enumerated}
use Rattle.lido_symbols.specs.Classes.{IsClass}
use Rattle.lido_symbols.specs.Uses.{symbol_uses}
use Rattle.symbol_attributes.specs.Written.{AreAttributesOf}
use Rattle.rule_tables.specs.declared.table.Tables.{Tables}
use Rattle.rule_tables.specs.declared.table.SymbolRow.{SymbolRow}
use Rattle.rule_tables.specs.declared.table.SymbolClass.{SymbolClass}
use Rattle.rule_tables.specs.declared.table.SymbolClass.TheVariants as class
use Rattle.rule_tables.specs.PlainRules.{PlainRule, plain_rules, lists, number, IsShapeOf}
use Rattle.rule_tables.specs.Flat.{rule_text}

-- the names of the rows that are no cells, in order
abbrev pub symbol_named : SymbolRow → Option ℕ
symbol_named row = elim row.class [ class.Cell ↦ None | _ ↦ Some row.name.0 ]

abbrev pub named_symbols : Tables → List ℕ
named_symbols t = filter_map symbol_named t.symbols

module _ (spec : Spec) (env : Environment) (symbols : List ℕ) where
  -- what the symbol is
  abbrev pub IsSymbolClass : ℕ → SymbolClass → Type 0
  IsSymbolClass s class.Nonterminal = IsNonterminal spec s
  IsSymbolClass s (class.Terminal ty) = IsTerminal spec s ty
  IsSymbolClass s class.Class = IsClass spec s
  IsSymbolClass s class.Cell = ⊥

  -- the classes that items of the symbol name behind INHERITS, each once, by their numbers
  pub record AreClassesOf (s : ℕ) (classes : List SymId) : Type 0 where
    pub each : (class : SymId) → Contains classes class → (c : ℕ) × (slice_get symbols class.0 ≡ Some c) × (inherits_directly spec s c ≡ true)
    pub all : (c : ℕ) → inherits_directly spec s c ≡ true → Contains classes (record { 0 = number spec symbols c })
    pub once : AllPairs (λ (x y : SymId). x ≡ y → ⊥) classes

  pub record IsRowOf (s : ℕ) (row : SymbolRow) : Type 0 where
    pub name : row.name.0 ≡ s
    pub class : IsSymbolClass s row.class
    pub attrs : AreAttributesOf spec s row.attrs
    pub classes : AreClassesOf s row.classes

  -- the row of a list's cell
  pub record IsCellOf (r : RuleItem) (row : SymbolRow) : Type 0 where
    pub name : text_of env row.name.0 ≡ codes "$" ++ text_of env r.name.0
    pub class : row.class ≡ class.Cell
    pub attrs : row.attrs ≡ []
    pub classes : row.classes ≡ []

  -- a plain rule, which has no computations yet
  pub record IsPlainOf (p : PlainRule) (flat : FlatRule) : Type 0 where
    pub rule : RuleItem
    pub of_rule : slice_get spec.rules p.rule ≡ Some rule
    pub name : text_of env flat.name.0 ≡ rule_text (text_of env rule.name.0) (text_of env) p.role
    pub left : flat.left.0 ≡ p.left
    pub right : map (λ (s : SymId). s.0) flat.right ≡ p.right
    pub comps : flat.comps ≡ []

-- The tables are those of their specification. Texts tell which bare names are coordinates, and how cells are called.
pub record AreTablesOf (env : Environment) (t : Tables) : Type 0 where
  pub numbers : AreNumbered nat_eq (symbol_uses t.spec env) (named_symbols t)
  pub count : length t.symbols ≡ length (named_symbols t) + length (lists t.spec (named_symbols t))
  pub rows : (x s : ℕ) (row : SymbolRow) → slice_get (named_symbols t) x ≡ Some s → slice_get t.symbols x ≡ Some row → IsRowOf t.spec env (named_symbols t) s row
  pub cells : (k i : ℕ) (r : RuleItem) (row : SymbolRow) → slice_get (lists t.spec (named_symbols t)) k ≡ Some i → slice_get t.spec.rules i ≡ Some r
      → slice_get t.symbols (length (named_symbols t) + k) ≡ Some row → IsCellOf t.spec env (named_symbols t) r row
  pub root : (s : ℕ) × IsRoot t.spec s × (t.root.0 ≡ number t.spec (named_symbols t) s)
  pub plain : AllZip (IsPlainOf t.spec env (named_symbols t)) (plain_rules t.spec (named_symbols t)) t.plain
  pub shapes : AllZip (IsShapeOf t.spec (named_symbols t)) (enumerated 0 t.spec.rules) t.shapes
