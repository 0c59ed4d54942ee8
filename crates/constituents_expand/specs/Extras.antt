-- The attributes of CONSTITUENTS and their computations, as the tables tell them.
use Rattle.std.specs.Prelude.{ℕ, Bool, false, not, if◌then◌else◌, List, filter_map, flat_map, Option, Some, None, slice_get}
use Rattle.lido_base.specs.declared.kinds.Kind.TheVariants as kind
use Rattle.lido_base.specs.declared.value.ValueType.{ValueType}
use Rattle.lido_base.specs.declared.value.ValueType.TheVariants as type
use Rattle.lido_symbols.specs.Numbers.{enumerated}
use Rattle.lido_syntax.specs.declared.spec.RuleItem.{RuleItem}
use Rattle.flat_grammar.specs.declared.flat.FlatRule.{FlatRule}
use Rattle.least_paths.specs.Graph.{is_in}
use Rattle.rule_tables.specs.declared.table.SymbolRow.{SymbolRow}
use Rattle.rule_tables.specs.declared.extra.ExtraAttr.{ExtraAttr}
use Rattle.rule_tables.specs.declared.extra.ExtraComp.{ExtraComp}
use Rattle.rule_tables.specs.declared.extra.Slot.TheVariants as named
use Rattle.constituents_expand.specs.declared.weights.Gathering.{Gathering}
use Rattle.constituents_expand.specs.Weights.{weight}

abbrev pub type_of : Option ValueType → ValueType
type_of (Some ty) = ty
type_of None = type.Void

-- the attribute of the symbol, if it has it; all of a symbol, and all
abbrev pub made_attr : ℕ → Gathering → ExtraAttr
made_attr x g = record { sym = record { 0 = x }; slot = named.Con g.number; kind = kind.Synthesized; ty = type_of g.with }

abbrev pub attr_of : ℕ → Gathering → Option ExtraAttr
attr_of x g = if is_in g.bearers x then Some (made_attr x g) else None

abbrev pub symbol_attrs : List Gathering → ℕ → List ExtraAttr
symbol_attrs gs x = filter_map (attr_of x) gs

abbrev pub all_attrs : List Gathering → List SymbolRow → List ExtraAttr
all_attrs gs rows = flat_map (λ (x : ℕ × SymbolRow). symbol_attrs gs x.0) (enumerated 0 rows)

-- the plain rule of that number is a written one that is no list
abbrev pub is_whole : List RuleItem → ℕ → Bool
is_whole rules k = elim (slice_get rules k) [ None ↦ false | Some r ↦ not r.list ]

-- the computation in the plain rule of that number, if its left side has the attribute; those of a rule, and all
abbrev pub made_comp : ℕ → Bool → FlatRule → Gathering → ExtraComp
made_comp k whole rule g = record { rule = record { 0 = k }; occ = 0; slot = named.Con g.number; value = weight g whole rule }

abbrev pub comp_of : ℕ → Bool → FlatRule → Gathering → Option ExtraComp
comp_of k whole rule g = if is_in g.bearers rule.left.0 then Some (made_comp k whole rule g) else None

abbrev pub rule_comps : List Gathering → Bool → ℕ × FlatRule → List ExtraComp
rule_comps gs whole x = filter_map (comp_of x.0 whole x.1) gs

abbrev pub all_comps : List Gathering → List RuleItem → List FlatRule → List ExtraComp
all_comps gs rules plain = flat_map (λ (x : ℕ × FlatRule). rule_comps gs (is_whole rules x.0) x) (enumerated 0 plain)
