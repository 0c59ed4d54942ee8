-- The attributes of INCLUDINGs and their computations, as the tables tell them.
use Rattle.std.specs.Prelude.{ℕ, suc, Bool, if◌then◌else◌, List, [], filter_map, flat_map, Option, Some, None, slice_get, unwrap_or}
use Rattle.lido_base.specs.declared.ids.SymId.{SymId}
use Rattle.lido_base.specs.declared.kinds.Kind.TheVariants as kind
use Rattle.lido_symbols.specs.Numbers.{enumerated}
use Rattle.flat_grammar.specs.declared.flat.FlatRule.{FlatRule}
use Rattle.least_paths.specs.Graph.{is_in}
use Rattle.rule_tables.specs.declared.table.SymbolRow.{SymbolRow}
use Rattle.rule_tables.specs.declared.extra.ExtraAttr.{ExtraAttr}
use Rattle.rule_tables.specs.declared.extra.ExtraComp.{ExtraComp}
use Rattle.rule_tables.specs.declared.extra.Slot.{Slot}
use Rattle.rule_tables.specs.declared.extra.Slot.TheVariants as named
use Rattle.rule_tables.specs.declared.extra.Term.TheVariants as given
use Rattle.remote_lists.specs.Sources.{source_of}
use Rattle.including_sets.specs.declared.sets.PairSet.{PairSet}

-- who needs the set of that number
abbrev pub needs_at : List (List Bool) → ℕ → List Bool
needs_at needs i = unwrap_or (slice_get needs i) []

-- the attribute of the symbol for a set, by its number, if it needs it; all of a symbol, and all
abbrev pub made_attr : ℕ → ℕ × PairSet → ExtraAttr
made_attr x d = record { sym = record { 0 = x }; slot = named.Inc d.0; kind = kind.Inherited; ty = d.1.ty }

abbrev pub attr_of : List (List Bool) → ℕ → ℕ × PairSet → Option ExtraAttr
attr_of needs x d = if is_in (needs_at needs d.0) x then Some (made_attr x d) else None

abbrev pub symbol_attrs : List (List Bool) → List PairSet → ℕ → List ExtraAttr
symbol_attrs needs sets x = filter_map (attr_of needs x) (enumerated 0 sets)

abbrev pub all_attrs : List (List Bool) → List PairSet → List SymbolRow → List ExtraAttr
all_attrs needs sets rows = flat_map (λ (x : ℕ × SymbolRow). symbol_attrs needs sets x.0) (enumerated 0 rows)

-- what the left side hands down
abbrev pub handed : ℕ → PairSet → ℕ → Slot
handed i set x = elim (source_of set.sources x) [ None ↦ named.Inc i | Some id ↦ named.Written id ]

-- the computation of a child in the plain rule of that number for a set, if it needs it; those of a child, of a rule, and all
abbrev pub made_comp : ℕ → ℕ → ℕ → ℕ × PairSet → ExtraComp
made_comp k left j d = record { rule = record { 0 = k }; occ = suc j; slot = named.Inc d.0; value = given.Read (record { occ = 0; slot = handed d.0 d.1 left }) }

abbrev pub comp_of : List (List Bool) → ℕ → ℕ → ℕ × SymId → ℕ × PairSet → Option ExtraComp
comp_of needs k left y d = if is_in (needs_at needs d.0) y.1.0 then Some (made_comp k left y.0 d) else None

abbrev pub child_comps : List (List Bool) → List PairSet → ℕ → ℕ → ℕ × SymId → List ExtraComp
child_comps needs sets k left y = filter_map (comp_of needs k left y) (enumerated 0 sets)

abbrev pub rule_comps : List (List Bool) → List PairSet → ℕ × FlatRule → List ExtraComp
rule_comps needs sets x = flat_map (child_comps needs sets x.0 x.1.left.0) (enumerated 0 x.1.right)

abbrev pub all_comps : List (List Bool) → List PairSet → List FlatRule → List ExtraComp
all_comps needs sets plain = flat_map (rule_comps needs sets) (enumerated 0 plain)
