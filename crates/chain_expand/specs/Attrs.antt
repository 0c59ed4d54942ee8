-- The attributes that chains add.
use Rattle.std.specs.Prelude.{ℕ, Bool, if◌then◌else◌, List, [], ◌∷◌, flat_map, slice_get, unwrap_or}
use Rattle.lido_base.specs.declared.kinds.Kind.TheVariants as kind
use Rattle.lido_syntax.specs.declared.spec.Typed1.{Typed1}
use Rattle.lido_symbols.specs.Numbers.{enumerated}
use Rattle.least_paths.specs.Graph.{is_in}
use Rattle.rule_tables.specs.declared.table.SymbolRow.{SymbolRow}
use Rattle.rule_tables.specs.declared.extra.ExtraAttr.{ExtraAttr}
use Rattle.rule_tables.specs.declared.extra.Slot.TheVariants as named

-- who needs the chain that is declared at the place
abbrev pub needs_at : List (List Bool) → ℕ → List Bool
needs_at needs i = unwrap_or (slice_get needs i) []

-- what a symbol has in a chain, by its place and declaration
abbrev pub chain_attrs : List (List Bool) → ℕ → ℕ × Typed1 → List ExtraAttr
chain_attrs needs x d = if is_in (needs_at needs d.0) x
    then record { sym = record { 0 = x }; slot = named.Front d.0; kind = kind.Inherited; ty = d.1.ty }
    ∷ record { sym = record { 0 = x }; slot = named.Behind d.0; kind = kind.Synthesized; ty = d.1.ty } ∷ []
    else []

-- what it has in all, and what all have
abbrev pub symbol_attrs : List (List Bool) → List Typed1 → ℕ → List ExtraAttr
symbol_attrs needs chains x = flat_map (chain_attrs needs x) (enumerated 0 chains)

abbrev pub all_attrs : List (List Bool) → List Typed1 → List SymbolRow → List ExtraAttr
all_attrs needs chains rows = flat_map (λ (x : ℕ × SymbolRow). symbol_attrs needs chains x.0) (enumerated 0 rows)
