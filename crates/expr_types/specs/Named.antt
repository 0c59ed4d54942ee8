-- The operations that names stand for, apart from patterns.
use Rattle.std.specs.Prelude.{ℕ, List, Option, option_map, find}
use Rattle.std.specs.Str.{bytes_eq}
use Rattle.lido_base.specs.declared.operation.Op.{Op}
use Rattle.lido_syntax.specs.Functions.{operation_names}

-- the first of these operations that has the name
abbrev pub named_in : List (List ℕ × Op) → List ℕ → Option Op
named_in names name = option_map (λ (o : List ℕ × Op). o.1) (find (λ (o : List ℕ × Op). bytes_eq o.0 name) names)

-- the operation of LIDO or PTG itself that has the name
abbrev pub operation_named : List ℕ → Option Op
operation_named name = named_in operation_names name
