-- The computations that start a chain, as the tables hold them.
use Rattle.std.specs.Prelude.{ℕ, Bool, false, ◌&&◌, nat_eq, List, option_map, Some, slice_get}
use Rattle.lido_syntax.specs.declared.spec.Typed1.{Typed1}
use Rattle.lido_syntax.specs.Production.{name_of}
use Rattle.lido_symbols.specs.Uses.{is_same_option}
use Rattle.rule_tables.specs.declared.forced.Force.{Force as Entry}
use Rattle.rule_tables.specs.declared.forced.Goal.{Goal}
use Rattle.rule_tables.specs.declared.forced.Goal.TheVariants as goal

-- the chain that is declared at the place has this name
abbrev pub is_called : List Typed1 → ℕ → ℕ → Bool
is_called chains c i = is_same_option (option_map (λ (d : Typed1). name_of d.name) (slice_get chains i)) (Some c)

-- the goal is the start of the chain
abbrev pub is_start : List Typed1 → ℕ → Goal → Bool
is_start chains c (goal.Start i) = is_called chains c i
is_start chains c _ = false

-- the chain starts at the left side
abbrev pub starts : List Typed1 → ℕ → Entry → Bool
starts chains c e = nat_eq e.occ 0 && is_start chains c e.goal
