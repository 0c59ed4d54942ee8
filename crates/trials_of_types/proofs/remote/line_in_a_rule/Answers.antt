use Rattle.std.specs.Prelude.{◌≡◌, Bool, if◌then◌else◌, Some, None, refl, codes}
use Rattle.std.proofs.Common.{sym, subst}
use Rattle.lido_base.specs.declared.value.ValueType.TheVariants as type
use Rattle.lido_syntax.specs.declared.spec.Spec.{Spec}
use Rattle.lido_syntax.specs.Coordinates.{part_named}
use Rattle.lido_syntax.specs.Symbols.{IsTerminal}
use Rattle.trials_of_types.proofs.remote.line_in_a_rule.Goals as goal

-- the type of the name, where a symbol of the production has it or not
abbrev IsIntBy : Spec → Bool → Type 0
IsIntBy spec there = elim (if there then None else part_named (codes "LINE")) [ Some part ↦ type.Int ≡ type.Int | None ↦ IsTerminal spec 4 type.Int ]

pub returns : goal.returns
returns c = λ spec sets r own e. subst (IsIntBy spec) (sym e) refl
