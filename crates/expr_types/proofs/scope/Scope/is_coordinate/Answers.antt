use Rattle.std.specs.Prelude.{◌≡◌, ℤ, Option, None, Some, is_some, refl}
use Rattle.std.proofs.Common.{ap, sym, ◌∙◌}
use Rattle.lido_base.specs.Environment.{Environment}
use Rattle.lido_syntax.specs.declared.spec.Name.{Name}
use Rattle.lido_syntax.specs.declared.spec.RuleItem.{RuleItem}
use Rattle.lido_syntax.specs.Computation.{by_symbol}
use Rattle.lido_syntax.specs.Coordinates.{coordinate_named}
use Rattle.lido_symbols.specs.Uses.{is_coordinate_of_symbol}
use Rattle.expr_types.specs.Scopes.{holder_of, texts_of}
use Rattle.expr_types.proofs.scope.Scope.is_coordinate.Goals as goal

in-symbol : (env : Environment) (r : RuleItem) (x : Name) (i : Option ℤ) → is_coordinate_of_symbol env x i ≡ is_some (coordinate_named env by_symbol r x i)
in-symbol env r x None = refl
in-symbol env r x (Some i) = refl

pub returns-in-Rule : goal.returns-in-Rule
returns-in-Rule c =
    let scope = c.args.self.now in
    c.is_coordinate_in_rule.ensures (texts_of scope) refl
    ∙ ap (λ h. is_some (coordinate_named (texts_of scope) (holder_of h) scope.rule.now c.args.name c.args.index)) (sym c.in-Rule.is)

pub returns-in-Symbol : goal.returns-in-Symbol
returns-in-Symbol c =
    let scope = c.args.self.now in
    c.is_coordinate_in_symbol.ensures (texts_of scope) refl
    ∙ in-symbol (texts_of scope) scope.rule.now c.args.name c.args.index
    ∙ ap (λ h. is_some (coordinate_named (texts_of scope) (holder_of h) scope.rule.now c.args.name c.args.index)) (sym c.in-Symbol.is)
