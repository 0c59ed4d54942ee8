use Rattle.std.proofs.Common.{sym, ◌∙◌}
use Rattle.lido_base.specs.declared.value.ValueType.{ValueType}
use Rattle.lido_syntax.specs.Symbols.{IsTerminal}
use Rattle.lido_syntax.specs.Coordinates.{coordinate_named}
use Rattle.expr_types.specs.Scopes.{holder_of, spec_of, texts_of}
use Rattle.expr_types.proofs.ScopeLemmas.{lacks-each, is-terminal}
use Rattle.expr_types.proofs.scope.Scope.bare_type.Goals as goal

pub unreachable-requires : goal.unreachable-requires
unreachable-requires c =
    let scope = c.args.self.now in
    let there = is-terminal ((ty : ValueType) × IsTerminal (spec_of scope) c.args.name.id.0 ty) (coordinate_named (texts_of scope) (holder_of scope.holder) scope.rule.now c.args.name c.args.index) (sym c.is_coordinate.ensures ∙ c.if-is_coordinate.false) c.requires.there in
    lacks-each (λ ty. IsTerminal (spec_of scope) c.args.name.id.0 ty) (λ ty. IsTerminal (spec_of scope) c.args.name.id.0 ty) _ (sym c.terminal.ensures ∙ c.in-None.is) (c.requires.scope.types.terminal c.args.name.id.0) there.0 there.1
