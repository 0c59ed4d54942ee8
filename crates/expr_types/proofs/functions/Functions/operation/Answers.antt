use Rattle.std.specs.Option.{option_or}
use Rattle.std.proofs.Common.{ap, ◌∙◌}
use Rattle.lido_syntax.specs.Functions.{pattern_names}
use Rattle.expr_types.specs.Functions.{environment_of}
use Rattle.expr_types.specs.Named.{named_in}
use Rattle.expr_types.proofs.FunctionLemmas.{found-first}
use Rattle.expr_types.proofs.functions.Functions.operation.Goals as goal

pub returns-in-Some : goal.returns-in-Some
returns-in-Some c =
    let functions = c.args.self.now in
    let others = named_in (pattern_names (environment_of functions) 0 functions.patterns.now) c.args.text.now in
    ap (λ o. option_or o others) c.in-Some.ensures ∙ found-first (environment_of functions) c.args.text.now

pub returns-in-None : goal.returns-in-None
returns-in-None c =
    let functions = c.args.self.now in
    let others = named_in (pattern_names (environment_of functions) 0 functions.patterns.now) c.args.text.now in
    c.pattern_operation.ensures ∙ ap (λ o. option_or o others) c.in-None.ensures ∙ found-first (environment_of functions) c.args.text.now
