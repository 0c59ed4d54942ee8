use Rattle.std.proofs.Common.{[], refl, ap, ◌∙◌}
use Rattle.lido_base.specs.Environment.{Environment}
use Rattle.expr_types.specs.Functions.{environment_of}
use Rattle.type_checks.specs.Written.{list_numbers}
use Rattle.type_checks.proofs.checker.Checker.of.Goals as goal

pub of-requires-2-clause-faults : goal.of-requires-2-clause-faults
of-requires-2-clause-faults c = let env : Environment = record { texts = c.args.strings.now; patterns = [] } in (env, c.requires.faults env refl)

pub returns-clause-checker : goal.returns-clause-checker
returns-clause-checker c = record {
  env = c.requires.tables.0;
  tables = c.requires.tables.1;
  text = c.requires.text;
  faults = c.requires.faults (environment_of c.in_ok-functions.functions) c.in_ok-functions.ensures.texts;
  functions = c.in_ok-functions.ensures.functions;
  of_spec = c.in_ok-types.ensures.of_spec;
  types = c.in_ok-types.ensures.types;
  computations = c.in_ok-computations.ensures;
  lists = c.in_ok-lists.ensures ∙ ap list_numbers c.as_slice-2.ensures;
}

pub returns-clause-texts : goal.returns-clause-texts
returns-clause-texts c =
    let patterns = c.in_ok-functions.ensures.patterns ∙ c.as_slice.ensures in
    λ i. record { texts = c.in_ok-functions.ensures.texts i; patterns = patterns i }
