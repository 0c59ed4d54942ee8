use Rattle.std.specs.Prelude.{◌<◌, ℕ, List, Option, option_map, length, Contains}
use Rattle.std.proofs.Common.{ap, sym, ◌∙◌}
use Rattle.std.proofs.lemmas.List.Elements.{All-contains}
use Rattle.lido_base.specs.declared.operation.Op.{Op}
use Rattle.lido_base.specs.declared.operation.Op.TheVariants as op
use Rattle.lido_base.specs.declared.pattern.Pattern.{Pattern}
use Rattle.lido_syntax.specs.Functions.{pattern_names}
use Rattle.expr_types.specs.declared.functions.Functions.{Functions}
use Rattle.expr_types.specs.Functions.{environment_of, AreFunctions}
use Rattle.expr_types.specs.Named.{named_in}
use Rattle.expr_types.proofs.FunctionLemmas.{split, unsplit, other-name, no-text, by-id}
use Rattle.expr_types.proofs.functions.Functions.pattern_operation.Goals as goal

abbrev of_patterns : Functions → List ℕ → Option Op
of_patterns functions text = named_in (pattern_names (environment_of functions) 0 functions.patterns.now) text

in-range : (functions : Functions) → AreFunctions functions → (p : Pattern) → Contains functions.patterns.now p → p.name.0 < length functions.strings.now
in-range functions are p m = All-contains (λ (x : Pattern). x.name.0 < length functions.strings.now) functions.patterns.now p are.named.names m

pub returns-in_err-rest : goal.returns-in_err-rest
returns-in_err-rest c =
    let functions = c.args.self.now in
    c.from_residual.ensures
    ∙ sym (other-name (environment_of functions) 0 functions.patterns.now c.args.text.now (unsplit c.as_slice.result.now c.args.text.now c.as_slice.ensures c.in_err-rest.ensures.cases))

pub returns-in_err-id : goal.returns-in_err-id
returns-in_err-id c =
    let functions = c.args.self.now in
    let rest = c.in_ok-rest.rest.now in
    let cases = c.in_ok-rest.ensures.cases in
    c.from_residual-in_err-id.ensures
    ∙ sym (ap (of_patterns functions) (split c.as_slice.result.now c.args.text.now rest c.as_slice.ensures cases.0 cases.1)
    ∙ no-text (environment_of functions) 0 functions.patterns.now rest (in-range functions c.requires.functions) c.in_err-id.ensures.absent)

pub returns-in_err-number : goal.returns-in_err-number
returns-in_err-number c =
    let functions = c.args.self.now in
    let rest = c.in_ok-rest.rest.now in
    let cases = c.in_ok-rest.ensures.cases in
    c.from_residual-in_err-number.ensures
    ∙ sym (ap (of_patterns functions) (split c.as_slice.result.now c.args.text.now rest c.as_slice.ensures cases.0 cases.1)
    ∙ by-id (environment_of functions) 0 functions.patterns.now c.in_ok-id.id.0 rest c.requires.distinct (in-range functions c.requires.functions) c.in_ok-id.ensures.there
    ∙ ap (option_map (λ n. op.Pattern n)) (sym (c.requires.functions.numbers c.in_ok-id.id.0) ∙ sym c.in_err-number.ensures))

pub returns : goal.returns
returns c =
    let functions = c.args.self.now in
    let rest = c.in_ok-rest.rest.now in
    let cases = c.in_ok-rest.ensures.cases in
    sym (ap (of_patterns functions) (split c.as_slice.result.now c.args.text.now rest c.as_slice.ensures cases.0 cases.1)
    ∙ by-id (environment_of functions) 0 functions.patterns.now c.in_ok-id.id.0 rest c.requires.distinct (in-range functions c.requires.functions) c.in_ok-id.ensures.there
    ∙ ap (option_map (λ n. op.Pattern n)) (sym (c.requires.functions.numbers c.in_ok-id.id.0) ∙ sym c.in_ok-number.ensures))
