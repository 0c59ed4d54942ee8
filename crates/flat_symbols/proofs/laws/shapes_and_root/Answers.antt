use Rattle.std.proofs.Common.{◌≡◌, ℕ, List, sym, subst}
use Rattle.std.specs.List.{AllZip}
use Rattle.lido_syntax.specs.Symbols.{IsRoot}
use Rattle.lido_symbols.specs.Numbers.{enumerated}
use Rattle.rule_tables.specs.PlainRules.{number, IsShapeOf}
use Rattle.flat_symbols.proofs.laws.shapes_and_root.Goals as goal

pub returns-clause-shapes : goal.returns-clause-shapes
returns-clause-shapes c env forced T are numbers =
    let spec = forced.tables.spec in
    subst (λ (l : List ℕ). AllZip (IsShapeOf spec l) (enumerated 0 spec.rules) forced.tables.shapes) (sym numbers.symbols) are.tables.shapes

pub returns-clause-root : goal.returns-clause-root
returns-clause-root c env forced T are numbers =
    let spec = forced.tables.spec in
    subst (λ (l : List ℕ). (s : ℕ) × IsRoot spec s × (forced.tables.root.0 ≡ number spec l s)) (sym numbers.symbols) are.tables.root
