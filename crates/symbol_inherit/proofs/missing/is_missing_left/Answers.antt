use Rattle.symbol_inherit.proofs.MissingLemmas.{left-synthesized, left-inherited}
use Rattle.symbol_inherit.proofs.missing.is_missing_left.Goals as goal

pub returns-in-Synthesized : goal.returns-in-Synthesized
returns-in-Synthesized c = λ env t T r i s known own place root is.
    let test = c.lacks.ensures env t r i s known own place in
    let same = left-synthesized env t c.args.symbols.now known T r i s c.args.x c.args.attr.now is place c.in-Synthesized.is in
    (λ e. same.0 (test.0 e), λ m. test.1 (same.1 m))

pub returns-in-Inherited : goal.returns-in-Inherited
returns-in-Inherited c = λ env t T r i s known own place root is.
    let same = left-inherited env t c.args.symbols.now known T r i s c.args.x c.args.attr.now is place c.in-Inherited.is in
    (λ e. same.0 (root.0 e), λ m. root.1 (same.1 m))
