use Rattle.std.proofs.Common.{◌∙◌, sym, add-one, true≢false}
use Rattle.symbol_inherit.proofs.MissingLemmas.{right-synthesized, right-inherited}
use Rattle.symbol_inherit.proofs.missing.is_missing_right.Goals as goal

pub returns-in-Synthesized : goal.returns-in-Synthesized
returns-in-Synthesized c = λ env t T r i k s known own place occ is.
    (λ e. absurd (true≢false (sym e)), λ m. absurd (right-synthesized env t c.args.symbols.now known T r i s c.args.x c.args.attr.now is c.args.occ k place (occ ∙ add-one k) c.in-Synthesized.is m))

pub returns-in-Inherited : goal.returns-in-Inherited
returns-in-Inherited c = λ env t T r i k s known own place occ is.
    let test = c.lacks.ensures env t r i s known own place in
    let same = right-inherited env t c.args.symbols.now known T r i s c.args.x c.args.attr.now is c.args.occ k place (occ ∙ add-one k) c.in-Inherited.is in
    (λ e. same.0 (test.0 e), λ m. test.1 (same.1 m))
