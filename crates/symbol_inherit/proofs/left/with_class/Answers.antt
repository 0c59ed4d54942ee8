use Rattle.std.proofs.Common.{sym, ◌∙◌, true≢false}
use Rattle.symbol_inherit.proofs.LeftLemmas.{passed}
use Rattle.symbol_inherit.proofs.left.with_class.Goals as goal

pub returns-then-is_excepted : goal.returns-then-is_excepted
returns-then-is_excepted c = passed c.args.classes.now c.args.index.now c.args.x c.args.aim c.args.count c.args.except c.args.y
    (λ left other. absurd (true≢false (sym c.if-is_excepted.true ∙ c.is_excepted.ensures ∙ other))) c.args.best c.requires

pub returns-in-None : goal.returns-in-None
returns-in-None c = passed c.args.classes.now c.args.index.now c.args.x c.args.aim c.args.count c.args.except c.args.y
    (λ left other. c.in-None.ensures left) c.args.best c.requires
