use Rattle.symbol_inherit.proofs.ClashLemmas.{two-there, two-missing, two-computed}
use Rattle.symbol_inherit.proofs.clashes.two_left.Goals as goal

pub returns-in-Clash : goal.returns-in-Clash
returns-in-Clash c = λ env t T s known at. two-there env t c.args.symbols.now known T c.args.x s at c.args.aim _ _ c.in-Clash.ensures

pub returns-in-Missing : goal.returns-in-Missing
returns-in-Missing c = λ env t T s known at. two-missing env t c.args.symbols.now known T c.args.x s at c.args.aim c.in-Missing.ensures

pub returns-in-Computed : goal.returns-in-Computed
returns-in-Computed c = λ env t T s known at. two-computed env t c.args.symbols.now known T c.args.x s at c.args.aim _ c.in-Computed.ensures
