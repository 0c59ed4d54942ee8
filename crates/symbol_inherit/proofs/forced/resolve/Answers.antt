use Rattle.std.proofs.Common.{sym, ◌∙◌}
use Rattle.symbol_inherit.specs.Forces.{own, found, missing, clash}
use Rattle.symbol_inherit.proofs.forced.resolve.Goals as goal

pub returns-in-Some : goal.returns-in-Some
returns-in-Some c = own c.in-Some.own (sym c.in-Some.ensures)

pub returns-in-Computed : goal.returns-in-Computed
returns-in-Computed c = found c.in-Computed.number (sym c.find.ensures ∙ c.in_default.is) c.in-Computed.ensures

pub returns-in-Missing : goal.returns-in-Missing
returns-in-Missing c = missing (sym c.find.ensures ∙ c.in_default.is) c.in-Missing.ensures

pub returns-in-Clash : goal.returns-in-Clash
returns-in-Clash c = clash _ _ (sym c.find.ensures ∙ c.in_default.is) c.in-Clash.ensures
