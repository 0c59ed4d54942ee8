use Rattle.std.proofs.Common.{sym, ◌∙◌}
use Rattle.symbol_inherit.specs.Standings.{own, missing, one, two}
use Rattle.symbol_inherit.proofs.standing.of_symbol.Goals as goal

pub returns-in-Some : goal.returns-in-Some
returns-in-Some c = own c.in-Some.own (sym c.in-Some.ensures)

pub returns-in_default-first_left : goal.returns-in_default-first_left
returns-in_default-first_left c = missing (sym c.find.ensures ∙ c.in_default.is) c.in_default-first_left.ensures

pub returns-in-None : goal.returns-in-None
returns-in-None c = one c.in-Some-first_left.left (sym c.find.ensures ∙ c.in_default.is) c.in-Some-first_left.ensures c.in-None.ensures

pub returns-in-Some-first_left-2 : goal.returns-in-Some-first_left-2
returns-in-Some-first_left-2 c = two c.in-Some-first_left.left c.in-Some-first_left-2.other (sym c.find.ensures ∙ c.in_default.is) c.in-Some-first_left.ensures c.in-Some-first_left-2.ensures
