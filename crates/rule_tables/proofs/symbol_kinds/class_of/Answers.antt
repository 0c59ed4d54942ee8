use Rattle.std.proofs.Common.{sym, ◌∙◌}
use Rattle.rule_tables.proofs.KindLemmas.{undeclared-class}
use Rattle.rule_tables.proofs.symbol_kinds.class_of.Goals as goal

pub returns-in-None : goal.returns-in-None
returns-in-None c spec env symbols are typed known =
    undeclared-class spec env c.args.sets.now c.args.types.now are typed c.args.symbol.0 (sym c.has.ensures ∙ c.if-has.false) (sym c.get.ensures ∙ c.in-None.is) symbols c.undeclared.result c.undeclared.ensures known
