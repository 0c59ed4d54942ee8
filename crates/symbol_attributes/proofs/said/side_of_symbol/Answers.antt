use Rattle.std.proofs.Common.{ap, sym, nat_eq, ◌∙◌}
use Rattle.lido_syntax.specs.Production.{left_of, right_of}
use Rattle.symbol_attributes.specs.Said.{one_side}
use Rattle.symbol_attributes.proofs.SideLemmas.{side-by}
use Rattle.symbol_attributes.proofs.said.side_of_symbol.Goals as goal

pub returns : goal.returns
returns c = c.side_by.ensures ∙ ap (one_side (nat_eq c.args.symbol.0 (left_of c.args.rule.now))) (c.is_right.ensures c.args.rule.now c.requires) ∙ sym (side-by c.args.symbol.0 (left_of c.args.rule.now) (right_of c.args.rule.now))
