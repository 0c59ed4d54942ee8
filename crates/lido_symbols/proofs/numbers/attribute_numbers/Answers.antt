use Rattle.std.proofs.Common.{subst, [], nat_eq}
use Rattle.std.proofs.lemmas.Result.{IfOk-weaker}
use Rattle.lido_symbols.specs.Numbers.{AreNumbered}
use Rattle.lido_symbols.proofs.FromTextLemmas.{attributes_told}
use Rattle.lido_symbols.proofs.numbers.attribute_numbers.Goals as goal

pub numbered-requires : goal.numbered-requires
numbered-requires c = attributes_told c.args.spec.now (record { texts = []; patterns = [] }) c.requires c.in_ok-uses.uses.items c.in_ok-uses.ensures

pub returns : goal.returns
returns c = IfOk-weaker c.numbered.result _ _ (λ names h. subst (λ uses. AreNumbered nat_eq uses names) c.in_ok-uses.ensures h) c.numbered.ensures
