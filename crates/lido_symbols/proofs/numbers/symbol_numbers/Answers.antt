use Rattle.std.proofs.Common.{subst, refl, [], nat_eq}
use Rattle.std.proofs.lemmas.Result.{IfOk-weaker}
use Rattle.lido_symbols.specs.Numbers.{AreNumbered}
use Rattle.lido_symbols.proofs.FromTextLemmas.{symbols_told}
use Rattle.lido_symbols.proofs.numbers.symbol_numbers.Goals as goal

pub numbered-requires : goal.numbered-requires
numbered-requires c = symbols_told c.args.spec.now (record { texts = c.args.strings.now; patterns = [] }) c.requires c.in_ok-uses.uses.items (c.in_ok-uses.ensures (record { texts = c.args.strings.now; patterns = [] }) refl)

pub returns : goal.returns
returns c = IfOk-weaker c.numbered.result _ _ (λ names h env e. subst (λ uses. AreNumbered nat_eq uses names) (c.in_ok-uses.ensures env e) h) c.numbered.ensures
