use Rattle.std.proofs.Common.{[], refl}
use Rattle.lido_base.specs.Environment.{Environment}
use Rattle.symbol_attributes.proofs.LawLemmas.{are-numbered-in}
use Rattle.leaf_types.proofs.heirs.Heirs.of.Goals as goal

pub of-requires : goal.of-requires
of-requires c =
    let env : Environment = record { texts = c.args.strings.now; patterns = [] } in
    are-numbered-in c.args.spec.now env c.in_ok-numbers.numbers (c.in_ok-numbers.ensures env refl)
