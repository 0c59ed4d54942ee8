use Rattle.lido_syntax.proofs.ExpressionLemmas.{parts-Call, leaves-Call, reads-Call, value-Call}
use Rattle.lido_syntax.proofs.laws.calls_are_seen_by_their_arguments.Goals as goal

pub returns : goal.returns
returns c = record { parts = parts-Call; leaves = leaves-Call; reads = reads-Call; value = value-Call }
