use Rattle.type_checks.proofs.EntryLemmas.{right-place}
use Rattle.type_checks.proofs.checker.symbol_at.Goals as goal

pub returns : goal.returns
returns c = λ p x has e. right-place p c.args.plain.now c.as_slice.result.now c.args.occ x has c.as_slice.ensures c.if-occ-eq0.false e
