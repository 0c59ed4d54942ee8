use Rattle.std.proofs.Common.{sym, ◌∙◌}
use Rattle.core_machine.proofs.ContentsLemmas.{contents-length, owners-length, contents-range, keys-of}
use Rattle.core_machine.proofs.contents.JobContents.keys.Goals as goal

pub returns-else-count-eq0-clause-count : goal.returns-else-count-eq0-clause-count
returns-else-count-eq0-clause-count c =
    keys-of c.args.self.now c.split.result.now.nodes c.len-count.result c.if-count-eq0.false c.len-count.ensures c.split.ensures.nodes ∙ sym (contents-length c.args.self.now)

pub returns-else-count-eq0-clause-owned : goal.returns-else-count-eq0-clause-owned
returns-else-count-eq0-clause-owned c =
    keys-of c.args.self.now c.split.result.now.nodes c.len-count.result c.if-count-eq0.false c.len-count.ensures c.split.ensures.nodes ∙ sym (owners-length c.args.self.now)

pub returns-else-count-eq0-clause-in_range : goal.returns-else-count-eq0-clause-in_range
returns-else-count-eq0-clause-in_range c = contents-range c.args.self.now c.facts.ensures c.numbers.ensures
