use Rattle.rule_tables.proofs.NeedsLemmas.{needs_of, same_including, same_wanted, same_reaches, same_chain}
use Rattle.rule_tables.proofs.laws.decided_needs.Goals as goal

pub returns : goal.returns
returns c = record { some = needs_of; including = same_including; wanted = same_wanted; reaches = same_reaches; chain = same_chain }
