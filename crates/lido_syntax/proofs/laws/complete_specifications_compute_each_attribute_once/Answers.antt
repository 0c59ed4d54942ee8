use Rattle.lido_syntax.proofs.CompletenessLemmas.{is_computed, is_computed_once}
use Rattle.lido_syntax.proofs.laws.complete_specifications_compute_each_attribute_once.Goals as goal

pub returns : goal.returns
returns c = record { some = is_computed; one = is_computed_once }
