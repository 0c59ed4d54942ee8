use Rattle.lido_base.proofs.TextsLemmas.{same_place}
use Rattle.lido_base.proofs.laws.equal_texts_have_equal_ids.Goals as goal

pub returns-clause-same_id : goal.returns-clause-same_id
returns-clause-same_id c = λ texts i j text distinct a b. same_place texts distinct i j text a b
