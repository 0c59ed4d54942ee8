use Rattle.lido_base.proofs.TextsLemmas.{IsDistinct-with_text}
use Rattle.lido_base.proofs.laws.earlier_ids_keep_their_texts.Goals as goal

pub returns-clause-distinct : goal.returns-clause-distinct
returns-clause-distinct c = λ texts new distinct. IsDistinct-with_text texts new distinct
