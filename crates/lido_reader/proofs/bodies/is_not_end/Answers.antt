use Rattle.lido_reader.proofs.BodiesLemmas.{not_end_none, not_end_some}
use Rattle.lido_reader.proofs.bodies.is_not_end.Goals as goal

pub returns-in-None : goal.returns-in-None
returns-in-None c = not_end_none c.args.tokens.now c.in-None.ensures

pub returns-in-Some : goal.returns-in-Some
returns-in-Some c = not_end_some c.args.tokens.now c.in-Some.field-0-1.now c.in-Some.token c.is_key.result c.in-Some.ensures c.is_key.ensures
