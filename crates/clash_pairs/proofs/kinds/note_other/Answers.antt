use denote.Enum.Bare.{same_false}
use Rattle.std.proofs.Common.{sym, ◌∙◌}
use Rattle.std.proofs.lemmas.Result.{on_ok_weaker}
use Rattle.lido_base.specs.contracts.kinds.Kind.{the_type}
use Rattle.kind_clashes.proofs.FirstsLemmas.{noted-same}
use Rattle.kind_clashes.proofs.LeastLemmas.{first-if}
use Rattle.clash_pairs.proofs.kinds.note_other.Goals as goal

pub returns : goal.returns
returns c = on_ok_weaker c.note.result (noted-same (λ id found first. first-if (same_false the_type _ _ (sym c.eq.ensures ∙ c.if-eq.false)) first)) c.note.ensures
