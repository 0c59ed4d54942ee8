use Rattle.std.proofs.Common.{List, ◌∙◌, subst}
use Rattle.lido_syntax.specs.declared.spec.Typed1.{Typed1}
use Rattle.kind_clashes.specs.Least.{IsFirst}
use Rattle.kind_clashes.specs.Types.{IsSecondType}
use Rattle.kind_clashes.proofs.LeastLemmas.{first-join}
use Rattle.clash_pairs.specs.Kinds.{IsSecondKind}
use Rattle.clash_pairs.specs.declared.kinds.SaidKind.{SaidKind}
use Rattle.clash_pairs.proofs.pairs.Facts.twofold_on.Goals as goal

pub returns : goal.returns
returns c = first-join c.earlier.ensures
    (subst (λ (xs : List SaidKind). IsFirst (IsSecondKind xs) c.in_ok-of_kinds.of_kinds) (c.deref.ensures.value ∙ c.in_ok-kinds.ensures) c.in_ok-of_kinds.ensures)
    (subst (λ (xs : List Typed1). IsFirst (IsSecondType xs) c.in_ok-second_type.field-0) (c.deref-2.ensures.value ∙ c.in_ok-types.ensures) c.in_ok-second_type.ensures)
