use Rattle.std.proofs.Common.{List, ap, subst, ◌∙◌}
use Rattle.lido_syntax.specs.declared.spec.Typed1.{Typed1}
use Rattle.kind_clashes.specs.Least.{IsFirst}
use Rattle.kind_clashes.specs.Types.{IsSecondType}
use Rattle.clash_pairs.specs.Kinds.{IsSecondKind}
use Rattle.clash_pairs.specs.Twofold.{attr_types}
use Rattle.clash_pairs.specs.declared.kinds.SaidKind.{SaidKind}
use Rattle.clash_pairs.proofs.TwofoldLemmas.{twofold-of}
use Rattle.clash_pairs.proofs.pairs.twofold.Goals as goal

pub returns : goal.returns
returns c = twofold-of c.args.spec.now c.args.numbers.now c.requires.numbered c.args.inheritance.now c.requires.inheritance c.args.sets.now.chains c.requires.sets.chains c.in_ok-facts.facts
    c.in_ok-facts.ensures.kinds c.in_ok-facts.ensures.types c.in_ok-facts.ensures.attrs _ _ _ _ _ c.earlier-by_attr.ensures c.earlier.ensures
    (subst (λ (xs : List SaidKind). IsFirst (IsSecondKind xs) c.in_ok-second_kind.field-0) c.deref.ensures.value c.in_ok-second_kind.ensures)
    (subst (λ (xs : List Typed1). IsFirst (IsSecondType xs) c.in_ok-second_type.field-0) (c.deref-2.ensures.value ∙ c.in_ok-types.ensures ∙ ap attr_types c.as_slice.ensures) c.in_ok-second_type.ensures)
    c.in_ok-on_symbols.ensures
