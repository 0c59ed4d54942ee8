use Rattle.std.proofs.Common.{List, ℕ, [], refl, sym, subst}
use Rattle.lido_base.specs.Environment.{Environment}
use Rattle.lido_syntax.specs.declared.spec.Spec.{Spec}
use Rattle.kind_clashes.specs.Least.{IsFirst}
use Rattle.kind_clashes.specs.Plain.{IsPlainClash}
use Rattle.kind_clashes.proofs.ClashLemmas.{kind-clash}
use Rattle.symbol_attributes.specs.Named.{AreNamed}
use Rattle.symbol_attributes.specs.declared.named.SymbolAttribute.{SymbolAttribute}
use Rattle.clash_pairs.proofs.NumberedLemmas.{all-numbered}
use Rattle.clash_pairs.proofs.clash.least_kind_clash.Goals as goal

pub of-requires-2 : goal.of-requires-2
of-requires-2 c = let env : Environment = record { texts = c.args.strings.now; patterns = [] } in (all-numbered c.args.spec.now env c.in_ok-numbers.numbers (c.in_ok-numbers.ensures env refl)).items

pub twofold-requires-clause-numbered : goal.twofold-requires-clause-numbered
twofold-requires-clause-numbered c = let env : Environment = record { texts = c.args.strings.now; patterns = [] } in all-numbered c.args.spec.now env c.in_ok-numbers.numbers (c.in_ok-numbers.ensures env refl)

pub returns : goal.returns
returns c = λ env texts.
    let spec : Spec = c.args.spec.now in
    let numbers : List ℕ = c.in_ok-numbers.numbers in
    let sets = c.in_ok-sets.sets in
    let bearers = c.in_ok-with_attributes.with_attributes in
    let known = (all-numbered spec env numbers (c.in_ok-numbers.ensures env texts)).items in
    let bear = c.in_ok-with_attributes.ensures spec (subst (λ (xs : List SymbolAttribute). AreNamed spec xs) (sym c.deref.ensures.value) c.in_ok-named.ensures) known c.in_ok-inheritance.ensures in
    kind-clash spec sets c.in_ok-sets.ensures env bearers bear c.requires.about _ _ _ c.earlier.ensures c.in_ok-of_pairs.ensures
    (subst (λ (ts : List (List ℕ)). IsFirst (IsPlainClash spec sets bearers ts) c.in_ok-plain.plain) (sym texts) c.in_ok-plain.ensures)
