use Rattle.std.proofs.Common.{refl, sym, ◌∙◌}
use Rattle.std.proofs.Common.{ℤ, subst}
use Rattle.std.specs.Prelude.{FitsSigned}
use Rattle.std.specs.Int.{w64}
use Rattle.std.proofs.lemmas.Int.{to_z-of_z}
use Rattle.tree_reader.specs.declared.scanner.Phase.TheVariants as phase
use Rattle.tree_reader.proofs.StepsOfScanner.{stands_at, digits_on, digits_stuck, digits_whole}
use Rattle.tree_reader.proofs.MovesLemmas.{moves_after, refused_after}
use Rattle.tree_reader.proofs.scanner.Scanner.digits.Goals as goal

pub returns-in-Some-clause-moves : goal.returns-in-Some-clause-moves
returns-in-Some-clause-moves c = digits_on c.args.at c.args.b c.args.from c.args.value c.args.negative c.in-Some.value c.args.self.now _ c.requires.phase c.requires.stands (sym c.is_digit.ensures ∙ c.if-is_digit.true)
    c.in-Some.ensures.1 c.in-Some.ensures.0 refl

pub returns-in-None-clause-refused : goal.returns-in-None-clause-refused
returns-in-None-clause-refused c = (refl, digits_stuck c.args.at c.args.b c.args.from c.args.value c.args.negative c.args.self.now c.requires.phase (sym c.is_digit.ensures ∙ c.if-is_digit.true) c.in-None.ensures)

pub returns-in-Ok-clause-moves : goal.returns-in-Ok-clause-moves
returns-in-Ok-clause-moves c = moves_after c.gap.new.self c.gap.result
    (digits_whole c.args.at c.args.b c.args.from c.args.value c.args.negative _ c.args.self.now c.give_int.new.self c.requires.phase c.requires.stands (sym c.is_digit.ensures ∙ c.if-is_digit.false) (to_z-of_z w64 c.signed_value.result (subst (λ (z : ℤ). FitsSigned w64 z) (sym c.signed_value.ensures) (stands_at c.args.self.now (phase.Digits c.args.from c.args.negative c.args.value) c.requires.phase c.requires.stands).3) ∙ c.signed_value.ensures) c.in-Ok.ensures.ok) c.gap.ensures.moves

pub returns-in-Ok-clause-refused : goal.returns-in-Ok-clause-refused
returns-in-Ok-clause-refused c = refused_after c.gap.result
    (digits_whole c.args.at c.args.b c.args.from c.args.value c.args.negative _ c.args.self.now c.give_int.new.self c.requires.phase c.requires.stands (sym c.is_digit.ensures ∙ c.if-is_digit.false) (to_z-of_z w64 c.signed_value.result (subst (λ (z : ℤ). FitsSigned w64 z) (sym c.signed_value.ensures) (stands_at c.args.self.now (phase.Digits c.args.from c.args.negative c.args.value) c.requires.phase c.requires.stands).3) ∙ c.signed_value.ensures) c.in-Ok.ensures.ok) c.gap.ensures.refused
