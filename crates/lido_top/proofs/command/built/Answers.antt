use Rattle.std.proofs.Common.{◌≡◌, [], ◌∷◌, codes, map, string_bytes, refl, inr}
use Rattle.lido_base.specs.Phases.{the_one, the_none}
use Rattle.job_text.specs.declared.command_line.Command.{Command}
use Rattle.order_report.specs.declared.status.Status.TheVariants as status
use Rattle.lido_top.specs.Endings.{plainly}
use Rattle.lido_top.specs.Words.{BuiltOf}
use Rattle.lido_top.proofs.command.built.Goals as goal

pub returns-then-says_run-clause-gives : goal.returns-then-says_run-clause-gives
unfolding BuiltOf
returns-then-says_run-clause-gives c =
    let words = map string_bytes c.args.line.now in
    the_one (λ (built : Command). (built ≡ c.args.command) × (words ≡ codes "run" ∷ [])) (plainly status.FirstPathOnly) c.args.command (refl, c.says_run.ensures.0 c.if-says_run.true) (λ other given. given.0)

pub returns-else-says_run-clause-gives : goal.returns-else-says_run-clause-gives
unfolding BuiltOf
returns-else-says_run-clause-gives c =
    let words = map string_bytes c.args.line.now in
    inr (the_none (λ (built : Command). (built ≡ c.args.command) × (words ≡ codes "run" ∷ [])) (plainly status.FirstPathOnly) (plainly status.FirstPathOnly) refl
    (λ other given. let yes = c.says_run.ensures.1 given.1 in let no = c.if-says_run.false in absurd (cc)))
