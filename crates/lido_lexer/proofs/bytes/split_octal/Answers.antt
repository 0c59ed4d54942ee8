use Rattle.std.proofs.Common.{ℕ, take, ap, ◌∙◌, arith}
use Rattle.lido_lexer.proofs.Runs.{octal_within, octal_taken}
use Rattle.lido_lexer.proofs.bytes.split_octal.Goals as goal

pub split_at-requires : goal.split_at-requires
split_at-requires c = omega (arith, octal_within c.args.bytes.now, c.octal_len.ensures)

pub returns-clause-front : goal.returns-clause-front
returns-clause-front c = c.split_at.ensures.front ∙ ap (λ (n : ℕ). take n c.args.bytes.now) c.octal_len.ensures ∙ octal_taken c.args.bytes.now
