use Rattle.std.proofs.Common.{◌≡◌, drop}
use Rattle.lido_lexer.specs.Bytes.{value_in}
use Rattle.lido_lexer.proofs.Values.{value_after}
use Rattle.lido_lexer.proofs.quoted.octal_value.Given as goal

abbrev pub invariant-loop-b : goal.invariant-loop-b
invariant-loop-b l = value_after 8 l.value (drop l.b-index l.digits) ≡ value_in 8 l.digits
