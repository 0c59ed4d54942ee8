use Rattle.std.proofs.Common.{◌≡◌, drop}
use Rattle.lido_lexer.specs.Bytes.{value_in}
use Rattle.lido_lexer.proofs.Values.{value_after}
use Rattle.lido_lexer.proofs.numbers.decimal_value.Given as goal

abbrev pub invariant-loop-b : goal.invariant-loop-b
invariant-loop-b l = value_after 10 l.value (drop l.b-index l.digits) ≡ value_in 10 l.digits
