use Rattle.std.specs.Prelude.{IsTrue}
use Rattle.lido_reader.proofs.SymbolsLemmas.{not_declaring_end, declaring_comma, declaring_colon}
use Rattle.lido_reader.proofs.symbols.is_declaring.Goals as goal

pub returns-in_default : goal.returns-in_default
returns-in_default c = not_declaring_end c.args.tokens.now c.in_default.ensures

pub returns-then-is_sign : goal.returns-then-is_sign
returns-then-is_sign c = declaring_comma c.args.tokens.now c.in-Some.field-0-1.now c.in-Some.token c.in-Some.ensures (c.is_sign.ensures.0 c.if-is_sign.true)

pub returns : goal.returns
returns c = declaring_colon c.args.tokens.now c.in-Some.field-0-1.now c.in-Some.token c.is_sign-2.result c.in-Some.ensures (λ d. let is_it : IsTrue c.is_sign.result = c.is_sign.ensures.1 d in cc (c.if-is_sign.false)) c.is_sign-2.ensures
