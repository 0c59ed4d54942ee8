use Rattle.std.proofs.Common.{◌≡◌, ap, sym, ◌∙◌, nat_eq, ◌||◌, false, rules}
use Rattle.std.specs.List.{list_any}
use Rattle.lido_base.specs.Tree.{contains}
use Rattle.lido_syntax.specs.Production.{left_of, right_of}
use Rattle.lido_symbols.specs.Occurrences.{names_symbol}
use Rattle.lido_symbols.proofs.CollectedLemmas.{named_any}
use Rattle.lido_symbols.proofs.coordinates.is_in_production.Goals as goal

pub returns-else-eq : goal.returns-else-eq
returns-else-eq c =
    let x = c.args.id.0 in
    let rest : c.has_symbol.result ≡ contains x (right_of c.args.rule.now) = c.has_symbol.ensures ∙ ap (list_any (names_symbol x)) c.as_slice.ensures ∙ named_any x c.args.rule.now.right in
    let apart : nat_eq x (left_of c.args.rule.now) ≡ false = search rules in
    rest ∙ ap (λ b. b || contains x (right_of c.args.rule.now)) (sym apart)
