use Rattle.std.specs.Prelude.{◌&&◌}
use Rattle.std.proofs.Common.{◌∙◌, ap, sym}
use Rattle.constituents_expand.specs.Listings.{holds_value, gives_value}
use Rattle.constituents_expand.proofs.listings.gives_value.Goals as goal

pub returns-then-is_nonterminal : goal.returns-then-is_nonterminal
returns-then-is_nonterminal c =
    c.has_value.ensures ∙ sym (ap (λ b. b && holds_value c.args.row.now c.in-Some.attribute) (sym c.is_nonterminal.ensures ∙ c.if-is_nonterminal.true)) ∙ ap (gives_value c.args.row.now) (sym c.in-Some.is)
