use Rattle.std.proofs.Common.{◌∙◌, None, if◌then◌else◌, ap, sym}
use Rattle.remote_lists.specs.Listings.{listed_by}
use Rattle.including_sets.specs.Types.{type_of}
use Rattle.including_sets.proofs.types.type_at.Goals as goal

pub returns-then-is_nonterminal : goal.returns-then-is_nonterminal
returns-then-is_nonterminal c =
    let its = type_of c.args.row.now (listed_by c.args.symbols.now c.args.pairs.now c.args.row.now) in
    c.type_if.ensures ∙ ap (type_of c.args.row.now) c.listed.ensures ∙ sym (ap (λ b. if b then its else None) (sym c.is_nonterminal.ensures ∙ c.if-is_nonterminal.true))
