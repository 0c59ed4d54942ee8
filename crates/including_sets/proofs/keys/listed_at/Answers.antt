use Rattle.std.proofs.Common.{◌∙◌, None, if◌then◌else◌, ap, sym}
use Rattle.remote_lists.specs.Listings.{listed_by}
use Rattle.including_sets.specs.Keys.{attr_at}
use Rattle.including_sets.proofs.keys.listed_at.Goals as goal

pub returns-then-is_nonterminal : goal.returns-then-is_nonterminal
returns-then-is_nonterminal c =
    let made = attr_at c.args.sym.0 (listed_by c.args.symbols.now c.args.pairs.now c.args.row.now) in
    c.attr_of.ensures ∙ ap (attr_at c.args.sym.0) c.listed.ensures ∙ sym (ap (λ b. if b then made else None) (sym c.is_nonterminal.ensures ∙ c.if-is_nonterminal.true))
