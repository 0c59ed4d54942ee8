use Rattle.std.proofs.Common.{◌∙◌, None, if◌then◌else◌, ap, sym}
use Rattle.remote_lists.specs.Listings.{first_by}
use Rattle.remote_lists.proofs.listings.listed.Goals as goal

pub returns : goal.returns
returns c = c.first_listed.ensures ∙ sym (ap (λ b. if b then None else first_by c.args.symbols.now c.args.pairs.now c.args.row.now) (sym c.is_cell.ensures ∙ c.if-is_cell.false))
