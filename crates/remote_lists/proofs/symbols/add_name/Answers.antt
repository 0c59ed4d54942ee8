use Rattle.std.proofs.Common.{◌∙◌, ap, sym}
use Rattle.remote_lists.specs.Listings.{with_name}
use Rattle.remote_lists.proofs.ListingLemmas.{name-when, name-none}
use Rattle.remote_lists.proofs.symbols.add_name.Goals as goal

pub returns-then-is_cell : goal.returns-then-is_cell
returns-then-is_cell c = sym (ap (with_name c.args.names.now) (name-none c.args.row.now (sym c.is_cell.ensures ∙ c.if-is_cell.true)))

pub returns : goal.returns
returns c = c.in_ok-add.ensures.added ∙ sym (ap (with_name c.args.names.now) (name-when c.args.row.now (sym c.is_cell.ensures ∙ c.if-is_cell.false)))
