use Rattle.std.specs.Prelude.{◌&&◌, not}
use Rattle.std.proofs.Common.{◌∙◌, ap, sym}
use Rattle.constituents_expand.specs.Listings.{named_by}
use Rattle.constituents_expand.proofs.listings.is_shielded.Goals as goal

pub returns : goal.returns
returns c = c.is_named.ensures ∙ sym (ap (λ b. not b && named_by c.args.symbols.now c.args.shield.now c.args.row.now) (sym c.is_cell.ensures ∙ c.if-is_cell.false))
