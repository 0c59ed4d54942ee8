use Rattle.std.proofs.Common.{nat_eq, sym, ◌∙◌}
use Rattle.lido_symbols.proofs.PlacesLemmas.{place_found, place_missed}
use Rattle.lido_symbols.proofs.names.Names.number.Goals as goal

pub returns-in-Some-clause-number : goal.returns-in-Some-clause-number
returns-in-Some-clause-number c = place_found (nat_eq c.args.name.0) c.args.self.now c.in-Some.place (sym c.in-Some.ensures)

pub returns-in-None-clause-number : goal.returns-in-None-clause-number
returns-in-None-clause-number c = c.len.ensures ∙ place_missed (nat_eq c.args.name.0) c.args.self.now (sym c.in-None.ensures)
