use Rattle.std.proofs.Common.{length, ◌<◌}
use Rattle.lido_base.specs.Reading.{Leads}
use Rattle.lido_reader.specs.Items.{AreDecls, IsFurtherDecl, Repeats, continues_decls}
use Rattle.lido_reader.proofs.declarations.decls.Given as goal

abbrev pub invariant-loop-behind_comma : goal.invariant-loop-behind_comma
invariant-loop-behind_comma l = record {
  leads : Leads (Repeats IsFurtherDecl l.all.items) continues_decls l.rest AreDecls continues_decls l.tokens;
  shorter : length l.rest < length l.tokens;
}

abbrev pub decreases-loop-behind_comma : goal.decreases-loop-behind_comma
decreases-loop-behind_comma l = length l.rest
