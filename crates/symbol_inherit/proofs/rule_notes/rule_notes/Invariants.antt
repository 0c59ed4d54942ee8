use Rattle.std.proofs.Common.{◌≡◌, take}
use Rattle.std.specs.Prelude.{filter_map}
use Rattle.symbol_inherit.specs.Notes.{rule_note}
use Rattle.symbol_inherit.proofs.rule_notes.rule_notes.Given as goal

abbrev pub invariant-loop-comp : goal.invariant-loop-comp
invariant-loop-comp l = l.notes.items ≡ filter_map (rule_note l.chains l.rule) (take l.comp-index l.rule.body)
