use Rattle.std.proofs.Common.{◌≡◌, ◌<◌, ℕ, length, Some}
use Rattle.std.specs.Prelude.{slice_get}
use Rattle.lido_base.specs.declared.ids.SymId.{SymId}
use Rattle.lido_base.specs.declared.ids.RuleId.{RuleId}
use Rattle.flat_grammar.specs.declared.flat.FlatRule.{FlatRule}
use Rattle.tree_flattener.specs.Forms.{IsElementOf, IsElementRule}
use Rattle.tree_flattener.proofs.forms.element_rules.Given as goal

-- the elements of the first rules
abbrev pub invariant-loop-k : goal.invariant-loop-k
invariant-loop-k l = record {
  each : length l.elements.items ≡ length l.flat.symbols;
  found : (s : SymId) (i : RuleId) → slice_get l.elements.items s.0 ≡ Some (Some i) → IsElementRule l.flat.rules l.cell s i;
  complete : (s : SymId) (j : ℕ) (r : FlatRule) → j < l.k → slice_get l.flat.rules j ≡ Some r → IsElementOf l.cell r s → (i : RuleId) × (slice_get l.elements.items s.0 ≡ Some (Some i));
}
