use Rattle.std.proofs.Common.{◌≡◌, ◌<◌, ℕ, length, Some}
use Rattle.std.specs.Prelude.{slice_get}
use Rattle.flat_grammar.specs.declared.flat.Shape.{Shape}
use Rattle.tree_flattener.specs.declared.forms.Form.{Form}
use Rattle.tree_flattener.specs.Forms.{IsForm}
use Rattle.tree_flattener.proofs.forms.forms.Given as goal

-- the forms of the first shapes
abbrev pub invariant-loop-k : goal.invariant-loop-k
invariant-loop-k l = record {
  each : length l.forms.items ≡ length l.flat.rules;
  first : (j : ℕ) (shape : Shape) → j < l.k → slice_get l.flat.shapes j ≡ Some shape → (form : Form) × (slice_get l.forms.items shape.rule.0 ≡ Some form) × IsForm l.flat.symbols l.flat.rules shape form;
}
