-- The form of a written node, and what it asks for.
use Rattle.std.specs.Prelude.{Contains, slice_get}
use Rattle.std.proofs.Common.{◌≡◌, ℕ, ◌<◌, List, length, get_or, Some, sym, subst, ap, ◌∙◌}
use Rattle.std.proofs.lemmas.Option.{slice_get_within, get_or_from_slice_get}
use Rattle.lido_base.specs.Tree.{rule_at}
use Rattle.flat_grammar.specs.declared.flat.FlatSymbol.{FlatSymbol}
use Rattle.flat_grammar.specs.declared.flat.FlatRule.{FlatRule}
use Rattle.flat_grammar.specs.declared.flat.Shape.{Shape}
use Rattle.tree_flattener.specs.declared.forms.Form.{Form}
use Rattle.tree_flattener.specs.Forms.{IsForm, AreForms}
use Rattle.tree_flattener.specs.Drafts.{Table, Suits}
use Rattle.tree_flattener.proofs.GrowLemmas.{some_same}

module _ (symbols : List FlatSymbol) (rules : List FlatRule) (shapes : List Shape) (W : Table) (forms : List Form) (are : AreForms symbols rules shapes forms) (n j : ℕ) (at : rule_at W n ≡ Some j) where
  pub form_inside : Suits symbols rules shapes W → n < length W → j < length forms
  form_inside suits h = let (shape, among, is) = suits.shaped n h in let (form, found, ok) = are shape among in
      subst (λ k. k < length forms) (some_same (sym is ∙ at)) (slice_get_within forms shape.rule.0 form found)

  pub form_is : (x : Form) → x ≡ get_or forms j x → (shape : Shape) → Contains shapes shape → rule_at W n ≡ Some shape.rule.0 → IsForm symbols rules shape x
  form_is x e shape among is = let (form, found, ok) = are shape among in
      subst (IsForm symbols rules shape) (sym (e ∙ get_or_from_slice_get forms j form x (ap (slice_get forms) (some_same (sym at ∙ is)) ∙ found))) ok
