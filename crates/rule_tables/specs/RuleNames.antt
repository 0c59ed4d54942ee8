-- The names of rules and of what they are made of as ids of texts.
use Rattle.std.specs.Prelude.{ℕ, ◌<◌, List, length, Contains}
use Rattle.lido_syntax.specs.declared.spec.Name.{Name}
use Rattle.lido_syntax.specs.declared.spec.Spec.{Spec}
use Rattle.lido_syntax.specs.declared.spec.RuleItem.{RuleItem}
use Rattle.lido_syntax.specs.Production.{right_of}
use Rattle.lido_symbols.specs.FromText.{all_names}
use Rattle.lido_symbols.specs.Uses.{all_functions}

-- The names of the rules and of the symbols of their right sides are ids of these texts.
pub record HasNames (texts : List (List ℕ)) (rules : List RuleItem) : Type 0 where
  pub called : (r : RuleItem) → Contains rules r → r.name.0 < length texts
  pub right : (r : RuleItem) (s : ℕ) → Contains rules r → Contains (right_of r) s → s < length texts

-- All names of the specification are ids of these texts.
pub record HasIds (texts : List (List ℕ)) (spec : Spec) : Type 0 where
  pub names : (x : Name) → Contains (all_names spec) x → x.id.0 < length texts
  pub functions : (x : Name) → Contains (all_functions spec) x → x.id.0 < length texts
  pub rules : (r : RuleItem) → Contains spec.rules r → r.name.0 < length texts
