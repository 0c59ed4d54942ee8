-- All symbols of which the text says something have numbers.
use Rattle.std.specs.Prelude.{◌≡◌, ℕ, ℤ, List, Option, Contains}
use Rattle.lido_syntax.specs.declared.spec.Spec.{Spec}
use Rattle.lido_syntax.specs.declared.spec.Name.{Name}
use Rattle.lido_syntax.specs.declared.spec.Comp.{Comp}
use Rattle.lido_syntax.specs.declared.spec.RuleItem.{RuleItem}
use Rattle.lido_syntax.specs.declared.spec.Target.TheVariants as target
use Rattle.lido_syntax.specs.declared.spec.Place.TheVariants as place
use Rattle.lido_syntax.specs.Production.{name_of}
use Rattle.symbol_attributes.specs.Inheritance.{AreNumberedIn}

-- those of SYMBOL items, and those that targets of rules name
pub record AreAllNumbered (spec : Spec) (names : List ℕ) : Type 0 where
  pub items : AreNumberedIn names spec.symbols
  pub targets : (r : RuleItem) (c : Comp) (x : Name) (i : Option ℤ) (a : Name) → Contains spec.rules r → Contains r.body c → c.target ≡ target.Attr (place.Named x i) a → Contains names (name_of x)
