-- The occurrences of a rule as a table by the names of their symbols.
use Rattle.std.specs.Prelude.{◌≡◌, ℕ, Bool, false, nat_eq, List, [], ◌∷◌, ◌++◌, map, flat_map, option_map, unwrap_or}
use Rattle.std.specs.Global.{Vec}
use Rattle.std.specs.HashMap as table
use Rattle.std.specs.HashSet as bag
use Rattle.lido_base.specs.declared.ids.StrId.{StrId}
use Rattle.lido_base.specs.Tree.{contains}
use Rattle.lido_syntax.specs.declared.spec.RuleItem.{RuleItem}
use Rattle.lido_syntax.specs.declared.spec.Name.{Name}
use Rattle.lido_syntax.specs.declared.spec.Comp.{Comp}
use Rattle.lido_syntax.specs.declared.spec.Place.{Place}
use Rattle.lido_syntax.specs.declared.spec.Place.TheVariants.{Named}
use Rattle.lido_syntax.specs.declared.spec.Element.{Element}
use Rattle.lido_syntax.specs.declared.spec.Element.TheVariants.{Symbol, Literal}
use Rattle.lido_syntax.specs.Production.{name_of, left_of, right_of, production, places_from}
use Rattle.lido_syntax.specs.Parts.{leaves_of}
use Rattle.lido_symbols.specs.Uses.{attributes_in, attributes_of_target}
use Rattle.lido_symbols.specs.declared.production.Production.{Production}

abbrev pub numbers : List StrId → List ℕ
numbers = map (λ (s : StrId). s.0)

-- the occurrences of a symbol, from left to right
unfoldable pub row_of : Production → ℕ → List ℕ
row_of p x = unwrap_or (option_map (λ (v : Vec ℕ). v.items) (table.get nat_eq p.places x)) []

-- whether the symbol stands on the right side
unfoldable pub is_right_symbol : Production → ℕ → Bool
is_right_symbol p x = bag.contains nat_eq p.right x

-- It has the symbols of both sides, and the occurrences that a computation of the rule can name.
pub record IsProductionOf (r : RuleItem) (p : Production) : Type 0 where
  pub list : p.list ≡ r.list
  pub rows : (x : ℕ) → row_of p x ≡ places_from 0 x (production r)
  pub left : p.left.0 ≡ left_of r
  pub right : (x : ℕ) → is_right_symbol p x ≡ contains x (right_of r)

-- a test that the element is the symbol of that name
abbrev pub names_symbol : ℕ → Element → Bool
names_symbol x (Symbol n) = nat_eq x (name_of n)
names_symbol x (Literal s) = false

-- the name before the dot of a place, if it has one
abbrev pub symbols_of_place : Place → List Name
symbols_of_place (Named x i) = x ∷ []
symbols_of_place _ = []

-- the names that stand as attributes or chains in a computation
abbrev pub attributes_of : Comp → List Name
attributes_of c = attributes_of_target c.target ++ flat_map attributes_in (leaves_of c)
