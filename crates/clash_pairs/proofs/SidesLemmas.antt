-- The side of a name whose index may be faulty.
use Rattle.std.specs.Prelude.{Bool, nat_eq, ℤ}
use Rattle.std.proofs.Common.{◌≡◌, Option, None, refl, sym, ap, ◌∙◌}
use Rattle.lido_base.specs.Tree.{contains}
use Rattle.lido_syntax.specs.declared.spec.Name.{Name}
use Rattle.lido_syntax.specs.declared.spec.RuleItem.{RuleItem}
use Rattle.lido_syntax.specs.Attributes.{possible}
use Rattle.lido_syntax.specs.Production.{name_of, left_of, right_of, symbols_of, occurrence, places_from}
use Rattle.symbol_attributes.proofs.SideLemmas.{side-by}
use Rattle.symbol_attributes.specs.Said.{side_of, one_side}

possible-none : (r : RuleItem) (x : Name) (i : Option ℤ) → occurrence r x i ≡ None → possible r x i ≡ places_from 0 (name_of x) (symbols_of r)
possible-none r x i e = rw (e, possible) refl

pub by-sides : (r : RuleItem) (x : Name) (i : Option ℤ) (right : Bool) → occurrence r x i ≡ None → right ≡ contains (name_of x) (right_of r)
    → one_side (nat_eq (name_of x) (left_of r)) right ≡ side_of (possible r x i)
by-sides r x i right none e = ap (one_side (nat_eq (name_of x) (left_of r))) e ∙ sym (side-by (name_of x) (left_of r) (right_of r)) ∙ ap side_of (sym (possible-none r x i none))
