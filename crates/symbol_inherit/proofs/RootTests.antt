-- A left side that stands on no right side is the root.
use Rattle.std.specs.Prelude.{Bool, true, false, IsTrue, not, map, Contains}
use Rattle.std.proofs.Common.{◌≡◌, ◌↔◌, ◌∙◌, refl, sym, true≢false}
use Rattle.lido_base.proofs.Lists.{map-contains}
use Rattle.lido_base.proofs.TreeLemmas.{test-contains}
use Rattle.lido_syntax.specs.declared.spec.Spec.{Spec}
use Rattle.lido_syntax.specs.declared.spec.RuleItem.{RuleItem}
use Rattle.lido_syntax.specs.Production.{left_of}
use Rattle.lido_syntax.specs.Symbols.{IsRoot}
use Rattle.kind_clashes.specs.Names.{has}
use Rattle.kind_clashes.specs.Sets.{AreNameSets}
use Rattle.kind_clashes.specs.declared.sets.NameSets.{NameSets}

pub root-test : (spec : Spec) (sets : NameSets) → AreNameSets spec sets → (r : RuleItem) → Contains spec.rules r → (b : Bool) → b ≡ has sets.right_sides (left_of r) → IsTrue (not b) ↔ IsRoot spec (left_of r)
root-test spec sets are r among true e = (λ h. absurd (true≢false (sym h)), λ root. absurd (root.1 (are.right_sides.only (left_of r) (sym e))))
root-test spec sets are r among false e = (
  λ h. (test-contains (left_of r) (map left_of spec.rules) (map-contains left_of spec.rules r among), λ on. true≢false (sym (are.right_sides.all (left_of r) on) ∙ sym e)),
  λ root. refl,
)
