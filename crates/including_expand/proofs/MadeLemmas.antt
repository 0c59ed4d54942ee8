-- The attribute and the computation that a set adds where it is needed.
use Rattle.std.specs.Prelude.{if◌then◌else◌}
use Rattle.std.proofs.Common.{◌≡◌, ◌∙◌, ℕ, suc, ◌+◌, Bool, true, false, List, Some, None, ap, sym, arith}
use Rattle.lido_base.specs.declared.ids.SymId.{SymId}
use Rattle.least_paths.specs.Graph.{is_in}
use Rattle.rule_tables.specs.declared.extra.ExtraComp.{ExtraComp}
use Rattle.rule_tables.specs.declared.extra.Slot.{Slot}
use Rattle.rule_tables.specs.declared.extra.Slot.TheVariants as named
use Rattle.rule_tables.specs.declared.extra.Term.TheVariants as given
use Rattle.including_sets.specs.declared.sets.PairSet.{PairSet}
use Rattle.including_expand.specs.Extras.{needs_at, made_attr, attr_of, handed, made_comp, comp_of}

module _ (needs : List (List Bool)) where
  pub attr-then : (x : ℕ) (d : ℕ × PairSet) → is_in (needs_at needs d.0) x ≡ true → attr_of needs x d ≡ Some (made_attr x d)
  attr-then x d e = ap (λ (b : Bool). if b then Some (made_attr x d) else None) e

  pub attr-else : (x : ℕ) (d : ℕ × PairSet) → is_in (needs_at needs d.0) x ≡ false → attr_of needs x d ≡ None
  attr-else x d e = ap (λ (b : Bool). if b then Some (made_attr x d) else None) e

  pub comp-then : (k left j : ℕ) (child : SymId) (i : ℕ) (set : PairSet) (slot : Slot) → is_in (needs_at needs i) child.0 ≡ true → slot ≡ handed i set left
      → comp_of needs k left (j, child) (i, set) ≡ Some (record { rule = record { 0 = k }; occ = j + 1; slot = named.Inc i; value = given.Read (record { occ = 0; slot = slot }) })
  comp-then k left j child i set slot e made =
      let make : ℕ → Slot → ExtraComp = λ (n : ℕ) (s : Slot). record { rule = record { 0 = k }; occ = n; slot = named.Inc i; value = given.Read (record { occ = 0; slot = s }) } in
      let next : suc j ≡ j + 1 = omega arith in
      ap (λ (b : Bool). if b then Some (made_comp k left j (i, set)) else None) e ∙ (λ n. Some (make (next n) (sym made n)))

  pub comp-else : (k left : ℕ) (y : ℕ × SymId) (d : ℕ × PairSet) → is_in (needs_at needs d.0) y.1.0 ≡ false → comp_of needs k left y d ≡ None
  comp-else k left y d e = ap (λ (b : Bool). if b then Some (made_comp k left y.0 d) else None) e
