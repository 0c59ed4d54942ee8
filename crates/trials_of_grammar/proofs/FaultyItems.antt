-- The least fault of an assignment with Bad values.
use Rattle.std.specs.Prelude.{slice_get, option_and_then, true}
use Rattle.std.proofs.Common.{◌≡◌, ℕ, zero, suc, inl, inr, Option, Some, refl, arith, ap, subst, ◌∙◌}
use Rattle.std.proofs.lemmas.Option.{none-some}
use Rattle.lido_base.specs.declared.value.Origin.{Origin}
use Rattle.lido_base.specs.Plain.{Plain, Bad, fault_of}
use Rattle.lido_base.specs.Origins.{IsAtMost}
use Rattle.flat_grammar.specs.declared.flat.FlatAttr.{FlatAttr}
use Rattle.flat_grammar.specs.declared.flat.FlatRule.{FlatRule}
use Rattle.flat_grammar.specs.Rules.{attrs_of}
use Rattle.flat_grammar.specs.FlatAttribution.{IsFaultyAt, IsLeastFault}
use Rattle.flat_grammar.proofs.Lists.{held}
use Rattle.trials_of_grammar.specs.ListOfItems.{symbols, rules, list_rule, item_rule, cell_rule, end_rule, out_attribute, con_attribute}
use Rattle.trials_of_grammar.specs.ItemTrees.{two_cells, faulty, overflow, in_table}
use Rattle.trials_of_grammar.proofs.Finite.{never}
use Rattle.trials_of_grammar.proofs.ItemTrees.{at-rules}

abbrev Above : ℕ → FlatRule → Type 0
Above n r = (a : ℕ) (attr : FlatAttr) (p : Origin) → slice_get (attrs_of symbols r.left) a ≡ Some attr → attr.written ≡ true → in_table faulty (n, a) ≡ Some (Bad p) → IsAtMost (overflow 1 2) p

the-origin : (o p : Origin) → Some (Bad o) ≡ Some (Bad p) → o ≡ p
the-origin o p e = held (ap (λ (v : Option Plain). option_and_then fault_of v) e)

itself : (p : Origin) → overflow 1 2 ≡ p → IsAtMost (overflow 1 2) p
itself p e = subst (λ o. IsAtMost (overflow 1 2) o) e (inr (refl, inr (refl, omega arith)))

unwritten : {X : Type 0} (attr : FlatAttr) → Some con_attribute ≡ Some attr → attr.written ≡ true → X
unwritten attr e w = never (ap (λ (b : FlatAttr). b.written) (held e) ∙ w)

list-node : Above 0 list_rule
list-node zero attr p e w b = itself p (the-origin (overflow 1 2) p b)
list-node (suc a) attr p e w b = absurd (none-some _ e)

cell-node : (n : ℕ) → Above n cell_rule
cell-node n zero attr p e w b = unwritten attr e w
cell-node n (suc a) attr p e w b = absurd (none-some _ e)

first-item : Above 2 item_rule
first-item zero attr p e w b = itself p (the-origin (overflow 1 2) p b)
first-item (suc zero) attr p e w b = unwritten attr e w
first-item (suc (suc a)) attr p e w b = absurd (none-some _ e)

second-item : Above 4 item_rule
second-item zero attr p e w b = subst (λ o. IsAtMost (overflow 1 2) o) (the-origin (overflow 2 2) p b) (inl (omega arith))
second-item (suc zero) attr p e w b = unwritten attr e w
second-item (suc (suc a)) attr p e w b = absurd (none-some _ e)

end-node : Above 5 end_rule
end-node zero attr p e w b = unwritten attr e w
end-node (suc a) attr p e w b = absurd (none-some _ e)

above : (p : Origin) → IsFaultyAt symbols rules two_cells (in_table faulty) p → IsAtMost (overflow 1 2) p
above p (n, a, r, attr, h, e, w, b) = at-rules Above list-node (cell-node 1) first-item (cell-node 3) second-item end-node n r h a attr p e w b

pub least : IsLeastFault symbols rules two_cells (in_table faulty) (overflow 1 2)
least = ((0, 0, list_rule, out_attribute, (0, refl, refl), refl, refl, refl), above)

pub not-written : ¬ IsFaultyAt symbols rules two_cells (in_table faulty) (overflow 0 1)
not-written h = elim (above (overflow 0 1) h) [ inl l ↦ absurd (omega (arith, l)) | inr e ↦ absurd (let f : 1 ≡ 0 = e.0 in omega (arith, f)) ]
