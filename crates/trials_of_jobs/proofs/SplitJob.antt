-- The split list is a job.
use Rattle.std.specs.Prelude.{slice_get, Contains, true, refl, pos, FitsSigned, ◌^◌}
use Rattle.std.specs.Int.{w64}
use Rattle.std.specs.List.Sorted.{IsStrictlyIncreasing}
use Rattle.std.specs.List.{AllByRecursion}
use Rattle.std.proofs.Common.{◌≡◌, ℕ, zero, suc, ◌<◌, List, [], ◌∷◌, length, Some, arith, ap, sym, subst, leb-true}
use Rattle.std.proofs.lemmas.Option.{none-some}
use Rattle.lido_base.specs.declared.value.Value.{Value}
use Rattle.lido_base.specs.Ranges.{IsInRange}
use Rattle.lido_base.specs.Tree.{Item, Child, Leaf, items_of, line_of, column_of}
use Rattle.flat_grammar.specs.declared.flat.FlatAttr.{FlatAttr}
use Rattle.flat_grammar.specs.declared.flat.FlatRule.{FlatRule}
use Rattle.flat_grammar.specs.declared.flat.FlatComp.{FlatComp}
use Rattle.flat_grammar.specs.Rules.{attribute_at}
use Rattle.flat_grammar.specs.WellFormed.{is_synthesized}
use Rattle.flat_grammar.specs.Fitting.{IsWithinLimits}
use Rattle.flat_grammar.proofs.Lists.{held}
use Rattle.trials_of_grammar.specs.ListOfItems.{symbol}
use Rattle.trials_of_grammar.proofs.Finite.{all-of, each-of}
use Rattle.core_machine.specs.Core.{IsTask}
use Rattle.core_machine.specs.Evaluation.{HasConstants, IsNoText}
use Rattle.core_machine.specs.Limits.{HasNumbers, AreInTheirTypes}
use Rattle.trials_of_jobs.specs.SplitList.{symbols, rules, list_rule, item_rule, cell_rule, end_rule, out_attribute, flat, node_of, job}
use Rattle.trials_of_jobs.proofs.SplitGrammar.{formed}
use Rattle.trials_of_jobs.proofs.SplitPlan.{sound}
use Rattle.trials_of_jobs.proofs.SplitTrees.{fitting, flat-tree}

limits : IsWithinLimits symbols rules flat
limits = (leb-true _ _ refl, leb-true _ _ refl)

root-bare : (a : ℕ) (attr : FlatAttr) → attribute_at symbols (symbol 0) (record { 0 = a }) ≡ Some attr → is_synthesized attr.kind ≡ true
root-bare zero attr e = sym (ap (λ (x : FlatAttr). is_synthesized x.kind) (held e))
root-bare (suc a) attr e = absurd (none-some _ e)

abbrev Fine : FlatRule → Type 0
Fine r = (c : FlatComp) → Contains r.comps c → HasConstants c.value

abbrev FineComp : FlatComp → Type 0
FineComp c = HasConstants c.value

constants : (r : FlatRule) (c : FlatComp) → Contains rules r → Contains r.comps c → HasConstants c.value
constants r c m k = each-of Fine rules (
  each-of FineComp list_rule.comps (tt, ((tt, tt), tt)),
  (each-of FineComp item_rule.comps ((tt, (tt, tt)), tt), (each-of FineComp cell_rule.comps (tt, (tt, ((tt, (tt, tt)), tt))), (each-of FineComp end_rule.comps (tt, tt), tt))),
) r m c k

abbrev NoText : Item Value → Type 0
NoText (Leaf v) = IsNoText v
NoText (Child c) = Unit {0}

no-text : (items : List (Item Value)) → AllByRecursion NoText items → (k : ℕ) (v : Value) → slice_get items k ≡ Some (Leaf v) → IsNoText v
no-text [] h k v e = absurd (none-some _ e)
no-text (i ∷ items) h zero v e = subst NoText (held e) h.0
no-text (i ∷ items) h (suc k) v e = no-text items h.1 k v e

leaves : (n k : ℕ) (v : Value) → slice_get (items_of flat n) k ≡ Some (Leaf v) → IsNoText v
leaves zero k v e = no-text (items_of flat 0) (tt, tt) k v e
leaves (suc zero) k v e = no-text (items_of flat 1) (tt, (tt, tt)) k v e
leaves (suc (suc zero)) k v e = no-text (items_of flat 2) (tt, tt) k v e
leaves (suc (suc (suc zero))) k v e = no-text (items_of flat 3) (tt, (tt, tt)) k v e
leaves (suc (suc (suc (suc zero)))) k v e = no-text (items_of flat 4) (tt, tt) k v e
leaves (suc (suc (suc (suc (suc zero))))) k v e = no-text [] tt k v e
leaves (suc (suc (suc (suc (suc (suc n)))))) k v e = no-text [] tt k v e

ascend : IsStrictlyIncreasing (3 ∷ [])
ascend k h = absurd (omega (arith, h))

pub is-task : IsTask job
is-task = record {
  formed = formed;
  sound = sound;
  fitting = fitting;
  flat_tree = flat-tree;
  limits = limits;
  root_bare = λ a attr e. root-bare a.0 attr e;
  root_out = (out_attribute, refl, refl);
  constants = constants;
  leaves = leaves;
  few_nodes = omega arith;
  nodes_ascend = ascend;
  nodes_inside = all-of (λ n. (0 < n) × (n < length flat)) (3 ∷ []) ((omega arith, omega arith), tt);
}

abbrev HasFineNumbers : FlatRule → Type 0
HasFineNumbers r = (c : FlatComp) → Contains r.comps c → HasNumbers c.value

abbrev IsFineComp : FlatComp → Type 0
IsFineComp c = HasNumbers c.value

one-fits : FitsSigned w64 (pos 1)
one-fits = record { sfits = omega arith }

none-fits : FitsSigned w64 (pos 0)
none-fits = record { sfits = omega arith }

expressions : (r : FlatRule) (c : FlatComp) → Contains rules r → Contains r.comps c → HasNumbers c.value
expressions r c m k = each-of HasFineNumbers rules (
  each-of IsFineComp list_rule.comps (one-fits, ((omega arith, (tt, tt)), tt)),
  (each-of IsFineComp item_rule.comps ((omega arith, (tt, (tt, tt))), tt), (each-of IsFineComp cell_rule.comps (tt, (tt, ((omega arith, (tt, (tt, tt))), tt))), (each-of IsFineComp end_rule.comps (none-fits, tt), tt))),
) r m c k

abbrev FineLeaf : Item Value → Type 0
FineLeaf (Leaf v) = IsInRange v
FineLeaf (Child c) = Unit {0}

fine-leaf : (items : List (Item Value)) → AllByRecursion FineLeaf items → (k : ℕ) (v : Value) → slice_get items k ≡ Some (Leaf v) → IsInRange v
fine-leaf [] h k v e = absurd (none-some _ e)
fine-leaf (i ∷ items) h zero v e = subst FineLeaf (held e) h.0
fine-leaf (i ∷ items) h (suc k) v e = fine-leaf items h.1 k v e

five-fits : FitsSigned w64 (pos 5)
five-fits = record { sfits = omega arith }

six-fits : FitsSigned w64 (pos 6)
six-fits = record { sfits = omega arith }

leaf-numbers : (n k : ℕ) (v : Value) → slice_get (items_of flat n) k ≡ Some (Leaf v) → IsInRange v
leaf-numbers zero k v e = fine-leaf (items_of flat 0) (tt, tt) k v e
leaf-numbers (suc zero) k v e = fine-leaf (items_of flat 1) (tt, (tt, tt)) k v e
leaf-numbers (suc (suc zero)) k v e = fine-leaf (items_of flat 2) (five-fits, tt) k v e
leaf-numbers (suc (suc (suc zero))) k v e = fine-leaf (items_of flat 3) (tt, (tt, tt)) k v e
leaf-numbers (suc (suc (suc (suc zero)))) k v e = fine-leaf (items_of flat 4) (six-fits, tt) k v e
leaf-numbers (suc (suc (suc (suc (suc zero))))) k v e = fine-leaf [] tt k v e
leaf-numbers (suc (suc (suc (suc (suc (suc n)))))) k v e = fine-leaf [] tt k v e

lines : (n : ℕ) → line_of flat n < 2 ^ 32
lines zero = omega arith
lines (suc zero) = omega arith
lines (suc (suc zero)) = omega arith
lines (suc (suc (suc zero))) = omega arith
lines (suc (suc (suc (suc zero)))) = omega arith
lines (suc (suc (suc (suc (suc zero))))) = omega arith
lines (suc (suc (suc (suc (suc (suc n)))))) = omega arith

columns : (n : ℕ) → column_of flat n < 2 ^ 32
columns zero = omega arith
columns (suc zero) = omega arith
columns (suc (suc zero)) = omega arith
columns (suc (suc (suc zero))) = omega arith
columns (suc (suc (suc (suc zero)))) = omega arith
columns (suc (suc (suc (suc (suc zero))))) = omega arith
columns (suc (suc (suc (suc (suc (suc n)))))) = omega arith

few-nodes : (xs : List ℕ) → AllByRecursion (λ w. w < 2 ^ 32) xs → (n w : ℕ) → slice_get xs n ≡ Some w → w < 2 ^ 32
few-nodes [] h n w e = absurd (none-some _ e)
few-nodes (x ∷ xs) h zero w e = let same : x ≡ w = held e in let l = h.0 in omega (arith, same, l)
few-nodes (x ∷ xs) h (suc n) w e = few-nodes xs h.1 n w e

pub in-types : AreInTheirTypes job
in-types = record {
  expressions = expressions;
  leaves = leaf-numbers;
  lines = lines;
  columns = columns;
  nodes = few-nodes node_of (omega arith, (omega arith, (omega arith, (omega arith, (omega arith, (omega arith, tt))))));
}
