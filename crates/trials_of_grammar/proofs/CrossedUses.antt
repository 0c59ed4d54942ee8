-- The cycle of the crossed uses, with its labels, and two lists of steps that are none.
use Rattle.std.specs.Prelude.{Contains, if◌then◌else◌, nat_eq}
use Rattle.std.proofs.Common.{◌≡◌, ℕ, ◌⊎◌, inl, inr, List, [], ◌∷◌, refl, arith, ap, sym, ◌∙◌}
use Rattle.lido_base.specs.declared.ids.AttrId.{AttrId}
use Rattle.lido_base.specs.declared.ids.SymId.{SymId}
use Rattle.lido_base.specs.declared.kinds.Kind.TheVariants.{Synthesized}
use Rattle.flat_grammar.specs.declared.flat.Occ.{Occ}
use Rattle.flat_grammar.specs.declared.flat.FlatAttr.{FlatAttr}
use Rattle.flat_grammar.specs.declared.flat.FlatRule.{FlatRule}
use Rattle.flat_grammar.specs.declared.flat.FlatComp.{FlatComp}
use Rattle.flat_grammar.specs.declared.plan.CycleStep.{CycleStep}
use Rattle.flat_grammar.specs.declared.plan.Label.TheVariants.{Direct, Induced, Partition}
use Rattle.flat_grammar.specs.Dependencies.{DP, IDS}
use Rattle.flat_grammar.specs.Partition.{HasKind, IsPeeled, IsEarlier}
use Rattle.flat_grammar.specs.Cycles.{IsAtMost, EDP, direct, induced, partition, IsCycle, IsAcyclic, IsCircular, IsOrderedGrammar}
use Rattle.flat_grammar.proofs.Lists.{held, contains-first, contains-nil}
use Rattle.trials_of_grammar.specs.ListOfItems.{symbol, occurrence}
use Rattle.trials_of_grammar.specs.CrossedUses.{symbols, rules, S_rule, s_attribute, i_of_X1, i_of_X2, X1_i, X1_s, X2_i, X2_s, step, circle, wrong_label, wrong_start}
use Rattle.trials_of_grammar.proofs.Finite.{all-of, each-of, pairs-of, numbers-apart, occurrences-apart, kinds-apart}
use Rattle.trials_of_grammar.proofs.TestedDependencies.{dependencies-tested}

abbrev edges : FlatRule → List (Occ × Occ)
edges r = if nat_eq r.name.0 10 then (X2_s, X1_i) ∷ (X1_s, X2_i) ∷ [] else []

abbrev pairs : SymId → List (ℕ × ℕ)
pairs x = []

-- nothing is induced
no-IDS : (x : SymId) (a b : AttrId) → IDS rules x a b → ⊥
no-IDS x a b h = contains-nil (a.0, b.0) (dependencies-tested edges pairs rules
    (record { direct = refl; induced = refl; transitive = refl; projected = refl }, (record { direct = refl; induced = refl; transitive = refl; projected = refl }, tt)) x a b h)

abbrev X : SymId
X = symbol 1

abbrev i : AttrId
i = record { 0 = 0 }

abbrev s : AttrId
s = record { 0 = 1 }

abbrev InClosed : AttrId → Type 0
InClosed a = HasKind symbols X Synthesized a × ((b : AttrId) → IDS rules X a b → IsPeeled symbols rules X 0 b ⊎ Contains (s ∷ []) b)

s-peeled : IsPeeled symbols rules X 1 s
s-peeled = inr (s ∷ [], contains-first s [], each-of InClosed (s ∷ []) (((s_attribute, refl, refl), λ b h. absurd (no-IDS X s b h)), tt))

i-inherited : HasKind symbols X Synthesized i → ⊥
i-inherited (attr, e, k) = kinds-apart (sym k ∙ sym (ap (λ (a : FlatAttr). a.kind) (held e)))

i-not-peeled : IsPeeled symbols rules X 1 i → ⊥
i-not-peeled (inl h) = h
i-not-peeled (inr (set, m, closed)) = i-inherited (closed i m).0

i-earlier : IsEarlier symbols rules X i s
i-earlier = (refl, 1, s-peeled, i-not-peeled)

-- no computation of rS gives an s
no-DP : (u v : Occ) → v.attr.0 ≡ 1 → DP S_rule u v → ⊥
no-DP u v at (c, m, d, e) = each-of (λ (c : FlatComp). c.goal ≡ v → ⊥) S_rule.comps (apart X1_i refl, (apart X2_i refl, (apart (occurrence 0 0) refl, tt))) c m e
  where
    apart : (o : Occ) → o.attr.0 ≡ 0 → o ≡ v → ⊥
    apart o zeroth f = numbers-apart 0 1 refl (sym zeroth ∙ (ap (λ (p : Occ). p.attr.0) f ∙ at))

first-edge : EDP symbols rules S_rule X1_i X1_s Partition
first-edge = partition {x = X} (no-DP X1_i X1_s refl) refl refl (no-IDS X i s) i-earlier

second-edge : EDP symbols rules S_rule X1_s X2_i Direct
second-edge = direct (i_of_X2, (1, omega arith, refl), (0, omega arith, refl), refl)

third-edge : EDP symbols rules S_rule X2_i X2_s Partition
third-edge = partition {x = X} (no-DP X2_i X2_s refl) refl refl (no-IDS X i s) i-earlier

fourth-edge : EDP symbols rules S_rule X2_s X1_i Direct
fourth-edge = direct (i_of_X1, (0, omega arith, refl), (0, omega arith, refl), refl)

pub cycle : IsCycle symbols rules S_rule circle
cycle = (
  (first-edge, (second-edge, (third-edge, fourth-edge))),
  pairs-of (λ (p q : CycleStep). p.from ≡ q.from → ⊥) circle (
    (occurrences-apart X1_i X1_s refl, (occurrences-apart X1_i X2_i refl, (occurrences-apart X1_i X2_s refl, tt))),
    ((occurrences-apart X1_s X2_i refl, (occurrences-apart X1_s X2_s refl, tt)), ((occurrences-apart X2_i X2_s refl, tt), (tt, tt))),
  ),
  all-of (λ (q : CycleStep). IsAtMost X1_i q.from) (step X1_s Direct ∷ step X2_i Partition ∷ step X2_s Direct ∷ []) (inr (refl, omega arith), (inl (omega arith), (inl (omega arith), tt))),
)

pub circular : IsCircular symbols rules 0 circle
circular = (S_rule, refl, cycle, all-of (IsAcyclic symbols rules) [] tt)

not-induced : EDP symbols rules S_rule X2_i X2_s Induced → ⊥
not-induced (induced n same at e) = no-IDS _ i s e

pub label-wrong : ¬ IsCycle symbols rules S_rule wrong_label
label-wrong h = not-induced h.0.1.1.0

pub start-wrong : ¬ IsCycle symbols rules S_rule wrong_start
start-wrong h = elim (h.2 2 (record { from = X1_i; label = Partition }) (omega arith)) [ inl l ↦ absurd (omega (arith, l)) | inr e ↦ absurd (let l = e.1 in omega (arith, l)) ]

pub not-ordered : ¬ IsOrderedGrammar symbols rules
not-ordered h = h 0 S_rule (omega arith) circle cycle
