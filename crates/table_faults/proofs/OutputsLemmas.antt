-- Outputs that may not stand where they do.
use Rattle.std.specs.Prelude.{Contains, IsTrue, Bool, true, false, map}
use Rattle.std.proofs.Common.{◌≡◌, ℕ, ◌⊎◌, inl, inr, List, Option, Some, None, refl, arith, sym, true≢false}
use Rattle.lido_base.specs.Environment.{Environment}
use Rattle.lido_base.proofs.Lists.{map-contains}
use Rattle.lido_base.proofs.TreeLemmas.{test-contains}
use Rattle.lido_syntax.specs.declared.spec.Spec.{Spec}
use Rattle.lido_syntax.specs.declared.spec.Comp.{Comp}
use Rattle.lido_syntax.specs.declared.spec.RuleItem.{RuleItem}
use Rattle.lido_syntax.specs.declared.spec.SymbolItem.{SymbolItem}
use Rattle.lido_syntax.specs.Production.{left_of}
use Rattle.lido_syntax.specs.Symbols.{IsRoot}
use Rattle.kind_clashes.specs.declared.sets.NameSets.{NameSets}
use Rattle.kind_clashes.specs.Least.{IsFirst, Among, earlier_of}
use Rattle.kind_clashes.specs.Names.{has}
use Rattle.kind_clashes.specs.Sets.{AreNameSets}
use Rattle.kind_clashes.proofs.LeastLemmas.{first-same, first-none, first-join}
use Rattle.table_faults.specs.Parts.{IsOutAt, IsOutBehind, IsSecondOut}
use Rattle.table_faults.specs.Faults.{IsBadOut, in_symbol, not_at_root, second}

pub second-some : (body : List Comp) (first : ℕ) (r : Option ℕ) → IsFirst (Among IsOutAt body) (Some first) → IsFirst (Among (IsOutBehind first) body) r → IsFirst (IsSecondOut body) r
second-some body first r least behind =
    let front = (least.some first refl).there in
    first-same
    (λ at h. (front.item, h.item, front.among, h.among, front.is.0, h.is.0, (let e = front.is.1 in let lt = h.is.1 in omega (arith, e, lt)), h.is.2))
    (λ at (c, d, c_there, d_there, c_out, d_out, lt, e). record {
      item = d;
      among = d_there;
      is = (d_out, (let low = (least.some first refl).least c.at (record { item = c; among = c_there; is = (c_out, refl) }) in omega (arith, low, lt)), e);
    })
    behind

pub second-none : (body : List Comp) → IsFirst (Among IsOutAt body) None → IsFirst (IsSecondOut body) None
second-none body none = first-none (λ at (c, d, c_there, d_there, c_out, d_out, lt, e). none.none refl c.at (record { item = c; among = c_there; is = (c_out, refl) }))

decide : (b : Bool) → IsTrue b ⊎ (IsTrue b → ⊥)
decide true = inl refl
decide false = inr (λ e. absurd (true≢false (sym e)))

-- a left side is the root unless it stands on a right side
pub of-root : (spec : Spec) (sets : NameSets) → AreNameSets spec sets → (s : ℕ) → IsTrue (has sets.right_sides s) → ¬ IsRoot spec s
of-root spec sets are s there root = root.1 (are.right_sides.only s there)

pub to-root : (spec : Spec) (sets : NameSets) → AreNameSets spec sets → (r : RuleItem) → Contains spec.rules r → ¬ IsRoot spec (left_of r) → IsTrue (has sets.right_sides (left_of r))
to-root spec sets are r there none = elim (decide (has sets.right_sides (left_of r))) [
  | inl is ↦ is
  | inr not_there ↦ absurd (none (test-contains (left_of r) (map left_of spec.rules) (map-contains left_of spec.rules r there), λ right. not_there (are.right_sides.all (left_of r) right)))
]

abbrev pub IsBadOutIn : NameSets → RuleItem → ℕ → Type 0
IsBadOutIn sets r at = (IsTrue (has sets.right_sides (left_of r)) × Among IsOutAt r.body at) ⊎ IsSecondOut r.body at

pub bad-out : (spec : Spec) (env : Environment) (sets : NameSets) → AreNameSets spec sets → (a b r : Option ℕ) → r ≡ earlier_of a b
    → IsFirst (Among (λ (item : SymbolItem). Among IsOutAt item.body) spec.symbols) a → IsFirst (Among (IsBadOutIn sets) spec.rules) b → IsFirst (IsBadOut spec env) r
bad-out spec env sets are a b r e items rules = first-same
    (λ at h. elim h [
      | inl i ↦ in_symbol i.item i.is.item i.among i.is.among i.is.is.0 i.is.is.1
      | inr j ↦ elim j.is [
        | inl k ↦ not_at_root j.item k.1.item j.among k.1.among k.1.is.0 (of-root spec sets are (left_of j.item) k.0) k.1.is.1
        | inr k ↦ second j.item k.0 k.1 j.among k.2 k.3 k.4 k.5 k.6 k.7
      ]
    ])
    (λ at h. elim h [
      | in_symbol item c there here out place ↦ inl (record { item = item; among = there; is = record { item = c; among = here; is = (out, place) } })
      | not_at_root q c there here out root place ↦ inr (record { item = q; among = there; is = inl (to-root spec sets are q there root, record { item = c; among = here; is = (out, place) }) })
      | second q c d there here behind c_out d_out lt place ↦ inr (record { item = q; among = there; is = inr (c, d, here, behind, c_out, d_out, lt, place) })
    ])
    (first-join e items rules)
