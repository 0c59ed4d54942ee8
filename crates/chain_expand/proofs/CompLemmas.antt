-- The computation that a walk gives.
use Rattle.std.proofs.Common.{◌≡◌, ◌∙◌, ◌+◌, ℕ, suc, Option, Some, option_map, ap, sym, arith}
use Rattle.rule_tables.specs.declared.extra.ExtraComp.{ExtraComp}
use Rattle.rule_tables.specs.declared.extra.Slot.TheVariants as named
use Rattle.rule_tables.specs.declared.extra.Term.{Term}
use Rattle.chain_expand.specs.declared.walk.Source.{Source}
use Rattle.chain_expand.specs.declared.walk.Walk.{Walk}
use Rattle.chain_expand.specs.Comps.{term_of, front_in, behind_comp, front_comp}

pub behind-made : (k i : ℕ) (walk : Walk) (s : Source) (v : Term) → walk.behind ≡ Some s → v ≡ term_of i s → behind_comp k (i, walk) ≡ Some (record { rule = record { 0 = k }; occ = 0; slot = named.Behind i; value = v })
behind-made k i walk s v e t =
    let make : Term → ExtraComp = λ (v : Term). record { rule = record { 0 = k }; occ = 0; slot = named.Behind i; value = v } in
    ap (λ (o : Option Source). option_map (λ (s : Source). make (term_of i s)) o) e ∙ ap (λ (v : Term). Some (make v)) (sym t)

pub front-made : (k j i : ℕ) (walk : Walk) (s : Source) (v : Term) → front_in walk j ≡ Some s → v ≡ term_of i s
    → front_comp k j (i, walk) ≡ Some (record { rule = record { 0 = k }; occ = j + 1; slot = named.Front i; value = v })
front-made k j i walk s v e t =
    let make : ℕ → Term → ExtraComp = λ (n : ℕ) (v : Term). record { rule = record { 0 = k }; occ = n; slot = named.Front i; value = v } in
    let next : suc j ≡ j + 1 = omega arith in
    ap (λ (o : Option Source). option_map (λ (s : Source). make (suc j) (term_of i s)) o) e ∙ (λ n. Some (make (next n) (sym t n)))
