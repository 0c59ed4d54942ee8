use Rattle.std.proofs.Common.{◌≡◌, ◌∙◌, ◌++◌, ◌∷◌, [], ap, sym, map, flat_map, append_assoc}
use Rattle.std.proofs.lemmas.Grind.{flat_map-append}
use Rattle.lido_syntax.specs.Parts.{conditions}
use Rattle.lido_symbols.proofs.CollectedLemmas.{collected_all}
use Rattle.including_sets.specs.Uses.{told, uses_in}
use Rattle.including_sets.proofs.uses.push_comp.Goals as goal

pub returns : goal.returns
returns c =
    let comp = c.args.comp.now in
    let f = uses_in comp.number in
    let front = conditions comp.target ++ comp.value ∷ [] in
    let old = map told c.args.found.now.items in
    let valued : map told c.push_valued.new.found.items ≡ old ++ flat_map f front = c.in_ok-push_valued.ensures in
    collected_all f c.as_slice-value-items.result.now c.loop-value.value-index (map told c.push_valued.new.found.items) (map told c.loop-value.found.items) c.loop-value-test.false c.loop-value.invariant
    ∙ (λ i. valued i ++ flat_map f (c.as_slice-value-items.ensures i)) ∙ append_assoc old (flat_map f front) (flat_map f comp.after)
    ∙ ap (λ l. old ++ l) (sym (flat_map-append f front comp.after) ∙ ap (flat_map f) (append_assoc (conditions comp.target) (comp.value ∷ []) comp.after))
