use Rattle.std.proofs.Common.{◌≡◌, ◌∷◌, [], ◌++◌, List, ap, sym, subst, ◌∙◌}
use Rattle.ptg_patterns.specs.declared.written.Item.{Item}
use Rattle.ptg_patterns.specs.declared.written.Written.{Written}
use Rattle.ptg_patterns.proofs.FrontsLemmas.{ArePatterns, pattern_found, patterns_found}
use Rattle.ptg_patterns.proofs.reading.written.Goals as goal

pub loop-at-preserved : goal.loop-at-preserved
loop-at-preserved c =
    let found = c.loop-at.found.items in
    let same : c.push.new.self.items ≡ found ++ record { at = c.in-Some.at; name = c.in-Some.name; items = c.in-Ok.items.items } ∷ [] =
    c.in_ok-push-in-Ok.ensures.items ∙ ap (λ (l : List Item). found ++ record { at = c.in-Some.at; name = c.in-Some.name; items = l } ∷ []) c.from_vec-items.ensures in
    subst (λ (l : List Written). ArePatterns c.args.marks.now l c.in-Ok.left.now) (sym same)
    (pattern_found c.args.marks.now c.loop-at.rest.now c.in-Some.behind.now c.in-Ok.left.now found c.in-Some.at c.in-Some.name c.in-Ok.items.items
    c.in-Some.ensures.front c.in-Ok.ensures.items c.loop-at.invariant)

pub returns-clause-written : goal.returns-clause-written
returns-clause-written c = patterns_found c.args.marks.now c.loop-at.rest.now c.loop-at.found.items c.in_default.ensures.front c.loop-at.invariant
