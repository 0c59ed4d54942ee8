use Rattle.std.proofs.Common.{subst, sym, take, map, get_or, ◌∷◌, [], arith}
use Rattle.std.proofs.lemmas.List.Elements.{Contains-get_or}
use Rattle.rule_tables.specs.CellRules.{link_rule, AddsPlain}
use Rattle.rule_tables.proofs.LaterTexts.{more-again, no-fewer}
use Rattle.rule_tables.proofs.CellLemmas.{map-more, adds-then, adds-one}
use Rattle.rule_tables.proofs.cell_rules.push_links.Goals as goal

pub link-requires-clause-element : goal.link-requires-clause-element
link-requires-clause-element c =
    let l = c.requires.elements (get_or c.args.elements.now c.loop-element.element-index 0) (Contains-get_or c.args.elements.now c.loop-element.element-index 0 c.loop-element-test.true) in
    let m = no-fewer c.args.strings.now c.loop-element.strings c.loop-element.invariant.kept in
    omega (arith, l, m)

pub loop-element-preserved : goal.loop-element-preserved
loop-element-preserved c =
    let elements = c.args.elements.now in
    let i = c.loop-element.element-index in
    let old = c.args.plain.now.items in
    let middle = c.loop-element.plain.items in
    let new = c.push.new.self.items in
    let symbols = c.args.symbols.now in
    record {
      plain = λ spec env k later at.
          subst (λ l. AddsPlain spec env symbols l old new) (sym (map-more (link_rule spec symbols k) elements i 0 c.loop-element-test.true))
          (adds-then spec env symbols (map (link_rule spec symbols k) (take i elements)) (link_rule spec symbols k (get_or elements i 0) ∷ []) old middle new
          (c.loop-element.invariant.plain spec env k (more-again c.loop-element.strings c.link.new.strings env.texts c.in_ok-link.ensures.kept later) at)
          (adds-one spec env symbols (link_rule spec symbols k (get_or elements i 0)) c.in_ok-link.field-0 middle new (c.in_ok-link.ensures.plain spec env k later at) c.in_ok-push.ensures.items));
      kept = more-again c.args.strings.now c.loop-element.strings c.link.new.strings c.loop-element.invariant.kept c.in_ok-link.ensures.kept;
    }
