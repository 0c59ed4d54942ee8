use Rattle.std.specs.Prelude.{Contains}
use Rattle.std.proofs.Common.{subst, sym, ap, ◌∙◌, map, ◌++◌, ◌∷◌, [], if◌then◌else◌}
use Rattle.lido_symbols.specs.Numbers.{different}
use Rattle.lido_syntax.specs.Production.{right_of}
use Rattle.rule_tables.specs.CellRules.{link_rule, end_rule, AddsPlain}
use Rattle.rule_tables.proofs.LaterTexts.{more-again}
use Rattle.rule_tables.proofs.CellLemmas.{different-within, adds-then, adds-one}
use Rattle.rule_tables.proofs.cell_rules.push_cell_rules.Goals as goal

pub push_links-requires-clause-elements : goal.push_links-requires-clause-elements
push_links-requires-clause-elements c s m = c.requires.right s (different-within (right_of c.args.rule.now) s (subst (λ l. Contains l s) (c.as_slice.ensures ∙ c.in_ok-elements.ensures) m))

pub returns-clause-plain : goal.returns-clause-plain
returns-clause-plain c spec env k later at =
    let rule = c.args.rule.now in
    let symbols = c.args.symbols.now in
    let old = c.args.plain.now.items in
    let middle = c.push_links.new.plain.items in
    let new = c.push.new.self.items in
    let is = c.if-not-rule.false in
    subst (λ l. AddsPlain spec env symbols l old new) (sym (ap (λ b. if b then map (link_rule spec symbols k) (different (right_of rule)) ++ end_rule spec symbols k ∷ [] else []) is))
    (adds-then spec env symbols (map (link_rule spec symbols k) (different (right_of rule))) (end_rule spec symbols k ∷ []) old middle new
    (subst (λ es. AddsPlain spec env symbols (map (link_rule spec symbols k) es) old middle) (c.as_slice.ensures ∙ c.in_ok-elements.ensures)
    (c.in_ok-push_links.ensures.plain spec env k (more-again c.push_links.new.strings c.end.new.strings env.texts c.in_ok-end.ensures.kept later) (at is)))
    (adds-one spec env symbols (end_rule spec symbols k) c.in_ok-end.field-0 middle new (c.in_ok-end.ensures.plain spec env symbols k later (at is)) c.in_ok-push.ensures.items))
