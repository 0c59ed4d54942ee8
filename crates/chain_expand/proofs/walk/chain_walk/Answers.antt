use Rattle.std.specs.Prelude.{map, slice_get}
use Rattle.std.proofs.Common.{◌≡◌, ◌∙◌, List, Some, length, ap}
use Rattle.lido_base.specs.declared.ids.SymId.{SymId}
use Rattle.least_paths.specs.Graph.{is_in}
use Rattle.rule_tables.specs.PlainRules.{PlainRule, Whole}
use Rattle.rule_tables.specs.Shares.{last_of}
use Rattle.chain_expand.specs.Walks.{behind_source, front_source, if_needed, needing}
use Rattle.chain_expand.proofs.walk.chain_walk.Goals as goal

pub returns : goal.returns
returns c =
    let rule = c.args.rule.now in
    let needs = c.args.needs.now in
    let right = c.as_slice-right.ensures in
    let start = c.start_number-start.ensures in
    let assigned = c.assigned_number-assigned.ensures in
    let plain : PlainRule = record { rule = 0; role = Whole; left = 0; right = map (λ (s : SymId). s.0) rule.right } in
    let last : c.last_child.result ≡ last_of (needing needs rule.right) = c.last_child.ensures plain (ap (map (λ (s : SymId). s.0)) right) in
    record {
      behind = c.if_needed.ensures ∙ ap (if_needed c.is_needed.result) c.behind_source-behind.ensures
          ∙ (λ i. if_needed (c.is_needed.ensures i) (behind_source c.args.inner (start i) (assigned i) (last i)));
      count = c.in_ok-front_sources.ensures.count ∙ ap (λ (l : List SymId). length l) right;
      fronts = λ j s e. c.in_ok-front_sources.ensures.each j s (ap (λ (l : List SymId). slice_get l j) right ∙ e)
          ∙ (λ i. Some (if_needed (is_in needs s.0) (front_source needs (start i) (right i) j)));
    }
