use Rattle.std.specs.Prelude.{slice_get, option_map, if◌then◌else◌}
use Rattle.std.proofs.Common.{◌≡◌, ◌∙◌, ◌+◌, Some, map, take_all, get_or, ap, arith}
use Rattle.std.proofs.lemmas.Option.{slice_get-get_or, slice_get-map}
use Rattle.std.proofs.lemmas.List.{length-map}
use Rattle.lido_base.specs.declared.ids.SymId.{SymId as Symbol}
use Rattle.least_paths.specs.Graph.{is_in}
use Rattle.rule_tables.specs.Shares.{last_of}
use Rattle.chain_expand.proofs.FrontLemmas.{places_from, last-more}
use Rattle.chain_expand.proofs.children.last_child.Goals as goal

pub loop-k-preserved : goal.loop-k-preserved
loop-k-preserved c =
    let right = c.args.right.now in
    let k = c.loop-k.k in
    let numbers = map (λ (s : Symbol). s.0) right in
    let test = is_in c.args.needs.now in
    let symbol = get_or right k (record { 0 = 0 }) in
    let at : slice_get right k ≡ Some symbol = slice_get-get_or right k (record { 0 = 0 }) c.loop-k-test.true in
    let number : slice_get numbers k ≡ Some symbol.0 = slice_get-map (λ (s : Symbol). s.0) right k ∙ ap (option_map (λ (s : Symbol). s.0)) at in
    c.last_with-last.ensures ∙ ap (λ b. if b then Some (k + 1) else c.loop-k.last) c.is_needed.ensures ∙ last-more test k symbol.0 numbers c.loop-k.last number c.loop-k.invariant

pub returns : goal.returns
returns c p same =
    let test = is_in c.args.needs.now in
    let right = c.args.right.now in
    let numbers = map (λ (s : Symbol). s.0) right in
    let size = length-map right (λ (s : Symbol). s.0) in
    c.loop-k.invariant ∙ ap (λ xs. last_of (places_from test 1 xs)) (take_all c.loop-k.k numbers (omega (arith, size, c.loop-k-test.false)) ∙ same)
