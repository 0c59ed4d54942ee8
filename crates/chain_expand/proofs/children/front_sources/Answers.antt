use Rattle.std.specs.Prelude.{slice_get, option_map, if◌then◌else◌}
use Rattle.std.proofs.Common.{◌≡◌, ◌∙◌, ◌+◌, ℕ, suc, List, Option, Some, map, take, length, ap, sym, inl, inr, get_or, arith, refl}
use Rattle.std.proofs.lemmas.Bool.{cases_lt}
use Rattle.std.proofs.lemmas.Option.{same_Some, slice_get-get_or, slice_get-map, slice_get_within}
use Rattle.std.proofs.lemmas.List.{length_push}
use Rattle.lido_base.specs.declared.ids.SymId.{SymId as Symbol}
use Rattle.least_paths.specs.Graph.{is_in}
use Rattle.rule_tables.specs.Shares.{last_of}
use Rattle.rule_tables.proofs.SlotLemmas.{front-at}
use Rattle.chain_expand.specs.declared.walk.Source.{Source}
use Rattle.chain_expand.specs.Walks.{source_of, if_needed}
use Rattle.chain_expand.proofs.FrontLemmas.{places_from, places-before, last-more, push-last}
use Rattle.chain_expand.proofs.children.front_sources.Goals as goal

pub loop-k-init : goal.loop-k-init
loop-k-init c = record {
  size = ap (λ (l : List (Option Source)). length l) c.new-fronts.ensures.items;
  last_one = refl;
  each = λ j s l e. absurd (omega (arith, l));
}

pub loop-k-preserved : goal.loop-k-preserved
loop-k-preserved c =
    let right = c.args.right.now in
    let k = c.loop-k.k in
    let numbers = map (λ (s : Symbol). s.0) right in
    let test = is_in c.args.needs.now in
    let symbol = get_or right k (record { 0 = 0 }) in
    let at : slice_get right k ≡ Some symbol = slice_get-get_or right k (record { 0 = 0 }) c.loop-k-test.true in
    let number : slice_get numbers k ≡ Some symbol.0 = slice_get-map (λ (s : Symbol). s.0) right k ∙ ap (option_map (λ (s : Symbol). s.0)) at in
    let fronts = c.loop-k.fronts.items in
    let its = λ (j : ℕ) (s : Symbol). if_needed (test s.0) (source_of c.args.start (last_of (places_from test 1 (take j numbers)))) in
    record {
      size = ap (λ (l : List (Option Source)). length l) c.in_ok-push.ensures.items ∙ length_push fronts c.if_needed.result ∙ ap (λ n. n + 1) c.loop-k.invariant.size;
      last_one = c.last_with-last.ensures ∙ ap (λ b. if b then Some (k + 1) else c.loop-k.last) c.is_needed-needed.ensures ∙ last-more test k symbol.0 numbers c.loop-k.last number c.loop-k.invariant.last_one;
      each = λ j s l e. elim (cases_lt j k) [
        | inl h ↦ ap (λ l. slice_get l j) c.in_ok-push.ensures.items ∙ front-at fronts _ j (its j s) (c.loop-k.invariant.each j s h e)
        | inr h ↦
            let here : j ≡ k = omega (arith, l, h) in
            let same : symbol ≡ s = same_Some _ _ (sym at ∙ ap (slice_get right) (sym here) ∙ e) in
            let value : c.if_needed.result ≡ its k symbol = c.if_needed.ensures ∙ ap (λ b. if_needed b c.origin.result) c.is_needed-needed.ensures
            ∙ ap (if_needed (test symbol.0)) (c.origin.ensures ∙ ap (source_of c.args.start) c.loop-k.invariant.last_one) in
            ap (λ l. slice_get l j) c.in_ok-push.ensures.items ∙ push-last fronts c.if_needed.result j (here ∙ sym c.loop-k.invariant.size)
            ∙ ap Some (value ∙ (λ i. its (sym here i) (same i)))
      ];
    }

pub returns-clause-each : goal.returns-clause-each
returns-clause-each c j s e =
    let test = is_in c.args.needs.now in
    let numbers = map (λ (s : Symbol). s.0) c.args.right.now in
    let within = slice_get_within c.args.right.now j s e in
    ap (λ l. slice_get l j) c.from_vec.ensures ∙ c.loop-k.invariant.each j s (omega (arith, within, c.loop-k-test.false)) e
    ∙ ap (λ l. Some (if_needed (test s.0) (source_of c.args.start (last_of l)))) (sym (places-before test 1 j (suc j) numbers (omega arith)))
