use Rattle.std.specs.Prelude.{filter}
use Rattle.std.proofs.Common.{◌+◌, ◌∙◌, ap, sym, length, refl, List, [], ◌∷◌, ◌++◌, take, length-append}
use Rattle.std.proofs.lemmas.List.{take_more, take_all}
use Rattle.std.proofs.lemmas.List.Elements.{filter-append}
use Rattle.lido_syntax.specs.declared.spec.Comp.{Comp}
use Rattle.lido_syntax.specs.Computation.{is_message}
use Rattle.symbol_inherit.proofs.MessageLemmas.{message-there, messages-begin, messages-end}
use Rattle.symbol_inherit.proofs.entries.push_messages.Goals as goal

pub loop-comp-init : goal.loop-comp-init
loop-comp-init c = record {
  count = refl;
  filled = λ t p r s x single occurs of up. messages-begin t p r s x single occurs c.args.entries.now.items up;
}

pub loop-comp-preserved : goal.loop-comp-preserved
loop-comp-preserved c = record {
  count =
      let more = ap (λ (l : List Comp). length (filter is_message l)) (take_more c.args.body.now c.loop-comp.comp-index c.comp-item.result c.loop-comp-test.true
      ∙ ap (λ (x : Comp). take c.loop-comp.comp-index c.args.body.now ++ x ∷ []) (sym c.comp-item.is)) in
      let split = ap (λ (l : List Comp). length l) (filter-append is_message (take c.loop-comp.comp-index c.args.body.now) (c.comp-item.result ∷ [])) in
      let long = length-append (filter is_message (take c.loop-comp.comp-index c.args.body.now)) (filter is_message (c.comp-item.result ∷ [])) in
      let new = c.in_ok-count.ensures.count in
      let before = c.loop-comp.invariant.count in
      new ∙ ap (λ n. n + length (filter is_message (c.comp-item.result ∷ []))) before ∙ sym (more ∙ split ∙ long);
  filled = λ t p r s x single occurs of up.
      c.in_ok-count.ensures.entries t p r s x single occurs
      (λ e. message-there r c.args.body.now of c.loop-comp.comp-index c.loop-comp.count c.comp-item.result c.loop-comp-test.true c.comp-item.is c.loop-comp.invariant.count e)
      (c.loop-comp.invariant.filled t p r s x single occurs of up);
}

pub returns : goal.returns
returns c = λ t p r s x single occurs of up.
    messages-end t p r s x single occurs c.args.body.now of c.loop-comp.count
    (c.loop-comp.invariant.count ∙ ap (λ (l : List Comp). length (filter is_message l)) (take_all c.loop-comp.comp-index c.args.body.now c.loop-comp-test.false))
    c.loop-comp.entries.items (c.loop-comp.invariant.filled t p r s x single occurs of up)
