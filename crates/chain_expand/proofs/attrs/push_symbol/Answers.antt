use Rattle.std.proofs.Common.{◌≡◌, ◌∙◌, [], Bool, List, ap, sym, append-nil, get_or}
use Rattle.lido_base.specs.declared.kinds.Kind.TheVariants as kind
use Rattle.rule_tables.specs.declared.extra.ExtraAttr.{ExtraAttr}
use Rattle.rule_tables.specs.declared.extra.Slot.TheVariants as named
use Rattle.lido_base.specs.declared.value.ValueType.TheVariants as type
use Rattle.lido_syntax.specs.declared.spec.Typed1.{Typed1}
use Rattle.least_paths.specs.Graph.{is_in}
use Rattle.chain_expand.specs.Attrs.{needs_at, chain_attrs}
use Rattle.need_graphs.proofs.ListLemmas.{numbered-more}
use Rattle.chain_expand.proofs.AttrLemmas.{two, two-pushed, chain-then, chain-else}
use Rattle.chain_expand.proofs.attrs.push_symbol.Goals as goal
use Rattle.chain_expand.proofs.attrs.push_symbol.Goals.{then-is_needed+in_ok-push+in_ok-push-2, else-is_needed}

pub loop-i-preserved : goal.loop-i-preserved
loop-i-preserved c =
    let x = c.args.symbol in
    let i = c.loop-i.i in
    let needs = c.args.needs.now in
    let none : Typed1 = record { name = record { at = 0; id = record { 0 = 0 } }; ty = type.Int } in
    let d = get_or c.args.chains.now i none in
    let front : ExtraAttr = record { sym = record { 0 = x }; slot = named.Front i; kind = kind.Inherited; ty = d.ty } in
    let behind : ExtraAttr = record { sym = record { 0 = x }; slot = named.Behind i; kind = kind.Synthesized; ty = d.ty } in
    let tested : c.is_needed.result ≡ is_in (needs_at needs i) x = c.is_needed.ensures ∙ ap (λ (r : List Bool). is_in r x) c.needs_at.ensures in
    elim c.if-is_needed.branch [
      | then-is_needed+in_ok-push+in_ok-push-2 w ↦ ap (λ v. v.items) w.attrs-is
          ∙ numbered-more (chain_attrs needs x) c.args.chains.now i none c.args.attrs.now.items c.loop-i.attrs.items _ (two x (i, d))
          c.loop-i-test.true c.loop-i.invariant
          (two-pushed front behind c.loop-i.attrs.items w.push.new.self.items _ w.in_ok-push.ensures.items w.in_ok-push-2.ensures.items)
          (chain-then needs x (i, d) (sym tested ∙ w.if-is_needed.true))
      | else-is_needed w ↦ ap (λ v. v.items) w.attrs-is
          ∙ numbered-more (chain_attrs needs x) c.args.chains.now i none c.args.attrs.now.items c.loop-i.attrs.items c.loop-i.attrs.items []
          c.loop-i-test.true c.loop-i.invariant (sym (append-nil c.loop-i.attrs.items)) (chain-else needs x (i, d) (sym tested ∙ w.if-is_needed.false))
    ]
