use Rattle.std.proofs.Common.{◌∙◌, None, get_or, option_map, ap, sym, append-nil}
use Rattle.lido_base.specs.declared.kinds.Kind.TheVariants as kind
use Rattle.lido_base.specs.declared.value.ValueType.TheVariants as type
use Rattle.rule_tables.specs.declared.extra.ExtraAttr.{ExtraAttr}
use Rattle.rule_tables.specs.declared.extra.Slot.TheVariants as added
use Rattle.need_graphs.proofs.ListLemmas.{filtered-next}
use Rattle.flat_slots.specs.Entries.{entry, extra_entry}
use Rattle.flat_slots.proofs.entries.push_extra.Goals as goal
use Rattle.flat_slots.proofs.entries.push_extra.Goals.{in-Some+in_ok-push, in_default}

pub loop-attr-preserved : goal.loop-attr-preserved
loop-attr-preserved c =
    let none : ExtraAttr = record { sym = record { 0 = 0 }; slot = added.Written (record { 0 = 0 }); kind = kind.Synthesized; ty = type.Int } in
    let x = (get_or c.args.attrs.now c.loop-attr.attr-index none).sym.0 in
    let chains = c.args.chains.now in
    elim c.match-named.branch [
      | in-Some+in_ok-push w ↦ ap (λ v. v.items) w.entries-is
          ∙ filtered-next (extra_entry chains) c.args.attrs.now c.loop-attr.attr-index none _ c.args.entries.now.items c.loop-attr.entries.items _
          c.loop-attr-test.true (ap (option_map (entry x)) (sym w.in-Some.ensures)) c.loop-attr.invariant w.in_ok-push.ensures.items
      | in_default w ↦ ap (λ v. v.items) w.entries-is
          ∙ filtered-next (extra_entry chains) c.args.attrs.now c.loop-attr.attr-index none None c.args.entries.now.items c.loop-attr.entries.items c.loop-attr.entries.items
          c.loop-attr-test.true (ap (option_map (entry x)) (sym c.named.ensures ∙ w.in_default.is)) c.loop-attr.invariant (sym (append-nil c.loop-attr.entries.items))
    ]
