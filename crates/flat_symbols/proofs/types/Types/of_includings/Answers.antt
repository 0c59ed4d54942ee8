use Rattle.std.proofs.Common.{◌∙◌, ◌+◌, refl, sym, subst, take, get_or}
use Rattle.std.specs.Prelude.{filter_map}
use Rattle.lido_base.specs.declared.kinds.Kind.TheVariants as kind
use Rattle.lido_base.specs.declared.value.ValueType.TheVariants as type
use Rattle.rule_tables.specs.declared.extra.ExtraAttr.{ExtraAttr}
use Rattle.rule_tables.specs.declared.extra.Slot.TheVariants as added
use Rattle.flat_symbols.specs.Types.{set_type, AreTypesOf}
use Rattle.flat_symbols.proofs.TypeLemmas.{no-types, types-kept, types-more}
use Rattle.flat_symbols.proofs.types.Types.of_includings.Goals as goal
use Rattle.flat_symbols.proofs.types.Types.of_includings.Goals.{in-Some+in_ok-set, in_default}

pub loop-attr-init : goal.loop-attr-init
loop-attr-init c = no-types _ c.new-types.ensures

pub loop-attr-preserved : goal.loop-attr-preserved
loop-attr-preserved c =
    let xs = c.args.attrs.now in
    let i = c.loop-attr.attr-index in
    let none : ExtraAttr = record { sym = record { 0 = 0 }; slot = added.Written (record { 0 = 0 }); kind = kind.Synthesized; ty = type.Int } in
    let x = get_or xs i none in
    elim c.match-of_set.branch [
      | in-Some+in_ok-set w ↦ subst (AreTypesOf (filter_map set_type (take (i + 1) xs))) (sym w.types-is)
          (types-more set_type xs i x none c.loop-attr-test.true refl _ _
          (sym w.in-Some.ensures) c.loop-attr.types w.set.new.self w.in_ok-set.ensures c.loop-attr.invariant)
      | in_default w ↦ subst (AreTypesOf (filter_map set_type (take (i + 1) xs))) (sym w.types-is)
          (types-kept set_type xs i x none c.loop-attr-test.true refl (sym c.of_set.ensures ∙ w.in_default.is) c.loop-attr.types c.loop-attr.invariant)
    ]
