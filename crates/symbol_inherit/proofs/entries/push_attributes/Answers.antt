use Rattle.std.proofs.Common.{arith, false, get_or}
use Rattle.std.proofs.lemmas.Option.{slice_get-get_or}
use Rattle.lido_base.specs.declared.kinds.Kind.TheVariants as kind
use Rattle.lido_base.specs.declared.value.ValueType.TheVariants as type
use Rattle.flat_grammar.specs.declared.flat.FlatAttr.{FlatAttr}
use Rattle.symbol_inherit.proofs.EntryLemmas.{next-occ}
use Rattle.symbol_inherit.proofs.FilledLemmas.{attribute-there, past-attributes}
use Rattle.symbol_inherit.proofs.entries.push_attributes.Goals as goal

some-attribute : FlatAttr
some-attribute = record { name = record { 0 = 0 }; kind = kind.Synthesized; ty = type.Int; written = false; message = false }

pub loop-id-preserved : goal.loop-id-preserved
unfolding some-attribute
loop-id-preserved c = λ env t p r s known own occurs of up.
    c.in_ok-push_attribute.ensures env t p r s known own occurs
    (attribute-there t c.args.x c.args.attrs.now of c.loop-id.id (get_or c.args.attrs.now c.loop-id.id some-attribute) (slice_get-get_or c.args.attrs.now c.loop-id.id some-attribute c.loop-id-test.true))
    (c.loop-id.invariant env t p r s known own occurs of up)

pub returns : goal.returns
returns c = λ env t p r s known own occurs of up.
    next-occ t p 0 c.args.occ c.loop-id.id c.loop-id.entries.items (c.loop-id.invariant env t p r s known own occurs of up)
    (λ d is k q l. past-attributes t p r known.single c.args.occ s c.args.x occurs c.args.attrs.now of d is k q (let e = c.loop-id-test.false in omega arith))
