use Rattle.std.proofs.lemmas.Option.{slice_get-get_or}
use Rattle.symbol_attributes.proofs.OrderLemmas.{first-next, are-attributes}
use Rattle.symbol_attributes.proofs.written.attributes_in_order.Goals as goal

pub loop-name-preserved : goal.loop-name-preserved
loop-name-preserved c = λ spec s facts are. first-next spec s c.args.names.now c.loop-name.name-index _ c.attribute_of.result c.loop-name.attrs.items c.push_attribute.new.attrs.items
    (slice_get-get_or _ _ 0 c.loop-name-test.true) (c.attribute_of.ensures spec s facts are (c.in_ok-known.ensures facts.list facts.tables_of.rows)) c.in_ok-push_attribute.ensures (c.loop-name.invariant spec s facts are)

pub returns : goal.returns
returns c = λ spec s facts are numbered. are-attributes spec s c.args.names.now c.loop-name.name-index c.loop-name.attrs.items c.loop-name-test.false numbered (c.loop-name.invariant spec s facts are)
