use Rattle.std.proofs.Common.{◌∙◌, arith, sym, false, get_or, true≢false}
use Rattle.std.proofs.lemmas.Option.{slice_get-get_or}
use Rattle.lido_base.specs.declared.kinds.Kind.TheVariants as kind
use Rattle.lido_base.specs.declared.value.ValueType.TheVariants as type
use Rattle.flat_grammar.specs.declared.flat.FlatAttr.{FlatAttr}
use Rattle.rule_tables.specs.InForceFaults.{IsMissing}
use Rattle.symbol_inherit.proofs.ClashLemmas.{none-more}
use Rattle.symbol_inherit.proofs.AttributeLemmas.{written-at}
use Rattle.symbol_inherit.proofs.MissingLemmas.{none-missing, first-missing}
use Rattle.symbol_inherit.proofs.missing.missing_right.Goals as goal

abbrev some-attribute : FlatAttr
some-attribute = record { name = record { 0 = 0 }; kind = kind.Synthesized; ty = type.Int; written = false; message = false }

pub loop-attr-preserved : goal.loop-attr-preserved
loop-attr-preserved c = λ env t T r i k s known own place occ of.
    let here : FlatAttr = get_or c.args.attrs.now c.loop-attr.attr-index some-attribute in
    let is = written-at env t known.tables c.args.x s place.number c.args.attrs.now of c.loop-attr.attr-index here (slice_get-get_or c.args.attrs.now c.loop-attr.attr-index some-attribute c.loop-attr-test.true) in
    none-more (λ (a : FlatAttr). IsMissing t.spec T i c.args.occ a.name.0) c.args.attrs.now c.loop-attr.attr-index some-attribute (c.loop-attr.invariant env t T r i k s known own place occ of)
    (λ m. true≢false (sym ((c.is_missing_right.ensures env t T r i k s known own place occ is).1 m) ∙ c.if-is_missing_right.false))

pub returns-then-is_missing_right : goal.returns-then-is_missing_right
returns-then-is_missing_right c = λ env t T r i k s known numbers own place occ of.
    let here : FlatAttr = get_or c.args.attrs.now c.loop-attr.attr-index some-attribute in
    let there = slice_get-get_or c.args.attrs.now c.loop-attr.attr-index some-attribute c.loop-attr-test.true in
    let is = written-at env t known.tables c.args.x s place.number c.args.attrs.now of c.loop-attr.attr-index here there in
    first-missing env t c.args.symbols.now known T r i s c.args.x numbers c.args.occ place c.args.attrs.now of c.loop-attr.attr-index here there (c.loop-attr.invariant env t T r i k s known own place occ of)
    ((c.is_missing_right.ensures env t T r i k s known own place occ is).0 c.if-is_missing_right.true)

pub returns : goal.returns
returns c = λ env t T r i k s known numbers own place occ of.
    none-missing env t c.args.symbols.now known T r i s c.args.x numbers c.args.occ place c.args.attrs.now of
    (λ j attr l e. c.loop-attr.invariant env t T r i k s known own place occ of j attr (let f = c.loop-attr-test.false in omega arith) e)
