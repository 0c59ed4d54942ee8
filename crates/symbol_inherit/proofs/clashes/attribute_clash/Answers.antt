use Rattle.std.proofs.Common.{arith, subst, Some, false, get_or}
use Rattle.std.proofs.lemmas.Option.{slice_get-get_or}
use Rattle.lido_base.specs.declared.kinds.Kind.TheVariants as kind
use Rattle.lido_base.specs.declared.value.ValueType.TheVariants as type
use Rattle.flat_grammar.specs.declared.flat.FlatAttr.{FlatAttr}
use Rattle.computation_aims.specs.Aims.{goal_of}
use Rattle.computation_aims.specs.declared.aims.Aim.{Aim}
use Rattle.symbol_inherit.specs.Clashes.{kind_aim, AreTwoLeft, IsClashFor}
use Rattle.symbol_inherit.proofs.ClashLemmas.{none-more, attributes-none, attribute-found}
use Rattle.symbol_inherit.proofs.clashes.attribute_clash.Goals as goal

abbrev some-attribute : FlatAttr
some-attribute = record { name = record { 0 = 0 }; kind = kind.Synthesized; ty = type.Int; written = false; message = false }

pub loop-attr-preserved : goal.loop-attr-preserved
loop-attr-preserved c = λ env t T s known at.
    none-more (λ (a : FlatAttr). AreTwoLeft t.spec T s (goal_of (kind_aim a.kind a.name))) c.args.attrs.now c.loop-attr.attr-index some-attribute
    (c.loop-attr.invariant env t T s known at)
    (subst (λ (a : Aim). ¬ AreTwoLeft t.spec T s (goal_of a)) c.kind_aim-aim.ensures (subst (λ o. IsClashFor t.spec T s c.kind_aim-aim.result o) c.in_default.is (c.clash_of.ensures env t T s known at)))

pub returns-in-Some : goal.returns-in-Some
returns-in-Some c = λ env t T s known numbers at nonterminal of.
    attribute-found env t c.args.symbols.now known T c.args.x s at nonterminal numbers c.args.attrs.now of c.loop-attr.attr-index (get_or c.args.attrs.now c.loop-attr.attr-index some-attribute)
    (slice_get-get_or c.args.attrs.now c.loop-attr.attr-index some-attribute c.loop-attr-test.true) (c.loop-attr.invariant env t T s known at) c.in-Some.clash
    (subst (λ (a : Aim). IsClashFor t.spec T s a (Some c.in-Some.clash)) c.kind_aim-aim.ensures (c.in-Some.ensures env t T s known at))

pub returns : goal.returns
returns c = λ env t T s known numbers at nonterminal of.
    attributes-none env t c.args.symbols.now known T c.args.x s at nonterminal numbers c.args.attrs.now of
    (λ j attr l e. c.loop-attr.invariant env t T s known at j attr (let f = c.loop-attr-test.false in omega arith) e)
