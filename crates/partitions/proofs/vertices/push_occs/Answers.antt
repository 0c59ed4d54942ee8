use Rattle.std.proofs.Common.{refl, ◌∙◌, ap, length, length-append, List, arith}
use Rattle.flat_grammar.specs.declared.flat.Occ.{Occ}
use Rattle.flat_grammar.specs.declared.flat.FlatAttr.{FlatAttr}
use Rattle.partitions.proofs.VerticesLemmas.{vertex-push, next-occurrence}
use Rattle.partitions.proofs.vertices.push_occs.Goals as goal

pub loop-a-preserved : goal.loop-a-preserved
loop-a-preserved c = record {
  before = vertex-push c.args.flat.now.symbols c.args.rule.now c.args.flat.now.rules c.args.k c.loop-a.a (length c.args.occs.now.items) c.loop-a.occs.items c.push.new.self.items c.args.starts.now c.symbol_of-x.result _ c.loop-a.invariant.before
      c.symbol_of-x.ensures (omega (arith, c.loop-a-test.true, ap (λ (xs : List FlatAttr). length xs) c.attributes-a-end.ensures.all)) c.requires.start c.loop-a.invariant.count refl refl c.in_ok-push.ensures.items;
  count = ap (λ (xs : List Occ). length xs) c.in_ok-push.ensures.items ∙ omega (arith, length-append {A = Occ}, c.loop-a.invariant.count);
}

pub returns-clause-before : goal.returns-clause-before
returns-clause-before c = next-occurrence c.args.flat.now.symbols c.args.rule.now c.args.flat.now.rules c.args.k c.loop-a.a c.loop-a.occs.items c.args.starts.now c.symbol_of-x.result c.loop-a.invariant.before c.symbol_of-x.ensures
    (omega (arith, c.loop-a-test.false, ap (λ (xs : List FlatAttr). length xs) c.attributes-a-end.ensures.all))
