use Rattle.std.proofs.Common.{sym, subst, List}
use Rattle.lido_base.specs.declared.ids.AttrId.{AttrId}
use Rattle.flat_grammar.specs.Partition.{IsClass}
use Rattle.std.specs.Prelude.{◌*◌, ◌+◌}
use Rattle.partitions.proofs.ClassesLemmas.{visit-is}
use Rattle.partitions.proofs.classes.visit_of.Goals as goal

pub returns : goal.returns
returns c = λ symbols rules x j are. let both = visit-is symbols rules x c.args.levels c.without.result c.without-2.result c.in_ok-synthesized.synthesized.items c.in_ok-inherited.inherited.items
    c.without.ensures c.in_ok-synthesized.ensures.same c.in_ok-synthesized.ensures.ascending c.without-2.ensures c.in_ok-inherited.ensures.same c.in_ok-inherited.ensures.ascending j are in (
      subst (λ (xs : List AttrId). IsClass symbols rules x (2 * j) xs) (sym c.from_vec-2.ensures) both.0,
      subst (λ (xs : List AttrId). IsClass symbols rules x (2 * j + 1) xs) (sym c.from_vec.ensures) both.1,
    )
