use Rattle.std.proofs.Common.{◌≡◌, List, length, ap, sym, subst, arith, ◌≤◌, ◌<◌}
use Rattle.std.specs.Prelude.{◌*◌, vec_len}
use Rattle.flat_grammar.specs.Partition.{PeelsAll, AreVisits}
use Rattle.partitions.specs.declared.peeling.Levels.{Levels}
use Rattle.partitions.specs.Peeling.{AreAllLevels}
use Rattle.partitions.proofs.symbols.partition_symbol.Goals as goal

pub returns-clause-visits : goal.returns-clause-visits
returns-clause-visits c = λ peeled.
    let symbols = c.args.flat.now.symbols in
    let rules = c.args.flat.now.rules in
    let x = c.args.x in
    let all = c.in_ok-all.all in
    let count : length c.in_ok-visits.visits ≡ vec_len all = omega (arith, c.in_ok-visits.ensures.count, ap (λ (xs : List Levels). length xs) c.deref-2.ensures.value, all.ok.0) in
    let are : AreVisits symbols rules x c.in_ok-visits.visits = record {
      classes = c.in_ok-visits.ensures.classes symbols rules x (subst (λ (xs : List Levels). AreAllLevels symbols rules x xs) (sym c.deref-2.ensures.value) c.in_ok-all.ensures.each);
      all = subst (λ n. PeelsAll symbols rules x (2 * n)) (sym count) (λ a some. let h = peeled a some in c.in_ok-all.ensures.last h.0 a h.1);
      fewest = λ k h positive. subst (λ n. n ≤ k) (sym count) (c.in_ok-all.ensures.fewest k h positive);
      one = subst (λ n. 0 < n) (sym count) c.in_ok-all.ensures.one;
    } in
    ((λ n. are), (λ n. let e = c.is_nonterminal.ensures in let f = c.if-not-is_nonterminal.false in absurd (cc)))
