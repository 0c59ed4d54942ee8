use Rattle.std.proofs.Common.{◌≡◌, ◌+◌, suc, ◌∷◌, ◌++◌, [], take, ◌∙◌, ap, sym, subst, length, length-append, List, ℕ, Some, arith}
use Rattle.std.specs.Prelude.{slice_get, sum_by}
use Rattle.std.proofs.lemmas.List.{take_all}
use Rattle.lido_base.specs.declared.ids.SymId.{SymId}
use Rattle.flat_grammar.specs.Rules.{symbols_of, attrs_of}
use Rattle.partitions.specs.RuleGraph.{AreVerticesBefore}
use Rattle.partitions.proofs.PeelingLemmas.{get-below}
use Rattle.partitions.proofs.SearchLemmas.{push-new}
use Rattle.partitions.proofs.EdgesLemmas.{sum-take}
use Rattle.partitions.proofs.VerticesLemmas.{start-push}
use Rattle.partitions.proofs.vertices.vertices_of.Goals as goal

pub push_occs-requires-clause-before : goal.push_occs-requires-clause-before
push_occs-requires-clause-before c = start-push c.args.flat.now.symbols c.args.rule.now c.loop-k.k c.len.result c.loop-k.occs.items c.loop-k.starts.items c.deref.result.now c.loop-k.invariant.before (omega (arith, c.len.ensures, c.loop-k.occs.ok.0)) (c.deref.ensures.value ∙ c.in_ok-push.ensures.items)

pub push_occs-requires-clause-start : goal.push_occs-requires-clause-start
push_occs-requires-clause-start c =
    let e : c.loop-k.k ≡ length c.loop-k.starts.items = sym c.loop-k.invariant.each in
    let n : c.len.result ≡ length c.loop-k.occs.items = omega (arith, c.len.ensures, c.loop-k.occs.ok.0) in
    ap (λ (xs : List ℕ). slice_get xs c.loop-k.k) (c.deref.ensures.value ∙ c.in_ok-push.ensures.items) ∙ ap (λ i. slice_get (c.loop-k.starts.items ++ (c.len.result ∷ [])) i) e ∙ push-new c.loop-k.starts.items c.len.result ∙ ap Some n

pub loop-k-preserved : goal.loop-k-preserved
loop-k-preserved c =
    let symbols = c.args.flat.now.symbols in
    let got = get-below (symbols_of c.args.rule.now) c.loop-k.k (omega arith) in
    let next : c.loop-k.k + 1 ≡ suc c.loop-k.k = omega arith in
    record {
      before = subst (λ (xs : List ℕ). AreVerticesBefore symbols c.args.rule.now (c.loop-k.k + 1) 0 c.push_occs.new.occs.items xs) c.deref.ensures.value c.in_ok-push_occs.ensures.before;
      each = ap (λ (xs : List ℕ). length xs) c.in_ok-push.ensures.items ∙ omega (arith, length-append {A = ℕ}, c.loop-k.invariant.each);
      count = omega (
        arith,
        c.in_ok-push_occs.ensures.count got.0 got.1,
        c.loop-k.invariant.count,
        sum-take (λ (s : SymId). length (attrs_of symbols s)) (symbols_of c.args.rule.now) c.loop-k.k got.0 got.1,
        ap (λ n. sum_by (λ (s : SymId). length (attrs_of symbols s)) (take n (symbols_of c.args.rule.now))) next,
      );
    }

pub returns : goal.returns
returns c =
    let symbols = c.args.flat.now.symbols in
    let all : c.loop-k.k ≡ length (symbols_of c.args.rule.now) = omega arith in
    record {
      vertices = subst (λ k. AreVerticesBefore symbols c.args.rule.now k 0 c.loop-k.occs.items c.loop-k.starts.items) all c.loop-k.invariant.before;
      each = omega (arith, c.loop-k.invariant.each);
      few = omega (arith, c.loop-k.invariant.count, c.requires.few, ap (sum_by (λ (s : SymId). length (attrs_of symbols s))) (take_all c.loop-k.k (symbols_of c.args.rule.now) (omega arith)));
    }
