use Rattle.std.proofs.Common.{◌≡◌, ◌<◌, ◌-◌, ℕ, suc, sym, subst, ◌∙◌, ap, arith, length, get_or, take, sum}
use Rattle.std.specs.Prelude.{replicate}
use Rattle.std.proofs.lemmas.List.{get_or-replicate, length-replicate}
use Rattle.lido_base.specs.Tree.{children}
use Rattle.subtree_split.specs.SplitNodes.{subtree_size}
use Rattle.subtree_split.proofs.SizesLemmas.{from_on, size_whole, size_none, step_fits, step_total, step_counted, total_first}
use Rattle.subtree_split.proofs.sizes.subtree_sizes.Goals as goal

pub loop-n-init : goal.loop-n-init
loop-n-init c =
    let t = c.args.tree.now in
    let all = c.in_ok-sizes.ensures ∙ ap (λ n. replicate n 1) c.len.ensures.count in
    record {
      count = omega (arith, ap length all, length-replicate {A = ℕ} (length t) 1, c.in_ok-sizes.sizes.ok.0);
      total = ap (λ n. sum (take n c.in_ok-sizes.sizes.items)) c.len-n.ensures.count ∙ ap (λ xs. sum (take (length t) xs)) all ∙ total_first (length t);
      counted = λ m h. ap (λ xs. get_or xs m 0) all ∙ get_or-replicate (length t) m 1 0 h ∙ sym (size_none t c.requires c.len-n.result m (omega (arith, c.len-n.ensures.count)));
    }

pub overflow_add-index_mut : goal.overflow_add-index_mut
overflow_add-index_mut c =
    let t = c.args.tree.now in
    let sizes = c.loop-n.sizes.items in
    let k = c.loop-n.n - 1 in
    let e : c.loop-n.n ≡ suc k = omega arith in
    let fits = step_fits t c.requires k c.in-Some.parent.0 (omega arith) (sym c.in-Some.ensures.parent) sizes (omega (arith, c.loop-n.invariant.count, c.loop-n.sizes.ok.0))
    (subst (λ z. (m : ℕ) → m < length t → get_or sizes m 0 ≡ suc (from_on (subtree_size t) z (children t m))) e c.loop-n.invariant.counted)
    (subst (λ z. sum (take z sizes) ≡ length t) e c.loop-n.invariant.total)
    c.index_mut.result.now c.index.result.now c.index_mut.ensures.value c.index.ensures in
    omega (arith, fits, c.len.ensures.count, c.len.type_inv)

pub loop-n-preserved-in-Some : goal.loop-n-preserved-in-Some
loop-n-preserved-in-Some c =
    let t = c.args.tree.now in
    let sizes = c.loop-n.sizes.items in
    let k = c.loop-n.n - 1 in
    let e : c.loop-n.n ≡ suc k = omega arith in
    let inside : k < length t = omega arith in
    let count : length sizes ≡ length t = omega (arith, c.loop-n.invariant.count, c.loop-n.sizes.ok.0) in
    let counted = subst (λ z. (m : ℕ) → m < length t → get_or sizes m 0 ≡ suc (from_on (subtree_size t) z (children t m))) e c.loop-n.invariant.counted in
    let total = subst (λ z. sum (take z sizes) ≡ length t) e c.loop-n.invariant.total in
    record {
      count = c.loop-n.invariant.count;
      total = step_total t c.requires k c.in-Some.parent.0 inside (sym c.in-Some.ensures.parent) sizes count counted total c.index_mut.result.now c.index.result.now c.index_mut.ensures.value c.index.ensures;
      counted = step_counted t c.requires k c.in-Some.parent.0 inside (sym c.in-Some.ensures.parent) sizes count counted total c.index_mut.result.now c.index.result.now c.index_mut.ensures.value c.index.ensures;
    }

pub returns-clause-sizes : goal.returns-clause-sizes
returns-clause-sizes c = λ m h. c.loop-n.invariant.counted m h ∙ size_whole c.args.tree.now c.requires c.loop-n.n m (omega arith) h
