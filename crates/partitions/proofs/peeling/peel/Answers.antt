use Rattle.std.proofs.Common.{◌≡◌, ◌<◌, ℕ, ◌+◌, ◌≤◌, ◌-◌, ◌∙◌, ap, sym, subst, arith, [], ◌∷◌, ◌++◌, vec_len}
use Rattle.std.specs.Prelude.{◌*◌, ◌^◌, IsBitSet, true, false}
use Rattle.partitions.specs.Peeling.{ArePeeled}
use Rattle.partitions.proofs.PeelingLemmas.{last-levels, fewest-step, nothing-peeled, next-level, levels-push, small-set, attributes-few}
use Rattle.partitions.proofs.peeling.peel.Goals as goal

pub loop-x-init : goal.loop-x-init
loop-x-init c =
    let symbols = c.args.flat.now.symbols in
    let rules = c.args.flat.now.rules in
    let x = c.args.x in
    let levels = c.with_visit-last.result in
    let are = c.with_visit-last.ensures.levels 0 (subst (λ set. ArePeeled symbols rules x (2 * 0) set) (sym c.empty.ensures) (nothing-peeled symbols rules x)) in
    let len : vec_len c.push.new.self ≡ 0 + 1 = omega (arith, c.in_ok-push.ensures.len, c.new-all.ensures.len) in
    record {
      each = levels-push symbols rules x [] c.push.new.self.items 0 levels (λ j l e. absurd (cc)) (omega arith) are (c.in_ok-push.ensures.items ∙ ap (λ xs. xs ++ (levels ∷ [])) c.new-all.ensures.items);
      peeled = subst (λ set. ArePeeled symbols rules x (2 * vec_len c.push.new.self) set) (sym c.peeled_with-peeled.ensures) (subst (λ n. ArePeeled symbols rules x (2 * n) levels.both) (sym len) (next-level symbols rules x 0 levels.both are.both));
      fewest = λ k a b all. absurd (omega (arith, a, b, len));
      one = omega (arith, len);
    }

pub returns-then-adds_nothing-clause-last : goal.returns-then-adds_nothing-clause-last
returns-then-adds_nothing-clause-last c = last-levels c.args.flat.now.symbols c.args.flat.now.rules c.args.x (vec_len c.loop-x.all) c.with_visit-visit.result
    (c.with_visit-visit.ensures.levels (vec_len c.loop-x.all) c.loop-x.invariant.peeled) (c.adds_nothing.ensures.0 c.if-adds_nothing.true)

pub loop-x-preserved : goal.loop-x-preserved
loop-x-preserved c =
    let symbols = c.args.flat.now.symbols in
    let rules = c.args.flat.now.rules in
    let x = c.args.x in
    let n = vec_len c.loop-x.all in
    let levels = c.with_visit-visit.result in
    let are = c.with_visit-visit.ensures.levels n c.loop-x.invariant.peeled in
    let len : vec_len c.push-in-loop-x.new.self ≡ n + 1 = omega (arith, c.in_ok-push-2.ensures.len) in
    record {
      each = levels-push symbols rules x c.loop-x.all.items c.push-in-loop-x.new.self.items n levels c.loop-x.invariant.each (omega (arith, c.loop-x.all.ok.0)) are c.in_ok-push-2.ensures.items;
      peeled = subst (λ set. ArePeeled symbols rules x (2 * vec_len c.push-in-loop-x.new.self) set) (sym c.peeled_with-peeled-in-loop-x.ensures)
          (subst (λ m. ArePeeled symbols rules x (2 * m) levels.both) (sym len) (next-level symbols rules x n levels.both are.both));
      fewest = fewest-step symbols rules x n (vec_len c.push-in-loop-x.new.self) levels are (λ h. let e : true ≡ false = sym (c.adds_nothing.ensures.1 h) ∙ c.if-adds_nothing.false in absurd (cc)) len c.loop-x.invariant.fewest;
      one = omega (arith, len);
    }

smaller : (top old later both new : ℕ) → later ≡ old → later ≤ both → (both ≡ later → ⊥) → new ≡ both → both < top → top - new < top - old
smaller top old later both new e f g h i = omega arith

pub loop-x-smaller : goal.loop-x-smaller
loop-x-smaller c =
    let symbols = c.args.flat.now.symbols in
    let rules = c.args.flat.now.rules in
    let n = vec_len c.loop-x.all in
    let levels = c.with_visit-visit.result in
    let are = c.with_visit-visit.ensures.levels n c.loop-x.invariant.peeled in
    smaller (2 ^ 256) c.loop-x.peeled levels.later levels.both c.peeled_with-peeled-in-loop-x.result c.with_visit-visit.ensures.later
    (let same = c.with_visit-visit.ensures.later in let grows = c.with_visit-visit.ensures.grows in omega (arith, same, grows))
    (λ same. let e : true ≡ false = sym (c.adds_nothing.ensures.1 (λ j bit. subst (λ set. IsBitSet set j) same bit)) ∙ c.if-adds_nothing.false in absurd (cc))
    c.peeled_with-peeled-in-loop-x.ensures (small-set symbols rules c.args.x (attributes-few symbols c.args.x c.args.flat.now.well_formed.few_attributes) (2 * n + 2) levels.both are.both)
