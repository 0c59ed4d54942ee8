use Rattle.std.proofs.Common.{◌∙◌, [], ◌∷◌, List, ℕ, sym, ap, subst}
use Rattle.std.specs.Prelude.{Contains, IsTrue, Bool, ◌↔◌}
use Rattle.lido_base.specs.Reach.{IsFirstOf}
use Rattle.least_paths.specs.Graph.{is_in, has_edge}
use Rattle.least_paths.specs.Cycle.{IsFrom}
use Rattle.least_paths.proofs.CycleLemmas.{starts-are, sources-are, cycle-from, no-cycle-from}
use Rattle.least_paths.proofs.cycle.cycle_at.Goals as goal

pub set_of-requires : goal.set_of-requires
set_of-requires c = λ x m. c.requires.graph c.args.s x (subst (λ (r : List ℕ). Contains r x) c.row.ensures m)

pub returns-in-None : goal.returns-in-None
returns-in-None c =
    no-cycle-from (has_edge c.args.next.now) c.args.s (is_in c.deref.result.now) (is_in c.deref-2.result.now)
    (starts-are c.args.next.now c.row.result.now c.deref.result.now c.args.s c.row.ensures (subst (λ (set : List Bool). (x : ℕ) → IsTrue (is_in set x) ↔ Contains c.row.result.now x) (sym c.deref.ensures.value) c.in_ok-starts.ensures.exactly))
    (sources-are c.deref-2.result.now c.args.s (subst (λ (set : List Bool). (x : ℕ) → IsTrue (is_in set x) ↔ Contains (c.args.s ∷ []) x) (sym c.deref-2.ensures.value) c.in_ok-sources.ensures.exactly))
    (rw c.in-None.is at c.in_ok-least_path.ensures.none)

pub returns : goal.returns
returns c =
    subst (λ (xs : List ℕ). IsFirstOf (IsFrom (has_edge c.args.next.now) c.args.s) xs) (sym (c.in_ok-begun_at-in-Some.ensures ∙ ap (λ (xs : List ℕ). c.args.s ∷ xs) c.deref-in-Some.ensures.value))
    (cycle-from (has_edge c.args.next.now) c.args.s (is_in c.deref.result.now) (is_in c.deref-2.result.now)
    (starts-are c.args.next.now c.row.result.now c.deref.result.now c.args.s c.row.ensures (subst (λ (set : List Bool). (x : ℕ) → IsTrue (is_in set x) ↔ Contains c.row.result.now x) (sym c.deref.ensures.value) c.in_ok-starts.ensures.exactly))
    (sources-are c.deref-2.result.now c.args.s (subst (λ (set : List Bool). (x : ℕ) → IsTrue (is_in set x) ↔ Contains (c.args.s ∷ []) x) (sym c.deref-2.ensures.value) c.in_ok-sources.ensures.exactly))
    c.in-Some.path.items
    (rw c.in-Some.is at c.in_ok-least_path.ensures.least))
