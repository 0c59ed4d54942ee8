use Rattle.std.specs.Prelude.{Contains, IsTrue, ◌↔◌}
use Rattle.std.proofs.Common.{◌≡◌, ◌∙◌, ◌<◌, ℕ, List, sym, subst}
use Rattle.lido_syntax.specs.declared.spec.Comp.{Comp}
use Rattle.lido_symbols.specs.Uses.{computations}
use Rattle.need_graphs.specs.Users.{has}
use Rattle.need_graphs.specs.Contexts.{all_contexts}
use Rattle.need_graphs.proofs.ContextLemmas.{contexts-below, contexts-are}
use Rattle.need_graphs.proofs.contexts.context_symbols.Goals as goal

pub set_of-requires : goal.set_of-requires
set_of-requires c x m =
    let forced = c.args.forced.now in
    let wanted = c.in_ok-wanted.wanted in
    let same : c.deref.result.now ≡ all_contexts wanted forced.tables.plain forced.comps =
    c.deref.ensures.value ∙ c.in_ok-found.ensures ∙ (λ i. all_contexts wanted (c.as_slice.ensures i) (c.as_slice-2.ensures i)) in
    subst (λ n. x < n) (sym c.len.ensures) (contexts-below c.requires.0 forced c.requires.1 wanted x (subst (λ (l : List ℕ). Contains l x) same m))

pub returns-clause-exactly : goal.returns-clause-exactly
returns-clause-exactly c env T are numbers test tells x =
    let forced = c.args.forced.now in
    let wanted = c.in_ok-wanted.wanted in
    let same : c.deref.result.now ≡ all_contexts wanted forced.tables.plain forced.comps =
    c.deref.ensures.value ∙ c.in_ok-found.ensures ∙ (λ i. all_contexts wanted (c.as_slice.ensures i) (c.as_slice-2.ensures i)) in
    let e = c.in_ok-set.ensures.exactly x in
    let it : (k : Comp) → Contains (computations forced.tables.spec) k → IsTrue (test k) ↔ IsTrue (has wanted k.number) =
    λ k m. let a = tells k m in let b = c.in_ok-wanted.ensures k.number in ((λ h. b.1 (a.0 h)), (λ h. a.1 (b.0 h))) in
    let u = contexts-are env forced are wanted T numbers test it x in (
      (λ h. u.0 (subst (λ (l : List ℕ). Contains l x) same (e.0 h))),
      (λ h. e.1 (subst (λ (l : List ℕ). Contains l x) (sym same) (u.1 h))),
    )
