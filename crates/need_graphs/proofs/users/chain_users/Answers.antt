use Rattle.std.specs.Prelude.{Contains}
use Rattle.std.proofs.Common.{◌≡◌, ◌∙◌, ◌<◌, ℕ, List, sym, subst}
use Rattle.need_graphs.specs.Users.{all_users}
use Rattle.need_graphs.proofs.UserLemmas.{users-below, users-are}
use Rattle.need_graphs.proofs.users.chain_users.Goals as goal

pub set_of-requires : goal.set_of-requires
set_of-requires c x m =
    let forced = c.args.forced.now in
    let chain = c.args.chain.0 in
    let readers = c.in_ok-readers.readers in
    let same : c.deref.result.now ≡ all_users forced.tables.spec.chains chain readers forced.tables.plain forced.comps =
    c.deref.ensures.value ∙ c.in_ok-found.ensures ∙ (λ i. all_users (c.as_slice.ensures i) chain readers (c.as_slice-2.ensures i) (c.as_slice-3.ensures i)) in
    subst (λ n. x < n) (sym c.len.ensures) (users-below c.requires.0 forced c.requires.1 chain readers x (subst (λ (l : List ℕ). Contains l x) same m))

pub returns-clause-exactly : goal.returns-clause-exactly
returns-clause-exactly c env T are numbers tell x =
    let forced = c.args.forced.now in
    let chain = c.args.chain.0 in
    let readers = c.in_ok-readers.readers in
    let same : c.deref.result.now ≡ all_users forced.tables.spec.chains chain readers forced.tables.plain forced.comps =
    c.deref.ensures.value ∙ c.in_ok-found.ensures ∙ (λ i. all_users (c.as_slice.ensures i) chain readers (c.as_slice-2.ensures i) (c.as_slice-3.ensures i)) in
    let e = c.in_ok-set.ensures.exactly x in
    let u = users-are env forced are chain readers c.in_ok-readers.ensures tell T numbers x in (
      (λ h. u.0 (subst (λ (l : List ℕ). Contains l x) same (e.0 h))),
      (λ h. e.1 (subst (λ (l : List ℕ). Contains l x) (sym same) (u.1 h))),
    )
