use Rattle.std.proofs.Common.{◌∙◌, ◌≡◌, ◌<◌, ◌⊎◌, ℕ, ap, length, arith, sym, subst, List}
use Rattle.std.specs.Prelude.{All, Contains, slice_index_or}
use Rattle.std.proofs.lemmas.List.Elements.{All-contains}
use Rattle.std.proofs.lemmas.Option.{slice_get_within}
use Rattle.flat_grammar.specs.WellFormed.{IsRule}
use Rattle.induced_deps.specs.declared.graph.Place.{Place}
use Rattle.induced_deps.specs.declared.growth.Graph.{Graph}
use Rattle.induced_deps.specs.Due.{IsUser}
use Rattle.induced_deps.proofs.GrowthLemmas.{graph_at, symbols_there}
use Rattle.induced_deps.proofs.DueLemmas.{users_further, within_further, written_back}
use Rattle.induced_deps.proofs.growth.users_of.Goals as goal

pub loop-k-init : goal.loop-k-init
loop-k-init c = record { size = c.in_ok-users.ensures.size ∙ c.len.ensures; all = λ j g p below found among. absurd (omega arith); within = λ x j user. absurd (c.in_ok-users.ensures.none x j user) }

pub add_user-requires : goal.add_user-requires
add_user-requires c =
    let flat = c.args.flat.now in
    let l = c.loop-k in
    let count = c.requires.count in
    let within : l.k < length flat.rules = omega (arith, c.loop-k-test.true) in
    let (r, at, g) = graph_at flat.symbols flat.rules c.args.graphs.now c.requires l.k c.index-graphs-k.result within in
    let there = symbols_there flat.symbols flat.rules r (slice_index_or c.args.graphs.now l.k c.index-graphs-k.result).places.items (All-contains (IsRule flat.symbols) flat.rules r flat.well_formed.each_rule g.among) g.places_are in
    let same : c.deref.result.now ≡ (slice_index_or c.args.graphs.now l.k c.index-graphs-k.result).places.items = c.deref.ensures.value ∙ ap (λ (z : Graph). z.places.items) c.index-graphs-k.is in
    subst (λ (us : List (List ℕ)). All (λ (p : Place). p.symbol.0 < length us) c.deref.result.now) (sym c.deref_mut.ensures.value)
    (subst (λ (ps : List Place). All (λ (p : Place). p.symbol.0 < length l.users.items) ps) (sym same)
    (subst (λ n. All (λ (p : Place). p.symbol.0 < n) (slice_index_or c.args.graphs.now l.k c.index-graphs-k.result).places.items) (sym l.invariant.size) there))

pub loop-k-preserved : goal.loop-k-preserved
loop-k-preserved c =
    let l = c.loop-k in
    let new = c.add_user.new.users in
    let told = c.in_ok-add_user.ensures in
    let was = c.deref_mut.ensures.value in
    let places : c.deref.result.now ≡ (slice_index_or c.args.graphs.now l.k c.index-graphs-k.result).places.items = c.deref.ensures.value ∙ ap (λ (z : Graph). z.places.items) c.index-graphs-k.is in
    let kept : (x k : ℕ) → IsUser l.users.items x k → IsUser new x k = subst (λ (us : List (List ℕ)). (x k : ℕ) → IsUser us x k → IsUser new x k) was told.kept in
    let only : (x k : ℕ) → IsUser new x k → IsUser l.users.items x k ⊎ (k ≡ l.k) = subst (λ (us : List (List ℕ)). (x k : ℕ) → IsUser new x k → IsUser us x k ⊎ (k ≡ l.k)) was told.only in
    let added : (p : Place) → Contains (slice_index_or c.args.graphs.now l.k c.index-graphs-k.result).places.items p → IsUser new p.symbol.0 l.k = λ p h. told.added p (subst (λ (ps : List Place). Contains ps p) (sym places) h) in
    let same = written_back new l.users.items l.users.len (sym (told.size ∙ c.deref_mut.ensures.len)) in
    rw same (record {
      size = told.size ∙ ap length was ∙ l.invariant.size;
      all = users_further c.args.graphs.now l.k c.index-graphs-k.result l.users.items new kept c.loop-k-test.true added l.invariant.all;
      within = within_further c.args.graphs.now l.k c.index-graphs-k.result l.users.items new kept only l.invariant.within;
    })

pub returns-clause-users : goal.returns-clause-users
returns-clause-users c = record {
  all = λ k g p found among. c.loop-k.invariant.all k g p (let inside = slice_get_within c.args.graphs.now k g found in omega (arith, c.loop-k.auto.k-end, c.loop-k-test.false)) found among;
  within = λ x k user. (let below = c.loop-k.invariant.within x k user in omega (arith, c.loop-k.auto.k-end, c.loop-k-test.false));
}
