use Rattle.std.specs.Prelude.{IsTrue, Contains, ◌↔◌, ◌&&◌, map, zip}
use Rattle.std.specs.List.{list_any}
use Rattle.std.proofs.Common.{◌≡◌, ◌∙◌, ℕ, Bool, List, [], ◌∷◌, ap, sym, subst}
use Rattle.lido_base.specs.Reach.{Reaches}
use Rattle.lido_base.proofs.Lists.{contains-here}
use Rattle.lido_syntax.specs.declared.spec.Comp.{Comp}
use Rattle.lido_syntax.specs.Parts.{leaves_of}
use Rattle.lido_symbols.specs.Uses.{computations}
use Rattle.least_paths.specs.Graph.{is_in}
use Rattle.least_paths.proofs.GraphLemmas.{one}
use Rattle.rule_tables.specs.Needs.{is_constituents, uses_constituents, source_at}
use Rattle.constituents_expand.specs.Reach.{IsChildOf, up_edge, down_edge}
use Rattle.constituents_expand.proofs.ReachLemmas.{both-in}
use Rattle.constituents_expand.proofs.GatherLemmas.{wanted-same, reach-same}
use Rattle.constituents_expand.proofs.gatherings.bearers.Goals as goal

pub returns : goal.returns
returns c env T needs k are numbers alone sources shielded x =
    let t = c.args.forced.now.tables in
    let graph = c.args.graph.now in
    let its = c.requires.graph in
    let shields = c.args.shields.now in
    let comp = c.args.comp in
    let users = c.in_ok-users.users.items in
    let starts = c.in_ok-starts.starts.items in
    let wants = c.in_ok-wants.wants.items in
    let ends = c.in_ok-ends.ends.items in
    let reach = c.in_ok-reach.reach.items in
    let test : Comp → Bool = λ d. list_any (is_constituents t.spec T k) (leaves_of d) in
    let told : (d : Comp) → Contains (computations t.spec) d → IsTrue (test d) ↔ Contains (comp ∷ []) d.number =
    λ d m. ((λ h. subst (Contains (comp ∷ [])) ((alone d m).0 h) (contains-here comp [])), (λ n. (alone d m).1 (one comp d.number n))) in
    let using : (y : ℕ) → IsTrue (is_in users y) ↔ IsTrue (uses_constituents t.spec T k y) = c.in_ok-users.ensures.exactly env T are numbers test told in
    let begun : (y : ℕ) → IsTrue (is_in starts y) ↔ IsChildOf graph users y = subst (λ (l : List Bool). (y : ℕ) → IsTrue (is_in starts y) ↔ IsChildOf graph l y) c.deref.ensures.value c.in_ok-starts.ensures.exactly in
    let want : (y : ℕ) → IsTrue (is_in wants y) ↔ Reaches (is_in starts) (up_edge graph shields) y =
    subst (λ (l : List Bool). (y : ℕ) → IsTrue (is_in wants y) ↔ Reaches (is_in l) (up_edge graph shields) y) c.deref-2.ensures.value c.in_ok-wants.ensures.exactly in
    let can : (y : ℕ) → IsTrue (is_in reach y) ↔ Reaches (is_in ends) (down_edge graph shields) y =
    subst (λ (l : List Bool). (y : ℕ) → IsTrue (is_in reach y) ↔ Reaches (is_in l) (down_edge graph shields) y) c.deref-3.ensures.value c.in_ok-reach.ensures.exactly in
    let ending : (y : ℕ) → is_in ends y ≡ source_at t.spec T k y = λ y. ap (λ (l : List Bool). is_in l y) c.in_ok-ends.ensures ∙ sources y in
    let first = wanted-same t T numbers.symbols needs k graph its users using starts begun shields shielded wants want x in
    let second = reach-same t T numbers.symbols needs k graph its ends shields reach ending shielded can x in
    let a = c.in_ok-wants.ensures.count in
    let b = c.in_ok-reach.ensures.count in
    let whole : c.in_ok-both.field-0.items ≡ map (λ (p : Bool × Bool). p.0 && p.1) (zip wants reach) =
    c.in_ok-both.ensures ∙ (λ i. map (λ (p : Bool × Bool). p.0 && p.1) (zip (c.deref-4.ensures.value i) (c.deref-5.ensures.value i))) in
    ap (λ (l : List Bool). is_in l x) whole ∙ both-in wants reach (a ∙ sym b) x ∙ (λ i. first i && second i)
