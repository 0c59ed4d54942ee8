-- The symbols that have the attribute of a CONSTITUENTS are those of the definition.
use Rattle.std.specs.Prelude.{Contains, IsTrue, slice_get, ◌↔◌, ◌&&◌, not, map, nat_eq, if◌then◌else◌}
use Rattle.std.specs.List.{list_any}
use Rattle.std.proofs.Common.{◌≡◌, ◌∙◌, ℕ, ◌<◌, inl, inr, Bool, true, false, List, length, get_or, Some, refl, sym, ap, subst, arith, eqb-true, eq-eqb}
use Rattle.std.proofs.lemmas.Bool.{cases_lt}
use Rattle.std.proofs.lemmas.List.{get_or-map, length-map}
use Rattle.std.proofs.lemmas.List.Elements.{All-contains}
use Rattle.std.proofs.lemmas.Option.{same_Some, slice_get_within, slice_get-get_or}
use Rattle.lido_base.specs.Tree.{contains}
use Rattle.lido_base.specs.Reach.{Reaches}
use Rattle.lido_base.proofs.Lists.{contains-map, map-contains, contains-place}
use Rattle.lido_syntax.specs.declared.spec.Spec.{Spec}
use Rattle.lido_syntax.specs.declared.spec.Comp.{Comp}
use Rattle.lido_syntax.specs.declared.spec.Cons.{Cons}
use Rattle.lido_syntax.specs.declared.spec.Expr.{Expr, Constituents}
use Rattle.lido_syntax.specs.Parts.{leaves_of}
use Rattle.lido_symbols.specs.FromText.{IsFromText}
use Rattle.lido_symbols.specs.Numbers.{AreNumbered}
use Rattle.lido_symbols.specs.Uses.{computations, all_constituents, is_same_constituents}
use Rattle.least_paths.specs.Graph.{has_edge, is_in}
use Rattle.least_paths.proofs.AgreeLemmas.{agree-Reaches}
use Rattle.need_graphs.specs.Users.{TellComputations}
use Rattle.need_graphs.proofs.ListLemmas.{same-bool}
use Rattle.need_graphs.proofs.EdgeLemmas.{found-any}
use Rattle.rule_tables.proofs.NeedsLemmas.{any-found}
use Rattle.rule_tables.specs.declared.table.Tables.{Tables}
use Rattle.rule_tables.specs.PlainRules.{PlainRule, is_child, plain_rules}
use Rattle.rule_tables.specs.Needs.{Tables as Numbered, Needs, is_constituents, uses_constituents, shield_at, source_at}
use Rattle.rule_tables.specs.TablesOf.{named_symbols}
use Rattle.constituents_expand.specs.Reach.{IsChildOf, up_edge, down_edge}
use Rattle.constituents_expand.specs.Uses.{Standing, text_uses}
use Rattle.constituents_expand.specs.Gatherings.{IsChildGraph}
use Rattle.constituents_expand.proofs.UseLemmas.{number, numbered, numbers-differ, text-same}
use Rattle.constituents_expand.proofs.FaultLemmas.{found-in, leaf-found, and-both, both-and}

-- Of a text that was read, a number tells the CONSTITUENTS.
module _ (spec : Spec) (from : IsFromText spec) where
  abbrev uses : List Standing
  uses = text_uses spec

  apart : (i j : ℕ) (a b : Standing) → slice_get uses i ≡ Some a → slice_get uses j ≡ Some b → i < j → number a ≡ number b → ⊥
  apart i j a b ea eb less same =
      let within = slice_get_within uses j b eb in
      let earlier = slice_get_within uses i a ea in
      let inside : j < length (map number uses) = omega (arith, length-map uses number) in
      let first = get_or-map number uses i a (number a) earlier in
      let second = get_or-map number uses j b (number a) within in
      let one : get_or uses i a ≡ a = same_Some _ _ (sym (slice_get-get_or uses i a earlier) ∙ ea) in
      let other : get_or uses j b ≡ b = same_Some _ _ (sym (slice_get-get_or uses j b within) ∙ eb) in
      numbers-differ spec from i j (number a) less inside (first ∙ ap number one ∙ same ∙ sym (second ∙ ap number other))

  pub one-use : (u v : Standing) → Contains uses u → Contains uses v → number u ≡ number v → u ≡ v
  one-use u v m n same =
      let (i, ei) = contains-place uses u m in
      let (j, ej) = contains-place uses v n in
      elim (cases_lt i j) [
        | inl lt ↦ absurd (apart i j u v ei ej lt same)
        | inr ge ↦ elim (cases_lt j i) [
          | inl lt ↦ absurd (apart j i v u ej ei lt (sym same))
          | inr le ↦ (let e : i ≡ j = omega (arith, ge, le) in same_Some _ _ (sym ei ∙ ap (slice_get uses) e ∙ ej))
        ]
      ]

  module _ (T : Numbered spec) (are : AreNumbered is_same_constituents (all_constituents spec) T.constituents) where
    pub of-tables : (k : Cons) → Contains T.constituents k → (u : Standing) × Contains uses u × (u.constituents ≡ k)
    of-tables k m =
        let (at, there) = All-contains (λ (l : Cons). (at : ℕ) × Contains (all_constituents spec) (at, l)) T.constituents k are.named m in
        let (u, among, e) = contains-map numbered uses (at, k) (subst (λ l. Contains l (at, k)) (sym (text-same spec)) there) in
        (u, among, ap (λ (x : ℕ × Cons). x.1) e)

    pub in-tables : (u : Standing) → Contains uses u → Contains T.constituents u.constituents
    in-tables u m =
        let there = subst (λ l. Contains l (numbered u)) (text-same spec) (map-contains numbered uses u m) in
        let (l, ml, same) = are.all u.constituents.number u.constituents there in
        let (v, mv, e) = of-tables l ml in
        let n : number u ≡ number v = eqb-true u.constituents.number l.number same ∙ ap (λ (k : Cons). k.number) (sym e) in
        subst (Contains T.constituents) (sym (ap (λ (w : Standing). w.constituents) (one-use u v m mv n) ∙ e)) ml

  -- it stands in the computations of its number alone
  module _ (T : Numbered spec) (tell : TellComputations spec) (u : Standing) (m : Contains uses u) where
    leaf-of : (e : Expr) → IsTrue (is_constituents spec T u.constituents e) → (k : Cons) × (e ≡ Constituents k) × (u.constituents.number ≡ k.number)
    leaf-of (Constituents k) h = (k, refl, eqb-true u.constituents.number k.number h)
    leaf-of _ h = absurd (cc)

    pub alone : (c : Comp) → Contains (computations spec) c → IsTrue (list_any (is_constituents spec T u.constituents) (leaves_of c)) ↔ (u.comp ≡ c.number)
    alone c among = (
      (λ h. let (e, of, b) = any-found (is_constituents spec T u.constituents) (leaves_of c) h in
          let (k, is, same) = leaf-of e b in
          let (valued, there) = leaf-found spec c k among (subst (Contains (leaves_of c)) is of) in
          ap (λ (w : Standing). w.comp) (one-use u (record { comp = c.number; valued = valued; constituents = k }) m there same)),
      (λ e. let f = found-in spec u m in
          let same : f.comp ≡ c = tell f.comp c f.of_text among (sym f.number ∙ e) in
          found-any (is_constituents spec T u.constituents) (leaves_of c) (Constituents u.constituents) (subst (λ (d : Comp). Contains (leaves_of d) (Constituents u.constituents)) same f.leaf)
          (eq-eqb u.constituents.number u.constituents.number refl)),
    )

pub of-if : (a b : Bool) → IsTrue (if a then b else false) → IsTrue a × IsTrue b
of-if true b h = (refl, h)
of-if false b h = absurd (cc)

if-of : (a b : Bool) → IsTrue a → IsTrue b → IsTrue (if a then b else false)
if-of a b p q = ap (λ c. if c then b else false) p ∙ q

module _ (t : Tables) (T : Numbered t.spec) (same : T.symbols ≡ named_symbols t) (needs : Needs t.spec T) (k : Cons) (graph : List (List ℕ)) (its : IsChildGraph t graph) where
  abbrev rules : List PlainRule
  rules = plain_rules t.spec T.symbols

  edge-same : (x y : ℕ) → has_edge graph x y ≡ is_child rules x y
  edge-same x y =
      let e = its.edges x y in
      same-bool (has_edge graph x y) (is_child (plain_rules t.spec (named_symbols t)) x y) e.0 e.1 ∙ ap (λ s. is_child (plain_rules t.spec s) x y) (sym same)

  abbrev begins : ℕ → Bool
  begins y = list_any (λ p. contains y p.right && uses_constituents t.spec T k p.left) rules

  module _ (users : List Bool) (using : (x : ℕ) → IsTrue (is_in users x) ↔ IsTrue (uses_constituents t.spec T k x)) (starts : List Bool) (begun : (y : ℕ) → IsTrue (is_in starts y) ↔ IsChildOf graph users y) where
    begin-to : (y : ℕ) → IsTrue (is_in starts y) → IsTrue (begins y)
    begin-to y h =
        let (x, e, m) = (begun y).0 h in
        let (p, among, b) = any-found (λ (p : PlainRule). if nat_eq p.left x then contains y p.right else false) rules (sym (edge-same x y) ∙ e) in
        let (left, right) = of-if (nat_eq p.left x) (contains y p.right) b in
        found-any (λ (p : PlainRule). contains y p.right && uses_constituents t.spec T k p.left) rules p among
        (both-and (contains y p.right) (uses_constituents t.spec T k p.left) right (subst (λ z. IsTrue (uses_constituents t.spec T k z)) (sym (eqb-true p.left x left)) ((using x).0 m)))

    begin-from : (y : ℕ) → IsTrue (begins y) → IsTrue (is_in starts y)
    begin-from y h =
        let (p, among, b) = any-found (λ (p : PlainRule). contains y p.right && uses_constituents t.spec T k p.left) rules h in
        let (right, m) = and-both (contains y p.right) (uses_constituents t.spec T k p.left) b in
        let child = found-any (λ (q : PlainRule). if nat_eq q.left p.left then contains y q.right else false) rules p among (if-of (nat_eq p.left p.left) (contains y p.right) (eq-eqb p.left p.left refl) right) in
        (begun y).1 (p.left, edge-same p.left y ∙ child, (using p.left).1 m)

    module _ (shields : List Bool) (shielded : (x : ℕ) → is_in shields x ≡ shield_at t.spec T k x) where
      pub wanted-same : (wants : List Bool) → ((y : ℕ) → IsTrue (is_in wants y) ↔ Reaches (is_in starts) (up_edge graph shields) y) → (y : ℕ) → is_in wants y ≡ needs.wanted k y
      wanted-same wants is y =
          let edge : (v x : ℕ) → up_edge graph shields v x ≡ (is_child rules x v && not (shield_at t.spec T k x)) = λ v x i. edge-same x v i && not (shielded x i) in
          let step : ℕ → ℕ → Bool = λ v x. is_child rules x v && not (shield_at t.spec T k x) in
          let f = needs.wanted_exactly k y in
          same-bool (is_in wants y) (needs.wanted k y)
          (λ h. f.1 (agree-Reaches (is_in starts) begins (up_edge graph shields) step begin-to (λ v x e. sym (edge v x) ∙ e) y ((is y).0 h)))
          (λ h. (is y).1 (agree-Reaches begins (is_in starts) step (up_edge graph shields) begin-from (λ v x e. edge v x ∙ e) y (f.0 h)))

  pub reach-same : (ends shields reach : List Bool) → ((x : ℕ) → is_in ends x ≡ source_at t.spec T k x) → ((x : ℕ) → is_in shields x ≡ shield_at t.spec T k x)
      → ((x : ℕ) → IsTrue (is_in reach x) ↔ Reaches (is_in ends) (down_edge graph shields) x) → (x : ℕ) → is_in reach x ≡ needs.reaches k x
  reach-same ends shields reach sources shielded is x =
      let edge : (u v : ℕ) → down_edge graph shields u v ≡ (not (shield_at t.spec T k u) && is_child rules u v) = λ u v i. not (shielded u i) && edge-same u v i in
      let step : ℕ → ℕ → Bool = λ u v. not (shield_at t.spec T k u) && is_child rules u v in
      let f = needs.reaches_exactly k x in
      same-bool (is_in reach x) (needs.reaches k x)
      (λ h. f.1 (agree-Reaches (is_in ends) (source_at t.spec T k) (down_edge graph shields) step (λ u m. sym (sources u) ∙ m) (λ u v e. sym (edge u v) ∙ e) x ((is x).0 h)))
      (λ h. (is x).1 (agree-Reaches (source_at t.spec T k) (is_in ends) step (down_edge graph shields) (λ u m. sources u ∙ m) (λ u v e. edge u v ∙ e) x (f.0 h)))
