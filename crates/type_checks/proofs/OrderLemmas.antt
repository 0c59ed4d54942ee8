-- Entries stand in the order of the computations in force.
use Rattle.std.specs.Prelude.{map, nat_eq, slice_get, if◌then◌else◌}
use Rattle.std.proofs.Common.{◌≡◌, ℕ, zero, suc, ◌<◌, ◌⊎◌, inl, inr, Bool, true, false, List, [], ◌∷◌, Some, refl, ap, sym, subst, ◌∙◌, arith, eqb-true, eq-eqb}
use Rattle.std.proofs.lemmas.Option.{none-some, same_Some}
use Rattle.lido_base.specs.Environment.{Environment}
use Rattle.lido_base.specs.declared.ids.AttrId.{AttrId}
use Rattle.lido_base.proofs.Lists.{place-contains}
use Rattle.flat_grammar.specs.declared.flat.FlatAttr.{FlatAttr}
use Rattle.lido_syntax.specs.declared.spec.Typed1.{Typed1}
use Rattle.lido_syntax.specs.Production.{name_of}
use Rattle.lido_syntax.specs.Computation.{Synthesized, Inherited, Start, Behind, Output, Message}
use Rattle.lido_syntax.specs.Computation as written
use Rattle.lido_symbols.specs.FromText.{IsFromText}
use Rattle.lido_symbols.specs.Numbers.{AreNumbered, place_in}
use Rattle.lido_symbols.specs.Uses.{attribute_uses}
use Rattle.kind_clashes.specs.KindClash.{IsKindClash}
use Rattle.rule_tables.specs.declared.table.Tables.{Tables as Rows}
use Rattle.rule_tables.specs.declared.table.SymbolRow.{SymbolRow}
use Rattle.rule_tables.specs.declared.forced.Force.{Force as Entry}
use Rattle.rule_tables.specs.declared.forced.Goal.{Goal}
use Rattle.rule_tables.specs.declared.forced.Goal.TheVariants as goal
use Rattle.rule_tables.specs.PlainRules.{PlainRule, symbol_at}
use Rattle.rule_tables.specs.Forced.{Force}
use Rattle.rule_tables.specs.Needs.{Tables}
use Rattle.rule_tables.specs.ForcedOf.{IsAttributeAt, IsChainAt, IsGoalAs, IsEntryOf, IsEarlier, kind_of, number_in}
use Rattle.rule_tables.specs.InForceFaults.{goal_place}
use Rattle.rule_tables.specs.ExtraOf.{IsBeforeIn}
use Rattle.rule_tables.specs.TablesOf.{named_symbols, AreTablesOf}
use Rattle.expr_types.specs.TypeFaults.{force_place}
use Rattle.flat_laws.proofs.Lists.{pair-at, mapped-back, mapped-place}
use Rattle.leaf_types.proofs.SingleLemmas.{chain-twice}

-- the first place of a number that stands nowhere in front
first-place : (xs : List ℕ) (i x : ℕ) → slice_get xs i ≡ Some x → ((k : ℕ) → k < i → slice_get xs k ≡ Some x → ⊥) → place_in (nat_eq x) xs ≡ i
first-place [] i x e before = absurd (none-some x e)
first-place (y ∷ ys) zero x e before = ap (λ (b : Bool). if b then 0 else suc (place_in (nat_eq x) ys)) (eq-eqb x y (sym (same_Some y x e)))
first-place (y ∷ ys) (suc i) x e before = by (nat_eq x y) refl (first-place ys i x e (λ k h g. before (suc k) (omega (arith, h)) g))
  where
    by : (b : Bool) → nat_eq x y ≡ b → place_in (nat_eq x) ys ≡ i → (if b then 0 else suc (place_in (nat_eq x) ys)) ≡ suc i
    by true f later = absurd (before 0 (omega arith) (ap Some (sym (eqb-true x y f))))
    by false f later = ap suc later

-- of two lists of numbers only one comes before the other, and none before itself
pub not-both : (xs ys : List ℕ) → IsBeforeIn xs ys → IsBeforeIn ys xs → ⊥
not-both [] [] h k = h
not-both [] (y ∷ ys) h k = h
not-both (x ∷ xs) [] h k = h
not-both (x ∷ xs) (y ∷ ys) (inl h) (inl k) = absurd (omega (arith, h, k))
not-both (x ∷ xs) (y ∷ ys) (inl h) (inr k) = let e = k.0 in absurd (omega (arith, h, e))
not-both (x ∷ xs) (y ∷ ys) (inr h) (inl k) = let e = h.0 in absurd (omega (arith, k, e))
not-both (x ∷ xs) (y ∷ ys) (inr h) (inr k) = not-both xs ys h.1 k.1

module _ (t : Rows) (env texts : Environment) (is : AreTablesOf env t) (text : IsFromText t.spec) (none : (at : ℕ) → IsKindClash t.spec texts at → ⊥)
    (T : Tables t.spec) (attributes : AreNumbered nat_eq (attribute_uses t.spec) T.attributes) where
  -- a goal is of the kind of the computation's
  pub kind-same : (x : ℕ) (g : Goal) (a : written.Goal) → IsGoalAs t x g a → kind_of g ≡ (goal_place t.spec T a).0
  kind-same x (goal.Attr id) (Synthesized a) h = refl
  kind-same x (goal.Attr id) (Inherited a) h = refl
  kind-same x (goal.Start i) (Start c) h = refl
  kind-same x (goal.Behind i) (Behind c) h = refl
  kind-same x goal.Out Output h = refl
  kind-same x (goal.Message j) (Message k) h = refl
  kind-same x _ _ h = absurd h

  chain-place : (i c : ℕ) → IsChainAt t i c → place_in (nat_eq c) (map (λ (d : Typed1). name_of d.name) t.spec.chains) ≡ i
  chain-place i c (d, at, n) =
      first-place (map (λ (d : Typed1). name_of d.name) t.spec.chains) i c (mapped-place (λ (d : Typed1). name_of d.name) t.spec.chains i d at ∙ ap Some n)
      (λ k h e. let (y, there, m) = mapped-back (λ (d : Typed1). name_of d.name) t.spec.chains k c e in
      chain-twice t.spec texts text none k i y d there at (place-contains t.spec.chains k y there) (place-contains t.spec.chains i d at) h (m ∙ sym n))

  -- an attribute by its name, and what else by its number
  abbrev Shape : ℕ → Goal → written.Goal → Type 0
  Shape x g a = ((id : AttrId) × (n : ℕ) × (kind_of g ≡ 0) × (number_in g ≡ id.0) × IsAttributeAt t x id n × ((goal_place t.spec T a).1 ≡ place_in (nat_eq n) T.attributes))
      ⊎ ((kind_of g ≡ 0 → ⊥) × ((goal_place t.spec T a).1 ≡ number_in g))

  shape : (x : ℕ) (g : Goal) (a : written.Goal) → IsGoalAs t x g a → Shape x g a
  shape x (goal.Attr id) (Synthesized a) h = inl (id, a, refl, refl, h, refl)
  shape x (goal.Attr id) (Inherited a) h = inl (id, a, refl, refl, h, refl)
  shape x (goal.Start i) (Start c) h = inr ((λ e. absurd (omega (arith, e))), chain-place i c h)
  shape x (goal.Behind i) (Behind c) h = inr ((λ e. absurd (omega (arith, e))), chain-place i c h)
  shape x goal.Out Output h = inr ((λ e. absurd (omega (arith, e))), refl)
  shape x (goal.Message j) (Message k) h = inr ((λ e. absurd (omega (arith, e))), sym h)
  shape x _ _ h = absurd h

  attr-less : (x s : ℕ) → slice_get (named_symbols t) x ≡ Some s → (i k : AttrId) (a b : ℕ) → IsAttributeAt t x i a → IsAttributeAt t x k b → i.0 < k.0
      → place_in (nat_eq a) T.attributes < place_in (nat_eq b) T.attributes
  attr-less x s named i k a b (row, attr, at, there, n) (other, second, at', there', m) less =
      let same : other ≡ row = same_Some other row (sym at' ∙ at) in
      let its = is.rows x s row named at in
      let pairs = its.attrs.by_place T.attributes attributes in
      let ordered = pair-at (λ (u v : FlatAttr). place_in (nat_eq u.name.0) T.attributes < place_in (nat_eq v.name.0) T.attributes) row.attrs i.0 k.0 attr second pairs there
      (ap (λ (z : SymbolRow). slice_get z.attrs k.0) (sym same) ∙ there') less in
      subst (λ z. place_in (nat_eq z) T.attributes < place_in (nat_eq b) T.attributes) n (subst (λ z. place_in (nat_eq attr.name.0) T.attributes < place_in (nat_eq z) T.attributes) m ordered)

  number-less : (x s : ℕ) → slice_get (named_symbols t) x ≡ Some s → (g h : Goal) (a b : written.Goal) → IsGoalAs t x g a → IsGoalAs t x h b → kind_of g ≡ kind_of h → number_in g < number_in h
      → (goal_place t.spec T a).1 < (goal_place t.spec T b).1
  number-less x s named g h a b p q same less = by (shape x g a p) (shape x h b q)
    where
      by : Shape x g a → Shape x h b → (goal_place t.spec T a).1 < (goal_place t.spec T b).1
      by (inl (i, n, z, ni, at, e)) (inl (k, m, y, nk, there, f)) = let l = attr-less x s named i k n m at there (omega (arith, less, ni, nk)) in omega (arith, l, e, f)
      by (inl (i, n, z, ni, at, e)) (inr (other, f)) = absurd (other (sym same ∙ z))
      by (inr (other, e)) (inl (k, m, y, nk, there, f)) = absurd (other (same ∙ y))
      by (inr (other, e)) (inr (other', f)) = omega (arith, less, e, f)

  -- an earlier entry stands for an earlier computation in force
  pub entry-order : (i s : ℕ) (p : PlainRule) (d e : Entry) (f g : Force) (of_d : IsEntryOf t p d f) (of_e : IsEntryOf t p e g) → slice_get (named_symbols t) of_d.symbol ≡ Some s → IsEarlier d e
      → IsBeforeIn (force_place t.spec T texts i f) (force_place t.spec T texts i g)
  entry-order i s p d e f g of_d of_e named early = inr (refl, by early)
    where
      kind_d : kind_of d.goal ≡ (goal_place t.spec T f.goal).0
      kind_d = kind-same of_d.symbol d.goal f.goal of_d.goal

      kind_e : kind_of e.goal ≡ (goal_place t.spec T g.goal).0
      kind_e = kind-same of_e.symbol e.goal g.goal of_e.goal

      same-symbol : d.occ ≡ e.occ → of_e.symbol ≡ of_d.symbol
      same-symbol o = same_Some of_e.symbol of_d.symbol (sym of_e.at ∙ ap (symbol_at p) (sym o) ∙ of_d.at)

      by : IsEarlier d e → IsBeforeIn ((goal_place t.spec T f.goal).0 ∷ f.occ ∷ (goal_place t.spec T f.goal).1 ∷ []) ((goal_place t.spec T g.goal).0 ∷ g.occ ∷ (goal_place t.spec T g.goal).1 ∷ [])
      by (inl less) = inl (omega (arith, less, kind_d, kind_e))
      by (inr (same, inl less)) = let o = of_d.occ in let q = of_e.occ in inr (sym kind_d ∙ same ∙ kind_e, inl (omega (arith, less, o, q)))
      by (inr (same, inr (o, less))) =
          inr (
            sym kind_d ∙ same ∙ kind_e,
            inr (
              sym of_d.occ ∙ o ∙ of_e.occ,
              inl (number-less of_d.symbol s named d.goal e.goal f.goal g.goal of_d.goal
                  (subst (λ x. IsGoalAs t x e.goal g.goal) (same-symbol o) of_e.goal) same less),
            ),
          )

  number-same : (x : ℕ) (g : Goal) (a b : written.Goal) → IsGoalAs t x g a → IsGoalAs t x g b → (goal_place t.spec T a).1 ≡ (goal_place t.spec T b).1
  number-same x g a b p q = by (shape x g a p) (shape x g b q)
    where
      by : Shape x g a → Shape x g b → (goal_place t.spec T a).1 ≡ (goal_place t.spec T b).1
      by (inl (i, n, z, ni, (row, attr, at, there, is_n), e)) (inl (k, m, y, nk, (other, second, at', there', is_m), f)) =
          let same : other ≡ row = same_Some other row (sym at' ∙ at) in
          let one : attr ≡ second = same_Some attr second (sym there ∙ ap (slice_get row.attrs) (sym ni ∙ nk) ∙ ap (λ (z : SymbolRow). slice_get z.attrs k.0) (sym same) ∙ there') in
          e ∙ ap (λ c. place_in (nat_eq c) T.attributes) (sym is_n ∙ ap (λ (z : FlatAttr). z.name.0) one ∙ is_m) ∙ sym f
      by (inl (i, n, z, ni, at, e)) (inr (differ, f)) = absurd (differ z)
      by (inr (differ, e)) (inl (k, m, y, nk, there, f)) = absurd (differ y)
      by (inr (differ, e)) (inr (differ', f)) = e ∙ sym f

  -- computations for which one entry stands come none before the other
  pub entry-same : (p : PlainRule) (e : Entry) (f g : Force) → IsEntryOf t p e f → IsEntryOf t p e g
      → IsBeforeIn ((goal_place t.spec T g.goal).0 ∷ g.occ ∷ (goal_place t.spec T g.goal).1 ∷ []) ((goal_place t.spec T f.goal).0 ∷ f.occ ∷ (goal_place t.spec T f.goal).1 ∷ []) → ⊥
  entry-same p e f g of_f of_g early = by early
    where
      symbol : of_g.symbol ≡ of_f.symbol
      symbol = same_Some of_g.symbol of_f.symbol (sym of_g.at ∙ of_f.at)

      kinds : (goal_place t.spec T g.goal).0 ≡ (goal_place t.spec T f.goal).0
      kinds = sym (kind-same of_g.symbol e.goal g.goal of_g.goal) ∙ kind-same of_f.symbol e.goal f.goal of_f.goal

      numbers : (goal_place t.spec T g.goal).1 ≡ (goal_place t.spec T f.goal).1
      numbers = number-same of_f.symbol e.goal g.goal f.goal (subst (λ x. IsGoalAs t x e.goal g.goal) symbol of_g.goal) of_f.goal

      occs : g.occ ≡ f.occ
      occs = sym of_g.occ ∙ of_f.occ

      by : IsBeforeIn ((goal_place t.spec T g.goal).0 ∷ g.occ ∷ (goal_place t.spec T g.goal).1 ∷ []) ((goal_place t.spec T f.goal).0 ∷ f.occ ∷ (goal_place t.spec T f.goal).1 ∷ []) → ⊥
      by (inl h) = let k = kinds in absurd (omega (arith, h, k))
      by (inr (e, inl h)) = let k = occs in absurd (omega (arith, h, k))
      by (inr (e, inr (o, inl h))) = let k = numbers in absurd (omega (arith, h, k))
      by (inr (e, inr (o, inr (n, h)))) = h
