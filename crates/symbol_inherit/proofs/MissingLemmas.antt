-- What is missing is found in the order of rules, occurrences and attributes.
use Rattle.std.specs.Prelude.{Bool, IsTrue, true, false, not, is_some, nat_eq, slice_get}
use Rattle.std.proofs.Common.{◌≡◌, ℕ, zero, suc, ◌+◌, ◌<◌, ◌≤◌, ◌⊎◌, inl, inr, ◌↔◌, arith, List, length, Option, Some, None, refl, sym, ap, ◌∙◌, subst, true≢false}
use Rattle.std.proofs.lemmas.Option.{same_Some, slice_get_within}
use Rattle.std.proofs.lemmas.Bool.{cases_lt}
use Rattle.lido_base.specs.Environment.{Environment}
use Rattle.lido_base.specs.declared.ids.StrId.{StrId}
use Rattle.lido_base.specs.declared.kinds.Kind.TheVariants as kind
use Rattle.flat_grammar.specs.declared.flat.FlatAttr.{FlatAttr}
use Rattle.lido_syntax.specs.declared.fault.SpecFault.{SpecFault}
use Rattle.lido_syntax.specs.declared.spec.RuleItem.{RuleItem}
use Rattle.lido_syntax.specs.Production.{left_of, right_of}
use Rattle.lido_syntax.specs.Symbols.{IsRoot}
use Rattle.lido_syntax.specs.Attributes.{Has, HasKind}
use Rattle.lido_syntax.specs.Computation.{Synthesized, Inherited, IsGoalAt, HasComputation}
use Rattle.lido_symbols.specs.Numbers.{place_in}
use Rattle.computation_aims.specs.Aims.{goal_of}
use Rattle.computation_aims.specs.declared.aims.Aim.{Aim}
use Rattle.rule_tables.specs.declared.table.Tables.{Tables}
use Rattle.rule_tables.specs.Needs.{Tables as Numbered}
use Rattle.symbol_attributes.specs.Written.{IsWrittenAttribute}
use Rattle.rule_tables.specs.InForceFaults.{IsBefore, IsMissing, left, right, root, IsMissingComputation}
use Rattle.symbol_inherit.specs.Forces.{IsResolved, IsHeld}
use Rattle.symbol_inherit.specs.Rules.{HasRuleAt}
use Rattle.symbol_inherit.specs.Entries.{attrs_at, attribute_aim, AreKnown}
use Rattle.symbol_inherit.specs.Places.{IsPlaceIn}
use Rattle.symbol_inherit.specs.Clashes.{AreNumbersIn}
use Rattle.symbol_inherit.specs.Missing.{IsFirstMissing, IsMissingFrom, missing_fault}
use Rattle.symbol_inherit.specs.declared.forced.Held.{Held}
use Rattle.symbol_inherit.specs.declared.index.Index.{Index}
use Rattle.symbol_inherit.specs.declared.symbols.Symbols.{Symbols}
use Rattle.symbol_inherit.specs.declared.missing.MissingAt.{MissingAt}
use Rattle.symbol_inherit.proofs.ForceLemmas.{resolved-held}
use Rattle.symbol_inherit.proofs.FilledLemmas.{some-numbers}
use Rattle.symbol_inherit.proofs.KindLemmas.{one-kind}
use Rattle.symbol_inherit.proofs.AttributeLemmas.{attribute-in, in-order}

goal-at : (o : ℕ) (name : StrId) → IsGoalAt o (goal_of (attribute_aim o name))
goal-at zero name = tt
goal-at (suc o) name = tt

module _ (t : Tables) (T : Numbered t.spec) (i : ℕ) where
  -- what is missing at the left side and at the right side
  pub record AtLeft (a : ℕ) (q : RuleItem) : Type 0 where
    pub of_rule : slice_get t.spec.rules i ≡ Some q
    pub has : Has t.spec (left_of q) a
    pub by_kind : (HasKind t.spec (left_of q) a kind.Synthesized × ¬ HasComputation t.spec q 0 (left_of q) (Synthesized a)) ⊎ (IsRoot t.spec (left_of q) × HasKind t.spec (left_of q) a kind.Inherited)

  pub record AtRight (k a : ℕ) (q : RuleItem) : Type 0 where
    pub of_rule : slice_get t.spec.rules i ≡ Some q
    pub z : ℕ
    pub at : slice_get (right_of q) k ≡ Some z
    pub has : Has t.spec z a
    pub of_kind : HasKind t.spec z a kind.Inherited
    pub none : ¬ HasComputation t.spec q (suc k) z (Inherited a)

  at-left : (a : ℕ) → IsMissing t.spec T i zero a → (q : RuleItem) × AtLeft a q
  at-left a (left q _ of has of_kind none) = (q, record { of_rule = of; has = has; by_kind = inl (of_kind, none) })
  at-left a (root q _ of is_root has of_kind) = (q, record { of_rule = of; has = has; by_kind = inr (is_root, of_kind) })

  at-right : (k a : ℕ) → IsMissing t.spec T i (suc k) a → (q : RuleItem) × AtRight k a q
  at-right k a (right q _ z _ of at has of_kind none) = (q, record { of_rule = of; z = z; at = at; has = has; of_kind = of_kind; none = none })

  -- what is missing is of a rule
  pub missing-rule : (o a : ℕ) → IsMissing t.spec T i o a → (q : RuleItem) × (slice_get t.spec.rules i ≡ Some q)
  missing-rule zero a m = let h = at-left a m in (h.0, h.1.of_rule)
  missing-rule (suc k) a m = let h = at-right k a m in (h.0, h.1.of_rule)

  module _ (r : RuleItem) (of : slice_get t.spec.rules i ≡ Some r) where
    -- and its occurrence is one of it
    pub missing-within : (k a : ℕ) → IsMissing t.spec T i (suc k) a → (z : ℕ) × (slice_get (right_of r) k ≡ Some z)
    missing-within k a m =
        let (q, h) = at-right k a m in
        (h.z, ap (λ (r : RuleItem). slice_get (right_of r) k) (same_Some r q (sym of ∙ h.of_rule)) ∙ h.at)

    -- at the left side
    module _ (s : ℕ) (its : s ≡ left_of r) (a : ℕ) where
      left-known : IsMissing t.spec T i zero a → Has t.spec s a
          × ((HasKind t.spec s a kind.Synthesized × ¬ HasComputation t.spec r 0 s (Synthesized a)) ⊎ (IsRoot t.spec (left_of r) × HasKind t.spec s a kind.Inherited))
      left-known m =
          let (q, h) = at-left a m in
          let rule : q ≡ r = same_Some q r (sym h.of_rule ∙ of) in
          let symbol : left_of q ≡ s = ap left_of rule ∙ sym its in (
            subst (λ z. Has t.spec z a) symbol h.has,
            elim h.by_kind [
              | inl (k, none) ↦ inl (
                subst (λ z. HasKind t.spec z a kind.Synthesized) symbol k,
                subst (λ (q : RuleItem). ¬ HasComputation t.spec q 0 s (Synthesized a)) rule (subst (λ z. ¬ HasComputation t.spec q 0 z (Synthesized a)) symbol none),
              )
              | inr (is_root, k) ↦ inr (subst (λ (q : RuleItem). IsRoot t.spec (left_of q)) rule is_root, subst (λ z. HasKind t.spec z a kind.Inherited) symbol k)
            ],
          )

      left-missing : Has t.spec s a → HasKind t.spec s a kind.Synthesized → ¬ HasComputation t.spec r 0 s (Synthesized a) → IsMissing t.spec T i 0 a
      left-missing has k none = left r a of (subst (λ z. Has t.spec z a) its has) (subst (λ z. HasKind t.spec z a kind.Synthesized) its k) (subst (λ z. ¬ HasComputation t.spec r 0 z (Synthesized a)) its none)

      root-missing : Has t.spec s a → HasKind t.spec s a kind.Inherited → IsRoot t.spec (left_of r) → IsMissing t.spec T i 0 a
      root-missing has k is_root = root r a of is_root (subst (λ z. Has t.spec z a) its has) (subst (λ z. HasKind t.spec z a kind.Inherited) its k)

    -- at the right side
    module _ (k s : ℕ) (its : slice_get (right_of r) k ≡ Some s) (a : ℕ) where
      right-known : IsMissing t.spec T i (suc k) a → Has t.spec s a × HasKind t.spec s a kind.Inherited × ¬ HasComputation t.spec r (suc k) s (Inherited a)
      right-known m =
          let (q, h) = at-right k a m in
          let rule : q ≡ r = same_Some q r (sym h.of_rule ∙ of) in
          let symbol : h.z ≡ s = same_Some h.z s (sym h.at ∙ ap (λ (r : RuleItem). slice_get (right_of r) k) rule ∙ its) in (
            subst (λ z. Has t.spec z a) symbol h.has,
            subst (λ z. HasKind t.spec z a kind.Inherited) symbol h.of_kind,
            subst (λ (q : RuleItem). ¬ HasComputation t.spec q (suc k) s (Inherited a)) rule (subst (λ z. ¬ HasComputation t.spec q (suc k) z (Inherited a)) symbol h.none),
          )

      right-missing : Has t.spec s a → HasKind t.spec s a kind.Inherited → ¬ HasComputation t.spec r (suc k) s (Inherited a) → IsMissing t.spec T i (suc k) a
      right-missing has of_kind none = right r k s a of its has of_kind none

module _ (env : Environment) (t : Tables) (symbols : Symbols) (known : AreKnown env t symbols) where
  module _ (r : RuleItem) (i o s x : ℕ) (place : IsPlaceIn t r i o s x) (rule : Index) (own : HasRuleAt t.spec r o rule) (name : StrId) where
    pub lacking : (held : Option Held) → IsResolved rule symbols.classes symbols.index symbols.count x o (attribute_aim o name) held → IsHeld t.spec r o s (goal_of (attribute_aim o name)) held
    lacking held resolved = resolved-held t env known.tables known.single symbols.classes known.symbols.heirs symbols.index known.symbols.owns symbols.count known.symbols.count x s place.number
        (attribute_aim o name) (some-numbers t) r rule o own (place.stands, goal-at o name) held resolved

    lacking-by : (held : Option Held) → IsHeld t.spec r o s (goal_of (attribute_aim o name)) held → (b : Bool) → is_some held ≡ not b → IsTrue b ↔ ¬ HasComputation t.spec r o s (goal_of (attribute_aim o name))
    lacking-by None none true e = (λ h. none, λ h. refl)
    lacking-by None none false e = cc
    lacking-by (Some held) (h, c, force, context, number) true e = cc
    lacking-by (Some held) (h, c, force, context, number) false e = (λ e. absurd (true≢false (sym e)), λ none. absurd (none (h, c, force)))

    pub lacking-test : (aim : Aim) → aim ≡ attribute_aim o name → (held : Option Held) → IsResolved rule symbols.classes symbols.index symbols.count x o aim held → (b : Bool) → is_some held ≡ not b
        → IsTrue b ↔ ¬ HasComputation t.spec r o s (goal_of (attribute_aim o name))
    lacking-test aim a held resolved b e = lacking-by held (lacking held (subst (λ a. IsResolved rule symbols.classes symbols.index symbols.count x o a held) a resolved)) b e

  module _ (T : Numbered t.spec) (r : RuleItem) (i s x : ℕ) where
    module _ (attr : FlatAttr) (is : IsWrittenAttribute t.spec s attr) where
      synthesized : attr.kind ≡ kind.Synthesized → HasKind t.spec s attr.name.0 kind.Synthesized
      synthesized e = subst (λ k. HasKind t.spec s attr.name.0 k) e is.kind

      inherited : attr.kind ≡ kind.Inherited → HasKind t.spec s attr.name.0 kind.Inherited
      inherited e = subst (λ k. HasKind t.spec s attr.name.0 k) e is.kind

      not-both : HasKind t.spec s attr.name.0 kind.Synthesized → HasKind t.spec s attr.name.0 kind.Inherited → ⊥
      not-both h k = let e = one-kind t.spec known.kinds.0 known.kinds.1 s attr.name.0 kind.Synthesized kind.Inherited h k in cc

      pub left-synthesized : IsPlaceIn t r i 0 s x → attr.kind ≡ kind.Synthesized → ¬ HasComputation t.spec r 0 s (Synthesized attr.name.0) ↔ IsMissing t.spec T i 0 attr.name.0
      left-synthesized place e = (
        left-missing t T i r place.of_rule s place.written attr.name.0 is.of_symbol (synthesized e),
        λ m. elim (left-known t T i r place.of_rule s place.written attr.name.0 m).1 [ inl (k, none) ↦ none | inr (is_root, k) ↦ absurd (not-both (synthesized e) k) ],
      )

      pub left-inherited : IsPlaceIn t r i 0 s x → attr.kind ≡ kind.Inherited → IsRoot t.spec (left_of r) ↔ IsMissing t.spec T i 0 attr.name.0
      left-inherited place e = (
        root-missing t T i r place.of_rule s place.written attr.name.0 is.of_symbol (inherited e),
        λ m. elim (left-known t T i r place.of_rule s place.written attr.name.0 m).1 [ inl (k, none) ↦ absurd (not-both k (inherited e)) | inr (is_root, k) ↦ is_root ],
      )

      pub right-synthesized : (o k : ℕ) → IsPlaceIn t r i o s x → o ≡ suc k → attr.kind ≡ kind.Synthesized → ¬ IsMissing t.spec T i o attr.name.0
      right-synthesized zero k place c e m = absurd (omega arith)
      right-synthesized (suc o) k place c e m = not-both (synthesized e) (right-known t T i r place.of_rule o s place.written attr.name.0 m).1

      pub right-inherited : (o k : ℕ) → IsPlaceIn t r i o s x → o ≡ suc k → attr.kind ≡ kind.Inherited
          → ¬ HasComputation t.spec r o s (goal_of (attribute_aim o attr.name)) ↔ IsMissing t.spec T i o attr.name.0
      right-inherited zero k place c e = absurd (omega arith)
      right-inherited (suc o) k place c e = (
        right-missing t T i r place.of_rule o s place.written attr.name.0 is.of_symbol (inherited e),
        λ m. (right-known t T i r place.of_rule o s place.written attr.name.0 m).2,
      )

    -- the first of the attributes
    module _ (numbers : AreNumbersIn t T) (o : ℕ) (place : IsPlaceIn t r i o s x) (attrs : List FlatAttr) (of : attrs_at t.symbols x ≡ attrs) where
      missing-has : (o : ℕ) → IsPlaceIn t r i o s x → (a : ℕ) → IsMissing t.spec T i o a → Has t.spec s a
      missing-has zero place a m = (left-known t T i r place.of_rule s place.written a m).0
      missing-has (suc k) place a m = (right-known t T i r place.of_rule k s place.written a m).0

      missing-attribute : (a : ℕ) → IsMissing t.spec T i o a → (j : ℕ) × (attr : FlatAttr) × (slice_get attrs j ≡ Some attr) × (attr.name.0 ≡ a)
      missing-attribute a m = attribute-in env t known.tables x s place.number attrs of a (missing-has o place a m)

      pub none-missing : ((j : ℕ) (attr : FlatAttr) → j < length attrs → slice_get attrs j ≡ Some attr → ¬ IsMissing t.spec T i o attr.name.0) → (a : ℕ) → ¬ IsMissing t.spec T i o a
      none-missing none a m =
          let (j, attr, e, n) = missing-attribute a m in
          none j attr (slice_get_within attrs j attr e) e (subst (λ b. IsMissing t.spec T i o b) (sym n) m)

      pub first-missing : (k : ℕ) (attr : FlatAttr) → slice_get attrs k ≡ Some attr → ((j : ℕ) (attr : FlatAttr) → j < k → slice_get attrs j ≡ Some attr → ¬ IsMissing t.spec T i o attr.name.0)
          → IsMissing t.spec T i o attr.name.0 → IsFirstMissing t.spec T i o attr.name
      first-missing k attr f none m = (m, λ b h. least b h (missing-attribute b h))
        where
          least : (b : ℕ) → IsMissing t.spec T i o b → (j : ℕ) × (other : FlatAttr) × (slice_get attrs j ≡ Some other) × (other.name.0 ≡ b)
              → place_in (nat_eq attr.name.0) T.attributes ≤ place_in (nat_eq b) T.attributes
          least b h (j, other, e, n) = by (cases_lt j k)
            where
              by : (j < k) ⊎ (k ≤ j) → place_in (nat_eq attr.name.0) T.attributes ≤ place_in (nat_eq b) T.attributes
              by (inl lt) = absurd (none j other lt e (subst (λ b. IsMissing t.spec T i o b) (sym n) h))
              by (inr le) = subst (λ b. place_in (nat_eq attr.name.0) T.attributes ≤ place_in (nat_eq b) T.attributes) n
                  (in-order env t known.tables x s place.number attrs of T.attributes numbers.attributes k j attr other f e le)

module _ (t : Tables) (T : Numbered t.spec) (i : ℕ) where
  -- along the right side
  pub right-begin : (o a : ℕ) → 1 ≤ o → o < 0 + 1 → ¬ IsMissing t.spec T i o a
  right-begin o a l w m = omega arith

  pub right-more : (k occ : ℕ) → occ ≡ k + 1 → ((o a : ℕ) → 1 ≤ o → o < k + 1 → ¬ IsMissing t.spec T i o a) → ((a : ℕ) → ¬ IsMissing t.spec T i occ a)
      → (o a : ℕ) → 1 ≤ o → o < k + 1 + 1 → ¬ IsMissing t.spec T i o a
  right-more k occ e before here o a l w m = by (cases_lt o (k + 1))
    where
      by : (o < k + 1) ⊎ (k + 1 ≤ o) → ⊥
      by (inl lt) = before o a l lt m
      by (inr le) = let same : o ≡ occ = omega arith in here a (subst (λ n. IsMissing t.spec T i n a) same m)

  pub right-found : (k occ : ℕ) (name : StrId) → occ ≡ k + 1 → ((o a : ℕ) → 1 ≤ o → o < k + 1 → ¬ IsMissing t.spec T i o a) → IsFirstMissing t.spec T i occ name
      → IsMissingFrom t.spec T i 1 (Some (record { occ = occ; name = name }))
  right-found k occ name e before first = (first, λ o b l m. by o b l m (cases_lt o (k + 1)))
    where
      by : (o b : ℕ) → 1 ≤ o → IsMissing t.spec T i o b → (o < k + 1) ⊎ (k + 1 ≤ o) → occ ≤ o
      by o b l m (inl lt) = absurd (before o b l lt m)
      by o b l m (inr le) = omega arith

  pub right-end : (r : RuleItem) → slice_get t.spec.rules i ≡ Some r → (n k : ℕ) → ((k s : ℕ) → slice_get (right_of r) k ≡ Some s → k < n) → n ≤ k
      → ((o a : ℕ) → 1 ≤ o → o < k + 1 → ¬ IsMissing t.spec T i o a) → (o a : ℕ) → 1 ≤ o → ¬ IsMissing t.spec T i o a
  right-end r of n k all l before zero a w m = omega arith
  right-end r of n k all l before (suc j) a w m = let (z, e) = missing-within t T i r of j a m in let h = all j z e in before (suc j) a w (omega arith) m

  -- with the left side
  pub from-left : ((a : ℕ) → ¬ IsMissing t.spec T i 0 a) → (found : Option MissingAt) → IsMissingFrom t.spec T i 1 found → IsMissingFrom t.spec T i 0 found
  from-left none None later = λ o a l m. by o a m
    where
      by : (o a : ℕ) → ¬ IsMissing t.spec T i o a
      by zero a m = none a m
      by (suc o) a m = later (suc o) a (omega arith) m
  from-left none (Some found) (first, least) = (first, λ o b l m. by o b m)
    where
      by : (o b : ℕ) → IsMissing t.spec T i o b → found.occ ≤ o
      by zero b m = absurd (none b m)
      by (suc o) b m = least (suc o) b (omega arith) m

-- over the rules
module _ (t : Tables) (T : Numbered t.spec) where
  pub rules-more : (i : ℕ) → ((j o a : ℕ) → j < i → ¬ IsMissing t.spec T j o a) → ((o a : ℕ) → 0 ≤ o → ¬ IsMissing t.spec T i o a) → (j o a : ℕ) → j < i + 1 → ¬ IsMissing t.spec T j o a
  rules-more i before here j o a l m = by (cases_lt j i)
    where
      by : (j < i) ⊎ (i ≤ j) → ⊥
      by (inl lt) = before j o a lt m
      by (inr le) = let same : j ≡ i = omega arith in here o a (omega arith) (subst (λ n. IsMissing t.spec T n o a) same m)

  pub rules-end : (i : ℕ) → length t.spec.rules ≤ i → ((j o a : ℕ) → j < i → ¬ IsMissing t.spec T j o a) → (f : SpecFault) → ¬ IsMissingComputation t.spec T f
  rules-end i l before f c =
      let (q, e) = missing-rule t T c.i c.k c.a c.missing in
      let w = slice_get_within t.spec.rules c.i q e in
      before c.i c.k c.a (omega arith) c.missing

  pub rule-found : (i : ℕ) (r : RuleItem) → slice_get t.spec.rules i ≡ Some r → ((j o a : ℕ) → j < i → ¬ IsMissing t.spec T j o a) → (m : MissingAt) → IsMissingFrom t.spec T i 0 (Some m)
      → IsMissingComputation t.spec T (missing_fault r m)
  rule-found i r of before m (first, least) = record {
    i = i;
    k = m.occ;
    a = m.name.0;
    rule = r;
    missing = first.0;
    first_occurrence = λ j l b h before_it. by j l b h before_it;
    first_attribute = first.1;
    of_rule = of;
    fault = refl;
  }
    where
      by : (j l b : ℕ) → IsMissing t.spec T j l b → (let p : ℕ × ℕ = (j, l) in let q : ℕ × ℕ = (i, m.occ) in IsBefore p q) → ⊥
      by j l b h (inl lt) = before j l b lt h
      by j l b h (inr (e, lt)) = let w = least l b (omega arith) (subst (λ n. IsMissing t.spec T n l b) e h) in omega arith
