-- Plain rules by what they are, and the rules of the flat grammar at their places.
use Rattle.std.specs.Prelude.{Contains, slice_get, map, flat_map, zip, ◌↔◌, if◌then◌else◌}
use Rattle.std.proofs.Common.{◌≡◌, ℕ, zero, suc, inl, inr, Bool, true, false, List, [], ◌∷◌, ◌++◌, Some, refl, sym, ap, subst, ◌∙◌}
use Rattle.std.proofs.lemmas.Option.{none-some, same_Some}
use Rattle.std.proofs.lemmas.List.Elements.{Contains-append_cases}
use Rattle.lido_base.specs.Environment.{Environment}
use Rattle.lido_base.specs.declared.ids.SymId.{SymId}
use Rattle.lido_base.proofs.Lists.{contains-nil, contains-cons, contains-map, contains-flat, place-contains}
use Rattle.flat_grammar.specs.declared.flat.FlatSymbol.{FlatSymbol}
use Rattle.flat_grammar.specs.declared.flat.FlatRule.{FlatRule}
use Rattle.flat_grammar.specs.declared.flat.Shape.{Shape}
use Rattle.lido_syntax.specs.declared.spec.Spec.{Spec}
use Rattle.lido_syntax.specs.declared.spec.RuleItem.{RuleItem}
use Rattle.lido_syntax.specs.Production.{left_of, right_of}
use Rattle.lido_symbols.specs.Numbers.{enumerated, different}
use Rattle.rule_tables.specs.PlainRules.{PlainRule, Whole, Listing, Link, End, number, cell, written_rule, cell_rules, plain_rules}
use Rattle.rule_tables.specs.Forced.{Force, IsForced}
use Rattle.rule_tables.specs.Needs.{Tables, Needs, AreTables, ruled, rules}
use Rattle.rule_tables.specs.Slots.{Slot}
use Rattle.rule_tables.specs.Flat.{IsFlatRule, IsFlat}
use Rattle.rule_tables.proofs.SlotLemmas.{zip-at, front-at}
use Rattle.rule_tables.proofs.CellLemmas.{different-within}
use Rattle.flat_laws.proofs.Lists.{mapped-place}
use Rattle.flat_laws.proofs.Lists.{zip-left, zip-right}
use Rattle.flat_laws.proofs.SymbolLemmas.{numbered-rule, rule-numbered}

module _ (spec : Spec) (symbols : List ℕ) where
  pub record IsWhole (p : PlainRule) (r : RuleItem) : Type 0 where
    pub rule : slice_get spec.rules p.rule ≡ Some r
    pub plain : r.list ≡ false
    pub role : p.role ≡ Whole
    pub left : p.left ≡ number spec symbols (left_of r)
    pub right : p.right ≡ map (number spec symbols) (right_of r)

  pub record IsListing (p : PlainRule) (r : RuleItem) : Type 0 where
    pub rule : slice_get spec.rules p.rule ≡ Some r
    pub list : r.list ≡ true
    pub role : p.role ≡ Listing
    pub left : p.left ≡ number spec symbols (left_of r)
    pub right : p.right ≡ cell spec symbols p.rule ∷ []

  pub record IsLink (p : PlainRule) (r : RuleItem) (s : ℕ) : Type 0 where
    pub rule : slice_get spec.rules p.rule ≡ Some r
    pub list : r.list ≡ true
    pub role : p.role ≡ Link s
    pub element : Contains (right_of r) s
    pub left : p.left ≡ cell spec symbols p.rule
    pub right : p.right ≡ number spec symbols s ∷ cell spec symbols p.rule ∷ []

  pub record IsEnd (p : PlainRule) (r : RuleItem) : Type 0 where
    pub rule : slice_get spec.rules p.rule ≡ Some r
    pub list : r.list ≡ true
    pub role : p.role ≡ End
    pub left : p.left ≡ cell spec symbols p.rule
    pub right : p.right ≡ []

  -- a plain rule is one of these
  pub data IsRuleOf (p : PlainRule) : Type 0 where
    whole : (r : RuleItem) → IsWhole p r → IsRuleOf p
    listing : (r : RuleItem) → IsListing p r → IsRuleOf p
    link : (r : RuleItem) (s : ℕ) → IsLink p r s → IsRuleOf p
    end : (r : RuleItem) → IsEnd p r → IsRuleOf p

  abbrev pub link_at : ℕ → ℕ → PlainRule
  link_at i s = record { rule = i; role = Link s; left = cell spec symbols i; right = number spec symbols s ∷ cell spec symbols i ∷ [] }

  abbrev pub end_at : ℕ → PlainRule
  end_at i = record { rule = i; role = End; left = cell spec symbols i; right = [] }

  of-written : (i : ℕ) (r : RuleItem) (p : PlainRule) → slice_get spec.rules i ≡ Some r → written_rule spec symbols (i, r) ≡ p → IsRuleOf p
  of-written i r p of same = by r.list refl
    where
      its : slice_get spec.rules p.rule ≡ Some r
      its = ap (λ (p : PlainRule). slice_get spec.rules p.rule) (sym same) ∙ of

      by : (b : Bool) → r.list ≡ b → IsRuleOf p
      by true e = listing r (record {
        rule = its;
        list = e;
        role = ap (λ (p : PlainRule). p.role) (sym same) ∙ ap (λ b. if b then Listing else Whole) e;
        left = ap (λ (p : PlainRule). p.left) (sym same);
        right = ap (λ (p : PlainRule). p.right) (sym same) ∙ ap (λ b. if b then cell spec symbols i ∷ [] else map (number spec symbols) (right_of r)) e
            ∙ ap (λ (p : PlainRule). cell spec symbols p.rule ∷ []) same;
      })
      by false e = whole r (record {
        rule = its;
        plain = e;
        role = ap (λ (p : PlainRule). p.role) (sym same) ∙ ap (λ b. if b then Listing else Whole) e;
        left = ap (λ (p : PlainRule). p.left) (sym same);
        right = ap (λ (p : PlainRule). p.right) (sym same) ∙ ap (λ b. if b then cell spec symbols i ∷ [] else map (number spec symbols) (right_of r)) e;
      })

  of-cell : (i : ℕ) (r : RuleItem) (p : PlainRule) → slice_get spec.rules i ≡ Some r → Contains (cell_rules spec symbols (i, r)) p → IsRuleOf p
  of-cell i r p of m = by r.list refl m
    where
      its : (q : PlainRule) → q ≡ p → q.rule ≡ i → slice_get spec.rules p.rule ≡ Some r
      its q same e = ap (λ (p : PlainRule). slice_get spec.rules p.rule) (sym same) ∙ ap (slice_get spec.rules) e ∙ of

      linked : r.list ≡ true → (s : ℕ) → Contains (different (right_of r)) s → link_at i s ≡ p → IsRuleOf p
      linked e s m same = link r s (record {
        rule = its (link_at i s) same refl;
        list = e;
        role = ap (λ (p : PlainRule). p.role) (sym same);
        element = different-within (right_of r) s m;
        left = ap (λ (p : PlainRule). p.left) (sym same) ∙ ap (λ (p : PlainRule). cell spec symbols p.rule) same;
        right = ap (λ (p : PlainRule). p.right) (sym same) ∙ ap (λ (p : PlainRule). number spec symbols s ∷ cell spec symbols p.rule ∷ []) same;
      })

      ended : r.list ≡ true → end_at i ≡ p → IsRuleOf p
      ended e same = end r (record {
        rule = its (end_at i) same refl;
        list = e;
        role = ap (λ (p : PlainRule). p.role) (sym same);
        left = ap (λ (p : PlainRule). p.left) (sym same) ∙ ap (λ (p : PlainRule). cell spec symbols p.rule) same;
        right = ap (λ (p : PlainRule). p.right) (sym same);
      })

      by : (b : Bool) → r.list ≡ b → Contains (if b then map (link_at i) (different (right_of r)) ++ end_at i ∷ [] else []) p → IsRuleOf p
      by false e m = absurd (contains-nil p m)
      by true e m = elim (Contains-append_cases (map (link_at i) (different (right_of r))) (end_at i ∷ []) p m) [
        | inl h ↦ let s = contains-map (link_at i) (different (right_of r)) p h in linked e s.0 s.1 s.2
        | inr h ↦ elim (contains-cons (end_at i) p [] h) [ inl same ↦ ended e same | inr z ↦ absurd (contains-nil p z) ]
      ]

  pub rule-of : (p : PlainRule) → Contains (plain_rules spec symbols) p → IsRuleOf p
  rule-of p m = elim (Contains-append_cases (map (written_rule spec symbols) (enumerated 0 spec.rules)) (flat_map (cell_rules spec symbols) (enumerated 0 spec.rules)) p m) [
    | inl h ↦ let (x, among, same) = contains-map (written_rule spec symbols) (enumerated 0 spec.rules) p h in of-written x.0 x.1 p (numbered-rule spec symbols x among) same
    | inr h ↦ let (x, among, k) = contains-flat (cell_rules spec symbols) (enumerated 0 spec.rules) p h in of-cell x.0 x.1 p (numbered-rule spec symbols x among) k
  ]

  -- the plain rule of a written rule has its number
  pub plain-at : (i : ℕ) (r : RuleItem) → slice_get spec.rules i ≡ Some r → slice_get (plain_rules spec symbols) i ≡ Some (written_rule spec symbols (i, r))
  plain-at i r of = front-at (map (written_rule spec symbols) (enumerated 0 spec.rules)) (flat_map (cell_rules spec symbols) (enumerated 0 spec.rules)) i (written_rule spec symbols (i, r))
      (mapped-place (written_rule spec symbols) (enumerated 0 spec.rules) i (i, r) (rule-numbered spec symbols i r of))

-- what stands at one place of two lists
pub at-zip : {X Y : Type 0} (xs : List X) (ys : List Y) (i : ℕ) (x : X) (y : Y) → slice_get xs i ≡ Some x → slice_get ys i ≡ Some y → slice_get (zip xs ys) i ≡ Some (x, y)
at-zip [] ys i x y e f = absurd (none-some _ e)
at-zip (a ∷ xs) [] i x y e f = absurd (none-some _ f)
at-zip (a ∷ xs) (b ∷ ys) zero x y e f = let g = same_Some _ _ e in let h = same_Some _ _ f in λ j. Some (g j, h j)
at-zip (a ∷ xs) (b ∷ ys) (suc i) x y e f = at-zip xs ys i x y e f

module _ (spec : Spec) (env : Environment) (T : Tables spec) (tables : AreTables spec T env) where
  -- a plain rule with what is in force in it
  pub record IsRuled (i : ℕ) (p : PlainRule) (fs : List Force) : Type 0 where
    pub plain : slice_get (rules spec T) i ≡ Some p
    pub forces : slice_get T.forced i ≡ Some fs
    pub both : slice_get (ruled spec T) i ≡ Some (p, fs)
    pub forced : (f : Force) → Contains fs f ↔ IsForced spec p f

  pub ruled-at : (i : ℕ) (p : PlainRule) (fs : List Force) → slice_get (ruled spec T) i ≡ Some (p, fs) → IsRuled i p fs
  ruled-at i p fs e =
      let (at, there) = zip-at (rules spec T) T.forced i p fs e in
      let (gs, here, in_force) = zip-right _ (rules spec T) T.forced i p tables.forced at in
      record { plain = at; forces = there; both = e; forced = subst (λ (l : List Force). (f : Force) → Contains l f ↔ IsForced spec p f) (same_Some gs fs (sym here ∙ there)) in_force }

  pub plain-ruled : (i : ℕ) (p : PlainRule) → slice_get (rules spec T) i ≡ Some p → (fs : List Force) × IsRuled i p fs
  plain-ruled i p at =
      let (fs, there, in_force) = zip-right _ (rules spec T) T.forced i p tables.forced at in
      (fs, record { plain = at; forces = there; both = at-zip (rules spec T) T.forced i p fs at there; forced = in_force })

  pub is-rule : (i : ℕ) (p : PlainRule) (fs : List Force) → IsRuled i p fs → IsRuleOf spec T.symbols p
  is-rule i p fs is = rule-of spec T.symbols p (place-contains (rules spec T) i p is.plain)

  module _ (needs : Needs spec T) (slots : ℕ → List Slot) (symbols : List FlatSymbol) (flat_rules : List FlatRule) (shapes : List Shape) (root : SymId)
      (is : IsFlat spec T needs slots env symbols flat_rules shapes root) where
    -- the rule of the flat grammar at a place
    pub record IsFlatAt (i : ℕ) (flat : FlatRule) : Type 0 where
      pub p : PlainRule
      pub fs : List Force
      pub of_ruled : IsRuled i p fs
      pub is_flat : IsFlatRule spec T needs slots env (p, fs) flat

    pub flat-at : (i : ℕ) (flat : FlatRule) → slice_get flat_rules i ≡ Some flat → IsFlatAt i flat
    flat-at i flat e =
        let (t, at, of) = zip-left (IsFlatRule spec T needs slots env) (ruled spec T) flat_rules i flat is.each_rule e in
        record { p = t.0; fs = t.1; of_ruled = ruled-at i t.0 t.1 at; is_flat = of }

    -- that of a plain rule
    pub record HasFlatAt (i : ℕ) (p : PlainRule) : Type 0 where
      pub flat : FlatRule
      pub fs : List Force
      pub there : slice_get flat_rules i ≡ Some flat
      pub of_ruled : IsRuled i p fs
      pub is_flat : IsFlatRule spec T needs slots env (p, fs) flat

    pub at-flat : (i : ℕ) (p : PlainRule) → slice_get (rules spec T) i ≡ Some p → HasFlatAt i p
    at-flat i p e =
        let (fs, its) = plain-ruled i p e in
        let (flat, there, of) = zip-right (IsFlatRule spec T needs slots env) (ruled spec T) flat_rules i (p, fs) is.each_rule its.both in
        record { flat = flat; fs = fs; there = there; of_ruled = its; is_flat = of }
