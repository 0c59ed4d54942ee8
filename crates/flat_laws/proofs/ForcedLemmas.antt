-- What is in force in plain rules, with the symbols of its occurrence and of its context.
use Rattle.std.specs.Prelude.{Contains, slice_get, map, flat_map, if◌then◌else◌}
use Rattle.std.proofs.Common.{◌≡◌, ℕ, zero, suc, inl, inr, true, false, List, [], ◌∷◌, Some, refl, sym, ap, subst, ◌∙◌}
use Rattle.std.proofs.lemmas.Option.{none-some, same_Some}
use Rattle.std.proofs.lemmas.List.Elements.{Contains-append_left, Contains-append_right}
use Rattle.lido_base.specs.Environment.{Environment}
use Rattle.lido_base.proofs.Lists.{contains-here, contains-later, flat-contains, place-contains}
use Rattle.lido_syntax.specs.declared.spec.Spec.{Spec}
use Rattle.lido_syntax.specs.declared.spec.Comp.{Comp}
use Rattle.lido_syntax.specs.declared.spec.RuleItem.{RuleItem}
use Rattle.lido_syntax.specs.declared.spec.SymbolItem.{SymbolItem}
use Rattle.lido_syntax.specs.declared.spec.Target.{Target}
use Rattle.lido_syntax.specs.declared.spec.Target.TheVariants as target
use Rattle.lido_syntax.specs.declared.spec.Place.TheVariants as place
use Rattle.lido_syntax.specs.Production.{name_of, left_of, right_of, symbols_of}
use Rattle.lido_syntax.specs.Symbols.{IsNonterminal}
use Rattle.lido_syntax.specs.Sets.{Inherits}
use Rattle.lido_syntax.specs.Attributes.{InBody, InText, Has}
use Rattle.lido_syntax.specs.Computation.{Goal, Synthesized, Inherited, Holder, by_rule, by_symbol, IsGoalAt, IsRuleTarget, InForce, of_rule, of_symbol, of_class}
use Rattle.lido_symbols.specs.Uses.{computations}
use Rattle.rule_tables.specs.PlainRules.{PlainRule, Role, Whole, Listing, Link, End, symbol_at, number, cell}
use Rattle.rule_tables.specs.Forced.{Force, context_of, IsWrittenAt, IsForced}
use Rattle.rule_tables.specs.Needs.{Tables}
use Rattle.flat_laws.proofs.OccurrenceLemmas.{occurrence-names}
use Rattle.flat_laws.proofs.Lists.{mapped-place}
use Rattle.flat_laws.proofs.KindLemmas.{synthesized-has, inherited-has}
use Rattle.flat_laws.specs.Accepted.{IsAccepted}
use Rattle.flat_laws.proofs.SymbolLemmas.{left-nonterminal}
use Rattle.flat_laws.proofs.RuleLemmas.{IsRuleOf, whole, listing, link, end}
use Rattle.flat_laws.proofs.FaultLemmas.{no-clash, no-class, attribute-nonterminal}

module _ (spec : Spec) (symbols : List ℕ) where
  -- the written symbol at an occurrence of a plain rule
  pub record IsSymbolOf (p : PlainRule) (r : RuleItem) (o s : ℕ) : Type 0 where
    pub at : symbol_at p o ≡ Some (number spec symbols s)
    pub of_rule : Contains (symbols_of r) s

  at-whole : (p : PlainRule) (r : RuleItem) (o s : ℕ) → p.left ≡ number spec symbols (left_of r) → p.right ≡ map (number spec symbols) (right_of r) → IsWrittenAt r Whole o s → IsSymbolOf p r o s
  at-whole p r zero s left right w = record {
    at = ap Some (left ∙ ap (number spec symbols) (sym w));
    of_rule = subst (Contains (symbols_of r)) (sym w) (contains-here (left_of r) (right_of r));
  }
  at-whole p r (suc o) s left right w = record {
    at = ap (λ l. slice_get l o) right ∙ mapped-place (number spec symbols) (right_of r) o s w;
    of_rule = contains-later (left_of r) s (right_of r) (place-contains (right_of r) o s w);
  }

  at-listing : (p : PlainRule) (r : RuleItem) (o s : ℕ) → p.left ≡ number spec symbols (left_of r) → IsWrittenAt r Listing o s → IsSymbolOf p r o s
  at-listing p r zero s left w = record {
    at = ap Some (left ∙ ap (number spec symbols) (sym w));
    of_rule = subst (Contains (symbols_of r)) (sym w) (contains-here (left_of r) (right_of r));
  }
  at-listing p r (suc o) s left w = absurd w

  at-link : (p : PlainRule) (r : RuleItem) (x n o s : ℕ) → Contains (right_of r) x → p.right ≡ number spec symbols x ∷ n ∷ [] → IsWrittenAt r (Link x) o s → IsSymbolOf p r o s
  at-link p r x n zero s element right w = absurd w
  at-link p r x n (suc zero) s element right w = record {
    at = ap (λ l. slice_get l 0) right ∙ ap (λ z. Some (number spec symbols z)) (sym w);
    of_rule = contains-later (left_of r) s (right_of r) (subst (Contains (right_of r)) (sym w) element);
  }
  at-link p r x n (suc (suc o)) s element right w = absurd w

  at-end : (p : PlainRule) (r : RuleItem) (o s : ℕ) → IsWrittenAt r End o s → IsSymbolOf p r o s
  at-end p r zero s w = absurd w
  at-end p r (suc o) s w = absurd w

  pub written-at : (p : PlainRule) → IsRuleOf spec symbols p → (r : RuleItem) → slice_get spec.rules p.rule ≡ Some r → (o s : ℕ) → IsWrittenAt r p.role o s → IsSymbolOf p r o s
  written-at p (whole q is) r of o s w =
      let same : q ≡ r = same_Some q r (sym is.rule ∙ of) in
      at-whole p r o s (is.left ∙ ap (λ (q : RuleItem). number spec symbols (left_of q)) same) (is.right ∙ ap (λ (q : RuleItem). map (number spec symbols) (right_of q)) same)
      (subst (λ k. IsWrittenAt r k o s) is.role w)
  written-at p (listing q is) r of o s w =
      let same : q ≡ r = same_Some q r (sym is.rule ∙ of) in
      at-listing p r o s (is.left ∙ ap (λ (q : RuleItem). number spec symbols (left_of q)) same) (subst (λ k. IsWrittenAt r k o s) is.role w)
  written-at p (link q x is) r of o s w =
      let same : q ≡ r = same_Some q r (sym is.rule ∙ of) in
      at-link p r x (cell spec symbols p.rule) o s (subst (λ (q : RuleItem). Contains (right_of q) x) same is.element) is.right (subst (λ k. IsWrittenAt r k o s) is.role w)
  written-at p (end q is) r of o s w = at-end p r o s (subst (λ k. IsWrittenAt r k o s) is.role w)

-- ---- computations of the text

module _ (spec : Spec) where
  in-rule : (r : RuleItem) (c : Comp) → Contains spec.rules r → Contains r.body c → Contains (computations spec) c
  in-rule r c among m = Contains-append_left (flat_map (λ (r : RuleItem). r.body) spec.rules) (flat_map (λ (item : SymbolItem). item.body) spec.symbols) c
      (flat-contains (λ (r : RuleItem). r.body) spec.rules r c among m)

  in-item : (item : SymbolItem) (c : Comp) → Contains spec.symbols item → Contains item.body c → Contains (computations spec) c
  in-item item c among m = Contains-append_right (flat_map (λ (r : RuleItem). r.body) spec.rules) (flat_map (λ (item : SymbolItem). item.body) spec.symbols) c
      (flat-contains (λ (item : SymbolItem). item.body) spec.symbols item c among m)

  -- where what is in force stands: in the rule, or in a body of the symbol or of a class of it
  pub data Stands (r : RuleItem) (s : ℕ) (c : Comp) : Holder → Type 0 where
    in_rule : Contains r.body c → Stands r s c by_rule
    in_symbol : InBody spec s c → Stands r s c by_symbol
    in_class : (class : ℕ) → Inherits spec s class → InBody spec class c → Stands r s c by_symbol

  pub stands : (r : RuleItem) (o s : ℕ) (g : Goal) (h : Holder) (c : Comp) → InForce spec r o s g h c → Stands r s c h
  stands r o s g _ c (of_rule at own) = in_rule own.0
  stands r o s g _ c (of_symbol at unlike own) = in_symbol own.0
  stands r o s g _ c (of_class class at unlike no_own left only own) = in_class class left.inherited own.0

  pub text-of : (r : RuleItem) → Contains spec.rules r → (s : ℕ) (c : Comp) (h : Holder) → Stands r s c h → InText spec c
  text-of r among s c _ (in_rule m) = inl (r, among, m)
  text-of r among s c _ (in_symbol of) = inr (s, of)
  text-of r among s c _ (in_class class heir of) = inr (class, of)

  pub computation-of : (r : RuleItem) → Contains spec.rules r → (s : ℕ) (c : Comp) (h : Holder) → Stands r s c h → Contains (computations spec) c
  computation-of r among s c _ (in_rule m) = in-rule r c among m
  computation-of r among s c _ (in_symbol (item, mi, h, mc)) = in-item item c mi mc
  computation-of r among s c _ (in_class class heir (item, mi, h, mc)) = in-item item c mi mc

  pub goal-at : (r : RuleItem) (o s : ℕ) (g : Goal) (h : Holder) (c : Comp) → InForce spec r o s g h c → IsGoalAt o g
  goal-at r o s g _ c (of_rule at own) = at.1
  goal-at r o s g _ c (of_symbol at unlike own) = at.1
  goal-at r o s g _ c (of_class class at unlike no_own left only own) = at.1

  -- a list's computations are at the left side
  pub list-target : (r : RuleItem) → r.list ≡ true → (c : Comp) (t : Target) (o : ℕ) (g : Goal) → IsRuleTarget spec r c t o g → o ≡ 0
  list-target r l c t zero g h = refl
  list-target r l c (target.Attr (place.Named x i) b) (suc o) (Inherited a) (at, n) =
      let e : slice_get (if r.list then [] else right_of r) o ≡ Some (name_of x) = occurrence-names r x i (suc o) at in
      absurd (none-some (name_of x) (ap (λ b. slice_get (if b then [] else right_of r) o) (sym l) ∙ e))
  list-target r l c _ (suc o) _ h = absurd h

  pub list-at-left : (r : RuleItem) → r.list ≡ true → (o s : ℕ) (g : Goal) (c : Comp) → InForce spec r o s g by_rule c → o ≡ 0
  list-at-left r l o s g c (of_rule at own) = list-target r l c c.target o g own.1

module _ (spec : Spec) (early : Environment) (T : Tables spec) (accepted : IsAccepted spec early T) where
  -- an attribute that is in force is one of its symbol
  pub attribute-in-force : (r : RuleItem) → Contains spec.rules r → (o s a : ℕ) (h : Holder) (c : Comp) → InForce spec r o s (Inherited a) h c → Has spec s a
  attribute-in-force r among o s a h c force = inherited-has spec early (no-clash spec early T accepted) r among o s a h c force

  pub attribute-at-left : (r : RuleItem) → Contains spec.rules r → (o s a : ℕ) (h : Holder) (c : Comp) → InForce spec r o s (Synthesized a) h c → Has spec s a
  attribute-at-left r among o s a h c force = synthesized-has spec early (no-clash spec early T accepted) r among o s a h c force

  right-goal : (r : RuleItem) → Contains spec.rules r → (o s : ℕ) (g : Goal) (h : Holder) (c : Comp) → Contains (right_of r) s → IsGoalAt (suc o) g → InForce spec r (suc o) s g h c → IsNonterminal spec s
  right-goal r among o s (Inherited a) h c m at force = attribute-nonterminal spec early T accepted r among s a m (no-class spec early T accepted r among s (contains-later (left_of r) s (right_of r) m)) (attribute-in-force r among (suc o) s a h c force)
  right-goal r among o s _ h c m at force = absurd at

  -- what is in force in a plain rule, with its symbol
  pub record IsForcedAt (p : PlainRule) (f : Force) : Type 0 where
    pub r : RuleItem
    pub s : ℕ
    pub rule : slice_get spec.rules p.rule ≡ Some r
    pub among : Contains spec.rules r
    pub written : IsWrittenAt r p.role f.occ s
    pub force : InForce spec r f.occ s f.goal f.holder f.comp
    pub its : IsSymbolOf spec T.symbols p r f.occ s
    pub nonterminal : IsNonterminal spec s
    pub stands_in : Stands spec r s f.comp f.holder

  nonterminal-of : (p : PlainRule) → IsRuleOf spec T.symbols p → (r : RuleItem) → slice_get spec.rules p.rule ≡ Some r → (o s : ℕ) (g : Goal) (h : Holder) (c : Comp)
      → IsWrittenAt r p.role o s → InForce spec r o s g h c → IsNonterminal spec s
  nonterminal-of p is r of zero s g h c w force = left (p.role) w
    where
      left : (role : Role) → IsWrittenAt r role 0 s → IsNonterminal spec s
      left Whole w = subst (IsNonterminal spec) (sym w) (left-nonterminal spec r (place-contains spec.rules p.rule r of))
      left Listing w = subst (IsNonterminal spec) (sym w) (left-nonterminal spec r (place-contains spec.rules p.rule r of))
      left _ w = absurd w
  nonterminal-of p is r of (suc o) s g h c w force = right-goal r (place-contains spec.rules p.rule r of) o s g h c (right is) (goal-at spec r (suc o) s g h c force) force
    where
      right : IsRuleOf spec T.symbols p → Contains (right_of r) s
      right (whole q is) = place-contains (right_of r) o s (subst (λ k. IsWrittenAt r k (suc o) s) is.role w)
      right (listing q is) = absurd (subst (λ k. IsWrittenAt r k (suc o) s) is.role w)
      right (end q is) = absurd (subst (λ k. IsWrittenAt r k (suc o) s) is.role w)
      right (link q x is) = element o (subst (λ k. IsWrittenAt r k (suc o) s) is.role w)
        where
          element : (o : ℕ) → IsWrittenAt r (Link x) (suc o) s → Contains (right_of r) s
          element zero w = subst (Contains (right_of r)) (sym w) (subst (λ (q : RuleItem). Contains (right_of q) x) (same_Some q r (sym is.rule ∙ of)) is.element)
          element (suc o) w = absurd w

  pub forced-at : (p : PlainRule) → IsRuleOf spec T.symbols p → (f : Force) → IsForced spec p f → IsForcedAt p f
  forced-at p is f (r, s, of, w, force) = record {
    r = r;
    s = s;
    rule = of;
    among = place-contains spec.rules p.rule r of;
    written = w;
    force = force;
    its = written-at spec T.symbols p is r of f.occ s w;
    nonterminal = nonterminal-of p is r of f.occ s f.goal f.holder f.comp w force;
    stands_in = stands spec r f.occ s f.goal f.holder f.comp force;
  }

  -- the symbol of the context
  pub record HasContext (p : PlainRule) (f : Force) : Type 0 where
    pub c : ℕ
    pub at : symbol_at p (context_of f) ≡ Some (number spec T.symbols c)
    pub nonterminal : IsNonterminal spec c

  -- a rule's computation is in force in the plain rule of a written one
  pub data IsOfWritten (p : PlainRule) (r : RuleItem) : Type 0 where
    of_whole : p.role ≡ Whole → r.list ≡ false → p.left ≡ number spec T.symbols (left_of r) → p.right ≡ map (number spec T.symbols) (right_of r) → IsOfWritten p r
    of_listing : p.role ≡ Listing → r.list ≡ true → p.left ≡ number spec T.symbols (left_of r) → IsOfWritten p r

  pub of-written : (p : PlainRule) → IsRuleOf spec T.symbols p → (r : RuleItem) → slice_get spec.rules p.rule ≡ Some r → (o s : ℕ) (g : Goal) (c : Comp)
      → IsWrittenAt r p.role o s → InForce spec r o s g by_rule c → IsOfWritten p r
  of-written p (whole q is) r of o s g c w force = let same : q ≡ r = same_Some q r (sym is.rule ∙ of) in
      of_whole is.role (ap (λ (q : RuleItem). q.list) (sym same) ∙ is.plain) (is.left ∙ ap (λ (q : RuleItem). number spec T.symbols (left_of q)) same)
      (is.right ∙ ap (λ (q : RuleItem). map (number spec T.symbols) (right_of q)) same)
  of-written p (listing q is) r of o s g c w force = let same : q ≡ r = same_Some q r (sym is.rule ∙ of) in
      of_listing is.role (ap (λ (q : RuleItem). q.list) (sym same) ∙ is.list) (is.left ∙ ap (λ (q : RuleItem). number spec T.symbols (left_of q)) same)
  of-written p (link q x is) r of o s g c w force =
      let same : q ≡ r = same_Some q r (sym is.rule ∙ of) in
      let zero_at = list-at-left spec r (ap (λ (q : RuleItem). q.list) (sym same) ∙ is.list) o s g c force in
      absurd (subst (λ o. IsWrittenAt r (Link x) o s) zero_at (subst (λ k. IsWrittenAt r k o s) is.role w))
  of-written p (end q is) r of o s g c w force =
      let same : q ≡ r = same_Some q r (sym is.rule ∙ of) in
      let zero_at = list-at-left spec r (ap (λ (q : RuleItem). q.list) (sym same) ∙ is.list) o s g c force in
      absurd (subst (λ o. IsWrittenAt r End o s) zero_at (subst (λ k. IsWrittenAt r k o s) is.role w))

  pub written-left : (p : PlainRule) (r : RuleItem) → IsOfWritten p r → p.left ≡ number spec T.symbols (left_of r)
  written-left p r (of_whole role l left right) = left
  written-left p r (of_listing role l left) = left

  pub has-context : (p : PlainRule) → IsRuleOf spec T.symbols p → (f : Force) → IsForcedAt p f → HasContext p f
  has-context p is f at = by f.holder refl
    where
      by : (h : Holder) → f.holder ≡ h → HasContext p f
      by by_rule e =
          let written = of-written p is at.r at.rule f.occ at.s f.goal f.comp at.written (subst (λ h. InForce spec at.r f.occ at.s f.goal h f.comp) e at.force) in
          record {
            c = left_of at.r;
            at = ap (λ (h : Holder). symbol_at p (elim h [ by_rule ↦ 0 | by_symbol ↦ f.occ ])) e ∙ ap Some (written-left p at.r written);
            nonterminal = left-nonterminal spec at.r at.among;
          }
      by by_symbol e = record {
        c = at.s;
        at = ap (λ (h : Holder). symbol_at p (elim h [ by_rule ↦ 0 | by_symbol ↦ f.occ ])) e ∙ at.its.at;
        nonterminal = at.nonterminal;
      }
