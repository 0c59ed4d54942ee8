-- What a computation in force in a plain rule reads is there: the attribute is one of the symbol at that occurrence.
use Rattle.std.specs.Prelude.{Contains, slice_get, ◌&&◌, if◌then◌else◌}
use Rattle.std.proofs.Common.{◌≡◌, ℕ, ℤ, zero, suc, inl, inr, Bool, true, false, List, [], ◌∷◌, Option, Some, refl, sym, ap, subst, ◌∙◌, true≢false}
use Rattle.std.proofs.lemmas.Option.{none-some, same_Some}
use Rattle.lido_base.specs.Environment.{Environment}
use Rattle.lido_base.specs.Tree.{contains}
use Rattle.lido_base.proofs.Lists.{contains-later, place-contains}
use Rattle.lido_base.specs.declared.kinds.Kind.TheVariants as kind
use Rattle.lido_syntax.specs.declared.spec.Spec.{Spec}
use Rattle.lido_syntax.specs.declared.spec.Name.{Name}
use Rattle.lido_syntax.specs.declared.spec.Comp.{Comp}
use Rattle.lido_syntax.specs.declared.spec.Target.{Target}
use Rattle.lido_syntax.specs.declared.spec.Target.TheVariants as target
use Rattle.lido_syntax.specs.declared.spec.Place.{Place}
use Rattle.lido_syntax.specs.declared.spec.Place.TheVariants as place
use Rattle.lido_syntax.specs.declared.spec.Expr.{Read}
use Rattle.lido_syntax.specs.Production.{name_of, left_of, right_of, occurrence}
use Rattle.lido_syntax.specs.Parts.{leaves_of}
use Rattle.lido_syntax.specs.Symbols.{IsChain, IsNonterminal}
use Rattle.lido_syntax.specs.Attributes.{Use, uses, possible, IsOnSide, IsOwn, InBody, InText, Has, by_name, in_body}
use Rattle.lido_syntax.specs.Computation.{Goal, Inherited, Holder, by_rule, by_symbol, InForce, of_symbol, of_class, IsGoalAt, IsSymbolTarget}
use Rattle.lido_symbols.specs.Uses.{computations}
use Rattle.kind_clashes.specs.KindClash.{IsKindClash}
use Rattle.kind_clashes.specs.KindClash as clash
use Rattle.kind_clashes.proofs.UsesLemmas.{of-used, by_leaf, by_read}
use Rattle.table_faults.specs.Faults.{IsForeign, place_at, read, in_rule as foreign_in_rule, in_symbol as named_in_symbol}
use Rattle.rule_tables.specs.PlainRules.{PlainRule, symbol_at, number}
use Rattle.rule_tables.specs.Forced.{Force, context_of}
use Rattle.rule_tables.specs.Needs.{Tables, Needs, AreTables, is_tail, has_start}
use Rattle.rule_tables.specs.Slots.{Slot, Written, Front, HasSlot, chains}
use Rattle.flat_laws.proofs.OccurrenceLemmas.{occurrence-names}
use Rattle.flat_laws.proofs.Lists.{mapped-place}
use Rattle.flat_laws.specs.Accepted.{IsAccepted}
use Rattle.flat_laws.proofs.SymbolLemmas.{left-nonterminal, nonterminal-number}
use Rattle.flat_laws.proofs.RuleLemmas.{IsRuled, is-rule}
use Rattle.flat_laws.proofs.FaultLemmas.{no-clash, no-unknown, no-class, attribute-nonterminal}
use Rattle.flat_laws.proofs.ForcedLemmas.{IsForcedAt, Stands, in_rule, in_symbol, in_class, text-of, computation-of, goal-at, IsOfWritten, of_whole, of_listing, of-written, written-left}
use Rattle.flat_laws.proofs.NeedLemmas.{chain-needed, chain-in}

-- a read as what its computation names
pub read-used : (c : Comp) (first : ℕ) (q : Place) (a : Name) → Contains (leaves_of c) (Read first q a) → Contains (uses c) (let u : Use = (q, a) in u)
read-used c first q a m = of-used c q a (by_leaf (Read first q a) m (by_read first refl))

module _ (spec : Spec) (early env : Environment) (T : Tables spec) (tables : AreTables spec T env) (accepted : IsAccepted spec early T) (needs : Needs spec T)
    (i : ℕ) (p : PlainRule) (fs : List Force) (is : IsRuled spec env T tables i p fs) where
  -- the symbol at the occurrence has the attribute
  pub record IsThere (k : ℕ) (s : Slot) : Type 0 where
    pub x : ℕ
    pub at : symbol_at p k ≡ Some x
    pub has : HasSlot spec T needs x s

  -- an attribute of a nonterminal is there
  pub written-there : (k s a : ℕ) → symbol_at p k ≡ Some (number spec T.symbols s) → IsNonterminal spec s → Has spec s a → IsThere k (Written a)
  written-there k s a at n has = record { x = number spec T.symbols s; at = at; has = (s, nonterminal-number spec env T tables s n, n, has) }

  module _ (f : Force) (among : Contains fs f) (at : IsForcedAt spec early T accepted p f) where
    text : InText spec f.comp
    text = text-of spec at.r at.among at.s f.comp f.holder at.stands_in

    pub its-computation : Contains (computations spec) f.comp
    its-computation = computation-of spec at.r at.among at.s f.comp f.holder at.stands_in

    context-zero : f.holder ≡ by_rule → context_of f ≡ 0
    context-zero e = ap (λ (h : Holder). elim h as (λ _. ℕ) [ by_rule ↦ 0 | by_symbol ↦ f.occ ]) e

    context-own : f.holder ≡ by_symbol → context_of f ≡ f.occ
    context-own e = ap (λ (h : Holder). elim h as (λ _. ℕ) [ by_rule ↦ 0 | by_symbol ↦ f.occ ]) e

    -- a chain that is read at the context
    pub chain-there : (first : ℕ) (q : Place) (a : Name) → Contains (leaves_of f.comp) (Read first q a) → IsChain spec (name_of a) → (is_tail spec T q && has_start spec T fs (name_of a)) ≡ false
        → (k : ℕ) → context_of f ≡ k → (x : ℕ) → symbol_at p k ≡ Some x → IsThere k (Front (name_of a))
    chain-there first q a m chain no_tail k e x there = record {
      x = x;
      at = there;
      has = (
        chain-in spec env T tables needs (name_of a) chain,
        chain-needed spec env T tables needs i p fs is f among its-computation x (ap (symbol_at p) e ∙ there) first q a (name_of a) m refl no_tail,
      );
    }

    -- ---- a place with a name, in a rule's computation

    module _ (first : ℕ) (x : Name) (j : Option ℤ) (a : Name) (m : Contains (leaves_of f.comp) (Read first (place.Named x j) a)) (mr : Contains at.r.body f.comp) (e : f.holder ≡ by_rule) where
      use_it : Contains (uses f.comp) (let u : Use = (place.Named x j, a) in u)
      use_it = read-used f.comp first (place.Named x j) a m

      written : IsOfWritten spec early T accepted p at.r
      written = of-written spec early T accepted p (is-rule spec env T tables i p fs is) at.r at.rule f.occ at.s f.goal f.comp at.written (subst (λ h. InForce spec at.r f.occ at.s f.goal h f.comp) e at.force)

      only : (k : ℕ) → occurrence at.r x j ≡ Some k → possible at.r x j ≡ k ∷ []
      only k o = rw (o, possible) refl

      no-right-chain : (k : ℕ) → occurrence at.r x j ≡ Some (suc k) → ¬ IsChain spec (name_of a)
      no-right-chain k o chain = no-clash spec early T accepted a.at (clash.chain_elsewhere (clash.on_right_side at.r f.comp x j a at.among mr use_it
          (subst (λ l. IsOnSide kind.Inherited l) (sym (only (suc k) o)) tt) chain refl))

      has : ¬ IsChain spec (name_of a) → Has spec (name_of x) (name_of a)
      has unlike = inl (by_name f.comp x j text (a, use_it, refl, unlike) refl)

      at-right : (k : ℕ) → occurrence at.r x j ≡ Some (suc k) → (symbol_at p (suc k) ≡ Some (number spec T.symbols (name_of x))) × Contains (right_of at.r) (name_of x)
      at-right k o = by written (occurrence-names at.r x j (suc k) o)
        where
          by : IsOfWritten spec early T accepted p at.r → slice_get (if at.r.list then [] else right_of at.r) k ≡ Some (name_of x)
              → (symbol_at p (suc k) ≡ Some (number spec T.symbols (name_of x))) × Contains (right_of at.r) (name_of x)
          by (of_listing role l left) g = absurd (none-some (name_of x) (ap (λ b. slice_get (if b then [] else right_of at.r) k) (sym l) ∙ g))
          by (of_whole role l left right) g =
              let h : slice_get (right_of at.r) k ≡ Some (name_of x) = ap (λ b. slice_get (if b then [] else right_of at.r) k) (sym l) ∙ g in
              (ap (λ l. slice_get l k) right ∙ mapped-place (number spec T.symbols) (right_of at.r) k (name_of x) h, place-contains (right_of at.r) k (name_of x) h)

      at-left : occurrence at.r x j ≡ Some 0 → left_of at.r ≡ name_of x
      at-left o = same_Some (left_of at.r) (name_of x) (occurrence-names at.r x j 0 o)

      attribute-there : (k : ℕ) → occurrence at.r x j ≡ Some k → ¬ IsChain spec (name_of a) → IsThere k (Written (name_of a))
      attribute-there zero o unlike =
          let s = at-left o in
          written-there 0 (name_of x) (name_of a) (ap Some (written-left spec early T accepted p at.r written ∙ ap (number spec T.symbols) s)) (subst (IsNonterminal spec) s (left-nonterminal spec at.r at.among)) (has unlike)
      attribute-there (suc k) o unlike =
          let (there, mx) = at-right k o in
          written-there (suc k) (name_of x) (name_of a) there
          (attribute-nonterminal spec early T accepted at.r at.among (name_of x) (name_of a) mx
          (no-class spec early T accepted at.r at.among (name_of x) (contains-later (left_of at.r) (name_of x) (right_of at.r) mx)) (has unlike)) (has unlike)

      chain-at : (k : ℕ) → occurrence at.r x j ≡ Some k → IsChain spec (name_of a) → IsThere k (Front (name_of a))
      chain-at zero o chain = chain-there first (place.Named x j) a m chain refl 0 (context-zero e) p.left refl
      chain-at (suc k) o chain = absurd (no-right-chain k o chain)

      pub named-there : (k : ℕ) → occurrence at.r x j ≡ Some k → IsThere k (if contains (name_of a) (chains spec T needs) then Front (name_of a) else Written (name_of a))
      named-there k o = by (contains (name_of a) (chains spec T needs)) refl
        where
          by : (b : Bool) → contains (name_of a) (chains spec T needs) ≡ b → IsThere k (if b then Front (name_of a) else Written (name_of a))
          by true c = chain-at k o c
          by false c = attribute-there k o (λ chain. true≢false (sym chain ∙ c))

    -- ---- a place of the symbol itself, in a symbol's computation

    named-own : (q : Place) (a : Name) → IsOwn q → Contains (uses f.comp) (let u : Use = (q, a) in u) → ¬ IsChain spec (name_of a) → f.holder ≡ by_symbol → Has spec at.s (name_of a)
    named-own q a own use_it unlike e = by f.holder at.stands_in e
      where
        by : (h : Holder) → Stands spec at.r at.s f.comp h → h ≡ by_symbol → Has spec at.s (name_of a)
        by _ (in_rule m) e = absurd (cc)
        by _ (in_symbol of) e = inl (in_body f.comp q of (a, use_it, refl, unlike) own)
        by _ (in_class class heir of) e = inr (class, heir, in_body f.comp q of (a, use_it, refl, unlike) own)

    pub own-there : (first : ℕ) (q : Place) (a : Name) → Contains (leaves_of f.comp) (Read first q a) → IsOwn q → (is_tail spec T q ≡ false) → (IsChain spec (name_of a) → q ≡ place.This) → f.holder ≡ by_symbol
        → IsThere (context_of f) (if contains (name_of a) (chains spec T needs) then Front (name_of a) else Written (name_of a))
    own-there first q a m own no_tail this e = by (contains (name_of a) (chains spec T needs)) refl
      where
        there : symbol_at p (context_of f) ≡ Some (number spec T.symbols at.s)
        there = ap (symbol_at p) (context-own e) ∙ at.its.at

        by : (b : Bool) → contains (name_of a) (chains spec T needs) ≡ b → IsThere (context_of f) (if b then Front (name_of a) else Written (name_of a))
        by true c = chain-there first q a m c (ap (λ b. b && has_start spec T fs (name_of a)) no_tail) (context_of f) refl (number spec T.symbols at.s) there
        by false c = written-there (context_of f) at.s (name_of a) there at.nonterminal (named-own q a own (read-used f.comp first q a m) (λ chain. true≢false (sym chain ∙ c)) e)

    -- no computation of a rule has such a place, and none of a symbol a place with a name
    pub foreign : (first : ℕ) (q : Place) (a : Name) → Contains (leaves_of f.comp) (Read first q a) → Contains at.r.body f.comp → ¬ IsForeign spec early at.r q
    foreign first q a m mr h = no-unknown spec early T accepted (place_at q first) (foreign_in_rule at.r f.comp q at.among mr (read first a m refl) h)

    pub no-name : (first : ℕ) (x : Name) (j : Option ℤ) (a : Name) → Contains (leaves_of f.comp) (Read first (place.Named x j) a) → (s : ℕ) → InBody spec s f.comp → ⊥
    no-name first x j a m s (item, mi, h, mc) = no-unknown spec early T accepted x.at (named_in_symbol item f.comp x j mi mc (read first a m refl))

    -- a TAIL reads at the left side
    pub tail-left : (first : ℕ) (a : Name) → Contains (leaves_of f.comp) (Read first place.Tail a) → context_of f ≡ 0
    tail-left first a m = by f.holder refl at.stands_in at.force
      where
        no-inh : (s b : ℕ) → InBody spec s f.comp → (t : Target) → f.comp.target ≡ t → IsSymbolTarget spec t (Inherited b) → ⊥
        no-inh s b of (target.Attr place.Inh d) e n = no-clash spec early T accepted first (clash.below_in_inh s f.comp d (Read first place.Tail a) of e m (clash.tail a))
        no-inh s b of _ e n = absurd n

        inherited : (o b : ℕ) → InForce spec at.r (suc o) at.s (Inherited b) by_symbol f.comp → ⊥
        inherited o b (of_symbol is unlike own) = no-inh at.s b own.0 f.comp.target refl own.1
        inherited o b (of_class class is unlike no_own left only own) = no-inh class b own.0 f.comp.target refl own.1

        at-zero : (o : ℕ) (g : Goal) → IsGoalAt o g → InForce spec at.r o at.s g by_symbol f.comp → o ≡ 0
        at-zero zero g h force = refl
        at-zero (suc o) (Inherited b) h force = absurd (inherited o b force)
        at-zero (suc o) _ h force = absurd h

        by : (h : Holder) → f.holder ≡ h → Stands spec at.r at.s f.comp h → InForce spec at.r f.occ at.s f.goal h f.comp → context_of f ≡ 0
        by by_rule e stands force = context-zero e
        by by_symbol e stands force = context-own e ∙ at-zero f.occ f.goal (goal-at spec at.r f.occ at.s f.goal by_symbol f.comp force) force
