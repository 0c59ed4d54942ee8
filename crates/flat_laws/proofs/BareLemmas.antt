-- Terminals and classes have no attributes in the flat grammar.
use Rattle.std.specs.Prelude.{Contains, IsTrue, All, slice_get, is_some, zero, suc, nat_eq, map, ◌&&◌, not, if◌then◌else◌}
use Rattle.std.specs.List.{list_any}
use Rattle.std.proofs.Common.{◌≡◌, ℕ, inl, inr, Bool, true, false, List, [], ◌∷◌, length, Option, Some, None, refl, sym, ap, subst, ◌∙◌, arith, eqb-true, true≢false}
use Rattle.std.proofs.lemmas.Option.{same_Some, slice_get_within}
use Rattle.std.proofs.lemmas.List.Elements.{Contains-append_left}
use Rattle.std.proofs.lemmas.Slice.Zip.{AllZip-long}
use Rattle.lido_base.specs.Environment.{Environment}
use Rattle.lido_base.specs.Reach.{source, edge}
use Rattle.lido_base.specs.Tree.{contains}
use Rattle.lido_base.specs.declared.ids.SymId.{SymId}
use Rattle.lido_base.specs.declared.value.ValueType.{ValueType}
use Rattle.lido_base.proofs.Lists.{contains-nil, contains-cons, contains-here, contains-later, contains-map, map-contains, contains-flat, contains-place, place-contains}
use Rattle.lido_base.proofs.TreeLemmas.{both, either, contains-test}
use Rattle.flat_grammar.specs.declared.flat.FlatSymbol.{FlatSymbol}
use Rattle.flat_grammar.specs.declared.flat.FlatRule.{FlatRule}
use Rattle.flat_grammar.specs.declared.flat.Shape.{Shape}
use Rattle.lido_syntax.specs.declared.spec.Spec.{Spec}
use Rattle.lido_syntax.specs.declared.spec.Pair.{Pair}
use Rattle.lido_syntax.specs.declared.spec.Cons.{Cons}
use Rattle.lido_syntax.specs.declared.spec.RuleItem.{RuleItem}
use Rattle.lido_syntax.specs.declared.spec.Expr.{Constituents}
use Rattle.lido_syntax.specs.Parts.{leaves_of}
use Rattle.lido_syntax.specs.Production.{name_of, left_of, right_of}
use Rattle.lido_syntax.specs.Sets.{stands_for, is_source}
use Rattle.lido_syntax.specs.Symbols.{IsNonterminal, is_nonterminal}
use Rattle.lido_symbols.specs.Uses.{computations, is_same_option}
use Rattle.kind_clashes.specs.KindClash.{IsPlainTerminal}
use Rattle.kind_clashes.specs.KindClash as clash
use Rattle.rule_tables.specs.PlainRules.{PlainRule, symbol_at, number, cell, is_child}
use Rattle.rule_tables.specs.Forced.{Force, context_of}
use Rattle.rule_tables.specs.Needs.{Tables, Needs, AreTables, rules, ruled, is_at, in_force_at, listed_at, uses_constituents, shield_at, source_at, has_start, NeedsIncluding, IsWanted, CanReach, NeedsChain}
use Rattle.rule_tables.specs.Slots.{Slot, Written, Inc, Con, Front, Behind, Msg, Out, HasSlot, HasMessage, AreSlots}
use Rattle.rule_tables.specs.Flat.{IsFlat, IsAttribute, IsSymbolType}
use Rattle.rule_tables.proofs.NeedsLemmas.{any-found}
use Rattle.flat_laws.specs.Accepted.{IsAccepted}
use Rattle.flat_laws.proofs.Lists.{all-places}
use Rattle.flat_laws.proofs.SymbolLemmas.{left-nonterminal, right-number, nonterminal-number, cell-past}
use Rattle.flat_laws.proofs.RuleLemmas.{ruled-at, is-rule, rule-of, IsRuleOf, whole, listing, link, end}
use Rattle.flat_laws.proofs.FlatSymbolLemmas.{IsSymbolAt, named, cell_of, symbol-at}
use Rattle.flat_laws.proofs.FaultLemmas.{no-clash, no-class, plain-terminal}
use Rattle.flat_laws.proofs.ForcedLemmas.{forced-at, has-context}
use Rattle.flat_laws.proofs.EquationLemmas.{IsNode, node, node_cell, left-node}
use Rattle.flat_laws.proofs.ShareLemmas.{in-text, constituents-leaf}

same-option : (o : Option ℕ) (x : ℕ) → IsTrue (is_same_option o (Some x)) → o ≡ Some x
same-option None x h = absurd (true≢false (sym h))
same-option (Some y) x h = ap Some (eqb-true y x h)

if-left : (a b : Bool) → IsTrue (if a then b else false) → IsTrue a × IsTrue b
if-left true b h = (refl, h)
if-left false b h = absurd (true≢false (sym h))

module _ (spec : Spec) (early env : Environment) (T : Tables spec) (tables : AreTables spec T env) (accepted : IsAccepted spec early T) (needs : Needs spec T)
    (x s : ℕ) (at : slice_get T.symbols x ≡ Some s) (no_nonterminal : ¬ IsNonterminal spec s) where
  -- no plain rule has it on its left side
  not-node : ¬ IsNode spec T.symbols x
  not-node (node q n e) = no_nonterminal (subst (IsNonterminal spec) (same_Some q s (sym (nonterminal-number spec env T tables q n) ∙ ap (slice_get T.symbols) (sym e) ∙ at)) n)
  not-node (node_cell i r of l e) = let w = slice_get_within T.symbols x s at in let c = cell-past spec T.symbols i in absurd (omega (arith, w, c, e))

  not-left : (p : PlainRule) → Contains (rules spec T) p → p.left ≡ x → ⊥
  not-left p m e = not-node (subst (IsNode spec T.symbols) e (left-node spec T.symbols p (rule-of spec T.symbols p m)))

  not-parent : (y : ℕ) → ¬ IsTrue (is_child (rules spec T) x y)
  not-parent y h =
      let (p, m, pass) = any-found (λ (p : PlainRule). if nat_eq p.left x then contains y p.right else false) (rules spec T) h in
      not-left p m (eqb-true p.left x (if-left (nat_eq p.left x) (contains y p.right) pass).0)

  -- nothing is in force there
  not-in-force : (test : List Force → Force → Bool) → ¬ IsTrue (in_force_at spec T test x)
  not-in-force test h =
      let (t, mt, pass) = any-found (λ (t : PlainRule × List Force). list_any (λ f. is_at spec T t.0 f x && test t.1 f) t.1) (ruled spec T) h in
      let (f, mf, is) = any-found (λ f. is_at spec T t.0 f x && test t.1 f) t.1 pass in
      let (i, e) = contains-place (ruled spec T) t mt in
      let of = ruled-at spec env T tables i t.0 t.1 e in
      let its = is-rule spec env T tables i t.0 t.1 of in
      let context = has-context spec early T accepted t.0 its f (forced-at spec early T accepted t.0 its f ((of.forced f).0 mf)) in
      let here = same-option (symbol_at t.0 (context_of f)) x (both (is_at spec T t.0 f x) (test t.1 f) is).0 in
      not-node (node context.c context.nonterminal (same_Some x (number spec T.symbols context.c) (sym here ∙ context.at)))

  no-including : (pairs : List Pair) → ¬ NeedsIncluding spec T pairs x
  no-including pairs (source h) = not-in-force _ h
  no-including pairs (edge {c = y} h later) = not-parent y (both (not (is_some (listed_at spec T pairs x))) (is_child (rules spec T) x y) h).1

  no-chain : (c : ℕ) → ¬ NeedsChain spec T c x
  no-chain c (source h) = not-in-force _ h
  no-chain c (edge {c = y} h later) =
      let (t, mt, pass) = any-found (λ (t : PlainRule × List Force). nat_eq t.0.left x && not (has_start spec T t.1 c) && contains y t.0.right) (ruled spec T) h in
      let (i, e) = contains-place (ruled spec T) t mt in
      let of = ruled-at spec env T tables i t.0 t.1 e in
      not-left t.0 (place-contains (rules spec T) i t.0 of.plain) (eqb-true t.0.left x (first (nat_eq t.0.left x) (not (has_start spec T t.1 c)) (contains y t.0.right) pass))
    where
      first : (a b c : Bool) → IsTrue (a && b && c) → IsTrue a
      first true b c h = refl
      first false b c h = absurd (true≢false (sym h))

  -- what stands on the right side of a plain rule and is no cell stands on that of a written one
  on-right : (p : PlainRule) → Contains (rules spec T) p → Contains p.right x → (r : RuleItem) × Contains spec.rules r × Contains (right_of r) s
  on-right p mp m = by (rule-of spec T.symbols p mp)
    where
      numbered : (q : RuleItem) → slice_get spec.rules p.rule ≡ Some q → (z : ℕ) → Contains (right_of q) z → x ≡ number spec T.symbols z → (r : RuleItem) × Contains spec.rules r × Contains (right_of r) s
      numbered q of z mz e =
          let among = place-contains spec.rules p.rule q of in
          (q, among, subst (Contains (right_of q)) (same_Some z s (sym (right-number spec env T tables q among z mz) ∙ ap (slice_get T.symbols) (sym e) ∙ at)) mz)

      no-cell : (i : ℕ) → x ≡ cell spec T.symbols i → ⊥
      no-cell i e = let w = slice_get_within T.symbols x s at in let c = cell-past spec T.symbols i in omega (arith, w, c, e)

      by : IsRuleOf spec T.symbols p → (r : RuleItem) × Contains spec.rules r × Contains (right_of r) s
      by (whole q h) = let (z, mz, e) = contains-map (number spec T.symbols) (right_of q) x (subst (λ l. Contains l x) h.right m) in numbered q h.rule z mz (sym e)
      by (listing q h) = elim (contains-cons (cell spec T.symbols p.rule) x [] (subst (λ l. Contains l x) h.right m)) [ inl e ↦ absurd (no-cell p.rule (sym e)) | inr n ↦ absurd (contains-nil x n) ]
      by (link q z h) = elim (contains-cons (number spec T.symbols z) x (cell spec T.symbols p.rule ∷ []) (subst (λ l. Contains l x) h.right m)) [
        | inl e ↦ numbered q h.rule z h.element (sym e)
        | inr n ↦ elim (contains-cons (cell spec T.symbols p.rule) x [] n) [ inl e ↦ absurd (no-cell p.rule (sym e)) | inr z ↦ absurd (contains-nil x z) ]
      ]
      by (end q h) = absurd (contains-nil x (subst (λ l. Contains l x) h.right m))

  wanted-right : (k : Cons) → IsWanted spec T k x → (r : RuleItem) × Contains spec.rules r × Contains (right_of r) s
  wanted-right k (source h) =
      let (p, m, pass) = any-found (λ (p : PlainRule). contains x p.right && uses_constituents spec T k p.left) (rules spec T) h in
      on-right p m (contains-test x p.right (both (contains x p.right) (uses_constituents spec T k p.left) pass).0)
  wanted-right k (edge {c = y} h later) =
      let child = (both (is_child (rules spec T) y x) (not (shield_at spec T k y)) h).0 in
      let (p, m, pass) = any-found (λ (p : PlainRule). if nat_eq p.left y then contains x p.right else false) (rules spec T) child in
      on-right p m (contains-test x p.right (if-left (nat_eq p.left y) (contains x p.right) pass).1)

  -- a terminal on a right side is no source
  no-source : (k : Cons) → Contains T.constituents k → (r : RuleItem) → Contains spec.rules r → Contains (right_of r) s → ¬ IsTrue (source_at spec T k x)
  no-source k numbered r among m h =
      let is = ap (λ (o : Option ℕ). elim o as (λ _. Bool) [ None ↦ false | Some s ↦ is_source spec T.sets.inherits k s ]) (sym at) ∙ h in
      let (q, mq, pass) = any-found (λ (p : Pair). stands_for spec T.sets.inherits s p.sym) k.pairs is in
      let no_class = no-class spec early T accepted r among s (contains-later (left_of r) s (right_of r) m) in
      plain-terminal spec early T accepted r among s m no_class no_nonterminal (λ plain. clashes q mq (named q pass) plain)
    where
      named : (q : Pair) → IsTrue (stands_for spec T.sets.inherits s q.sym) → name_of q.sym ≡ s
      named q pass = elim (either (nat_eq (name_of q.sym) s) (is_nonterminal spec s && T.sets.inherits s (name_of q.sym)) pass) [
        | inl e ↦ eqb-true (name_of q.sym) s e
        | inr n ↦ absurd (no_nonterminal (both (is_nonterminal spec s) (T.sets.inherits s (name_of q.sym)) n).0)
      ]

      clashes : (q : Pair) → Contains k.pairs q → name_of q.sym ≡ s → IsPlainTerminal spec s → ⊥
      clashes q mq e plain =
          let (c, mc, ml) = contains-flat leaves_of (computations spec) (Constituents k) (constituents-leaf spec early env T tables accepted needs k numbered) in
          no-clash spec early T accepted q.sym.at (clash.attribute_of_terminal (clash.by_remote_list (Constituents k) q.sym (c, in-text spec early T accepted c mc, ml)
          (Contains-append_left (map (λ (p : Pair). p.sym) k.pairs) k.shield q.sym (map-contains (λ (p : Pair). p.sym) k.pairs q mq)) (subst (IsPlainTerminal spec) (sym e) plain) refl))

  no-reach : (k : Cons) → Contains T.constituents k → (r : RuleItem) → Contains spec.rules r → Contains (right_of r) s → ¬ CanReach spec T k x
  no-reach k numbered r among m (source h) = no-source k numbered r among m h
  no-reach k numbered r among m (edge {c = y} h later) = not-parent y (both (not (shield_at spec T k x)) (is_child (rules spec T) x y) h).1

  no-message : (q j : ℕ) → slice_get T.symbols x ≡ Some q → ¬ HasMessage spec T needs q j
  no-message q zero e h = h
  no-message q (suc j) e (r, among, of, h) = no_nonterminal (subst (IsNonterminal spec) (of ∙ same_Some q s (sym e ∙ at)) (left-nonterminal spec r among))

  pub no-slot : (slot : Slot) → ¬ HasSlot spec T needs x slot
  no-slot (Written a) (q, e, n, has) = no_nonterminal (subst (IsNonterminal spec) (same_Some q s (sym e ∙ at)) n)
  no-slot (Inc i) (pairs, its, need) = no-including pairs ((needs.including_exactly pairs x).0 need)
  no-slot (Con n) (k, numbered, e, pass) =
      let (wanted, reaches) = both (needs.wanted k x) (needs.reaches k x) pass in
      let (r, among, m) = wanted-right k ((needs.wanted_exactly k x).0 wanted) in
      no-reach k numbered r among m ((needs.reaches_exactly k x).0 reaches)
  no-slot (Front c) (chain, need) = no-chain c ((needs.chain_exactly c x).0 need)
  no-slot (Behind c) (chain, need) = no-chain c ((needs.chain_exactly c x).0 need)
  no-slot (Msg j) (q, e, h) = no-message q j e h
  no-slot Out (q, e, root) = no_nonterminal (subst (IsNonterminal spec) (same_Some q s (sym e ∙ at)) root.0)

no-items : {X : Type 0} (xs : List X) → ((x : X) → ¬ Contains xs x) → xs ≡ []
no-items [] h = refl
no-items (x ∷ xs) h = absurd (h x (contains-here x xs))

module _ (spec : Spec) (early env : Environment) (T : Tables spec) (tables : AreTables spec T env) (accepted : IsAccepted spec early T) (needs : Needs spec T) (slots : ℕ → List Slot) (are : AreSlots spec T needs slots)
    (symbols : List FlatSymbol) (flat_rules : List FlatRule) (shapes : List Shape) (root : SymId) (is : IsFlat spec T needs slots env symbols flat_rules shapes root) where
  terminal-type : (s : ℕ) (o : Option ValueType) → IsTrue (is_some o) → IsSymbolType spec T needs slots env s o → ¬ IsNonterminal spec s
  terminal-type s None h ty = absurd (true≢false (sym h))
  terminal-type s (Some t) h ty = ty.0

  pub terminals-bare : All (λ (y : FlatSymbol). IsTrue (is_some y.terminal) → y.attrs ≡ []) symbols
  terminals-bare = all-places (λ (y : FlatSymbol). IsTrue (is_some y.terminal) → y.attrs ≡ []) symbols (λ x y f terminal. by x y f terminal (symbol-at spec env T tables needs slots symbols flat_rules shapes root is x y f))
    where
      by : (x : ℕ) (y : FlatSymbol) → slice_get symbols x ≡ Some y → IsTrue (is_some y.terminal) → IsSymbolAt spec env T tables needs slots symbols flat_rules shapes root is x y → y.attrs ≡ []
      by x y f terminal (named s its) =
          let none = no-items (slots x) (λ slot m. no-slot spec early env T tables accepted needs x s its.number (terminal-type s y.terminal terminal its.ty) slot ((are.all x slot).0 m)) in
          let same = AllZip-long (IsAttribute spec T needs slots env x) (slots x) y.attrs (is.attributes x y f) in
          let zero_long : length (slots x) ≡ 0 = ap (λ (l : List Slot). length l) none in
          no-items y.attrs (λ a m. (let w = m.1 in absurd (omega (arith, w, same, zero_long))))
      by x y f terminal (cell_of i r its) = absurd (true≢false (sym terminal ∙ ap (λ (o : Option ValueType). is_some o) its.bare))
