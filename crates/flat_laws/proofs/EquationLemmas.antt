-- The equations of a plain rule: each is of an attribute that the rule has to compute, and depends on what is there; and each
-- attribute that the rule has to compute has one.
use Rattle.std.specs.Prelude.{Contains, IsTrue, slice_get, map, not, MatchBool}
use Rattle.std.proofs.Common.{◌≡◌, ℕ, zero, suc, inl, inr, Bool, true, false, List, [], ◌∷◌, Option, Some, None, refl, sym, ap, subst, ◌∙◌, arith, true≢false}
use Rattle.std.proofs.lemmas.Option.{none-some, same_Some, slice_get_within}
use Rattle.lido_base.specs.Environment.{Environment}
use Rattle.lido_base.specs.Tree.{contains}
use Rattle.lido_base.specs.declared.kinds.Kind.{Kind}
use Rattle.lido_base.specs.declared.kinds.Kind.TheVariants as kind
use Rattle.lido_base.proofs.Lists.{contains-nil, contains-place, place-contains}
use Rattle.flat_grammar.specs.declared.flat.Occ.{Occ}
use Rattle.flat_grammar.specs.declared.flat.FlatExpr.{FlatExpr}
use Rattle.flat_grammar.specs.WellFormed.{is_synthesized}
use Rattle.lido_syntax.specs.declared.spec.Spec.{Spec}
use Rattle.lido_syntax.specs.declared.spec.Comp.{Comp}
use Rattle.lido_syntax.specs.declared.spec.RuleItem.{RuleItem}
use Rattle.lido_syntax.specs.Production.{left_of, right_of, CanStandAt}
use Rattle.lido_syntax.specs.Symbols.{IsNonterminal}
use Rattle.lido_syntax.specs.Attributes.{Has, HasKind}
use Rattle.lido_syntax.specs.Computation.{Goal, Synthesized, Inherited, Start, Output, Message, Holder, by_rule, by_symbol, IsGoalAt, IsGoalOf, InRule, HasInRule, InForce, of_rule, of_symbol, of_class, HasComputation}
use Rattle.lido_syntax.specs.Computation as goal
use Rattle.lido_syntax.proofs.DecidedLemmas.{dec_computation}
use Rattle.rule_tables.specs.InForceFaults.{left as missing_left, right as missing_right}
use Rattle.rule_tables.specs.PlainRules.{PlainRule, Whole, Link, symbol_at, number, cell}
use Rattle.rule_tables.specs.Forced.{Force, force_for, IsForced, IsWrittenAt}
use Rattle.rule_tables.specs.Needs.{Tables, Needs, AreTables}
use Rattle.rule_tables.specs.Slots.{Slot, Written, Inc, Con, Front, Behind, Msg, Out, HasSlot}
use Rattle.rule_tables.specs.Shares.{Term}
use Rattle.rule_tables.specs.Shares as share
use Rattle.rule_tables.specs.Copies.{computed_needs, message_needs}
use Rattle.rule_tables.specs.Flat.{IsAttributeGoal, IsOfNode, IsSlotKind, Equation, written, including, constituents, chain as by_chain, message_of, output}
use Rattle.flat_laws.proofs.Lists.{mapped-back}
use Rattle.flat_laws.specs.Accepted.{IsAccepted}
use Rattle.flat_laws.proofs.SymbolLemmas.{left-number, left-nonterminal, right-number, nonterminal-number, cell-past}
use Rattle.flat_laws.proofs.RuleLemmas.{IsRuled, IsRuleOf, whole, listing, link, end, is-rule}
use Rattle.flat_laws.proofs.FaultLemmas.{no-clash, no-missing}
use Rattle.flat_laws.proofs.KindLemmas.{synthesized-kind, inherited-kind}
use Rattle.flat_laws.proofs.ForcedLemmas.{IsForcedAt, forced-at, has-context, goal-at, list-target, attribute-in-force, attribute-at-left}
use Rattle.flat_laws.proofs.ReadLemmas.{IsThere}
use Rattle.flat_laws.proofs.TermLemmas.{AreThere, computed-there, given-there, force-copied}
use Rattle.flat_laws.proofs.ShareLemmas.{including-share, constituents-share, chain-share, out-share}

-- a rule computes this kind at the left side, the other at the right side
abbrev pub is_goal_of : ℕ → Kind → Bool
is_goal_of zero k = is_synthesized k
is_goal_of (suc n) k = not (is_synthesized k)

module _ (spec : Spec) where
  list-stands : (r : RuleItem) → r.list ≡ true → (o s : ℕ) → CanStandAt r (suc o) s → CanStandAt r 1 s
  list-stands r l o s h = by r.list l h
    where
      by : (b : Bool) → b ≡ true → MatchBool b (IsTrue (contains s (right_of r))) (slice_get (right_of r) o ≡ Some s) → MatchBool b (IsTrue (contains s (right_of r))) (slice_get (right_of r) 0 ≡ Some s)
      by true e h = h
      by false e h = absurd (true≢false (sym e))

  list-unruled : (r : RuleItem) → r.list ≡ true → (a : ℕ) → ¬ HasInRule spec r 1 (Inherited a)
  list-unruled r l a (c, (m, h)) = let e = list-target spec r l c c.target 1 (Inherited a) h in absurd (omega (arith, e))

  -- in a list rule a symbol's computation is in force at each place
  pub list-place : (r : RuleItem) → r.list ≡ true → (o s a : ℕ) (h : Holder) (c : Comp) → InForce spec r (suc o) s (Inherited a) h c → InForce spec r 1 s (Inherited a) h c
  list-place r l o s a _ c (of_rule at own) = let e = list-target spec r l c c.target (suc o) (Inherited a) own.1 in absurd (omega (arith, e))
  list-place r l o s a _ c (of_symbol at unlike own) = of_symbol (list-stands r l o s at.0, tt) (list-unruled r l a) own
  list-place r l o s a _ c (of_class class at unlike no_own left only own) = of_class class (list-stands r l o s at.0, tt) (list-unruled r l a) no_own left only own

module _ (spec : Spec) (symbols : List ℕ) where
  -- the symbol of this number is a nonterminal or a cell
  pub data IsNode (x : ℕ) : Type 0 where
    node : (s : ℕ) → IsNonterminal spec s → x ≡ number spec symbols s → IsNode x
    node_cell : (i : ℕ) (r : RuleItem) → slice_get spec.rules i ≡ Some r → r.list ≡ true → x ≡ cell spec symbols i → IsNode x

  pub left-node : (p : PlainRule) → IsRuleOf spec symbols p → IsNode p.left
  left-node p (whole r is) = node (left_of r) (left-nonterminal spec r (place-contains spec.rules p.rule r is.rule)) is.left
  left-node p (listing r is) = node (left_of r) (left-nonterminal spec r (place-contains spec.rules p.rule r is.rule)) is.left
  left-node p (link r s is) = node_cell p.rule r is.rule is.list is.left
  left-node p (end r is) = node_cell p.rule r is.rule is.list is.left

module _ (spec : Spec) (early env : Environment) (T : Tables spec) (tables : AreTables spec T env) (accepted : IsAccepted spec early T) (needs : Needs spec T)
    (i : ℕ) (p : PlainRule) (fs : List Force) (is : IsRuled spec env T tables i p fs) where
  its-rule : IsRuleOf spec T.symbols p
  its-rule = is-rule spec env T tables i p fs is

  module _ (slots : ℕ → List Slot) (r : RuleItem) (of : slice_get spec.rules p.rule ≡ Some r) where
    -- what an equation is about, depends on, and has as origin
    pub record IsSound (k : ℕ) (s : Slot) (origin : ℕ) (deps : List Occ) : Type 0 where
      pub slot : IsThere spec early env T tables accepted needs i p fs is k s
      pub of_kind : (kd : Kind) → IsSlotKind spec T slot.x s kd → is_goal_of k kd ≡ true
      pub needed : AreThere spec early env T tables accepted needs i p fs is slots r of deps
      pub of_node : (x : ℕ) × (symbol_at p origin ≡ Some x) × IsNode spec T.symbols x

    left-origin : (x : ℕ) × (symbol_at p 0 ≡ Some x) × IsNode spec T.symbols x
    left-origin = (p.left, refl, left-node spec T.symbols p its-rule)

    written-kind : (f : Force) (a : ℕ) → IsForcedAt spec early T accepted p f → (g : Goal) → f.goal ≡ g → IsAttributeGoal g a → (at : IsForcedAt spec early T accepted p f) → Has spec at.s a × ((kd : Kind) → HasKind spec at.s a kd → is_goal_of f.occ kd ≡ true)
    written-kind f a _ (Synthesized b) e same at = (
      subst (Has spec at.s) same (attribute-at-left spec early T accepted at.r at.among f.occ at.s b f.holder f.comp force),
      λ kd has. by f.occ (goal-at spec at.r f.occ at.s (Synthesized b) f.holder f.comp force) kd
          (synthesized-kind spec early (no-clash spec early T accepted) at.r at.among f.occ at.s a f.holder f.comp kd (subst (λ n. InForce spec at.r f.occ at.s (Synthesized n) f.holder f.comp) same force) has),
    )
      where
        force : InForce spec at.r f.occ at.s (Synthesized b) f.holder f.comp
        force = subst (λ g. InForce spec at.r f.occ at.s g f.holder f.comp) e at.force

        by : (o : ℕ) → IsGoalAt o (Synthesized b) → (kd : Kind) → kd ≡ kind.Synthesized → is_goal_of o kd ≡ true
        by zero h kd e = ap is_synthesized e
        by (suc o) h kd e = absurd h
    written-kind f a _ (Inherited b) e same at = (
      subst (Has spec at.s) same (attribute-in-force spec early T accepted at.r at.among f.occ at.s b f.holder f.comp force),
      λ kd has. by f.occ (goal-at spec at.r f.occ at.s (Inherited b) f.holder f.comp force) kd
          (inherited-kind spec early (no-clash spec early T accepted) at.r at.among f.occ at.s a f.holder f.comp kd (subst (λ n. InForce spec at.r f.occ at.s (Inherited n) f.holder f.comp) same force) has),
    )
      where
        force : InForce spec at.r f.occ at.s (Inherited b) f.holder f.comp
        force = subst (λ g. InForce spec at.r f.occ at.s g f.holder f.comp) e at.force

        by : (o : ℕ) → IsGoalAt o (Inherited b) → (kd : Kind) → kd ≡ kind.Inherited → is_goal_of o kd ≡ true
        by zero h kd e = absurd h
        by (suc o) h kd e = ap (λ k. not (is_synthesized k)) e
    written-kind f a _ (Start c) e same at = absurd same
    written-kind f a _ (goal.Behind c) e same at = absurd same
    written-kind f a _ Output e same at = absurd same
    written-kind f a _ (Message j) e same at = absurd same

    at-zero : (k : ℕ) (s : Slot) (e : Term) → share.ConstituentsShare spec T needs p fs k s e → (x : ℕ) (kd : Kind) → IsSlotKind spec T x s kd → is_goal_of k kd ≡ true
    at-zero _ _ _ (share.gathered c numbered pass) x kd same = ap is_synthesized same

    handed : (k : ℕ) (s : Slot) (e : Term) → share.IncludingShare spec T needs p fs k s e → (x : ℕ) (kd : Kind) → IsSlotKind spec T x s kd → is_goal_of k kd ≡ true
    handed _ _ _ (share.handed_down j y n pairs at its need) x kd same = ap (λ k. not (is_synthesized k)) same

    chained : (k : ℕ) (s : Slot) (e : Term) → share.ChainShare spec T needs p fs k s e → (x : ℕ) (kd : Kind) → IsSlotKind spec T x s kd → is_goal_of k kd ≡ true
    chained _ _ _ (share.in_front j y c at chain need) x kd same = ap (λ k. not (is_synthesized k)) same
    chained _ _ _ (share.behind c chain need) x kd same = ap is_synthesized same

    message-there : (j : ℕ) → AreThere spec early env T tables accepted needs i p fs is slots r of (message_needs spec T needs slots env r p fs j)
    message-there j = by (force_for fs 0 (Message j)) refl
      where
        by : (o : Option Force) → force_for fs 0 (Message j) ≡ o
            → AreThere spec early env T tables accepted needs i p fs is slots r of (elim o as (λ _. List Occ) [ Some f ↦ computed_needs spec T needs slots env r p fs 0 f.comp | None ↦ [] ])
        by None e = λ o m. absurd (contains-nil o m)
        by (Some f) e = given-there spec early env T tables accepted needs i p fs is slots r of _ (force-copied spec early env T tables accepted needs i p fs is (Message j) f e)

    pub equation-sound : (k : ℕ) (s : Slot) (origin : ℕ) (value : FlatExpr) (deps : List Occ) → Equation spec T needs slots env r p fs k s origin value deps → IsSound k s origin deps
    equation-sound _ _ _ _ _ (written f a m g) =
        let at = forced-at spec early T accepted p its-rule f ((is.forced f).0 m) in
        let (has, told) = written-kind f a at f.goal refl g at in
        let context = has-context spec early T accepted p its-rule f at in
        record {
          slot = record { x = number spec T.symbols at.s; at = at.its.at; has = (at.s, nonterminal-number spec env T tables at.s at.nonterminal, at.nonterminal, has) };
          of_kind = λ kd h. told kd (subst (λ s. HasKind spec s a kd) (same_Some h.0 at.s (sym h.1 ∙ nonterminal-number spec env T tables at.s at.nonterminal)) h.2);
          needed = computed-there spec early env T tables accepted needs i p fs is slots r of f m;
          of_node = (number spec T.symbols context.c, context.at, node context.c context.nonterminal refl);
        }
    equation-sound k s _ _ _ (including _ _ e h) = let (there, term) = including-share spec early env T tables accepted needs i p fs is k s e h in record {
      slot = there;
      of_kind = λ kd same. handed k s e h there.x kd same;
      needed = given-there spec early env T tables accepted needs i p fs is slots r of e term;
      of_node = left-origin;
    }
    equation-sound k s _ _ _ (constituents _ _ e h) = let (there, term) = constituents-share spec early env T tables accepted needs i p fs is k s e h in record {
      slot = there;
      of_kind = λ kd same. at-zero k s e h there.x kd same;
      needed = given-there spec early env T tables accepted needs i p fs is slots r of e term;
      of_node = left-origin;
    }
    equation-sound k s _ _ _ (by_chain _ _ e h) = let (there, term) = chain-share spec early env T tables accepted needs i p fs is k s e h in record {
      slot = there;
      of_kind = λ kd same. chained k s e h there.x kd same;
      needed = given-there spec early env T tables accepted needs i p fs is slots r of e term;
      of_node = left-origin;
    }
    equation-sound _ _ _ _ _ (message_of j of_node has) = record {
      slot = record { x = p.left; at = refl; has = has };
      of_kind = λ kd same. ap is_synthesized same;
      needed = message-there j;
      of_node = left-origin;
    }
    equation-sound _ _ _ _ _ (output s at root) = record {
      slot = record { x = p.left; at = refl; has = (s, at, root) };
      of_kind = λ kd same. ap is_synthesized same;
      needed = given-there spec early env T tables accepted needs i p fs is slots r of _ (out-share spec early env T tables accepted needs i p fs is);
      of_node = left-origin;
    }

    -- ---- what has to be computed has an equation

    -- some equation is of this attribute
    pub record HasEquation (k : ℕ) (s : Slot) : Type 0 where
      pub origin : ℕ
      pub value : FlatExpr
      pub deps : List Occ
      pub equation : Equation spec T needs slots env r p fs k s origin value deps

    of-force : (f : Force) (a : ℕ) → IsForced spec p f → IsAttributeGoal f.goal a → HasEquation f.occ (Written a)
    of-force f a h g = record { origin = _; value = _; deps = _; equation = written f a ((is.forced f).1 h) g }

    -- a symbol of this number stands on the left side of a written rule, which is this one
    left-is : (s : ℕ) → slice_get T.symbols p.left ≡ Some s → (left_of r ≡ s) × IsWrittenAt r p.role 0 s × IsOfNode p.role
    left-is s e = by its-rule
      where
        whole-left : (q : RuleItem) → slice_get spec.rules p.rule ≡ Some q → p.left ≡ number spec T.symbols (left_of q) → left_of r ≡ s
        whole-left q of_q left =
            let among = place-contains spec.rules p.rule q of_q in
            ap left_of (same_Some r q (sym of ∙ of_q)) ∙ same_Some (left_of q) s (sym (left-number spec env T tables q among) ∙ ap (slice_get T.symbols) (sym left) ∙ e)

        no-cell : p.left ≡ cell spec T.symbols p.rule → ⊥
        no-cell left = let w = slice_get_within T.symbols p.left s e in let c = cell-past spec T.symbols p.rule in omega (arith, w, c, left)

        by : IsRuleOf spec T.symbols p → (left_of r ≡ s) × IsWrittenAt r p.role 0 s × IsOfNode p.role
        by (whole q h) = let n = whole-left q h.rule h.left in (n, subst (λ k. IsWrittenAt r k 0 s) (sym h.role) (sym n), subst IsOfNode (sym h.role) tt)
        by (listing q h) = let n = whole-left q h.rule h.left in (n, subst (λ k. IsWrittenAt r k 0 s) (sym h.role) (sym n), subst IsOfNode (sym h.role) tt)
        by (link q x h) = absurd (no-cell h.left)
        by (end q h) = absurd (no-cell h.left)

    decided : (o s : ℕ) (g : Goal) → ¬ ¬ HasComputation spec r o s g → HasComputation spec r o s g
    decided o s g h = elim (dec_computation spec T.sets r o s g) [ inl c ↦ c | inr none ↦ absurd (h none) ]

    left-written : (a : ℕ) → HasSlot spec T needs p.left (Written a) → (s : ℕ) → slice_get T.symbols p.left ≡ Some s → HasKind spec s a kind.Synthesized → HasEquation 0 (Written a)
    left-written a (q, at_q, nonterminal, has) s at of_kind =
        let (same, w, n) = left-is s at in
        let its : left_of r ≡ q = same ∙ same_Some s q (sym at ∙ at_q) in
        let (h, c, force) = decided 0 s (Synthesized a) (λ none. no-missing spec early T accepted p.rule 0 a
        (missing_left r a of (subst (λ z. Has spec z a) (sym its) has) (subst (λ z. HasKind spec z a kind.Synthesized) (sym same) of_kind) (subst (λ z. ¬ HasComputation spec r 0 z (Synthesized a)) (sym same) none))) in
        of-force (record { occ = 0; goal = Synthesized a; holder = h; comp = c }) a (r, s, of, w, force) refl

    -- the symbol on the right side of a written rule
    right-missing : (j s a : ℕ) → slice_get (right_of r) j ≡ Some s → Has spec s a → HasKind spec s a kind.Inherited → HasComputation spec r (suc j) s (Inherited a)
    right-missing j s a at has of_kind = decided (suc j) s (Inherited a) (λ none. no-missing spec early T accepted p.rule (suc j) a (missing_right r j s a of at has of_kind none))

    right-written : (j x a : ℕ) → slice_get p.right j ≡ Some x → HasSlot spec T needs x (Written a) → (s : ℕ) → slice_get T.symbols x ≡ Some s → HasKind spec s a kind.Inherited → HasEquation (suc j) (Written a)
    right-written j x a at (q, at_q, nonterminal, has_q) s there of_kind = by its-rule
      where
        has : Has spec s a
        has = subst (λ z. Has spec z a) (same_Some q s (sym at_q ∙ there)) has_q

        numbered-as : (q : RuleItem) → slice_get spec.rules p.rule ≡ Some q → (z : ℕ) → Contains (right_of q) z → x ≡ number spec T.symbols z → z ≡ s
        numbered-as q of_q z m e = same_Some z s (sym (right-number spec env T tables q (place-contains spec.rules p.rule q of_q) z m) ∙ ap (slice_get T.symbols) (sym e) ∙ there)

        no-cell : x ≡ cell spec T.symbols p.rule → ⊥
        no-cell e = let w = slice_get_within T.symbols x s there in let c = cell-past spec T.symbols p.rule in omega (arith, w, c, e)

        in-whole : (q : RuleItem) → slice_get spec.rules p.rule ≡ Some q → q ≡ r → p.role ≡ Whole → p.right ≡ map (number spec T.symbols) (right_of q) → HasEquation (suc j) (Written a)
        in-whole q of_q same role right_is =
            let (z, at_z, e) = mapped-back (number spec T.symbols) (right_of q) j x (ap (λ l. slice_get l j) (sym right_is) ∙ at) in
            let z_is = numbered-as q of_q z (place-contains (right_of q) j z at_z) (sym e) in
            let here : slice_get (right_of r) j ≡ Some s = ap (λ (q : RuleItem). slice_get (right_of q) j) (sym same) ∙ at_z ∙ ap Some z_is in
            let (h, c, force) = right-missing j s a here has of_kind in
            of-force (record { occ = suc j; goal = Inherited a; holder = h; comp = c }) a (r, s, of, subst (λ k. IsWrittenAt r k (suc j) s) (sym role) here, force) refl

        in-link : (z : ℕ) (q : RuleItem) → slice_get spec.rules p.rule ≡ Some q → q ≡ r → q.list ≡ true → p.role ≡ Link z → Contains (right_of q) z → (n : ℕ) → slice_get (number spec T.symbols z ∷ cell spec T.symbols p.rule ∷ []) n ≡ Some x → HasEquation (suc n) (Written a)
        in-link z q of_q same l role m zero g =
            let z_is = numbered-as q of_q z m (sym (same_Some _ x g)) in
            let (k, at_k) = contains-place (right_of r) s (subst (λ (q : RuleItem). Contains (right_of q) s) same (subst (Contains (right_of q)) z_is m)) in
            let (h, c, force) = right-missing k s a at_k has of_kind in
            of-force (record { occ = 1; goal = Inherited a; holder = h; comp = c }) a
            (r, s, of, subst (λ k. IsWrittenAt r k 1 s) (sym role) (sym z_is), list-place spec r (ap (λ (q : RuleItem). q.list) (sym same) ∙ l) k s a h c force) refl
        in-link z q of_q same l role m (suc zero) g = absurd (no-cell (sym (same_Some _ x g)))
        in-link z q of_q same l role m (suc (suc n)) g = absurd (none-some x g)

        in-listing : (n : ℕ) → slice_get (cell spec T.symbols p.rule ∷ []) n ≡ Some x → HasEquation (suc n) (Written a)
        in-listing zero g = absurd (no-cell (sym (same_Some _ x g)))
        in-listing (suc n) g = absurd (none-some x g)

        by : IsRuleOf spec T.symbols p → HasEquation (suc j) (Written a)
        by (whole q h) = in-whole q h.rule (same_Some q r (sym h.rule ∙ of)) h.role h.right
        by (listing q h) = in-listing j (ap (λ l. slice_get l j) (sym h.right) ∙ at)
        by (link q z h) = in-link z q h.rule (same_Some q r (sym h.rule ∙ of)) h.list h.role h.element j (ap (λ l. slice_get l j) (sym h.right) ∙ at)
        by (end q h) = absurd (none-some x (ap (λ l. slice_get l j) (sym h.right) ∙ at))

    synthesized-is : (kd : Kind) → is_synthesized kd ≡ true → kd ≡ kind.Synthesized
    synthesized-is kind.Synthesized e = refl
    synthesized-is kind.Inherited e = absurd (true≢false (sym e))

    inherited-is : (kd : Kind) → not (is_synthesized kd) ≡ true → kd ≡ kind.Inherited
    inherited-is kind.Inherited e = refl
    inherited-is kind.Synthesized e = absurd (true≢false (sym e))

    no-kind : (kd : Kind) → kd ≡ kind.Inherited → is_synthesized kd ≡ true → ⊥
    no-kind kd e f = true≢false (sym f ∙ ap is_synthesized e)

    no-inherited : (kd : Kind) → kd ≡ kind.Synthesized → not (is_synthesized kd) ≡ true → ⊥
    no-inherited kd e f = true≢false (sym f ∙ ap (λ k. not (is_synthesized k)) e)

    pub goal-equation : (k x : ℕ) (s : Slot) (kd : Kind) → symbol_at p k ≡ Some x → HasSlot spec T needs x s → IsSlotKind spec T x s kd → is_goal_of k kd ≡ true → HasEquation k s
    goal-equation zero x s kd at has of_kind goal = by s (subst (λ x. HasSlot spec T needs x s) same has) (subst (λ x. IsSlotKind spec T x s kd) same of_kind)
      where
        same : x ≡ p.left
        same = sym (same_Some p.left x at)

        by : (s : Slot) → HasSlot spec T needs p.left s → IsSlotKind spec T p.left s kd → HasEquation 0 s
        by (Written a) has (q, at_q, of_kind) = left-written a has q at_q (subst (HasKind spec q a) (synthesized-is kd goal) of_kind)
        by (Inc n) has e = absurd (no-kind kd e goal)
        by (Con n) (c, numbered, e, pass) of_kind = subst (λ n. HasEquation 0 (Con n)) e (record { origin = _; value = _; deps = _; equation = constituents 0 (Con c.number) _ (share.gathered c numbered pass) })
        by (Front c) has e = absurd (no-kind kd e goal)
        by (Behind c) (chain_c, need) of_kind = record { origin = _; value = _; deps = _; equation = by_chain 0 (Behind c) _ (share.behind c chain_c need) }
        by (Msg j) (q, at_q, h) of_kind = let (n, w, its_node) = left-is q at_q in record { origin = _; value = _; deps = _; equation = message_of j its_node (q, at_q, h) }
        by Out (q, at_q, root) of_kind = record { origin = _; value = _; deps = _; equation = output q at_q root }
    goal-equation (suc j) x s kd at has of_kind goal = by s has of_kind
      where
        by : (s : Slot) → HasSlot spec T needs x s → IsSlotKind spec T x s kd → HasEquation (suc j) s
        by (Written a) has (q, at_q, of_kind) = right-written j x a at has q at_q (subst (HasKind spec q a) (inherited-is kd goal) of_kind)
        by (Inc n) (pairs, its, need) of_kind = record { origin = _; value = _; deps = _; equation = including (suc j) (Inc n) _ (share.handed_down j x n pairs at its need) }
        by (Con n) has e = absurd (no-inherited kd e goal)
        by (Front c) (chain_c, need) of_kind = record { origin = _; value = _; deps = _; equation = by_chain (suc j) (Front c) _ (share.in_front j x c at chain_c need) }
        by (Behind c) has e = absurd (no-inherited kd e goal)
        by (Msg n) has e = absurd (no-inherited kd e goal)
        by Out has e = absurd (no-inherited kd e goal)
