-- Entries that are filled in their order are those of the plain rule.
use Rattle.std.specs.Prelude.{slice_get, Contains}
use Rattle.std.proofs.Common.{◌≡◌, ℕ, zero, suc, ◌+◌, ◌<◌, ◌≤◌, ◌⊎◌, inl, inr, arith, List, [], ◌∷◌, ◌++◌, length, get_or, Option, Some, None, refl, sym, ap, ◌∙◌, subst, append-nil}
use Rattle.std.proofs.lemmas.Option.{same_Some}
use Rattle.std.proofs.lemmas.Bool.{cases_lt}
use Rattle.std.proofs.lemmas.List.Quantifiers.{all_pairs_push}
use Rattle.std.proofs.lemmas.List.Elements.{Contains-get_or, Contains-push, Contains-push_cases, Contains-append_left}
use Rattle.lido_base.specs.declared.ids.AttrId.{AttrId}
use Rattle.lido_base.proofs.Lists.{contains-nil, place-contains}
use Rattle.flat_grammar.specs.declared.flat.FlatAttr.{FlatAttr}
use Rattle.lido_syntax.specs.declared.spec.Comp.{Comp}
use Rattle.lido_syntax.specs.declared.spec.Typed1.{Typed1}
use Rattle.lido_syntax.specs.declared.spec.RuleItem.{RuleItem}
use Rattle.lido_syntax.specs.Production.{name_of}
use Rattle.lido_syntax.specs.Computation as written
use Rattle.lido_syntax.specs.Computation.{Synthesized, Inherited, Start, Behind, Output, Message, Holder, by_rule, by_symbol, InForce, of_rule, of_symbol, of_class, IsGoalAt}
use Rattle.lido_syntax.proofs.ComputationLemmas.{one_in_force}
use Rattle.rule_tables.specs.declared.table.Tables.{Tables}
use Rattle.rule_tables.specs.declared.table.SymbolRow.{SymbolRow}
use Rattle.rule_tables.specs.declared.forced.Force.{Force as Entry}
use Rattle.rule_tables.specs.declared.forced.Goal.{Goal}
use Rattle.rule_tables.specs.declared.forced.Goal.TheVariants as goal
use Rattle.rule_tables.specs.PlainRules.{PlainRule, Role, Whole, Listing, Link, End, symbol_at}
use Rattle.rule_tables.specs.Forced.{Force, context_of, IsForced, IsWrittenAt}
use Rattle.rule_tables.specs.ForcedOf.{IsAttributeAt, IsChainAt, IsGoalAs, IsEntryOf, IsEarlier, kind_of, number_in}
use Rattle.lido_syntax.specs.Completeness.{IsSingle}
use Rattle.symbol_inherit.specs.Forces.{IsHeld, context_by}
use Rattle.symbol_inherit.specs.Entries.{entry, entries_of, IsEntry, IsBelow, AreUpTo, IsOccurrenceOf}
use Rattle.symbol_inherit.specs.declared.forced.Held.{Held}

-- one written symbol at an occurrence
pub written-one : (r : RuleItem) (role : Role) (o s q : ℕ) → IsWrittenAt r role o s → IsWrittenAt r role o q → s ≡ q
written-one r Whole zero s q h k = h ∙ sym k
written-one r Whole (suc o) s q h k = same_Some s q (sym h ∙ k)
written-one r Listing zero s q h k = h ∙ sym k
written-one r Listing (suc o) s q h k = absurd h
written-one r (Link x) zero s q h k = absurd h
written-one r (Link x) (suc zero) s q h k = h ∙ sym k
written-one r (Link x) (suc (suc o)) s q h k = absurd h
written-one r End zero s q h k = absurd h
written-one r End (suc o) s q h k = absurd h

-- one goal of kind and number
same-goal : (g h : Goal) → kind_of g ≡ kind_of h → number_in g ≡ number_in h → g ≡ h
same-goal (goal.Attr i) (goal.Attr j) k n = λ z. goal.Attr (record { 0 = n z })
same-goal (goal.Attr i) (goal.Start j) k n = absurd (omega arith)
same-goal (goal.Attr i) (goal.Behind j) k n = absurd (omega arith)
same-goal (goal.Attr i) goal.Out k n = absurd (omega arith)
same-goal (goal.Attr i) (goal.Message j) k n = absurd (omega arith)
same-goal (goal.Start i) (goal.Start j) k n = ap (λ z. goal.Start z) n
same-goal (goal.Start i) (goal.Attr j) k n = absurd (omega arith)
same-goal (goal.Start i) (goal.Behind j) k n = absurd (omega arith)
same-goal (goal.Start i) goal.Out k n = absurd (omega arith)
same-goal (goal.Start i) (goal.Message j) k n = absurd (omega arith)
same-goal (goal.Behind i) (goal.Behind j) k n = ap (λ z. goal.Behind z) n
same-goal (goal.Behind i) (goal.Attr j) k n = absurd (omega arith)
same-goal (goal.Behind i) (goal.Start j) k n = absurd (omega arith)
same-goal (goal.Behind i) goal.Out k n = absurd (omega arith)
same-goal (goal.Behind i) (goal.Message j) k n = absurd (omega arith)
same-goal goal.Out goal.Out k n = refl
same-goal goal.Out (goal.Attr j) k n = absurd (omega arith)
same-goal goal.Out (goal.Start j) k n = absurd (omega arith)
same-goal goal.Out (goal.Behind j) k n = absurd (omega arith)
same-goal goal.Out (goal.Message j) k n = absurd (omega arith)
same-goal (goal.Message i) (goal.Message j) k n = ap (λ z. goal.Message z) n
same-goal (goal.Message i) (goal.Attr j) k n = absurd (omega arith)
same-goal (goal.Message i) (goal.Start j) k n = absurd (omega arith)
same-goal (goal.Message i) (goal.Behind j) k n = absurd (omega arith)
same-goal (goal.Message i) goal.Out k n = absurd (omega arith)

one-attribute : (t : Tables) (x : ℕ) (id : AttrId) (a b : ℕ) → IsAttributeAt t x id a → IsAttributeAt t x id b → a ≡ b
one-attribute t x id a b (row, attr, e, f, n) (other, next, g, h, m) =
    let same = same_Some row other (sym e ∙ g) in
    let its = same_Some attr next (sym f ∙ ap (λ (r : SymbolRow). slice_get r.attrs id.0) same ∙ h) in
    sym n ∙ ap (λ (z : FlatAttr). z.name.0) its ∙ m

one-chain : (t : Tables) (i c d : ℕ) → IsChainAt t i c → IsChainAt t i d → c ≡ d
one-chain t i c d (x, e, n) (y, f, m) = sym n ∙ ap (λ (z : Typed1). name_of z.name) (same_Some x y (sym e ∙ f)) ∙ m

module _ (t : Tables) (x : ℕ) where
  attribute-goal : (o : ℕ) (id : AttrId) (v w : written.Goal) → IsGoalAs t x (goal.Attr id) v → IsGoalAs t x (goal.Attr id) w → IsGoalAt o v → IsGoalAt o w → v ≡ w
  attribute-goal o id (Synthesized a) (Synthesized b) h k p q = ap Synthesized (one-attribute t x id a b h k)
  attribute-goal o id (Inherited a) (Inherited b) h k p q = ap Inherited (one-attribute t x id a b h k)
  attribute-goal zero id (Synthesized a) (Inherited b) h k p q = absurd q
  attribute-goal (suc o) id (Synthesized a) (Inherited b) h k p q = absurd p
  attribute-goal zero id (Inherited a) (Synthesized b) h k p q = absurd p
  attribute-goal (suc o) id (Inherited a) (Synthesized b) h k p q = absurd q
  attribute-goal o id (Synthesized a) (Start c) h k p q = absurd k
  attribute-goal o id (Synthesized a) (Behind c) h k p q = absurd k
  attribute-goal o id (Synthesized a) Output h k p q = absurd k
  attribute-goal o id (Synthesized a) (Message j) h k p q = absurd k
  attribute-goal o id (Inherited a) (Start c) h k p q = absurd k
  attribute-goal o id (Inherited a) (Behind c) h k p q = absurd k
  attribute-goal o id (Inherited a) Output h k p q = absurd k
  attribute-goal o id (Inherited a) (Message j) h k p q = absurd k
  attribute-goal o id (Start c) w h k p q = absurd h
  attribute-goal o id (Behind c) w h k p q = absurd h
  attribute-goal o id Output w h k p q = absurd h
  attribute-goal o id (Message j) w h k p q = absurd h

  pub as-start : (i : ℕ) (v : written.Goal) → IsGoalAs t x (goal.Start i) v → (c : ℕ) × (v ≡ Start c) × IsChainAt t i c
  as-start i (Start c) h = (c, refl, h)
  as-start i (Synthesized a) h = absurd h
  as-start i (Inherited a) h = absurd h
  as-start i (Behind c) h = absurd h
  as-start i Output h = absurd h
  as-start i (Message j) h = absurd h

  pub as-behind : (i : ℕ) (v : written.Goal) → IsGoalAs t x (goal.Behind i) v → (c : ℕ) × (v ≡ Behind c) × IsChainAt t i c
  as-behind i (Behind c) h = (c, refl, h)
  as-behind i (Synthesized a) h = absurd h
  as-behind i (Inherited a) h = absurd h
  as-behind i (Start c) h = absurd h
  as-behind i Output h = absurd h
  as-behind i (Message j) h = absurd h

  pub as-out : (v : written.Goal) → IsGoalAs t x goal.Out v → v ≡ Output
  as-out Output h = refl
  as-out (Synthesized a) h = absurd h
  as-out (Inherited a) h = absurd h
  as-out (Start c) h = absurd h
  as-out (Behind c) h = absurd h
  as-out (Message j) h = absurd h

  pub as-message : (i : ℕ) (v : written.Goal) → IsGoalAs t x (goal.Message i) v → v ≡ Message i
  as-message i (Message j) h = ap Message (sym h)
  as-message i (Synthesized a) h = absurd h
  as-message i (Inherited a) h = absurd h
  as-message i (Start c) h = absurd h
  as-message i (Behind c) h = absurd h
  as-message i Output h = absurd h

  one-goal : (o : ℕ) (g : Goal) (v w : written.Goal) → IsGoalAs t x g v → IsGoalAs t x g w → IsGoalAt o v → IsGoalAt o w → v ≡ w
  one-goal o (goal.Attr id) v w h k p q = attribute-goal o id v w h k p q
  one-goal o (goal.Start i) v w h k p q =
      let (c, e, m) = as-start i v h in
      let (d, f, n) = as-start i w k in
      e ∙ ap Start (one-chain t i c d m n) ∙ sym f
  one-goal o (goal.Behind i) v w h k p q =
      let (c, e, m) = as-behind i v h in
      let (d, f, n) = as-behind i w k in
      e ∙ ap Behind (one-chain t i c d m n) ∙ sym f
  one-goal o goal.Out v w h k p q = as-out v h ∙ sym (as-out w k)
  one-goal o (goal.Message i) v w h k p q = as-message i v h ∙ sym (as-message i w k)

-- a computation in force is for a goal of its occurrence
pub goal-in-force : (t : Tables) (r : RuleItem) (o s : ℕ) (g : written.Goal) (h : Holder) (c : Comp) → InForce t.spec r o s g h c → IsGoalAt o g
goal-in-force t r o s g h c (of_rule at own) = at.1
goal-in-force t r o s g h c (of_symbol at none own) = at.1
goal-in-force t r o s g h c (of_class class at none no_own left only own) = at.1

held-context : (f : Force) (h : Holder) → f.holder ≡ h → context_of f ≡ context_by h f.occ
held-context f by_rule e = ap (λ z. elim z [ by_rule ↦ 0 | by_symbol ↦ f.occ ]) e
held-context f by_symbol e = ap (λ z. elim z [ by_rule ↦ 0 | by_symbol ↦ f.occ ]) e

module _ (e : Entry) (k o n : ℕ) where
  below-more : IsBelow e k o n → IsBelow e k o (n + 1)
  below-more (inl h) = inl h
  below-more (inr (h, inl l)) = inr (h, inl l)
  below-more (inr (h, inr (q, l))) = inr (h, inr (q, omega arith))

  below-split : IsBelow e k o (n + 1) → IsBelow e k o n ⊎ ((kind_of e.goal ≡ k) × (e.occ ≡ o) × (number_in e.goal ≡ n))
  below-split (inl h) = inl (inl h)
  below-split (inr (h, inl l)) = inl (inr (h, inl l))
  below-split (inr (h, inr (q, l))) = by (cases_lt (number_in e.goal) n)
    where
      by : (number_in e.goal < n) ⊎ (n ≤ number_in e.goal) → IsBelow e k o n ⊎ ((kind_of e.goal ≡ k) × (e.occ ≡ o) × (number_in e.goal ≡ n))
      by (inl g) = inl (inr (h, inr (q, g)))
      by (inr g) = inr (h, q, omega arith)

  below-occ : IsBelow e k o n → IsBelow e k (o + 1) 0
  below-occ (inl h) = inl h
  below-occ (inr (h, inl l)) = inr (h, inl (omega arith))
  below-occ (inr (h, inr (q, l))) = inr (h, inl (omega arith))

  occ-split : IsBelow e k (o + 1) 0 → IsBelow e k o n ⊎ ((kind_of e.goal ≡ k) × (e.occ ≡ o) × (n ≤ number_in e.goal))
  occ-split (inl h) = inl (inl h)
  occ-split (inr (h, inr (q, l))) = absurd (omega arith)
  occ-split (inr (h, inl l)) = by (cases_lt e.occ o) (cases_lt (number_in e.goal) n)
    where
      by : (e.occ < o) ⊎ (o ≤ e.occ) → (number_in e.goal < n) ⊎ (n ≤ number_in e.goal) → IsBelow e k o n ⊎ ((kind_of e.goal ≡ k) × (e.occ ≡ o) × (n ≤ number_in e.goal))
      by (inl g) _ = inl (inr (h, inl g))
      by (inr g) (inl f) = inl (inr (h, inr (omega arith, f)))
      by (inr g) (inr f) = inr (h, omega arith, f)

  below-kind : IsBelow e k o n → IsBelow e (k + 1) 0 0
  below-kind (inl h) = inl (omega arith)
  below-kind (inr (h, _)) = inl (omega arith)

  kind-split : IsBelow e (k + 1) 0 0 → IsBelow e k o 0 ⊎ ((kind_of e.goal ≡ k) × (o ≤ e.occ))
  kind-split (inr (h, inl l)) = absurd (omega arith)
  kind-split (inr (h, inr (q, l))) = absurd (omega arith)
  kind-split (inl h) = by (cases_lt (kind_of e.goal) k) (cases_lt e.occ o)
    where
      by : (kind_of e.goal < k) ⊎ (k ≤ kind_of e.goal) → (e.occ < o) ⊎ (o ≤ e.occ) → IsBelow e k o 0 ⊎ ((kind_of e.goal ≡ k) × (o ≤ e.occ))
      by (inl g) _ = inl (inl g)
      by (inr g) (inl f) = inl (inr (omega arith, inl f))
      by (inr g) (inr f) = inr (omega arith, f)

module _ (t : Tables) (p : PlainRule) where
  pub none-yet : (entries : List Entry) → entries ≡ [] → AreUpTo t p 0 0 0 entries
  none-yet entries e = record {
    each = λ d m. absurd (contains-nil d (subst (λ l. Contains l d) e m));
    all = λ d is below. nothing d below;
    in_order = λ i j d l w. absurd (let z = ap (λ (l : List Entry). length l) e in omega arith);
  }
    where
      nothing : (d : Entry) → IsBelow d 0 0 0 → Contains entries d
      nothing d (inl h) = absurd (omega arith)
      nothing d (inr (h, inl l)) = absurd (omega arith)
      nothing d (inr (h, inr (q, l))) = absurd (omega arith)

  -- no more at an occurrence
  pub next-occ : (k o n : ℕ) (entries : List Entry) → AreUpTo t p k o n entries → ((d : Entry) → IsEntry t p d → kind_of d.goal ≡ k → d.occ ≡ o → n ≤ number_in d.goal → ⊥) → AreUpTo t p k (o + 1) 0 entries
  next-occ k o n entries up none = record {
    each = λ d m. let (is, below) = up.each d m in (is, below-occ d k o n below);
    all = λ d is below. elim (occ-split d k o n below) [ inl h ↦ up.all d is h | inr (h, q, l) ↦ absurd (none d is h q l) ];
    in_order = up.in_order;
  }

  -- no more of a kind
  pub next-kind : (k o : ℕ) (entries : List Entry) → AreUpTo t p k o 0 entries → ((d : Entry) → IsEntry t p d → kind_of d.goal ≡ k → o ≤ d.occ → ⊥) → AreUpTo t p (k + 1) 0 0 entries
  next-kind k o entries up none = record {
    each = λ d m. let (is, below) = up.each d m in (is, below-kind d k o 0 below);
    all = λ d is below. elim (kind-split d k o 0 below) [ inl h ↦ up.all d is h | inr (h, l) ↦ absurd (none d is h l) ];
    in_order = up.in_order;
  }

  module _ (r : RuleItem) (single : IsSingle t.spec) (o s x : ℕ) (occurs : IsOccurrenceOf t p r o s x) where
    -- what is in force at the occurrence
    pub in-force-here : (f : Force) → IsForced t.spec p f → f.occ ≡ o → InForce t.spec r o s f.goal f.holder f.comp
    in-force-here f (q, z, of, at, force) e =
        let rule : q ≡ r = same_Some q r (sym of ∙ occurs.of_rule) in
        let symbol : z ≡ s = written-one r p.role o z s (subst (λ k. IsWrittenAt r p.role k z) e (subst (λ q. IsWrittenAt q p.role f.occ z) rule at)) occurs.written in
        subst (λ q. InForce t.spec q o s f.goal f.holder f.comp) rule (subst (λ z. InForce t.spec q o z f.goal f.holder f.comp) symbol (subst (λ k. InForce t.spec q k z f.goal f.holder f.comp) e force))

    pub goal-here : (d : Entry) (f : Force) → IsEntryOf t p d f → d.occ ≡ o → IsGoalAs t x d.goal f.goal
    goal-here d f of e = subst (λ z. IsGoalAs t z d.goal f.goal) (same_Some of.symbol x (sym of.at ∙ ap (symbol_at p) e ∙ occurs.at)) of.goal

    module _ (g : Goal) (w : written.Goal) (told : IsGoalAs t x g w) (at : IsGoalAt o w) where
      same-at : (d : Entry) (f : Force) → IsForced t.spec p f → IsEntryOf t p d f → kind_of d.goal ≡ kind_of g → d.occ ≡ o → number_in d.goal ≡ number_in g
          → InForce t.spec r o s w f.holder f.comp
      same-at d f forced of k q n =
          let force = in-force-here f forced (sym of.occ ∙ q) in
          let same : f.goal ≡ w = one-goal t x o g f.goal w (subst (λ z. IsGoalAs t x z f.goal) (same-goal d.goal g k n) (goal-here d f of q)) told
          (goal-in-force t r o s f.goal f.holder f.comp force) at in
          subst (λ z. InForce t.spec r o s z f.holder f.comp) same force

      -- one goal more
      pub held-more : (held : Option Held) → IsHeld t.spec r o s w held → (old new : List Entry) → AreUpTo t p (kind_of g) o (number_in g) old
          → new ≡ old ++ entries_of o g held → AreUpTo t p (kind_of g) o (number_in g + 1) new
      held-more None none old new up e = subst (λ l. AreUpTo t p (kind_of g) o (number_in g + 1) l) (sym (e ∙ append-nil old)) (record {
        each = λ d m. let (is, below) = up.each d m in (is, below-more d (kind_of g) o (number_in g) below);
        all = λ d is below. elim (below-split d (kind_of g) o (number_in g) below) [
          | inl h ↦ up.all d is h
          | inr (k, q, n) ↦ absurd (none (is.0.holder, is.0.comp, same-at d is.0 is.1 is.2 k q n))
        ];
        in_order = up.in_order;
      })
      held-more (Some held) (h, c, force, context, number) old new up e = subst (λ l. AreUpTo t p (kind_of g) o (number_in g + 1) l) (sym e) (record {
        each = λ d m. elim (Contains-push_cases old here d m) [
          | inl k ↦ let (is, below) = up.each d k in (is, below-more d (kind_of g) o (number_in g) below)
          | inr same ↦ subst (λ d. IsEntry t p d × IsBelow d (kind_of g) o (number_in g + 1)) same (is-here, inr (refl, inr (refl, omega arith)))
        ];
        all = λ d is below. elim (below-split d (kind_of g) o (number_in g) below) [
          | inl h ↦ Contains-append_left old _ d (up.all d is h)
          | inr (k, q, n) ↦ subst (λ d. Contains (old ++ here ∷ []) d) (sym (is-that d is.0 is.1 is.2 k q n)) (Contains-push old here)
        ];
        in_order = all_pairs_push IsEarlier old here up.in_order (λ i d w. before (get_or old i d) (up.each (get_or old i d) (Contains-get_or old i d w)).1);
      })
        where
          here : Entry
          here = entry o g held

          its : Force
          its = record { occ = o; goal = w; holder = h; comp = c }

          is-here : IsEntry t p here
          is-here = (
            its,
            (r, s, occurs.of_rule, occurs.written, force),
            record {
              occ = refl;
              symbol = x;
              at = occurs.at;
              goal = told;
              context = sym context ∙ sym (held-context its h refl);
              number = sym number;
            },
          )

          is-that : (d : Entry) (f : Force) → IsForced t.spec p f → IsEntryOf t p d f → kind_of d.goal ≡ kind_of g → d.occ ≡ o → number_in d.goal ≡ number_in g → d ≡ here
          is-that d f forced of k q n =
              let (holder, comp) = one_in_force t.spec single r (place-contains t.spec.rules p.rule r occurs.of_rule) o s w f.holder h f.comp c (same-at d f forced of k q n) force in
              let context_is : d.context ≡ held.context = of.context ∙ held-context f h holder ∙ ap (context_by h) (sym of.occ ∙ q) ∙ context in
              let number_is : d.number ≡ held.number = of.number ∙ ap (λ (c : Comp). c.number) comp ∙ number in
              let goal_is : d.goal ≡ g = same-goal d.goal g k n in
              λ i. record { occ = q i; goal = goal_is i; context = context_is i; number = number_is i }

          before : (d : Entry) → IsBelow d (kind_of g) o (number_in g) → IsEarlier d here
          before d (inl l) = inl l
          before d (inr q) = inr q
