-- Where no kind clashes, what is in force is for attributes that the symbol has, and for chains that are declared.
use Rattle.std.specs.Prelude.{Bool, true, false, slice_get, map, flat_map, Contains}
use Rattle.std.proofs.Common.{◌≡◌, ℕ, zero, suc, inl, inr, [], ◌∷◌, Some, refl, sym, ap, ◌∙◌, subst, true≢false}
use Rattle.std.proofs.lemmas.List.Elements.{Contains-append_left}
use Rattle.lido_base.specs.Environment.{Environment}
use Rattle.lido_base.specs.Tree.{contains}
use Rattle.lido_base.specs.declared.ids.AttrId.{AttrId}
use Rattle.lido_base.proofs.Lists.{contains-here, contains-map, contains-place, place-contains}
use Rattle.lido_base.proofs.TreeLemmas.{contains-test}
use Rattle.lido_base.specs.declared.kinds.Kind.TheVariants as kind
use Rattle.lido_syntax.specs.declared.spec.Spec.{Spec}
use Rattle.lido_syntax.specs.declared.spec.Name.{Name}
use Rattle.lido_syntax.specs.declared.spec.Comp.{Comp}
use Rattle.lido_syntax.specs.declared.spec.Typed1.{Typed1}
use Rattle.lido_syntax.specs.declared.spec.RuleItem.{RuleItem}
use Rattle.lido_syntax.specs.declared.spec.Target.{Target}
use Rattle.lido_syntax.specs.declared.spec.Target.TheVariants as target
use Rattle.lido_syntax.specs.declared.spec.Place.{Place}
use Rattle.lido_syntax.specs.declared.spec.Place.TheVariants as place
use Rattle.lido_syntax.specs.Production.{name_of, occurrence, CanStandAt}
use Rattle.lido_syntax.specs.Parts.{expressions_of}
use Rattle.lido_syntax.specs.Sets.{Inherits}
use Rattle.lido_syntax.specs.Symbols.{IsChain}
use Rattle.lido_syntax.specs.Attributes.{Use, uses, reads, target_uses, possible, IsOnSide, InBody, InText, IsNamed, by_name, in_body, Has}
use Rattle.lido_syntax.specs.Computation.{Goal, Synthesized, Inherited, Start, Behind, Output, Message, Holder, InForce, of_rule, of_symbol, of_class, IsRuleTarget, IsSymbolTarget}
use Rattle.kind_clashes.specs.KindClash.{IsKindClash}
use Rattle.kind_clashes.specs.KindClash as clash
use Rattle.rule_tables.specs.declared.table.Tables.{Tables}
use Rattle.rule_tables.specs.declared.forced.Force.{Force as Entry}
use Rattle.rule_tables.specs.declared.forced.Goal.{Goal as Asked}
use Rattle.rule_tables.specs.declared.forced.Goal.TheVariants as asked
use Rattle.rule_tables.specs.PlainRules.{PlainRule, symbol_at}
use Rattle.rule_tables.specs.Forced.{Force, context_of}
use Rattle.rule_tables.specs.ForcedOf.{IsAttributeAt, IsChainAt, IsGoalAs, IsEntryOf}
use Rattle.rule_tables.specs.TablesOf.{named_symbols, AreTablesOf}
use Rattle.symbol_inherit.specs.Entries.{IsOccurrenceOf}
use Rattle.symbol_inherit.proofs.RowLemmas.{number-named}
use Rattle.symbol_inherit.proofs.OccurrenceLemmas.{occurrence-stands}

target-use : (c : Comp) (p : Place) (a : Name) → c.target ≡ target.Attr p a → Contains (uses c) (let u : Use = (p, a) in u)
target-use c p a e =
    Contains-append_left (target_uses c.target) (flat_map reads (expressions_of c)) (p, a) (subst (λ g. Contains (target_uses g) (let u : Use = (p, a) in u)) (sym e) (contains-here (let u : Use = (p, a) in u) []))

module _ (spec : Spec) (env : Environment) (none : (at : ℕ) → ¬ IsKindClash spec env at) where
  -- a symbol has the attribute, and a chain is declared
  abbrev pub IsNamedOn : ℕ → Goal → Type 0
  IsNamedOn s (Synthesized a) = IsNamed spec s a
  IsNamedOn s (Inherited a) = IsNamed spec s a
  IsNamedOn s (Start c) = IsChain spec c
  IsNamedOn s (Behind c) = IsChain spec c
  IsNamedOn s _ = Unit {0}

  abbrev pub IsGoalIn : ℕ → Goal → Type 0
  IsGoalIn s (Synthesized a) = Has spec s a
  IsGoalIn s (Inherited a) = Has spec s a
  IsGoalIn s (Start c) = IsChain spec c
  IsGoalIn s (Behind c) = IsChain spec c
  IsGoalIn s _ = Unit {0}

  chain-or : (c : ℕ) → (¬ IsChain spec c → ⊥) → IsChain spec c
  chain-or c h = by (contains c (map (λ (x : Typed1). name_of x.name) spec.chains)) refl
    where
      by : (b : Bool) → contains c (map (λ (x : Typed1). name_of x.name) spec.chains) ≡ b → IsChain spec c
      by true e = e
      by false e = absurd (h (λ k. true≢false (sym k ∙ e)))

  started : (c : Comp) (a : Name) → InText spec c → c.target ≡ target.Start a → IsChain spec (name_of a)
  started c a text e = chain-or (name_of a) (λ unlike. none a.at (clash.no_chain c a text (inl e) unlike refl))

  in-rule : (r : RuleItem) → Contains spec.rules r → (c : Comp) → Contains r.body c → (o s : ℕ) → CanStandAt r o s → (g : Goal) (t : Target) → c.target ≡ t → IsRuleTarget spec r c t o g → IsNamedOn s g
  in-rule r among c of o s stands Output t e h = tt
  in-rule r among c of o s stands (Message j) t e h = tt
  in-rule r among c of zero s stands (Synthesized a) (target.Attr (place.Named x i) b) e (at, n, unlike) =
      by_name c x i (inl (r, among, of)) (b, target-use c (place.Named x i) b e, n, unlike) (occurrence-stands r x i zero s at stands)
  in-rule r among c of zero s stands (Behind a) (target.Attr (place.Named x i) b) e (at, n, chain) = chain
  in-rule r among c of (suc o) s stands (Inherited a) (target.Attr (place.Named x i) b) e (at, n) =
      by_name c x i (inl (r, among, of)) (
        b,
        target-use c (place.Named x i) b e,
        n,
        λ chain. none b.at (clash.chain_elsewhere
            (clash.on_right_side r c x i b among of (target-use c (place.Named x i) b e) (subst (λ l. IsOnSide kind.Inherited l) (sym (only at)) tt) (subst (IsChain spec) (sym n) chain) refl)),
      )
      (occurrence-stands r x i (suc o) s at stands)
    where
      only : occurrence r x i ≡ Some (suc o) → possible r x i ≡ suc o ∷ []
      only e = rw (e, possible) refl
  in-rule r among c of zero s stands (Start a) (target.Start b) e h = subst (IsChain spec) h (started c b (inl (r, among, of)) e)
  in-rule r among c of zero s stands (Synthesized a) (target.Attr place.Synt d) e h = absurd h
  in-rule r among c of zero s stands (Synthesized a) (target.Attr place.Inh d) e h = absurd h
  in-rule r among c of zero s stands (Synthesized a) (target.Attr place.This d) e h = absurd h
  in-rule r among c of zero s stands (Synthesized a) (target.Attr place.Tail d) e h = absurd h
  in-rule r among c of zero s stands (Synthesized a) (target.Start d) e h = absurd h
  in-rule r among c of zero s stands (Synthesized a) target.Out e h = absurd h
  in-rule r among c of zero s stands (Synthesized a) (target.Message v m) e h = absurd h
  in-rule r among c of zero s stands (Inherited a) (target.Attr (place.Named x i) d) e h = absurd h
  in-rule r among c of zero s stands (Inherited a) (target.Attr place.Synt d) e h = absurd h
  in-rule r among c of zero s stands (Inherited a) (target.Attr place.Inh d) e h = absurd h
  in-rule r among c of zero s stands (Inherited a) (target.Attr place.This d) e h = absurd h
  in-rule r among c of zero s stands (Inherited a) (target.Attr place.Tail d) e h = absurd h
  in-rule r among c of zero s stands (Inherited a) (target.Start d) e h = absurd h
  in-rule r among c of zero s stands (Inherited a) target.Out e h = absurd h
  in-rule r among c of zero s stands (Inherited a) (target.Message v m) e h = absurd h
  in-rule r among c of zero s stands (Start a) (target.Attr (place.Named x i) d) e h = absurd h
  in-rule r among c of zero s stands (Start a) (target.Attr place.Synt d) e h = absurd h
  in-rule r among c of zero s stands (Start a) (target.Attr place.Inh d) e h = absurd h
  in-rule r among c of zero s stands (Start a) (target.Attr place.This d) e h = absurd h
  in-rule r among c of zero s stands (Start a) (target.Attr place.Tail d) e h = absurd h
  in-rule r among c of zero s stands (Start a) target.Out e h = absurd h
  in-rule r among c of zero s stands (Start a) (target.Message v m) e h = absurd h
  in-rule r among c of zero s stands (Behind a) (target.Attr place.Synt d) e h = absurd h
  in-rule r among c of zero s stands (Behind a) (target.Attr place.Inh d) e h = absurd h
  in-rule r among c of zero s stands (Behind a) (target.Attr place.This d) e h = absurd h
  in-rule r among c of zero s stands (Behind a) (target.Attr place.Tail d) e h = absurd h
  in-rule r among c of zero s stands (Behind a) (target.Start d) e h = absurd h
  in-rule r among c of zero s stands (Behind a) target.Out e h = absurd h
  in-rule r among c of zero s stands (Behind a) (target.Message v m) e h = absurd h
  in-rule r among c of (suc o) s stands (Synthesized a) (target.Attr (place.Named x i) d) e h = absurd h
  in-rule r among c of (suc o) s stands (Synthesized a) (target.Attr place.Synt d) e h = absurd h
  in-rule r among c of (suc o) s stands (Synthesized a) (target.Attr place.Inh d) e h = absurd h
  in-rule r among c of (suc o) s stands (Synthesized a) (target.Attr place.This d) e h = absurd h
  in-rule r among c of (suc o) s stands (Synthesized a) (target.Attr place.Tail d) e h = absurd h
  in-rule r among c of (suc o) s stands (Synthesized a) (target.Start d) e h = absurd h
  in-rule r among c of (suc o) s stands (Synthesized a) target.Out e h = absurd h
  in-rule r among c of (suc o) s stands (Synthesized a) (target.Message v m) e h = absurd h
  in-rule r among c of (suc o) s stands (Inherited a) (target.Attr place.Synt d) e h = absurd h
  in-rule r among c of (suc o) s stands (Inherited a) (target.Attr place.Inh d) e h = absurd h
  in-rule r among c of (suc o) s stands (Inherited a) (target.Attr place.This d) e h = absurd h
  in-rule r among c of (suc o) s stands (Inherited a) (target.Attr place.Tail d) e h = absurd h
  in-rule r among c of (suc o) s stands (Inherited a) (target.Start d) e h = absurd h
  in-rule r among c of (suc o) s stands (Inherited a) target.Out e h = absurd h
  in-rule r among c of (suc o) s stands (Inherited a) (target.Message v m) e h = absurd h
  in-rule r among c of (suc o) s stands (Start a) (target.Attr (place.Named x i) d) e h = absurd h
  in-rule r among c of (suc o) s stands (Start a) (target.Attr place.Synt d) e h = absurd h
  in-rule r among c of (suc o) s stands (Start a) (target.Attr place.Inh d) e h = absurd h
  in-rule r among c of (suc o) s stands (Start a) (target.Attr place.This d) e h = absurd h
  in-rule r among c of (suc o) s stands (Start a) (target.Attr place.Tail d) e h = absurd h
  in-rule r among c of (suc o) s stands (Start a) (target.Start d) e h = absurd h
  in-rule r among c of (suc o) s stands (Start a) target.Out e h = absurd h
  in-rule r among c of (suc o) s stands (Start a) (target.Message v m) e h = absurd h
  in-rule r among c of (suc o) s stands (Behind a) (target.Attr (place.Named x i) d) e h = absurd h
  in-rule r among c of (suc o) s stands (Behind a) (target.Attr place.Synt d) e h = absurd h
  in-rule r among c of (suc o) s stands (Behind a) (target.Attr place.Inh d) e h = absurd h
  in-rule r among c of (suc o) s stands (Behind a) (target.Attr place.This d) e h = absurd h
  in-rule r among c of (suc o) s stands (Behind a) (target.Attr place.Tail d) e h = absurd h
  in-rule r among c of (suc o) s stands (Behind a) (target.Start d) e h = absurd h
  in-rule r among c of (suc o) s stands (Behind a) target.Out e h = absurd h
  in-rule r among c of (suc o) s stands (Behind a) (target.Message v m) e h = absurd h

  in-symbol : (s : ℕ) (c : Comp) → InBody spec s c → (g : Goal) (t : Target) → c.target ≡ t → IsSymbolTarget spec t g → IsNamedOn s g
  in-symbol s c of Output t e h = tt
  in-symbol s c of (Message j) t e h = tt
  in-symbol s c of (Synthesized a) (target.Attr place.Synt b) e n =
      in_body c place.Synt of (b, target-use c place.Synt b e, n, λ chain. none b.at (clash.chain_elsewhere (clash.synt c b (inr (s, of)) (target-use c place.Synt b e) (subst (IsChain spec) (sym n) chain) refl))) tt
  in-symbol s c of (Inherited a) (target.Attr place.Inh b) e n =
      in_body c place.Inh of (b, target-use c place.Inh b e, n, λ chain. none b.at (clash.chain_elsewhere (clash.inh c b (inr (s, of)) (target-use c place.Inh b e) (subst (IsChain spec) (sym n) chain) refl))) tt
  in-symbol s c of (Behind a) (target.Attr place.This b) e n =
      subst (IsChain spec) n (chain-or (name_of b) (λ unlike. none c.at (clash.target_by_this c b (inr (s, of)) e unlike refl)))
  in-symbol s c of (Start a) (target.Start b) e n = subst (IsChain spec) n (started c b (inr (s, of)) e)
  in-symbol s c of (Synthesized a) (target.Attr (place.Named x i) d) e h = absurd h
  in-symbol s c of (Synthesized a) (target.Attr place.Inh d) e h = absurd h
  in-symbol s c of (Synthesized a) (target.Attr place.This d) e h = absurd h
  in-symbol s c of (Synthesized a) (target.Attr place.Tail d) e h = absurd h
  in-symbol s c of (Synthesized a) (target.Start d) e h = absurd h
  in-symbol s c of (Synthesized a) target.Out e h = absurd h
  in-symbol s c of (Synthesized a) (target.Message v m) e h = absurd h
  in-symbol s c of (Inherited a) (target.Attr (place.Named x i) d) e h = absurd h
  in-symbol s c of (Inherited a) (target.Attr place.Synt d) e h = absurd h
  in-symbol s c of (Inherited a) (target.Attr place.This d) e h = absurd h
  in-symbol s c of (Inherited a) (target.Attr place.Tail d) e h = absurd h
  in-symbol s c of (Inherited a) (target.Start d) e h = absurd h
  in-symbol s c of (Inherited a) target.Out e h = absurd h
  in-symbol s c of (Inherited a) (target.Message v m) e h = absurd h
  in-symbol s c of (Start a) (target.Attr (place.Named x i) d) e h = absurd h
  in-symbol s c of (Start a) (target.Attr place.Synt d) e h = absurd h
  in-symbol s c of (Start a) (target.Attr place.Inh d) e h = absurd h
  in-symbol s c of (Start a) (target.Attr place.This d) e h = absurd h
  in-symbol s c of (Start a) (target.Attr place.Tail d) e h = absurd h
  in-symbol s c of (Start a) target.Out e h = absurd h
  in-symbol s c of (Start a) (target.Message v m) e h = absurd h
  in-symbol s c of (Behind a) (target.Attr (place.Named x i) d) e h = absurd h
  in-symbol s c of (Behind a) (target.Attr place.Synt d) e h = absurd h
  in-symbol s c of (Behind a) (target.Attr place.Inh d) e h = absurd h
  in-symbol s c of (Behind a) (target.Attr place.Tail d) e h = absurd h
  in-symbol s c of (Behind a) (target.Start d) e h = absurd h
  in-symbol s c of (Behind a) target.Out e h = absurd h
  in-symbol s c of (Behind a) (target.Message v m) e h = absurd h

  own-goal : (s : ℕ) (g : Goal) → IsNamedOn s g → IsGoalIn s g
  own-goal s (Synthesized a) h = inl h
  own-goal s (Inherited a) h = inl h
  own-goal s (Start c) h = h
  own-goal s (Behind c) h = h
  own-goal s Output h = tt
  own-goal s (Message j) h = tt

  class-goal : (s class : ℕ) (g : Goal) → Inherits spec s class → IsNamedOn class g → IsGoalIn s g
  class-goal s class (Synthesized a) i h = inr (class, i, h)
  class-goal s class (Inherited a) i h = inr (class, i, h)
  class-goal s class (Start c) i h = h
  class-goal s class (Behind c) i h = h
  class-goal s class Output i h = tt
  class-goal s class (Message j) i h = tt

  -- what is in force is for a goal of the symbol
  pub goal-in : (r : RuleItem) → Contains spec.rules r → (o s : ℕ) (g : Goal) (h : Holder) (c : Comp) → InForce spec r o s g h c → IsGoalIn s g
  goal-in r among o s g h c (of_rule at own) = own-goal s g (in-rule r among c own.0 o s at.0 g c.target refl own.1)
  goal-in r among o s g h c (of_symbol at unlike own) = own-goal s g (in-symbol s c own.0 g c.target refl own.1)
  goal-in r among o s g h c (of_class class at unlike no_own left only own) = class-goal s class g left.inherited (in-symbol class c own.0 g c.target refl own.1)

module _ (t : Tables) (env : Environment) (is : AreTablesOf env t) where
  -- an attribute of a symbol stands in its row
  pub attribute-there : (s x a : ℕ) → slice_get (named_symbols t) x ≡ Some s → Has t.spec s a → (id : AttrId) × IsAttributeAt t x id a
  attribute-there s x a at has =
      let (row, e, _) = number-named t env is x s at in
      let (attr, m, n) = (is.rows x s row at e).attrs.all a has in
      let (k, f) = contains-place row.attrs attr m in
      (record { 0 = k }, (row, attr, e, f, n))

  -- a chain stands where it is declared
  pub chain-there : (c : ℕ) → IsChain t.spec c → (i : ℕ) × IsChainAt t i c
  chain-there c h =
      let (d, m, n) = contains-map (λ (x : Typed1). name_of x.name) t.spec.chains c (contains-test c (map (λ (x : Typed1). name_of x.name) t.spec.chains) h) in
      let (i, f) = contains-place t.spec.chains d m in
      (i, (d, f, n))

  module _ (texts : Environment) (none : (at : ℕ) → ¬ IsKindClash t.spec texts at) (s x : ℕ) (at : slice_get (named_symbols t) x ≡ Some s) where
    goal-there : (g : Goal) → IsGoalIn t.spec texts none s g → (e : Asked) × IsGoalAs t x e g
    goal-there (Synthesized a) h = let (id, k) = attribute-there s x a at h in (asked.Attr id, k)
    goal-there (Inherited a) h = let (id, k) = attribute-there s x a at h in (asked.Attr id, k)
    goal-there (Start c) h = let (i, k) = chain-there c h in (asked.Start i, k)
    goal-there (Behind c) h = let (i, k) = chain-there c h in (asked.Behind i, k)
    goal-there Output h = (asked.Out, tt)
    goal-there (Message j) h = (asked.Message j, refl)

    -- each computation in force has an entry
    pub entry-there : (p : PlainRule) (r : RuleItem) (o : ℕ) → IsOccurrenceOf t p r o s x → (f : Force) → f.occ ≡ o → InForce t.spec r o s f.goal f.holder f.comp → (e : Entry) × IsEntryOf t p e f
    entry-there p r o occurs f q force =
        let (g, told) = goal-there f.goal (goal-in t.spec texts none r (place-contains t.spec.rules p.rule r occurs.of_rule) o s f.goal f.holder f.comp force) in (
          record { occ = f.occ; goal = g; context = context_of f; number = f.comp.number },
          record {
            occ = refl;
            symbol = x;
            at = ap (symbol_at p) q ∙ occurs.at;
            goal = told;
            context = refl;
            number = refl;
          },
        )
