-- What the code finds of an entry: its symbol's row, and its computation.
use Rattle.std.specs.Prelude.{Contains, slice_get, length, get_or}
use Rattle.std.proofs.Common.{◌≡◌, ℕ, zero, suc, ◌-◌, ◌<◌, List, Some, refl, ap, sym, subst, ◌∙◌, arith}
use Rattle.std.proofs.lemmas.Option.{same_Some, slice_get_within, get_or_from_slice_get}
use Rattle.lido_base.specs.Environment.{Environment}
use Rattle.lido_base.specs.Faults.{HasNone}
use Rattle.lido_base.specs.declared.ids.SymId.{SymId}
use Rattle.lido_base.proofs.FaultsLemmas.{at_place-none}
use Rattle.lido_base.proofs.Lists.{place-contains, place-below, AllZip-place}
use Rattle.flat_grammar.specs.declared.flat.FlatRule.{FlatRule}
use Rattle.lido_syntax.specs.declared.spec.Spec.{Spec}
use Rattle.lido_syntax.specs.declared.spec.Comp.{Comp}
use Rattle.lido_syntax.specs.declared.spec.RuleItem.{RuleItem}
use Rattle.lido_syntax.specs.declared.fault.SpecFault.{SpecFault}
use Rattle.lido_syntax.specs.declared.fault.SpecFault.TheVariants as fault
use Rattle.lido_syntax.specs.declared.spec.Expr.{Expr}
use Rattle.lido_syntax.specs.Parts.{leaves_of}
use Rattle.lido_syntax.specs.Sets.{Sets}
use Rattle.lido_syntax.specs.Computation.{Goal, Holder, InForce}
use Rattle.lido_symbols.specs.FromText.{IsFromText}
use Rattle.kind_clashes.specs.KindClash.{IsKindClash}
use Rattle.table_faults.specs.Faults.{IsUnknown, table_faults}
use Rattle.rule_tables.specs.declared.table.Tables.{Tables}
use Rattle.rule_tables.specs.declared.table.SymbolRow.{SymbolRow}
use Rattle.rule_tables.specs.declared.forced.Force.{Force as Entry}
use Rattle.rule_tables.specs.PlainRules.{PlainRule, plain_rules, symbol_at, number}
use Rattle.rule_tables.specs.Forced.{Force}
use Rattle.rule_tables.specs.ForcedOf.{IsGoalAs}
use Rattle.rule_tables.specs.TablesOf.{named_symbols, AreTablesOf, IsPlainOf}
use Rattle.rule_tables.proofs.SlotLemmas.{number-at_place}
use Rattle.numbered_computations.specs.declared.table.Computations.{Computations}
use Rattle.numbered_computations.specs.declared.table.Holder.{Holder as Body}
use Rattle.numbered_computations.specs.declared.table.Holder.TheVariants as holder
use Rattle.numbered_computations.specs.Held.{held_at, AreComputationsOf}
use Rattle.leaf_types.specs.Single.{AreSingleTypes}
use Rattle.leaf_types.proofs.NumberLemmas.{production-numbered}
use Rattle.leaf_types.proofs.SingleLemmas.{single-types}
use Rattle.expr_types.specs.declared.computations.Wanted.{Wanted}
use Rattle.expr_types.specs.Scopes.{IsThere}
use Rattle.expr_types.specs.Wanted.{IsWantedOf}
use Rattle.expr_types.proofs.ThereLemmas.{origin, leaf-there}
use Rattle.expr_types.specs.Computations.{IsTyped}
use Rattle.expr_types.specs.Faults.{IsComputationFault}
use Rattle.flat_laws.proofs.Lists.{zip-right, mapped-back}
use Rattle.flat_laws.proofs.RuleLemmas.{rule-of}
use Rattle.flat_laws.proofs.ForcedLemmas.{IsSymbolOf, written-at, Stands, in_rule, in_symbol, in_class, stands}
use Rattle.type_checks.specs.Entries.{HasSymbolsOf, body_of, IsEntryAt}
use Rattle.type_checks.specs.Written.{IsWrittenRule}

module _ (t : Tables) (env : Environment) (is : AreTablesOf env t) where
  -- the flat rule of a plain one
  pub flat-at : (j : ℕ) (p : PlainRule) → slice_get (plain_rules t.spec (named_symbols t)) j ≡ Some p → (flat : FlatRule) × (slice_get t.plain j ≡ Some flat) × HasSymbolsOf p flat
  flat-at j p e =
      let (flat, f, of) = zip-right (IsPlainOf t.spec env (named_symbols t)) (plain_rules t.spec (named_symbols t)) t.plain j p is.plain e in
      (flat, f, record { left = of.left; right = of.right })

  pub flat-here : (j : ℕ) (p : PlainRule) (flat : FlatRule) → slice_get (plain_rules t.spec (named_symbols t)) j ≡ Some p → slice_get t.plain j ≡ Some flat → HasSymbolsOf p flat
  flat-here j p flat e f = let of = AllZip-place (IsPlainOf t.spec env (named_symbols t)) (plain_rules t.spec (named_symbols t)) t.plain j p flat is.plain e f in record { left = of.left; right = of.right }

  pub flat-below : (j : ℕ) (p : PlainRule) → slice_get (plain_rules t.spec (named_symbols t)) j ≡ Some p → j < length t.plain
  flat-below j p e = let (flat, f, of) = flat-at j p e in slice_get_within t.plain j flat f

  module _ (j : ℕ) (e : Entry) (f : Force) (r : RuleItem) (s : ℕ) (at : IsEntryAt t j e f r s) where
    symbol-of : IsSymbolOf t.spec (named_symbols t) at.rule r f.occ s
    symbol-of = written-at t.spec (named_symbols t) at.rule (rule-of t.spec (named_symbols t) at.rule (place-contains (plain_rules t.spec (named_symbols t)) j at.rule at.number)) r at.written f.occ s at.at

    -- the symbol's number
    pub number-here : slice_get (named_symbols t) (number t.spec (named_symbols t) s) ≡ Some s
    number-here = number-at_place s (named_symbols t) (production-numbered t.spec env (named_symbols t) is.numbers r s (place-contains t.spec.rules at.rule.rule r at.written) symbol-of.of_rule)

    pub symbol-here : symbol_at at.rule e.occ ≡ Some (number t.spec (named_symbols t) s)
    symbol-here = ap (symbol_at at.rule) at.entry.occ ∙ symbol-of.at

    pub symbol-same : at.entry.symbol ≡ number t.spec (named_symbols t) s
    symbol-same = same_Some at.entry.symbol (number t.spec (named_symbols t) s) (sym at.entry.at ∙ symbol-here)

    -- its row
    pub row-here : (row : SymbolRow) × (slice_get t.symbols (number t.spec (named_symbols t) s) ≡ Some row) × (row.name.0 ≡ s)
    row-here =
        let within = slice_get_within (named_symbols t) (number t.spec (named_symbols t) s) s number-here in
        let count = is.count in
        let (row, g) = place-below t.symbols (number t.spec (named_symbols t) s) (omega arith) in
        (row, g, (is.rows (number t.spec (named_symbols t) s) s row number-here g).name)

-- the computation that the numbers tell
pub held-there : (spec : Spec) (computations : Computations) → AreComputationsOf spec computations → (r : RuleItem) → Contains spec.rules r → (o s : ℕ) (g : Goal) (h : Holder) (c : Comp) → InForce spec r o s g h c
    → (b : _) × (held_at computations c.number ≡ Some (b, c)) × (body_of b ≡ h)
held-there spec computations are r among o s g h c force = by h (stands spec r o s g h c force)
  where
    by : (h : Holder) → Stands spec r s c h → (b : _) × (held_at computations c.number ≡ Some (b, c)) × (body_of b ≡ h)
    by _ (in_rule m) = (holder.Rule, are.of_rules r c among m, refl)
    by _ (in_symbol (item, mi, own, mc)) = (holder.Symbol, are.of_symbols item c mi mc, refl)
    by _ (in_class class heir (item, mi, own, mc)) = (holder.Symbol, are.of_symbols item c mi mc, refl)

-- what is found under other names for the same things
pub typed-as : (spec spec' : Spec) (env : Environment) (h h' : Holder) (r r' : RuleItem) (s s' : ℕ) (g : Goal) (c c' : Comp) → spec' ≡ spec → h' ≡ h → r' ≡ r → s' ≡ s → c' ≡ c
    → ((sets : Sets spec') → IsTyped spec' sets env h' r' s' g c') → (sets : Sets spec) → IsTyped spec sets env h r s g c
typed-as spec spec' env h h' r r' s s' g c c' es eh er ew ec all =
    subst (λ (z : Spec). (sets : Sets z) → IsTyped z sets env h r s g c) es
    (subst (λ (z : Holder). (sets : Sets spec') → IsTyped spec' sets env z r s g c) eh
    (subst (λ (z : RuleItem). (sets : Sets spec') → IsTyped spec' sets env h' z s g c) er
    (subst (λ (z : ℕ). (sets : Sets spec') → IsTyped spec' sets env h' r' z g c) ew
    (subst (λ (z : Comp). (sets : Sets spec') → IsTyped spec' sets env h' r' s' g z) ec all))))

pub fault-as : (spec spec' : Spec) (env : Environment) (h h' : Holder) (r r' : RuleItem) (s s' : ℕ) (g : Goal) (c c' : Comp) (f : SpecFault) → spec' ≡ spec → h' ≡ h → r' ≡ r → s' ≡ s → c' ≡ c
    → ((sets : Sets spec') → IsComputationFault spec' sets env h' r' s' g c' f) → (sets : Sets spec) → IsComputationFault spec sets env h r s g c f
fault-as spec spec' env h h' r r' s s' g c c' f es eh er ew ec all =
    subst (λ (z : Spec). (sets : Sets z) → IsComputationFault z sets env h r s g c f) es
    (subst (λ (z : Holder). (sets : Sets spec') → IsComputationFault spec' sets env z r s g c f) eh
    (subst (λ (z : RuleItem). (sets : Sets spec') → IsComputationFault spec' sets env h' z s g c f) er
    (subst (λ (z : ℕ). (sets : Sets spec') → IsComputationFault spec' sets env h' r' z g c f) ew
    (subst (λ (z : Comp). (sets : Sets spec') → IsComputationFault spec' sets env h' r' s' g z f) ec all))))

-- the symbol at an occurrence of the right side
pub right-place : (p : PlainRule) (flat : FlatRule) (right : List SymId) (occ x : ℕ) → HasSymbolsOf p flat → right ≡ flat.right → (occ ≡ 0 → ⊥) → symbol_at p occ ≡ Some x
    → (get_or right (occ - 1) (record { 0 = 0 })).0 ≡ x
right-place p flat right zero x has same some e = absurd (some refl)
right-place p flat right (suc k) x has same some e =
    let (y, at, f) = mapped-back (λ (s : SymId). s.0) flat.right k x (ap (λ (l : List ℕ). slice_get l k) has.right ∙ e) in
    let z : suc k - 1 ≡ k = omega arith in
    ap (λ (i : ℕ). (get_or right i (record { 0 = 0 })).0) z ∙ ap (λ (l : List SymId). (get_or l k (record { 0 = 0 })).0) same
    ∙ ap (λ (s : SymId). s.0) (get_or_from_slice_get flat.right k y (record { 0 = 0 }) at) ∙ f

-- what the code finds is what stands there
pub record IsFound (f : Force) (r : RuleItem) (s : ℕ) (h' : Holder) (r' : RuleItem) (s' : ℕ) (c' : Comp) : Type 0 where
  pub holder : h' ≡ f.holder
  pub rule : r' ≡ r
  pub symbol : s' ≡ s
  pub comp : c' ≡ f.comp

module _ (t : Tables) (env : Environment) (is : AreTablesOf env t) (computations : Computations) (are : AreComputationsOf t.spec computations)
    (j : ℕ) (e : Entry) (f : Force) (r : RuleItem) (s : ℕ) (at : IsEntryAt t j e f r s) where
  pub held-here : (b : _) × (held_at computations e.number ≡ Some (b, f.comp)) × (body_of b ≡ f.holder)
  held-here =
      let (b, there, same) = held-there t.spec computations are r (place-contains t.spec.rules at.rule.rule r at.written) f.occ s f.goal f.holder f.comp at.in_force in
      (b, ap (held_at computations) at.entry.number ∙ there, same)

  module _ (flat : FlatRule) (its : slice_get t.plain j ≡ Some flat) (x : ℕ) (chosen : (p : PlainRule) (y : ℕ) → HasSymbolsOf p flat → symbol_at p e.occ ≡ Some y → x ≡ y) where
    pub number-found : x ≡ number t.spec (named_symbols t) s
    number-found = chosen at.rule (number t.spec (named_symbols t) s) (flat-here t env is j at.rule flat at.number its) (symbol-here t env is j e f r s at)

    pub row-below : x < length t.symbols
    row-below = let (row, g, n) = row-here t env is j e f r s at in subst (λ k. k < length t.symbols) (sym number-found) (slice_get_within t.symbols (number t.spec (named_symbols t) s) row g)

    pub goal-found : IsGoalAs t x e.goal f.goal
    goal-found = subst (λ k. IsGoalAs t k e.goal f.goal) (symbol-same t env is j e f r s at ∙ sym number-found) at.entry.goal

    pub named-found : slice_get (named_symbols t) x ≡ Some s
    named-found = ap (slice_get (named_symbols t)) number-found ∙ number-here t env is j e f r s at

    pub found : (r' : RuleItem) → IsWrittenRule t j r' → (row : SymbolRow) → slice_get t.symbols x ≡ Some row → (b' : Body) (c' : Comp) → held_at computations e.number ≡ Some (b', c') → (h' : Holder) → h' ≡ body_of b'
        → IsFound f r s h' r' row.name.0 c'
    found r' written row there b' c' held h' body =
        let (own, g, n) = row-here t env is j e f r s at in
        let (b, its_comp, same) = held-here in
        let both = same_Some (let u : Body × Comp = (b', c') in u) (let u : Body × Comp = (b, f.comp) in u) (sym held ∙ its_comp) in
        record {
          holder = body ∙ ap (λ (u : Body × Comp). body_of u.0) both ∙ same;
          rule = same_Some r' r (sym (written at.rule at.number) ∙ at.written);
          symbol = ap (λ (z : SymbolRow). z.name.0) (same_Some row own (sym there ∙ ap (slice_get t.symbols) number-found ∙ g)) ∙ n;
          comp = ap (λ (u : Body × Comp). u.1) both;
        }

-- leaves that name what is there, and what is wanted, under other names for the same things
pub there-as : (spec spec' : Spec) (env : Environment) (h h' : Holder) (r r' : RuleItem) (s s' : ℕ) (c c' : Comp) → spec' ≡ spec → h' ≡ h → r' ≡ r → s' ≡ s → c' ≡ c
    → ((leaf : Expr) → Contains (leaves_of c) leaf → IsThere spec env h r s leaf) → (leaf : Expr) → Contains (leaves_of c') leaf → IsThere spec' env h' r' s' leaf
there-as spec spec' env h h' r r' s s' c c' es eh er ew ec all =
    subst (λ (z : Spec). (leaf : Expr) → Contains (leaves_of c') leaf → IsThere z env h' r' s' leaf) (sym es)
    (subst (λ (z : Holder). (leaf : Expr) → Contains (leaves_of c') leaf → IsThere spec env z r' s' leaf) (sym eh)
    (subst (λ (z : RuleItem). (leaf : Expr) → Contains (leaves_of c') leaf → IsThere spec env h z s' leaf) (sym er)
    (subst (λ (z : ℕ). (leaf : Expr) → Contains (leaves_of c') leaf → IsThere spec env h r z leaf) (sym ew)
    (subst (λ (z : Comp). (leaf : Expr) → Contains (leaves_of z) leaf → IsThere spec env h r s leaf) (sym ec) all))))

pub wanted-as : (spec spec' : Spec) (s s' : ℕ) (g : Goal) (w : Wanted) → spec' ≡ spec → s' ≡ s → IsWantedOf spec s g w → IsWantedOf spec' s' g w
wanted-as spec spec' s s' g w es ew all = subst (λ (z : Spec). IsWantedOf z s' g w) (sym es) (subst (λ (z : ℕ). IsWantedOf spec z g w) (sym ew) all)

-- ---- of a specification without faults of the tables

module _ (spec : Spec) (env : Environment) (text : IsFromText spec) (none : HasNone (table_faults spec env)) where
  pub no-clash : (at : ℕ) → IsKindClash spec env at → ⊥
  no-clash = at_place-none (λ at. fault.KindClash at) (IsKindClash spec env) none.1.1.1.0

  pub single-here : AreSingleTypes spec
  single-here = single-types spec env text no-clash

  pub there-here : (r : RuleItem) → Contains spec.rules r → (k s : ℕ) (g : Goal) (h : Holder) (c : Comp) → InForce spec r k s g h c → (leaf : Expr) → Contains (leaves_of c) leaf → IsThere spec env h r s leaf
  there-here r rule k s g h c in_force leaf m =
      leaf-there spec env text (at_place-none (λ at. fault.UnknownSymbol at) (IsUnknown spec env) none.0) no-clash r rule s c h (origin spec r k s g h c in_force) leaf m
