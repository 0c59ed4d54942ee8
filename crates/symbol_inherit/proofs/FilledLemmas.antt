-- What is resolved for a goal is filled in as its entry.
use Rattle.std.specs.Prelude.{Bool, true, false, slice_get}
use Rattle.std.proofs.Common.{◌≡◌, ℕ, zero, suc, ◌+◌, ◌≤◌, arith, List, [], ◌++◌, length, Option, Some, None, refl, sym, ap, ◌∙◌, subst}
use Rattle.std.proofs.lemmas.Option.{none-some, slice_get_within}
use Rattle.lido_base.specs.Environment.{Environment}
use Rattle.lido_base.specs.declared.ids.StrId.{StrId}
use Rattle.lido_base.specs.declared.ids.AttrId.{AttrId}
use Rattle.flat_grammar.specs.declared.flat.FlatAttr.{FlatAttr}
use Rattle.lido_syntax.specs.declared.spec.RuleItem.{RuleItem}
use Rattle.lido_syntax.specs.declared.spec.Typed1.{Typed1}
use Rattle.lido_syntax.specs.Completeness.{IsSingle}
use Rattle.lido_syntax.specs.Computation as written
use Rattle.lido_syntax.specs.Computation.{IsGoalAt}
use Rattle.lido_syntax.proofs.SetsLemmas.{sets_of}
use Rattle.rule_tables.specs.declared.table.Tables.{Tables}
use Rattle.rule_tables.specs.declared.table.SymbolRow.{SymbolRow}
use Rattle.rule_tables.specs.declared.forced.Force.{Force as Entry}
use Rattle.rule_tables.specs.declared.forced.Goal.{Goal}
use Rattle.rule_tables.specs.declared.forced.Goal.TheVariants as goal
use Rattle.rule_tables.specs.PlainRules.{PlainRule}
use Rattle.rule_tables.specs.ForcedOf.{IsAttributeAt, IsChainAt, IsGoalAs, kind_of, number_in}
use Rattle.rule_tables.specs.Needs.{Tables as Numbered}
use Rattle.computation_aims.specs.Aims.{goal_of}
use Rattle.symbol_inherit.specs.Forces.{IsResolved, IsHeld}
use Rattle.symbol_inherit.specs.Rules.{HasRuleAt}
use Rattle.symbol_inherit.specs.Entries.{entries_of, attrs_of, attrs_at, attribute_aim, chain_way, chain_goal, chain_kind, IsEntry, AreUpTo, AreKnown, IsOccurrenceOf}
use Rattle.computation_aims.specs.declared.aims.Way.{Way}
use Rattle.computation_aims.specs.declared.aims.Way.TheVariants as way
use Rattle.computation_aims.specs.declared.aims.Aim.{Aim}
use Rattle.symbol_inherit.specs.declared.forced.Held.{Held}
use Rattle.symbol_inherit.specs.declared.index.Index.{Index}
use Rattle.symbol_inherit.specs.declared.symbols.Symbols.{Symbols}
use Rattle.symbol_inherit.proofs.ForceLemmas.{resolved-held}
use Rattle.symbol_inherit.proofs.EntryLemmas.{held-more, goal-here, goal-in-force, as-start, as-behind}

-- some numbers of what is numbered
pub some-numbers : (t : Tables) → Numbered t.spec
some-numbers t = record { sets = sets_of t.spec; symbols = []; attributes = []; includings = []; constituents = []; forced = [] }

module _ (env : Environment) (t : Tables) (symbols : Symbols) (known : AreKnown env t symbols) (r : RuleItem) (rule : Index) (p : PlainRule) (o s x : ℕ)
    (own : HasRuleAt t.spec r o rule) (occurs : IsOccurrenceOf t p r o s x) where
  pub held-here : (aim : Aim) → IsGoalAt o (goal_of aim) → (held : Option Held) → IsResolved rule symbols.classes symbols.index symbols.count x o aim held → IsHeld t.spec r o s (goal_of aim) held
  held-here aim at held resolved = resolved-held t env known.tables known.single symbols.classes known.symbols.heirs symbols.index known.symbols.owns symbols.count known.symbols.count x s occurs.number aim
      (some-numbers t) r rule o own (occurs.stands, at) held resolved

  pub resolved-more : (g : Goal) (aim : Aim) → IsGoalAs t x g (goal_of aim) → IsGoalAt o (goal_of aim) → (held : Option Held) → IsResolved rule symbols.classes symbols.index symbols.count x o aim held
      → (old new : List Entry) → AreUpTo t p (kind_of g) o (number_in g) old → new ≡ old ++ entries_of o g held → AreUpTo t p (kind_of g) o (number_in g + 1) new
  resolved-more g aim told at held resolved = held-more t p r known.single o s x occurs g (goal_of aim) told at held (held-here aim at held resolved)

pub attribute-at : (t : Tables) (o x : ℕ) (g : Goal) (name : StrId) (a : ℕ) → IsGoalAs t x g (written.Synthesized a) → IsGoalAs t x g (written.Inherited a) → name.0 ≡ a → IsGoalAs t x g (goal_of (attribute_aim o name)) × IsGoalAt o (goal_of (attribute_aim o name))
attribute-at t zero x g name a h k e = (subst (λ b. IsGoalAs t x g (written.Synthesized b)) (sym e) h, tt)
attribute-at t (suc o) x g name a h k e = (subst (λ b. IsGoalAs t x g (written.Inherited b)) (sym e) k, tt)

module _ (env : Environment) (t : Tables) (symbols : Symbols) (known : AreKnown env t symbols) (r : RuleItem) (rule : Index) (p : PlainRule) (o s x : ℕ)
    (own : HasRuleAt t.spec r o rule) (occurs : IsOccurrenceOf t p r o s x) where
  -- an attribute more
  pub attribute-more : (id : ℕ) (name : StrId) → IsAttributeAt t x (record { 0 = id }) name.0 → (number : ℕ) → number ≡ id → (aim : Aim) → aim ≡ attribute_aim o name
      → (held : Option Held) → IsResolved rule symbols.classes symbols.index symbols.count x o aim held → (old new : List Entry) → AreUpTo t p 0 o id old
      → new ≡ old ++ entries_of o (goal.Attr (record { 0 = number })) held → AreUpTo t p 0 o (id + 1) new
  attribute-more id name at number n aim a held resolved old new up e =
      let both = attribute-at t o x (goal.Attr (record { 0 = id })) name name.0 at at refl in
      resolved-more env t symbols known r rule p o s x own occurs (goal.Attr (record { 0 = id })) (attribute_aim o name) both.0 both.1 held
      (subst (λ a. IsResolved rule symbols.classes symbols.index symbols.count x o a held) a resolved) old new up
      (e ∙ ap (λ k. old ++ entries_of o (goal.Attr (record { 0 = k })) held) n)

module _ (env : Environment) (t : Tables) (symbols : Symbols) (known : AreKnown env t symbols) (r : RuleItem) (rule : Index) (p : PlainRule) (s x : ℕ)
    (own : HasRuleAt t.spec r 0 rule) (occurs : IsOccurrenceOf t p r 0 s x) (place : ℕ) (name : StrId) (at : IsChainAt t place name.0) where
  chain-by : (b : Bool) (held : Option Held) → IsResolved rule symbols.classes symbols.index symbols.count x 0 (record { way = chain_way b; name = name }) held
      → (old new : List Entry) → AreUpTo t p (chain_kind b) 0 place old → new ≡ old ++ entries_of 0 (chain_goal b place) held → AreUpTo t p (chain_kind b) 0 (place + 1) new
  chain-by false held resolved old new up e = resolved-more env t symbols known r rule p 0 s x own occurs (goal.Start place) (record { way = way.Start; name = name }) at tt held resolved old new up e
  chain-by true held resolved old new up e = resolved-more env t symbols known r rule p 0 s x own occurs (goal.Behind place) (record { way = way.Behind; name = name }) at tt held resolved old new up e

  -- a chain more
  pub chain-more : (b : Bool) (number : ℕ) → number ≡ place → (g : Goal) → g ≡ chain_goal b number → (w : Way) → w ≡ chain_way b → (held : Option Held)
      → IsResolved rule symbols.classes symbols.index symbols.count x 0 (record { way = w; name = name }) held
      → (old new : List Entry) → AreUpTo t p (chain_kind b) 0 place old → new ≡ old ++ entries_of 0 g held → AreUpTo t p (chain_kind b) 0 (place + 1) new
  chain-more b number n g e w v held resolved old new up f =
      chain-by b held (subst (λ w. IsResolved rule symbols.classes symbols.index symbols.count x 0 (record { way = w; name = name }) held) v resolved) old new up
      (f ∙ ap (λ g. old ++ entries_of 0 g held) (e ∙ ap (chain_goal b) n))

pub attribute-there : (t : Tables) (x : ℕ) (attrs : List FlatAttr) → attrs_at t.symbols x ≡ attrs → (i : ℕ) (attr : FlatAttr) → slice_get attrs i ≡ Some attr → IsAttributeAt t x (record { 0 = i }) attr.name.0
attribute-there t x attrs of i attr e = by (slice_get t.symbols x) refl
  where
    by : (o : Option SymbolRow) → slice_get t.symbols x ≡ o → IsAttributeAt t x (record { 0 = i }) attr.name.0
    by None f = absurd (none-some attr (ap (λ (l : List FlatAttr). slice_get l i) (sym (ap attrs_of f) ∙ of) ∙ e))
    by (Some row) f = (row, attr, f, ap (λ (l : List FlatAttr). slice_get l i) (sym (ap attrs_of f) ∙ of) ∙ e, refl)

-- what goals say
attribute-named : (t : Tables) (x : ℕ) (id : AttrId) (v : written.Goal) → IsGoalAs t x (goal.Attr id) v → (a : ℕ) × IsAttributeAt t x id a
attribute-named t x id (written.Synthesized a) h = (a, h)
attribute-named t x id (written.Inherited a) h = (a, h)
attribute-named t x id (written.Start a) h = absurd h
attribute-named t x id (written.Behind a) h = absurd h
attribute-named t x id written.Output h = absurd h
attribute-named t x id (written.Message j) h = absurd h

late-goal : (t : Tables) (x o : ℕ) (g : Goal) (v : written.Goal) → IsGoalAs t x g v → IsGoalAt o v → 1 ≤ o → kind_of g ≡ 0
late-goal t x zero g v h k l = absurd (omega arith)
late-goal t x (suc o) (goal.Attr id) (written.Inherited a) h k l = refl
late-goal t x (suc o) (goal.Start i) (written.Inherited a) h k l = absurd h
late-goal t x (suc o) (goal.Behind i) (written.Inherited a) h k l = absurd h
late-goal t x (suc o) goal.Out (written.Inherited a) h k l = absurd h
late-goal t x (suc o) (goal.Message i) (written.Inherited a) h k l = absurd h
late-goal t x (suc o) g (written.Synthesized a) h k l = absurd k
late-goal t x (suc o) g (written.Start a) h k l = absurd k
late-goal t x (suc o) g (written.Behind a) h k l = absurd k
late-goal t x (suc o) g written.Output h k l = absurd k
late-goal t x (suc o) g (written.Message j) h k l = absurd k

module _ (t : Tables) (p : PlainRule) where
  -- right of the left side there are attributes alone
  pub late-entry : (d : Entry) (k : ℕ) → IsEntry t p d → kind_of d.goal ≡ suc k → 1 ≤ d.occ → ⊥
  late-entry d k (f, (r, s, of, at, force), is) e l =
      let z = late-goal t is.symbol f.occ d.goal f.goal is.goal (goal-in-force t r f.occ s f.goal f.holder f.comp force) (let q = is.occ in omega arith) in
      omega arith

  module _ (r : RuleItem) (single : IsSingle t.spec) (o s x : ℕ) (occurs : IsOccurrenceOf t p r o s x) where
    -- there are no more attributes than the symbol has
    pub past-attributes : (attrs : List FlatAttr) → attrs_at t.symbols x ≡ attrs → (d : Entry) → IsEntry t p d → kind_of d.goal ≡ 0 → d.occ ≡ o → length attrs ≤ number_in d.goal → ⊥
    past-attributes attrs of d (f, forced, is) k q l = by d.goal k l (goal-here t p r single o s x occurs d f is q)
      where
        by : (g : Goal) → kind_of g ≡ 0 → length attrs ≤ number_in g → IsGoalAs t x g f.goal → ⊥
        by (goal.Attr id) k l h =
            let (a, (row, attr, e, g, n)) = attribute-named t x id f.goal h in
            let w = slice_get_within attrs id.0 attr (ap (λ (l : List FlatAttr). slice_get l id.0) (sym of ∙ ap attrs_of e) ∙ g) in
            omega arith
        by (goal.Start i) k l h = omega arith
        by (goal.Behind i) k l h = omega arith
        by goal.Out k l h = omega arith
        by (goal.Message i) k l h = omega arith

    -- nor more chains than are declared
    pub past-chains : (b : Bool) (chains : List Typed1) → t.spec.chains ≡ chains → (d : Entry) → IsEntry t p d → kind_of d.goal ≡ chain_kind b → d.occ ≡ o → length chains ≤ number_in d.goal → ⊥
    past-chains b chains of d (f, forced, is) k q l = by b d.goal k l (goal-here t p r single o s x occurs d f is q)
      where
        past : (i c : ℕ) → length chains ≤ i → IsChainAt t i c → ⊥
        past i c l (d, e, n) = let w = slice_get_within chains i d (ap (λ (l : List Typed1). slice_get l i) (sym of) ∙ e) in omega arith

        by : (b : Bool) (g : Goal) → kind_of g ≡ chain_kind b → length chains ≤ number_in g → IsGoalAs t x g f.goal → ⊥
        by false (goal.Start i) k l h = let (c, e, m) = as-start t x i f.goal h in past i c l m
        by true (goal.Behind i) k l h = let (c, e, m) = as-behind t x i f.goal h in past i c l m
        by false (goal.Attr id) k l h = omega arith
        by false (goal.Behind i) k l h = omega arith
        by false goal.Out k l h = omega arith
        by false (goal.Message i) k l h = omega arith
        by true (goal.Attr id) k l h = omega arith
        by true (goal.Start i) k l h = omega arith
        by true goal.Out k l h = omega arith
        by true (goal.Message i) k l h = omega arith
