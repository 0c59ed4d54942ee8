-- The first clash is found in the order of symbols and of goals.
use Rattle.std.specs.Prelude.{Bool, true, false, cond, nat_eq, slice_get, filter_map, map}
use Rattle.std.proofs.Common.{◌≡◌, ℕ, zero, suc, ◌+◌, ◌<◌, ◌≤◌, ◌⊎◌, inl, inr, arith, List, [], ◌∷◌, length, get_or, Some, refl, sym, ap, ◌∙◌, subst, eq-eqb}
use Rattle.std.proofs.lemmas.Option.{none-some, same_Some, slice_get_within, get_or_from_slice_get}
use Rattle.std.proofs.lemmas.Bool.{cases_lt}
use Rattle.lido_base.specs.Environment.{Environment}
use Rattle.lido_base.specs.declared.ids.StrId.{StrId}
use Rattle.lido_base.specs.declared.kinds.Kind.{Kind}
use Rattle.lido_base.specs.declared.kinds.Kind.TheVariants as kind
use Rattle.lido_base.proofs.Lists.{place-contains, contains-here, contains-map, map-contains}
use Rattle.lido_base.proofs.TreeLemmas.{contains-test, test-contains}
use Rattle.flat_grammar.specs.declared.flat.FlatAttr.{FlatAttr}
use Rattle.lido_syntax.specs.declared.spec.Comp.{Comp}
use Rattle.lido_syntax.specs.declared.spec.Typed1.{Typed1}
use Rattle.lido_syntax.specs.Production.{name_of, left_of}
use Rattle.lido_syntax.specs.Symbols.{IsNonterminal, IsChain}
use Rattle.lido_syntax.specs.Attributes.{Has, HasKind}
use Rattle.lido_syntax.specs.Computation.{Goal, Synthesized, Inherited, Start, Behind, Output, Message}
use Rattle.lido_symbols.specs.Numbers.{place_in}
use Rattle.kind_clashes.specs.KindClash as clash
use Rattle.rule_tables.specs.declared.table.Tables.{Tables}
use Rattle.rule_tables.specs.declared.table.SymbolRow.{SymbolRow}
use Rattle.rule_tables.specs.declared.table.SymbolClass.{SymbolClass}
use Rattle.rule_tables.specs.declared.table.SymbolClass.TheVariants as class
use Rattle.lido_symbols.specs.Classes.{IsClass}
use Rattle.lido_symbols.specs.Uses.{element_name}
use Rattle.lido_syntax.specs.declared.fault.SpecFault.{SpecFault}
use Rattle.lido_syntax.specs.declared.fault.SpecFault.TheVariants as fault
use Rattle.rule_tables.specs.Needs.{Tables as Numbered}
use Rattle.rule_tables.specs.TablesOf.{named_symbols, IsSymbolClass}
use Rattle.symbol_attributes.specs.Written.{IsWrittenAttribute}
use Rattle.rule_tables.specs.InForceFaults.{IsBefore, name_in, goal_place, IsGoalFor, IsClash, IsClashInherited}
use Rattle.rule_tables.proofs.SlotLemmas.{number-at_place}
use Rattle.computation_aims.specs.Aims.{goal_of}
use Rattle.symbol_inherit.specs.BySymbol as its
use Rattle.symbol_inherit.specs.BySymbol.{BySymbol, Says}
use Rattle.symbol_inherit.specs.Standings.{IsFound}
use Rattle.symbol_inherit.specs.Entries.{attrs_at, chain_way, chain_kind, AreKnown}
use Rattle.symbol_inherit.specs.Clashes.{kind_aim, AreNumbersIn, AreTwoLeft, IsTwoOf, IsClashFor, IsFirstClash, HasNoClash, HasNoClashBelow, clash_fault}
use Rattle.computation_aims.specs.declared.aims.Aim.{Aim}
use Rattle.symbol_inherit.specs.declared.standing.Standing.{Standing}
use Rattle.symbol_inherit.specs.declared.standing.Standing.TheVariants as standing
use Rattle.symbol_inherit.specs.declared.symbols.Symbols.{Symbols}
use Rattle.symbol_inherit.specs.declared.clashes.Clash.{Clash}
use Rattle.symbol_inherit.specs.declared.clashes.ClashAt.{ClashAt}
use Rattle.symbol_inherit.proofs.AttributeLemmas.{written-at, attribute-in, in-order}
use Rattle.symbol_inherit.proofs.HeirLemmas.{mapped-place}
use Rattle.symbol_inherit.proofs.PlaceLemmas.{mapped-back}
use Rattle.symbol_inherit.proofs.KindLemmas.{one-kind}
use Rattle.symbol_inherit.proofs.StandingLemmas.{found-says}

place-before : (c : ℕ) (xs : List ℕ) (i : ℕ) → slice_get xs i ≡ Some c → place_in (nat_eq c) xs ≤ i
place-before c [] i e = absurd (none-some c e)
place-before c (x ∷ xs) zero e = rw (eq-eqb c x (sym (same_Some x c e))) (omega arith)
place-before c (x ∷ xs) (suc i) e = by (nat_eq c x) (place-before c xs i e)
  where
    by : (b : Bool) → place_in (nat_eq c) xs ≤ i → cond b 0 (suc (place_in (nat_eq c) xs)) ≤ suc i
    by true h = omega arith
    by false h = omega arith

-- one element more
pub none-more : {X : Type 0} (P : X → Type 0) (xs : List X) (i : ℕ) (d : X) → ((j : ℕ) (x : X) → j < i → slice_get xs j ≡ Some x → ¬ P x) → ¬ P (get_or xs i d)
    → (j : ℕ) (x : X) → j < i + 1 → slice_get xs j ≡ Some x → ¬ P x
none-more P xs i d before here j x l e p = by (cases_lt j i)
  where
    by : (j < i) ⊎ (i ≤ j) → ⊥
    by (inl lt) = before j x lt e p
    by (inr le) = let same : j ≡ i = omega arith in here (subst P (sym (get_or_from_slice_get xs i x d (ap (slice_get xs) (sym same) ∙ e))) p)

module _ (env : Environment) (t : Tables) (symbols : Symbols) (known : AreKnown env t symbols) (T : Numbered t.spec) (x s : ℕ) (at : slice_get (named_symbols t) x ≡ Some s) where
  says : (aim : Aim) (st : Standing) → IsFound symbols.classes symbols.index symbols.count x aim st → Says t.spec s (goal_of aim) T st
  says aim st = found-says t env known.tables known.single symbols.classes known.symbols.heirs symbols.index known.symbols.owns symbols.count known.symbols.count x s at aim T st

  pub two-missing : (aim : Aim) → IsFound symbols.classes symbols.index symbols.count x aim standing.Missing → ¬ AreTwoLeft t.spec T s (goal_of aim)
  two-missing aim found two = (says aim standing.Missing found).2 two.one two.one_left

  pub two-computed : (aim : Aim) (n : ℕ) → IsFound symbols.classes symbols.index symbols.count x aim (standing.Computed n) → ¬ AreTwoLeft t.spec T s (goal_of aim)
  two-computed aim n found two = by (says aim (standing.Computed n) found).0 (says aim (standing.Computed n) found).1
    where
      by : (c : Comp) → BySymbol t.spec s (goal_of aim) c → ⊥
      by c (its.own h) = two.not_own (c, h)
      by c (its.inherited class not_own left only h) = two.two (only two.one two.one_left ∙ sym (only two.other two.other_left))

  pub two-there : (aim : Aim) (first second : ℕ) → IsFound symbols.classes symbols.index symbols.count x aim (standing.Clash first second)
      → IsTwoOf t.spec T s (goal_of aim) (Some (record { first = first; second = second }))
  two-there aim first second found =
      let it = says aim (standing.Clash first second) found in (
        record { not_own = it.0; one = it.1.one; other = it.1.other; one_left = it.1.is_first.1; other_left = it.1.is_second.1; two = it.1.two },
        it.1,
      )

  clash-two : (g : Goal) → IsClash t.spec T s g → AreTwoLeft t.spec T s g
  clash-two g c = record { not_own = c.not_own; one = c.one; other = c.other; one_left = c.one_left; other_left = c.other_left; two = c.two }

  module _ (nonterminal : IsNonterminal t.spec s) where
    two-clash : (g : Goal) → IsGoalFor t.spec T s g → AreTwoLeft t.spec T s g → IsClash t.spec T s g
    two-clash g goal c = record { nonterminal = nonterminal; its_goal = goal; not_own = c.not_own; one = c.one; other = c.other; one_left = c.one_left; other_left = c.other_left; two = c.two }

    -- attributes
    module _ (numbers : AreNumbersIn t T) (attrs : List FlatAttr) (of : attrs_at t.symbols x ≡ attrs) where
      abbrev aim_of : FlatAttr → Aim
      aim_of attr = kind_aim attr.kind attr.name

      aimed : (attr : FlatAttr) (k : Kind) (a : ℕ) → attr.kind ≡ k → attr.name.0 ≡ a → goal_of (aim_of attr) ≡ goal_of (kind_aim k (record { 0 = a }))
      aimed attr k a e n = ap (λ z. goal_of (kind_aim z attr.name)) e ∙ ap (λ z. goal_of (kind_aim k (record { 0 = z }))) n

      attribute-of : (k : Kind) (a : ℕ) → Has t.spec s a → HasKind t.spec s a k → (j : ℕ) × (attr : FlatAttr) × (slice_get attrs j ≡ Some attr) × (attr.name.0 ≡ a) × (attr.kind ≡ k)
      attribute-of k a has of_kind =
          let (j, attr, there, n) = attribute-in env t known.tables x s at attrs of a has in
          (j, attr, there, n, one-kind t.spec known.kinds.0 known.kinds.1 s a attr.kind k (subst (λ z. HasKind t.spec s z attr.kind) n (written-at env t known.tables x s at attrs of j attr there).kind) of_kind)

      goal-attribute : (h : Goal) → IsClash t.spec T s h → (goal_place t.spec T h).0 < 1
          → (j : ℕ) × (attr : FlatAttr) × (slice_get attrs j ≡ Some attr) × (goal_of (aim_of attr) ≡ h) × ((goal_place t.spec T h).1 ≡ place_in (nat_eq attr.name.0) T.attributes)
      goal-attribute (Synthesized a) c l =
          let (j, attr, f, n, e) = attribute-of kind.Synthesized a c.its_goal.0 c.its_goal.1 in
          (j, attr, f, aimed attr kind.Synthesized a e n, ap (λ z. place_in (nat_eq z) T.attributes) (sym n))
      goal-attribute (Inherited a) c l =
          let (j, attr, f, n, e) = attribute-of kind.Inherited a c.its_goal.0 c.its_goal.1 in
          (j, attr, f, aimed attr kind.Inherited a e n, ap (λ z. place_in (nat_eq z) T.attributes) (sym n))
      goal-attribute (Start c) h l = absurd (omega arith)
      goal-attribute (Behind c) h l = absurd (omega arith)
      goal-attribute Output h l = absurd (omega arith)
      goal-attribute (Message j) h l = absurd (omega arith)

      abbrev AreNone : ℕ → Type 0
      AreNone n = (j : ℕ) (attr : FlatAttr) → j < n → slice_get attrs j ≡ Some attr → ¬ AreTwoLeft t.spec T s (goal_of (aim_of attr))

      pub attributes-none : AreNone (length attrs) → HasNoClash t.spec T s 1
      attributes-none none h c l =
          let (j, attr, f, e, _) = goal-attribute h c l in
          none j attr (slice_get_within attrs j attr f) f (subst (λ z. AreTwoLeft t.spec T s z) (sym e) (clash-two h c))

      goal-of-attribute : (attr : FlatAttr) (k : Kind) → attr.kind ≡ k → IsWrittenAttribute t.spec s attr → IsGoalFor t.spec T s (goal_of (kind_aim k attr.name))
      goal-of-attribute attr kind.Synthesized e is = (is.of_symbol, subst (λ k. HasKind t.spec s attr.name.0 k) e is.kind)
      goal-of-attribute attr kind.Inherited e is = (is.of_symbol, subst (λ k. HasKind t.spec s attr.name.0 k) e is.kind)

      place-of-attribute : (attr : FlatAttr) (k : Kind) → let z : ℕ × ℕ = (0, place_in (nat_eq attr.name.0) T.attributes) in goal_place t.spec T (goal_of (kind_aim k attr.name)) ≡ z
      place-of-attribute attr kind.Synthesized = refl
      place-of-attribute attr kind.Inherited = refl

      name-of-attribute : (attr : FlatAttr) (k : Kind) → name_in (goal_of (kind_aim k attr.name)) ≡ attr.name.0
      name-of-attribute attr kind.Synthesized = refl
      name-of-attribute attr kind.Inherited = refl

      pub attribute-found : (i : ℕ) (attr : FlatAttr) → slice_get attrs i ≡ Some attr → AreNone i → (clash : Clash) → IsClashFor t.spec T s (aim_of attr) (Some clash) → IsFirstClash t.spec T s clash
      attribute-found i attr f none clash (two, places, name) = record {
        g = goal_of (aim_of attr);
        its = two-clash (goal_of (aim_of attr)) (goal-of-attribute attr attr.kind refl (written-at env t known.tables x s at attrs of i attr f)) two;
        least = λ h c before. earlier h c (subst (λ z. IsBefore (goal_place t.spec T h) z) (place-of-attribute attr attr.kind) before);
        places = places;
        name = name-of-attribute attr attr.kind ∙ ap (λ (n : StrId). n.0) (sym name);
      }
        where
          not-before : (h : Goal) → IsClash t.spec T s h → (goal_place t.spec T h).0 < 1 → place_in (nat_eq attr.name.0) T.attributes ≤ (goal_place t.spec T h).1
          not-before h c l =
              let (j, other, g, e, p) = goal-attribute h c l in
              by j other g e p (cases_lt j i)
            where
              by : (j : ℕ) (other : FlatAttr) → slice_get attrs j ≡ Some other → goal_of (aim_of other) ≡ h → (goal_place t.spec T h).1 ≡ place_in (nat_eq other.name.0) T.attributes
                  → (j < i) ⊎ (i ≤ j) → place_in (nat_eq attr.name.0) T.attributes ≤ (goal_place t.spec T h).1
              by j other g e p (inl lt) = absurd (none j other lt g (subst (λ z. AreTwoLeft t.spec T s z) (sym e) (clash-two h c)))
              by j other g e p (inr le) = let b = in-order env t known.tables x s at attrs of T.attributes numbers.attributes i j attr other f g le in omega arith

          earlier : (h : Goal) → IsClash t.spec T s h → (let z : ℕ × ℕ = (0, place_in (nat_eq attr.name.0) T.attributes) in IsBefore (goal_place t.spec T h) z) → ⊥
          earlier h c (inl l) = omega arith
          earlier h c (inr (e, l)) = let b = not-before h c (omega arith) in omega arith

    -- chains
    module _ (b : Bool) (chains : List Typed1) (of : t.spec.chains ≡ chains) (none_before : HasNoClash t.spec T s (chain_kind b)) where
      abbrev chain_aim : Typed1 → Aim
      chain_aim d = record { way = chain_way b; name = d.name.id }

      abbrev names : List ℕ
      names = map (λ (d : Typed1). name_of d.name) t.spec.chains

      chain-goal-at : (v : Bool) → v ≡ b → (c : ℕ) → Goal
      chain-goal-at v e c = goal_of (record { way = chain_way v; name = record { 0 = c } })

      abbrev NoneOf : ℕ → Type 0
      NoneOf n = (j : ℕ) (d : Typed1) → j < n → slice_get chains j ≡ Some d → ¬ AreTwoLeft t.spec T s (goal_of (chain_aim d))

      chain-first : (c : ℕ) → IsChain t.spec c → (d : Typed1) × (slice_get chains (place_in (nat_eq c) names) ≡ Some d) × (name_of d.name ≡ c)
      chain-first c h =
          let (d, e, n) = mapped-back (λ (d : Typed1). name_of d.name) t.spec.chains (place_in (nat_eq c) names) c (number-at_place c names (contains-test c names h)) in
          (d, ap (λ (l : List Typed1). slice_get l (place_in (nat_eq c) names)) (sym of) ∙ e, n)

      goal-chain : (v : Bool) → v ≡ b → (h : Goal) → IsClash t.spec T s h → (goal_place t.spec T h).0 ≡ chain_kind v
          → (c : ℕ) × IsChain t.spec c × (goal_of (record { way = chain_way v; name = record { 0 = c } }) ≡ h) × ((goal_place t.spec T h).1 ≡ place_in (nat_eq c) names)
      goal-chain false e (Start c) k l = (c, k.its_goal, refl, refl)
      goal-chain true e (Behind c) k l = (c, k.its_goal, refl, refl)
      goal-chain false e (Synthesized a) k l = absurd (omega arith)
      goal-chain false e (Inherited a) k l = absurd (omega arith)
      goal-chain false e (Behind a) k l = absurd (omega arith)
      goal-chain false e Output k l = absurd (omega arith)
      goal-chain false e (Message a) k l = absurd (omega arith)
      goal-chain true e (Synthesized a) k l = absurd (omega arith)
      goal-chain true e (Inherited a) k l = absurd (omega arith)
      goal-chain true e (Start a) k l = absurd (omega arith)
      goal-chain true e Output k l = absurd (omega arith)
      goal-chain true e (Message a) k l = absurd (omega arith)

      named-goal : (d : Typed1) (c : ℕ) → name_of d.name ≡ c → goal_of (chain_aim d) ≡ goal_of (record { way = chain_way b; name = record { 0 = c } })
      named-goal d c n = ap (λ z. goal_of (record { way = chain_way b; name = record { 0 = z } })) n

      at-first : (h : Goal) → IsClash t.spec T s h → (goal_place t.spec T h).0 ≡ chain_kind b → (n : ℕ) → NoneOf n → n ≤ (goal_place t.spec T h).1
      at-first h k l n none =
          let (c, chain, e, p) = goal-chain b refl h k l in
          let (d, f, m) = chain-first c chain in
          by c d f m e p (cases_lt (place_in (nat_eq c) names) n)
        where
          by : (c : ℕ) (d : Typed1) → slice_get chains (place_in (nat_eq c) names) ≡ Some d → name_of d.name ≡ c → goal_of (record { way = chain_way b; name = record { 0 = c } }) ≡ h
              → (goal_place t.spec T h).1 ≡ place_in (nat_eq c) names → (place_in (nat_eq c) names < n) ⊎ (n ≤ place_in (nat_eq c) names) → n ≤ (goal_place t.spec T h).1
          by c d f m e p (inl lt) = absurd (none (place_in (nat_eq c) names) d lt f (subst (λ z. AreTwoLeft t.spec T s z) (sym (named-goal d c m ∙ e)) (clash-two h k)))
          by c d f m e p (inr le) = omega arith

      within : (h : Goal) → IsClash t.spec T s h → (goal_place t.spec T h).0 ≡ chain_kind b → (goal_place t.spec T h).1 < length chains
      within h k l =
          let (c, chain, e, p) = goal-chain b refl h k l in
          let (d, f, m) = chain-first c chain in
          let w = slice_get_within chains (place_in (nat_eq c) names) d f in
          omega arith

      pub chains-none : NoneOf (length chains) → HasNoClash t.spec T s (suc (chain_kind b))
      chains-none none h k l = by (cases_lt (goal_place t.spec T h).0 (chain_kind b))
        where
          by : ((goal_place t.spec T h).0 < chain_kind b) ⊎ (chain_kind b ≤ (goal_place t.spec T h).0) → ⊥
          by (inl lt) = none_before h k lt
          by (inr le) =
              let same : (goal_place t.spec T h).0 ≡ chain_kind b = omega arith in
              let first = at-first h k same (length chains) none in
              let w = within h k same in
              omega arith

      chain-goal-for : (v : Bool) (c : ℕ) → IsChain t.spec c → IsGoalFor t.spec T s (goal_of (record { way = chain_way v; name = record { 0 = c } }))
      chain-goal-for false c h = h
      chain-goal-for true c h = h

      place-of-chain : (v : Bool) (c : ℕ) → let z : ℕ × ℕ = (chain_kind v, place_in (nat_eq c) names) in goal_place t.spec T (goal_of (record { way = chain_way v; name = record { 0 = c } })) ≡ z
      place-of-chain false c = refl
      place-of-chain true c = refl

      name-of-chain : (v : Bool) (c : ℕ) → name_in (goal_of (record { way = chain_way v; name = record { 0 = c } })) ≡ c
      name-of-chain false c = refl
      name-of-chain true c = refl

      pub chain-found : (i : ℕ) (d : Typed1) → slice_get chains i ≡ Some d → NoneOf i → (clash : Clash) → IsClashFor t.spec T s (chain_aim d) (Some clash) → IsFirstClash t.spec T s clash
      chain-found i d f none clash (two, places, name) = record {
        g = goal_of (chain_aim d);
        its = two-clash (goal_of (chain_aim d)) (chain-goal-for b (name_of d.name) declared) two;
        least = λ h k before. earlier h k (subst (λ z. IsBefore (goal_place t.spec T h) z) (place-of-chain b (name_of d.name)) before);
        places = places;
        name = name-of-chain b (name_of d.name) ∙ ap (λ (n : StrId). n.0) (sym name);
      }
        where
          declared : IsChain t.spec (name_of d.name)
          declared = test-contains (name_of d.name) names (map-contains (λ (d : Typed1). name_of d.name) t.spec.chains d (place-contains t.spec.chains i d (ap (λ (l : List Typed1). slice_get l i) of ∙ f)))

          its-place : place_in (nat_eq (name_of d.name)) names ≤ i
          its-place = place-before (name_of d.name) names i (mapped-place (λ (d : Typed1). name_of d.name) t.spec.chains i d (ap (λ (l : List Typed1). slice_get l i) of ∙ f))

          earlier : (h : Goal) → IsClash t.spec T s h → (let z : ℕ × ℕ = (chain_kind b, place_in (nat_eq (name_of d.name)) names) in IsBefore (goal_place t.spec T h) z) → ⊥
          earlier h k (inl l) = none_before h k l
          earlier h k (inr (e, l)) = let first = at-first h k e i none in let p = its-place in omega arith

  -- a symbol that is no nonterminal has no clash
  pub other-none : (row : SymbolRow) → slice_get t.symbols x ≡ Some row → (row.class ≡ class.Nonterminal → ⊥) → (g : Goal) → ¬ IsClash t.spec T s g
  other-none row e other g c = by row.class other (known.tables.rows x s row at e).class
    where
      by : (k : SymbolClass) → (k ≡ class.Nonterminal → ⊥) → IsSymbolClass t.spec env (named_symbols t) s k → ⊥
      by class.Nonterminal not is = not refl
      by (class.Terminal ty) not is = is.0 c.nonterminal
      by class.Class not is =
          let (r, m, n) = contains-map left_of t.spec.rules s (contains-test s (map left_of t.spec.rules) c.nonterminal) in
          known.kinds.1 r.left.at (clash.class_in_production r r.left m (contains-here r.left (filter_map element_name r.right)) (subst (λ z. IsClass t.spec z) (sym n) is) refl)
      by class.Cell not is = is

  pub is-nonterminal : (row : SymbolRow) → slice_get t.symbols x ≡ Some row → row.class ≡ class.Nonterminal → IsNonterminal t.spec s
  is-nonterminal row e k = subst (λ k. IsSymbolClass t.spec env (named_symbols t) s k) k (known.tables.rows x s row at e).class

  pub its-name : (row : SymbolRow) → slice_get t.symbols x ≡ Some row → row.name.0 ≡ s
  its-name row e = (known.tables.rows x s row at e).name

  pub all-kinds : HasNoClash t.spec T s 3 → (g : Goal) → ¬ IsClash t.spec T s g
  all-kinds none (Synthesized a) c = none (Synthesized a) c (omega arith)
  all-kinds none (Inherited a) c = none (Inherited a) c (omega arith)
  all-kinds none (Start a) c = none (Start a) c (omega arith)
  all-kinds none (Behind a) c = none (Behind a) c (omega arith)
  all-kinds none Output c = c.its_goal
  all-kinds none (Message j) c = c.its_goal

module _ (env : Environment) (t : Tables) (symbols : Symbols) (known : AreKnown env t symbols) (T : Numbered t.spec) (numbers : AreNumbersIn t T) where
  pub below-more : (x : ℕ) → HasNoClashBelow t T x → ((s : ℕ) → slice_get (named_symbols t) x ≡ Some s → (g : Goal) → ¬ IsClash t.spec T s g) → HasNoClashBelow t T (x + 1)
  below-more x before here y q h l e = by (cases_lt y x)
    where
      by : (y < x) ⊎ (x ≤ y) → ¬ IsClash t.spec T q h
      by (inl lt) = before y q h lt e
      by (inr le) = let same : y ≡ x = omega arith in here q (ap (slice_get (named_symbols t)) (sym same) ∙ e) h

  pub none-at-all : (x : ℕ) → length (named_symbols t) ≤ x → HasNoClashBelow t T x → (f : SpecFault) → ¬ IsClashInherited t.spec T f
  none-at-all x l below f c =
      let e = ap (λ (l : List ℕ). slice_get l c.x) (sym numbers.symbols) ∙ c.number in
      let w = slice_get_within (named_symbols t) c.x c.s e in
      below c.x c.s c.g (omega arith) e c.clash

  pub first-found : (x s : ℕ) → slice_get (named_symbols t) x ≡ Some s → HasNoClashBelow t T x → (c : ClashAt) → IsFirstClash t.spec T s c.clash → c.symbol.0 ≡ s → IsClashInherited t.spec T (clash_fault c)
  first-found x s at below c is name = record {
    x = x;
    s = s;
    g = is.g;
    first = c.clash.two.first;
    second = c.clash.two.second;
    number = ap (λ (l : List ℕ). slice_get l x) numbers.symbols ∙ at;
    clash = is.its;
    least_symbol = λ y q h e k. least y q h (ap (λ (l : List ℕ). slice_get l y) (sym numbers.symbols) ∙ e) k (cases_lt y x);
    least_goal = is.least;
    places = is.places;
    fault = λ i. fault.ClashInherited (record { 0 = name i }) (record { 0 = sym is.name i }) c.clash.two.first c.clash.two.second;
  }
    where
      least : (y q : ℕ) (h : Goal) → slice_get (named_symbols t) y ≡ Some q → IsClash t.spec T q h → (y < x) ⊎ (x ≤ y) → x ≤ y
      least y q h e k (inl lt) = absurd (below y q h lt e k)
      least y q h e k (inr le) = le
