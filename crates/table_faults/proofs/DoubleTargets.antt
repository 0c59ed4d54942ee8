-- Double computations of the language are those that the code notes.
use Rattle.std.specs.Prelude.{IsTrue, slice_get, Contains, Bool, true, false, if◌then◌else◌, option_to_list, option_map, flat_map, map}
use Rattle.std.proofs.Common.{◌≡◌, ℕ, zero, suc, ◌<◌, ◌⊎◌, inl, inr, List, [], ◌∷◌, Option, Some, None, refl, arith, sym, ap, subst, ◌∙◌}
use Rattle.std.proofs.lemmas.Bool.{cases_lt}
use Rattle.std.proofs.lemmas.Option.{none-some, same_Some}
use Rattle.lido_base.proofs.Lists.{contains-nil, contains-cons, contains-here, contains-place, place-contains, contains-flat, flat-contains, map-contains, contains-map}
use Rattle.lido_base.proofs.TreeLemmas.{contains-test, test-contains}
use Rattle.lido_base.specs.Environment.{Environment}
use Rattle.lido_syntax.specs.declared.spec.Spec.{Spec}
use Rattle.lido_syntax.specs.declared.spec.Name.{Name}
use Rattle.lido_syntax.specs.declared.spec.Comp.{Comp}
use Rattle.lido_syntax.specs.declared.spec.RuleItem.{RuleItem}
use Rattle.lido_syntax.specs.declared.spec.SymbolItem.{SymbolItem}
use Rattle.lido_syntax.specs.declared.spec.Target.{Target}
use Rattle.lido_syntax.specs.declared.spec.Target.TheVariants as target
use Rattle.lido_syntax.specs.declared.spec.Place.TheVariants as place
use Rattle.lido_syntax.specs.Production.{name_of}
use Rattle.lido_syntax.specs.Sets.{names_of}
use Rattle.lido_syntax.specs.Computation.{Goal, Synthesized, Inherited, Start, Behind, Output, Message, messages_of, IsRuleTarget, IsSymbolTarget, InRule, InSymbol}
use Rattle.computation_aims.specs.Aims.{goal_of, aim_in_symbol, aim_in_rule, AreChains}
use Rattle.computation_aims.specs.declared.aims.Way.TheVariants as way
use Rattle.computation_aims.specs.declared.aims.Aim.{Aim}
use Rattle.computation_aims.proofs.KeyLemmas.{same-aim, aim-same}
use Rattle.computation_aims.proofs.SymbolAims as symbol
use Rattle.computation_aims.proofs.RuleAims as rule
use Rattle.kind_clashes.specs.declared.names.Names.{Names}
use Rattle.kind_clashes.specs.Least.{IsFirst, Among, earlier_of}
use Rattle.kind_clashes.specs.Names.{has, IsSetOf}
use Rattle.kind_clashes.proofs.LeastLemmas.{first-none, first-same, first-join}
use Rattle.table_faults.specs.declared.doubles.Computed.{Computed}
use Rattle.table_faults.specs.Doubles.{IsDoubleIn, placed_in_rule, computed_in_rule, all_in_rule, placed_in_symbol, computed_in_symbol, all_in_body, IsDoubleInItem, IsShared, all_if_shared, all_in_item, IsDoubleOfSymbol}
use Rattle.table_faults.specs.Faults.{IsDouble, in_rule, in_symbol}

-- a goal is that of an aim, or none that an aim has
goal-kind : (g : Goal) → ((aim : Aim) × (goal_of aim ≡ g)) ⊎ ((g ≡ Output) ⊎ ((j : ℕ) × (g ≡ Message j)))
goal-kind (Synthesized a) = inl (record { way = way.Synthesized; name = record { 0 = a } }, refl)
goal-kind (Inherited a) = inl (record { way = way.Inherited; name = record { 0 = a } }, refl)
goal-kind (Start c) = inl (record { way = way.Start; name = record { 0 = c } }, refl)
goal-kind (Behind c) = inl (record { way = way.Behind; name = record { 0 = c } }, refl)
goal-kind Output = inr (inl refl)
goal-kind (Message j) = inr (inr (j, refl))

goal-aimed : (a : Aim) → ¬ (goal_of a ≡ Output)
goal-aimed a e = by a.way e
  where
    by : (w : _) → ¬ (goal_of (record { way = w; name = a.name }) ≡ Output)
    by way.Synthesized e = cc
    by way.Inherited e = cc
    by way.Start e = cc
    by way.Behind e = cc

contains-option : {X : Type 0} (o : Option X) (x : X) → Contains (option_to_list o) x → o ≡ Some x
contains-option None x m = absurd (contains-nil x m)
contains-option (Some y) x m = elim (contains-cons y x [] m) [ inl e ↦ ap Some e | inr n ↦ absurd (contains-nil x n) ]

option-contains : {X : Type 0} (o : Option X) (x : X) → o ≡ Some x → Contains (option_to_list o) x
option-contains o x e = subst (λ o. Contains (option_to_list o) x) (sym e) (contains-here x [])

mapped-some : {X Y : Type 0} (f : X → Y) (o : Option X) (y : Y) → option_map f o ≡ Some y → (x : X) × (o ≡ Some x) × (f x ≡ y)
mapped-some f None y e = absurd (none-some y e)
mapped-some f (Some x) y e = (x, refl, same_Some _ _ e)

-- what stands among the computations that are noted
module _ (chains : List ℕ) (r : RuleItem) where
  rule-noted : (n : Computed) → Contains (all_in_rule chains r) n → (c : Comp) × Contains r.body c × ((p : ℕ × Aim) × (aim_in_rule chains r c.target ≡ Some p) × (placed_in_rule c p ≡ n))
  rule-noted n m =
      let (c, of, k) = contains-flat (λ (c : Comp). option_to_list (computed_in_rule chains r c)) r.body n m in
      (c, of, mapped-some (placed_in_rule c) (aim_in_rule chains r c.target) n (contains-option _ n k))

  noted-rule : (c : Comp) (p : ℕ × Aim) → Contains r.body c → aim_in_rule chains r c.target ≡ Some p → Contains (all_in_rule chains r) (placed_in_rule c p)
  noted-rule c p of e = flat-contains (λ (c : Comp). option_to_list (computed_in_rule chains r c)) r.body c _ of (option-contains _ _ (ap (option_map (placed_in_rule c)) e))

module _ (s : ℕ) (body : List Comp) where
  body-noted : (n : Computed) → Contains (all_in_body s body) n → (c : Comp) × Contains body c × ((a : Aim) × (aim_in_symbol c.target ≡ Some a) × (placed_in_symbol s c a ≡ n))
  body-noted n m =
      let (c, of, k) = contains-flat (λ (c : Comp). option_to_list (computed_in_symbol s c)) body n m in
      (c, of, mapped-some (placed_in_symbol s c) (aim_in_symbol c.target) n (contains-option _ n k))

  noted-body : (c : Comp) (a : Aim) → Contains body c → aim_in_symbol c.target ≡ Some a → Contains (all_in_body s body) (placed_in_symbol s c a)
  noted-body c a of e = flat-contains (λ (c : Comp). option_to_list (computed_in_symbol s c)) body c _ of (option-contains _ _ (ap (option_map (placed_in_symbol s c)) e))

module _ (shared : Names) where
  item-noted : (item : SymbolItem) (n : Computed) → Contains (all_in_item shared item) n → (x : Name) × Contains item.names x × Contains (all_in_body (name_of x) item.body) n
  item-noted item n m = let (x, of, k) = contains-flat (λ (x : Name). all_if_shared shared item.body (name_of x)) item.names n m in (x, of, by x (has shared (name_of x)) k)
    where
      by : (x : Name) (b : Bool) → Contains (if b then all_in_body (name_of x) item.body else []) n → Contains (all_in_body (name_of x) item.body) n
      by x true k = k
      by x false k = absurd (contains-nil n k)

  noted-item : (item : SymbolItem) (x : Name) (n : Computed) → Contains item.names x → IsTrue (has shared (name_of x)) → Contains (all_in_body (name_of x) item.body) n → Contains (all_in_item shared item) n
  noted-item item x n of is m = flat-contains (λ (x : Name). all_if_shared shared item.body (name_of x)) item.names x n of (subst (λ b. Contains (if b then all_in_body (name_of x) item.body else []) n) (sym is) m)

-- a message of a rule is the one computation of its number
message-target : (spec : Spec) (r : RuleItem) (c : Comp) (t : Target) (k j : ℕ) → IsRuleTarget spec r c t k (Message j) → (i : ℕ) × (j ≡ suc i) × (slice_get (messages_of r) i ≡ Some c)
message-target spec r c (target.Message s e) zero zero h = absurd h
message-target spec r c (target.Message s e) zero (suc i) h = (i, refl, h)
message-target spec r c (target.Message s e) (suc k) j h = absurd h
message-target spec r c (target.Attr (place.Named x i) a) zero j h = absurd h
message-target spec r c (target.Attr (place.Named x i) a) (suc k) j h = absurd h
message-target spec r c (target.Attr place.Synt a) zero j h = absurd h
message-target spec r c (target.Attr place.Synt a) (suc k) j h = absurd h
message-target spec r c (target.Attr place.Inh a) zero j h = absurd h
message-target spec r c (target.Attr place.Inh a) (suc k) j h = absurd h
message-target spec r c (target.Attr place.This a) zero j h = absurd h
message-target spec r c (target.Attr place.This a) (suc k) j h = absurd h
message-target spec r c (target.Attr place.Tail a) zero j h = absurd h
message-target spec r c (target.Attr place.Tail a) (suc k) j h = absurd h
message-target spec r c (target.Start a) zero j h = absurd h
message-target spec r c (target.Start a) (suc k) j h = absurd h
message-target spec r c target.Out zero j h = absurd h
message-target spec r c target.Out (suc k) j h = absurd h

one-message : (spec : Spec) (r : RuleItem) (c d : Comp) (k j : ℕ) → IsRuleTarget spec r c c.target k (Message j) → IsRuleTarget spec r d d.target k (Message j) → c ≡ d
one-message spec r c d k j p q =
    let (i, e, f) = message-target spec r c c.target k j p in
    let (m, g, h) = message-target spec r d d.target k j q in
    let same : i ≡ m = omega (arith, e, g) in
    same_Some _ _ (sym f ∙ ap (slice_get (messages_of r)) same ∙ h)

module _ (spec : Spec) where
  -- a symbol's body puts out nothing and gives no message
  no-output : (t : Target) → ¬ IsSymbolTarget spec t Output
  no-output (target.Attr (place.Named x i) a) h = h
  no-output (target.Attr place.Synt a) h = h
  no-output (target.Attr place.Inh a) h = h
  no-output (target.Attr place.This a) h = h
  no-output (target.Attr place.Tail a) h = h
  no-output (target.Start a) h = h
  no-output target.Out h = h
  no-output (target.Message s e) h = h

  no-message : (t : Target) (j : ℕ) → ¬ IsSymbolTarget spec t (Message j)
  no-message (target.Attr (place.Named x i) a) j h = h
  no-message (target.Attr place.Synt a) j h = h
  no-message (target.Attr place.Inh a) j h = h
  no-message (target.Attr place.This a) j h = h
  no-message (target.Attr place.Tail a) j h = h
  no-message (target.Start a) j h = h
  no-message target.Out j h = h
  no-message (target.Message s e) j h = h

module _ (spec : Spec) (env : Environment) (chains : List ℕ) (are : AreChains spec chains) where
  rules-to : (at : ℕ) → Among (λ (r : RuleItem). IsDoubleIn (all_in_rule chains r)) spec.rules at → IsDouble spec env at
  rules-to at h =
      let r = h.item in
      let (c, of, u) = rule-noted chains r h.is.first h.is.there in
      let (p, e, f) = u in
      let (d, in_, v) = rule-noted chains r h.is.second h.is.behind in
      let (q, g, k) = v in
      let same = same-aim h.is.first.place h.is.second.place h.is.first.aim h.is.second.aim h.is.same in
      let places : p.0 ≡ q.0 = ap (λ (n : Computed). n.place) f ∙ same.0 ∙ sym (ap (λ (n : Computed). n.place) k) in
      let aims : p.1 ≡ q.1 = ap (λ (n : Computed). n.aim) f ∙ same.1 ∙ sym (ap (λ (n : Computed). n.aim) k) in
      let first : c.at ≡ h.is.first.at = ap (λ (n : Computed). n.at) f in
      let second : d.at ≡ h.is.second.at = ap (λ (n : Computed). n.at) k in
      let before = h.is.before in
      in_rule r q.0 (goal_of q.1) c d h.among
      (of, subst (λ (x : ℕ × Aim). IsRuleTarget spec r c c.target x.0 (goal_of x.1)) (λ i. (places i, aims i)) (rule.aim-target spec chains are r c c.target p.0 p.1 e))
      (in_, rule.aim-target spec chains are r d d.target q.0 q.1 g)
      (goal-aimed q.1) (omega (arith, before, first, second)) (h.is.place ∙ sym second)

  rule-from : (at : ℕ) (r : RuleItem) (k : ℕ) (g : Goal) (c d : Comp) → Contains spec.rules r → InRule spec r k g c → InRule spec r k g d → (g ≡ Output → ⊥) → c.at < d.at → at ≡ d.at
      → Among (λ (r : RuleItem). IsDoubleIn (all_in_rule chains r)) spec.rules at
  rule-from at r k g c d among (of, p) (in_, q) no_output before its = elim (goal-kind g) [
    | inl (aim, e) ↦ (let f = rule.target-aim spec chains are r c c.target k aim (subst (IsRuleTarget spec r c c.target k) (sym e) p) in
        let h = rule.target-aim spec chains are r d d.target k aim (subst (IsRuleTarget spec r d d.target k) (sym e) q) in record {
          item = r;
          among = among;
          is = record {
            first = placed_in_rule c (k, aim);
            second = placed_in_rule d (k, aim);
            there = noted-rule chains r c (k, aim) of f;
            behind = noted-rule chains r d (k, aim) in_ h;
            same = aim-same k aim;
            before = before;
            place = its;
          };
        })
    | inr (inl e) ↦ absurd (no_output e)
    | inr (inr (j, e)) ↦ (let one = one-message spec r c d k j (subst (IsRuleTarget spec r c c.target k) e p) (subst (IsRuleTarget spec r d d.target k) e q) in
        let same : c.at ≡ d.at = ap (λ (x : Comp). x.at) one in absurd (omega (arith, before, same)))
  ]

  symbols-to : (at : ℕ) → IsDoubleOfSymbol spec.symbols at → IsDouble spec env at
  symbols-to at h = in_symbol h.symbol (goal_of h.aim) h.c h.d
      ((h.item, h.there, test-contains h.symbol (names_of h.item) h.of_item, h.in_item), symbol.aim-target spec h.c.target h.aim h.first_aim)
      ((h.other, h.behind, test-contains h.symbol (names_of h.other) h.of_other, h.in_other), symbol.aim-target spec h.d.target h.aim h.second_aim)
      h.before h.place

  symbol-from : (at s : ℕ) (g : Goal) (c d : Comp) → InSymbol spec s g c → InSymbol spec s g d → c.at < d.at → at ≡ d.at → IsDoubleOfSymbol spec.symbols at
  symbol-from at s g c d ((item, there, of_item, in_item), p) ((other, behind, of_other, in_other), q) before its = elim (goal-kind g) [
    | inl (aim, e) ↦ record {
      symbol = s;
      aim = aim;
      item = item;
      other = other;
      c = c;
      d = d;
      there = there;
      behind = behind;
      of_item = contains-test s (names_of item) of_item;
      of_other = contains-test s (names_of other) of_other;
      in_item = in_item;
      in_other = in_other;
      first_aim = symbol.target-aim spec c.target aim (subst (IsSymbolTarget spec c.target) (sym e) p);
      second_aim = symbol.target-aim spec d.target aim (subst (IsSymbolTarget spec d.target) (sym e) q);
      before = before;
      place = its;
    }
    | inr (inl e) ↦ absurd (no-output spec c.target (subst (IsSymbolTarget spec c.target) e p))
    | inr (inr (j, e)) ↦ absurd (no-message spec c.target j (subst (IsSymbolTarget spec c.target) e p))
  ]

  pub double-is : (a b r : Option ℕ) → r ≡ earlier_of a b → IsFirst (Among (λ (r : RuleItem). IsDoubleIn (all_in_rule chains r)) spec.rules) a → IsFirst (IsDoubleOfSymbol spec.symbols) b
      → IsFirst (IsDouble spec env) r
  double-is a b r e in_rules in_symbols = first-same
      (λ at h. elim h [ inl x ↦ rules-to at x | inr x ↦ symbols-to at x ])
      (λ at h. elim h [
        | in_rule q k g c d among x y none before its ↦ inl (rule-from at q k g c d among x y none before its)
        | in_symbol s g c d x y before its ↦ inr (symbol-from at s g c d x y before its)
      ])
      (first-join e in_rules in_symbols)

-- an item that has a name has a first one
first-name : (names : List Name) (s : ℕ) → Contains (map name_of names) s → (x : Name) × (slice_get names 0 ≡ Some x)
first-name [] s m = absurd (contains-nil s m)
first-name (x ∷ more) s m = (x, refl)

module _ (items : List SymbolItem) (shared : Names) (set : IsSetOf (IsShared items) shared) where
  within-to : (at : ℕ) → Among IsDoubleInItem items at → IsDoubleOfSymbol items at
  within-to at h =
      let (x, e, k) = h.is in
      let (c, of, u) = body-noted (name_of x) h.item.body k.first k.there in
      let (a, f, g) = u in
      let (d, in_, v) = body-noted (name_of x) h.item.body k.second k.behind in
      let (b, i, j) = v in
      let same = same-aim k.first.place k.second.place k.first.aim k.second.aim k.same in
      let aims : a ≡ b = ap (λ (n : Computed). n.aim) g ∙ same.1 ∙ sym (ap (λ (n : Computed). n.aim) j) in
      let first : c.at ≡ k.first.at = ap (λ (n : Computed). n.at) g in
      let second : d.at ≡ k.second.at = ap (λ (n : Computed). n.at) j in
      let before = k.before in
      let its = map-contains name_of h.item.names x (place-contains h.item.names 0 x e) in record {
        symbol = name_of x;
        aim = b;
        item = h.item;
        other = h.item;
        c = c;
        d = d;
        there = h.among;
        behind = h.among;
        of_item = its;
        of_other = its;
        in_item = of;
        in_other = in_;
        first_aim = f ∙ ap Some aims;
        second_aim = i;
        before = omega (arith, before, first, second);
        place = k.place ∙ sym second;
      }

  between-to : (at : ℕ) → IsDoubleIn (flat_map (all_in_item shared) items) at → IsDoubleOfSymbol items at
  between-to at k =
      let (item, there, m) = contains-flat (all_in_item shared) items k.first k.there in
      let (other, behind, n) = contains-flat (all_in_item shared) items k.second k.behind in
      let (x, named, p) = item-noted shared item k.first m in
      let (y, called, q) = item-noted shared other k.second n in
      let (c, of, u) = body-noted (name_of x) item.body k.first p in
      let (a, f, g) = u in
      let (d, in_, v) = body-noted (name_of y) other.body k.second q in
      let (b, i, j) = v in
      let same = same-aim k.first.place k.second.place k.first.aim k.second.aim k.same in
      let aims : a ≡ b = ap (λ (n : Computed). n.aim) g ∙ same.1 ∙ sym (ap (λ (n : Computed). n.aim) j) in
      let names : name_of x ≡ name_of y = ap (λ (n : Computed). n.place) g ∙ same.0 ∙ sym (ap (λ (n : Computed). n.place) j) in
      let first : c.at ≡ k.first.at = ap (λ (n : Computed). n.at) g in
      let second : d.at ≡ k.second.at = ap (λ (n : Computed). n.at) j in
      let before = k.before in record {
        symbol = name_of y;
        aim = b;
        item = item;
        other = other;
        c = c;
        d = d;
        there = there;
        behind = behind;
        of_item = subst (λ s. Contains (names_of item) s) names (map-contains name_of item.names x named);
        of_other = map-contains name_of other.names y called;
        in_item = of;
        in_other = in_;
        first_aim = f ∙ ap Some aims;
        second_aim = i;
        before = omega (arith, before, first, second);
        place = k.place ∙ sym second;
      }

  -- where two items are about the symbol, the computations of both are noted
  shared-noted : (item : SymbolItem) (s : ℕ) (c : Comp) (a : Aim) → Contains items item → Contains (names_of item) s → Contains item.body c → aim_in_symbol c.target ≡ Some a → IsShared items s
      → Contains (flat_map (all_in_item shared) items) (placed_in_symbol s c a)
  shared-noted item s c a there of in_ e two =
      let (x, named, its) = contains-map name_of item.names s of in
      flat-contains (all_in_item shared) items item _ there
      (noted-item shared item x _ named (set.all (name_of x) (subst (IsShared items) (sym its) two))
      (subst (λ n. Contains (all_in_body (name_of x) item.body) n) (λ i. placed_in_symbol (its i) c a) (noted-body (name_of x) item.body c a in_ e)))

  between-from : (at : ℕ) (h : IsDoubleOfSymbol items at) → IsShared items h.symbol → IsDoubleIn (flat_map (all_in_item shared) items) at
  between-from at h two = record {
    first = placed_in_symbol h.symbol h.c h.aim;
    second = placed_in_symbol h.symbol h.d h.aim;
    there = shared-noted h.item h.symbol h.c h.aim h.there h.of_item h.in_item h.first_aim two;
    behind = shared-noted h.other h.symbol h.d h.aim h.behind h.of_other h.in_other h.second_aim two;
    same = aim-same h.symbol h.aim;
    before = h.before;
    place = h.place;
  }

  within-from : (at : ℕ) (h : IsDoubleOfSymbol items at) → h.item ≡ h.other → Among IsDoubleInItem items at
  within-from at h same =
      let (x, e) = first-name h.other.names h.symbol h.of_other in record {
        item = h.other;
        among = h.behind;
        is = (
          x,
          e,
          record {
            first = placed_in_symbol (name_of x) h.c h.aim;
            second = placed_in_symbol (name_of x) h.d h.aim;
            there = noted-body (name_of x) h.other.body h.c h.aim (subst (λ (q : SymbolItem). Contains q.body h.c) same h.in_item) h.first_aim;
            behind = noted-body (name_of x) h.other.body h.d h.aim h.in_other h.second_aim;
            same = aim-same (name_of x) h.aim;
            before = h.before;
            place = h.place;
          },
        );
      }

  of-symbol : (at : ℕ) (h : IsDoubleOfSymbol items at) → Among IsDoubleInItem items at ⊎ IsDoubleIn (flat_map (all_in_item shared) items) at
  of-symbol at h =
      let (i, e) = contains-place items h.item h.there in
      let (j, f) = contains-place items h.other h.behind in
      elim (cases_lt i j) [
        | inl lt ↦ inr (between-from at h (record { first = i; second = j; item = h.item; other = h.other; before = lt; there = e; behind = f; in_item = h.of_item; in_other = h.of_other }))
        | inr le ↦ elim (cases_lt j i) [
          | inl gt ↦ inr (between-from at h (record { first = j; second = i; item = h.other; other = h.item; before = gt; there = f; behind = e; in_item = h.of_other; in_other = h.of_item }))
          | inr ge ↦ inl (let same : i ≡ j = omega (arith, le, ge) in within-from at h (same_Some _ _ (sym e ∙ ap (slice_get items) same ∙ f)))
        ]
      ]

  pub symbols-are : (a b r : Option ℕ) → r ≡ earlier_of a b → IsFirst (Among IsDoubleInItem items) a → IsFirst (IsDoubleIn (flat_map (all_in_item shared) items)) b → IsFirst (IsDoubleOfSymbol items) r
  symbols-are a b r e within between = first-same (λ at h. elim h [ inl x ↦ within-to at x | inr x ↦ between-to at x ]) of-symbol (first-join e within between)

pub none-in-item : (item : SymbolItem) → slice_get item.names 0 ≡ None → IsFirst (IsDoubleInItem item) None
none-in-item item e = first-none (λ at h. absurd (none-some _ (sym e ∙ h.1)))

pub some-in-item : (item : SymbolItem) (x : Name) (found : Option ℕ) → slice_get item.names 0 ≡ Some x → IsFirst (IsDoubleIn (all_in_body (name_of x) item.body)) found → IsFirst (IsDoubleInItem item) found
some-in-item item x found e first = first-same (λ at h. (x, e, h))
    (λ at h. subst (λ (y : Name). IsDoubleIn (all_in_body (name_of y) item.body) at) (same_Some _ _ (sym h.1 ∙ e)) h.2) first
