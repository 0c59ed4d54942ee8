-- Tables have the numbers that the definitions speak of.
use Rattle.std.specs.Prelude.{Contains, IsTrue, nat_eq, map, flat_map, slice_get, Some, get_or, ◌&&◌}
use Rattle.std.specs.List.{list_all}
use Rattle.std.proofs.Common.{◌≡◌, ℕ, zero, suc, ◌+◌, inl, inr, Bool, true, false, List, [], ◌∷◌, ◌++◌, length, Option, None, refl, ap, sym, subst, ◌∙◌, arith, eqb-true, eq-eqb, true≢false}
use Rattle.std.proofs.lemmas.Bool.{cases_lt}
use Rattle.std.proofs.lemmas.Option.{same_Some, none-some, slice_get_within}
use Rattle.std.proofs.lemmas.List.Elements.{Contains-append_left, Contains-append_right, Contains-append_cases, Contains-get_or}
use Rattle.lido_base.specs.Environment.{Environment}
use Rattle.lido_base.specs.Faults.{HasNone}
use Rattle.lido_base.proofs.Lists.{contains-map, contains-place, flat-contains, place-append}
use Rattle.lido_syntax.specs.declared.spec.Spec.{Spec}
use Rattle.lido_syntax.specs.declared.spec.Name.{Name}
use Rattle.lido_syntax.specs.declared.spec.Comp.{Comp}
use Rattle.lido_syntax.specs.declared.spec.Cons.{Cons}
use Rattle.lido_syntax.specs.declared.spec.Pair.{Pair}
use Rattle.lido_syntax.specs.declared.spec.Expr.{Expr, Int, Str, Bool as Truth, Terminal, Read, Including, Constituents, Call'}
use Rattle.lido_syntax.specs.declared.spec.Typed1.{Typed1}
use Rattle.lido_syntax.specs.declared.spec.RuleItem.{RuleItem}
use Rattle.lido_syntax.specs.declared.spec.SymbolItem.{SymbolItem}
use Rattle.lido_syntax.specs.Parts.{leaves_of}
use Rattle.lido_syntax.specs.Production.{name_of, left_of}
use Rattle.lido_syntax.specs.Sets.{Sets}
use Rattle.lido_syntax.specs.Including.{listed}
use Rattle.lido_syntax.proofs.SetsLemmas.{sets_of}
use Rattle.lido_symbols.specs.FromText.{IsFromText, AreApart, all_names, names_of_rule, names_of_item}
use Rattle.lido_symbols.specs.Uses.{computations, declared_names, attributes_of_target, attributes_in, attribute_uses, with_place, all_leaves, all_includings, all_constituents, constituents_of, is_same_set, is_same_option, is_same_constituents}
use Rattle.table_faults.specs.Faults.{table_faults}
use Rattle.rule_tables.specs.declared.forced.Forced.{Forced}
use Rattle.rule_tables.specs.PlainRules.{plain_rules}
use Rattle.rule_tables.specs.Needs.{Tables}
use Rattle.rule_tables.specs.TablesOf.{named_symbols}
use Rattle.rule_tables.specs.ForcedOf.{AreForcedOf, AreNumbersOf}
use Rattle.clear_tables.proofs.ClearLemmas.{are-clear}
use Rattle.need_graphs.proofs.ListLemmas.{contains-filtered}
use Rattle.flat_laws.proofs.Lists.{pair-at}
use Rattle.table_numbers.proofs.Firsts as numbered
use Rattle.table_numbers.proofs.Forces.{all-forces}

-- what stands in the list behind
place-behind : {X : Type 0} (xs ys : List X) (k j : ℕ) (y : X) → slice_get ys j ≡ Some y → k ≡ length xs + j → slice_get (xs ++ ys) k ≡ Some y
place-behind [] ys k j y at e = ap (slice_get ys) (omega (arith, e)) ∙ at
place-behind (x ∷ xs) ys zero j y at e = absurd (omega (arith, e))
place-behind (x ∷ xs) ys (suc k) j y at e = place-behind xs ys k j y at (omega (arith, e))

-- ---- what gives the same attributes is one

option-self : (a : Option ℕ) → IsTrue (is_same_option a a)
option-self None = refl
option-self (Some a) = eq-eqb a a refl

option-back : (a b : Option ℕ) → IsTrue (is_same_option a b) → IsTrue (is_same_option b a)
option-back None None h = refl
option-back (Some a) (Some b) h = eq-eqb b a (sym (eqb-true a b h))
option-back None (Some b) h = absurd (true≢false (sym h))
option-back (Some a) None h = absurd (true≢false (sym h))

option-on : (a b c : Option ℕ) → IsTrue (is_same_option a b) → IsTrue (is_same_option b c) → IsTrue (is_same_option a c)
option-on None None None h k = refl
option-on (Some a) (Some b) (Some c) h k = eq-eqb a c (eqb-true a b h ∙ eqb-true b c k)
option-on None None (Some c) h k = k
option-on None (Some b) c h k = absurd (true≢false (sym h))
option-on (Some a) None c h k = absurd (true≢false (sym h))
option-on (Some a) (Some b) None h k = k

both-true : (a b : Bool) → IsTrue (a && b) → IsTrue a × IsTrue b
both-true true true h = (refl, refl)
both-true true false h = absurd (true≢false (sym h))
both-true false b h = absurd (true≢false (sym h))

true-both : (a b : Bool) → IsTrue a → IsTrue b → IsTrue (a && b)
true-both true true h k = refl
true-both true false h k = absurd (true≢false (sym k))
true-both false b h k = absurd (true≢false (sym h))

module _ {X : Type 0} where
  all-self : (f : X → Option ℕ) (xs : List X) → IsTrue (list_all (λ x. is_same_option (f x) (f x)) xs)
  all-self f [] = refl
  all-self f (x ∷ xs) = true-both (is_same_option (f x) (f x)) (list_all (λ y. is_same_option (f y) (f y)) xs) (option-self (f x)) (all-self f xs)

  all-back : (f g : X → Option ℕ) (xs : List X) → IsTrue (list_all (λ x. is_same_option (f x) (g x)) xs) → IsTrue (list_all (λ x. is_same_option (g x) (f x)) xs)
  all-back f g [] h = refl
  all-back f g (x ∷ xs) h =
      let (here, later) = both-true (is_same_option (f x) (g x)) (list_all (λ y. is_same_option (f y) (g y)) xs) h in
      true-both (is_same_option (g x) (f x)) (list_all (λ y. is_same_option (g y) (f y)) xs) (option-back (f x) (g x) here) (all-back f g xs later)

  all-on : (f g h : X → Option ℕ) (xs : List X) → IsTrue (list_all (λ x. is_same_option (f x) (g x)) xs) → IsTrue (list_all (λ x. is_same_option (g x) (h x)) xs)
      → IsTrue (list_all (λ x. is_same_option (f x) (h x)) xs)
  all-on f g h [] a b = refl
  all-on f g h (x ∷ xs) a b =
      let (here, later) = both-true (is_same_option (f x) (g x)) (list_all (λ y. is_same_option (f y) (g y)) xs) a in
      let (there, more) = both-true (is_same_option (g x) (h x)) (list_all (λ y. is_same_option (g y) (h y)) xs) b in
      true-both (is_same_option (f x) (h x)) (list_all (λ y. is_same_option (f y) (h y)) xs) (option-on (f x) (g x) (h x) here there) (all-on f g h xs later more)

module _ (spec : Spec) (from : IsFromText spec) where
  -- ---- attributes

  same-self : (k : ℕ) → IsTrue (nat_eq k k)
  same-self k = eq-eqb k k refl

  same-back : (j k : ℕ) → IsTrue (nat_eq j k) → IsTrue (nat_eq k j)
  same-back j k h = eq-eqb k j (sym (eqb-true j k h))

  same-on : (j k l : ℕ) → IsTrue (nat_eq j k) → IsTrue (nat_eq k l) → IsTrue (nat_eq j l)
  same-on j k l a b = eq-eqb j l (eqb-true j k a ∙ eqb-true k l b)

  abbrev of-computations : List Name
  of-computations = flat_map (λ (c : Comp). attributes_of_target c.target ++ flat_map attributes_in (leaves_of c)) (computations spec)

  abbrev in-front : List Name
  in-front = flat_map names_of_rule spec.rules ++ flat_map names_of_item spec.symbols ++ map (λ (x : Typed1). x.name) spec.terms

  attribute-name : (x : Name) → Contains (declared_names spec ++ of-computations) x → Contains (all_names spec) x
  attribute-name x m = elim (Contains-append_cases (declared_names spec) of-computations x m) [
    | inl k ↦ Contains-append_left (in-front ++ declared_names spec ++ of-computations) (map (λ (x : Typed1). x.name) spec.chains) x
        (Contains-append_left (in-front ++ declared_names spec) of-computations x (Contains-append_right in-front (declared_names spec) x k))
    | inr k ↦ Contains-append_left (in-front ++ declared_names spec ++ of-computations) (map (λ (x : Typed1). x.name) spec.chains) x
        (Contains-append_right (in-front ++ declared_names spec) of-computations x k)
  ]

  one-attribute : (x y : ℕ × ℕ) → Contains (attribute_uses spec) x → Contains (attribute_uses spec) y → x.0 ≡ y.0 → IsTrue (nat_eq x.1 y.1)
  one-attribute x y m n e =
      let (a, there, is) = contains-map with_place (declared_names spec ++ of-computations) x m in
      let (b, at, its) = contains-map with_place (declared_names spec ++ of-computations) y n in
      let same : a ≡ b = from.one_name a b (attribute-name a there) (attribute-name b at) (ap (λ (z : ℕ × ℕ). z.0) is ∙ e ∙ sym (ap (λ (z : ℕ × ℕ). z.0) its)) in
      eq-eqb x.1 y.1 (sym (ap (λ (z : ℕ × ℕ). z.1) is) ∙ ap name_of same ∙ ap (λ (z : ℕ × ℕ). z.1) its)

  -- ---- INCLUDINGs

  one-including : (x y : ℕ × List Pair) → Contains (all_includings spec) x → Contains (all_includings spec) y → x.0 ≡ y.0 → x ≡ y
  one-including x y m n e =
      let (i, at) = contains-place (all_includings spec) x m in
      let (j, there) = contains-place (all_includings spec) y n in
      let R : ℕ × List Pair → ℕ × List Pair → Type 0 = λ x y. x.0 ≡ y.0 → ⊥ in
      elim (cases_lt i j) [
        | inl h ↦ absurd (pair-at R (all_includings spec) i j x y from.includings_apart at there h e)
        | inr h ↦ elim (cases_lt j i) [
          | inl g ↦ absurd (pair-at R (all_includings spec) j i y x from.includings_apart there at g (sym e))
          | inr g ↦ same_Some x y (sym at ∙ ap (slice_get (all_includings spec)) (omega (arith, h, g)) ∙ there)
        ]
      ]

  module _ (sets : Sets spec) where
    set-self : (p : List Pair) → IsTrue (is_same_set spec sets p p)
    set-self p = all-self (λ (r : RuleItem). listed spec sets p (left_of r)) spec.rules

    set-back : (p q : List Pair) → IsTrue (is_same_set spec sets p q) → IsTrue (is_same_set spec sets q p)
    set-back p q h = all-back (λ (r : RuleItem). listed spec sets p (left_of r)) (λ (r : RuleItem). listed spec sets q (left_of r)) spec.rules h

    set-on : (p q o : List Pair) → IsTrue (is_same_set spec sets p q) → IsTrue (is_same_set spec sets q o) → IsTrue (is_same_set spec sets p o)
    set-on p q o h k = all-on (λ (r : RuleItem). listed spec sets p (left_of r)) (λ (r : RuleItem). listed spec sets q (left_of r)) (λ (r : RuleItem). listed spec sets o (left_of r)) spec.rules h k

    one-set : (x y : ℕ × List Pair) → Contains (all_includings spec) x → Contains (all_includings spec) y → x.0 ≡ y.0 → IsTrue (is_same_set spec sets x.1 y.1)
    one-set x y m n e = subst (λ (z : ℕ × List Pair). IsTrue (is_same_set spec sets x.1 z.1)) (one-including x y m n e) (set-self x.1)

  -- ---- CONSTITUENTS

  number-is : (e : Expr) (x : ℕ × Cons) → constituents_of e ≡ Some x → x.0 ≡ x.1.number
  number-is (Constituents k) x h = let s = same_Some (k.number, k) x h in subst (λ (z : ℕ × Cons). z.0 ≡ z.1.number) s refl
  number-is (Int at z) x h = absurd (none-some x h)
  number-is (Str at z) x h = absurd (none-some x h)
  number-is (Truth at z) x h = absurd (none-some x h)
  number-is (Terminal n i) x h = absurd (none-some x h)
  number-is (Read at p a) x h = absurd (none-some x h)
  number-is (Including at pairs) x h = absurd (none-some x h)
  number-is (Call' f shape args) x h = absurd (none-some x h)

  one-constituents : (x y : ℕ × Cons) → Contains (all_constituents spec) x → Contains (all_constituents spec) y → x.0 ≡ y.0 → IsTrue (is_same_constituents x.1 y.1)
  one-constituents x y m n e =
      let (a, there, is) = contains-filtered constituents_of (all_leaves spec) x m in
      let (b, at, its) = contains-filtered constituents_of (all_leaves spec) y n in
      eq-eqb x.1.number y.1.number (sym (number-is a x is) ∙ e ∙ number-is b y its)

  -- ---- a computation stands in a rule or in a symbol's body

  abbrev rule-bodies : List Comp
  rule-bodies = flat_map (λ (r : RuleItem). r.body) spec.rules

  abbrev item-bodies : List Comp
  item-bodies = flat_map (λ (item : SymbolItem). item.body) spec.symbols

  bodies-apart : (c : Comp) (r : RuleItem) (item : SymbolItem) → Contains spec.rules r → Contains r.body c → Contains spec.symbols item → Contains item.body c → ⊥
  bodies-apart c r item m k n l =
      let (i, at) = contains-place rule-bodies c (flat-contains (λ (r : RuleItem). r.body) spec.rules r c m k) in
      let (j, there) = contains-place item-bodies c (flat-contains (λ (item : SymbolItem). item.body) spec.symbols item c n l) in
      let below = slice_get_within rule-bodies i c at in
      let one : slice_get (rule-bodies ++ item-bodies) i ≡ Some c = place-append rule-bodies item-bodies i c at in
      let two : slice_get (rule-bodies ++ item-bodies) (length rule-bodies + j) ≡ Some c = place-behind rule-bodies item-bodies (length rule-bodies + j) j c there refl in
      apart-itself (pair-at (λ (c d : Comp). AreApart spec (c.number, c.at) (d.number, d.at)) (rule-bodies ++ item-bodies) i (length rule-bodies + j) c c from.computations_apart one two (omega (arith, below)))
    where
      apart-itself : AreApart spec (c.number, c.at) (c.number, c.at) → ⊥
      apart-itself (inl h) = let z = h.0 in omega (arith, z)
      apart-itself (inr h) = let z = h.0 in omega (arith, z)

-- ---- the tables

module _ (env texts : Environment) (forced : Forced) (from : IsFromText forced.tables.spec) (none : HasNone (table_faults forced.tables.spec texts)) (are : AreForcedOf env forced) where
  abbrev spec : Spec
  spec = forced.tables.spec

  sets : Sets spec
  sets = sets_of spec

  abbrev attributes : List ℕ
  attributes = numbered.keys nat_eq (same-self spec from) (same-back spec from) (same-on spec from) (attribute_uses spec) (one-attribute spec from)

  abbrev includings : List (List Pair)
  includings = numbered.keys (is_same_set spec sets) (set-self spec from sets) (set-back spec from sets) (set-on spec from sets) (all_includings spec) (one-set spec from sets)

  abbrev constituents : List Cons
  constituents = numbered.keys is_same_constituents (λ (k : Cons). same-self spec from k.number) (λ (j k : Cons). same-back spec from j.number k.number)
      (λ (j k l : Cons). same-on spec from j.number k.number l.number) (all_constituents spec) (one-constituents spec from)

  pub has-numbers : (T : Tables spec) × AreNumbersOf env forced T
  has-numbers =
      let (held, is) = all-forces forced.tables (are-clear spec texts from none).computations (bodies-apart spec from) (plain_rules spec (named_symbols forced.tables)) forced.comps are.entries in (
        record { sets = sets; symbols = named_symbols forced.tables; attributes = attributes; includings = includings; constituents = constituents; forced = held },
        record {
          numbers = record {
            symbols = are.tables.numbers;
            attributes = numbered.are-numbered nat_eq (same-self spec from) (same-back spec from) (same-on spec from) (attribute_uses spec) (one-attribute spec from);
            includings = numbered.are-numbered (is_same_set spec sets) (set-self spec from sets) (set-back spec from sets) (set-on spec from sets) (all_includings spec) (one-set spec from sets);
            first_includings = λ i d within. numbered.key-first (is_same_set spec sets) (set-self spec from sets) (set-back spec from sets) (set-on spec from sets) (all_includings spec) (one-set spec from sets)
                (get_or includings i d) (Contains-get_or includings i d within);
            constituents = numbered.are-numbered is_same_constituents (λ (k : Cons). same-self spec from k.number) (λ (j k : Cons). same-back spec from j.number k.number)
                (λ (j k l : Cons). same-on spec from j.number k.number l.number) (all_constituents spec) (one-constituents spec from);
            forced = is;
          };
          symbols = refl;
        },
      )
