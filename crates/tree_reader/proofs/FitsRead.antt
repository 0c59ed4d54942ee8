-- What fits a grammar and is written in brackets is read.
use Rattle.std.proofs.Common.{◌≡◌, ℕ, ℤ, ◌+◌, ◌<◌, ◌≤◌, Bool, true, false, true≢false, if◌then◌else◌, ◌==◌, List, [], ◌∷◌, ◌++◌, take, drop, length, Some, None, Option, Result, Ok, Err, refl, ap, sym, ◌∙◌, subst, arith, suc, zero, ◌⊎◌, inl, inr, ⊎_elim}
use Rattle.std.specs.Prelude.{nat_le, nat_lt, slice_get, slice_index_or, AllPairs, Contains, ◌||◌, ◌&&◌, not, is_some, IsTrue, option_and_then, option_map, bytes_eq}
use Rattle.std.specs.List.{AllZip, list_any}
use Rattle.std.proofs.lemmas.Bool.{cases_lt}
use Rattle.std.proofs.lemmas.Bool.Decides.{nat_tests}
use Rattle.std.proofs.lemmas.Option.{none-some}
use Rattle.std.proofs.lemmas.Slice.Eq.{bytes_eq-Decides}
use Rattle.std.proofs.lemmas.Option.{same_Some}
use Rattle.lido_base.specs.Plain.{Plain, Int, Str}
use Rattle.lido_base.specs.Texts.{IsDistinctTexts}
use Rattle.lido_base.specs.Tree.{Tree, Node, Item, Child, Leaf, IsTree, items_of, parent_of, rule_at, contains, children, is_just}
use Rattle.lido_base.specs.declared.ids.SymId.{SymId}
use Rattle.lido_base.specs.declared.ids.StrId.{StrId}
use Rattle.lido_base.specs.declared.kinds.Many.TheVariants as many
use Rattle.lido_base.specs.declared.value.ValueType.{ValueType}
use Rattle.lido_base.specs.declared.value.ValueType.TheVariants as type
use Rattle.lido_base.proofs.TextsLemmas.{same_place}
use Rattle.lido_base.proofs.TreeLemmas.{both, test-contains, is_just-some}
use Rattle.tree_store.specs.declared.fault.TreeFault.{TreeFault}
use Rattle.tree_store.specs.declared.fault.TreeFault.TheVariants as fault
use Rattle.lido_base.proofs.PathLemmas.{Contains-child}
use Rattle.flat_grammar.specs.declared.flat.FlatSymbol.{FlatSymbol}
use Rattle.flat_grammar.specs.declared.flat.FlatRule.{FlatRule}
use Rattle.flat_grammar.specs.declared.flat.Shape.{Shape}
use Rattle.flat_grammar.specs.WellFormed.{IsWellFormed, IsListShape, is_same_symbol, is_nonterminal, is_nonterminal_symbol, cell_of}
use Rattle.flat_grammar.specs.Fitting.{IsFitting, IsItem, IsTerminal, HasSymbol}
use Rattle.flat_grammar.specs.Fitting.{node as node_item, int as int_item, string as string_item}
use Rattle.flat_grammar.proofs.Lists.{contains-nil, contains-cons}
use Rattle.tree_reader.specs.declared.part.Coordinates.{Coordinates}
use Rattle.tree_reader.specs.Language.{Forest, none, node, int, string}
use Rattle.tree_reader.specs.WrittenTrees.{Asked, count, first_of, unless_fault, rule_named, items, nodes, fault_among, meaning, most_nodes, coordinates_of, no_coordinates, own, table_node}
use Rattle.tree_reader.specs.WrittenAs.{HasName, AreWritten, IsWrittenAs}
use Rattle.tree_reader.specs.Asking.{asked, is_same_type, shape_at, no_shape, may_be, first_from, left_of, type_of, has_name}
use Rattle.tree_reader.proofs.Slots.{IsSlot, AreFrom, contains_at}
use Rattle.tree_reader.proofs.TablesOfForests.{table}

-- ---- tests that pass

test_same : (a b : ℕ) → a ≡ b → (a == b) ≡ true
test_same a b e = grind (arith, nat_tests)

symbol_same : (s : SymId) → is_same_symbol s s ≡ true
symbol_same s = test_same s.0 s.0 refl

or_true : (a : Bool) → (a || true) ≡ true
or_true true = refl
or_true false = refl

among_test : (s : SymId) (xs : List SymId) → Contains xs s → list_any (is_same_symbol s) xs ≡ true
among_test s [] there = absurd (contains-nil s there)
among_test s (q ∷ xs) there = at (contains-cons q s xs there) (among_test s xs)
  where
    at : (q ≡ s) ⊎ Contains xs s → (Contains xs s → list_any (is_same_symbol s) xs ≡ true) → (is_same_symbol s q || list_any (is_same_symbol s) xs) ≡ true
    at (inl same) later = ap (λ (b : Bool). b || list_any (is_same_symbol s) xs) (test_same s.0 q.0 (ap (λ (x : SymId). x.0) (sym same)))
    at (inr more) later = ap (λ (b : Bool). is_same_symbol s q || b) (later more) ∙ or_true (is_same_symbol s q)

slot_test : (list : Bool) (right : List SymId) (k : ℕ) (s : SymId) → IsSlot list right k s
    → (if list then list_any (is_same_symbol s) right else elim (slice_get right k) as (λ _. Bool) [ None ↦ false | Some q ↦ is_same_symbol s q ]) ≡ true
slot_test true right k s slot = among_test s right slot
slot_test false right k s slot = ap (λ (o : Option SymId). elim o as (λ _. Bool) [ None ↦ false | Some q ↦ is_same_symbol s q ]) slot ∙ symbol_same s

type_test : (ty : ValueType) → is_same_type ty ty ≡ true
type_test type.Int = refl
type_test type.Str = refl
type_test type.Bool = refl
type_test type.Text = refl
type_test type.Void = refl

low_test : (m k : ℕ) → m ≤ k → nat_le m k ≡ true
low_test m k low = grind (arith, nat_tests)

high_test : (m k : ℕ) → k < m → nat_le m k ≡ false
high_test m k high = grind (arith, nat_tests)

-- ---- lists

drop_split : {X : Type 0} (xs : List X) (k : ℕ) (x : X) (more : List X) → drop k xs ≡ x ∷ more → (slice_get xs k ≡ Some x) × (drop (suc k) xs ≡ more)
drop_split [] zero x more e = absurd (cc)
drop_split [] (suc k) x more e = absurd (cc)
drop_split (y ∷ xs) zero x more e = ((let same : y ≡ x = cc in ap (λ (z : _). Some z) same), (let tail : xs ≡ more = cc in tail))
drop_split (y ∷ xs) (suc k) x more e = drop_split xs k x more e

drop_empty : {X : Type 0} (xs : List X) (k : ℕ) → drop k xs ≡ [] → length xs ≤ k
drop_empty [] k e = omega arith
drop_empty (y ∷ xs) zero e = absurd (cc)
drop_empty (y ∷ xs) (suc k) e = omega (arith, drop_empty xs k e)

drop_here : {X : Type 0} (xs : List X) (k : ℕ) (x : X) → slice_get xs k ≡ Some x → drop k xs ≡ x ∷ drop (suc k) xs
drop_here [] k x is = absurd (none-some _ is)
drop_here (y ∷ xs) zero x is = ap (λ (z : _). z ∷ xs) (same_Some _ _ is)
drop_here (y ∷ xs) (suc k) x is = drop_here xs k x is

drop_nil : {X : Type 0} (n : ℕ) → drop {A = X} n [] ≡ []
drop_nil zero = refl
drop_nil (suc n) = refl

drop_drop : {X : Type 0} (xs : List X) (m k : ℕ) → drop k (drop m xs) ≡ drop (m + k) xs
drop_drop [] m k = ap (drop k) (drop_nil m) ∙ drop_nil k ∙ sym (drop_nil (m + k))
drop_drop (x ∷ xs) zero k = ap (λ (n : ℕ). drop n (x ∷ xs)) (let e : k ≡ 0 + k = omega arith in e)
drop_drop (x ∷ xs) (suc m) k = drop_drop xs m k ∙ ap (λ (n : ℕ). drop n (x ∷ xs)) (let e : suc (m + k) ≡ suc m + k = omega arith in e)

take_more : {X : Type 0} (xs : List X) (a b : ℕ) → take (a + b) xs ≡ take a xs ++ take b (drop a xs)
take_more xs zero b = ap (λ (n : ℕ). take n xs) (let e : 0 + b ≡ b = omega arith in e)
take_more [] (suc a) zero = ap (λ (n : ℕ). take n []) (let e : suc a + 0 ≡ suc a = omega arith in e)
take_more [] (suc a) (suc b) = ap (λ (n : ℕ). take n []) (let e : suc a + suc b ≡ suc (suc a + b) = omega arith in e)
take_more (x ∷ xs) (suc a) b = ap (λ (n : ℕ). take n (x ∷ xs)) (let e : suc a + b ≡ suc (a + b) = omega arith in e) ∙ ap (λ (l : List _). x ∷ l) (take_more xs a b)

take_whole : {X : Type 0} (xs : List X) (n : ℕ) → length xs ≡ n → take n xs ≡ xs
take_whole [] zero e = refl
take_whole [] (suc n) e = refl
take_whole (x ∷ xs) zero e = absurd (omega (arith, e))
take_whole (x ∷ xs) (suc n) e = ap (λ (l : List _). x ∷ l) (take_whole xs n (omega (arith, e)))

there : {X : Type 0} (xs : List X) (k : ℕ) → k < length xs → (x : X) × (slice_get xs k ≡ Some x)
there [] k less = absurd (omega (arith, less))
there (x ∷ xs) zero less = (x, refl)
there (x ∷ xs) (suc k) less = there xs k (omega (arith, less))

index_is : {X : Type 0} (xs : List X) (k : ℕ) (x d : X) → slice_get xs k ≡ Some x → slice_index_or xs k d ≡ x
index_is [] k x d is = absurd (none-some _ is)
index_is (y ∷ xs) zero x d is = same_Some _ _ is
index_is (y ∷ xs) (suc k) x d is = index_is xs k x d is

inside : {X : Type 0} (xs : List X) (k : ℕ) (x : X) → slice_get xs k ≡ Some x → k < length xs
inside [] k x is = absurd (none-some _ is)
inside (y ∷ xs) zero x is = omega arith
inside (y ∷ xs) (suc k) x is = omega (arith, inside xs k x is)

-- ---- the first child

module _ {X : Type 0} (IsIt : SymId → X → Type 0) where
  record First (list : Bool) (right : List SymId) (k : ℕ) (x : X) (xs : List X) : Type 0 where
    pub symbol : SymId
    pub slot : IsSlot list right k symbol
    pub is : IsIt symbol x
    pub rest : AreFrom IsIt list right (suc k) xs

  first_child : (list : Bool) (right : List SymId) (k : ℕ) (x : X) (xs : List X) → AreFrom IsIt list right k (x ∷ xs) → First list right k x xs
  first_child true right k x xs are =
      let here = are 0 x (omega arith) in
      record { symbol = here.0; slot = here.1; is = here.2; rest = λ j d less. are (suc j) d (omega (arith, less)) }
  first_child false right k x xs are = by (drop k right) refl are
    where
      by : (left : List SymId) → drop k right ≡ left → AllZip IsIt left (x ∷ xs) → First false right k x xs
      by [] e zips = absurd zips
      by (s ∷ more) e (is, rest) =
          let split = drop_split right k s more e in
          record { symbol = s; slot = split.0; is = is; rest = subst (λ (l : List SymId). AllZip IsIt l xs) (sym split.1) rest }

  enough : (list : Bool) (right : List SymId) (k : ℕ) → AreFrom IsIt list right k [] → (list || nat_le (length right) k) ≡ true
  enough true right k are = refl
  enough false right k are = low_test (length right) k (drop_empty right k (by (drop k right) are))
    where
      by : (left : List SymId) → AllZip IsIt left [] → left ≡ []
      by [] zips = refl
      by (s ∷ more) zips = absurd zips

-- ---- a node without a fault

node_none : (o : Option ℕ) (takes : ℕ → Bool) (many : Bool) (low : ℕ → Option TreeFault) (after : Option TreeFault) (unknown too wrong : TreeFault) (y : ℕ)
    → o ≡ Some y → takes y ≡ true → many ≡ false → low y ≡ None → after ≡ None
    → elim o as (λ _. Option TreeFault) [ None ↦ Some unknown | Some z ↦ if takes z then (if many then Some too else first_of (low z) after) else Some wrong ] ≡ None
node_none o takes many low after unknown too wrong y named taken few below behind =
    ap (λ (p : Option ℕ). elim p as (λ _. Option TreeFault) [ None ↦ Some unknown | Some z ↦ if takes z then (if many then Some too else first_of (low z) after) else Some wrong ]) named
    ∙ ap (λ (b : Bool). if b then (if many then Some too else first_of (low y) after) else Some wrong) taken
    ∙ ap (λ (b : Bool). if b then Some too else first_of (low y) after) few
    ∙ ap (λ (l : Option TreeFault). first_of l after) below
    ∙ behind

-- ---- the shape of a name

first_passes : {X : Type 0} (p : X → Bool) (k : ℕ) (xs : List X) (x : X) → Contains xs x → p x ≡ true → (i : ℕ) × (y : X) × (first_from k p xs ≡ Some (k + i)) × (slice_get xs i ≡ Some y) × (p y ≡ true)
first_passes {X} p k [] x among passes = absurd (contains-nil x among)
first_passes {X} p k (y ∷ xs) x among passes = by (p y) refl (contains-cons y x xs among) (λ later. first_passes p (suc k) xs x later passes)
  where
    by : (b : Bool) → p y ≡ b → (y ≡ x) ⊎ Contains xs x → (Contains xs x → (i : ℕ) × (z : X) × (first_from (suc k) p xs ≡ Some (suc k + i)) × (slice_get xs i ≡ Some z) × (p z ≡ true))
        → (i : ℕ) × (z : X) × ((if p y then Some k else first_from (suc k) p xs) ≡ Some (k + i)) × (slice_get (y ∷ xs) i ≡ Some z) × (p z ≡ true)
    by true is at later = (0, y, ap (λ (b : Bool). if b then Some k else first_from (suc k) p xs) is ∙ ap (λ (n : ℕ). Some n) (let e : k ≡ k + 0 = omega arith in e), refl, is)
    by false is (inl same) later = absurd (true≢false (sym passes ∙ ap p (sym same) ∙ is))
    by false is (inr more) later =
        let (i, z, found, at, good) = later more in
        (suc i, z, ap (λ (b : Bool). if b then Some k else first_from (suc k) p xs) is ∙ found ∙ ap (λ (n : ℕ). Some n) (let e : suc k + i ≡ k + suc i = omega arith in e), at, good)

one_rule : (rules : List FlatRule) → AllPairs (λ r q. r.name ≡ q.name → ⊥) rules → (i j : ℕ) (r q : FlatRule) → slice_get rules i ≡ Some r → slice_get rules j ≡ Some q → r.name ≡ q.name → i ≡ j
one_rule rules apart i j r q at_i at_j same = ⊎_elim
    (λ less. absurd (apart i j r less (inside rules j q at_j) (ap (λ (x : FlatRule). x.name) (index_is rules i r r at_i) ∙ same ∙ sym (ap (λ (x : FlatRule). x.name) (index_is rules j q r at_j)))))
    (λ low. ⊎_elim
    (λ less. absurd (apart j i r less (inside rules i r at_i) (ap (λ (x : FlatRule). x.name) (index_is rules j q r at_j) ∙ sym same ∙ sym (ap (λ (x : FlatRule). x.name) (index_is rules i r r at_i)))))
    (λ high. omega (arith, low, high))
    (cases_lt j i))
    (cases_lt i j)

same_name : (a b : StrId) → a.0 ≡ b.0 → a ≡ b
same_name a b e = let made : ℕ → StrId = λ n. record { 0 = n } in ap made e

name_from : (texts : List (List ℕ)) (o : Option FlatRule) (name : List ℕ)
    → elim (option_and_then (λ (r : FlatRule). slice_get texts r.name.0) o) as (λ _. Bool) [ None ↦ false | Some text ↦ bytes_eq text name ] ≡ true
    → (r : FlatRule) × (o ≡ Some r) × (slice_get texts r.name.0 ≡ Some name)
name_from texts None name test = absurd (true≢false (sym test))
name_from texts (Some r) name test = (r, refl, by (slice_get texts r.name.0) test)
  where
    by : (t : Option (List ℕ)) → elim t as (λ _. Bool) [ None ↦ false | Some text ↦ bytes_eq text name ] ≡ true → t ≡ Some name
    by None e = absurd (true≢false (sym e))
    by (Some text) e = ap (λ (l : List ℕ). Some l) ((bytes_eq-Decides text name).0 e)

rule_of : (t : Tree Plain) (n r : ℕ) → rule_at t n ≡ Some r → n < length t
rule_of [] n r e = absurd (none-some _ e)
rule_of (m ∷ t) zero r e = omega arith
rule_of (m ∷ t) (suc n) r e = omega (arith, rule_of t n r e)

node_is : (x y : Node Plain) → x.rule ≡ y.rule → x.parent ≡ y.parent → x.place ≡ y.place → x.line ≡ y.line → x.column ≡ y.column → x.items ≡ y.items → x ≡ y
node_is x y rule parent place line column its = λ i. record { rule = rule i; parent = parent i; place = place i; line = line i; column = column i; items = its i }

module _ (symbols : List FlatSymbol) (rules : List FlatRule) (shapes : List Shape) (root : SymId) (texts : List (List ℕ)) (formed : IsWellFormed symbols rules shapes root)
    (apart : IsDistinctTexts texts) (t : Tree Plain) (fits : IsFitting symbols rules shapes root t) where
  abbrev g : Asked ℕ
  g = asked symbols rules shapes root texts

  abbrev IsIt : SymId → Item Plain → Type 0
  IsIt = IsItem symbols rules t

  abbrev AreChildren : ℕ → ℕ → List (Item Plain) → Type 0
  AreChildren x k its = AreFrom IsIt (shape_at shapes x).list (shape_at shapes x).right k its

  -- the name names a shape, which is the node's
  record IsNamed (n : ℕ) (name : List ℕ) : Type 0 where
    pub shape : ℕ
    pub named : g.named name ≡ Some shape
    pub there : shape < length shapes
    pub rule : rule_at t n ≡ Some (shape_at shapes shape).rule.0

  is_named : (n : ℕ) (name : List ℕ) → HasName rules texts t n name → IsNamed n name
  is_named n name (r, (i, rule, at), text) =
      let shaped = fits.shaped n (rule_of t n i rule) in
      let shape : Shape = shaped.0 in
      let same_rule : i ≡ shape.rule.0 = same_Some _ _ (sym rule ∙ shaped.1.1) in
      let has : has_name symbols rules shapes root texts name shape ≡ true
      = ap (λ (k : ℕ). elim (option_and_then (λ (q : FlatRule). slice_get texts q.name.0) (slice_get rules k)) as (λ _. Bool) [ None ↦ false | Some l ↦ bytes_eq l name ]) (sym same_rule)
      ∙ ap (λ (o : Option FlatRule). elim (option_and_then (λ (q : FlatRule). slice_get texts q.name.0) o) as (λ _. Bool) [ None ↦ false | Some l ↦ bytes_eq l name ]) at
      ∙ ap (λ (o : Option (List ℕ)). elim o as (λ _. Bool) [ None ↦ false | Some l ↦ bytes_eq l name ]) text
      ∙ (bytes_eq-Decides name name).1 refl in
      let (y, found_shape, found, here, good) = first_passes (has_name symbols rules shapes root texts name) 0 shapes shape shaped.1.0 has in
      let (q, q_at, q_text) = name_from texts (slice_get rules found_shape.rule.0) name good in
      let names : q.name ≡ r.name = same_name q.name r.name (same_place texts apart q.name.0 r.name.0 name q_text text) in
      let same_i : found_shape.rule.0 ≡ i = one_rule rules formed.rule_names found_shape.rule.0 i q r q_at at names in
      record {
        shape = y;
        named = found ∙ ap (λ (k : ℕ). Some k) (let e : 0 + y ≡ y = omega arith in e);
        there = inside shapes y found_shape here;
        rule = rule ∙ ap (λ (k : ℕ). Some k) (sym same_i ∙ sym (ap (λ (s : Shape). s.rule.0) (index_is shapes y found_shape no_shape here)));
      }

  named_rule : (name : List ℕ) (y : ℕ) → g.named name ≡ Some y → rule_named g name ≡ (shape_at shapes y).rule.0
  named_rule name y is = ap (λ (o : Option ℕ). elim o as (λ _. ℕ) [ None ↦ 0 | Some z ↦ g.rule z ]) is

  children_of : (n x : ℕ) → x < length shapes → rule_at t n ≡ Some (shape_at shapes x).rule.0 → AreChildren x 0 (items_of t n)
  children_of n x inside_shapes rule = by (shape_at shapes x).list refl
    where
      by : (b : Bool) → (shape_at shapes x).list ≡ b → AreChildren x 0 (items_of t n)
      by true is = subst (λ (b : Bool). AreFrom IsIt b (shape_at shapes x).right 0 (items_of t n)) (sym is) (fits.lists n (shape_at shapes x) (contains_at shapes x no_shape inside_shapes, rule) is)
      by false is = subst (λ (b : Bool). AreFrom IsIt b (shape_at shapes x).right 0 (items_of t n)) (sym is) (fits.plain n (shape_at shapes x) (contains_at shapes x no_shape inside_shapes, rule) is)

  left_known : (n x : ℕ) (s : SymId) → rule_at t n ≡ Some (shape_at shapes x).rule.0 → HasSymbol rules t n s → left_of symbols rules shapes root (shape_at shapes x) ≡ Some s
  left_known n x s rule (r, (i, at, there_rule), left) =
      let same_rule : (shape_at shapes x).rule.0 ≡ i = same_Some _ _ (sym rule ∙ at) in
      ap (λ (k : ℕ). option_map (λ (q : FlatRule). q.left) (slice_get rules k)) same_rule
      ∙ ap (λ (o : Option FlatRule). option_map (λ (q : FlatRule). q.left) o) there_rule
      ∙ ap (λ (q : SymId). Some q) left

  node_taken : (x k n y : ℕ) (s : SymId) → rule_at t n ≡ Some (shape_at shapes y).rule.0 → IsSlot (shape_at shapes x).list (shape_at shapes x).right k s → HasSymbol rules t n s
      → g.takes x k y ≡ true
  node_taken x k n y s rule slot has =
      ap (λ (o : Option SymId). elim o as (λ _. Bool) [ None ↦ false | Some q ↦ may_be (shape_at shapes x) k q ]) (left_known n y s rule has)
      ∙ slot_test (shape_at shapes x).list (shape_at shapes x).right k s slot

  -- a list has no terminals
  no_terminal : (x : ℕ) (s : SymId) (ty : ValueType) → x < length shapes → (shape_at shapes x).list ≡ true → Contains (shape_at shapes x).right s → IsTerminal symbols s ty → ⊥
  no_terminal x s ty inside_shapes list (k, less, at) (symbol, symbol_at, typed) =
      let is_list : IsListShape symbols rules (shape_at shapes x) (cell_of rules (shape_at shapes x)) = formed.each_list x no_shape inside_shapes (sym (sym list)) in
      let element : IsTrue (is_nonterminal symbols s && not (is_same_symbol s (cell_of rules (shape_at shapes x))))
      = subst (λ (q : SymId). IsTrue (is_nonterminal symbols q && not (is_same_symbol q (cell_of rules (shape_at shapes x))))) at (is_list.elements k s less) in
      let nonterminal : IsTrue (is_nonterminal_symbol (Some symbol)) = subst (λ (o : Option FlatSymbol). IsTrue (is_nonterminal_symbol o)) symbol_at (both _ _ element).0 in
      let none_typed : IsTrue (not (is_some (Some ty))) = subst (λ (o : Option ValueType). IsTrue (not (is_some o))) typed nonterminal in
      absurd (true≢false (sym none_typed))

  value_taken : (x k : ℕ) (s : SymId) (ty : ValueType) → x < length shapes → IsSlot (shape_at shapes x).list (shape_at shapes x).right k s → IsTerminal symbols s ty → g.takes_value x k ty ≡ true
  value_taken x k s ty inside_shapes slot (symbol, symbol_at, typed) = by (shape_at shapes x).list refl slot
    where
      by : (b : Bool) → (shape_at shapes x).list ≡ b → IsSlot b (shape_at shapes x).right k s → g.takes_value x k ty ≡ true
      by true is among = absurd (no_terminal x s ty inside_shapes is among (symbol, symbol_at, typed))
      by false is at =
          ap (λ (b : Bool). if b then false else elim (option_and_then (type_of symbols rules shapes root) (slice_get (shape_at shapes x).right k)) as (λ _. Bool) [ None ↦ false | Some other ↦ is_same_type ty other ]) is
          ∙ ap (λ (o : Option SymId). elim (option_and_then (type_of symbols rules shapes root) o) as (λ _. Bool) [ None ↦ false | Some other ↦ is_same_type ty other ]) at
          ∙ ap (λ (o : Option FlatSymbol). elim (option_and_then (λ (z : FlatSymbol). z.terminal) o) as (λ _. Bool) [ None ↦ false | Some other ↦ is_same_type ty other ]) symbol_at
          ∙ ap (λ (o : Option ValueType). elim o as (λ _. Bool) [ None ↦ false | Some other ↦ is_same_type ty other ]) typed
          ∙ type_test ty

  int_typed : (s : SymId) (z : ℤ) → IsIt s (Leaf (Int z)) → IsTerminal symbols s type.Int
  int_typed s z (int_item terminal low high) = terminal

  text_typed : (s : SymId) (text : List ℕ) → IsIt s (Leaf (Str text)) → IsTerminal symbols s type.Str
  text_typed s text (string_item terminal) = terminal

  symbol_known : (s : SymId) (n : ℕ) → IsIt s (Child n) → HasSymbol rules t n s
  symbol_known s n (node_item has) = has

  free : (f : Forest) (x k n close : ℕ) (above : Coordinates) (its : List (Item Plain)) → x < length shapes → AreChildren x k its → AreWritten rules texts t n above f its → n + count f ≤ most_nodes → fault_among g x k n f close ≡ None
  free none x k n close above its inside_shapes are is few =
      ap (λ (b : Bool). if b then None else Some (fault.WrongChild close)) (enough IsIt (shape_at shapes x).list (shape_at shapes x).right k (subst (λ (l : List (Item Plain)). AreChildren x k l) is are))
  free (int at z after) x k n close above its inside_shapes are (more, is, later) few =
      let first = first_child IsIt (shape_at shapes x).list (shape_at shapes x).right k (Leaf (Int z)) more (subst (λ (l : List (Item Plain)). AreChildren x k l) is are) in
      ap (λ (b : Bool). if b then fault_among g x (suc k) n after close else Some (fault.WrongChild at)) (value_taken x k first.symbol type.Int inside_shapes first.slot (int_typed first.symbol z first.is))
      ∙ free after x (suc k) n close above more inside_shapes first.rest later few
  free (string at text after) x k n close above its inside_shapes are (more, is, later) few =
      let first = first_child IsIt (shape_at shapes x).list (shape_at shapes x).right k (Leaf (Str text)) more (subst (λ (l : List (Item Plain)). AreChildren x k l) is are) in
      ap (λ (b : Bool). if b then fault_among g x (suc k) n after close else Some (fault.WrongChild at)) (value_taken x k first.symbol type.Str inside_shapes first.slot (text_typed first.symbol text first.is))
      ∙ free after x (suc k) n close above more inside_shapes first.rest later few
  free (node at name_at name coordinates below end after) x k n close above its inside_shapes are (more, is, has, stands, low, later) few =
      let first = first_child IsIt (shape_at shapes x).list (shape_at shapes x).right k (Child n) more (subst (λ (l : List (Item Plain)). AreChildren x k l) is are) in
      let y = is_named n name has in
      node_none (g.named name) (g.takes x k) (nat_le most_nodes n) (λ z. fault_among g z 0 (suc n) below end) (fault_among g x (suc k) (suc (n + count below)) after close)
      (fault.UnknownRule name_at) (fault.TooMany many.Nodes) (fault.WrongChild at) y.shape y.named
      (node_taken x k n y.shape first.symbol y.rule first.slot (symbol_known first.symbol n first.is))
      (high_test most_nodes n (omega (arith, few)))
      (free below y.shape 0 (suc n) end (own coordinates above) (items_of t n) y.there (children_of n y.shape y.there y.rule) low (omega (arith, few)))
      (free after x (suc k) (suc (n + count below)) close above more inside_shapes first.rest later (omega (arith, few)))

  -- ---- the table is the tree

  items_are : (f : Forest) (n : ℕ) (above : Coordinates) (its : List (Item Plain)) → AreWritten rules texts t n above f its → its ≡ items g n f
  items_are none n above its is = is
  items_are (int at z after) n above its (more, is, later) = is ∙ ap (λ (l : List (Item Plain)). Leaf (Int z) ∷ l) (items_are after n above more later)
  items_are (string at text after) n above its (more, is, later) = is ∙ ap (λ (l : List (Item Plain)). Leaf (Str text) ∷ l) (items_are after n above more later)
  items_are (node at name_at name coordinates below end after) n above its (more, is, has, stands, low, later) = is ∙ ap (λ (l : List (Item Plain)). Child n ∷ l) (items_are after (suc (n + count below)) above more later)

  parent_is : (p k n : ℕ) → slice_get (items_of t p) k ≡ Some (Child n) → parent_of t n ≡ Some p
  parent_is p k n at =
      let test : IsTrue (contains n (children t p)) = test-contains n (children t p) (Contains-child (items_of t p) k n at) in
      is_just-some p (parent_of t n) (both (nat_lt n (length t)) (is_just p (parent_of t n)) (subst IsTrue (fits.tree.items_agree p n) test)).1

  abbrev written_node : ℕ → ℕ → ℕ → List ℕ → Coordinates → Forest → Node Plain
  written_node n p k name c below = table_node (rule_named g name) (Some p) (suc k) c (items g (suc n) below)

  this_node : (n p k : ℕ) (name : List ℕ) (c : Coordinates) (below : Forest) → HasName rules texts t n name → coordinates_of t n ≡ c → AreWritten rules texts t (suc n) c below (items_of t n) → slice_get (items_of t p) k ≡ Some (Child n)
      → slice_get t n ≡ Some (written_node n p k name c below)
  this_node n p k name c below has stands low at =
      let y = is_named n name has in
      let here = there t n (rule_of t n (shape_at shapes y.shape).rule.0 y.rule) in
      let x : Node Plain = here.0 in
      here.1 ∙ ap (λ (z : Node Plain). Some z) (node_is x (written_node n p k name c below)
      (same_Some _ _ (sym (ap (λ (o : Option (Node Plain)). option_map (λ (z : Node Plain). z.rule) o) here.1) ∙ y.rule) ∙ sym (named_rule name y.shape y.named))
      (sym (ap (λ (o : Option (Node Plain)). option_and_then (λ (z : Node Plain). z.parent) o) here.1) ∙ parent_is p k n at)
      (sym (ap (λ (o : Option (Node Plain)). elim o as (λ _. ℕ) [ None ↦ 0 | Some z ↦ z.place ]) here.1) ∙ fits.tree.places_agree p k n at)
      (sym (ap (λ (o : Option (Node Plain)). elim o as (λ _. ℕ) [ None ↦ 0 | Some z ↦ z.line ]) here.1) ∙ ap (λ (d : Coordinates). d.line) stands)
      (sym (ap (λ (o : Option (Node Plain)). elim o as (λ _. ℕ) [ None ↦ 0 | Some z ↦ z.column ]) here.1) ∙ ap (λ (d : Coordinates). d.column) stands)
      (sym (ap (λ (o : Option (Node Plain)). elim o as (λ _. List (Item Plain)) [ None ↦ [] | Some z ↦ z.items ]) here.1) ∙ items_are below (suc n) c (items_of t n) low))

  nodes_are : (f : Forest) (n p k : ℕ) (above : Coordinates) (its : List (Item Plain)) → AreWritten rules texts t n above f its → drop k (items_of t p) ≡ its → take (count f) (drop n t) ≡ nodes g n p k above f
  nodes_are none n p k above its is at = refl
  nodes_are (int from z after) n p k above its (more, is, later) at = nodes_are after n p (suc k) above more later (drop_split (items_of t p) k (Leaf (Int z)) more (at ∙ is)).1
  nodes_are (string from text after) n p k above its (more, is, later) at = nodes_are after n p (suc k) above more later (drop_split (items_of t p) k (Leaf (Str text)) more (at ∙ is)).1
  nodes_are (node from name_at name coordinates below end after) n p k above its (more, is, has, stands, low, later) at =
      let c : Coordinates = own coordinates above in
      let split = drop_split (items_of t p) k (Child n) more (at ∙ is) in
      ap (λ (l : Tree Plain). take (suc (count below + count after)) l) (drop_here t n (written_node n p k name c below) (this_node n p k name c below has stands low split.0))
      ∙ ap (λ (l : Tree Plain). written_node n p k name c below ∷ l)
      (take_more (drop (suc n) t) (count below) (count after)
      ∙ ap (λ (l : Tree Plain). l ++ take (count after) (drop (count below) (drop (suc n) t))) (nodes_are below (suc n) n 0 c (items_of t n) low refl)
      ∙ ap (λ (l : Tree Plain). nodes g (suc n) n 0 c below ++ take (count after) l) (drop_drop t (suc n) (count below))
      ∙ ap (λ (m : ℕ). nodes g (suc n) n 0 c below ++ take (count after) (drop m t)) (let e : suc n + count below ≡ suc (n + count below) = omega arith in e)
      ∙ ap (λ (l : Tree Plain). nodes g (suc n) n 0 c below ++ l) (nodes_are after (suc (n + count below)) p (suc k) above more later split.1))

  table_by : (u : Tree Plain) (rule : ℕ) (c : Coordinates) (below : Forest) → IsTree u → rule_at u 0 ≡ Some rule → coordinates_of u 0 ≡ c → items_of u 0 ≡ items g 1 below → take (count below) (drop 1 u) ≡ nodes g 1 0 0 c below → length u ≡ suc (count below)
      → table g rule c below ≡ u
  table_by [] rule c below tree is stands its rest size = absurd (none-some _ is)
  table_by (x ∷ u) rule c below tree is stands its rest size =
      let first : x ≡ table_node rule None 0 c (items g 1 below) = node_is x (table_node rule None 0 c (items g 1 below)) (same_Some _ _ is) tree.root_first tree.root_place (ap (λ (d : Coordinates). d.line) stands) (ap (λ (d : Coordinates). d.column) stands) its in
      ap (λ (l : Tree Plain). table_node rule None 0 c (items g 1 below) ∷ l) (sym rest ∙ take_whole u (count below) (omega (arith, size)))
      ∙ ap (λ (y : Node Plain). y ∷ u) (sym first)

  root_test : (x : ℕ) → rule_at t 0 ≡ Some (shape_at shapes x).rule.0 → g.is_root x ≡ true
  root_test x rule = ap (λ (o : Option SymId). elim o as (λ _. Bool) [ None ↦ false | Some s ↦ is_same_symbol s root ]) (left_known 0 x root rule fits.root_node) ∙ symbol_same root

  -- a tree that fits and is not too large is what its text means
  pub fits_read : (name_at : ℕ) (name : List ℕ) (coordinates : Option Coordinates) (below : Forest) (end : ℕ) → length t ≤ most_nodes → IsWrittenAs rules texts t name coordinates below → meaning g name_at name coordinates below end ≡ Ok t
  fits_read name_at name coordinates below end few (has, stands, low, size) =
      let c : Coordinates = own coordinates no_coordinates in
      let y = is_named 0 name has in
      let whole : Tree Plain = table g (shape_at shapes y.shape).rule.0 c below in
      ap (λ (o : Option ℕ). elim o as (λ _. Result (Tree Plain) TreeFault) [
        | None ↦ Err (fault.UnknownRule name_at)
        | Some x ↦ if g.is_root x then unless_fault (table g (g.rule x) c below) (fault_among g x 0 1 below end) else Err (fault.WrongRoot name_at)
      ]) y.named
      ∙ ap (λ (b : Bool). if b then unless_fault whole (fault_among g y.shape 0 1 below end) else Err (fault.WrongRoot name_at)) (root_test y.shape y.rule)
      ∙ ap (λ (o : Option TreeFault). unless_fault whole o) (free below y.shape 0 1 end c (items_of t 0) y.there (children_of 0 y.shape y.there y.rule) low (omega (arith, few, size)))
      ∙ ap (λ (u : Tree Plain). Ok u) (table_by t (shape_at shapes y.shape).rule.0 c below fits.tree y.rule stands (items_are below 1 c (items_of t 0) low) (nodes_are below 1 0 0 c (items_of t 0) low refl) size)
