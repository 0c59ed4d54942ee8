-- What is read of a written tree fits the grammar.
use Rattle.std.proofs.Common.{◌≡◌, ℕ, ℤ, pos, negsuc, ◌+◌, ◌-◌, ◌^◌, ◌<◌, ◌≤◌, Bool, true, false, true≢false, if◌then◌else◌, List, [], ◌∷◌, length, Some, None, Option, Result, Ok, Err, refl, ap, sym, ◌∙◌, subst, arith, suc, zero, ⊎_elim}
use Rattle.std.specs.Prelude.{nat_le, slice_get, All, Contains, FitsSigned, ◌≤ℤ◌, ◌<ℤ◌, option_and_then, option_map}
use Rattle.std.specs.Int.{w64}
use Rattle.std.specs.List.{AllZip, list_any}
use Rattle.std.proofs.lemmas.Bool.{cases_lt}
use Rattle.std.proofs.lemmas.Int.{ints}
use Rattle.std.proofs.lemmas.Option.{none-some}
use Rattle.std.proofs.lemmas.Option.{same_Some}
use Rattle.lido_base.specs.Plain.{Plain, Int, Str}
use Rattle.lido_base.specs.Tree.{Tree, Item, Child, Leaf, items_of, rule_at}
use Rattle.lido_base.specs.declared.ids.SymId.{SymId}
use Rattle.lido_base.specs.declared.kinds.Many.TheVariants as many
use Rattle.lido_base.specs.declared.value.ValueType.{ValueType}
use Rattle.lido_base.specs.declared.value.ValueType.TheVariants as type
use Rattle.tree_store.specs.declared.fault.TreeFault.{TreeFault}
use Rattle.tree_store.specs.declared.fault.TreeFault.TheVariants as fault
use Rattle.flat_grammar.specs.declared.flat.FlatSymbol.{FlatSymbol}
use Rattle.flat_grammar.specs.declared.flat.FlatRule.{FlatRule}
use Rattle.flat_grammar.specs.declared.flat.Shape.{Shape}
use Rattle.flat_grammar.specs.WellFormed.{IsWellFormed, is_same_symbol}
use Rattle.flat_grammar.specs.Fitting.{IsFitting, IsItem, IsTerminal, HasShape, HasSymbol}
use Rattle.flat_grammar.specs.Fitting.{node as node_item, int as int_item, string as string_item}
use Rattle.tree_reader.specs.declared.part.Coordinates.{Coordinates}
use Rattle.tree_reader.specs.Language.{Forest, none, node, int, string}
use Rattle.tree_reader.specs.WrittenTrees.{Asked, count, first_of, unless_fault, rule_named, items, fault_among, meaning, most_nodes, no_coordinates, own}
use Rattle.tree_reader.specs.Asking.{asked, is_same_type, shape_at, no_shape, may_be, left_of, type_of, may_be_value, may_be_node, may_be_root, has_name}
use Rattle.tree_reader.specs.Ints.{HasInts}
use Rattle.tree_reader.proofs.Filling.{length-nodes}
use Rattle.tree_reader.proofs.Naming.{first_inside}
use Rattle.tree_reader.proofs.Slots.{same_symbol, is_among, IsSlot, AreFrom, one_before, no_more, contains_at, one_shape}
use Rattle.tree_reader.proofs.TablesOfForests.{table, table_is_tree, HasNodes, table_has_nodes}

-- ---- what no fault says

abbrev node_by : Option ℕ → (ℕ → Bool) → Bool → (ℕ → Option TreeFault) → Option TreeFault → TreeFault → TreeFault → TreeFault → Option TreeFault
node_by o takes many low after unknown too wrong = elim o [ None ↦ Some unknown | Some y ↦ if takes y then (if many then Some too else first_of (low y) after) else Some wrong ]

record IsFree (o : Option ℕ) (takes : ℕ → Bool) (many : Bool) (low : ℕ → Option TreeFault) (after : Option TreeFault) : Type 0 where
  pub shape : ℕ
  pub named : o ≡ Some shape
  pub taken : takes shape ≡ true
  pub few : many ≡ false
  pub below : low shape ≡ None
  pub behind : after ≡ None

node_free : (o : Option ℕ) (takes : ℕ → Bool) (many : Bool) (low : ℕ → Option TreeFault) (after : Option TreeFault) (unknown too wrong : TreeFault)
    → node_by o takes many low after unknown too wrong ≡ None → IsFree o takes many low after
node_free None takes many low after unknown too wrong free = absurd (none-some _ (sym free))
node_free (Some y) takes many low after unknown too wrong free = by (takes y) many (low y) refl refl refl free
  where
    by : (a b : Bool) (l : Option TreeFault) → takes y ≡ a → many ≡ b → low y ≡ l → (if a then (if b then Some too else first_of l after) else Some wrong) ≡ None → IsFree (Some y) takes many low after
    by false b l is_a is_b is_l e = absurd (none-some _ (sym e))
    by true true l is_a is_b is_l e = absurd (none-some _ (sym e))
    by true false (Some f) is_a is_b is_l e = absurd (none-some _ (sym e))
    by true false None is_a is_b is_l e = record { shape = y; named = refl; taken = is_a; few = is_b; below = is_l; behind = e }

leaf_free : (b : Bool) (rest : Option TreeFault) (wrong : TreeFault) → (if b then rest else Some wrong) ≡ None → (b ≡ true) × (rest ≡ None)
leaf_free true rest wrong free = (refl, free)
leaf_free false rest wrong free = absurd (none-some _ (sym free))

end_free : (b : Bool) (wrong : TreeFault) → (if b then None else Some wrong) ≡ None → b ≡ true
end_free true wrong free = refl
end_free false wrong free = absurd (none-some _ (sym free))

record IsRead (o : Option ℕ) (root : ℕ → Bool) (whole : ℕ → Tree Plain) (faulty : ℕ → Option TreeFault) (t : Tree Plain) : Type 0 where
  pub shape : ℕ
  pub named : o ≡ Some shape
  pub is_root : root shape ≡ true
  pub free : faulty shape ≡ None
  pub is : whole shape ≡ t

read_from : (o : Option ℕ) (root : ℕ → Bool) (whole : ℕ → Tree Plain) (faulty : ℕ → Option TreeFault) (t : Tree Plain) (unknown wrong : TreeFault)
    → elim o as (λ _. Result (Tree Plain) TreeFault) [ None ↦ Err unknown | Some x ↦ if root x then unless_fault (whole x) (faulty x) else Err wrong ] ≡ Ok t → IsRead o root whole faulty t
read_from None root whole faulty t unknown wrong e = absurd (cc)
read_from (Some x) root whole faulty t unknown wrong e = by (root x) (faulty x) refl refl e
  where
    by : (b : Bool) (f : Option TreeFault) → root x ≡ b → faulty x ≡ f → (if b then unless_fault (whole x) f else Err wrong) ≡ Ok t → IsRead (Some x) root whole faulty t
    by false f is_b is_f e = absurd (cc)
    by true (Some g) is_b is_f e = absurd (cc)
    by true None is_b is_f e = record { shape = x; named = refl; is_root = is_b; free = is_f; is = (let same : whole x ≡ t = cc in same) }

-- ---- what the tests say

left_is : (o : Option FlatRule) (s : SymId) → option_map (λ (r : FlatRule). r.left) o ≡ Some s → (r : FlatRule) × (o ≡ Some r) × (r.left ≡ s)
left_is None s e = absurd (none-some _ e)
left_is (Some r) s e = (r, refl, same_Some _ _ e)

of_left : (o : Option SymId) (test : SymId → Bool) → elim o as (λ _. Bool) [ None ↦ false | Some s ↦ test s ] ≡ true → (s : SymId) × (o ≡ Some s) × (test s ≡ true)
of_left None test e = absurd (true≢false (sym e))
of_left (Some s) test e = (s, refl, e)

plain_slot : (o : Option SymId) (s : SymId) → elim o as (λ _. Bool) [ None ↦ false | Some q ↦ is_same_symbol s q ] ≡ true → o ≡ Some s
plain_slot None s e = absurd (true≢false (sym e))
plain_slot (Some q) s e = ap (λ (x : SymId). Some x) (sym (same_symbol s q e))

slot_of : (list : Bool) (right : List SymId) (k : ℕ) (s : SymId)
    → (if list then list_any (is_same_symbol s) right else elim (slice_get right k) as (λ _. Bool) [ None ↦ false | Some q ↦ is_same_symbol s q ]) ≡ true → IsSlot list right k s
slot_of true right k s e = is_among s right e
slot_of false right k s e = plain_slot (slice_get right k) s e

type_same : (ty other : ValueType) → is_same_type ty other ≡ true → other ≡ ty
type_same type.Int type.Int e = refl
type_same type.Int type.Str e = absurd (true≢false (sym e))
type_same type.Int type.Bool e = absurd (true≢false (sym e))
type_same type.Int type.Text e = absurd (true≢false (sym e))
type_same type.Int type.Void e = absurd (true≢false (sym e))
type_same type.Str type.Int e = absurd (true≢false (sym e))
type_same type.Str type.Str e = refl
type_same type.Str type.Bool e = absurd (true≢false (sym e))
type_same type.Str type.Text e = absurd (true≢false (sym e))
type_same type.Str type.Void e = absurd (true≢false (sym e))
type_same type.Bool type.Int e = absurd (true≢false (sym e))
type_same type.Bool type.Str e = absurd (true≢false (sym e))
type_same type.Bool type.Bool e = refl
type_same type.Bool type.Text e = absurd (true≢false (sym e))
type_same type.Bool type.Void e = absurd (true≢false (sym e))
type_same type.Text type.Int e = absurd (true≢false (sym e))
type_same type.Text type.Str e = absurd (true≢false (sym e))
type_same type.Text type.Bool e = absurd (true≢false (sym e))
type_same type.Text type.Text e = refl
type_same type.Text type.Void e = absurd (true≢false (sym e))
type_same type.Void type.Int e = absurd (true≢false (sym e))
type_same type.Void type.Str e = absurd (true≢false (sym e))
type_same type.Void type.Bool e = absurd (true≢false (sym e))
type_same type.Void type.Text e = absurd (true≢false (sym e))
type_same type.Void type.Void e = refl

terminal_of : (o : Option FlatSymbol) (ty : ValueType) → option_and_then (λ (x : FlatSymbol). x.terminal) o ≡ Some ty → (x : FlatSymbol) × (o ≡ Some x) × (x.terminal ≡ Some ty)
terminal_of None ty e = absurd (none-some _ e)
terminal_of (Some x) ty e = (x, refl, e)

-- the type of the symbol in place k is this one
value_slot : (list : Bool) (o : Option SymId) (type_at : SymId → Option ValueType) (ty : ValueType)
    → (if list then false else elim (option_and_then type_at o) as (λ _. Bool) [ None ↦ false | Some other ↦ is_same_type ty other ]) ≡ true → (list ≡ false) × ((s : SymId) × (o ≡ Some s) × (type_at s ≡ Some ty))
value_slot true o type_at ty e = absurd (true≢false (sym e))
value_slot false None type_at ty e = absurd (true≢false (sym e))
value_slot false (Some s) type_at ty e = (refl, (s, refl, by (type_at s) e))
  where
    by : (t : Option ValueType) → elim t as (λ _. Bool) [ None ↦ false | Some other ↦ is_same_type ty other ] ≡ true → t ≡ Some ty
    by None e = absurd (true≢false (sym e))
    by (Some other) e = ap (λ (x : ValueType). Some x) (type_same ty other e)

not_too_low : (z : ℤ) → FitsSigned w64 z → negsuc (2 ^ 63 - 1) ≤ℤ z
not_too_low z fits = omega (arith, ints, fits)

not_too_high : (z : ℤ) → FitsSigned w64 z → z <ℤ pos (2 ^ 63)
not_too_high z fits = omega (arith, ints, fits)

module _ (symbols : List FlatSymbol) (rules : List FlatRule) (shapes : List Shape) (root : SymId) (texts : List (List ℕ)) where
  abbrev g : Asked ℕ
  g = asked symbols rules shapes root texts

  module _ (t : Tree Plain) where
    abbrev IsIt : SymId → Item Plain → Type 0
    IsIt = IsItem symbols rules t

    -- the children of a node of shape x from child k on
    abbrev AreChildren : ℕ → ℕ → List (Item Plain) → Type 0
    AreChildren x k its = AreFrom IsIt (shape_at shapes x).list (shape_at shapes x).right k its

    -- node m has a shape, and its children are those that the shape asks for
    record FitsAt (m : ℕ) : Type 0 where
      pub shape : ℕ
      pub there : shape < length shapes
      pub rule : rule_at t m ≡ Some (shape_at shapes shape).rule.0
      pub children : AreChildren shape 0 (items_of t m)

    record Fits (x k n : ℕ) (f : Forest) : Type 0 where
      pub children : AreChildren x k (items g n f)
      pub each : (m : ℕ) → n ≤ m → m < n + count f → FitsAt m

    symbol_of : (n y : ℕ) (s : SymId) → rule_at t n ≡ Some (shape_at shapes y).rule.0 → left_of symbols rules shapes root (shape_at shapes y) ≡ Some s → HasSymbol rules t n s
    symbol_of n y s rule left = let (r, there, is) = left_is (slice_get rules (shape_at shapes y).rule.0) s left in (r, ((shape_at shapes y).rule.0, rule, there), is)

    value_before : (x k : ℕ) (ty : ValueType) (item : Item Plain) (more : List (Item Plain)) → ((s : SymId) → IsTerminal symbols s ty → IsIt s item)
        → may_be_value symbols rules shapes root (shape_at shapes x) k ty ≡ true → AreChildren x (suc k) more → AreChildren x k (item ∷ more)
    value_before x k ty item more made takes rest =
        let (plain, (s, stands, typed)) = value_slot (shape_at shapes x).list (slice_get (shape_at shapes x).right k) (type_of symbols rules shapes root) ty takes in
        let slot : IsSlot (shape_at shapes x).list (shape_at shapes x).right k s = subst (λ (b : Bool). IsSlot b (shape_at shapes x).right k s) (sym plain) stands in
        one_before IsIt (shape_at shapes x).list (shape_at shapes x).right k s item more slot (made s (terminal_of (slice_get symbols s.0) ty typed)) rest

    node_before : (x k n y : ℕ) (more : List (Item Plain)) → rule_at t n ≡ Some (shape_at shapes y).rule.0
        → may_be_node symbols rules shapes root (shape_at shapes x) k (shape_at shapes y) ≡ true → AreChildren x (suc k) more → AreChildren x k (Child n ∷ more)
    node_before x k n y more rule takes rest =
        let (s, left, may) = of_left (left_of symbols rules shapes root (shape_at shapes y)) (may_be (shape_at shapes x) k) takes in
        one_before IsIt (shape_at shapes x).list (shape_at shapes x).right k s (Child n) more (slot_of (shape_at shapes x).list (shape_at shapes x).right k s may) (node_item (symbol_of n y s rule left)) rest

    named_rule : (name : List ℕ) (y : ℕ) → g.named name ≡ Some y → rule_named g name ≡ (shape_at shapes y).rule.0
    named_rule name y is = ap (λ (o : Option ℕ). elim o as (λ _. ℕ) [ None ↦ 0 | Some z ↦ g.rule z ]) is

    shape_inside : (name : List ℕ) (y : ℕ) → g.named name ≡ Some y → y < length shapes
    shape_inside name y named = omega (arith, first_inside (has_name symbols rules shapes root texts name) 0 y shapes named)

    among : (f : Forest) (x k n close : ℕ) → fault_among g x k n f close ≡ None → HasNodes g t n f → HasInts f → Fits x k n f
    among none x k n close free has fits = record {
      children = no_more IsIt (shape_at shapes x).list (shape_at shapes x).right k (end_free (g.is_enough x k) (fault.WrongChild close) free);
      each = λ m low high. absurd (omega (arith, low, high));
    }
    among (int at z after) x k n close free has (fits, more) =
        let (takes, later) = leaf_free (g.takes_value x k type.Int) (fault_among g x (suc k) n after close) (fault.WrongChild at) free in
        let rest = among after x (suc k) n close later has more in
        record {
          children = value_before x k type.Int (Leaf (Int z)) (items g n after) (λ s terminal. int_item terminal (not_too_low z fits) (not_too_high z fits)) takes rest.children;
          each = rest.each;
        }
    among (string at text after) x k n close free has more =
        let (takes, later) = leaf_free (g.takes_value x k type.Str) (fault_among g x (suc k) n after close) (fault.WrongChild at) free in
        let rest = among after x (suc k) n close later has more in
        record {
          children = value_before x k type.Str (Leaf (Str text)) (items g n after) (λ s terminal. string_item terminal) takes rest.children;
          each = rest.each;
        }
    among (node at name_at name coordinates below end after) x k n close free (rule, its, has_below, has_after) (ints_below, ints_after) =
        let is_free = node_free (g.named name) (g.takes x k) (nat_le most_nodes n) (λ y. fault_among g y 0 (suc n) below end) (fault_among g x (suc k) (suc (n + count below)) after close)
        (fault.UnknownRule name_at) (fault.TooMany many.Nodes) (fault.WrongChild at) free in
        let y = is_free.shape in
        let inner = among below y 0 (suc n) end is_free.below has_below ints_below in
        let rest = among after x (suc k) (suc (n + count below)) close is_free.behind has_after ints_after in
        let here : rule_at t n ≡ Some (shape_at shapes y).rule.0 = rule ∙ ap (λ (r : ℕ). Some r) (named_rule name y is_free.named) in
        let first : FitsAt n = record {
          shape = y;
          there = shape_inside name y is_free.named;
          rule = here;
          children = subst (λ (l : List (Item Plain)). AreChildren y 0 l) (sym its) inner.children;
        } in
        record {
          children = node_before x k n y (items g (suc (n + count below)) after) here is_free.taken rest.children;
          each = λ m low high. ⊎_elim
              (λ less. ⊎_elim
              (λ same. subst FitsAt (let e : n ≡ m = omega (arith, same, low) in e) first)
              (λ above. inner.each m (omega (arith, above)) (omega (arith, less)))
              (cases_lt m (suc n)))
              (λ past. rest.each m (omega (arith, past)) (omega (arith, high)))
              (cases_lt m (suc n + count below));
        }

  -- ---- the whole tree

  rule_inside : (t : Tree Plain) (m r : ℕ) → rule_at t m ≡ Some r → m < length t
  rule_inside [] m r e = absurd (none-some _ e)
  rule_inside (n ∷ t) zero r e = omega arith
  rule_inside (n ∷ t) (suc m) r e = omega (arith, rule_inside t m r e)

  root_symbol : (t : Tree Plain) (x : ℕ) → rule_at t 0 ≡ Some (shape_at shapes x).rule.0 → may_be_root symbols rules shapes root (shape_at shapes x) ≡ true → HasSymbol rules t 0 root
  root_symbol t x rule test =
      let (s, left, is) = of_left (left_of symbols rules shapes root (shape_at shapes x)) (λ q. is_same_symbol q root) test in
      subst (λ (q : SymId). HasSymbol rules t 0 q) (same_symbol s root is) (symbol_of t 0 x s rule left)

  module _ (formed : IsWellFormed symbols rules shapes root) where
    -- a node's shape is known by its rule
    the_shape : (t : Tree Plain) (m : ℕ) (shape : Shape) → FitsAt t m → HasShape shapes t m shape → (x : ℕ) × (shape_at shapes x ≡ shape) × AreChildren t x 0 (items_of t m)
    the_shape t m shape fits (among_shapes, rule) = (
      fits.shape,
      one_shape _ rules 0 shapes (shape_at shapes fits.shape) shape formed.each_shape (contains_at shapes fits.shape no_shape fits.there) among_shapes (same_Some _ _ (sym fits.rule ∙ rule)),
      fits.children,
    )

    plain_children : (t : Tree Plain) (m : ℕ) (shape : Shape) → FitsAt t m → HasShape shapes t m shape → shape.list ≡ false → AllZip (IsIt t) shape.right (items_of t m)
    plain_children t m shape fits has plain =
        let (x, is, children) = the_shape t m shape fits has in
        subst (λ (b : Bool). AreFrom (IsIt t) b shape.right 0 (items_of t m)) plain (subst (λ (s : Shape). AreFrom (IsIt t) s.list s.right 0 (items_of t m)) is children)

    list_children : (t : Tree Plain) (m : ℕ) (shape : Shape) → FitsAt t m → HasShape shapes t m shape → shape.list ≡ true
        → All (λ p. (s : SymId) × Contains shape.right s × IsIt t s p) (items_of t m)
    list_children t m shape fits has list =
        let (x, is, children) = the_shape t m shape fits has in
        subst (λ (b : Bool). AreFrom (IsIt t) b shape.right 0 (items_of t m)) list (subst (λ (s : Shape). AreFrom (IsIt t) s.list s.right 0 (items_of t m)) is children)

    table_fits : (x close : ℕ) (c : Coordinates) (below : Forest) → x < length shapes → may_be_root symbols rules shapes root (shape_at shapes x) ≡ true → fault_among g x 0 1 below close ≡ None → HasInts below
        → IsFitting symbols rules shapes root (table g (shape_at shapes x).rule.0 c below)
    table_fits x close c below there is_root free ints =
        let t : Tree Plain = table g (shape_at shapes x).rule.0 c below in
        let fits = among t below x 0 1 close free (table_has_nodes g (shape_at shapes x).rule.0 c below) ints in
        let first : FitsAt t 0 = record { shape = x; there = there; rule = refl; children = fits.children } in
        let each : (m : ℕ) → m < length t → FitsAt t m = λ m less. ⊎_elim
        (λ low. subst (FitsAt t) (let e : 0 ≡ m = omega (arith, low) in e) first)
        (λ past. fits.each m past (omega (arith, less, length-nodes g 1 0 0 c below)))
        (cases_lt m 1) in
        record {
          tree = table_is_tree g (shape_at shapes x).rule.0 c below;
          root_node = root_symbol t x refl is_root;
          shaped = λ m less. let here = each m less in (shape_at shapes here.shape, (contains_at shapes here.shape no_shape here.there, here.rule));
          plain = λ m shape has plain. plain_children t m shape (each m (rule_inside t m shape.rule.0 has.1)) has plain;
          lists = λ m shape has list. list_children t m shape (each m (rule_inside t m shape.rule.0 has.1)) has list;
        }

    -- a tree that a text means fits the grammar
    pub read_fits : (name_at : ℕ) (name : List ℕ) (coordinates : Option Coordinates) (below : Forest) (end : ℕ) (t : Tree Plain) → HasInts below → meaning g name_at name coordinates below end ≡ Ok t → IsFitting symbols rules shapes root t
    read_fits name_at name coordinates below end t ints means =
        let r = read_from (g.named name) g.is_root (λ x. table g (g.rule x) (own coordinates no_coordinates) below) (λ x. fault_among g x 0 1 below end) t (fault.UnknownRule name_at) (fault.WrongRoot name_at) means in
        subst (IsFitting symbols rules shapes root) r.is
        (table_fits r.shape end (own coordinates no_coordinates) below (shape_inside t name r.shape r.named) r.is_root r.free ints)
