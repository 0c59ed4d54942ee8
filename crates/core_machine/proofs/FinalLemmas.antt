-- The values of the final state stand for the attribution of the flat tree.
use Rattle.std.specs.Prelude.{find, Contains, slice_get, option_map, if◌then◌else◌, ◌==◌}
use Rattle.std.specs.List.{range_with_len}
use Rattle.std.proofs.Common.{◌≡◌, ℕ, zero, suc, ◌+◌, ◌<◌, List, [], ◌∷◌, ◌++◌, length, map, Bool, true, false, eqb, Option, Some, None, refl, arith, ap, sym, subst, ◌∙◌, append-nil, eq-eqb, eqb-true}
use Rattle.std.proofs.lemmas.Option.{none-some, slice_get-map}
use Rattle.lido_base.specs.declared.value.Value.{Value}
use Rattle.lido_base.specs.declared.value.Value.TheVariants as value
use Rattle.lido_base.specs.declared.value.ValueType.{ValueType}
use Rattle.lido_base.specs.declared.value.ValueType.TheVariants as type
use Rattle.lido_base.specs.declared.pattern.Pattern.{Pattern}
use Rattle.lido_base.specs.Plain.{Plain, Text, plain, plain_item, plain_tree}
use Rattle.lido_base.specs.Tree.{Tree, Item, Child, Leaf, item_at, items_of, contains, ancestors}
use Rattle.lido_base.specs.Operations.{kept}
use Rattle.string_librarian.specs.Rooms.{RoomState, Deposit, HaveGrown}
use Rattle.string_librarian.specs.Denotes.{empty}
use Rattle.value_ops.specs.Outcome.{StandsFor}
use Rattle.value_ops.specs.Results.{IsFamily}
use Rattle.tree_store.specs.Regions.{place_from, number_found, region}
use Rattle.flat_grammar.specs.declared.flat.Occ.{Occ}
use Rattle.flat_grammar.specs.declared.flat.FlatAttr.{FlatAttr}
use Rattle.flat_grammar.specs.declared.flat.FlatExpr.{FlatExpr, Value as Constant, Terminal, Read, Coord, Apply', If', Order', Row_of-FlatExpr, end_of-FlatExpr, more_of-FlatExpr}
use Rattle.flat_grammar.specs.Rules.{reads, reads_of_all}
use Rattle.flat_grammar.specs.FlatAttribution.{leaf_or, as_typed}
use Rattle.flat_grammar.specs.WholeOrder.{Instance}
use Rattle.flat_grammar.specs.Instances.{instance_at}
use Rattle.flat_grammar.proofs.Lists.{held, contains-first}
use Rattle.std.proofs.lemmas.List.Elements.{Contains-append_left, Contains-append_right}
use Rattle.core_machine.specs.Evaluation.{leaf_value, kept_value, IsConstant, IsNoText, HasConstants, HaveConstants}
use Rattle.lido_base.proofs.PlainLemmas.{plain_items, plain_coordinate}
use Rattle.core_machine.proofs.Expressions.{Fine, AllFine}

pub typed-stands : (texts : List (List ℕ)) (patterns : List Pattern) (rooms : List RoomState) (attr : Option FlatAttr) (v : Value) (p : Plain) → StandsFor texts patterns rooms v p → StandsFor texts patterns rooms (kept_value attr v) (as_typed attr p)
typed-stands texts patterns rooms None v p s = s
typed-stands texts patterns rooms (Some attr) v p s = go attr.ty v s
  where
    go : (ty : ValueType) (v : Value) → StandsFor texts patterns rooms v p
        → StandsFor texts patterns rooms (elim ty [ type.Void ↦ elim v [ value.Bad o ↦ value.Bad o | _ ↦ value.Void ] | _ ↦ v ]) (kept ty p)
    go type.Int v s = s
    go type.Str v s = s
    go type.Bool v s = s
    go type.Text v s = s
    go type.Void (value.Int z) s = ap (λ q. kept type.Void q) s
    go type.Void (value.Bool z) s = ap (λ q. kept type.Void q) s
    go type.Void (value.Str z) s = ap (λ q. kept type.Void q) s
    go type.Void (value.Text z) s = ap (λ q. kept type.Void q) s.2
    go type.Void value.Void s = ap (λ q. kept type.Void q) s
    go type.Void (value.Bad z) s = ap (λ q. kept type.Void q) s

constant-stands : (texts : List (List ℕ)) (patterns : List Pattern) (rooms : List RoomState) (v : Value) → IsConstant v → StandsFor texts patterns rooms v (plain texts v)
constant-stands texts patterns rooms (value.Text d) h = subst (λ z. StandsFor texts patterns rooms (value.Text z) (Text [])) (sym h) ([], empty, refl)
constant-stands texts patterns rooms (value.Int z) h = refl
constant-stands texts patterns rooms (value.Bool z) h = refl
constant-stands texts patterns rooms (value.Str z) h = refl
constant-stands texts patterns rooms value.Void h = refl
constant-stands texts patterns rooms (value.Bad z) h = refl

no-text-stands : (texts : List (List ℕ)) (patterns : List Pattern) (rooms : List RoomState) (v : Value) → IsNoText v → StandsFor texts patterns rooms v (plain texts v)
no-text-stands texts patterns rooms (value.Text d) h = absurd h
no-text-stands texts patterns rooms (value.Int z) h = refl
no-text-stands texts patterns rooms (value.Bool z) h = refl
no-text-stands texts patterns rooms (value.Str z) h = refl
no-text-stands texts patterns rooms value.Void h = refl
no-text-stands texts patterns rooms (value.Bad z) h = refl

leaf-stands : (texts : List (List ℕ)) (patterns : List Pattern) (number : ℕ) (rooms : List RoomState) (t : Tree Value) → ((n k : ℕ) (v : Value) → slice_get (items_of t n) k ≡ Some (Leaf v) → IsNoText v)
    → (n k : ℕ) → StandsFor texts patterns rooms (leaf_value (item_at t n k)) (leaf_or (item_at (plain_tree texts t) n k))
leaf-stands texts patterns number rooms t leaves n zero = refl
leaf-stands texts patterns number rooms t leaves n (suc k) =
    subst (λ o. StandsFor texts patterns rooms (leaf_value (slice_get (items_of t n) k)) (leaf_or o)) (sym (ap (λ is. slice_get is k) (plain_items texts t n) ∙ slice_get-map (plain_item texts) (items_of t n) k))
    (go (slice_get (items_of t n) k) refl)
  where
    go : (o : Option (Item Value)) → slice_get (items_of t n) k ≡ o → StandsFor texts patterns rooms (leaf_value o) (leaf_or (option_map (plain_item texts) o))
    go None e = refl
    go (Some (Child c)) e = refl
    go (Some (Leaf v)) e = no-text-stands texts patterns rooms v (leaves n k v e)

-- rooms by their deposits
abbrev pub rooms-by : ℕ → (ℕ → List Deposit) → List RoomState
rooms-by m d = map (λ r. record { number = r; deposits = d r; space = 0 }) (range_with_len 0 m)

range-at : (f : ℕ → RoomState) (m a k : ℕ) → k < m → slice_get (map f (range_with_len a m)) k ≡ Some (f (a + k))
range-at f zero a k h = absurd (omega arith)
range-at f (suc m) a zero h = ap (λ x. Some (f x)) (let e : a ≡ a + 0 = omega arith in e)
range-at f (suc m) a (suc k) h = range-at f m (a + 1) k (omega arith) ∙ ap (λ x. Some (f x)) (let e : (a + 1) + k ≡ a + suc k = omega arith in e)

range-is : (f : ℕ → RoomState) (m a k : ℕ) (x : RoomState) → slice_get (map f (range_with_len a m)) k ≡ Some x → (k < m) × (f (a + k) ≡ x)
range-is f zero a k x h = absurd (none-some _ h)
range-is f (suc m) a zero x h = ((omega arith), ap f (let e : a + 0 ≡ a = omega arith in e) ∙ held h)
range-is f (suc m) a (suc k) x h = let p = range-is f m (a + 1) k x h in ((let q = p.0 in omega arith), ap f (let e : a + suc k ≡ (a + 1) + k = omega arith in e) ∙ p.1)

pub rooms-grow : (m : ℕ) (d e : ℕ → List Deposit) → ((r : ℕ) → (more : List Deposit) × (e r ≡ d r ++ more)) → HaveGrown (rooms-by m d) (rooms-by m e)
rooms-grow m d e h k room at =
    let p = range-is (λ r. record { number = r; deposits = d r; space = 0 }) m 0 k room at in
    let q = h (0 + k) in
    (record { number = 0 + k; deposits = e (0 + k); space = 0 }, range-at (λ r. record { number = r; deposits = e r; space = 0 }) m 0 k p.0, (q.0, q.1 ∙ ap (λ (z : RoomState). z.deposits ++ q.0) p.1))

abbrev pub changed : ℕ → List Deposit → (ℕ → List Deposit) → ℕ → List Deposit
changed number ds d r = if number == r then ds else d r

pub changed-grows : (number : ℕ) (d : ℕ → List Deposit) (ds more : List Deposit) (r : ℕ) → (extra : List Deposit) × (changed number (ds ++ more) d r ≡ changed number ds d r ++ extra)
changed-grows number d ds more r = go (eqb number r)
  where
    go : (b : Bool) → (extra : List Deposit) × ((if b then ds ++ more else d r) ≡ (if b then ds else d r) ++ extra)
    go true = (more, refl)
    go false = ([], sym (append-nil (d r)))

pub changed-there : (m number : ℕ) (d : ℕ → List Deposit) → number < m → (ds : List Deposit) → (room : RoomState) × (slice_get (rooms-by m (changed number ds d)) number ≡ Some room) × (room.deposits ≡ ds)
changed-there m number d h ds = (
  record { number = 0 + number; deposits = changed number ds d (0 + number); space = 0 },
  range-at (λ r. record { number = r; deposits = changed number ds d r; space = 0 }) m 0 number h,
  ap (λ (b : Bool). if b then ds else d (0 + number)) (eq-eqb number (0 + number) (omega arith)),
)

-- the rooms of a state, with one room set to more than it has
pub changed-from : (number : ℕ) (d : ℕ → List Deposit) (more : List Deposit) (r : ℕ) → (extra : List Deposit) × (changed number (d number ++ more) d r ≡ d r ++ extra)
changed-from number d more r = go (eqb number r) refl
  where
    go : (b : Bool) → eqb number r ≡ b → (extra : List Deposit) × ((if b then d number ++ more else d r) ≡ d r ++ extra)
    go true e = (more, ap (λ k. d k ++ more) (eqb-true number r e))
    go false e = ([], sym (append-nil (d r)))

place-few : (k : ℕ) (nodes : List ℕ) (n : ℕ) → 0 < k → place_from k nodes n < k + length nodes
place-few k [] n h = omega arith
place-few k (x ∷ nodes) n h = go (eqb n x) (place-few (suc k) nodes n (omega arith))
  where
    go : (b : Bool) → place_from (suc k) nodes n < suc k + length nodes → (if b then k else place_from (suc k) nodes n) < k + suc (length nodes)
    go true p = omega arith
    go false p = omega arith

pub region-few : {V : Type 0} (t : Tree V) (nodes : List ℕ) (n : ℕ) → region t nodes n < suc (length nodes)
region-few t nodes n = go (find (λ m. contains m nodes) (n ∷ ancestors t n))
  where
    go : (x : Option ℕ) → number_found nodes x < suc (length nodes)
    go None = omega arith
    go (Some m) = let p = place-few 1 nodes m (omega arith) in omega arith

module _ (texts : List (List ℕ)) (patterns : List Pattern) (number : ℕ) (R : List Deposit → List RoomState) (family : IsFamily number R)
    (t : Tree Value) (leaves : (n k : ℕ) (v : Value) → slice_get (items_of t n) k ≡ Some (Leaf v) → IsNoText v)
    (node_of : List ℕ) (origin n : ℕ) (values : Instance → Value) (B : Instance → Plain) (start : List Deposit) where
  abbrev ReadsStand : List Occ → Type 0
  ReadsStand os = (o : Occ) → Contains os o → StandsFor texts patterns (R start) (values (instance_at t n o)) (B (instance_at (plain_tree texts t) n o))

  mutual
    pub fine : (e : FlatExpr) → HasConstants e → ReadsStand (reads e) → Fine texts patterns number R family t (plain_tree texts t) node_of origin n values B start e
    fine (Constant v) h r = constant-stands texts patterns (R start) v h
    fine (Terminal k) h r = leaf-stands texts patterns number (R start) t leaves n k
    fine (Read o) h r = r o (contains-first o [])
    fine (Coord part) h r = plain_coordinate texts t origin part
    fine (Apply' comp op shape args) h r = all-fine args h r
    fine (If' shape args) h r = all-fine args h r
    fine (Order' shape args) h r = all-fine args h r

    all-fine : {m : _} (es : Row_of-FlatExpr m) → HaveConstants es → ReadsStand (reads_of_all es) → AllFine texts patterns number R family t (plain_tree texts t) node_of origin n values B start es
    all-fine end_of-FlatExpr h r = tt
    all-fine (more_of-FlatExpr e es) h r = (fine e h.0 (λ o m. r o (Contains-append_left (reads e) (reads_of_all es) o m)), all-fine es h.1 (λ o m. r o (Contains-append_right (reads e) (reads_of_all es) o m)))
