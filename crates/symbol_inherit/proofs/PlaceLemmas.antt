-- The symbols of written rules have the numbers that the tables give them.
use Rattle.std.specs.Prelude.{Bool, true, false, IsTrue, MatchBool, filter_map, flat_map, slice_get, Contains}
use Rattle.std.specs.List.{AllZip}
use Rattle.std.proofs.Common.{◌≡◌, ℕ, zero, suc, ◌+◌, arith, List, [], ◌∷◌, ◌++◌, length, map, Some, refl, sym, ap, ◌∙◌, subst, eqb-true, add-one}
use Rattle.std.proofs.lemmas.Option.{none-some, same_Some, slice_get_within}
use Rattle.std.proofs.lemmas.List.{length-map}
use Rattle.std.proofs.lemmas.List.Elements.{Contains-append_left}
use Rattle.lido_base.specs.Environment.{Environment}
use Rattle.lido_base.specs.declared.ids.SymId.{SymId}
use Rattle.lido_base.proofs.Lists.{contains-here, contains-later, contains-map, map-contains, flat-contains, place-contains}
use Rattle.lido_base.specs.Tree.{contains}
use Rattle.lido_base.proofs.TreeLemmas.{test-contains}
use Rattle.flat_grammar.specs.declared.flat.Shape.{Shape}
use Rattle.lido_syntax.specs.declared.spec.RuleItem.{RuleItem}
use Rattle.lido_syntax.specs.declared.spec.Typed1.{Typed1}
use Rattle.lido_syntax.specs.declared.spec.Element.{Element}
use Rattle.lido_syntax.specs.declared.spec.Element.TheVariants.{Symbol, Literal}
use Rattle.lido_syntax.specs.Production.{name_of, left_of, right_of, symbol_of, symbols_of, CanStandAt}
use Rattle.lido_symbols.specs.Numbers.{enumerated}
use Rattle.lido_symbols.specs.Uses.{element_name, production_names, symbols_of_rule, symbols_of_item, symbols_of_computation, is_coordinate_of_rule, with_place}
use Rattle.rule_tables.specs.declared.table.Tables.{Tables}
use Rattle.rule_tables.specs.PlainRules.{Whole, number, written_rule, cell_rules, plain_rules, IsShapeOf}
use Rattle.rule_tables.specs.Forced.{IsWrittenAt}
use Rattle.rule_tables.specs.TablesOf.{named_symbols, AreTablesOf, IsPlainOf}
use Rattle.rule_tables.proofs.SlotLemmas.{number-at_place, enumerated-at, front-at}
use Rattle.symbol_inherit.proofs.HeirLemmas.{mapped-place}
use Rattle.symbol_inherit.specs.Places.{IsPlaceIn, AreRightPlaces, left_id, right_ids}

pub mapped-back : {X Y : Type 0} (f : X → Y) (xs : List X) (i : ℕ) (y : Y) → slice_get (map f xs) i ≡ Some y → (x : X) × (slice_get xs i ≡ Some x) × (f x ≡ y)
mapped-back f [] i y e = absurd (none-some y e)
mapped-back f (x ∷ xs) zero y e = (x, refl, same_Some (f x) y e)
mapped-back f (x ∷ xs) (suc i) y e = mapped-back f xs i y e

pub zip-there : {A B : Type 0} (R : A → B → Type 0) (xs : List A) (ys : List B) (k : ℕ) (x : A) → AllZip R xs ys → slice_get xs k ≡ Some x → (y : B) × (slice_get ys k ≡ Some y) × R x y
zip-there R [] ys k x zip e = absurd (none-some x e)
zip-there R (x' ∷ xs) [] k x zip e = absurd zip
zip-there R (x' ∷ xs) (y ∷ ys) zero x zip e = (y, refl, subst (λ z. R z y) (same_Some x' x e) zip.0)
zip-there R (x' ∷ xs) (y ∷ ys) (suc k) x zip e = zip-there R xs ys k x zip.1 e

names-right : (es : List Element) → map name_of (filter_map element_name es) ≡ filter_map symbol_of es
names-right [] = refl
names-right (Symbol n ∷ es) = ap (λ l. name_of n ∷ l) (names-right es)
names-right (Literal s ∷ es) = names-right es

-- what is written at an occurrence can stand there
pub written-stands : (r : RuleItem) (o s : ℕ) → IsWrittenAt r Whole o s → CanStandAt r o s
written-stands r zero s h = sym h
written-stands r (suc k) s h = by r.list
  where
    by : (b : Bool) → MatchBool b (IsTrue (contains s (right_of r))) (slice_get (right_of r) k ≡ Some s)
    by true = test-contains s (right_of r) (place-contains (right_of r) k s h)
    by false = h

module _ (t : Tables) (env : Environment) (is : AreTablesOf env t) where
  abbrev symbols : List ℕ
  symbols = named_symbols t

  named : (r : RuleItem) → Contains t.spec.rules r → (x : ℕ) → Contains (symbols_of r) x → Contains symbols x
  named r among x m =
      let n = contains-map name_of (production_names r) x (subst (λ l. Contains (left_of r ∷ l) x) (sym (names-right r.right)) m) in
      let body = flat_map (symbols_of_computation (is_coordinate_of_rule env r)) r.body in
      let items = flat_map (symbols_of_item t.spec env) t.spec.symbols in
      let terms = map (λ (y : Typed1). y.name) t.spec.terms in
      let in_rule = Contains-append_left (production_names r) body n.0 n.1 in
      let rules = flat_map (symbols_of_rule t.spec env) t.spec.rules in
      let in_rules = Contains-append_left (rules ++ items) terms n.0 (Contains-append_left rules items n.0 (flat-contains (symbols_of_rule t.spec env) t.spec.rules r n.0 among in_rule)) in
      let naming = map-contains with_place (rules ++ items ++ terms) n.0 in_rules in
      let key = is.numbers.all n.0.at (name_of n.0) naming in
      subst (λ z. Contains symbols z) (sym (eqb-true (name_of n.0) key.0 key.2) ∙ n.2) key.1

  -- a symbol of a production has its number
  pub symbol-number : (r : RuleItem) → Contains t.spec.rules r → (s : ℕ) → Contains (symbols_of r) s → slice_get symbols (number t.spec symbols s) ≡ Some s
  symbol-number r among s m = number-at_place s symbols (named r among s m)

  module _ (i : ℕ) (r : RuleItem) (of : slice_get t.spec.rules i ≡ Some r) where
    among : Contains t.spec.rules r
    among = place-contains t.spec.rules i r of

    at-number : slice_get (enumerated 0 t.spec.rules) i ≡ Some (let p : ℕ × RuleItem = (i, r) in p)
    at-number =
        let z : 0 + i ≡ i = omega arith in
        enumerated-at 0 i r t.spec.rules of ∙ ap (λ n. Some (let p : ℕ × RuleItem = (n, r) in p)) z

    pub plain-at : slice_get (plain_rules t.spec symbols) i ≡ Some (written_rule t.spec symbols (i, r))
    plain-at = front-at (map (written_rule t.spec symbols) (enumerated 0 t.spec.rules)) (flat_map (cell_rules t.spec symbols) (enumerated 0 t.spec.rules)) i (written_rule t.spec symbols (i, r))
        (mapped-place (written_rule t.spec symbols) (enumerated 0 t.spec.rules) i (i, r) at-number)

    -- the left side
    pub left-number : (left_id (slice_get t.plain i)).0 ≡ number t.spec symbols (left_of r)
    left-number =
        let (flat, e, h) = zip-there (IsPlainOf t.spec env symbols) (plain_rules t.spec symbols) t.plain i (written_rule t.spec symbols (i, r)) is.plain plain-at in
        ap (λ o. (left_id o).0) e ∙ h.left

    left-named : slice_get symbols (left_id (slice_get t.plain i)).0 ≡ Some (left_of r)
    left-named = ap (slice_get symbols) left-number ∙ symbol-number r among (left_of r) (contains-here (left_of r) (right_of r))

    pub left-place : IsPlaceIn t r i 0 (left_of r) (left_id (slice_get t.plain i)).0
    left-place = record { of_rule = of; written = refl; stands = refl; number = left-named }

    -- the right side
    right-shape : (shape : Shape) × (slice_get t.shapes i ≡ Some shape) × IsShapeOf t.spec symbols (i, r) shape
    right-shape = zip-there (IsShapeOf t.spec symbols) (enumerated 0 t.spec.rules) t.shapes i (i, r) is.shapes at-number

    pub right-numbers : map (λ (s : SymId). s.0) (right_ids (slice_get t.shapes i)) ≡ map (number t.spec symbols) (right_of r)
    right-numbers = let (shape, e, h) = right-shape in ap (λ o. map (λ (s : SymId). s.0) (right_ids o)) e ∙ h.right

    pub right-at : (k : ℕ) (x : SymId) → slice_get (right_ids (slice_get t.shapes i)) k ≡ Some x
        → (s : ℕ) × (slice_get (right_of r) k ≡ Some s) × (number t.spec symbols s ≡ x.0) × (slice_get symbols x.0 ≡ Some s)
    right-at k x e =
        let (s, f, n) = mapped-back (number t.spec symbols) (right_of r) k x.0
        (ap (λ l. slice_get l k) (sym right-numbers) ∙ mapped-place (λ (s : SymId). s.0) (right_ids (slice_get t.shapes i)) k x e) in
        (s, f, n, ap (slice_get symbols) (sym n) ∙ symbol-number r among s (contains-later (left_of r) s (right_of r) (place-contains (right_of r) k s f)))

    pub right-long : length (right_ids (slice_get t.shapes i)) ≡ length (right_of r)
    right-long = sym (length-map (right_ids (slice_get t.shapes i)) (λ (s : SymId). s.0)) ∙ ap (λ (l : List ℕ). length l) right-numbers ∙ length-map (right_of r) (number t.spec symbols)

    pub right-places : AreRightPlaces t r i (right_ids (slice_get t.shapes i))
    right-places = record {
      of_rule = of;
      each = λ k x e. let (s, f, n, g) = right-at k x e in
          let written : IsWrittenAt r Whole (k + 1) s = subst (λ o. IsWrittenAt r Whole o s) (sym (add-one k)) f in
          (s, record { of_rule = of; written = written; stands = written-stands r (k + 1) s written; number = g });
      all = λ k s e. let l = right-long in let w = slice_get_within (right_of r) k s e in omega arith;
    }
