-- What the text says of kinds and types, and the lists that have it.
use Rattle.std.specs.Prelude.{Contains, IsTrue, ℤ, flat_map, map}
use Rattle.std.proofs.Common.{◌≡◌, ℕ, Bool, true, false, if◌then◌else◌, inl, inr, List, [], ◌∷◌, Option, Some, None, refl, sym, ap, subst, ◌∙◌}
use Rattle.std.proofs.lemmas.Bool.{both_ways, false_from_ne_true}
use Rattle.std.proofs.lemmas.Option.{none-some}
use Rattle.std.proofs.lemmas.List.Elements.{Contains-append_left, Contains-append_right, Contains-append_cases}
use Rattle.lido_base.proofs.Lists.{contains-nil, contains-cons, contains-here, contains-map, map-contains, contains-flat, flat-contains}
use Rattle.lido_base.proofs.TreeLemmas.{contains-test, test-contains}
use Rattle.lido_base.specs.Tree.{contains}
use Rattle.lido_base.specs.declared.kinds.Kind.{Kind}
use Rattle.lido_syntax.specs.declared.spec.Spec.{Spec}
use Rattle.lido_syntax.specs.declared.spec.Name.{Name}
use Rattle.lido_syntax.specs.declared.spec.Decl.{Decl}
use Rattle.lido_syntax.specs.declared.spec.Comp.{Comp}
use Rattle.lido_syntax.specs.declared.spec.RuleItem.{RuleItem}
use Rattle.lido_syntax.specs.declared.spec.SymbolItem.{SymbolItem}
use Rattle.lido_syntax.specs.declared.spec.Target.{Target}
use Rattle.lido_syntax.specs.declared.spec.Target.TheVariants as target
use Rattle.lido_syntax.specs.declared.spec.Place.{Place}
use Rattle.lido_syntax.specs.declared.spec.Place.TheVariants as place
use Rattle.lido_syntax.specs.declared.spec.Expr.{Expr, Int, Str, Bool as Truth, Terminal, Read, Including, Constituents, Call'}
use Rattle.lido_syntax.specs.Attributes.{uses, possible, IsOnSide, InBody, IsDeclared}
use Rattle.lido_syntax.specs.Parts.{leaves_of}
use Rattle.lido_syntax.specs.Production.{name_of}
use Rattle.lido_syntax.specs.Sets.{names_of}
use Rattle.lido_syntax.specs.Symbols.{IsChain}
use Rattle.kind_clashes.specs.declared.names.Names.{Names}
use Rattle.kind_clashes.specs.Names.{has, IsSetOf}
use Rattle.kind_clashes.proofs.UsesLemmas.{IsUsed, by_target, by_leaf, by_read, by_pair, to-used, of-used}
use Rattle.symbol_attributes.proofs.SideLemmas.{side-is, is-side}
use Rattle.symbol_attributes.specs.Inheritance.{number}
use Rattle.symbol_attributes.specs.Said.{side_of, kind_at}
use Rattle.clash_pairs.specs.declared.items.KindFact.{KindFact}
use Rattle.clash_pairs.specs.declared.items.TypeFact.{TypeFact}
use Rattle.clash_pairs.specs.Facts.{
  kind_on,
  kind_if_any,
  declared_kinds,
  type_on,
  declared_types,
  types_of_items,
  kind_unless_chain,
  kinds_in_leaf,
  kinds_in_target,
  kinds_in_comp,
  kinds_of_item,
  kinds_by_place,
  kinds_by_target,
  kinds_of_rule,
  kinds_of_text,
}

-- what a SYMBOL item is about
own-test : (item : SymbolItem) (y : Name) → Contains item.names y → IsTrue (contains (name_of y) (names_of item))
own-test item y m = test-contains (name_of y) (names_of item) (map-contains name_of item.names y m)

test-own : (item : SymbolItem) (s : ℕ) → IsTrue (contains s (names_of item)) → (y : Name) × Contains item.names y × (name_of y ≡ s)
test-own item s h = contains-map name_of item.names s (contains-test s (names_of item) h)

module _ (spec : Spec) where
  -- of the symbol itself the text says at this place that the attribute has the kind
  pub data SaidOn (x a : ℕ) (kind : Kind) (at : ℕ) : Type 0 where
    by_declaration : (d : Decl) → IsDeclared spec x a d → d.kind ≡ Some kind → at ≡ d.attr.at → SaidOn x a kind at
    by_side : (r : RuleItem) (c : Comp) (y : Name) (i : Option ℤ) (b : Name) → Contains spec.rules r → Contains r.body c → c.target ≡ target.Attr (place.Named y i) b → IsOnSide kind (possible r y i)
        → name_of y ≡ x → name_of b ≡ a → ¬ IsChain spec a → at ≡ b.at → SaidOn x a kind at
    by_own : (c : Comp) (p : Place) (b : Name) → kind_at p ≡ Some kind → InBody spec x c → Contains (uses c) (p, b) → name_of b ≡ a → ¬ IsChain spec a → at ≡ b.at → SaidOn x a kind at

module _ (spec : Spec) (names : List ℕ) where
  -- The fact says it of a symbol with its number.
  pub record IsFactOn (f : KindFact) : Type 0 where
    pub symbol : ℕ
    pub its : number names symbol ≡ f.symbol
    pub said : SaidOn spec symbol (name_of f.said.attr) f.said.kind f.said.attr.at

  pub record HasFactOn (facts : List KindFact) (x a : ℕ) (kind : Kind) (at : ℕ) : Type 0 where
    pub fact : KindFact
    pub among : Contains facts fact
    pub its : fact.symbol ≡ number names x
    pub of : name_of fact.said.attr ≡ a
    pub its_kind : fact.said.kind ≡ kind
    pub place : at ≡ fact.said.attr.at

  any-to : (a : Name) (kind : Option Kind) (own : List Name) (f : KindFact) → Contains (kind_if_any names a kind own) f
      → (k : Kind) × (y : Name) × (kind ≡ Some k) × Contains own y × (kind_on names a k y ≡ f)
  any-to a None own f m = absurd (contains-nil f m)
  any-to a (Some k) own f m = let (y, my, e) = contains-map (kind_on names a k) own f m in (k, y, refl, my, e)

  any-from : (a : Name) (kind : Option Kind) (own : List Name) (k : Kind) (y : Name) → kind ≡ Some k → Contains own y → Contains (kind_if_any names a kind own) (kind_on names a k y)
  any-from a kind own k y e m = subst (λ o. Contains (kind_if_any names a o own) (kind_on names a k y)) (sym e) (map-contains (kind_on names a k) own y m)

  -- a fact, by its parts
  as-fact : (a : Name) (k : Kind) (y : Name) (f : KindFact) → kind_on names a k y ≡ f → SaidOn spec (name_of y) (name_of a) k a.at → IsFactOn f
  as-fact a k y f e said = subst IsFactOn e (record { symbol = name_of y; its = refl; said = said })

  decls-to : (item : SymbolItem) → Contains spec.symbols item → (f : KindFact) → Contains (declared_kinds names item.names item.decls) f → IsFactOn f
  decls-to item mi f m =
      let (d, md, n) = contains-flat (λ (d : Decl). kind_if_any names d.attr d.kind item.names) item.decls f m in
      let (k, y, ek, my, e) = any-to d.attr d.kind item.names f n in
      as-fact d.attr k y f e (by_declaration d (item, mi, own-test item y my, md, refl) ek refl)

  module _ (chains : Names) (are : IsSetOf (IsChain spec) chains) where
    unless-to : (a : Name) (kind : Option Kind) (own : List Name) (f : KindFact) → Contains (kind_unless_chain names chains a kind own) f → ¬ IsChain spec (name_of a) × Contains (kind_if_any names a kind own) f
    unless-to a kind own f m = by (has chains (name_of a)) refl m
      where
        by : (b : Bool) → has chains (name_of a) ≡ b → Contains (if b then [] else kind_if_any names a kind own) f → ¬ IsChain spec (name_of a) × Contains (kind_if_any names a kind own) f
        by true e m = absurd (contains-nil f m)
        by false e m = ((λ h. both_ways _ e (are.all (name_of a) h)), m)

    unless-from : (a : Name) (kind : Option Kind) (own : List Name) (f : KindFact) → ¬ IsChain spec (name_of a) → Contains (kind_if_any names a kind own) f → Contains (kind_unless_chain names chains a kind own) f
    unless-from a kind own f free m = subst (λ (b : Bool). Contains (if b then [] else kind_if_any names a kind own) f) (sym (false_from_ne_true (has chains (name_of a)) (λ h. free (are.only (name_of a) h)))) m

    -- of symbols' bodies
    own-to : (item : SymbolItem) (c : Comp) (p : Place) (a : Name) (f : KindFact) → Contains spec.symbols item → Contains item.body c → Contains (uses c) (p, a)
        → Contains (kind_unless_chain names chains a (kind_at p) item.names) f → IsFactOn f
    own-to item c p a f mi mc u m =
        let (free, n) = unless-to a (kind_at p) item.names f m in
        let (k, y, ek, my, e) = any-to a (kind_at p) item.names f n in
        as-fact a k y f e (by_own c p a ek (item, mi, own-test item y my, mc) u refl free refl)

    leaf-to : (item : SymbolItem) (c : Comp) (e : Expr) (f : KindFact) → Contains spec.symbols item → Contains item.body c → Contains (leaves_of c) e → Contains (kinds_in_leaf names chains item.names e) f → IsFactOn f
    leaf-to item c (Read first p a) f mi mc ml m = own-to item c p a f mi mc (of-used c p a (by_leaf (Read first p a) ml (by_read first refl))) m
    leaf-to item c (Int q z) f mi mc ml m = absurd (contains-nil f m)
    leaf-to item c (Str q s) f mi mc ml m = absurd (contains-nil f m)
    leaf-to item c (Truth q b) f mi mc ml m = absurd (contains-nil f m)
    leaf-to item c (Terminal x i) f mi mc ml m = absurd (contains-nil f m)
    leaf-to item c (Including q ps) f mi mc ml m = absurd (contains-nil f m)
    leaf-to item c (Constituents k) f mi mc ml m = absurd (contains-nil f m)
    leaf-to item c (Call' g shape args) f mi mc ml m = absurd (contains-nil f m)

    target-to : (item : SymbolItem) (c : Comp) (t : Target) (f : KindFact) → Contains spec.symbols item → Contains item.body c → c.target ≡ t → Contains (kinds_in_target names chains item.names t) f → IsFactOn f
    target-to item c (target.Attr p a) f mi mc e m = own-to item c p a f mi mc (of-used c p a (by_target e)) m
    target-to item c (target.Start a) f mi mc e m = absurd (contains-nil f m)
    target-to item c target.Out f mi mc e m = absurd (contains-nil f m)
    target-to item c (target.Message s o) f mi mc e m = absurd (contains-nil f m)

    comp-to : (item : SymbolItem) (c : Comp) (f : KindFact) → Contains spec.symbols item → Contains item.body c → Contains (kinds_in_comp names chains item.names c) f → IsFactOn f
    comp-to item c f mi mc m = elim (Contains-append_cases (kinds_in_target names chains item.names c.target) (flat_map (kinds_in_leaf names chains item.names) (leaves_of c)) f m) [
      | inl t ↦ target-to item c c.target f mi mc refl t
      | inr l ↦ (let (e, me, n) = contains-flat (kinds_in_leaf names chains item.names) (leaves_of c) f l in leaf-to item c e f mi mc me n)
    ]

    item-to : (item : SymbolItem) (f : KindFact) → Contains spec.symbols item → Contains (kinds_of_item names chains item) f → IsFactOn f
    item-to item f mi m = elim (Contains-append_cases (declared_kinds names item.names item.decls) (flat_map (kinds_in_comp names chains item.names) item.body) f m) [
      | inl d ↦ decls-to item mi f d
      | inr b ↦ (let (c, mc, n) = contains-flat (kinds_in_comp names chains item.names) item.body f b in comp-to item c f mi mc n)
    ]

    -- of rules
    place-to : (r : RuleItem) (c : Comp) (p : Place) (a : Name) (f : KindFact) → Contains spec.rules r → Contains r.body c → c.target ≡ target.Attr p a → Contains (kinds_by_place names chains r p a) f → IsFactOn f
    place-to r c (place.Named x i) a f mr mc e m =
        let (free, n) = unless-to a (side_of (possible r x i)) (x ∷ []) f m in
        let (k, y, ek, my, ef) = any-to a (side_of (possible r x i)) (x ∷ []) f n in
        let same : x ≡ y = elim (contains-cons x y [] my) [ inl q ↦ q | inr q ↦ absurd (contains-nil y q) ] in
        as-fact a k y f ef (by_side r c x i a mr mc e (side-is (possible r x i) k ek) (ap name_of same) refl free refl)
    place-to r c place.Synt a f mr mc e m = absurd (contains-nil f m)
    place-to r c place.Inh a f mr mc e m = absurd (contains-nil f m)
    place-to r c place.This a f mr mc e m = absurd (contains-nil f m)
    place-to r c place.Tail a f mr mc e m = absurd (contains-nil f m)

    rule-target : (r : RuleItem) (c : Comp) (t : Target) (f : KindFact) → Contains spec.rules r → Contains r.body c → c.target ≡ t → Contains (kinds_by_target names chains r t) f → IsFactOn f
    rule-target r c (target.Attr p a) f mr mc e m = place-to r c p a f mr mc e m
    rule-target r c (target.Start a) f mr mc e m = absurd (contains-nil f m)
    rule-target r c target.Out f mr mc e m = absurd (contains-nil f m)
    rule-target r c (target.Message s o) f mr mc e m = absurd (contains-nil f m)

    pub facts-to : (f : KindFact) → Contains (kinds_of_text names chains spec) f → IsFactOn f
    facts-to f m = elim (Contains-append_cases (flat_map (kinds_of_rule names chains) spec.rules) (flat_map (kinds_of_item names chains) spec.symbols) f m) [
      | inl k ↦ (let (r, mr, n) = contains-flat (kinds_of_rule names chains) spec.rules f k in
          let (c, mc, n) = contains-flat (λ (c : Comp). kinds_by_target names chains r c.target) r.body f n in
          rule-target r c c.target f mr mc refl n)
      | inr k ↦ (let (item, mi, n) = contains-flat (kinds_of_item names chains) spec.symbols f k in item-to item f mi n)
    ]

    -- and back
    in-rules : (f : KindFact) (r : RuleItem) (c : Comp) → Contains spec.rules r → Contains r.body c → Contains (kinds_by_target names chains r c.target) f → Contains (kinds_of_text names chains spec) f
    in-rules f r c mr mc m = Contains-append_left (flat_map (kinds_of_rule names chains) spec.rules) (flat_map (kinds_of_item names chains) spec.symbols) f
        (flat-contains (kinds_of_rule names chains) spec.rules r f mr (flat-contains (λ (c : Comp). kinds_by_target names chains r c.target) r.body c f mc m))

    in-items : (f : KindFact) (item : SymbolItem) → Contains spec.symbols item → Contains (kinds_of_item names chains item) f → Contains (kinds_of_text names chains spec) f
    in-items f item mi m = Contains-append_right (flat_map (kinds_of_rule names chains) spec.rules) (flat_map (kinds_of_item names chains) spec.symbols) f
        (flat-contains (kinds_of_item names chains) spec.symbols item f mi m)

    in-comp : (f : KindFact) (own : List Name) (c : Comp) (p : Place) (b : Name) → IsUsed c p b → Contains (kind_unless_chain names chains b (kind_at p) own) f → (k : Kind) → kind_at p ≡ Some k
        → Contains (kinds_in_comp names chains own c) f
    in-comp f own c p b (by_target e) m k ek = Contains-append_left (kinds_in_target names chains own c.target) (flat_map (kinds_in_leaf names chains own) (leaves_of c)) f
        (subst (λ (t : Target). Contains (kinds_in_target names chains own t) f) (sym e) m)
    in-comp f own c p b (by_leaf e me (by_read first same)) m k ek = Contains-append_right (kinds_in_target names chains own c.target) (flat_map (kinds_in_leaf names chains own) (leaves_of c)) f
        (flat-contains (kinds_in_leaf names chains own) (leaves_of c) e f me (subst (λ (l : Expr). Contains (kinds_in_leaf names chains own l) f) (sym same) m))
    in-comp f own c p b (by_leaf e me (by_pair q mq ep eb)) m k ek = absurd (none-some k (ap kind_at (sym ep) ∙ ek))

    pub facts-from : (x a : ℕ) (kind : Kind) (at : ℕ) → SaidOn spec x a kind at → HasFactOn (kinds_of_text names chains spec) x a kind at
    facts-from x a kind at (by_declaration d (item, mi, named, md, e) ek spot) =
        let (y, my, ey) = test-own item x named in record {
          fact = kind_on names d.attr kind y;
          among = in-items _ item mi (Contains-append_left (declared_kinds names item.names item.decls) (flat_map (kinds_in_comp names chains item.names) item.body) _
              (flat-contains (λ (d : Decl). kind_if_any names d.attr d.kind item.names) item.decls d _ md (any-from d.attr d.kind item.names kind y ek my)));
          its = ap (number names) ey;
          of = e;
          its_kind = refl;
          place = spot;
        }
    facts-from x a kind at (by_side r c y i b mr mc et side ey eb free spot) = record {
      fact = kind_on names b kind y;
      among = in-rules _ r c mr mc (subst (λ (t : Target). Contains (kinds_by_target names chains r t) (kind_on names b kind y)) (sym et)
          (unless-from b (side_of (possible r y i)) (y ∷ []) _ (subst (λ n. ¬ IsChain spec n) (sym eb) free) (any-from b (side_of (possible r y i)) (y ∷ []) kind y (is-side (possible r y i) kind side) (contains-here y []))));
      its = ap (number names) ey;
      of = eb;
      its_kind = refl;
      place = spot;
    }
    facts-from x a kind at (by_own c p b ek (item, mi, named, mc) u eb free spot) =
        let (y, my, ey) = test-own item x named in record {
          fact = kind_on names b kind y;
          among = in-items _ item mi (Contains-append_right (declared_kinds names item.names item.decls) (flat_map (kinds_in_comp names chains item.names) item.body) _
              (flat-contains (kinds_in_comp names chains item.names) item.body c _ mc
              (in-comp _ item.names c p b (to-used c p b u) (unless-from b (kind_at p) item.names _ (subst (λ n. ¬ IsChain spec n) (sym eb) free) (any-from b (kind_at p) item.names kind y ek my)) kind ek)));
          its = ap (number names) ey;
          of = eb;
          its_kind = refl;
          place = spot;
        }

  -- The fact gives the type of a declaration on a symbol with its number.
  pub record IsTypeOn (f : TypeFact) : Type 0 where
    pub symbol : ℕ
    pub decl : Decl
    pub its : number names symbol ≡ f.symbol
    pub declared : IsDeclared spec symbol (name_of f.typed.name) decl
    pub name : decl.attr ≡ f.typed.name
    pub ty : decl.ty ≡ f.typed.ty

  pub types-to : (f : TypeFact) → Contains (types_of_items names spec.symbols) f → IsTypeOn f
  types-to f m =
      let (item, mi, n) = contains-flat (λ (item : SymbolItem). declared_types names item.names item.decls) spec.symbols f m in
      let (d, md, n) = contains-flat (λ (d : Decl). map (type_on names d) item.names) item.decls f n in
      let (y, my, e) = contains-map (type_on names d) item.names f n in
      subst IsTypeOn e (record { symbol = name_of y; decl = d; its = refl; declared = (item, mi, own-test item y my, md, refl); name = refl; ty = refl })

  pub types-from : (x a : ℕ) (d : Decl) → IsDeclared spec x a d → Contains (types_of_items names spec.symbols) (record { symbol = number names x; typed = record { name = d.attr; ty = d.ty } })
  types-from x a d (item, mi, named, md, e) =
      let (y, my, ey) = test-own item x named in
      subst (λ z. Contains (types_of_items names spec.symbols) (record { symbol = number names z; typed = record { name = d.attr; ty = d.ty } })) ey
      (flat-contains (λ (item : SymbolItem). declared_types names item.names item.decls) spec.symbols item _ mi
      (flat-contains (λ (d : Decl). map (type_on names d) item.names) item.decls d _ md (map-contains (type_on names d) item.names y my)))
