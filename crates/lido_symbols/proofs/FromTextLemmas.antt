-- The places of a specification that was read from a text tell the names that stand as symbols and as attributes.
use Rattle.std.specs.Prelude.{Contains, map, flat_map, not, ℤ, Option}
use Rattle.std.proofs.Common.{◌≡◌, inl, inr, Bool, true, false, List, [], ◌∷◌, ◌++◌, subst, if◌then◌else◌}
use Rattle.std.proofs.lemmas.List.Elements.{Contains-append_left, Contains-append_right, Contains-append_cases}
use Rattle.lido_base.proofs.Lists.{contains-nil, contains-map, map-contains, contains-flat, flat-contains}
use Rattle.lido_base.specs.Environment.{Environment}
use Rattle.lido_syntax.specs.declared.spec.Spec.{Spec}
use Rattle.lido_syntax.specs.declared.spec.Name.{Name}
use Rattle.lido_syntax.specs.declared.spec.Comp.{Comp}
use Rattle.lido_syntax.specs.declared.spec.Typed1.{Typed1}
use Rattle.lido_syntax.specs.declared.spec.RuleItem.{RuleItem}
use Rattle.lido_syntax.specs.declared.spec.SymbolItem.{SymbolItem}
use Rattle.lido_syntax.specs.declared.spec.Place.TheVariants as place
use Rattle.lido_syntax.specs.declared.spec.Expr.{Expr, Int, Str, Bool as Truth, Terminal, Read, Including, Constituents, Call'}
use Rattle.lido_syntax.specs.Parts.{leaves_of}
use Rattle.lido_symbols.specs.Uses.{
  symbols_in,
  symbols_of_target,
  symbols_of_computation,
  symbols_of_rule,
  symbols_of_item,
  symbol_uses,
  production_names,
  is_coordinate_of_rule,
  is_coordinate_of_symbol,
  declared_names,
  computations,
  attributes_of_target,
  attributes_in,
  attribute_uses,
  with_place,
}
use Rattle.lido_symbols.specs.FromText.{IsFromText, all_names, names_of_rule, names_of_item}
use Rattle.lido_symbols.proofs.NumbersLemmas.{TellNames}

abbrev never : Name → Option ℤ → Bool
never x i = false

in_leaf : (t : Name → Option ℤ → Bool) (e : Expr) (x : Name) → Contains (symbols_in t e) x → Contains (symbols_in never e) x
in_leaf t (Terminal y i) x m = by (t y i) m
  where
    by : (b : Bool) → Contains (if not b then y ∷ [] else []) x → Contains (y ∷ []) x
    by true m = absurd (contains-nil x m)
    by false m = m
in_leaf t (Read at (place.Named y i) a) x m = m
in_leaf t (Read at place.Synt a) x m = m
in_leaf t (Read at place.Inh a) x m = m
in_leaf t (Read at place.This a) x m = m
in_leaf t (Read at place.Tail a) x m = m
in_leaf t (Including at pairs) x m = m
in_leaf t (Constituents k) x m = m
in_leaf t (Int at z) x m = m
in_leaf t (Str at s) x m = m
in_leaf t (Truth at b) x m = m
in_leaf t (Call' f shape args) x m = m

-- elements of lists that are joined
both : {X : Type 0} (ws bs cs ds : List X) (x : X) → (Contains ws x → Contains cs x) → (Contains bs x → Contains ds x) → Contains (ws ++ bs) x → Contains (cs ++ ds) x
both ws bs cs ds x f g m = elim (Contains-append_cases ws bs x m) [ inl k ↦ Contains-append_left cs ds x (f k) | inr k ↦ Contains-append_right cs ds x (g k) ]

among : {X Y : Type 0} (f g : X → List Y) (xs : List X) (y : Y) → ((x : X) → Contains (f x) y → Contains (g x) y) → Contains (flat_map f xs) y → Contains (flat_map g xs) y
among f g xs y step m = let (x, there, k) = contains-flat f xs y m in flat-contains g xs x y there (step x k)

in_computation : (t : Name → Option ℤ → Bool) (c : Comp) (x : Name) → Contains (symbols_of_computation t c) x → Contains (symbols_of_computation never c) x
in_computation t c x = both (symbols_of_target c.target) (flat_map (symbols_in t) (leaves_of c)) (symbols_of_target c.target) (flat_map (symbols_in never) (leaves_of c)) x
    (λ m. m) (among (symbols_in t) (symbols_in never) (leaves_of c) x (λ e. in_leaf t e x))

module _ (spec : Spec) (env : Environment) where
  in_rule : (r : RuleItem) (x : Name) → Contains (symbols_of_rule spec env r) x → Contains (names_of_rule r) x
  in_rule r x = both (production_names r) (flat_map (symbols_of_computation (is_coordinate_of_rule env r)) r.body) (production_names r) (flat_map (symbols_of_computation never) r.body) x
      (λ m. m) (among (symbols_of_computation (is_coordinate_of_rule env r)) (symbols_of_computation never) r.body x (λ c. in_computation (is_coordinate_of_rule env r) c x))

  in_item : (item : SymbolItem) (x : Name) → Contains (symbols_of_item spec env item) x → Contains (names_of_item item) x
  in_item item x = both (item.names ++ item.inherits) (flat_map (symbols_of_computation (is_coordinate_of_symbol env)) item.body) (item.names ++ item.inherits) (flat_map (symbols_of_computation never) item.body) x
      (λ m. m) (among (symbols_of_computation (is_coordinate_of_symbol env)) (symbols_of_computation never) item.body x (λ c. in_computation (is_coordinate_of_symbol env) c x))

  abbrev symbol_list : List Name
  symbol_list = flat_map (symbols_of_rule spec env) spec.rules ++ flat_map (symbols_of_item spec env) spec.symbols ++ map (λ (x : Typed1). x.name) spec.terms

  abbrev attribute_list : List Name
  attribute_list = declared_names spec ++ flat_map (λ (c : Comp). attributes_of_target c.target ++ flat_map attributes_in (leaves_of c)) (computations spec)

  abbrev front : List Name
  front = flat_map names_of_rule spec.rules ++ flat_map names_of_item spec.symbols ++ map (λ (x : Typed1). x.name) spec.terms

  abbrev chains : List Name
  chains = map (λ (x : Typed1). x.name) spec.chains

  abbrev used : List Name
  used = flat_map (λ (c : Comp). attributes_of_target c.target ++ flat_map attributes_in (leaves_of c)) (computations spec)

  in_front : (x : Name) → Contains front x → Contains (all_names spec) x
  in_front x m = Contains-append_left ((front ++ declared_names spec) ++ used) chains x (Contains-append_left (front ++ declared_names spec) used x (Contains-append_left front (declared_names spec) x m))

  symbol_named : (x : Name) → Contains symbol_list x → Contains (all_names spec) x
  symbol_named x m = in_front x (both (flat_map (symbols_of_rule spec env) spec.rules ++ flat_map (symbols_of_item spec env) spec.symbols) (map (λ (y : Typed1). y.name) spec.terms)
      (flat_map names_of_rule spec.rules ++ flat_map names_of_item spec.symbols) (map (λ (y : Typed1). y.name) spec.terms) x
      (both (flat_map (symbols_of_rule spec env) spec.rules) (flat_map (symbols_of_item spec env) spec.symbols) (flat_map names_of_rule spec.rules) (flat_map names_of_item spec.symbols) x
      (among (symbols_of_rule spec env) names_of_rule spec.rules x (λ r. in_rule r x)) (among (symbols_of_item spec env) names_of_item spec.symbols x (λ item. in_item item x)))
      (λ k. k) m)

  attribute_named : (x : Name) → Contains attribute_list x → Contains (all_names spec) x
  attribute_named x m = Contains-append_left ((front ++ declared_names spec) ++ used) chains x
      (both (declared_names spec) used (front ++ declared_names spec) used x (Contains-append_right front (declared_names spec) x) (λ k. k) m)

  same_name : (x y : Name) → with_place x ≡ with_place y → x ≡ y
  same_name x y p = λ i. record { at = (p i).0; id = record { 0 = (p i).1 } }

  back : (names named : List Name) → map with_place names ≡ map with_place named → (x : Name) → Contains names x → Contains named x
  back names named e x m = let (y, there, p) = contains-map with_place named (with_place x) (subst (λ l. Contains l (with_place x)) e (map-contains with_place names x m)) in
      subst (Contains named) (same_name y x p) there

  module _ (from : IsFromText spec) where
    pub symbols_told : (names : List Name) → map with_place names ≡ symbol_uses spec env → TellNames names
    symbols_told names e x y m k at = from.one_name x y (symbol_named x (back names symbol_list e x m)) (symbol_named y (back names symbol_list e y k)) at

    pub attributes_told : (names : List Name) → map with_place names ≡ attribute_uses spec → TellNames names
    attributes_told names e x y m k at = from.one_name x y (attribute_named x (back names attribute_list e x m)) (attribute_named y (back names attribute_list e y k)) at
