-- More texts change no symbol of a specification whose names are ids of those that are there.
use Rattle.std.specs.Prelude.{ℤ, Contains, map, flat_map, filter_map, not, is_some, if◌then◌else◌}
use Rattle.std.proofs.Common.{◌≡◌, ℕ, ◌<◌, inl, inr, Bool, false, List, [], ◌∷◌, ◌++◌, length, Option, Some, None, refl, ap, sym, subst, ◌∙◌, arith}
use Rattle.std.proofs.lemmas.List.Elements.{Contains-append_left, Contains-append_right}
use Rattle.lido_base.specs.Environment.{Environment}
use Rattle.lido_base.specs.Texts.{Gains}
use Rattle.lido_base.specs.Tree.{contains}
use Rattle.lido_base.proofs.Lists.{contains-nil, contains-cons, contains-here, contains-later, flat-contains, place-below}
use Rattle.lido_syntax.specs.declared.spec.Spec.{Spec}
use Rattle.lido_syntax.specs.declared.spec.Name.{Name}
use Rattle.lido_syntax.specs.declared.spec.Comp.{Comp}
use Rattle.lido_syntax.specs.declared.spec.Typed1.{Typed1}
use Rattle.lido_syntax.specs.declared.spec.RuleItem.{RuleItem}
use Rattle.lido_syntax.specs.declared.spec.SymbolItem.{SymbolItem}
use Rattle.lido_syntax.specs.declared.spec.Element.{Element}
use Rattle.lido_syntax.specs.declared.spec.Element.TheVariants.{Symbol, Literal}
use Rattle.lido_syntax.specs.declared.spec.Place.TheVariants as place
use Rattle.lido_syntax.specs.declared.spec.Expr.{Expr, Int, Str, Bool as Truth, Terminal, Read, Including, Constituents, Call'}
use Rattle.lido_syntax.specs.Production.{name_of, symbols_of, symbol_of}
use Rattle.lido_syntax.specs.Parts.{leaves_of}
use Rattle.lido_syntax.specs.Coordinates.{part_named}
use Rattle.lido_syntax.specs.Functions.{text_of}
use Rattle.lido_symbols.specs.FromText.{all_names, names_of_rule, names_of_item}
use Rattle.lido_symbols.specs.Uses.{computations, declared_names, attributes_of_target, attributes_in, element_name, production_names, symbols_in, symbols_of_target, symbols_of_computation, symbols_of_rule, symbols_of_item, symbol_uses, with_place, is_coordinate_of_rule, is_coordinate_of_symbol}
use Rattle.rule_tables.specs.RuleNames.{HasNames, HasIds}
use Rattle.rule_tables.proofs.LaterTexts.{later-text, no-more, no-fewer}

flat-same : {X Y : Type 0} (f g : X → List Y) (xs : List X) → ((x : X) → Contains xs x → f x ≡ g x) → flat_map f xs ≡ flat_map g xs
flat-same f g [] same = refl
flat-same f g (x ∷ xs) same =
    let first = same x (contains-here x xs) in
    let rest = flat-same f g xs (λ y m. same y (contains-later x y xs m)) in
    λ i. first i ++ rest i

-- no bare name is a coordinate
abbrev bare : Name → Option ℤ → Bool
bare x i = false

module _ (p q : Name → Option ℤ → Bool) where
  leaf-same : (e : Expr) → ((x : Name) (i : Option ℤ) → Contains (symbols_in bare e) x → p x i ≡ q x i) → symbols_in p e ≡ symbols_in q e
  leaf-same (Int at z) same = refl
  leaf-same (Str at s) same = refl
  leaf-same (Truth at b) same = refl
  leaf-same (Terminal x i) same = ap (λ b. if not b then x ∷ [] else []) (same x i (contains-here x []))
  leaf-same (Read at (place.Named x i) a) same = refl
  leaf-same (Read at place.Synt a) same = refl
  leaf-same (Read at place.Inh a) same = refl
  leaf-same (Read at place.This a) same = refl
  leaf-same (Read at place.Tail a) same = refl
  leaf-same (Including at pairs) same = refl
  leaf-same (Constituents k) same = refl
  leaf-same (Call' f shape args) same = refl

  comp-same : (c : Comp) → ((x : Name) (i : Option ℤ) → Contains (symbols_of_computation bare c) x → p x i ≡ q x i) → symbols_of_computation p c ≡ symbols_of_computation q c
  comp-same c same = ap (λ l. symbols_of_target c.target ++ l) (flat-same (symbols_in p) (symbols_in q) (leaves_of c)
      (λ e m. leaf-same e (λ x i k. same x i (Contains-append_right (symbols_of_target c.target) (flat_map (symbols_in bare) (leaves_of c)) x (flat-contains (symbols_in bare) (leaves_of c) e x m k)))))

module _ (env later : Environment) where
  abbrev IsSame : Name → Type 0
  IsSame x = text_of env (name_of x) ≡ text_of later (name_of x)

  rule-coordinate : (r : RuleItem) (x : Name) (i : Option ℤ) → IsSame x → is_coordinate_of_rule env r x i ≡ is_coordinate_of_rule later r x i
  rule-coordinate r x None e = ap (λ t. is_some (if contains (name_of x) (symbols_of r) then None else part_named t)) e
  rule-coordinate r x (Some i) e = refl

  item-coordinate : (x : Name) (i : Option ℤ) → IsSame x → is_coordinate_of_symbol env x i ≡ is_coordinate_of_symbol later x i
  item-coordinate x None e = ap (λ t. is_some (part_named t)) e
  item-coordinate x (Some i) e = refl

  module _ (spec : Spec) where
    rule-same : (r : RuleItem) → ((x : Name) → Contains (names_of_rule r) x → IsSame x) → symbols_of_rule spec env r ≡ symbols_of_rule spec later r
    rule-same r same = ap (λ l. production_names r ++ l) (flat-same (symbols_of_computation (is_coordinate_of_rule env r)) (symbols_of_computation (is_coordinate_of_rule later r)) r.body
        (λ c m. comp-same (is_coordinate_of_rule env r) (is_coordinate_of_rule later r) c (λ x i k. rule-coordinate r x i (same x
        (Contains-append_right (production_names r) (flat_map (symbols_of_computation bare) r.body) x (flat-contains (symbols_of_computation bare) r.body c x m k))))))

    item-same : (item : SymbolItem) → ((x : Name) → Contains (names_of_item item) x → IsSame x) → symbols_of_item spec env item ≡ symbols_of_item spec later item
    item-same item same = ap (λ l. item.names ++ item.inherits ++ l) (flat-same (symbols_of_computation (is_coordinate_of_symbol env)) (symbols_of_computation (is_coordinate_of_symbol later)) item.body
        (λ c m. comp-same (is_coordinate_of_symbol env) (is_coordinate_of_symbol later) c (λ x i k. item-coordinate x i (same x
        (Contains-append_right (item.names ++ item.inherits) (flat_map (symbols_of_computation bare) item.body) x (flat-contains (symbols_of_computation bare) item.body c x m k))))))

-- the names of rules and of SYMBOL items are among all names
module _ (spec : Spec) where
  abbrev of-rules : List Name
  of-rules = flat_map names_of_rule spec.rules

  abbrev of-items : List Name
  of-items = flat_map names_of_item spec.symbols

  abbrev of-terms : List Name
  of-terms = map (λ (x : Typed1). x.name) spec.terms

  abbrev of-uses : List Name
  of-uses = flat_map (λ (c : Comp). attributes_of_target c.target ++ flat_map attributes_in (leaves_of c)) (computations spec)

  abbrev of-chains : List Name
  of-chains = map (λ (x : Typed1). x.name) spec.chains

  among-all : (x : Name) → Contains (of-rules ++ of-items) x → Contains (all_names spec) x
  among-all x m = Contains-append_left (of-rules ++ of-items ++ of-terms ++ declared_names spec ++ of-uses) of-chains x
      (Contains-append_left (of-rules ++ of-items ++ of-terms ++ declared_names spec) of-uses x
      (Contains-append_left (of-rules ++ of-items ++ of-terms) (declared_names spec) x
      (Contains-append_left (of-rules ++ of-items) of-terms x m)))

  pub of-rule : (r : RuleItem) (x : Name) → Contains spec.rules r → Contains (names_of_rule r) x → Contains (all_names spec) x
  of-rule r x m k = among-all x (Contains-append_left of-rules of-items x (flat-contains names_of_rule spec.rules r x m k))

  of-item : (item : SymbolItem) (x : Name) → Contains spec.symbols item → Contains (names_of_item item) x → Contains (all_names spec) x
  of-item item x m k = among-all x (Contains-append_right of-rules of-items x (flat-contains names_of_item spec.symbols item x m k))

  pub uses-same : (env later : Environment) → ((x : Name) → Contains (all_names spec) x → text_of env (name_of x) ≡ text_of later (name_of x)) → symbol_uses spec env ≡ symbol_uses spec later
  uses-same env later same =
      let rules = flat-same (symbols_of_rule spec env) (symbols_of_rule spec later) spec.rules (λ r m. rule-same env later spec r (λ x k. same x (of-rule r x m k))) in
      let items = flat-same (symbols_of_item spec env) (symbols_of_item spec later) spec.symbols (λ item m. item-same env later spec item (λ x k. same x (of-item item x m k))) in
      λ i. map with_place (rules i ++ items i ++ of-terms)

  -- an id's text stays
  pub uses-later : (texts : List (List ℕ)) (env later : Environment) → HasIds texts spec → env.texts ≡ texts → Gains texts later.texts → symbol_uses spec env ≡ symbol_uses spec later
  uses-later texts env later ids e gains = uses-same env later (λ x m.
      let (t, at) = place-below texts x.id.0 (ids.names x m) in
      later-text texts env x.id.0 t (subst (Gains texts) (sym e) (no-more texts)) at
      ∙ sym (later-text texts later x.id.0 t gains at))

  element : (es : List Element) (s : ℕ) → Contains (filter_map symbol_of es) s → (x : Name) × Contains (filter_map element_name es) x × (name_of x ≡ s)
  element [] s m = absurd (contains-nil s m)
  element (Symbol n ∷ es) s m = elim (contains-cons (name_of n) s (filter_map symbol_of es) m) [
    | inl e ↦ (n, contains-here n (filter_map element_name es), e)
    | inr k ↦ (let (x, there, e) = element es s k in (x, contains-later n x (filter_map element_name es) there, e))
  ]
  element (Literal t ∷ es) s m = element es s m

  pub rule-names : (texts : List (List ℕ)) → HasIds texts spec → HasNames texts spec.rules
  rule-names texts ids = record {
    called = ids.rules;
    right = λ r s m k. (let (x, there, e) = element r.right s k in
        let name : Contains (names_of_rule r) x = Contains-append_left (production_names r) (flat_map (symbols_of_computation bare) r.body) x (contains-later r.left x (filter_map element_name r.right) there) in
        subst (λ n. n < length texts) e (ids.names x (of-rule r x m name)));
  }

pub names-later : (old new : List (List ℕ)) (rules : List RuleItem) → HasNames old rules → Gains old new → HasNames new rules
names-later old new rules names gains = record {
  called = λ r m. (let l = names.called r m in omega (arith, l, no-fewer old new gains));
  right = λ r s m k. (let l = names.right r s m k in omega (arith, l, no-fewer old new gains));
}
