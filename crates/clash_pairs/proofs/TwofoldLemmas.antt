-- Two kinds and two types of an attribute, from what is said on symbols.
use Rattle.std.specs.Prelude.{Contains, IsTrue, nat_eq, flat_map}
use Rattle.std.proofs.Common.{◌≡◌, ℕ, ◌≤◌, Bool, true, false, if◌then◌else◌, ◌⊎◌, inl, inr, List, [], ◌∷◌, Option, Some, None, refl, sym, ap, subst, ◌∙◌, arith, eqb-true, eq-eqb}
use Rattle.std.proofs.lemmas.Bool.{or_cases, or_left, or_right}
use Rattle.std.proofs.lemmas.Option.{none-some, same_Some}
use Rattle.std.proofs.lemmas.List.Elements.{Contains-append_left, Contains-append_right, Contains-append_cases}
use Rattle.std.specs.Prelude.{slice_get}
use Rattle.lido_base.specs.declared.kinds.Kind.{Kind}
use Rattle.lido_base.proofs.Lists.{contains-nil, contains-cons, contains-here, contains-map, map-contains, contains-flat, flat-contains}
use Rattle.lido_syntax.specs.declared.spec.Spec.{Spec}
use Rattle.lido_syntax.specs.declared.spec.Name.{Name}
use Rattle.lido_syntax.specs.declared.spec.Decl.{Decl}
use Rattle.lido_syntax.specs.declared.spec.Comp.{Comp}
use Rattle.lido_syntax.specs.declared.spec.Typed1.{Typed1}
use Rattle.lido_syntax.specs.declared.spec.Place.{Place}
use Rattle.lido_syntax.specs.declared.spec.Place.TheVariants as place
use Rattle.lido_syntax.specs.Attributes.{uses, IsDeclared, InBody, OfClass}
use Rattle.lido_syntax.specs.Production.{name_of}
use Rattle.lido_syntax.specs.Sets.{Inherits}
use Rattle.lido_syntax.specs.Symbols.{IsChain}
use Rattle.kind_clashes.specs.declared.names.Names.{Names}
use Rattle.kind_clashes.specs.KindClash as clash
use Rattle.kind_clashes.specs.KindClash.{SaysKind, IsTwofold}
use Rattle.kind_clashes.specs.Least.{IsFirst, earlier_of}
use Rattle.kind_clashes.specs.Names.{IsSetOf}
use Rattle.kind_clashes.specs.Types.{IsSecondType}
use Rattle.kind_clashes.proofs.LeastLemmas.{first-same, first-join}
use Rattle.symbol_attributes.specs.Inheritance.{number, is_heir, IsInheritance}
use Rattle.symbol_attributes.specs.declared.inheritance.Inheritance.{Inheritance}
use Rattle.symbol_attributes.specs.Said.{kind_at}
use Rattle.symbol_attributes.proofs.InheritanceLemmas.{number-there}
use Rattle.clash_pairs.specs.declared.items.KindFact.{KindFact}
use Rattle.clash_pairs.specs.declared.items.TypeFact.{TypeFact}
use Rattle.clash_pairs.specs.declared.kinds.SaidKind.{SaidKind}
use Rattle.clash_pairs.specs.declared.pairs.Facts.{Facts}
use Rattle.clash_pairs.specs.Facts.{kinds_of_text, types_of_items}
use Rattle.clash_pairs.specs.Kinds.{IsSecondKind}
use Rattle.clash_pairs.specs.Numbered.{AreAllNumbered}
use Rattle.clash_pairs.specs.Twofold.{said_if_any, attr_kinds, typed_decl, attr_types, passes, kind_if_passed, type_if_passed, kinds_on, types_on, IsTwofoldOnAny}
use Rattle.clash_pairs.proofs.NumberedLemmas.{item-numbered, heir-numbered}
use Rattle.clash_pairs.proofs.FactsLemmas.{SaidOn, by_declaration, by_side, by_own, facts-to, facts-from, types-to, types-from}

-- what stands in a list under a test
in-if : {X : Type 0} (b : Bool) (x y : X) → Contains (if b then x ∷ [] else []) y → IsTrue b × (x ≡ y)
in-if true x y m = (refl, elim (contains-cons x y [] m) [ inl e ↦ e | inr n ↦ absurd (contains-nil y n) ])
in-if false x y m = absurd (contains-nil y m)

if-in : {X : Type 0} (b : Bool) (x : X) → IsTrue b → Contains (if b then x ∷ [] else []) x
if-in true x h = contains-here x []
if-in false x h = absurd (cc)

module _ (spec : Spec) where
  -- ATTR says that attributes of this name have the kind
  pub record IsByAttr (a : ℕ) (kind : Kind) (at : ℕ) : Type 0 where
    pub decl : Decl
    pub among : Contains spec.attrs decl
    pub of : name_of decl.attr ≡ a
    pub says : decl.kind ≡ Some kind
    pub place : at ≡ decl.attr.at

  by-attr : (s a : ℕ) (kind : Kind) (at : ℕ) → IsByAttr a kind at → SaysKind spec s a kind at
  by-attr s a kind at h = clash.SaysKind.by_attr h.decl h.among h.of h.says h.place

  -- It is said in one of these lists.
  pub record IsSaidIn (said : List SaidKind) (a : ℕ) (kind : Kind) (at : ℕ) : Type 0 where
    pub item : SaidKind
    pub among : Contains said item
    pub of : name_of item.attr ≡ a
    pub says : item.kind ≡ kind
    pub place : at ≡ item.attr.at

  if-any-to : (a : Name) (kind : Option Kind) (x : SaidKind) → Contains (said_if_any a kind) x → (x.attr ≡ a) × (kind ≡ Some x.kind)
  if-any-to a None x m = absurd (contains-nil x m)
  if-any-to a (Some k) x m = elim (contains-cons (record { attr = a; kind = k }) x [] m) [
    | inl e ↦ (ap (λ (y : SaidKind). y.attr) (sym e), ap (λ (y : SaidKind). Some y.kind) e)
    | inr n ↦ absurd (contains-nil x n)
  ]

  pub attr-to : (x : SaidKind) → Contains (attr_kinds spec.attrs) x → IsByAttr (name_of x.attr) x.kind x.attr.at
  attr-to x m =
      let (d, md, n) = contains-flat (λ (d : Decl). said_if_any d.attr d.kind) spec.attrs x m in
      let (same, k) = if-any-to d.attr d.kind x n in
      record { decl = d; among = md; of = ap name_of (sym same); says = k; place = ap (λ (y : Name). y.at) same }

  pub attr-from : (a : ℕ) (kind : Kind) (at : ℕ) → IsByAttr a kind at → IsSaidIn (attr_kinds spec.attrs) a kind at
  attr-from a kind at h = record {
    item = record { attr = h.decl.attr; kind = kind };
    among = flat-contains (λ (d : Decl). said_if_any d.attr d.kind) spec.attrs h.decl _ h.among
        (subst (λ o. Contains (said_if_any h.decl.attr o) (record { attr = h.decl.attr; kind = kind })) (sym h.says) (contains-here _ []));
    of = h.of;
    says = refl;
    place = h.place;
  }

  -- the symbol itself, or a class that it inherits
  abbrev pub IsOf : ℕ → ℕ → Type 0
  IsOf s x = (s ≡ x) ⊎ Inherits spec s x

  pub of-class : (P : ℕ → Type 0) (s x : ℕ) → IsOf s x → P x → OfClass spec P s
  of-class P s x (inl e) p = inl (subst P (sym e) p)
  of-class P s x (inr i) p = inr (x, i, p)

  pub class-of : (P : ℕ → Type 0) (s : ℕ) → OfClass spec P s → (x : ℕ) × IsOf s x × P x
  class-of P s (inl p) = (s, inl refl, p)
  class-of P s (inr (x, i, p)) = (x, inr i, p)

  own-says : (s x a : ℕ) (kind : Kind) (at : ℕ) → IsOf s x → (c : Comp) (p : Place) (b : Name) → kind_at p ≡ Some kind → InBody spec x c → Contains (uses c) (p, b) → name_of b ≡ a
      → ¬ IsChain spec a → at ≡ b.at → SaysKind spec s a kind at
  own-says s x a kind at rel c place.Synt b ek body u eb free spot = clash.by_synt (sym (same_Some _ _ ek)) (of-class _ s x rel (c, b, body, u, eb, free, spot))
  own-says s x a kind at rel c place.Inh b ek body u eb free spot = clash.by_inh (sym (same_Some _ _ ek)) (of-class _ s x rel (c, b, body, u, eb, free, spot))
  own-says s x a kind at rel c (place.Named y i) b ek body u eb free spot = absurd (none-some _ ek)
  own-says s x a kind at rel c place.This b ek body u eb free spot = absurd (none-some _ ek)
  own-says s x a kind at rel c place.Tail b ek body u eb free spot = absurd (none-some _ ek)

  pub says-of : (s x a : ℕ) (kind : Kind) (at : ℕ) → IsOf s x → SaidOn spec x a kind at → SaysKind spec s a kind at
  says-of s x a kind at rel (by_declaration d h ek spot) = clash.SaysKind.declared (of-class _ s x rel (d, h, ek, spot))
  says-of s x a kind at rel (by_side r c y i b mr mc et side ey eb free spot) = clash.by_target (of-class _ s x rel (r, c, y, i, b, mr, mc, et, side, ey, eb, free, spot))
  says-of s x a kind at rel (by_own c p b ek body u eb free spot) = own-says s x a kind at rel c p b ek body u eb free spot

  -- It is said on the symbol or a class of it.
  pub record IsSaidOf (s a : ℕ) (kind : Kind) (at : ℕ) : Type 0 where
    pub on : ℕ
    pub is_of : IsOf s on
    pub said : SaidOn spec on a kind at

  pub of-says : (s a : ℕ) (kind : Kind) (at : ℕ) → SaysKind spec s a kind at → IsByAttr a kind at ⊎ IsSaidOf s a kind at
  of-says s a kind at (clash.SaysKind.declared h) = let (x, rel, (d, g, ek, spot)) = class-of _ s h in inr (record { on = x; is_of = rel; said = by_declaration d g ek spot })
  of-says s a kind at (clash.SaysKind.by_attr d m e f g) = inl (record { decl = d; among = m; of = e; says = f; place = g })
  of-says s a kind at (clash.by_target h) = let (x, rel, (r, c, y, i, b, mr, mc, et, side, ey, eb, free, spot)) = class-of _ s h in
      inr (record { on = x; is_of = rel; said = by_side r c y i b mr mc et side ey eb free spot })
  of-says s a kind at (clash.by_synt e h) = let (x, rel, (c, b, body, u, eb, free, spot)) = class-of _ s h in
      inr (record { on = x; is_of = rel; said = by_own c place.Synt b (ap Some (sym e)) body u eb free spot })
  of-says s a kind at (clash.by_inh e h) = let (x, rel, (c, b, body, u, eb, free, spot)) = class-of _ s h in
      inr (record { on = x; is_of = rel; said = by_own c place.Inh b (ap Some (sym e)) body u eb free spot })

  module _ (names : List ℕ) (numbered : AreAllNumbered spec names) where
    said-numbered : (x a : ℕ) (kind : Kind) (at : ℕ) → SaidOn spec x a kind at → Contains names x
    said-numbered x a kind at (by_declaration d (item, mi, named, md, e) ek spot) = item-numbered spec names numbered.items x item mi named
    said-numbered x a kind at (by_side r c y i b mr mc et side ey eb free spot) = subst (λ z. Contains names z) ey (numbered.targets r c y i b mr mc et)
    said-numbered x a kind at (by_own c p b ek (item, mi, named, mc) u eb free spot) = item-numbered spec names numbered.items x item mi named

    of-numbered : (s x : ℕ) → IsOf s x → Contains names x → Contains names s
    of-numbered s x (inl e) m = subst (λ z. Contains names z) (sym e) m
    of-numbered s x (inr i) m = heir-numbered spec names numbered.items s x i

    pub its-number : (s a : ℕ) (kind : Kind) (at : ℕ) → IsSaidOf s a kind at → Contains names s
    its-number s a kind at h = of-numbered s h.on h.is_of (said-numbered h.on a kind at h.said)

    module _ (inheritance : Inheritance) (is : IsInheritance spec names inheritance) where
      passes-to : (s x : ℕ) → Contains names s → Contains names x → IsTrue (passes inheritance (number names s) (number names x)) → IsOf s x
      passes-to s x ms mx h = elim (or_cases (nat_eq (number names s) (number names x)) (is_heir inheritance (number names s) (number names x)) h) [
        | inl e ↦ inl (same_Some _ _ (sym (number-there s names ms) ∙ ap (λ n. slice_get names n) (eqb-true _ _ e) ∙ number-there x names mx))
        | inr i ↦ inr ((is s x).0 i)
      ]

      to-passes : (s x : ℕ) → IsOf s x → IsTrue (passes inheritance (number names s) (number names x))
      to-passes s x (inl e) = or_left (nat_eq (number names s) (number names x)) (is_heir inheritance (number names s) (number names x)) (eq-eqb _ _ (ap (number names) e))
      to-passes s x (inr i) = or_right (nat_eq (number names s) (number names x)) (is_heir inheritance (number names s) (number names x)) ((is s x).1 i)

      module _ (chains : Names) (are : IsSetOf (IsChain spec) chains) (facts : Facts) (ek : facts.kinds.items ≡ kinds_of_text names chains spec)
          (et : facts.types.items ≡ types_of_items names spec.symbols) (ea : facts.attrs.items ≡ attr_kinds spec.attrs) where
        kinds-to : (s : ℕ) → Contains names s → (x : SaidKind) → Contains (kinds_on inheritance facts (number names s)) x → SaysKind spec s (name_of x.attr) x.kind x.attr.at
        kinds-to s ms x m = elim (Contains-append_cases facts.attrs.items (flat_map (kind_if_passed inheritance (number names s)) facts.kinds.items) x m) [
          | inl k ↦ by-attr s (name_of x.attr) x.kind x.attr.at (attr-to x (subst (λ (xs : List SaidKind). Contains xs x) ea k))
          | inr k ↦ (let (f, mf, n) = contains-flat (kind_if_passed inheritance (number names s)) facts.kinds.items x k in
              let (pass, same) = in-if (passes inheritance (number names s) f.symbol) f.said x n in
              let on = facts-to spec names chains are f (subst (λ (fs : List KindFact). Contains fs f) ek mf) in
              let rel = passes-to s on.symbol ms (said-numbered on.symbol _ _ _ on.said) (subst (λ y. IsTrue (passes inheritance (number names s) y)) (sym on.its) pass) in
              subst (λ (y : SaidKind). SaysKind spec s (name_of y.attr) y.kind y.attr.at) same (says-of s on.symbol (name_of f.said.attr) f.said.kind f.said.attr.at rel on.said))
        ]

        kinds-from : (s a : ℕ) (kind : Kind) (at : ℕ) → IsByAttr a kind at ⊎ IsSaidOf s a kind at → IsSaidIn (kinds_on inheritance facts (number names s)) a kind at
        kinds-from s a kind at (inl h) = let k = attr-from a kind at h in record {
          item = k.item;
          among = Contains-append_left facts.attrs.items (flat_map (kind_if_passed inheritance (number names s)) facts.kinds.items) k.item (subst (λ (xs : List SaidKind). Contains xs k.item) (sym ea) k.among);
          of = k.of;
          says = k.says;
          place = k.place;
        }
        kinds-from s a kind at (inr h) =
            let k = facts-from spec names chains are h.on a kind at h.said in
            let pass = subst (λ y. IsTrue (passes inheritance (number names s) y)) (sym k.its) (to-passes s h.on h.is_of) in record {
              item = k.fact.said;
              among = Contains-append_right facts.attrs.items (flat_map (kind_if_passed inheritance (number names s)) facts.kinds.items) k.fact.said
                  (flat-contains (kind_if_passed inheritance (number names s)) facts.kinds.items k.fact k.fact.said (subst (λ (fs : List KindFact). Contains fs k.fact) (sym ek) k.among)
                  (if-in (passes inheritance (number names s) k.fact.symbol) k.fact.said pass));
              of = k.of;
              says = k.its_kind;
              place = k.place;
            }

        second-to : (s : ℕ) (said : List SaidKind) → ((x : SaidKind) → Contains said x → SaysKind spec s (name_of x.attr) x.kind x.attr.at) → (at : ℕ) → IsSecondKind said at → IsTwofold spec at
        second-to s said says at h = clash.kinds s (name_of h.first.attr) h.first.attr.at h.first.kind h.second.kind (says h.first h.there)
            (subst (λ a. SaysKind spec s a h.second.kind at) (sym h.same) (subst (λ n. SaysKind spec s (name_of h.second.attr) h.second.kind n) (sym h.place) (says h.second h.behind)))
            h.other (let le = h.before in let spot = h.place in omega (arith, le, spot))

        from-second : (said : List SaidKind) (a first at : ℕ) (k l : Kind) → IsSaidIn said a k first → IsSaidIn said a l at → (k ≡ l → ⊥) → first ≤ at → IsSecondKind said at
        from-second said a first at k l x y other le = record {
          first = x.item;
          second = y.item;
          there = x.among;
          behind = y.among;
          same = x.of ∙ sym y.of;
          other = λ e. other (sym x.says ∙ e ∙ y.says);
          before = (let p = x.place in let q = y.place in omega (arith, p, q, le));
          place = y.place;
        }

        -- types
        types-on-to : (s a : ℕ) → Contains names s → (x : Typed1) → name_of x.name ≡ a → Contains (types_on inheritance facts (number names s)) x
            → (d : Decl) × OfClass spec (λ y. IsDeclared spec y a d) s × (d.attr ≡ x.name) × (d.ty ≡ x.ty)
        types-on-to s a ms x named m =
            let (f, mf, n) = contains-flat (type_if_passed inheritance (number names s)) facts.types.items x m in
            let (pass, same) = in-if (passes inheritance (number names s) f.symbol) f.typed x n in
            let on = types-to spec names f (subst (λ (fs : List TypeFact). Contains fs f) et mf) in
            let own = on.declared in
            let rel = passes-to s on.symbol ms (item-numbered spec names numbered.items on.symbol own.0 own.1 own.2) (subst (λ y. IsTrue (passes inheritance (number names s) y)) (sym on.its) pass) in (
              on.decl,
              of-class _ s on.symbol rel (subst (λ b. IsDeclared spec on.symbol b on.decl) (ap (λ (t : Typed1). name_of t.name) same ∙ named) on.declared),
              on.name ∙ ap (λ (t : Typed1). t.name) same,
              on.ty ∙ ap (λ (t : Typed1). t.ty) same,
            )

        types-on-from : (s a : ℕ) (d : Decl) → OfClass spec (λ y. IsDeclared spec y a d) s → Contains (types_on inheritance facts (number names s)) (typed_decl d) × Contains names s × (name_of d.attr ≡ a)
        types-on-from s a d h =
            let (x, rel, (item, mi, named, md, e)) = class-of _ s h in
            let fact : TypeFact = record { symbol = number names x; typed = typed_decl d } in (
              flat-contains (type_if_passed inheritance (number names s)) facts.types.items fact (typed_decl d)
                  (subst (λ (fs : List TypeFact). Contains fs fact) (sym et) (types-from spec names x a d (item, mi, named, md, e)))
                  (if-in (passes inheritance (number names s) (number names x)) (typed_decl d) (to-passes s x rel)),
              of-numbered s x rel (item-numbered spec names numbered.items x item mi named),
              e,
            )

        attr-types-to : (at : ℕ) → IsSecondType (attr_types spec.attrs) at → IsTwofold spec at
        attr-types-to at h =
            let (d, md, ed) = contains-map typed_decl spec.attrs h.first h.there in
            let (e, me, ee) = contains-map typed_decl spec.attrs h.second h.behind in
            let dn : d.attr ≡ h.first.name = ap (λ (t : Typed1). t.name) ed in
            let en : e.attr ≡ h.second.name = ap (λ (t : Typed1). t.name) ee in
            let lt = h.before in
            let dp : d.attr.at ≡ h.first.name.at = ap (λ (n : Name). n.at) dn in
            let ep : e.attr.at ≡ h.second.name.at = ap (λ (n : Name). n.at) en in
            clash.types_by_attr d e md me (ap name_of dn ∙ h.same ∙ ap name_of (sym en)) (λ q. h.other (ap (λ (t : Typed1). t.ty) (sym ed) ∙ q ∙ ap (λ (t : Typed1). t.ty) ee)) (omega (arith, lt, dp, ep)) (h.place ∙ sym ep)

        symbol-types-to : (s : ℕ) → Contains names s → (at : ℕ) → IsSecondType (types_on inheritance facts (number names s)) at → IsTwofold spec at
        symbol-types-to s ms at h =
            let (d, hd, dn, dt) = types-on-to s (name_of h.second.name) ms h.first h.same h.there in
            let (e, he, en, et) = types-on-to s (name_of h.second.name) ms h.second refl h.behind in
            let lt = h.before in
            let dp : d.attr.at ≡ h.first.name.at = ap (λ (n : Name). n.at) dn in
            let ep : e.attr.at ≡ h.second.name.at = ap (λ (n : Name). n.at) en in
            clash.types_by_symbol s (name_of h.second.name) d e hd he (λ q. h.other (sym dt ∙ q ∙ et)) (omega (arith, lt, dp, ep)) (h.place ∙ sym ep)

        parts : (at : ℕ) → IsTwofold spec at → (IsSecondKind facts.attrs.items at ⊎ IsSecondType (attr_types spec.attrs) at) ⊎ IsTwofoldOnAny names inheritance facts at
        parts at (clash.kinds s a first k l x y other le) = go (of-says s a k first x) (of-says s a l at y)
          where
            on : Contains names s → IsByAttr a k first ⊎ IsSaidOf s a k first → IsByAttr a l at ⊎ IsSaidOf s a l at → IsTwofoldOnAny names inheritance facts at
            on m p q = record { item = s; among = m; is = inl (from-second _ a first at k l (kinds-from s a k first p) (kinds-from s a l at q) other le) }

            go : IsByAttr a k first ⊎ IsSaidOf s a k first → IsByAttr a l at ⊎ IsSaidOf s a l at
                → (IsSecondKind facts.attrs.items at ⊎ IsSecondType (attr_types spec.attrs) at) ⊎ IsTwofoldOnAny names inheritance facts at
            go (inl p) (inl q) = inl (inl (subst (λ (xs : List SaidKind). IsSecondKind xs at) (sym ea) (from-second _ a first at k l (attr-from a k first p) (attr-from a l at q) other le)))
            go (inl p) (inr q) = inr (on (its-number s a l at q) (inl p) (inr q))
            go (inr p) q = inr (on (its-number s a k first p) (inr p) q)
        parts at (clash.types_by_attr d e md me same other lt spot) = inl (inr (record {
          first = typed_decl d;
          second = typed_decl e;
          there = map-contains typed_decl spec.attrs d md;
          behind = map-contains typed_decl spec.attrs e me;
          same = same;
          other = other;
          before = lt;
          place = spot;
        }))
        parts at (clash.types_by_symbol s a d e hd he other lt spot) =
            let (md, ms, ed) = types-on-from s a d hd in
            let (me, ns, ee) = types-on-from s a e he in
            inr (record {
              item = s;
              among = ms;
              is = inr (record { first = typed_decl d; second = typed_decl e; there = md; behind = me; same = ed ∙ sym ee; other = other; before = lt; place = spot });
            })

        pub twofold-of : (a b d r s : Option ℕ) → s ≡ earlier_of a b → r ≡ earlier_of s d → IsFirst (IsSecondKind facts.attrs.items) a → IsFirst (IsSecondType (attr_types spec.attrs)) b
            → IsFirst (IsTwofoldOnAny names inheritance facts) d → IsFirst (IsTwofold spec) r
        twofold-of a b d r s e f kinds types on = first-same
            (λ at h. elim h [
              | inl k ↦ elim k [
                | inl q ↦ second-to 0 facts.attrs.items (λ x m. by-attr 0 (name_of x.attr) x.kind x.attr.at (attr-to x (subst (λ (xs : List SaidKind). Contains xs x) ea m))) at q
                | inr q ↦ attr-types-to at q
              ]
              | inr k ↦ elim k.is [
                | inl q ↦ second-to k.item (kinds_on inheritance facts (number names k.item)) (kinds-to k.item k.among) at q
                | inr q ↦ symbol-types-to k.item k.among at q
              ]
            ])
            parts (first-join f (first-join e kinds types) on)
