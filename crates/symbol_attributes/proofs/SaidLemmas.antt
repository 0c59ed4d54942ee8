-- The list has what a specification says of attributes, and no more.
use Rattle.std.specs.Prelude.{Contains, flat_map, map, if◌then◌else◌, ℤ}
use Rattle.std.proofs.Common.{◌≡◌, ℕ, Bool, true, false, ◌⊎◌, inl, inr, List, [], ◌∷◌, ◌++◌, Option, Some, None, refl, sym, ap, subst, ◌∙◌}
use Rattle.std.proofs.lemmas.List.Elements.{Contains-append_left, Contains-append_right, Contains-append_cases}
use Rattle.lido_base.specs.declared.kinds.Kind.{Kind}
use Rattle.lido_base.specs.declared.kinds.Kind.TheVariants.{Synthesized, Inherited}
use Rattle.lido_base.proofs.Lists.{contains-nil, contains-cons, contains-here, contains-map, map-contains, contains-flat, flat-contains}
use Rattle.lido_syntax.specs.declared.spec.Spec.{Spec}
use Rattle.lido_syntax.specs.declared.spec.Name.{Name}
use Rattle.lido_syntax.specs.declared.spec.Decl.{Decl}
use Rattle.lido_syntax.specs.declared.spec.Comp.{Comp}
use Rattle.lido_syntax.specs.declared.spec.RuleItem.{RuleItem}
use Rattle.lido_syntax.specs.declared.spec.Target.{Target}
use Rattle.lido_syntax.specs.declared.spec.Target.TheVariants as target
use Rattle.lido_syntax.specs.declared.spec.Place.{Place}
use Rattle.lido_syntax.specs.declared.spec.Place.TheVariants as place
use Rattle.lido_syntax.specs.declared.spec.Expr.{Expr, Int, Str, Bool as Truth, Terminal, Read, Including, Constituents, Call'}
use Rattle.lido_syntax.specs.Production.{name_of}
use Rattle.lido_syntax.specs.Parts.{leaves_of}
use Rattle.lido_syntax.specs.Symbols.{IsChain}
use Rattle.lido_syntax.specs.Attributes.{Use, use_of_pair, uses_of_part, uses, target_uses, possible, IsOnSide, InBody, IsUse, IsDeclared, IsNamed, Tells, side, synt, inh}
use Rattle.kind_clashes.specs.declared.names.Names.{Names}
use Rattle.kind_clashes.specs.Names.{has, IsSetOf}
use Rattle.symbol_attributes.specs.declared.facts.Facts.{Facts}
use Rattle.symbol_attributes.specs.declared.facts.Said.{Said}
use Rattle.symbol_attributes.specs.declared.named.SymbolAttribute.{SymbolAttribute}
use Rattle.symbol_attributes.specs.Named.{AreNamed}
use Rattle.symbol_attributes.specs.Facts.{said, declared_facts}
use Rattle.symbol_attributes.specs.Said.{no_facts, told_facts, said_on, said_of_named, said_by_decl, said_by_decls, kind_at, told_of, told_at, told_by_leaf, told_by_target, told_by_comp, told_by_item, side_of, told_by_side, told_by_rule_target, told_by_rule, all_said, IsSaid, named, declared, told, AreSaid}
use Rattle.symbol_attributes.proofs.NamedLemmas.{own-test, test-own, no-chain, chain-no}
use Rattle.symbol_attributes.proofs.UsesLemmas.{use-found, of-target, of-leaf}
use Rattle.symbol_attributes.proofs.SideLemmas.{side-is, is-side}

on-to : (b : Name) (f g : Facts) (ys : List Name) (s a : ℕ) → Contains (map (said_on b f) ys) (said s a g) → (name_of b ≡ a) × (f ≡ g) × ((y : Name) × Contains ys y × (name_of y ≡ s))
on-to b f g ys s a m =
    let (y, my, e) = contains-map (said_on b f) ys (said s a g) m in
    (ap (λ (x : Said). x.attribute.0) e, ap (λ (x : Said). x.facts) e, (y, my, ap (λ (x : Said). x.symbol.0) e))

on-from : (b : Name) (f : Facts) (ys : List Name) (s a : ℕ) (y : Name) → name_of b ≡ a → Contains ys y → name_of y ≡ s → Contains (map (said_on b f) ys) (said s a f)
on-from b f ys s a y eb my ey =
    subst (λ z. Contains (map (said_on b f) ys) (said z a f)) ey (subst (λ z. Contains (map (said_on b f) ys) (said (name_of y) z f)) eb (map-contains (said_on b f) ys y my))

-- a kind is told of an attribute on one of these symbols
abbrev IsTold : List Name → Option Kind → ℕ → ℕ → Name → Facts → Type 0
IsTold own o s a b f = (kind : Kind) × (o ≡ Some kind) × (told_facts kind ≡ f) × (name_of b ≡ a) × ((y : Name) × Contains own y × (name_of y ≡ s))

of-to : (b : Name) (own : List Name) (o : Option Kind) (s a : ℕ) (f : Facts) → Contains (told_of b own o) (said s a f) → IsTold own o s a b f
of-to b own None s a f m = absurd (contains-nil (said s a f) m)
of-to b own (Some kind) s a f m = let (eb, ef, is) = on-to b (told_facts kind) f own s a m in (kind, refl, ef, eb, is)

of-from : (b : Name) (own : List Name) (o : Option Kind) (s a : ℕ) (kind : Kind) (y : Name) → o ≡ Some kind → name_of b ≡ a → Contains own y → name_of y ≡ s → Contains (told_of b own o) (said s a (told_facts kind))
of-from b own o s a kind y eo eb my ey = subst (λ (p : Option Kind). Contains (told_of b own p) (said s a (told_facts kind))) (sym eo) (on-from b (told_facts kind) own s a y eb my ey)

-- unless the name is a chain
free-to : (c : Bool) (b : Name) (own : List Name) (o : Option Kind) (s a : ℕ) (f : Facts) → Contains (if c then [] else told_of b own o) (said s a f) → (c ≡ false) × IsTold own o s a b f
free-to true b own o s a f m = absurd (contains-nil (said s a f) m)
free-to false b own o s a f m = (refl, of-to b own o s a f m)

free-from : (c : Bool) (b : Name) (own : List Name) (o : Option Kind) (s a : ℕ) (kind : Kind) (y : Name) → c ≡ false → o ≡ Some kind → name_of b ≡ a → Contains own y → name_of y ≡ s
    → Contains (if c then [] else told_of b own o) (said s a (told_facts kind))
free-from c b own o s a kind y ec eo eb my ey =
    subst (λ (d : Bool). Contains (if d then [] else told_of b own o) (said s a (told_facts kind))) (sym ec) (of-from b own o s a kind y eo eb my ey)

module _ (chains : Names) (own : List Name) (x : Said) where
  -- the use tells this
  abbrev IsBy : Use → Type 0
  IsBy u = Contains (told_at chains own u.0 u.1) x

  no-pair : (c : Bool) → Contains (if c then [] else []) x → ⊥
  no-pair true m = contains-nil x m
  no-pair false m = contains-nil x m

  leaf-to : (leaf : Expr) → Contains (told_by_leaf chains own leaf) x → (u : Use) × Contains (uses_of_part leaf) u × IsBy u
  leaf-to (Int at z) m = absurd (contains-nil x m)
  leaf-to (Str at s) m = absurd (contains-nil x m)
  leaf-to (Truth at b) m = absurd (contains-nil x m)
  leaf-to (Terminal y i) m = absurd (contains-nil x m)
  leaf-to (Read at p a) m = ((p, a), contains-here (p, a) [], m)
  leaf-to (Including at pairs) m = absurd (contains-nil x m)
  leaf-to (Constituents k) m = absurd (contains-nil x m)
  leaf-to (Call' f shape args) m = absurd (contains-nil x m)

  leaf-from : (leaf : Expr) (u : Use) → Contains (uses_of_part leaf) u → IsBy u → Contains (told_by_leaf chains own leaf) x
  leaf-from (Int at z) u m h = absurd (contains-nil u m)
  leaf-from (Str at s) u m h = absurd (contains-nil u m)
  leaf-from (Truth at b) u m h = absurd (contains-nil u m)
  leaf-from (Terminal y i) u m h = absurd (contains-nil u m)
  leaf-from (Read at p a) u m h = elim (contains-cons (p, a) u [] m) [ inl e ↦ subst IsBy (sym e) h | inr n ↦ absurd (contains-nil u n) ]
  leaf-from (Including at pairs) u m h = let (q, mq, e) = contains-map use_of_pair pairs u m in absurd (no-pair (has chains (name_of q.attr)) (subst IsBy (sym e) h))
  leaf-from (Constituents k) u m h = let (q, mq, e) = contains-map use_of_pair k.pairs u m in absurd (no-pair (has chains (name_of q.attr)) (subst IsBy (sym e) h))
  leaf-from (Call' f shape args) u m h = absurd (contains-nil u m)

  target-to : (t : Target) → Contains (told_by_target chains own t) x → (u : Use) × Contains (target_uses t) u × IsBy u
  target-to (target.Attr p a) m = ((p, a), contains-here (p, a) [], m)
  target-to (target.Start a) m = absurd (contains-nil x m)
  target-to target.Out m = absurd (contains-nil x m)
  target-to (target.Message s c) m = absurd (contains-nil x m)

  target-from : (t : Target) (u : Use) → Contains (target_uses t) u → IsBy u → Contains (told_by_target chains own t) x
  target-from (target.Attr p a) u m h = elim (contains-cons (p, a) u [] m) [ inl e ↦ subst IsBy (sym e) h | inr n ↦ absurd (contains-nil u n) ]
  target-from (target.Start a) u m h = absurd (contains-nil u m)
  target-from target.Out u m h = absurd (contains-nil u m)
  target-from (target.Message s c) u m h = absurd (contains-nil u m)

  comp-to : (c : Comp) → Contains (told_by_comp chains own c) x → (u : Use) × Contains (uses c) u × IsBy u
  comp-to c m = elim (Contains-append_cases (told_by_target chains own c.target) (flat_map (told_by_leaf chains own) (leaves_of c)) x m) [
    | inl t ↦ (let (u, mu, h) = target-to c.target t in (u, of-target c u mu, h))
    | inr l ↦ (let (leaf, ml, n) = contains-flat (told_by_leaf chains own) (leaves_of c) x l in
        let (u, mu, h) = leaf-to leaf n in (u, of-leaf c leaf u ml mu, h))
  ]

  comp-from : (c : Comp) (u : Use) → Contains (uses c) u → IsBy u → Contains (told_by_comp chains own c) x
  comp-from c u m h = elim (use-found c u m) [
    | inl t ↦ Contains-append_left (told_by_target chains own c.target) (flat_map (told_by_leaf chains own) (leaves_of c)) x (target-from c.target u t h)
    | inr (leaf, ml, n) ↦ Contains-append_right (told_by_target chains own c.target) (flat_map (told_by_leaf chains own) (leaves_of c)) x
        (flat-contains (told_by_leaf chains own) (leaves_of c) leaf x ml (leaf-from leaf u n h))
  ]

module _ (spec : Spec) (chains : Names) (are : IsSetOf (IsChain spec) chains) where
  body-tells : (s a : ℕ) (c : Comp) (p : Place) (kind : Kind) → kind_at p ≡ Some kind → InBody spec s c → IsUse spec c p a → Tells spec s a kind
  body-tells s a c (place.Named x i) kind e there used = absurd (cc)
  body-tells s a c place.Synt Synthesized e there used = synt c there used
  body-tells s a c place.Synt Inherited e there used = absurd (cc)
  body-tells s a c place.Inh Synthesized e there used = absurd (cc)
  body-tells s a c place.Inh Inherited e there used = inh c there used
  body-tells s a c place.This kind e there used = absurd (cc)
  body-tells s a c place.Tail kind e there used = absurd (cc)

  decls-to : (s a : ℕ) (f : Facts) → Contains (flat_map said_by_decls spec.symbols) (said s a f) → IsSaid spec s a f
  decls-to s a f m =
      let (item, mi, n) = contains-flat said_by_decls spec.symbols (said s a f) m in
      let (d, md, h) = contains-flat (said_by_decl item.names) item.decls (said s a f) n in
      let (eb, ef, (y, my, ey)) = on-to d.attr (declared_facts d) f item.names s a h in
      subst (IsSaid spec s a) ef (declared d (item, mi, own-test item s y my ey, md, eb))

  decls-from : (s a : ℕ) (d : Decl) → IsDeclared spec s a d → Contains (flat_map said_by_decls spec.symbols) (said s a (declared_facts d))
  decls-from s a d (item, mi, own, md, e) =
      let (y, my, ey) = test-own item s own in
      flat-contains said_by_decls spec.symbols item (said s a (declared_facts d)) mi
      (flat-contains (said_by_decl item.names) item.decls d (said s a (declared_facts d)) md (on-from d.attr (declared_facts d) item.names s a y e my ey))

  bodies-to : (s a : ℕ) (f : Facts) → Contains (flat_map (told_by_item chains) spec.symbols) (said s a f) → IsSaid spec s a f
  bodies-to s a f m =
      let (item, mi, n) = contains-flat (told_by_item chains) spec.symbols (said s a f) m in
      let (c, mc, h) = contains-flat (told_by_comp chains item.names) item.body (said s a f) n in
      let (u, mu, by) = comp-to chains item.names (said s a f) c h in
      let (free, (kind, ek, ef, eb, (y, my, ey))) = free-to (has chains (name_of u.1)) u.1 item.names (kind_at u.0) s a f by in
      subst (IsSaid spec s a) {x = told_facts kind} ef (told {kind = kind} (body-tells s a c u.0 kind ek (item, mi, own-test item s y my ey, mc) (u.1, mu, eb, no-chain spec chains are u.1 a eb free)))

  in-body : (s a : ℕ) (c : Comp) (p : Place) (kind : Kind) → kind_at p ≡ Some kind → InBody spec s c → IsUse spec c p a → Contains (flat_map (told_by_item chains) spec.symbols) (said s a (told_facts kind))
  in-body s a c p kind ek (item, mi, own, mc) (b, mu, eb, free) =
      let (y, my, ey) = test-own item s own in
      flat-contains (told_by_item chains) spec.symbols item (said s a (told_facts kind)) mi
      (flat-contains (told_by_comp chains item.names) item.body c (said s a (told_facts kind)) mc
      (comp-from chains item.names (said s a (told_facts kind)) c (p, b) mu
      (free-from (has chains (name_of b)) b item.names (kind_at p) s a kind y (chain-no spec chains are b a eb free) ek eb my ey)))

  side-to : (r : RuleItem) (c : Comp) (p : Place) (b : Name) (s a : ℕ) (f : Facts) → Contains spec.rules r → Contains r.body c → c.target ≡ target.Attr p b → Contains (told_by_side chains r p b) (said s a f) → IsSaid spec s a f
  side-to r c (place.Named x i) b s a f mr mc et m =
      let (free, (kind, ek, ef, eb, (y, my, ey))) = free-to (has chains (name_of b)) b (x ∷ []) (side_of (possible r x i)) s a f m in
      let ex : name_of x ≡ s = elim (contains-cons x y [] my) [ inl e ↦ ap name_of e ∙ ey | inr n ↦ absurd (contains-nil y n) ] in
      subst (IsSaid spec s a) {x = told_facts kind} ef (told {kind = kind} (side r c x i b mr mc et (side-is (possible r x i) kind ek) ex eb (no-chain spec chains are b a eb free)))
  side-to r c place.Synt b s a f mr mc et m = absurd (contains-nil (said s a f) m)
  side-to r c place.Inh b s a f mr mc et m = absurd (contains-nil (said s a f) m)
  side-to r c place.This b s a f mr mc et m = absurd (contains-nil (said s a f) m)
  side-to r c place.Tail b s a f mr mc et m = absurd (contains-nil (said s a f) m)

  rule-to : (r : RuleItem) (c : Comp) (t : Target) (s a : ℕ) (f : Facts) → Contains spec.rules r → Contains r.body c → c.target ≡ t → Contains (told_by_rule_target chains r t) (said s a f) → IsSaid spec s a f
  rule-to r c (target.Attr p b) s a f mr mc et m = side-to r c p b s a f mr mc et m
  rule-to r c (target.Start b) s a f mr mc et m = absurd (contains-nil (said s a f) m)
  rule-to r c target.Out s a f mr mc et m = absurd (contains-nil (said s a f) m)
  rule-to r c (target.Message v e) s a f mr mc et m = absurd (contains-nil (said s a f) m)

  rules-to : (s a : ℕ) (f : Facts) → Contains (flat_map (told_by_rule chains) spec.rules) (said s a f) → IsSaid spec s a f
  rules-to s a f m =
      let (r, mr, n) = contains-flat (told_by_rule chains) spec.rules (said s a f) m in
      let (c, mc, h) = contains-flat (λ (c : Comp). told_by_rule_target chains r c.target) r.body (said s a f) n in
      rule-to r c c.target s a f mr mc refl h

  in-rule : (s a : ℕ) (kind : Kind) (r : RuleItem) (c : Comp) (x : Name) (i : Option ℤ) (b : Name) → Contains spec.rules r → Contains r.body c → c.target ≡ target.Attr (place.Named x i) b
      → IsOnSide kind (possible r x i) → name_of x ≡ s → name_of b ≡ a → ¬ IsChain spec a → Contains (flat_map (told_by_rule chains) spec.rules) (said s a (told_facts kind))
  in-rule s a kind r c x i b mr mc et on ex eb free =
      flat-contains (told_by_rule chains) spec.rules r (said s a (told_facts kind)) mr
      (flat-contains (λ (c : Comp). told_by_rule_target chains r c.target) r.body c (said s a (told_facts kind)) mc
      (subst (λ (t : Target). Contains (told_by_rule_target chains r t) (said s a (told_facts kind))) (sym et)
      (free-from (has chains (name_of b)) b (x ∷ []) (side_of (possible r x i)) s a kind x (chain-no spec chains are b a eb free) (is-side (possible r x i) kind on) eb (contains-here x []) ex)))

  module _ (list : List SymbolAttribute) (are_named : AreNamed spec list) where
    named-to : (s a : ℕ) (f : Facts) → Contains (map said_of_named list) (said s a f) → IsSaid spec s a f
    named-to s a f m =
        let (x, mx, e) = contains-map said_of_named list (said s a f) m in
        let there : IsNamed spec x.symbol.0 x.attribute.0 = (are_named x.symbol.0 x.attribute.0).0 mx in
        let es : x.symbol.0 ≡ s = ap (λ (y : Said). y.symbol.0) e in
        let ea : x.attribute.0 ≡ a = ap (λ (y : Said). y.attribute.0) e in
        subst (IsSaid spec s a) (ap (λ (y : Said). y.facts) e) (named (subst (λ z. IsNamed spec s z) ea (subst (λ z. IsNamed spec z x.attribute.0) es there)))

    abbrev first_part : List Said
    first_part = map said_of_named list

    abbrev second_part : List Said
    second_part = flat_map said_by_decls spec.symbols

    abbrev third_part : List Said
    third_part = flat_map (told_by_item chains) spec.symbols

    abbrev last_part : List Said
    last_part = flat_map (told_by_rule chains) spec.rules

    to : (s a : ℕ) (f : Facts) → Contains (all_said chains spec list) (said s a f) → IsSaid spec s a f
    to s a f m = elim (Contains-append_cases first_part (second_part ++ (third_part ++ last_part)) (said s a f) m) [
      | inl n ↦ named-to s a f n
      | inr n ↦ elim (Contains-append_cases second_part (third_part ++ last_part) (said s a f) n) [
        | inl k ↦ decls-to s a f k
        | inr k ↦ elim (Contains-append_cases third_part last_part (said s a f) k) [ inl h ↦ bodies-to s a f h | inr h ↦ rules-to s a f h ]
      ]
    ]

    in-told : (s a : ℕ) (f : Facts) → Contains third_part (said s a f) ⊎ Contains last_part (said s a f) → Contains (all_said chains spec list) (said s a f)
    in-told s a f h = Contains-append_right first_part (second_part ++ (third_part ++ last_part)) (said s a f) (Contains-append_right second_part (third_part ++ last_part) (said s a f)
        (elim h [ inl m ↦ Contains-append_left third_part last_part (said s a f) m | inr m ↦ Contains-append_right third_part last_part (said s a f) m ]))

    from : (s a : ℕ) (f : Facts) → IsSaid spec s a f → Contains (all_said chains spec list) (said s a f)
    from s a f (named n) = Contains-append_left first_part (second_part ++ (third_part ++ last_part)) (said s a no_facts)
        (map-contains said_of_named list (record { symbol = record { 0 = s }; attribute = record { 0 = a } }) ((are_named s a).1 n))
    from s a f (declared d is) = Contains-append_right first_part (second_part ++ (third_part ++ last_part)) (said s a (declared_facts d))
        (Contains-append_left second_part (third_part ++ last_part) (said s a (declared_facts d)) (decls-from s a d is))
    from s a f (told {kind} (side r c x i b mr mc et on ex eb free)) = in-told s a (told_facts kind) (inr (in-rule s a kind r c x i b mr mc et on ex eb free))
    from s a f (told (synt c there used)) = in-told s a (told_facts Synthesized) (inl (in-body s a c place.Synt Synthesized refl there used))
    from s a f (told (inh c there used)) = in-told s a (told_facts Inherited) (inl (in-body s a c place.Inh Inherited refl there used))

    pub are-said : (found : List Said) → found ≡ all_said chains spec list → AreSaid spec found
    are-said found e s a f = ((λ m. to s a f (subst (λ (l : List Said). Contains l (said s a f)) e m)), (λ n. subst (λ (l : List Said). Contains l (said s a f)) (sym e) (from s a f n)))
