-- Names that mean nothing where they stand.
use Rattle.std.specs.Prelude.{Contains, IsTrue, Bool, true, false, ◌||◌, map, flat_map}
use Rattle.std.proofs.Common.{◌≡◌, ℕ, ◌⊎◌, inl, inr, List, Option, refl, sym, subst, ap, ◌∙◌, true≢false}
use Rattle.lido_base.specs.Environment.{Environment}
use Rattle.lido_base.proofs.Lists.{contains-here, contains-later, contains-cons, contains-map, map-contains, contains-flat, flat-contains}
use Rattle.lido_base.proofs.TreeLemmas.{contains-test, test-contains}
use Rattle.lido_syntax.specs.declared.spec.Spec.{Spec}
use Rattle.lido_syntax.specs.declared.spec.Name.{Name}
use Rattle.lido_syntax.specs.declared.spec.Comp.{Comp}
use Rattle.lido_syntax.specs.declared.spec.Expr.{Expr, Int, Str, Bool as Truth, Terminal, Read, Including, Constituents, Call'}
use Rattle.lido_syntax.specs.declared.spec.Place.{Place}
use Rattle.lido_syntax.specs.declared.spec.Place.TheVariants as place
use Rattle.lido_syntax.specs.declared.spec.RuleItem.{RuleItem}
use Rattle.lido_syntax.specs.declared.spec.SymbolItem.{SymbolItem}
use Rattle.lido_syntax.specs.declared.spec.Target.{Target}
use Rattle.lido_syntax.specs.declared.spec.Target.TheVariants as target
use Rattle.lido_syntax.specs.Parts.{leaves_of}
use Rattle.lido_syntax.specs.Production.{name_of, left_of, right_of, symbols_of}
use Rattle.lido_symbols.specs.Uses.{symbol_uses, with_place}
use Rattle.kind_clashes.specs.declared.sets.NameSets.{NameSets}
use Rattle.kind_clashes.specs.Least.{IsFirst, Among, earlier_of}
use Rattle.kind_clashes.specs.Names.{has}
use Rattle.kind_clashes.specs.Sets.{AreNameSets}
use Rattle.kind_clashes.proofs.LeastLemmas.{first-same, first-join}
use Rattle.table_faults.specs.Unknown.{is_known_in, IsUnknownName, IsForeignPlace, IsForeignTarget, IsForeignLeaf, IsForeignComp, IsNamedPlace, IsNamedTarget, IsNamedLeaf, IsNamedComp}
use Rattle.table_faults.specs.Faults.{IsUnknown, IsKnown, IsForeign, IsPlaceOf, place_at, class, declared, in_production, nowhere, in_rule, bare_in_rule, in_symbol, bare_in_symbol, targeted, read}
use Rattle.table_faults.proofs.IndicesLemmas.{not_so, so_not}

or_cases : (a b : Bool) → IsTrue (a || b) → IsTrue a ⊎ IsTrue b
or_cases true b h = inl refl
or_cases false b h = inr h

or_left : (a b : Bool) → IsTrue a → IsTrue (a || b)
or_left true b h = refl
or_left false b h = absurd (true≢false (sym h))

or_right : (a b : Bool) → IsTrue b → IsTrue (a || b)
or_right true b h = refl
or_right false b h = h

module _ (spec : Spec) (env : Environment) where
  of-known : (sets : NameSets) → AreNameSets spec sets → (s : ℕ) → IsTrue (is_known_in sets s) → IsKnown spec env s
  of-known sets are s h = elim (or_cases (has sets.classes s || has sets.declared s) (has sets.nonterminals s || has sets.right_sides s) h) [
    | inl k ↦ elim (or_cases (has sets.classes s) (has sets.declared s) k) [
      | inl is ↦ class (are.classes.only s is)
      | inr is ↦ (let t = are.declared.only s is in declared t.0 t.1)
    ]
    | inr k ↦ elim (or_cases (has sets.nonterminals s) (has sets.right_sides s) k) [
      | inl is ↦ (let p = contains-map left_of spec.rules s (contains-test s (map left_of spec.rules) (are.nonterminals.only s is)) in
          in_production p.0 p.1 (subst (λ n. Contains (symbols_of p.0) n) p.2 (contains-here (left_of p.0) (right_of p.0))))
      | inr is ↦ (let p = contains-flat right_of spec.rules s (contains-test s (flat_map right_of spec.rules) (are.right_sides.only s is)) in
          in_production p.0 p.1 (contains-later (left_of p.0) s (right_of p.0) p.2))
    ]
  ]

  to-known : (sets : NameSets) → AreNameSets spec sets → (s : ℕ) → IsKnown spec env s → IsTrue (is_known_in sets s)
  to-known sets are s known = elim known [
    | class is ↦ or_left _ _ (or_left _ _ (are.classes.all s is))
    | declared ty is ↦ or_left _ _ (or_right (has sets.classes s) _ (are.declared.all s (ty, is)))
    | in_production r there m ↦ or_right (has sets.classes s || has sets.declared s) _ (elim (contains-cons (left_of r) s (right_of r) m) [
      | inl e ↦ or_left _ _ (are.nonterminals.all s (test-contains s (map left_of spec.rules) (subst (λ n. Contains (map left_of spec.rules) n) e (map-contains left_of spec.rules r there))))
      | inr k ↦ or_right (has sets.nonterminals s) _ (are.right_sides.all s (test-contains s (flat_map right_of spec.rules) (flat-contains right_of spec.rules r s there k)))
    ])
  ]

  of-place : (r : RuleItem) (c : Comp) (first at : ℕ) → Contains spec.rules r → Contains r.body c → (p : Place)
      → (at ≡ place_at p first → IsPlaceOf c at p) → IsForeignPlace r first p at → IsUnknown spec env at
  of-place r c first at there here (place.Named x i) is (strange, spot) = in_rule r c (place.Named x i) there here (is spot) (λ m. not_so _ strange (test-contains (name_of x) (symbols_of r) m))
  of-place r c first at there here place.Synt is spot = in_rule r c place.Synt there here (is spot) tt
  of-place r c first at there here place.Inh is spot = in_rule r c place.Inh there here (is spot) tt
  of-place r c first at there here place.This is spot = in_rule r c place.This there here (is spot) tt
  of-place r c first at there here place.Tail is foreign = absurd foreign

  to-place : (r : RuleItem) (first at : ℕ) (p : Place) → at ≡ place_at p first → IsForeign spec env r p → IsForeignPlace r first p at
  to-place r first at (place.Named x i) spot foreign = (so_not _ (λ m. foreign (contains-test (name_of x) (symbols_of r) m)), spot)
  to-place r first at place.Synt spot foreign = spot
  to-place r first at place.Inh spot foreign = spot
  to-place r first at place.This spot foreign = spot
  to-place r first at place.Tail spot foreign = foreign

  of-target : (r : RuleItem) (c : Comp) (at : ℕ) → Contains spec.rules r → Contains r.body c → (t : Target) → c.target ≡ t → IsForeignTarget r c.at t at → IsUnknown spec env at
  of-target r c at there here (target.Attr p a) e foreign = of-place r c c.at at there here p (λ spot. targeted a e spot) foreign
  of-target r c at there here (target.Start a) e foreign = absurd foreign
  of-target r c at there here target.Out e foreign = absurd foreign
  of-target r c at there here (target.Message s o) e foreign = absurd foreign

  of-leaf : (r : RuleItem) (c : Comp) (at : ℕ) → Contains spec.rules r → Contains r.body c → (e : Expr) → Contains (leaves_of c) e → IsForeignLeaf env.texts r e at → IsUnknown spec env at
  of-leaf r c at there here (Terminal x i) m (no_coordinate, (strange, spot)) =
      bare_in_rule r c x i there here (m, not_so _ no_coordinate) (λ k. not_so _ strange (test-contains (name_of x) (symbols_of r) k)) spot
  of-leaf r c at there here (Read first p a) m foreign = of-place r c first at there here p (λ spot. read first a m spot) foreign
  of-leaf r c at there here (Int p z) m foreign = absurd foreign
  of-leaf r c at there here (Str p s) m foreign = absurd foreign
  of-leaf r c at there here (Truth p b) m foreign = absurd foreign
  of-leaf r c at there here (Including p ps) m foreign = absurd foreign
  of-leaf r c at there here (Constituents k) m foreign = absurd foreign
  of-leaf r c at there here (Call' f shape args) m foreign = absurd foreign

  of-named : (item : SymbolItem) (c : Comp) (at : ℕ) → Contains spec.symbols item → Contains item.body c → (p : Place)
      → ((x : Name) (i : _) → p ≡ place.Named x i → at ≡ x.at → IsPlaceOf c at (place.Named x i)) → IsNamedPlace p at → IsUnknown spec env at
  of-named item c at there here (place.Named x i) is spot = in_symbol item c x i there here (is x i refl spot)
  of-named item c at there here place.Synt is named = absurd named
  of-named item c at there here place.Inh is named = absurd named
  of-named item c at there here place.This is named = absurd named
  of-named item c at there here place.Tail is named = absurd named

  of-named_target : (item : SymbolItem) (c : Comp) (at : ℕ) → Contains spec.symbols item → Contains item.body c → (t : Target) → c.target ≡ t → IsNamedTarget t at → IsUnknown spec env at
  of-named_target item c at there here (target.Attr p a) e named = of-named item c at there here p (λ x i same spot. targeted a (e ∙ ap (λ q. target.Attr q a) same) spot) named
  of-named_target item c at there here (target.Start a) e named = absurd named
  of-named_target item c at there here target.Out e named = absurd named
  of-named_target item c at there here (target.Message s o) e named = absurd named

  of-named_leaf : (item : SymbolItem) (c : Comp) (at : ℕ) → Contains spec.symbols item → Contains item.body c → (e : Expr) → Contains (leaves_of c) e → IsNamedLeaf env.texts e at → IsUnknown spec env at
  of-named_leaf item c at there here (Terminal x i) m (no_coordinate, spot) = bare_in_symbol item c x i there here (m, not_so _ no_coordinate) spot
  of-named_leaf item c at there here (Read first p a) m named =
      of-named item c at there here p (λ x i same spot. read first a (subst (λ q. Contains (leaves_of c) (Read first q a)) same m) spot) named
  of-named_leaf item c at there here (Int p z) m named = absurd named
  of-named_leaf item c at there here (Str p s) m named = absurd named
  of-named_leaf item c at there here (Truth p b) m named = absurd named
  of-named_leaf item c at there here (Including p ps) m named = absurd named
  of-named_leaf item c at there here (Constituents k) m named = absurd named
  of-named_leaf item c at there here (Call' f shape args) m named = absurd named

  of-name : (sets : NameSets) → AreNameSets spec sets → (names : List Name) → map with_place names ≡ symbol_uses spec env → (at : ℕ) → Among (IsUnknownName sets) names at → IsUnknown spec env at
  of-name sets are names e at h = nowhere (name_of h.item)
      (subst (λ (us : List (ℕ × ℕ)). Contains us (at, name_of h.item)) e (subst (λ n. Contains (map with_place names) (n, name_of h.item)) (sym h.is.1) (map-contains with_place names h.item h.among)))
      (λ known. not_so _ h.is.0 (to-known sets are (name_of h.item) known))

  to-name : (sets : NameSets) → AreNameSets spec sets → (names : List Name) → map with_place names ≡ symbol_uses spec env → (at s : ℕ) → Contains (symbol_uses spec env) (at, s) → ¬ IsKnown spec env s
      → Among (IsUnknownName sets) names at
  to-name sets are names e at s m unknown =
      let p = contains-map with_place names (at, s) (subst (λ (us : List (ℕ × ℕ)). Contains us (at, s)) (sym e) m) in
      let same : name_of p.0 ≡ s = ap (λ (u : ℕ × ℕ). u.1) p.2 in
      record { item = p.0; among = p.1; is = (so_not _ (λ known. unknown (of-known sets are s (subst (λ n. IsTrue (is_known_in sets n)) same known))), sym (ap (λ (u : ℕ × ℕ). u.0) p.2)) }

  pub unknown : (sets : NameSets) → AreNameSets spec sets → (names : List Name) → map with_place names ≡ symbol_uses spec env → (a b d r s : Option ℕ) → s ≡ earlier_of b d → r ≡ earlier_of a s
      → IsFirst (Among (IsUnknownName sets) names) a
      → IsFirst (Among (λ (q : RuleItem). Among (IsForeignComp env.texts q) q.body) spec.rules) b
      → IsFirst (Among (λ (item : SymbolItem). Among (IsNamedComp env.texts) item.body) spec.symbols) d
      → IsFirst (IsUnknown spec env) r
  unknown sets are names uses a b d r s e f of_names of_rules of_symbols = first-same
      (λ at h. elim h [
        | inl n ↦ of-name sets are names uses at n
        | inr k ↦ elim k [
          | inl q ↦ elim q.is.is [
            | inl t ↦ of-target q.item q.is.item at q.among q.is.among q.is.item.target refl t
            | inr l ↦ of-leaf q.item q.is.item at q.among q.is.among l.item l.among l.is
          ]
          | inr i ↦ elim i.is.is [
            | inl t ↦ of-named_target i.item i.is.item at i.among i.is.among i.is.item.target refl t
            | inr l ↦ of-named_leaf i.item i.is.item at i.among i.is.among l.item l.among l.is
          ]
        ]
      ])
      (λ at h. elim h [
        | nowhere n m not_known ↦ inl (to-name sets are names uses at n m not_known)
        | in_rule q c p there here is foreign ↦ inr (inl (record {
          item = q;
          among = there;
          is = record {
            item = c;
            among = here;
            is = elim is [
              | targeted x y spot ↦ inl (subst (λ (t : Target). IsForeignTarget q c.at t at) (sym y) (to-place q c.at at p spot foreign))
              | read first x m spot ↦ inr (record { item = Read first p x; among = m; is = to-place q first at p spot foreign })
            ];
          };
        }))
        | bare_in_rule q c x i there here is strange spot ↦ inr (inl (record {
          item = q;
          among = there;
          is = record {
            item = c;
            among = here;
            is = inr (record { item = Terminal x i; among = is.0; is = (so_not _ is.1, (so_not _ (λ m. strange (contains-test (name_of x) (symbols_of q) m)), spot)) });
          };
        }))
        | in_symbol item c x i there here is ↦ inr (inr (record {
          item = item;
          among = there;
          is = record {
            item = c;
            among = here;
            is = elim is [
              | targeted y z spot ↦ inl (subst (λ (t : Target). IsNamedTarget t at) (sym z) spot)
              | read first y m spot ↦ inr (record { item = Read first (place.Named x i) y; among = m; is = spot })
            ];
          };
        }))
        | bare_in_symbol item c x i there here is spot ↦ inr (inr (record {
          item = item;
          among = there;
          is = record {
            item = c;
            among = here;
            is = inr (record { item = Terminal x i; among = is.0; is = (so_not _ is.1, spot) });
          };
        }))
      ])
      (first-join f of_names (first-join e of_rules of_symbols))

pub unknown-of : (spec : Spec) (env : Environment) (texts : List (List ℕ)) → env.texts ≡ texts → (sets : NameSets) → AreNameSets spec sets → (names : List Name) → map with_place names ≡ symbol_uses spec env
    → (a b d r s : Option ℕ) → s ≡ earlier_of b d → r ≡ earlier_of a s
    → IsFirst (Among (IsUnknownName sets) names) a
    → IsFirst (Among (λ (q : RuleItem). Among (IsForeignComp texts q) q.body) spec.rules) b
    → IsFirst (Among (λ (item : SymbolItem). Among (IsNamedComp texts) item.body) spec.symbols) d
    → IsFirst (IsUnknown spec env) r
unknown-of spec env texts same sets are names uses a b d r s e f of_names of_rules of_symbols = unknown spec env sets are names uses a b d r s e f of_names
    (subst (λ (ts : List (List ℕ)). IsFirst (Among (λ (q : RuleItem). Among (IsForeignComp ts q) q.body) spec.rules) b) (sym same) of_rules)
    (subst (λ (ts : List (List ℕ)). IsFirst (Among (λ (item : SymbolItem). Among (IsNamedComp ts) item.body) spec.symbols) d) (sym same) of_symbols)
