-- The CONSTITUENTS that lack a WITH by the tables are those of the definition.
use Rattle.std.specs.Prelude.{Contains, IsTrue, slice_get, ◌&&◌, ◌||◌, not, nat_eq, find, option_map, flat_map, map, if◌then◌else◌}
use Rattle.std.specs.List.{list_any}
use Rattle.std.proofs.Common.{◌≡◌, ◌∙◌, ℕ, ◌<◌, ◌⊎◌, length, inl, inr, Bool, true, false, List, [], ◌∷◌, ◌++◌, Option, Some, None, refl, sym, ap, subst, eqb-true, eq-eqb, append_assoc}
use Rattle.std.proofs.lemmas.Option.{none-some, same_Some}
use Rattle.std.proofs.lemmas.List.Elements.{All-contains, Contains-append_left, Contains-append_right, Contains-append_cases}
use Rattle.lido_base.specs.Environment.{Environment}
use Rattle.lido_base.specs.declared.ids.StrId.{StrId}
use Rattle.lido_base.specs.declared.value.ValueType.{ValueType}
use Rattle.lido_base.specs.declared.value.ValueType.TheVariants as type
use Rattle.lido_base.proofs.Lists.{contains-map, map-contains, contains-flat, flat-contains, contains-place, place-contains, place-below, contains-here, contains-later}
use Rattle.lido_base.proofs.TreeLemmas.{contains-test, test-contains}
use Rattle.lido_syntax.specs.declared.spec.Spec.{Spec}
use Rattle.lido_syntax.specs.declared.spec.Comp.{Comp}
use Rattle.lido_syntax.specs.declared.spec.Cons.{Cons}
use Rattle.lido_syntax.specs.declared.spec.With.{With}
use Rattle.lido_syntax.specs.declared.spec.Pair.{Pair}
use Rattle.lido_syntax.specs.declared.spec.Place.TheVariants as place
use Rattle.lido_syntax.specs.declared.spec.RuleItem.{RuleItem}
use Rattle.lido_syntax.specs.declared.spec.SymbolItem.{SymbolItem}
use Rattle.lido_syntax.specs.declared.spec.Expr.{Expr, Constituents}
use Rattle.lido_syntax.specs.Parts.{leaves, leaves_of, conditions, expressions_of}
use Rattle.lido_syntax.specs.Production.{name_of, left_of, right_of}
use Rattle.lido_syntax.specs.Symbols.{is_nonterminal, IsChain}
use Rattle.lido_syntax.specs.Sets.{Sets, stands_for, names_of}
use Rattle.lido_syntax.specs.Including.{listed}
use Rattle.lido_syntax.specs.Attributes.{Has, HasType, InText, IsNamed, IsUse, use_of_pair}
use Rattle.lido_symbols.specs.FromText.{IsFromText}
use Rattle.lido_symbols.specs.Uses.{computations, all_constituents, constituents_of}
use Rattle.flat_grammar.specs.declared.flat.FlatAttr.{FlatAttr}
use Rattle.symbol_attributes.specs.Written.{IsWrittenAttribute}
use Rattle.symbol_attributes.proofs.UsesLemmas.{of-leaf}
use Rattle.rule_tables.specs.declared.table.Tables.{Tables}
use Rattle.rule_tables.specs.declared.table.SymbolRow.{SymbolRow}
use Rattle.rule_tables.specs.ExpansionFaults.{leaves_of_value, IsWithoutWith}
use Rattle.rule_tables.specs.Needs.{Tables as Numbered}
use Rattle.rule_tables.specs.TablesOf.{named_symbols, AreTablesOf, IsRowOf}
use Rattle.rule_tables.proofs.NeedsLemmas.{any-found}
use Rattle.need_graphs.specs.Clear.{AreClear}
use Rattle.need_graphs.proofs.ListLemmas.{contains-filtered, filtered-contains}
use Rattle.need_graphs.proofs.EdgeLemmas.{found-any}
use Rattle.need_graphs.proofs.RangeLemmas.{named}
use Rattle.constituents_expand.specs.declared.symbols.Symbols.{Symbols}
use Rattle.constituents_expand.specs.Listings.{AreSymbols, is_nonterminal_class, listed_by, gives_value, is_void}
use Rattle.constituents_expand.specs.Uses.{Standing, use_of, uses_in, uses_of, text_uses}
use Rattle.constituents_expand.specs.Faults.{is_without, IsLackAt}
use Rattle.constituents_expand.specs.Named.{AreNamed}
use Rattle.constituents_expand.proofs.ListingLemmas.{text, row-at, cell-at, kind-same, listed-row}

-- a leaf that is a CONSTITUENTS
kept-use : (n : ℕ) (valued : Bool) (e : Expr) (u : Standing) → use_of n valued e ≡ Some u → (e ≡ Constituents u.constituents) × (u.comp ≡ n) × (u.valued ≡ valued)
kept-use n valued (Constituents k) u e =
    let same : (record { comp = n; valued = valued; constituents = k }) ≡ u = same_Some _ _ e in
    (ap (λ (w : Standing). Constituents w.constituents) same, sym (ap (λ (w : Standing). w.comp) same), sym (ap (λ (w : Standing). w.valued) same))
kept-use n valued _ u e = absurd (none-some _ e)

-- one of these expressions of that computation has it
in-some : (n : ℕ) (valued : Bool) (es : List Expr) (u : Standing) → Contains (flat_map (uses_in n valued) es) u
    → Contains (flat_map leaves es) (Constituents u.constituents) × (u.comp ≡ n) × (u.valued ≡ valued)
in-some n valued es u m =
    let (e, among, here) = contains-flat (uses_in n valued) es u m in
    let (leaf, of, made) = contains-filtered (use_of n valued) (leaves e) u here in
    let (same, number, told) = kept-use n valued leaf u made in
    (flat-contains leaves es e (Constituents u.constituents) among (subst (Contains (leaves e)) same of), number, told)

some-in : (n : ℕ) (valued : Bool) (es : List Expr) (k : Cons) → Contains (flat_map leaves es) (Constituents k) → Contains (flat_map (uses_in n valued) es) (record { comp = n; valued = valued; constituents = k })
some-in n valued es k m =
    let (e, among, here) = contains-flat leaves es (Constituents k) m in
    flat-contains (uses_in n valued) es e _ among (filtered-contains (use_of n valued) (leaves e) (Constituents k) _ here refl)

-- what stands in front of `<-` and behind it
front-of : (c : Comp) (e : Expr) → Contains (leaves_of_value c) e → Contains (leaves_of c) e
front-of c e m =
    let (x, among, here) = contains-flat leaves (conditions c.target ++ c.value ∷ []) e m in
    flat-contains leaves (expressions_of c) x e (subst (λ l. Contains l x) (append_assoc (conditions c.target) (c.value ∷ []) c.after) (Contains-append_left (conditions c.target ++ c.value ∷ []) c.after x among)) here

after-of : (c : Comp) (e : Expr) → Contains (flat_map leaves c.after) e → Contains (leaves_of c) e
after-of c e m =
    let (x, among, here) = contains-flat leaves c.after e m in
    flat-contains leaves (expressions_of c) x e (subst (λ l. Contains l x) (append_assoc (conditions c.target) (c.value ∷ []) c.after) (Contains-append_right (conditions c.target ++ c.value ∷ []) c.after x among)) here

-- where a CONSTITUENTS stands
pub record IsFoundIn (spec : Spec) (u : Standing) : Type 0 where
  pub comp : Comp
  pub of_text : Contains (computations spec) comp
  pub number : u.comp ≡ comp.number
  pub leaf : Contains (leaves_of comp) (Constituents u.constituents)
  pub in_value : u.valued ≡ true → Contains (leaves_of_value comp) (Constituents u.constituents)

pub found-in : (spec : Spec) (u : Standing) → Contains (text_uses spec) u → IsFoundIn spec u
found-in spec u m = elim (Contains-append_cases (flat_map (uses_in c.number true) front) (flat_map (uses_in c.number false) c.after) u of) [
  | inl h ↦ (let (there, n, told) = in-some c.number true front u h in record { comp = c; of_text = among; number = n; leaf = front-of c _ there; in_value = λ e. there })
  | inr h ↦ (let (there, n, told) = in-some c.number false c.after u h in record { comp = c; of_text = among; number = n; leaf = after-of c _ there; in_value = λ e. (let wrong : true ≡ false = sym e ∙ told in absurd (cc)) })
]
  where
    it : (c : Comp) × Contains (computations spec) c × Contains (uses_of c) u
    it = contains-flat uses_of (computations spec) u m

    c : Comp
    c = it.0

    among : Contains (computations spec) c
    among = it.1

    of : Contains (uses_of c) u
    of = it.2

    front : List Expr
    front = conditions c.target ++ c.value ∷ []

pub value-found : (spec : Spec) (c : Comp) (k : Cons) → Contains (computations spec) c → Contains (leaves_of_value c) (Constituents k) → Contains (text_uses spec) (record { comp = c.number; valued = true; constituents = k })
value-found spec c k among m = flat-contains uses_of (computations spec) c _ among
    (Contains-append_left (flat_map (uses_in c.number true) (conditions c.target ++ c.value ∷ [])) (flat_map (uses_in c.number false) c.after) _ (some-in c.number true (conditions c.target ++ c.value ∷ []) k m))

-- a leaf of a computation is one, in front of `<-` or behind it
pub leaf-found : (spec : Spec) (c : Comp) (k : Cons) → Contains (computations spec) c → Contains (leaves_of c) (Constituents k) → (valued : Bool) × Contains (text_uses spec) (record { comp = c.number; valued = valued; constituents = k })
leaf-found spec c k among m =
    let front = conditions c.target ++ c.value ∷ [] in
    let (x, of, here) = contains-flat leaves (expressions_of c) (Constituents k) m in
    elim (Contains-append_cases front c.after x (subst (λ l. Contains l x) (sym (append_assoc (conditions c.target) (c.value ∷ []) c.after)) of)) [
      | inl h ↦ (true, value-found spec c k among (flat-contains leaves front x (Constituents k) h here))
      | inr h ↦ (
        false,
        flat-contains uses_of (computations spec) c _ among
            (Contains-append_right (flat_map (uses_in c.number true) front) (flat_map (uses_in c.number false) c.after) _ (some-in c.number false c.after k (flat-contains leaves c.after x (Constituents k) h here))),
      )
    ]

-- it is one of all
pub one-of-all : (spec : Spec) (c : Comp) (k : Cons) → Contains (computations spec) c → Contains (leaves_of c) (Constituents k) → Contains (all_constituents spec) (k.number, k)
one-of-all spec c k among m = filtered-contains constituents_of (flat_map leaves_of (computations spec)) (Constituents k) (k.number, k) (flat-contains leaves_of (computations spec) c (Constituents k) among m) refl

-- a computation of the text
pub in-text : (spec : Spec) → IsFromText spec → (c : Comp) → Contains (computations spec) c → InText spec c
in-text spec from c m = elim (Contains-append_cases (flat_map (λ (r : RuleItem). r.body) spec.rules) (flat_map (λ (item : SymbolItem). item.body) spec.symbols) c m) [
  | inl h ↦ inl (contains-flat (λ (r : RuleItem). r.body) spec.rules c h)
  | inr h ↦ (let (item, among, here) = contains-flat (λ (item : SymbolItem). item.body) spec.symbols c h in
      let (x, first) = place-below item.names 0 (All-contains (λ (item : SymbolItem). 0 < length item.names) spec.symbols item from.about among) in
      let s = name_of x in
      inr (s, (item, among, test-contains s (names_of item) (map-contains name_of item.names x (place-contains item.names 0 x first)), here)))
]

-- of the pairs one that stands for the symbol lists the attribute
pub listing-pair : (spec : Spec) (sets : Sets spec) (pairs : List Pair) (s a : ℕ) → listed spec sets pairs s ≡ Some a → (p : Pair) × Contains pairs p × IsTrue (stands_for spec sets.inherits s p.sym) × (name_of p.attr ≡ a)
listing-pair spec sets [] s a e = absurd (none-some _ e)
listing-pair spec sets (p ∷ ps) s a e = by (stands_for spec sets.inherits s p.sym) refl e (listing-pair spec sets ps s a)
  where
    by : (b : Bool) → stands_for spec sets.inherits s p.sym ≡ b → option_map (λ (p : Pair). name_of p.attr) (if b then Some p else find (λ p. stands_for spec sets.inherits s p.sym) ps) ≡ Some a
        → (listed spec sets ps s ≡ Some a → (q : Pair) × Contains ps q × IsTrue (stands_for spec sets.inherits s q.sym) × (name_of q.attr ≡ a))
        → (q : Pair) × Contains (p ∷ ps) q × IsTrue (stands_for spec sets.inherits s q.sym) × (name_of q.attr ≡ a)
    by true h e more = (p, contains-here p ps, h, same_Some _ _ e)
    by false h e more = let (q, among, is, same) = more e in (q, contains-later p q ps among, is, same)

pub or-cases : (a b : Bool) → IsTrue (a || b) → IsTrue a ⊎ IsTrue b
or-cases true b h = inl refl
or-cases false b h = inr h

pub and-both : (a b : Bool) → IsTrue (a && b) → IsTrue a × IsTrue b
and-both true b h = (refl, h)
and-both false b h = absurd (cc)

pub both-and : (a b : Bool) → IsTrue a → IsTrue b → IsTrue (a && b)
both-and a b p q = ap (λ c. c && b) p ∙ q

module _ (spec : Spec) (from : IsFromText spec) (sound : AreNamed spec) (sets : Sets spec) where
  -- what is listed is an attribute of the symbol
  pub has-listed : (c : Comp) (k : Cons) (s a : ℕ) → Contains (computations spec) c → Contains (leaves_of c) (Constituents k) → listed spec sets k.pairs s ≡ Some a → Has spec s a
  has-listed c k s a among leaf e =
      let (p, of, stands, same) = listing-pair spec sets k.pairs s a e in
      let no_chain : ¬ IsChain spec a = subst (λ z. ¬ IsChain spec z) same (sound.chains (k.number, k) p (one-of-all spec c k among leaf) of) in
      let used : IsUse spec c (place.Named p.sym None) a = (p.attr, of-leaf c (Constituents k) (use_of_pair p) leaf (map-contains use_of_pair k.pairs p of), same, no_chain) in
      let there : IsNamed spec (name_of p.sym) a = IsNamed.by_name c p.sym None (in-text spec from c among) used refl in
      elim (or-cases (nat_eq (name_of p.sym) s) (is_nonterminal spec s && sets.inherits s (name_of p.sym)) stands) [
        | inl h ↦ inl (subst (λ z. IsNamed spec z a) (eqb-true (name_of p.sym) s h) there)
        | inr h ↦ inr (name_of p.sym, (sets.inherits_exactly s (name_of p.sym)).0 ((and-both (is_nonterminal spec s) (sets.inherits s (name_of p.sym)) h).1), there)
      ]

void-test : (ty : ValueType) → is_void ty ≡ false → ty ≡ type.Void → ⊥
void-test ty h e = let wrong : true ≡ false = sym (ap is_void e) ∙ h in cc

test-void : (ty : ValueType) → (ty ≡ type.Void → ⊥) → is_void ty ≡ false
test-void type.Void h = absurd (h refl)
test-void _ h = refl

not-true : (b : Bool) → IsTrue (not b) → b ≡ false
not-true true h = absurd (cc)
not-true false h = refl

without-none : (o : Option With) → IsTrue (is_without o) → o ≡ None
without-none None h = refl
without-none (Some with) h = absurd (cc)

module _ (env : Environment) (t : Tables) (is : AreTablesOf env t) (clear : AreClear t.spec) (from : IsFromText t.spec) (sound : AreNamed t.spec) (T : Numbered t.spec) (symbols : Symbols) (inherit : AreSymbols t.spec symbols) where
  abbrev names : List ℕ
  names = named_symbols t

  -- the row lists an attribute that isn't VOID
  value-to : (row : SymbolRow) (o : Option StrId) → IsTrue (gives_value row o) → (a : StrId) × (x : FlatAttr) × (o ≡ Some a) × IsTrue (is_nonterminal_class row.class) × Contains row.attrs x × (x.name.0 ≡ a.0) × (x.ty ≡ type.Void → ⊥)
  value-to row None h = absurd (cc)
  value-to row (Some a) h =
      let (nt, any) = and-both (is_nonterminal_class row.class) (list_any (λ (x : FlatAttr). nat_eq x.name.0 a.0 && not (is_void x.ty)) row.attrs) h in
      let (x, among, b) = any-found (λ (x : FlatAttr). nat_eq x.name.0 a.0 && not (is_void x.ty)) row.attrs any in
      let (same, ty) = and-both (nat_eq x.name.0 a.0) (not (is_void x.ty)) b in
      (a, x, refl, nt, among, eqb-true x.name.0 a.0 same, void-test x.ty (not-true (is_void x.ty) ty))

  -- a nonterminal's row is that of a symbol
  symbol-of : (x : ℕ) (row : SymbolRow) → slice_get t.symbols x ≡ Some row → IsTrue (is_nonterminal_class row.class) → (s : ℕ) × IsRowOf t.spec env names s row
  symbol-of x row at nt = by (slice_get names x) refl
    where
      by : (o : Option ℕ) → slice_get names x ≡ o → (s : ℕ) × IsRowOf t.spec env names s row
      by None e = let wrong : false ≡ true = sym (ap is_nonterminal_class (cell-at env t is x row e at)) ∙ nt in absurd (cc)
      by (Some s) e = (s, is.rows x s row e at)

  pub lack-to : (u : Standing) (at : ℕ) → Contains (text_uses t.spec) u → IsLackAt symbols t.symbols u at → IsWithoutWith t.spec env T at
  lack-to u at m h =
      let k = u.constituents in
      let place = found-in t.spec u m in
      let (front, any) = and-both (is_without k.with && u.valued) (list_any (λ row. gives_value row (listed_by symbols k.pairs row)) t.symbols) h.0 in
      let (without, valued) = and-both (is_without k.with) u.valued front in
      let (row, among, gives) = any-found (λ row. gives_value row (listed_by symbols k.pairs row)) t.symbols any in
      let (x, there) = contains-place t.symbols row among in
      let (a, attr, of, nt, its_attr, name, value) = value-to row (listed_by symbols k.pairs row) gives in
      let (s, its) = symbol-of x row there nt in
      record {
        comp = place.comp;
        constituents = k;
        s = s;
        a = a.0;
        ty = attr.ty;
        of_text = place.of_text;
        in_value = place.in_value valued;
        without = without-none k.with without;
        nonterminal = sym (kind-same env t is clear s row its) ∙ nt;
        source = sym (listed-row env t is clear symbols inherit T.sets s row its k.pairs) ∙ ap (option_map text) of;
        its_type = subst (λ n. HasType t.spec s n attr.ty) name (All-contains (IsWrittenAttribute t.spec s) row.attrs attr its.attrs.each its_attr).ty;
        not_void = value;
        place = h.1;
      }

  some-text : (o : Option StrId) (a : ℕ) → option_map text o ≡ Some a → (b : StrId) × (o ≡ Some b) × (b.0 ≡ a)
  some-text None a e = absurd (none-some _ e)
  some-text (Some b) a e = (b, refl, same_Some _ _ e)

  pub lack-from : (at : ℕ) → IsWithoutWith t.spec env T at → (u : Standing) × Contains (text_uses t.spec) u × IsLackAt symbols t.symbols u at
  lack-from at h =
      let u : Standing = record { comp = h.comp.number; valued = true; constituents = h.constituents } in
      let k = h.constituents in
      let (r, of_rules, left) = contains-map left_of t.spec.rules h.s (contains-test h.s (map left_of t.spec.rules) h.nonterminal) in
      let (x, at_name) = contains-place names h.s (subst (Contains names) left (named t env is r of_rules (left_of r) (contains-here (left_of r) (right_of r)))) in
      let (row, there, its) = row-at env t is x h.s at_name in
      let (b, gets, same) = some-text (listed_by symbols k.pairs row) h.a (listed-row env t is clear symbols inherit T.sets h.s row its k.pairs ∙ h.source) in
      let (attr, its_attr, name) = its.attrs.all h.a (has-listed t.spec from sound T.sets h.comp k h.s h.a h.of_text (front-of h.comp (Constituents k) h.in_value) h.source) in
      let ty = sound.types h.s h.a attr.ty h.ty (subst (λ n. HasType t.spec h.s n attr.ty) name (All-contains (IsWrittenAttribute t.spec h.s) row.attrs attr its.attrs.each its_attr).ty) h.its_type in
      let test : FlatAttr → Bool = λ x. nat_eq x.name.0 b.0 && not (is_void x.ty) in
      let good : IsTrue (test attr) = both-and (nat_eq attr.name.0 b.0) (not (is_void attr.ty)) (eq-eqb attr.name.0 b.0 (name ∙ sym same)) (ap not (test-void attr.ty (λ e. h.not_void (sym ty ∙ e)))) in
      let gives : IsTrue (gives_value row (listed_by symbols k.pairs row)) = subst (λ o. IsTrue (gives_value row o)) (sym gets)
      (both-and (is_nonterminal_class row.class) (list_any test row.attrs) (kind-same env t is clear h.s row its ∙ h.nonterminal) (found-any test row.attrs attr its_attr good)) in (
        u,
        value-found t.spec h.comp k h.of_text h.in_value,
        (
          both-and (is_without k.with && true) (list_any (λ row. gives_value row (listed_by symbols k.pairs row)) t.symbols) (ap (λ o. is_without o && true) h.without) (found-any (λ row. gives_value row (listed_by symbols k.pairs row)) t.symbols row (place-contains t.symbols x row there) gives),
          h.place,
        ),
      )
