-- The sources and shields of a CONSTITUENTS, by symbol number, are those of the definition.
use Rattle.std.specs.Prelude.{Contains, slice_get, ◌||◌, map, find, nat_eq, nat_lt, position, if◌then◌else◌, option_map, option_and_then, is_some, unwrap_or}
use Rattle.std.specs.List.{list_any}
use Rattle.std.proofs.Common.{◌≡◌, ◌∙◌, ℕ, suc, ◌≤◌, inl, inr, Bool, true, false, List, [], ◌∷◌, length, Option, Some, None, refl, sym, ap, subst, arith, eqb-true, eq-eqb}
use Rattle.std.proofs.lemmas.Bool.Decides.{nat_tests}
use Rattle.std.proofs.lemmas.Option.{slice_get_within, slice_get-map}
use Rattle.lido_base.specs.Environment.{Environment}
use Rattle.lido_base.specs.declared.ids.AttrId.{AttrId}
use Rattle.lido_base.specs.declared.ids.StrId.{StrId}
use Rattle.lido_base.proofs.Lists.{contains-nil, contains-cons, place-contains}
use Rattle.lido_syntax.specs.declared.spec.Spec.{Spec}
use Rattle.lido_syntax.specs.declared.spec.Cons.{Cons}
use Rattle.lido_syntax.specs.declared.spec.Pair.{Pair}
use Rattle.lido_syntax.specs.Production.{name_of}
use Rattle.lido_syntax.specs.Sets.{stands_for}
use Rattle.lido_syntax.specs.Including.{listed}
use Rattle.lido_symbols.specs.FromText.{IsFromText}
use Rattle.lido_symbols.specs.Numbers.{place_in}
use Rattle.lido_symbols.proofs.PlacesLemmas.{place_found, place_missed}
use Rattle.flat_grammar.specs.declared.flat.FlatAttr.{FlatAttr}
use Rattle.least_paths.specs.Graph.{is_in}
use Rattle.rule_tables.specs.declared.table.Tables.{Tables as Rows}
use Rattle.rule_tables.specs.declared.table.SymbolRow.{SymbolRow}
use Rattle.rule_tables.specs.declared.forced.Forced.{Forced}
use Rattle.rule_tables.specs.ForcedOf.{AreForcedOf, AreNumbersOf}
use Rattle.rule_tables.specs.Needs.{Tables as Numbered, listed_at, source_at, shield_at}
use Rattle.rule_tables.specs.TablesOf.{named_symbols, IsRowOf}
use Rattle.need_graphs.specs.Clear.{AreClear}
use Rattle.constituents_expand.specs.declared.symbols.Symbols.{Symbols}
use Rattle.constituents_expand.specs.declared.weights.Gathering.{Gathering}
use Rattle.constituents_expand.specs.Listings.{AreSymbols, listed_by, shielded_by}
use Rattle.constituents_expand.specs.Uses.{Standing, text_uses}
use Rattle.constituents_expand.specs.Named.{AreNamed}
use Rattle.constituents_expand.specs.Weights.{source_in}
use Rattle.constituents_expand.specs.Gatherings.{id_at, id_of, source_by, is_source}
use Rattle.constituents_expand.proofs.ListingLemmas.{text, row-at, cell-at, listed-row, shielded-row, listed-cell, shielded-cell}
use Rattle.constituents_expand.proofs.FaultLemmas.{IsFoundIn, found-in, has-listed}
use Rattle.constituents_expand.proofs.ShareLemmas.{IsSourceAt}

-- the first place at which a test passes
place-there : {X : Type 0} (p : X → Bool) (xs : List X) (x : X) → Contains xs x → p x ≡ true → (y : X) × (slice_get xs (place_in p xs) ≡ Some y) × (p y ≡ true)
place-there p [] x m h = absurd (contains-nil x m)
place-there {X} p (z ∷ xs) x m h = by (p z) refl (λ k. place-there p xs x k h)
  where
    by : (b : Bool) → p z ≡ b → (Contains xs x → (y : X) × (slice_get xs (place_in p xs) ≡ Some y) × (p y ≡ true)) → (y : X) × (slice_get (z ∷ xs) (if b then 0 else suc (place_in p xs)) ≡ Some y) × (p y ≡ true)
    by true e more = (z, refl, e)
    by false e more = elim (contains-cons z x xs m) [
      | inl same ↦ (let wrong : true ≡ false = sym h ∙ ap p (sym same) ∙ e in absurd (cc))
      | inr k ↦ more k
    ]

-- the attribute of that name has a number
id-there : (row : SymbolRow) (a : ℕ) (x : FlatAttr) → Contains row.attrs x → x.name.0 ≡ a → length row.attrs ≤ 65536 → (id : AttrId) × (id_of row a ≡ Some id) × (y : FlatAttr) × (slice_get row.attrs id.0 ≡ Some y) × (y.name.0 ≡ a)
id-there row a x m e few = by (position test row.attrs) refl
  where
    test : FlatAttr → Bool
    test y = nat_eq y.name.0 a

    found : (y : FlatAttr) × (slice_get row.attrs (place_in (λ (y : FlatAttr). nat_eq y.name.0 a) row.attrs) ≡ Some y) × (nat_eq y.name.0 a ≡ true)
    found = place-there (λ (y : FlatAttr). nat_eq y.name.0 a) row.attrs x m (eq-eqb x.name.0 a e)

    by : (o : Option ℕ) → position (λ (y : FlatAttr). nat_eq y.name.0 a) row.attrs ≡ o → (id : AttrId) × (id_of row a ≡ Some id) × (y : FlatAttr) × (slice_get row.attrs id.0 ≡ Some y) × (y.name.0 ≡ a)
    by None p = let missed = place_missed (λ (y : FlatAttr). nat_eq y.name.0 a) row.attrs p in let within = slice_get_within row.attrs _ found.0 found.1 in absurd (omega (arith, missed, within))
    by (Some k) p =
        let same = place_found (λ (y : FlatAttr). nat_eq y.name.0 a) row.attrs k p in
        let at : slice_get row.attrs k ≡ Some found.0 = ap (slice_get row.attrs) same ∙ found.1 in
        let within = slice_get_within row.attrs k found.0 at in
        let small : nat_lt k 65536 ≡ true = grind (arith, nat_tests) in
        (record { 0 = k }, ap id_at p ∙ ap (λ b. if b then Some (record { 0 = k }) else None) small, found.0, at, eqb-true found.0.name.0 a found.2)

some-same : (t : Rows) (x : ℕ) (o : Option AttrId) (q : Option ℕ) → IsSourceAt t x o q → is_some o ≡ is_some q
some-same t x None None h = refl
some-same t x (Some id) (Some a) h = refl
some-same t x None (Some a) h = absurd h
some-same t x (Some id) None h = absurd h

-- what is found is there
found-some : {X Y : Type 0} (f : X → Y) (p : X → Bool) (xs : List X) → is_some (option_map f (find p xs)) ≡ list_any p xs
found-some f p [] = refl
found-some f p (x ∷ xs) = by (p x) (found-some f p xs)
  where
    by : (b : Bool) → is_some (option_map f (find p xs)) ≡ list_any p xs → is_some (option_map f (if b then Some x else find p xs)) ≡ (b || list_any p xs)
    by true e = refl
    by false e = e

module _ (env : Environment) (forced : Forced) (are : AreForcedOf env forced) (T : Numbered forced.tables.spec) (numbers : AreNumbersOf env forced T) (clear : AreClear forced.tables.spec) (from : IsFromText forced.tables.spec)
    (sound : AreNamed forced.tables.spec) (few : (row : SymbolRow) → Contains forced.tables.symbols row → length row.attrs ≤ 65536) (symbols : Symbols) (inherit : AreSymbols forced.tables.spec symbols) where
  abbrev t : Rows
  t = forced.tables

  abbrev spec : Spec
  spec = t.spec

  abbrev names : List ℕ
  names = named_symbols t

  module _ (u : Standing) (m : Contains (text_uses spec) u) where
    abbrev k : Cons
    k = u.constituents

    source-row : (x s : ℕ) (row : SymbolRow) → slice_get t.symbols x ≡ Some row → IsRowOf spec env names s row → IsSourceAt t x (source_by symbols k.pairs row) (listed spec T.sets k.pairs s)
    source-row x s row at its = by (listed_by symbols k.pairs row) refl
      where
        f : IsFoundIn spec u
        f = found-in spec u m

        told : option_map text (listed_by symbols k.pairs row) ≡ listed spec T.sets k.pairs s
        told = listed-row env t are.tables clear symbols inherit T.sets s row its k.pairs

        by : (o : Option StrId) → listed_by symbols k.pairs row ≡ o → IsSourceAt t x (source_by symbols k.pairs row) (listed spec T.sets k.pairs s)
        by None e =
            let none : None ≡ listed spec T.sets k.pairs s = sym (ap (option_map text) e) ∙ told in
            let source : None ≡ source_by symbols k.pairs row = sym (ap (λ (o : Option StrId). elim o as (λ _. Option AttrId) [ None ↦ None | Some a ↦ id_of row a.0 ]) e) in
            subst (λ o. IsSourceAt t x (source_by symbols k.pairs row) o) none (subst (λ o. IsSourceAt t x o None) source tt)
        by (Some a) e =
            let some : Some a.0 ≡ listed spec T.sets k.pairs s = sym (ap (option_map text) e) ∙ told in
            let (attr, among, name) = its.attrs.all a.0 (has-listed spec from sound T.sets f.comp k s a.0 f.of_text f.leaf (sym some)) in
            let (id, is, y, there, same) = id-there row a.0 attr among name (few row (place-contains t.symbols x row at)) in
            let source : Some id ≡ source_by symbols k.pairs row = sym (ap (λ (o : Option StrId). elim o as (λ _. Option AttrId) [ None ↦ None | Some a ↦ id_of row a.0 ]) e ∙ is) in
            subst (λ o. IsSourceAt t x (source_by symbols k.pairs row) o) some (subst (λ o. IsSourceAt t x o (Some a.0)) source (row, y, at, there, same))

    module _ (g : Gathering) (sources : g.sources ≡ map (source_by symbols k.pairs) t.symbols) (shields : g.shields ≡ map (shielded_by symbols k.shield) t.symbols) where
      source-row-in : (x : ℕ) → source_in g x ≡ unwrap_or (option_map (source_by symbols k.pairs) (slice_get t.symbols x)) None
      source-row-in x = ap (λ (l : List (Option AttrId)). unwrap_or (slice_get l x) None) sources ∙ ap (λ (o : Option (Option AttrId)). unwrap_or o None) (slice_get-map (source_by symbols k.pairs) t.symbols x)

      listed-named : (x : ℕ) → option_and_then (listed spec T.sets k.pairs) (slice_get names x) ≡ listed_at spec T k.pairs x
      listed-named x = ap (λ l. option_and_then (listed spec T.sets k.pairs) (slice_get l x)) (sym numbers.symbols)

      no-source : (x : ℕ) → slice_get names x ≡ None → (o : Option SymbolRow) → slice_get t.symbols x ≡ o → unwrap_or (option_map (source_by symbols k.pairs) o) None ≡ None
      no-source x none None e = refl
      no-source x none (Some row) e = ap (λ (o : Option StrId). elim o as (λ _. Option AttrId) [ None ↦ None | Some a ↦ id_of row a.0 ]) (listed-cell env t are.tables symbols k.pairs row (cell-at env t are.tables x row none e))

      pub source-at : (x : ℕ) → IsSourceAt t x (source_in g x) (listed_at spec T k.pairs x)
      source-at x = subst (λ o. IsSourceAt t x (source_in g x) o) (listed-named x) (subst (λ o. IsSourceAt t x o (option_and_then (listed spec T.sets k.pairs) (slice_get names x))) (sym (source-row-in x)) (by (slice_get names x) refl))
        where
          by : (o : Option ℕ) → slice_get names x ≡ o → IsSourceAt t x (unwrap_or (option_map (source_by symbols k.pairs) (slice_get t.symbols x)) None) (option_and_then (listed spec T.sets k.pairs) (slice_get names x))
          by None e = subst (λ o. IsSourceAt t x (unwrap_or (option_map (source_by symbols k.pairs) (slice_get t.symbols x)) None) (option_and_then (listed spec T.sets k.pairs) o)) (sym e)
              (subst (λ o. IsSourceAt t x o None) (sym (no-source x e (slice_get t.symbols x) refl)) tt)
          by (Some s) e =
              let (row, at, its) = row-at env t are.tables x s e in
              subst (λ o. IsSourceAt t x (unwrap_or (option_map (source_by symbols k.pairs) (slice_get t.symbols x)) None) (option_and_then (listed spec T.sets k.pairs) o)) (sym e)
              (subst (λ o. IsSourceAt t x (unwrap_or (option_map (source_by symbols k.pairs) o) None) (listed spec T.sets k.pairs s)) (sym at) (source-row x s row at its))

      pub sources-same : (x : ℕ) → is_in (map is_source g.sources) x ≡ source_at spec T k x
      sources-same x = first (slice_get g.sources x) (slice_get-map is_source g.sources x) ∙ some-same t x (source_in g x) (listed_at spec T k.pairs x) (source-at x) ∙ last (slice_get T.symbols x)
        where
          first : (o : Option (Option AttrId)) → slice_get (map is_source g.sources) x ≡ option_map is_source o → unwrap_or (slice_get (map is_source g.sources) x) false ≡ is_some (unwrap_or o None)
          first None e = ap (λ (b : Option Bool). unwrap_or b false) e
          first (Some o) e = ap (λ (b : Option Bool). unwrap_or b false) e

          last : (o : Option ℕ) → is_some (option_and_then (listed spec T.sets k.pairs) o) ≡ (elim o as (λ _. Bool) [ None ↦ false | Some s ↦ list_any (λ (p : Pair). stands_for spec T.sets.inherits s p.sym) k.pairs ])
          last None = refl
          last (Some s) = found-some (λ (p : Pair). name_of p.attr) (λ (p : Pair). stands_for spec T.sets.inherits s p.sym) k.pairs

      pub shields-same : (x : ℕ) → is_in g.shields x ≡ shield_at spec T k x
      shields-same x =
          ap (λ (l : List Bool). unwrap_or (slice_get l x) false) shields ∙ ap (λ (o : Option Bool). unwrap_or o false) (slice_get-map (shielded_by symbols k.shield) t.symbols x)
          ∙ by (slice_get names x) refl ∙ ap (λ (l : List ℕ). elim (slice_get l x) as (λ _. Bool) [ None ↦ false | Some s ↦ list_any (stands_for spec T.sets.inherits s) k.shield ]) (sym numbers.symbols)
        where
          none : slice_get names x ≡ None → (o : Option SymbolRow) → slice_get t.symbols x ≡ o → unwrap_or (option_map (shielded_by symbols k.shield) o) false ≡ false
          none e None f = refl
          none e (Some row) f = shielded-cell env t are.tables symbols k.shield row (cell-at env t are.tables x row e f)

          by : (o : Option ℕ) → slice_get names x ≡ o
              → unwrap_or (option_map (shielded_by symbols k.shield) (slice_get t.symbols x)) false ≡ (elim (slice_get names x) as (λ _. Bool) [ None ↦ false | Some s ↦ list_any (stands_for spec T.sets.inherits s) k.shield ])
          by None e = none e (slice_get t.symbols x) refl ∙ sym (ap (λ (o : Option ℕ). elim o as (λ _. Bool) [ None ↦ false | Some s ↦ list_any (stands_for spec T.sets.inherits s) k.shield ]) e)
          by (Some s) e =
              let (row, at, its) = row-at env t are.tables x s e in
              ap (λ (o : Option SymbolRow). unwrap_or (option_map (shielded_by symbols k.shield) o) false) at ∙ shielded-row env t are.tables clear symbols inherit T.sets s row its k
              ∙ sym (ap (λ (o : Option ℕ). elim o as (λ _. Bool) [ None ↦ false | Some s ↦ list_any (stands_for spec T.sets.inherits s) k.shield ]) e)
