-- The attributes and computations that INCLUDINGs add are those of the definition.
use Rattle.std.specs.Prelude.{IsTrue, Contains, slice_get, map, option_map, if◌then◌else◌, unwrap_or}
use Rattle.std.specs.List.{AllZip}
use Rattle.std.proofs.Common.{◌≡◌, ◌∙◌, ℕ, suc, ◌<◌, ◌≤◌, Bool, true, List, [], length, Option, Some, None, refl, sym, ap, subst}
use Rattle.std.proofs.lemmas.List.Elements.{All-contains}
use Rattle.std.proofs.lemmas.Option.{none-some, same_Some, slice_get-map}
use Rattle.lido_base.specs.Environment.{Environment}
use Rattle.lido_base.specs.Reach.{Reaches, source, edge}
use Rattle.lido_base.specs.declared.ids.AttrId.{AttrId}
use Rattle.lido_base.specs.declared.ids.SymId.{SymId}
use Rattle.lido_base.proofs.Lists.{contains-flat, flat-contains, place-contains, place-below}
use Rattle.lido_syntax.specs.declared.spec.Spec.{Spec}
use Rattle.lido_syntax.specs.declared.spec.Expr.{Expr, Including}
use Rattle.lido_syntax.specs.declared.spec.Pair.{Pair}
use Rattle.lido_syntax.specs.Attributes.{use_of_pair, uses_of_part}
use Rattle.lido_syntax.specs.Parts.{leaves_of}
use Rattle.lido_symbols.specs.FromText.{IsFromText}
use Rattle.lido_symbols.specs.Numbers.{enumerated}
use Rattle.lido_symbols.specs.Uses.{computations, all_leaves, all_includings, including_of}
use Rattle.flat_grammar.specs.declared.flat.FlatRule.{FlatRule}
use Rattle.least_paths.specs.Graph.{is_in}
use Rattle.need_graphs.specs.Clear.{AreClear}
use Rattle.need_graphs.proofs.EdgeLemmas.{zip-left, zip-right}
use Rattle.need_graphs.proofs.ListLemmas.{contains-filtered, filtered-contains}
use Rattle.need_graphs.proofs.PlaceLemmas.{numbered-in, place-of-number, unmapped}
use Rattle.need_graphs.proofs.StartLemmas.{at-zip}
use Rattle.rule_tables.proofs.SlotLemmas.{zip-at}
use Rattle.rule_tables.specs.declared.table.Tables.{Tables as Rows}
use Rattle.rule_tables.specs.declared.table.SymbolRow.{SymbolRow}
use Rattle.rule_tables.specs.declared.forced.Forced.{Forced}
use Rattle.rule_tables.specs.declared.extra.ExtraAttr.{ExtraAttr}
use Rattle.rule_tables.specs.declared.extra.ExtraComp.{ExtraComp}
use Rattle.rule_tables.specs.declared.extra.Slot.TheVariants as named
use Rattle.rule_tables.specs.declared.extra.Term.TheVariants as given
use Rattle.rule_tables.specs.PlainRules.{PlainRule, plain_rules, symbol_at}
use Rattle.rule_tables.specs.Forced.{Force}
use Rattle.rule_tables.specs.ForcedOf.{AreForcedOf, AreNumbersOf}
use Rattle.rule_tables.specs.Needs.{Tables as Numbered, Needs, ruled, listed_at, uses_including, passes_including}
use Rattle.rule_tables.specs.Slots.{Slot, Written, Inc, Con, Front, Behind, Msg, Out, HasSlot}
use Rattle.rule_tables.specs.Shares.{Term, Read, including_term, IncludingShare, handed_down}
use Rattle.rule_tables.specs.ExtraOf.{IsExtraAttr, IsComputed, IsOfIncluding, IsSlotAs, IsTermAs}
use Rattle.rule_tables.specs.TablesOf.{named_symbols, IsPlainOf}
use Rattle.remote_lists.specs.declared.symbols.Symbols.{Symbols}
use Rattle.remote_lists.specs.Listings.{AreSymbols}
use Rattle.remote_lists.specs.Reach.{IsChildGraph}
use Rattle.remote_lists.specs.Sources.{source_of}
use Rattle.remote_lists.proofs.OptionLemmas.{let-through}
use Rattle.remote_lists.proofs.SourceLemmas.{IsSourceAt, IsOfText, source-at}
use Rattle.including_sets.specs.declared.sets.PairSet.{PairSet}
use Rattle.including_sets.specs.Named.{AreNamed, AreListed}
use Rattle.including_sets.specs.Sets.{IsSetOf}
use Rattle.including_expand.specs.Needed.{IsOver, IsNeedOf}
use Rattle.including_expand.specs.Extras.{needs_at, made_attr, attr_of, symbol_attrs, all_attrs, handed, made_comp, comp_of, child_comps, rule_comps, all_comps}
use Rattle.including_expand.proofs.FaultLemmas.{in-row, needing-below}

-- the pairs of an INCLUDING are those of a remote list of the text
including-uses : (at : ℕ) (pairs : List Pair) (e : Expr) → including_of e ≡ Some (at, pairs) → uses_of_part e ≡ map use_of_pair pairs
including-uses at pairs (Including n ps) e = let same : (n, ps) ≡ (at, pairs) = same_Some _ _ e in ap (λ (w : ℕ × List Pair). map use_of_pair w.1) same
including-uses at pairs _ e = absurd (none-some _ e)

remote-of : (spec : Spec) → AreNamed spec → (at : ℕ) (pairs : List Pair) → Contains (all_includings spec) (at, pairs) → IsOfText spec pairs
remote-of spec sound at pairs m =
    let (leaf, among, made) = contains-filtered including_of (all_leaves spec) (at, pairs) m in
    let (c, of_text, in_comp) = contains-flat leaves_of (computations spec) leaf among in
    record {
      comp = c;
      leaf = leaf;
      of_text = of_text;
      in_comp = in_comp;
      names = including-uses at pairs leaf made;
      chains = λ p of. sound.chains (at, pairs) p m of;
    }

-- a source is reached
source-of : (is_source : ℕ → Bool) (is_edge : ℕ → ℕ → Bool) (x : ℕ) → Reaches is_source is_edge x → (y : ℕ) × IsTrue (is_source y)
source-of is_source is_edge x (source h) = (x, h)
source-of is_source is_edge x (edge {c = c} h r) = source-of is_source is_edge c r

-- what the left side hands down is what the definition says
value-is : (t : Rows) (p : PlainRule) (i : ℕ) (o : Option AttrId) (q : Option ℕ) → IsSourceAt t p.left o q
    → IsTermAs t p (given.Read (record { occ = 0; slot = elim o [ None ↦ named.Inc i | Some id ↦ named.Written id ] })) (elim q [ Some a ↦ Read 0 (Written a) | None ↦ Read 0 (Inc i) ])
value-is t p i None None h = (refl, (p.left, refl, refl))
value-is t p i (Some id) (Some a) h = (refl, (p.left, refl, h))
value-is t p i None (Some a) h = absurd h
value-is t p i (Some id) None h = absurd h

module _ (env : Environment) (forced : Forced) (are : AreForcedOf env forced) (T : Numbered forced.tables.spec) (numbers : AreNumbersOf env forced T) (needs : Needs forced.tables.spec T)
    (clear : AreClear forced.tables.spec) (from : IsFromText forced.tables.spec) (sound : AreNamed forced.tables.spec) (few : (row : SymbolRow) → Contains forced.tables.symbols row → length row.attrs ≤ 65536)
    (listed_types : AreListed forced.tables.spec T) (symbols : Symbols) (inherit : AreSymbols forced.tables.spec symbols) (graph : List (List ℕ)) (its_graph : IsChildGraph forced.tables graph)
    (sets : List PairSet) (are_sets : AllZip (IsSetOf forced symbols T) T.includings sets) (over : (set : PairSet) → Contains sets set → IsOver graph set)
    (rows : List (List Bool)) (needed : AllZip (IsNeedOf graph) sets rows) where
  abbrev t : Rows
  t = forced.tables

  abbrev spec : Spec
  spec = t.spec

  abbrev plain : List PlainRule
  plain = plain_rules spec (named_symbols t)

  -- a set of that number
  record IsAt (i : ℕ) (pairs : List Pair) (set : PairSet) : Type 0 where
    listed : slice_get T.includings i ≡ Some pairs
    place : slice_get sets i ≡ Some set
    is : IsSetOf forced symbols T pairs set

  set-of : (i : ℕ) (pairs : List Pair) → slice_get T.includings i ≡ Some pairs → (set : PairSet) × IsAt i pairs set
  set-of i pairs at = let (set, place, is) = zip-right (IsSetOf forced symbols T) T.includings sets i pairs are_sets at in (set, record { listed = at; place = place; is = is })

  pairs-of : (d : ℕ × PairSet) → Contains (enumerated 0 sets) d → (pairs : List Pair) × IsAt d.0 pairs d.1
  pairs-of d m =
      let at = place-of-number sets d m in
      let (pairs, there, is) = zip-left (IsSetOf forced symbols T) T.includings sets d.0 d.1 are_sets at in
      (pairs, record { listed = there; place = at; is = is })

  module _ (i : ℕ) (pairs : List Pair) (set : PairSet) (at : IsAt i pairs set) where
    in-needs : (x : ℕ) → is_in (needs_at rows i) x ≡ needs.including pairs x
    in-needs x =
        let (row, there, need) = zip-right (IsNeedOf graph) sets rows i set needed at.place in
        ap (λ (o : Option (List Bool)). is_in (unwrap_or o []) x) there ∙ in-row env forced are T numbers needs clear symbols inherit graph its_graph pairs set at.is row need x

    below : (x : ℕ) → IsTrue (needs.including pairs x) → x < length t.symbols
    below = needing-below env forced are T numbers needs clear symbols inherit graph its_graph pairs set at.is (over set (place-contains sets i set at.place))

    attr-is : (x : ℕ) → IsTrue (needs.including pairs x) → IsExtraAttr t T needs (made_attr x (i, set)) x (Inc i)
    attr-is x h =
        let (y, used) = source-of (uses_including spec T pairs) (passes_including spec T pairs) x ((needs.including_exactly pairs x).0 h) in
        let (ty, one_type) = listed_types pairs y (place-contains T.includings i pairs at.listed) used in
        record { symbol = refl; slot = refl; kind = refl; ty = (pairs, at.listed, at.is.typed sound ty one_type, at.is.first_type sound) }

    remote : IsOfText spec pairs
    remote =
        let (place, m) = All-contains (λ (ps : List Pair). (place : ℕ) × Contains (all_includings spec) (place, ps)) T.includings pairs numbers.numbers.includings.named (place-contains T.includings i pairs at.listed) in
        remote-of spec sound place pairs m

    -- the value of its computation in a plain rule
    term-is : (p : PlainRule) (fs : List Force) (rule : FlatRule) → rule.left.0 ≡ p.left
        → IsTermAs t p (given.Read (record { occ = 0; slot = handed i set rule.left.0 })) (including_term spec T needs p fs pairs i)
    term-is p fs rule left = subst (λ z. IsTermAs t p (given.Read (record { occ = 0; slot = handed i set z })) (including_term spec T needs p fs pairs i)) (sym left)
        (value-is t p i (source_of set.sources p.left) (listed_at spec T pairs p.left) (source-at env forced are T numbers clear from few symbols inherit pairs remote set.sources at.is.sources p.left))

  abbrev attrs : List ExtraAttr
  attrs = all_attrs rows sets t.symbols

  pub attrs-each : (a : ExtraAttr) → Contains attrs a → (x : ℕ) × (s : Slot) × IsOfIncluding s × HasSlot spec T needs x s × IsExtraAttr t T needs a x s
  attrs-each a m =
      let (z, among, here) = contains-flat (λ (x : ℕ × SymbolRow). symbol_attrs rows sets x.0) (enumerated 0 t.symbols) a m in
      let (d, of, made) = contains-filtered (attr_of rows z.0) (enumerated 0 sets) a here in
      let (pairs, at) = pairs-of d of in
      let (held, same) = let-through (is_in (needs_at rows d.0) z.0) (made_attr z.0 d) a made in
      let h : IsTrue (needs.including pairs z.0) = sym (in-needs d.0 pairs d.1 at z.0) ∙ held in
      (z.0, Inc d.0, tt, (pairs, at.listed, h), subst (λ b. IsExtraAttr t T needs b z.0 (Inc d.0)) same (attr-is d.0 pairs d.1 at z.0 h))

  pub attrs-all : (x : ℕ) (s : Slot) → IsOfIncluding s → HasSlot spec T needs x s → (a : ExtraAttr) × Contains attrs a × IsExtraAttr t T needs a x s
  attrs-all x (Inc i) its (pairs, listed, h) =
      let (set, at) = set-of i pairs listed in
      let held : is_in (needs_at rows i) x ≡ true = in-needs i pairs set at x ∙ h in
      let (row, there) = place-below t.symbols x (below i pairs set at x h) in
      let a = made_attr x (i, set) in
      let here = filtered-contains (attr_of rows x) (enumerated 0 sets) (i, set) a (numbered-in sets i set at.place) (ap (λ (b : Bool). if b then Some a else None) held) in
      (a, flat-contains (λ (x : ℕ × SymbolRow). symbol_attrs rows sets x.0) (enumerated 0 t.symbols) (x, row) a (numbered-in t.symbols x row there) here, attr-is i pairs set at x h)
  attrs-all x (Written a) its has = absurd its
  attrs-all x (Con n) its has = absurd its
  attrs-all x (Front c) its has = absurd its
  attrs-all x (Behind c) its has = absurd its
  attrs-all x (Msg j) its has = absurd its
  attrs-all x Out its has = absurd its

  same-rules : plain_rules spec T.symbols ≡ plain
  same-rules = ap (plain_rules spec) numbers.symbols

  abbrev IsComp : ExtraComp → Type 0
  IsComp = IsComputed t T needs IsOfIncluding (IncludingShare spec T needs)

  pub comps-computed : (c : ExtraComp) → Contains (all_comps rows sets t.plain) c → IsComp c
  comps-computed c m =
      let (z, among, in_rule) = contains-flat (rule_comps rows sets) (enumerated 0 t.plain) c m in
      let k = z.0 in
      let rule = z.1 in
      let at = place-of-number t.plain z among in
      let (p, of_plain, is) = zip-left (IsPlainOf spec env (named_symbols t)) plain t.plain k rule are.tables.plain at in
      let (fs, of_forced, held) = zip-right _ (plain_rules spec T.symbols) T.forced k p numbers.numbers.forced (ap (λ l. slice_get l k) same-rules ∙ of_plain) in
      let (y, of_right, in_child) = contains-flat (child_comps rows sets k rule.left.0) (enumerated 0 rule.right) c in_rule in
      let j = y.0 in
      let child = y.1.0 in
      let (d, of, made) = contains-filtered (comp_of rows k rule.left.0 y) (enumerated 0 sets) c in_child in
      let i = d.0 in
      let (pairs, its) = pairs-of d of in
      let (has, same) = let-through (is_in (needs_at rows i) child) (made_comp k rule.left.0 j d) c made in
      let right : slice_get p.right j ≡ Some child =
      ap (λ l. slice_get l j) (sym is.right) ∙ slice_get-map (λ (s : SymId). s.0) rule.right j ∙ ap (option_map (λ (s : SymId). s.0)) (place-of-number rule.right y of_right) in
      subst IsComp same (record {
        rule = p;
        forces = fs;
        k = suc j;
        slot = Inc i;
        term = including_term spec T needs p fs pairs i;
        symbol = child;
        of_rule = at-zip (plain_rules spec T.symbols) T.forced k p fs (ap (λ l. slice_get l k) same-rules ∙ of_plain) of_forced;
        share = handed_down j child i pairs right its.listed (sym (in-needs i pairs d.1 its child) ∙ has);
        occ = refl;
        at = right;
        named = refl;
        value = term-is i pairs d.1 its p fs rule is.left;
      })

  abbrev IsGivenBy : ℕ → ℕ → PlainRule → Slot → Term → Type 0
  IsGivenBy k o p s e = (c : ExtraComp) × Contains (all_comps rows sets t.plain) c × (c.rule.0 ≡ k) × (c.occ ≡ o) × ((x : ℕ) × (symbol_at p o ≡ Some x) × IsSlotAs t x c.slot s) × IsTermAs t p c.value e

  pub comps-compute : (k o : ℕ) (p : PlainRule) (fs : List Force) (s : Slot) (e : Term) → slice_get (ruled spec T) k ≡ Some (p, fs) → IncludingShare spec T needs p fs o s e → IsGivenBy k o p s e
  comps-compute k _ p fs _ _ place (handed_down j y i pairs right listed h) =
      let at = zip-at (plain_rules spec T.symbols) T.forced k p fs place in
      let of_plain = ap (λ l. slice_get l k) (sym same-rules) ∙ at.0 in
      let (rule, of_flat, is) = zip-right (IsPlainOf spec env (named_symbols t)) plain t.plain k p are.tables.plain of_plain in
      let (set, its) = set-of i pairs listed in
      let (child, there, same) = unmapped (λ (s : SymId). s.0) rule.right j y (ap (λ l. slice_get l j) is.right ∙ right) in
      let held : is_in (needs_at rows i) child.0 ≡ true = ap (is_in (needs_at rows i)) same ∙ in-needs i pairs set its y ∙ h in
      let c = made_comp k rule.left.0 j (i, set) in
      let made : comp_of rows k rule.left.0 (j, child) (i, set) ≡ Some c = ap (λ (b : Bool). if b then Some c else None) held in
      let in_child = filtered-contains (comp_of rows k rule.left.0 (j, child)) (enumerated 0 sets) (i, set) c (numbered-in sets i set its.place) made in
      let in_rule = flat-contains (child_comps rows sets k rule.left.0) (enumerated 0 rule.right) (j, child) c (numbered-in rule.right j child there) in_child in
      let among = flat-contains (rule_comps rows sets) (enumerated 0 t.plain) (k, rule) c (numbered-in t.plain k rule of_flat) in_rule in
      (c, among, refl, refl, (y, right, refl), term-is i pairs set its p fs rule is.left)
