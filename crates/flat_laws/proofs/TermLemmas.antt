-- What the equations of a plain rule depend on is there.
use Rattle.std.specs.Prelude.{Contains, IsTrue, slice_get, nat_eq, map, filter, is_some, ◌&&◌, if◌then◌else◌}
use Rattle.std.specs.Option.{option_map_or}
use Rattle.std.proofs.Common.{◌≡◌, ℕ, ℤ, suc, ◌-◌, inl, inr, Bool, true, false, List, [], ◌∷◌, Option, Some, None, refl, sym, ap, subst, ◌∙◌, arith, eqb-true, true≢false}
use Rattle.std.proofs.lemmas.Option.{none-some, same_Some}
use Rattle.std.proofs.lemmas.List.Elements.{Contains-append_cases}
use Rattle.lido_base.specs.Environment.{Environment}
use Rattle.lido_base.specs.Tree.{contains}
use Rattle.lido_base.proofs.Lists.{contains-nil, contains-cons, contains-here, contains-later, contains-map, contains-flat, flat-contains}
use Rattle.lido_base.proofs.TreeLemmas.{both}
use Rattle.flat_grammar.specs.declared.flat.Occ.{Occ}
use Rattle.lido_syntax.specs.declared.spec.Spec.{Spec}
use Rattle.lido_syntax.specs.declared.spec.Name.{Name}
use Rattle.lido_syntax.specs.declared.spec.Cons.{Cons}
use Rattle.lido_syntax.specs.declared.spec.With.{With}
use Rattle.lido_syntax.specs.declared.spec.RuleItem.{RuleItem}
use Rattle.lido_syntax.specs.declared.spec.Place.{Place}
use Rattle.lido_syntax.specs.declared.spec.Place.TheVariants as place
use Rattle.lido_syntax.specs.declared.spec.Expr.{Expr, Read as ReadOf, Including, Constituents}
use Rattle.lido_syntax.specs.Production.{name_of, occurrence}
use Rattle.lido_syntax.specs.Parts.{leaves_of}
use Rattle.lido_syntax.specs.Symbols.{IsChain}
use Rattle.lido_syntax.specs.Attributes.{InText, IsOwn}
use Rattle.lido_syntax.specs.Computation.{Goal, Start, Holder, by_rule, by_symbol}
use Rattle.lido_symbols.specs.Numbers.{enumerated, place_in}
use Rattle.lido_symbols.specs.Uses.{all_leaves, computations, is_same_set}
use Rattle.kind_clashes.specs.KindClash as clash
use Rattle.table_faults.specs.Faults.{IsForeign}
use Rattle.rule_tables.specs.PlainRules.{PlainRule, Role, Whole, Listing, Link, End, symbol_at, number}
use Rattle.rule_tables.specs.Forced.{Force, context_of, force_for, is_same_goal}
use Rattle.rule_tables.specs.Needs.{Tables, Needs, AreTables, is_tail}
use Rattle.rule_tables.specs.Slots.{Slot, Written, Inc, Con, Front, Behind, has_con, chains}
use Rattle.rule_tables.specs.Shares.{Term, Read, Copied, Void, Comb, Single, Null, Empty, places, last_of, gives, folded, below_by, void_below, below_term, threaded, entry, behind_of, tail_term}
use Rattle.rule_tables.specs.Copies.{occ, needed, needed_read, needed_by, dependencies_in, entered_needs, computed_needs, given_needs}
use Rattle.flat_laws.proofs.Lists.{enumerated-rule}
use Rattle.flat_laws.specs.Accepted.{IsAccepted}
use Rattle.flat_laws.proofs.SymbolLemmas.{filtered}
use Rattle.flat_laws.proofs.RuleLemmas.{IsRuled, is-rule}
use Rattle.flat_laws.proofs.FaultLemmas.{no-clash}
use Rattle.flat_laws.proofs.ForcedLemmas.{IsForcedAt, Stands, in_rule, in_symbol, in_class, forced-at, has-context, text-of}
use Rattle.flat_laws.proofs.NeedLemmas.{including-there, found-passes, constituents-numbered, one-constituents, chain-in, chain-needed}
use Rattle.flat_laws.proofs.ReadLemmas.{IsThere, named-there, own-there, foreign, no-name, tail-left, its-computation, read-used}

module _ (spec : Spec) (early env : Environment) (T : Tables spec) (tables : AreTables spec T env) (accepted : IsAccepted spec early T) (needs : Needs spec T)
    (i : ℕ) (p : PlainRule) (fs : List Force) (is : IsRuled spec env T tables i p fs) where
  abbrev There : ℕ → Slot → Type 0
  There = IsThere spec early env T tables accepted needs i p fs is

  -- ---- occurrences that pass a test

  pub place-at : (test : ℕ → Bool) (j : ℕ) → Contains (places test p) j → (y : ℕ) × (symbol_at p j ≡ Some y) × (test y ≡ true)
  place-at test j m =
      let (x, mx, e) = contains-map (λ (x : ℕ × ℕ). x.0) (filter (λ (x : ℕ × ℕ). test x.1) (enumerated 1 p.right)) j m in
      let (there, pass) = filtered (λ (x : ℕ × ℕ). test x.1) (enumerated 1 p.right) x mx in
      let (le, at) = enumerated-rule 1 x.0 x.1 p.right there in
      let z : suc (x.0 - 1) ≡ j = omega (arith, le, e) in
      (x.1, subst (λ n. symbol_at p n ≡ Some x.1) z at, pass)

  pub last-in : (js : List ℕ) (j : ℕ) → last_of js ≡ Some j → Contains js j
  last-in [] j e = absurd (none-some j e)
  last-in (k ∷ []) j e = subst (Contains (k ∷ [])) (same_Some k j e) (contains-here k [])
  last-in (k ∷ l ∷ ks) j e = contains-later k j (l ∷ ks) (last-in (l ∷ ks) j e)

  -- ---- terms

  -- what the term reads is there, and what it copies is in force at the left side
  pub data IsTermThere : Term → Type 0 where
    read : (k : ℕ) (s : Slot) → There k s → IsTermThere (Read k s)
    copied : (f : Force) → Contains fs f → context_of f ≡ 0 → IsTermThere (Copied f.holder f.comp)
    void : (ds : List (ℕ × Slot)) → ((d : ℕ × Slot) → Contains ds d → There d.0 d.1) → IsTermThere (Void ds)
    comb : (n : ℕ) (g : Name) (a b : Term) → IsTermThere a → IsTermThere b → IsTermThere (Comb n g a b)
    single : (n : ℕ) (g : Name) (a : Term) → IsTermThere a → IsTermThere (Single n g a)
    null : (n : ℕ) (g : Name) → IsTermThere (Null n g)
    empty : IsTermThere Empty

  -- CONSTITUENTS
  module _ (k : Cons) (numbered : Contains T.constituents k) where
    pub gives-there : (j : ℕ) → Contains (gives spec T needs p fs k) j → There j (Con k.number)
    gives-there j m = let (y, at, pass) = place-at (has_con spec T needs k) j m in record { x = y; at = at; has = (k, numbered, refl, pass) }

    folded-there : (with : With) (js : List ℕ) → ((j : ℕ) → Contains js j → There j (Con k.number)) → IsTermThere (folded spec T needs p fs k with js)
    folded-there with [] all = null k.number with.null
    folded-there with (j ∷ js) all = comb k.number with.comb (Read j (Con k.number)) (folded spec T needs p fs k with js) (read j (Con k.number) (all j (contains-here j js)))
        (folded-there with js (λ l m. all l (contains-later j l js m)))

    by-there : (role : Role) (with : With) (js : List ℕ) → ((j : ℕ) → Contains js j → There j (Con k.number)) → IsTermThere (below_by spec T needs p fs role k with js)
    by-there Whole with js all = folded-there with js all
    by-there Listing with [] all = null k.number with.null
    by-there Listing with (j ∷ js) all = read j (Con k.number) (all j (contains-here j js))
    by-there (Link s) with [] all = null k.number with.null
    by-there (Link s) with (j ∷ []) all = read j (Con k.number) (all j (contains-here j []))
    by-there (Link s) with (j ∷ l ∷ js) all = comb k.number with.comb (Read j (Con k.number)) (Read l (Con k.number)) (read j (Con k.number) (all j (contains-here j (l ∷ js))))
        (read l (Con k.number) (all l (contains-later j l (l ∷ js) (contains-here l js))))
    by-there End with js all = null k.number with.null

    pub void-below-there : (d : ℕ × Slot) → Contains (map (λ (j : ℕ). let z : ℕ × Slot = (j, Con k.number) in z) (gives spec T needs p fs k)) d → There d.0 d.1
    void-below-there d m =
        let (j, mj, e) = contains-map (λ (j : ℕ). let z : ℕ × Slot = (j, Con k.number) in z) (gives spec T needs p fs k) d m in
        subst (λ (d : ℕ × Slot). There d.0 d.1) e (gives-there j mj)

    pub below-there : IsTermThere (below_term spec T needs p fs k)
    below-there = by k.with
      where
        by : (o : Option With) → IsTermThere (elim o as (λ _. Term) [ None ↦ void_below spec T needs p fs k | Some with ↦ below_by spec T needs p fs p.role k with (gives spec T needs p fs k) ])
        by None = void (map (λ (j : ℕ). let z : ℕ × Slot = (j, Con k.number) in z) (gives spec T needs p fs k)) void-below-there
        by (Some with) = by-there p.role with (gives spec T needs p fs k) gives-there

  -- chains
  occ-zero : (f : Force) → f.occ ≡ 0 → context_of f ≡ 0
  occ-zero f e = by f.holder refl
    where
      by : (h : Holder) → f.holder ≡ h → context_of f ≡ 0
      by by_rule g = ap (λ (h : Holder). elim h as (λ _. ℕ) [ by_rule ↦ 0 | by_symbol ↦ f.occ ]) g
      by by_symbol g = ap (λ (h : Holder). elim h as (λ _. ℕ) [ by_rule ↦ 0 | by_symbol ↦ f.occ ]) g ∙ e

  -- what is in force for a goal at the left side
  pub force-copied : (g : Goal) (f : Force) → force_for fs 0 g ≡ Some f → IsTermThere (Copied f.holder f.comp)
  force-copied g f e =
      let (m, pass) = found-passes (λ (f : Force). nat_eq f.occ 0 && is_same_goal f.goal g) fs f e in
      copied f m (occ-zero f (eqb-true f.occ 0 (both (nat_eq f.occ 0) (is_same_goal f.goal g) pass).0))

  module _ (c : ℕ) (chain : Contains (chains spec T needs) c) where
    entry-there : (force_for fs 0 (Start c) ≡ None → IsTrue (needs.chain c p.left)) → IsTermThere (entry spec T needs p fs c)
    entry-there needed = by (force_for fs 0 (Start c)) refl
      where
        by : (o : Option Force) → force_for fs 0 (Start c) ≡ o → IsTermThere (elim o as (λ _. Term) [ Some f ↦ Copied f.holder f.comp | None ↦ Read 0 (Front c) ])
        by None e = read 0 (Front c) (record { x = p.left; at = refl; has = (chain, needed e) })
        by (Some f) e = force-copied (Start c) f e

    pub behind-there : (js : List ℕ) → ((j : ℕ) → Contains js j → Contains (threaded spec T needs p fs c) j) → (force_for fs 0 (Start c) ≡ None → IsTrue (needs.chain c p.left))
        → IsTermThere (behind_of spec T needs p fs c js)
    behind-there js among needed = by (last_of js) refl
      where
        by : (o : Option ℕ) → last_of js ≡ o → IsTermThere (elim o as (λ _. Term) [ None ↦ entry spec T needs p fs c | Some j ↦ Read j (Behind c) ])
        by None e = entry-there needed
        by (Some j) e = let (y, at, pass) = place-at (needs.chain c) j (among j (last-in js j e)) in read j (Behind c) (record { x = y; at = at; has = (chain, pass) })

    pub tail-there : (force_for fs 0 (Start c) ≡ None → IsTrue (needs.chain c p.left)) → IsTermThere (tail_term spec T needs p fs c)
    tail-there needed = behind-there (threaded spec T needs p fs c) (λ j m. m) needed

  -- ---- what terms and computations depend on

  module _ (slots : ℕ → List Slot) (r : RuleItem) (of : slice_get spec.rules p.rule ≡ Some r) where
    abbrev at_occ : ℕ → Slot → Occ
    at_occ k s = occ spec T needs slots env r p fs k s

    -- the occurrence is of an attribute that is there
    abbrev pub IsOccThere : Occ → Type 0
    IsOccThere o = (k : ℕ) × (s : Slot) × (o ≡ at_occ k s) × There k s

    abbrev pub AreThere : List Occ → Type 0
    AreThere os = (o : Occ) → Contains os o → IsOccThere o

    one-there : (k : ℕ) (s : Slot) → There k s → AreThere (at_occ k s ∷ [])
    one-there k s h o m = elim (contains-cons (at_occ k s) o [] m) [ inl e ↦ (k, s, sym e, h) | inr n ↦ absurd (contains-nil o n) ]

    none-there : AreThere []
    none-there o m = absurd (contains-nil o m)

    pub needed-there : (tail : ℕ → List Occ) (context : ℕ) (e : Term) → IsTermThere e → AreThere (needed spec T needs slots env r p fs tail context e)
    needed-there tail context _ (read k s h) o m = one-there k s h o m
    needed-there tail context _ (copied f n z) o m = none-there o m
    needed-there tail context _ (void ds all) o m = let (d, md, e) = contains-map (λ (d : ℕ × Slot). at_occ d.0 d.1) ds o m in (d.0, d.1, sym e, all d md)
    needed-there tail context _ (comb n g a b x y) o m =
        elim (Contains-append_cases (needed spec T needs slots env r p fs tail context a) (needed spec T needs slots env r p fs tail context b) o m) [
          | inl h ↦ needed-there tail context a x o h
          | inr h ↦ needed-there tail context b y o h
        ]
    needed-there tail context _ (single n g a x) o m = needed-there tail context a x o m
    needed-there tail context _ (null n g) o m = none-there o m
    needed-there tail context _ empty o m = none-there o m

    module _ (f : Force) (among : Contains fs f) where
      its : IsForcedAt spec early T accepted p f
      its = forced-at spec early T accepted p (is-rule spec env T tables i p fs is) f ((is.forced f).0 among)

      same-rule : its.r ≡ r
      same-rule = same_Some its.r r (sym its.rule ∙ of)

      leaf-in : (l : Expr) → Contains (leaves_of f.comp) l → Contains (all_leaves spec) l
      leaf-in l m = flat-contains leaves_of (computations spec) f.comp l (its-computation spec early env T tables accepted needs i p fs is f among its) m

      name-there : (first : ℕ) (x : Name) (j : Option ℤ) (a : Name) → Contains (leaves_of f.comp) (ReadOf first (place.Named x j) a) → (k : ℕ) → occurrence r x j ≡ Some k
          → There k (if contains (name_of a) (chains spec T needs) then Front (name_of a) else Written (name_of a))
      name-there first x j a m k e = by f.holder refl its.stands_in
        where
          by : (h : Holder) → f.holder ≡ h → Stands spec its.r its.s f.comp h → There k (if contains (name_of a) (chains spec T needs) then Front (name_of a) else Written (name_of a))
          by _ holder (in_rule mr) = named-there spec early env T tables accepted needs i p fs is f among its first x j a m mr holder k (ap (λ (r : RuleItem). occurrence r x j) same-rule ∙ e)
          by _ holder (in_symbol body) = absurd (no-name spec early env T tables accepted needs i p fs is f among its first x j a m its.s body)
          by _ holder (in_class class heir body) = absurd (no-name spec early env T tables accepted needs i p fs is f among its first x j a m class body)

      own-read : (first : ℕ) (q : Place) (a : Name) → Contains (leaves_of f.comp) (ReadOf first q a) → IsOwn q → is_tail spec T q ≡ false → IsForeign spec early its.r q → (IsChain spec (name_of a) → q ≡ place.This)
          → There (context_of f) (if contains (name_of a) (chains spec T needs) then Front (name_of a) else Written (name_of a))
      own-read first q a m own no_tail strange this = by f.holder refl its.stands_in
        where
          by : (h : Holder) → f.holder ≡ h → Stands spec its.r its.s f.comp h → There (context_of f) (if contains (name_of a) (chains spec T needs) then Front (name_of a) else Written (name_of a))
          by _ holder (in_rule mr) = absurd (foreign spec early env T tables accepted needs i p fs is f among its first q a m mr strange)
          by _ holder (in_symbol body) = own-there spec early env T tables accepted needs i p fs is f among its first q a m own no_tail this holder
          by _ holder (in_class class heir body) = own-there spec early env T tables accepted needs i p fs is f among its first q a m own no_tail this holder

      its-text : InText spec f.comp
      its-text = text-of spec its.r its.among its.s f.comp f.holder its.stands_in

      no-synt-chain : (first : ℕ) (a : Name) → Contains (leaves_of f.comp) (ReadOf first place.Synt a) → IsChain spec (name_of a) → place.Synt ≡ place.This
      no-synt-chain first a m chain = absurd (no-clash spec early T accepted a.at (clash.chain_elsewhere (clash.synt f.comp a its-text (read-used f.comp first place.Synt a m) chain refl)))

      no-inh-chain : (first : ℕ) (a : Name) → Contains (leaves_of f.comp) (ReadOf first place.Inh a) → IsChain spec (name_of a) → place.Inh ≡ place.This
      no-inh-chain first a m chain = absurd (no-clash spec early T accepted a.at (clash.chain_elsewhere (clash.inh f.comp a its-text (read-used f.comp first place.Inh a m) chain refl)))

      -- what a leaf depends on is there, where what stands for a TAIL is
      module _ (tail : ℕ → List Occ) (tails : (first : ℕ) (a : Name) → Contains (leaves_of f.comp) (ReadOf first place.Tail a) → AreThere (tail (name_of a))) where
        read-there : (first : ℕ) (q : Place) (a : Name) → Contains (leaves_of f.comp) (ReadOf first q a) → AreThere (needed_read spec T needs slots env r p fs tail (context_of f) q (name_of a))
        read-there first place.Tail a m = tails first a m
        read-there first place.Synt a m = one-there (context_of f) _ (own-read first place.Synt a m tt refl tt (no-synt-chain first a m))
        read-there first place.Inh a m = one-there (context_of f) _ (own-read first place.Inh a m tt refl tt (no-inh-chain first a m))
        read-there first place.This a m = one-there (context_of f) _ (own-read first place.This a m tt refl tt (λ chain. refl))
        read-there first (place.Named x j) a m = by (occurrence r x j) refl
          where
            by : (o : Option ℕ) → occurrence r x j ≡ o
                → AreThere (option_map_or (λ (k : ℕ). at_occ k (if contains (name_of a) (chains spec T needs) then Front (name_of a) else Written (name_of a)) ∷ []) o [])
            by None e = none-there
            by (Some k) e = one-there k _ (name-there first x j a m k e)

        leaf-there : (l : Expr) → Contains (leaves_of f.comp) l → AreThere (needed_by spec T needs slots env r p fs tail (context_of f) l)
        leaf-there (ReadOf first q a) m = read-there first q a m
        leaf-there (Including first pairs) m =
            let context = has-context spec early T accepted p (is-rule spec env T tables i p fs is) f its in
            let computation = its-computation spec early env T tables accepted needs i p fs is f among its in
            one-there (context_of f) (Inc (place_in (is_same_set spec T.sets pairs) T.includings)) (record {
              x = number spec T.symbols context.c;
              at = context.at;
              has = including-there spec env T tables needs i p fs is f among computation (number spec T.symbols context.c) context.at first pairs m;
            })
        leaf-there (Constituents k) m =
            let (l, there, e) = constituents-numbered spec env T tables needs k (leaf-in (Constituents k) m) in
            let same = one-constituents spec env T tables needs accepted.from_text k l (leaf-in (Constituents k) m) there e in
            needed-there tail (context_of f) (below_term spec T needs p fs k) (below-there k (subst (Contains T.constituents) same there))
        leaf-there _ m = none-there

        pub comp-there : AreThere (dependencies_in spec T needs slots env r p fs tail (context_of f) f.comp)
        comp-there o m = let (l, ml, k) = contains-flat (needed_by spec T needs slots env r p fs tail (context_of f)) (leaves_of f.comp) o m in leaf-there l ml o k

    -- what is copied for TAIL
    entered-there : (e : Term) → IsTermThere e → AreThere (entered_needs spec T needs slots env r p fs e)
    entered-there _ (copied f m z) = subst (λ n. AreThere (dependencies_in spec T needs slots env r p fs (λ chain. []) n f.comp)) z (comp-there f m (λ chain. []) (λ first a k. none-there))
    entered-there _ (read k s h) = needed-there (λ chain. []) 0 (Read k s) (read k s h)
    entered-there _ (void ds all) = needed-there (λ chain. []) 0 (Void ds) (void ds all)
    entered-there _ (comb n g a b x y) = needed-there (λ chain. []) 0 (Comb n g a b) (comb n g a b x y)
    entered-there _ (single n g a x) = needed-there (λ chain. []) 0 (Single n g a) (single n g a x)
    entered-there _ (null n g) = needed-there (λ chain. []) 0 (Null n g) (null n g)
    entered-there _ empty = needed-there (λ chain. []) 0 Empty empty

    -- what a computation in force depends on
    pub computed-there : (f : Force) → Contains fs f → AreThere (computed_needs spec T needs slots env r p fs (context_of f) f.comp)
    computed-there f among = comp-there f among (λ chain. entered_needs spec T needs slots env r p fs (tail_term spec T needs p fs chain)) tails
      where
        tails : (first : ℕ) (a : Name) → Contains (leaves_of f.comp) (ReadOf first place.Tail a) → AreThere (entered_needs spec T needs slots env r p fs (tail_term spec T needs p fs (name_of a)))
        tails first a m =
            entered-there (tail_term spec T needs p fs (name_of a)) (tail-there (name_of a) (chain-in spec env T tables needs (name_of a) chain) (λ none.
            chain-needed spec env T tables needs i p fs is f among (its-computation spec early env T tables accepted needs i p fs is f among (its f among)) p.left
            (ap (symbol_at p) (tail-left spec early env T tables accepted needs i p fs is f among (its f among) first a m)) first place.Tail a (name_of a) m refl (ap (λ (o : Option Force). is_some o) none)))
          where
            chain : IsChain spec (name_of a)
            chain = by (contains (name_of a) (map (λ x. name_of x.name) spec.chains)) refl
              where
                by : (b : Bool) → contains (name_of a) (map (λ x. name_of x.name) spec.chains) ≡ b → IsChain spec (name_of a)
                by true e = e
                by false e = absurd (no-clash spec early T accepted a.at (clash.no_chain f.comp a (its-text f among) (inr (read-used f.comp first place.Tail a m)) (λ k. true≢false (sym k ∙ e)) refl))

    pub given-there : (e : Term) → IsTermThere e → AreThere (given_needs spec T needs slots env r p fs e)
    given-there _ (copied f m z) = subst (λ n. AreThere (computed_needs spec T needs slots env r p fs n f.comp)) z (computed-there f m)
    given-there _ (read k s h) = needed-there (λ chain. []) 0 (Read k s) (read k s h)
    given-there _ (void ds all) = needed-there (λ chain. []) 0 (Void ds) (void ds all)
    given-there _ (comb n g a b x y) = needed-there (λ chain. []) 0 (Comb n g a b) (comb n g a b x y)
    given-there _ (single n g a x) = needed-there (λ chain. []) 0 (Single n g a) (single n g a x)
    given-there _ (null n g) = needed-there (λ chain. []) 0 (Null n g) (null n g)
    given-there _ empty = needed-there (λ chain. []) 0 Empty empty
