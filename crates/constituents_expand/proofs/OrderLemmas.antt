-- The order of the added attributes and computations.
use Rattle.std.specs.Prelude.{Contains, All, AllPairs, flat_map, filter_map}
use Rattle.std.specs.List.{cons_option}
use Rattle.std.proofs.Common.{◌≡◌, ◌∙◌, ℕ, suc, ◌<◌, inl, inr, Bool, true, false, if◌then◌else◌, List, [], ◌∷◌, ◌++◌, length, Option, Some, None, refl, sym, subst, arith}
use Rattle.std.proofs.lemmas.Option.{none-some, same_Some}
use Rattle.std.proofs.lemmas.List.Kept.{AllPairs-cons}
use Rattle.std.proofs.lemmas.List.Elements.{All-cons, All-nil, Contains-append_cases}
use Rattle.lido_base.proofs.Lists.{contains-here, contains-later, contains-flat}
use Rattle.lido_syntax.specs.declared.spec.RuleItem.{RuleItem}
use Rattle.lido_symbols.specs.Numbers.{enumerated}
use Rattle.flat_grammar.specs.declared.flat.FlatRule.{FlatRule}
use Rattle.least_paths.specs.Graph.{is_in}
use Rattle.need_graphs.proofs.ListLemmas.{enumerated-place, contains-filtered}
use Rattle.rule_tables.specs.declared.table.SymbolRow.{SymbolRow}
use Rattle.rule_tables.specs.declared.extra.ExtraAttr.{ExtraAttr}
use Rattle.rule_tables.specs.declared.extra.ExtraComp.{ExtraComp}
use Rattle.rule_tables.specs.ExtraOf.{group_of, within_of, IsBeforeIn, attr_place, comp_place}
use Rattle.constituents_expand.specs.declared.weights.Gathering.{Gathering}
use Rattle.constituents_expand.specs.Extras.{made_attr, attr_of, symbol_attrs, all_attrs, is_whole, made_comp, comp_of, rule_comps, all_comps}

all-of : {Y : Type 0} (P : Y → Type 0) (xs : List Y) → ((y : Y) → Contains xs y → P y) → All P xs
all-of P [] h = All-nil P
all-of P (x ∷ xs) h = All-cons P x xs (h x (contains-here x xs)) (all-of P xs (λ y m. h y (contains-later x y xs m)))

abbrev pub Pairs : {Y : Type 0} → (Y → Y → Type 0) → List Y → Type 0
Pairs R [] = Unit {0}
Pairs R (x ∷ xs) = ((y : _) → Contains xs y → R x y) × Pairs R xs

module _ {Y : Type 0} (R : Y → Y → Type 0) where
  pairs-all : (xs : List Y) → Pairs R xs → AllPairs R xs
  pairs-all [] p = λ i j d a b. absurd (omega (arith, b))
  pairs-all (x ∷ xs) p = AllPairs-cons R x xs (all-of (R x) xs p.0) (pairs-all xs p.1)

  pub all-pairs : (xs : List Y) → AllPairs R xs → Pairs R xs
  all-pairs [] p = tt
  all-pairs (x ∷ xs) p = (
    (λ y m. let (k, l, e) = m in let inside : suc k < suc (length xs) = omega (arith, l) in subst (R x) e (p 0 (suc k) y (omega arith) inside)),
    all-pairs xs (λ i j d a b. p (suc i) (suc j) d (omega (arith, a)) (omega (arith, b))),
  )

  pairs-append : (xs ys : List Y) → Pairs R xs → Pairs R ys → ((x y : Y) → Contains xs x → Contains ys y → R x y) → Pairs R (xs ++ ys)
  pairs-append [] ys p q h = q
  pairs-append (x ∷ xs) ys p q h = (
    (λ y m. elim (Contains-append_cases xs ys y m) [ inl k ↦ p.0 y k | inr k ↦ h x y (contains-here x xs) k ]),
    pairs-append xs ys p.1 q (λ a b m n. h a b (contains-later x a xs m) n),
  )

  numbered-pairs : {X : Type 0} (g : ℕ × X → List Y) → ((k : ℕ) (x : X) → Pairs R (g (k, x)))
      → ((k l : ℕ) (x y : X) (a b : Y) → k < l → Contains (g (k, x)) a → Contains (g (l, y)) b → R a b) → (n : ℕ) (xs : List X) → Pairs R (flat_map g (enumerated n xs))
  numbered-pairs g own across n [] = tt
  numbered-pairs g own across n (x ∷ xs) = pairs-append (g (n, x)) (flat_map g (enumerated (suc n) xs)) (own n x) (numbered-pairs g own across (suc n) xs) (λ a b m k.
      let (z, among, here) = contains-flat g (enumerated (suc n) xs) b k in
      let p = enumerated-place (suc n) z.0 z.1 xs among in
      let later : n < z.0 = omega (arith, p.1) in
      across n z.0 x z.1 a b later m here)

  -- what is kept of a list in order
  kept-pairs : {X : Type 0} (S : X → X → Type 0) (h : X → Option Y) → ((x y : X) (a b : Y) → S x y → h x ≡ Some a → h y ≡ Some b → R a b) → (xs : List X) → Pairs S xs → Pairs R (filter_map h xs)
  kept-pairs S h across [] p = tt
  kept-pairs S h across (x ∷ xs) p = by (h x) refl (kept-pairs S h across xs p.1)
    where
      by : (o : Option Y) → h x ≡ o → Pairs R (filter_map h xs) → Pairs R (cons_option o (filter_map h xs))
      by None e more = more
      by (Some a) e more = ((λ b m. let (y, among, made) = contains-filtered h xs b m in across x y a b (p.0 y among) e made), more)

abbrev pub IsFirst : Gathering → Gathering → Type 0
IsFirst g h = g.number < h.number

abbrev IsAttrBefore : ExtraAttr → ExtraAttr → Type 0
IsAttrBefore a b = IsBeforeIn (attr_place a) (attr_place b)

abbrev IsCompBefore : ExtraComp → ExtraComp → Type 0
IsCompBefore a b = IsBeforeIn (comp_place a) (comp_place b)

-- what a test lets through
pub let-through : {X : Type 0} (b : Bool) (x y : X) → (if b then Some x else None) ≡ Some y → (b ≡ true) × (x ≡ y)
let-through true x y e = (refl, same_Some _ _ e)
let-through false x y e = absurd (none-some _ e)

-- an attribute of the symbol, and a computation in the rule, by the CONSTITUENTS of that number
record IsAttrAt (x n : ℕ) (a : ExtraAttr) : Type 0 where
  symbol : a.sym.0 ≡ x
  group : group_of a.slot ≡ 2
  within : within_of a.slot ≡ n

record IsCompAt (k n : ℕ) (c : ExtraComp) : Type 0 where
  rule : c.rule.0 ≡ k
  at : c.occ ≡ 0
  group : group_of c.slot ≡ 2
  within : within_of c.slot ≡ n

attr-at : (x : ℕ) (g : Gathering) (a : ExtraAttr) → attr_of x g ≡ Some a → IsAttrAt x g.number a
attr-at x g a e = subst (IsAttrAt x g.number) (let-through (is_in g.bearers x) (made_attr x g) a e).1 (record { symbol = refl; group = refl; within = refl })

comp-at : (k : ℕ) (whole : Bool) (rule : FlatRule) (g : Gathering) (c : ExtraComp) → comp_of k whole rule g ≡ Some c → IsCompAt k g.number c
comp-at k whole rule g c e = subst (IsCompAt k g.number) (let-through (is_in g.bearers rule.left.0) (made_comp k whole rule g) c e).1 (record { rule = refl; at = refl; group = refl; within = refl })

module _ (gs : List Gathering) (sorted : Pairs IsFirst gs) where
  pub attrs-ordered : (rows : List SymbolRow) → AllPairs IsAttrBefore (all_attrs gs rows)
  attrs-ordered rows = pairs-all IsAttrBefore (all_attrs gs rows) (numbered-pairs IsAttrBefore (λ (x : ℕ × SymbolRow). symbol_attrs gs x.0)
      (λ x row. kept-pairs IsAttrBefore IsFirst (attr_of x) (λ g h a b less e f.
      let p = attr-at x g a e in
      let q = attr-at x h b f in
      let m = p.within in
      let n = q.within in
      inr (p.symbol ∙ sym q.symbol, inr (p.group ∙ sym q.group, inl (omega (arith, m, n, less))))) gs sorted)
      (λ x y row other a b less m n.
      let (g, of, made) = contains-filtered (attr_of x) gs a m in
      let (h, among, last) = contains-filtered (attr_of y) gs b n in
      let p = (attr-at x g a made).symbol in
      let q = (attr-at y h b last).symbol in
      inl (omega (arith, p, q, less))) 0 rows)

  pub comps-ordered : (rules : List RuleItem) (plain : List FlatRule) → AllPairs IsCompBefore (all_comps gs rules plain)
  comps-ordered rules plain = pairs-all IsCompBefore (all_comps gs rules plain) (numbered-pairs IsCompBefore (λ (x : ℕ × FlatRule). rule_comps gs (is_whole rules x.0) x)
      (λ k rule. kept-pairs IsCompBefore IsFirst (comp_of k (is_whole rules k) rule) (λ g h a b less e f.
      let p = comp-at k (is_whole rules k) rule g a e in
      let q = comp-at k (is_whole rules k) rule h b f in
      let m = p.within in
      let n = q.within in
      inr (p.rule ∙ sym q.rule, inr (p.at ∙ sym q.at, inr (p.group ∙ sym q.group, inl (omega (arith, m, n, less)))))) gs sorted)
      (λ k l rule other a b less m n.
      let (g, of, made) = contains-filtered (comp_of k (is_whole rules k) rule) gs a m in
      let (h, among, last) = contains-filtered (comp_of l (is_whole rules l) other) gs b n in
      let p = (comp-at k (is_whole rules k) rule g a made).rule in
      let q = (comp-at l (is_whole rules l) other h b last).rule in
      inl (omega (arith, p, q, less))) 0 plain)
