-- The order of added attributes and computations.
use Rattle.std.specs.Prelude.{Contains, All, AllPairs, flat_map, filter_map, option_map, option_to_list}
use Rattle.std.proofs.Common.{◌≡◌, ◌∙◌, ℕ, suc, ◌+◌, ◌*◌, ◌<◌, ◌≤◌, ◌⊎◌, inl, inr, Bool, true, false, if◌then◌else◌, List, [], ◌∷◌, ◌++◌, Option, Some, None, refl, sym, ap, subst, arith}
use Rattle.std.proofs.lemmas.Option.{none-some, same_Some}
use Rattle.std.proofs.lemmas.List.Kept.{AllPairs-cons}
use Rattle.std.proofs.lemmas.List.Elements.{All-cons, All-nil, Contains-append_cases}
use Rattle.lido_base.specs.declared.ids.SymId.{SymId}
use Rattle.lido_base.proofs.Lists.{contains-nil, contains-cons, contains-here, contains-later, contains-flat}
use Rattle.lido_syntax.specs.declared.spec.Typed1.{Typed1}
use Rattle.lido_symbols.specs.Numbers.{enumerated}
use Rattle.lido_symbols.proofs.CollectedLemmas.{filtered_flat}
use Rattle.flat_grammar.specs.declared.flat.FlatRule.{FlatRule}
use Rattle.least_paths.specs.Graph.{is_in}
use Rattle.need_graphs.proofs.ListLemmas.{enumerated-place, contains-filtered}
use Rattle.rule_tables.specs.declared.table.SymbolRow.{SymbolRow}
use Rattle.rule_tables.specs.declared.extra.ExtraAttr.{ExtraAttr}
use Rattle.rule_tables.specs.declared.extra.ExtraComp.{ExtraComp}
use Rattle.rule_tables.specs.declared.extra.Slot.TheVariants as named
use Rattle.rule_tables.specs.ExtraOf.{group_of, within_of, IsBeforeIn, attr_place, comp_place}
use Rattle.chain_expand.specs.declared.walk.Source.{Source}
use Rattle.chain_expand.specs.declared.walk.Walk.{Walk}
use Rattle.chain_expand.specs.Attrs.{needs_at, chain_attrs, symbol_attrs, all_attrs}
use Rattle.chain_expand.specs.Comps.{term_of, front_in, behind_comp, front_comp, behind_comps, front_comps, rule_comps, walks_at, all_comps}
use Rattle.chain_expand.proofs.AttrLemmas.{two, front_attr, behind_attr}

all-of : {Y : Type 0} (P : Y → Type 0) (xs : List Y) → ((y : Y) → Contains xs y → P y) → All P xs
all-of P [] h = All-nil P
all-of P (x ∷ xs) h = All-cons P x xs (h x (contains-here x xs)) (all-of P xs (λ y m. h y (contains-later x y xs m)))

module _ {Y : Type 0} (R : Y → Y → Type 0) where
  abbrev pub Pairs : List Y → Type 0
  Pairs [] = Unit {0}
  Pairs (x ∷ xs) = ((y : Y) → Contains xs y → R x y) × Pairs xs

  pub pairs-all : (xs : List Y) → Pairs xs → AllPairs R xs
  pairs-all [] p = λ i j d a b. absurd (omega (arith, b))
  pairs-all (x ∷ xs) p = AllPairs-cons R x xs (all-of (R x) xs p.0) (pairs-all xs p.1)

  pub pairs-append : (xs ys : List Y) → Pairs xs → Pairs ys → ((x y : Y) → Contains xs x → Contains ys y → R x y) → Pairs (xs ++ ys)
  pairs-append [] ys p q h = q
  pairs-append (x ∷ xs) ys p q h = (
    (λ y m. elim (Contains-append_cases xs ys y m) [ inl k ↦ p.0 y k | inr k ↦ h x y (contains-here x xs) k ]),
    pairs-append xs ys p.1 q (λ a b m n. h a b (contains-later x a xs m) n),
  )

  pub numbered-pairs : {X : Type 0} (g : ℕ × X → List Y) → ((k : ℕ) (x : X) → Pairs (g (k, x)))
      → ((k l : ℕ) (x y : X) (a b : Y) → k < l → Contains (g (k, x)) a → Contains (g (l, y)) b → R a b) → (n : ℕ) (xs : List X) → Pairs (flat_map g (enumerated n xs))
  numbered-pairs g own across n [] = tt
  numbered-pairs g own across n (x ∷ xs) = pairs-append (g (n, x)) (flat_map g (enumerated (suc n) xs)) (own n x) (numbered-pairs g own across (suc n) xs) (λ a b m k.
      let (z, among, here) = contains-flat g (enumerated (suc n) xs) b k in
      let p = enumerated-place (suc n) z.0 z.1 xs among in
      let later : n < z.0 = omega (arith, p.1) in
      across n z.0 x z.1 a b later m here)

  pub filtered-pairs : {X : Type 0} (h : ℕ × X → Option Y) → ((k l : ℕ) (x y : X) (a b : Y) → k < l → h (k, x) ≡ Some a → h (l, y) ≡ Some b → R a b)
      → (n : ℕ) (xs : List X) → Pairs (filter_map h (enumerated n xs))
  filtered-pairs {X} h across n xs = subst Pairs (filtered_flat h (enumerated n xs)) (numbered-pairs (λ x. option_to_list (h x)) (λ k x. own (h (k, x)))
      (λ k l x y a b less m o. across k l x y a b less (in-option (h (k, x)) a m) (in-option (h (l, y)) b o)) n xs)
    where
      own : (o : Option Y) → Pairs (option_to_list o)
      own None = tt
      own (Some y) = ((λ z m. absurd (contains-nil z m)), tt)

      in-option : (o : Option Y) (a : Y) → Contains (option_to_list o) a → o ≡ Some a
      in-option None a m = absurd (contains-nil a m)
      in-option (Some y) a m = elim (contains-cons y a [] m) [ inl e ↦ ap Some e | inr k ↦ absurd (contains-nil a k) ]

-- an attribute of the symbol in that chain
pub record IsAttrAt (x i : ℕ) (a : ExtraAttr) : Type 0 where
  pub symbol : a.sym.0 ≡ x
  pub group : group_of a.slot ≡ 3
  pub low : 2 * i ≤ within_of a.slot
  pub high : within_of a.slot ≤ 2 * i + 1

abbrev IsAttrBefore : ExtraAttr → ExtraAttr → Type 0
IsAttrBefore a b = IsBeforeIn (attr_place a) (attr_place b)

front-is : (x : ℕ) (d : ℕ × Typed1) → IsAttrAt x d.0 (front_attr x d)
front-is x d = record { symbol = refl; group = refl; low = omega arith; high = omega arith }

behind-is : (x : ℕ) (d : ℕ × Typed1) → IsAttrAt x d.0 (behind_attr x d)
behind-is x d = record { symbol = refl; group = refl; low = omega arith; high = omega arith }

front-first : (x : ℕ) (d : ℕ × Typed1) → IsAttrBefore (front_attr x d) (behind_attr x d)
front-first x d = let less : 2 * d.0 < 2 * d.0 + 1 = omega arith in inr (refl, inr (refl, inl less))

-- what is in front, or what is behind
pub attr-cases : (x : ℕ) (d : ℕ × Typed1) (a : ExtraAttr) → Contains (two x d) a → (front_attr x d ≡ a) ⊎ (behind_attr x d ≡ a)
attr-cases x d a m = elim (contains-cons (front_attr x d) a (behind_attr x d ∷ []) m) [
  | inl e ↦ inl e
  | inr k ↦ elim (contains-cons (behind_attr x d) a [] k) [ inl e ↦ inr e | inr n ↦ absurd (contains-nil a n) ]
]

module _ (needs : List (List Bool)) where
  attr-at : (x : ℕ) (d : ℕ × Typed1) (a : ExtraAttr) → Contains (chain_attrs needs x d) a → IsAttrAt x d.0 a
  attr-at x d a m = by (is_in (needs_at needs d.0) x) m
    where
      by : (b : Bool) → Contains (if b then two x d else []) a → IsAttrAt x d.0 a
      by false m = absurd (contains-nil a m)
      by true m = elim (attr-cases x d a m) [ inl e ↦ subst (IsAttrAt x d.0) e (front-is x d) | inr e ↦ subst (IsAttrAt x d.0) e (behind-is x d) ]

  own-attrs : (x : ℕ) (d : ℕ × Typed1) → Pairs IsAttrBefore (chain_attrs needs x d)
  own-attrs x d = by (is_in (needs_at needs d.0) x)
    where
      by : (b : Bool) → Pairs IsAttrBefore (if b then two x d else [])
      by false = tt
      by true = (
        (λ y m. elim (contains-cons (behind_attr x d) y [] m) [ inl e ↦ subst (IsAttrBefore (front_attr x d)) e (front-first x d) | inr n ↦ absurd (contains-nil y n) ]),
        ((λ z m. absurd (contains-nil z m)), tt),
      )

  attrs-across : (x k l : ℕ) (a b : ExtraAttr) → k < l → IsAttrAt x k a → IsAttrAt x l b → IsAttrBefore a b
  attrs-across x k l a b less p q = let m = p.high in let n = q.low in inr (p.symbol ∙ sym q.symbol, inr (p.group ∙ sym q.group, inl (omega (arith, m, n, less))))

  symbol-of-attr : (chains : List Typed1) (x : ℕ) (a : ExtraAttr) → Contains (symbol_attrs needs chains x) a → a.sym.0 ≡ x
  symbol-of-attr chains x a m = let (d, among, here) = contains-flat (chain_attrs needs x) (enumerated 0 chains) a m in (attr-at x d a here).symbol

  symbol-attrs : (chains : List Typed1) (x : ℕ) → Pairs IsAttrBefore (symbol_attrs needs chains x)
  symbol-attrs chains x = numbered-pairs IsAttrBefore (chain_attrs needs x) (λ k d. own-attrs x (k, d))
      (λ k l d e a b less m n. attrs-across x k l a b less (attr-at x (k, d) a m) (attr-at x (l, e) b n)) 0 chains

  pub attrs-ordered : (chains : List Typed1) (rows : List SymbolRow) → AllPairs IsAttrBefore (all_attrs needs chains rows)
  attrs-ordered chains rows = pairs-all IsAttrBefore (all_attrs needs chains rows) (numbered-pairs IsAttrBefore (λ (x : ℕ × SymbolRow). symbol_attrs needs chains x.0) (λ x row. symbol-attrs chains x)
      (λ x y r s a b less m n.
      let p = symbol-of-attr chains x a m in
      let q = symbol-of-attr chains y b n in
      inl (omega (arith, p, q, less))) 0 rows)

-- a computation in that rule, at that occurrence, in that chain
pub record IsCompAt (k occ i : ℕ) (c : ExtraComp) : Type 0 where
  pub rule : c.rule.0 ≡ k
  pub at : c.occ ≡ occ
  pub group : group_of c.slot ≡ 3
  pub low : 2 * i ≤ within_of c.slot
  pub high : within_of c.slot ≤ 2 * i + 1

abbrev IsCompBefore : ExtraComp → ExtraComp → Type 0
IsCompBefore a b = IsBeforeIn (comp_place a) (comp_place b)

pub some-mapped : {X Y : Type 0} (f : X → Y) (o : Option X) (y : Y) → option_map f o ≡ Some y → (x : X) × (o ≡ Some x) × (f x ≡ y)
some-mapped f None y e = absurd (none-some y e)
some-mapped f (Some x) y e = (x, refl, same_Some _ _ e)

abbrev pub made_behind : ℕ → ℕ → Source → ExtraComp
made_behind k i s = record { rule = record { 0 = k }; occ = 0; slot = named.Behind i; value = term_of i s }

abbrev pub made_front : ℕ → ℕ → ℕ → Source → ExtraComp
made_front k j i s = record { rule = record { 0 = k }; occ = suc j; slot = named.Front i; value = term_of i s }

made-behind-at : (k i : ℕ) (s : Source) → IsCompAt k 0 i (made_behind k i s)
made-behind-at k i s = record { rule = refl; at = refl; group = refl; low = omega arith; high = omega arith }

made-front-at : (k j i : ℕ) (s : Source) → IsCompAt k (suc j) i (made_front k j i s)
made-front-at k j i s = record { rule = refl; at = refl; group = refl; low = omega arith; high = omega arith }

behind-at : (k i : ℕ) (w : Walk) (c : ExtraComp) → behind_comp k (i, w) ≡ Some c → IsCompAt k 0 i c
behind-at k i w c e = let s = some-mapped (made_behind k i) w.behind c e in subst (IsCompAt k 0 i) s.2 (made-behind-at k i s.0)

front-at : (k j i : ℕ) (w : Walk) (c : ExtraComp) → front_comp k j (i, w) ≡ Some c → IsCompAt k (suc j) i c
front-at k j i w c e = let s = some-mapped (made_front k j i) (front_in w j) c e in subst (IsCompAt k (suc j) i) s.2 (made-front-at k j i s.0)

comps-across : (k occ i l : ℕ) (a b : ExtraComp) → i < l → IsCompAt k occ i a → IsCompAt k occ l b → IsCompBefore a b
comps-across k occ i l a b less p q = let m = p.high in let n = q.low in inr (p.rule ∙ sym q.rule, inr (p.at ∙ sym q.at, inr (p.group ∙ sym q.group, inl (omega (arith, m, n, less)))))

in-behind : (k : ℕ) (walks : List Walk) (c : ExtraComp) → Contains (behind_comps k walks) c → (i : ℕ) × IsCompAt k 0 i c
in-behind k walks c m = let (x, among, made) = contains-filtered (behind_comp k) (enumerated 0 walks) c m in (x.0, behind-at k x.0 x.1 c made)

in-front : (k j : ℕ) (walks : List Walk) (c : ExtraComp) → Contains (front_comps k walks j) c → (i : ℕ) × IsCompAt k (suc j) i c
in-front k j walks c m = let (x, among, made) = contains-filtered (front_comp k j) (enumerated 0 walks) c m in (x.0, front-at k j x.0 x.1 c made)

rule-ordered : (walks : List Walk) (x : ℕ × FlatRule) → Pairs IsCompBefore (rule_comps walks x)
rule-ordered walks x = pairs-append IsCompBefore (behind_comps x.0 walks) (flat_map fronts (enumerated 0 x.1.right))
    (filtered-pairs IsCompBefore (behind_comp x.0) (λ i l v w a b less e f. comps-across x.0 0 i l a b less (behind-at x.0 i v a e) (behind-at x.0 l w b f)) 0 walks)
    (numbered-pairs IsCompBefore fronts
    (λ j s. filtered-pairs IsCompBefore (front_comp x.0 j) (λ i l v w a b less e f. comps-across x.0 (suc j) i l a b less (front-at x.0 j i v a e) (front-at x.0 j l w b f)) 0 walks)
    (λ j l s t a b less m n.
    let p = (in-front x.0 j walks a m).1 in
    let q = (in-front x.0 l walks b n).1 in
    let first = p.at in
    let second = q.at in
    inr (p.rule ∙ sym q.rule, inl (omega (arith, first, second, less)))) 0 x.1.right)
    (λ a b m n.
    let p = (in-behind x.0 walks a m).1 in
    let (y, among, here) = contains-flat fronts (enumerated 0 x.1.right) b n in
    let q = (in-front x.0 y.0 walks b here).1 in
    let first = p.at in
    let second = q.at in
    inr (p.rule ∙ sym q.rule, inl (omega (arith, first, second))))
  where
    fronts : ℕ × SymId → List ExtraComp
    fronts y = front_comps x.0 walks y.0

rule-of-comp : (walks : List Walk) (x : ℕ × FlatRule) (c : ExtraComp) → Contains (rule_comps walks x) c → c.rule.0 ≡ x.0
rule-of-comp walks x c m = elim (Contains-append_cases (behind_comps x.0 walks) (flat_map (λ (y : ℕ × SymId). front_comps x.0 walks y.0) (enumerated 0 x.1.right)) c m) [
  | inl k ↦ (in-behind x.0 walks c k).1.rule
  | inr k ↦ let (y, among, here) = contains-flat (λ (y : ℕ × SymId). front_comps x.0 walks y.0) (enumerated 0 x.1.right) c k in (in-front x.0 y.0 walks c here).1.rule
]

pub comps-ordered : (walks : List (List Walk)) (plain : List FlatRule) → AllPairs IsCompBefore (all_comps walks plain)
comps-ordered walks plain = pairs-all IsCompBefore (all_comps walks plain) (numbered-pairs IsCompBefore (λ (x : ℕ × FlatRule). rule_comps (walks_at walks x.0) x) (λ k r. rule-ordered (walks_at walks k) (k, r))
    (λ k l r s a b less m n.
    let p = rule-of-comp (walks_at walks k) (k, r) a m in
    let q = rule-of-comp (walks_at walks l) (l, s) b n in
    inl (omega (arith, p, q, less))) 0 plain)
