-- Different symbols, attributes and rules have different names.
use Rattle.std.specs.Prelude.{Contains, AllPairs, slice_get, nat_eq, map, flat_map, filter, not, if◌then◌else◌}
use Rattle.std.proofs.Common.{◌≡◌, ℕ, zero, suc, ◌-◌, ◌<◌, ◌≤◌, ◌⊎◌, inl, inr, Bool, true, false, cond, List, [], ◌∷◌, ◌++◌, length, Some, refl, sym, ap, subst, ◌∙◌, arith, append_assoc, eq-eqb, true≢false}
use Rattle.std.proofs.lemmas.Bool.{cases_lt}
use Rattle.std.proofs.lemmas.Option.{none-some, same_Some}
use Rattle.std.proofs.lemmas.List.Elements.{Contains-append_right, Contains-append_cases}
use Rattle.lido_base.specs.Environment.{Environment}
use Rattle.lido_base.specs.declared.ids.SymId.{SymId}
use Rattle.lido_base.specs.declared.ids.StrId.{StrId}
use Rattle.lido_base.proofs.Lists.{contains-nil, contains-cons, contains-here, contains-later, contains-map, contains-flat, place-contains}
use Rattle.flat_grammar.specs.declared.flat.FlatSymbol.{FlatSymbol}
use Rattle.flat_grammar.specs.declared.flat.FlatRule.{FlatRule}
use Rattle.flat_grammar.specs.declared.flat.Shape.{Shape}
use Rattle.lido_syntax.specs.declared.spec.Spec.{Spec}
use Rattle.lido_syntax.specs.declared.spec.RuleItem.{RuleItem}
use Rattle.lido_syntax.specs.Functions.{text_of}
use Rattle.lido_syntax.specs.Production.{left_of, right_of}
use Rattle.lido_symbols.specs.Numbers.{enumerated, different}
use Rattle.table_faults.specs.Faults.{later as duplicate}
use Rattle.rule_tables.specs.PlainRules.{PlainRule, Role, Whole, Listing, Link, End, written_rule, cell_rules, plain_rules}
use Rattle.rule_tables.specs.Needs.{Tables, Needs, AreTables}
use Rattle.rule_tables.specs.Slots.{Slot}
use Rattle.rule_tables.specs.Flat.{IsFlat, rule_text}
use Rattle.flat_laws.specs.Accepted.{IsAccepted, IsWordAt, AreNames}
use Rattle.flat_laws.proofs.Lists.{pairs-places, enumerated-rule}
use Rattle.flat_laws.proofs.SymbolLemmas.{is_list_at, one-symbol, filtered}
use Rattle.flat_laws.proofs.RuleLemmas.{IsRuleOf, whole, listing, link, end, link_at, end_at, is-rule, IsFlatAt, flat-at}
use Rattle.flat_laws.proofs.FlatSymbolLemmas.{IsCellAt, IsSymbolAt, named, cell_of, symbol-at}
use Rattle.flat_laws.proofs.FaultLemmas.{no-duplicate}
use Rattle.flat_laws.proofs.ShapeLemmas.{rest_of}
use Rattle.flat_laws.proofs.NameLemmas.{split-dollar, word-text, no-dollar, one-id, production-word, symbol-word}

-- ---- symbols

abbrev lists_of : ℕ → List RuleItem → List ℕ
lists_of n xs = map (λ (x : ℕ × RuleItem). x.0) (filter is_list_at (enumerated n xs))

lists-past : (n : ℕ) (xs : List RuleItem) (a i : ℕ) → slice_get (lists_of n xs) a ≡ Some i → n ≤ i
lists-past n xs a i e =
    let (x, m, same) = contains-map (λ (x : ℕ × RuleItem). x.0) (filter is_list_at (enumerated n xs)) i (place-contains (lists_of n xs) a i e) in
    let le = (enumerated-rule n x.0 x.1 xs (filtered is_list_at (enumerated n xs) x m).0).0 in
    omega (arith, le, same)

-- lists are in order
lists-ascend : (n : ℕ) (xs : List RuleItem) (a b i j : ℕ) → slice_get (lists_of n xs) a ≡ Some i → slice_get (lists_of n xs) b ≡ Some j → a < b → i < j
lists-ascend n [] a b i j e f h = absurd (none-some i e)
lists-ascend n (r ∷ xs) a b i j e f h = by r.list a b e f h (λ a b e f h. lists-ascend (suc n) xs a b i j e f h) (λ b f. lists-past (suc n) xs b j f)
  where
    by : (c : Bool) (a b : ℕ) → slice_get (map (λ (x : ℕ × RuleItem). x.0) (cond c ((n, r) ∷ filter is_list_at (enumerated (suc n) xs)) (filter is_list_at (enumerated (suc n) xs)))) a ≡ Some i
        → slice_get (map (λ (x : ℕ × RuleItem). x.0) (cond c ((n, r) ∷ filter is_list_at (enumerated (suc n) xs)) (filter is_list_at (enumerated (suc n) xs)))) b ≡ Some j → a < b
        → ((a b : ℕ) → slice_get (lists_of (suc n) xs) a ≡ Some i → slice_get (lists_of (suc n) xs) b ≡ Some j → a < b → i < j) → ((b : ℕ) → slice_get (lists_of (suc n) xs) b ≡ Some j → suc n ≤ j) → i < j
    by false a b e f h later past = later a b e f h
    by true zero zero e f h later past = absurd (omega (arith, h))
    by true zero (suc b) e f h later past = let same = same_Some n i e in let le = past b f in omega (arith, same, le)
    by true (suc a) zero e f h later past = absurd (omega (arith, h))
    by true (suc a) (suc b) e f h later past = later a b e f (omega (arith, h))

module _ (spec : Spec) (early env : Environment) (T : Tables spec) (tables : AreTables spec T env) (accepted : IsAccepted spec early T) (names : AreNames spec early env) where
  -- rules with one name are one rule
  pub one-rule : (i j : ℕ) (r q : RuleItem) → slice_get spec.rules i ≡ Some r → slice_get spec.rules j ≡ Some q → text_of env r.name.0 ≡ text_of env q.name.0 → i ≡ j
  one-rule i j r q e f same = by (cases_lt i j) (cases_lt j i)
    where
      id : r.name.0 ≡ q.name.0
      id = one-id spec early env names r.name.0 q.name.0 (names.rules r (place-contains spec.rules i r e)) (names.rules q (place-contains spec.rules j q f)) same

      name : r.name ≡ q.name
      name = ap (λ n. let z : StrId = record { 0 = n } in z) id

      by : (i < j) ⊎ (j ≤ i) → (j < i) ⊎ (i ≤ j) → i ≡ j
      by (inl h) _ = absurd (no-duplicate spec early T accepted q.at (duplicate i j r q h e f name refl))
      by (inr le) (inl h) = absurd (no-duplicate spec early T accepted r.at (duplicate j i q r h f e (sym name) refl))
      by (inr le) (inr ge) = omega (arith, le, ge)

  -- ---- symbols

  module _ (needs : Needs spec T) (slots : ℕ → List Slot) (symbols : List FlatSymbol) (flat_rules : List FlatRule) (shapes : List Shape) (root : SymId) (is : IsFlat spec T needs slots env symbols flat_rules shapes root) where
    cell-dollar : (y : FlatSymbol) (x i : ℕ) (r : RuleItem) → IsCellAt spec env T tables needs slots symbols flat_rules shapes root is x i r y → Contains (text_of env y.name.0) 36
    cell-dollar y x i r its = subst (λ l. Contains l 36) (sym its.name) (contains-here 36 (text_of env r.name.0))

    pub symbol-names : AllPairs (λ (x y : FlatSymbol). x.name ≡ y.name → ⊥) symbols
    symbol-names = pairs-places (λ (x y : FlatSymbol). x.name ≡ y.name → ⊥) symbols (λ i j x y h e f same.
        by i j x y h (ap (λ (n : StrId). n.0) same) (symbol-at spec env T tables needs slots symbols flat_rules shapes root is i x e) (symbol-at spec env T tables needs slots symbols flat_rules shapes root is j y f))
      where
        by : (i j : ℕ) (x y : FlatSymbol) → i < j → x.name.0 ≡ y.name.0 → IsSymbolAt spec env T tables needs slots symbols flat_rules shapes root is i x → IsSymbolAt spec env T tables needs slots symbols flat_rules shapes root is j y → ⊥
        by i j x y h same (named s a) (named q b) =
            let e = one-symbol spec env T tables i j s a.number (b.number ∙ ap Some (sym b.name ∙ sym same ∙ a.name)) in
            omega (arith, h, e)
        by i j x y h same (named s a) (cell_of k r b) =
            no-dollar env s (symbol-word spec early env names T tables i s a.number) (subst (λ n. Contains (text_of env n) 36) (sym same ∙ a.name) (cell-dollar y j k r b))
        by i j x y h same (cell_of k r a) (named q b) =
            no-dollar env q (symbol-word spec early env names T tables j q b.number) (subst (λ n. Contains (text_of env n) 36) (same ∙ b.name) (cell-dollar x i k r a))
        by i j x y h same (cell_of k r a) (cell_of m q b) =
            let texts : 36 ∷ text_of env r.name.0 ≡ 36 ∷ text_of env q.name.0 = sym a.name ∙ ap (text_of env) same ∙ b.name in
            let rule = one-rule k m r q a.rule b.rule (ap (λ l. rest_of l) texts) in
            let past = a.past in
            let less = lists-ascend 0 spec.rules (i - length T.symbols) (j - length T.symbols) k m a.place b.place (omega (arith, past, h)) in
            omega (arith, rule, less)

-- ---- plain rules, each of which is one

Apart : PlainRule → PlainRule → Type 0
Apart p q = p.rule ≡ q.rule → p.role ≡ q.role → ⊥

abbrev AreApart : List PlainRule → Type 0
AreApart [] = Unit {0}
AreApart (p ∷ ps) = ((q : PlainRule) → Contains ps q → Apart p q) × AreApart ps

abbrev AreUnlike : List ℕ → Type 0
AreUnlike [] = Unit {0}
AreUnlike (x ∷ xs) = ((y : ℕ) → Contains xs y → x ≡ y → ⊥) × AreUnlike xs

apart-at : (ps : List PlainRule) (i j : ℕ) (p q : PlainRule) → AreApart ps → slice_get ps i ≡ Some p → slice_get ps j ≡ Some q → i < j → Apart p q
apart-at [] i j p q h e f l = absurd (none-some p e)
apart-at (x ∷ ps) zero zero p q h e f l = absurd (omega (arith, l))
apart-at (x ∷ ps) zero (suc j) p q h e f l = subst (λ x. Apart x q) (same_Some x p e) (h.0 q (place-contains ps j q f))
apart-at (x ∷ ps) (suc i) zero p q h e f l = absurd (omega (arith, l))
apart-at (x ∷ ps) (suc i) (suc j) p q h e f l = apart-at ps i j p q h.1 e f (omega (arith, l))

apart-append : (ps qs : List PlainRule) → AreApart ps → AreApart qs → ((p q : PlainRule) → Contains ps p → Contains qs q → Apart p q) → AreApart (ps ++ qs)
apart-append [] qs h g both = g
apart-append (p ∷ ps) qs h g both = (
  λ q m. elim (Contains-append_cases ps qs q m) [ inl k ↦ h.0 q k | inr k ↦ both p q (contains-here p ps) k ],
  apart-append ps qs h.1 g (λ x q m k. both x q (contains-later p x ps m) k),
)

unlike-filter : (test : ℕ → Bool) (xs : List ℕ) → AreUnlike xs → AreUnlike (filter test xs)
unlike-filter test [] h = tt
unlike-filter test (x ∷ xs) h = by (test x) (unlike-filter test xs h.1)
  where
    by : (b : Bool) → AreUnlike (filter test xs) → AreUnlike (cond b (x ∷ filter test xs) (filter test xs))
    by true later = (λ y m. h.0 y (filtered test xs y m).0, later)
    by false later = later

different-unlike : (xs : List ℕ) → AreUnlike (different xs)
different-unlike [] = tt
different-unlike (x ∷ xs) = (
  λ y m e. absurd (true≢false (sym (filtered (λ y. not (nat_eq x y)) (different xs) y m).1 ∙ ap not (eq-eqb x y e))),
  unlike-filter (λ y. not (nat_eq x y)) (different xs) (different-unlike xs),
)

abbrev link-of : Role → ℕ
link-of (Link s) = s
link-of _ = 0

module _ (spec : Spec) (symbols : List ℕ) where
  links-apart : (k : ℕ) (xs : List ℕ) → AreUnlike xs → AreApart (map (link_at spec symbols k) xs)
  unfolding Apart
  links-apart k [] h = tt
  links-apart k (x ∷ xs) h = (
    λ q m rule role. (let (y, my, e) = contains-map (link_at spec symbols k) xs q m in h.0 y my (ap link-of (role ∙ ap (λ (p : PlainRule). p.role) (sym e)))),
    links-apart k xs h.1,
  )

  cell-rules-apart : (k : ℕ) (r : RuleItem) → AreApart (cell_rules spec symbols (k, r))
  unfolding Apart
  cell-rules-apart k r = by r.list
    where
      by : (b : Bool) → AreApart (if b then map (link_at spec symbols k) (different (right_of r)) ++ end_at spec symbols k ∷ [] else [])
      by false = tt
      by true = apart-append (map (link_at spec symbols k) (different (right_of r))) (end_at spec symbols k ∷ []) (links-apart k (different (right_of r)) (different-unlike (right_of r))) ((λ q m. absurd (contains-nil q m)), tt)
          (λ p q m n rule role. (let (y, my, e) = contains-map (link_at spec symbols k) (different (right_of r)) p m in
          elim (contains-cons (end_at spec symbols k) q [] n) [
            | inl same ↦ no-end y (ap (λ (p : PlainRule). p.role) e ∙ role ∙ ap (λ (p : PlainRule). p.role) (sym same))
            | inr z ↦ absurd (contains-nil q z)
          ]))
        where
          no-end : (y : ℕ) → Link y ≡ End → ⊥
          no-end y e = cc

  -- the rules of cells are of lists, and no written ones
  cell-rule-of : (k : ℕ) (r : RuleItem) (p : PlainRule) → Contains (cell_rules spec symbols (k, r)) p → (p.rule ≡ k) × (p.role ≡ Whole → ⊥) × (p.role ≡ Listing → ⊥)
  cell-rule-of k r p m = by r.list m
    where
      linked : (y : ℕ) → link_at spec symbols k y ≡ p → (p.rule ≡ k) × (p.role ≡ Whole → ⊥) × (p.role ≡ Listing → ⊥)
      linked y e = (ap (λ (p : PlainRule). p.rule) (sym e), no-whole y (ap (λ (p : PlainRule). p.role) e), no-listing y (ap (λ (p : PlainRule). p.role) e))
        where
          no-whole : (y : ℕ) → Link y ≡ p.role → p.role ≡ Whole → ⊥
          no-whole y e f = let g : Link y ≡ Whole = e ∙ f in cc

          no-listing : (y : ℕ) → Link y ≡ p.role → p.role ≡ Listing → ⊥
          no-listing y e f = let g : Link y ≡ Listing = e ∙ f in cc

      ended : end_at spec symbols k ≡ p → (p.rule ≡ k) × (p.role ≡ Whole → ⊥) × (p.role ≡ Listing → ⊥)
      ended e = (ap (λ (p : PlainRule). p.rule) (sym e), no-whole (ap (λ (p : PlainRule). p.role) e), no-listing (ap (λ (p : PlainRule). p.role) e))
        where
          no-whole : End ≡ p.role → p.role ≡ Whole → ⊥
          no-whole e f = let g : End ≡ Whole = e ∙ f in cc

          no-listing : End ≡ p.role → p.role ≡ Listing → ⊥
          no-listing e f = let g : End ≡ Listing = e ∙ f in cc

      by : (b : Bool) → Contains (if b then map (link_at spec symbols k) (different (right_of r)) ++ end_at spec symbols k ∷ [] else []) p → (p.rule ≡ k) × (p.role ≡ Whole → ⊥) × (p.role ≡ Listing → ⊥)
      by false m = absurd (contains-nil p m)
      by true m = elim (Contains-append_cases (map (link_at spec symbols k) (different (right_of r))) (end_at spec symbols k ∷ []) p m) [
        | inl h ↦ let (y, my, e) = contains-map (link_at spec symbols k) (different (right_of r)) p h in linked y e
        | inr h ↦ elim (contains-cons (end_at spec symbols k) p [] h) [ inl e ↦ ended e | inr z ↦ absurd (contains-nil p z) ]
      ]

  cells-apart : (n : ℕ) (xs : List RuleItem) → AreApart (flat_map (cell_rules spec symbols) (enumerated n xs))
  unfolding Apart
  cells-apart n [] = tt
  cells-apart n (r ∷ xs) = apart-append (cell_rules spec symbols (n, r)) (flat_map (cell_rules spec symbols) (enumerated (suc n) xs)) (cell-rules-apart n r) (cells-apart (suc n) xs) (λ p q m k rule role.
      (let (x, mx, mq) = contains-flat (cell_rules spec symbols) (enumerated (suc n) xs) q k in
      let first = (cell-rule-of n r p m).0 in
      let second = (cell-rule-of x.0 x.1 q mq).0 in
      let le = (enumerated-rule (suc n) x.0 x.1 xs mx).0 in
      absurd (omega (arith, first, second, le, rule))))

  written-apart : (n : ℕ) (xs : List RuleItem) → AreApart (map (written_rule spec symbols) (enumerated n xs))
  unfolding Apart
  written-apart n [] = tt
  written-apart n (r ∷ xs) = (
    λ q m rule role. (let (x, mx, e) = contains-map (written_rule spec symbols) (enumerated (suc n) xs) q m in
        let le = (enumerated-rule (suc n) x.0 x.1 xs mx).0 in
        let its = ap (λ (p : PlainRule). p.rule) e in
        absurd (omega (arith, le, its, rule))),
    written-apart (suc n) xs,
  )

  pub rules-apart : (i j : ℕ) (p q : PlainRule) → slice_get (plain_rules spec symbols) i ≡ Some p → slice_get (plain_rules spec symbols) j ≡ Some q → i < j → p.rule ≡ q.rule → p.role ≡ q.role → ⊥
  unfolding Apart
  rules-apart i j p q e f h = apart-at (plain_rules spec symbols) i j p q (apart-append (map (written_rule spec symbols) (enumerated 0 spec.rules)) (flat_map (cell_rules spec symbols) (enumerated 0 spec.rules))
      (written-apart 0 spec.rules) (cells-apart 0 spec.rules) (λ p q m k. different_kind p q m k)) e f h
    where
      different_kind : (p q : PlainRule) → Contains (map (written_rule spec symbols) (enumerated 0 spec.rules)) p → Contains (flat_map (cell_rules spec symbols) (enumerated 0 spec.rules)) q → p.rule ≡ q.rule → p.role ≡ q.role → ⊥
      different_kind p q m k rule role =
          let (x, mx, e) = contains-map (written_rule spec symbols) (enumerated 0 spec.rules) p m in
          let (z, mz, mq) = contains-flat (cell_rules spec symbols) (enumerated 0 spec.rules) q k in
          let (same, no_whole, no_listing) = cell-rule-of z.0 z.1 q mq in
          by x.1.list (ap (λ (p : PlainRule). p.role) e ∙ role) no_whole no_listing
        where
          by : (b : Bool) → (if b then Listing else Whole) ≡ q.role → (q.role ≡ Whole → ⊥) → (q.role ≡ Listing → ⊥) → ⊥
          by true e no_whole no_listing = no_listing (sym e)
          by false e no_whole no_listing = no_whole (sym e)

-- ---- names of rules

module _ (spec : Spec) (early env : Environment) (T : Tables spec) (tables : AreTables spec T env) (accepted : IsAccepted spec early T) (names : AreNames spec early env) where
  -- a name without `$`, or with what stands behind it
  pub data IsNamedAs (w : List ℕ) (role : Role) (text : List ℕ) : Type 0 where
    bare : (role ≡ Whole) ⊎ (role ≡ Listing) → text ≡ w → IsNamedAs w role text
    linked : (s : ℕ) → role ≡ Link s → text ≡ w ++ 36 ∷ text_of env s → IsNamedAs w role text
    ended : role ≡ End → text ≡ w ++ 36 ∷ [] → IsNamedAs w role text

  named-as : (w : List ℕ) (role : Role) → IsNamedAs w role (rule_text w (text_of env) role)
  named-as w Whole = bare (inl refl) refl
  named-as w Listing = bare (inr refl) refl
  named-as w (Link s) = linked s refl (append_assoc w (36 ∷ []) (text_of env s))
  named-as w End = ended refl refl

  dollar-in : (w more : List ℕ) → Contains (w ++ 36 ∷ more) 36
  dollar-in w more = Contains-append_right w (36 ∷ more) 36 (contains-here 36 more)

  -- the two have one role, where both are of one written rule
  abbrev IsOneRole : Role → Role → Type 0
  IsOneRole a b = (a ≡ b) ⊎ (((a ≡ Whole) ⊎ (a ≡ Listing)) × ((b ≡ Whole) ⊎ (b ≡ Listing)))

  some-text : (s : ℕ) → IsWordAt env s → text_of env s ≡ [] → ⊥
  some-text s word e = let some = word.word.some in let l = ap (λ (l : List ℕ). length l) (sym (word-text env s word) ∙ e) in omega (arith, some, l)

  same-name : (w v : List ℕ) (a b : Role) (x y : List ℕ) → (Contains w 36 → ⊥) → (Contains v 36 → ⊥) → ((s : ℕ) → a ≡ Link s → IsWordAt env s) → ((s : ℕ) → b ≡ Link s → IsWordAt env s)
      → IsNamedAs w a x → IsNamedAs v b y → x ≡ y → (w ≡ v) × IsOneRole a b
  same-name w v a b x y no_w no_v word_a word_b (bare i e) (bare j f) same = (sym e ∙ same ∙ f, inr (i, j))
  same-name w v a b x y no_w no_v word_a word_b (bare i e) (linked s j f) same = absurd (no_w (subst (λ l. Contains l 36) (sym (sym e ∙ same ∙ f)) (dollar-in v (text_of env s))))
  same-name w v a b x y no_w no_v word_a word_b (bare i e) (ended j f) same = absurd (no_w (subst (λ l. Contains l 36) (sym (sym e ∙ same ∙ f)) (dollar-in v [])))
  same-name w v a b x y no_w no_v word_a word_b (linked s i e) (bare j f) same = absurd (no_v (subst (λ l. Contains l 36) (sym e ∙ same ∙ f) (dollar-in w (text_of env s))))
  same-name w v a b x y no_w no_v word_a word_b (ended i e) (bare j f) same = absurd (no_v (subst (λ l. Contains l 36) (sym e ∙ same ∙ f) (dollar-in w [])))
  same-name w v a b x y no_w no_v word_a word_b (linked s i e) (linked t j f) same =
      let (front, back) = split-dollar w v (text_of env s) (text_of env t) no_w no_v (sym e ∙ same ∙ f) in
      (front, inl (i ∙ ap Link (one-id spec early env names s t (word_a s i) (word_b t j) back) ∙ sym j))
  same-name w v a b x y no_w no_v word_a word_b (linked s i e) (ended j f) same =
      let (front, back) = split-dollar w v (text_of env s) [] no_w no_v (sym e ∙ same ∙ f) in
      absurd (some-text s (word_a s i) back)
  same-name w v a b x y no_w no_v word_a word_b (ended i e) (linked t j f) same =
      let (front, back) = split-dollar w v [] (text_of env t) no_w no_v (sym e ∙ same ∙ f) in
      absurd (some-text t (word_b t j) (sym back))
  same-name w v a b x y no_w no_v word_a word_b (ended i e) (ended j f) same =
      let (front, back) = split-dollar w v [] [] no_w no_v (sym e ∙ same ∙ f) in
      (front, inl (i ∙ sym j))

  -- the element of a link is a word
  link-word : (p : PlainRule) → IsRuleOf spec T.symbols p → (s : ℕ) → p.role ≡ Link s → IsWordAt env s
  link-word p (whole r h) s e = let f : Whole ≡ Link s = sym h.role ∙ e in cc
  link-word p (listing r h) s e = let f : Listing ≡ Link s = sym h.role ∙ e in cc
  link-word p (end r h) s e = let f : End ≡ Link s = sym h.role ∙ e in cc
  link-word p (link r x h) s e =
      let same : x ≡ s = ap (λ (k : Role). link-of k) (sym h.role ∙ e) in
      production-word spec early env names r (place-contains spec.rules p.rule r h.rule) s (contains-later (left_of r) s (right_of r) (subst (Contains (right_of r)) same h.element))

  no-link : (x : ℕ) (k : Role) → (k ≡ Whole) ⊎ (k ≡ Listing) → Link x ≡ k → ⊥
  no-link x k (inl i) e = let f : Link x ≡ Whole = e ∙ i in cc
  no-link x k (inr i) e = let f : Link x ≡ Listing = e ∙ i in cc

  no-end : (k : Role) → (k ≡ Whole) ⊎ (k ≡ Listing) → End ≡ k → ⊥
  no-end k (inl i) e = let f : End ≡ Whole = e ∙ i in cc
  no-end k (inr i) e = let f : End ≡ Listing = e ∙ i in cc

  -- of one written rule the plain one is a list's or not
  one-written : (p q : PlainRule) → IsRuleOf spec T.symbols p → IsRuleOf spec T.symbols q → p.rule ≡ q.rule → IsOneRole p.role q.role → p.role ≡ q.role
  one-written p q a b e (inl same) = same
  one-written p q (whole r h) (whole s g) e (inr both) = h.role ∙ sym g.role
  one-written p q (listing r h) (listing s g) e (inr both) = h.role ∙ sym g.role
  one-written p q (whole r h) (listing s g) e (inr both) =
      absurd (true≢false (sym g.list ∙ ap (λ (r : RuleItem). r.list) (same_Some s r (sym g.rule ∙ ap (slice_get spec.rules) (sym e) ∙ h.rule)) ∙ h.plain))
  one-written p q (listing r h) (whole s g) e (inr both) =
      absurd (true≢false (sym h.list ∙ ap (λ (r : RuleItem). r.list) (same_Some r s (sym h.rule ∙ ap (slice_get spec.rules) e ∙ g.rule)) ∙ g.plain))
  one-written p q (link r x h) b e (inr both) = elim both.0 [
    | inl i ↦ absurd (no-link x Whole (inl refl) (sym h.role ∙ i))
    | inr i ↦ absurd (no-link x Listing (inr refl) (sym h.role ∙ i))
  ]
  one-written p q (end r h) b e (inr both) = elim both.0 [
    | inl i ↦ absurd (no-end Whole (inl refl) (sym h.role ∙ i))
    | inr i ↦ absurd (no-end Listing (inr refl) (sym h.role ∙ i))
  ]
  one-written p q (whole r h) (link s x g) e (inr both) = elim both.1 [
    | inl i ↦ absurd (no-link x Whole (inl refl) (sym g.role ∙ i))
    | inr i ↦ absurd (no-link x Listing (inr refl) (sym g.role ∙ i))
  ]
  one-written p q (listing r h) (link s x g) e (inr both) = elim both.1 [
    | inl i ↦ absurd (no-link x Whole (inl refl) (sym g.role ∙ i))
    | inr i ↦ absurd (no-link x Listing (inr refl) (sym g.role ∙ i))
  ]
  one-written p q (whole r h) (end s g) e (inr both) = elim both.1 [
    | inl i ↦ absurd (no-end Whole (inl refl) (sym g.role ∙ i))
    | inr i ↦ absurd (no-end Listing (inr refl) (sym g.role ∙ i))
  ]
  one-written p q (listing r h) (end s g) e (inr both) = elim both.1 [
    | inl i ↦ absurd (no-end Whole (inl refl) (sym g.role ∙ i))
    | inr i ↦ absurd (no-end Listing (inr refl) (sym g.role ∙ i))
  ]

  module _ (needs : Needs spec T) (slots : ℕ → List Slot) (symbols : List FlatSymbol) (flat_rules : List FlatRule) (shapes : List Shape) (root : SymId) (is : IsFlat spec T needs slots env symbols flat_rules shapes root) where
    pub rule-names : AllPairs (λ (r q : FlatRule). r.name ≡ q.name → ⊥) flat_rules
    rule-names = pairs-places (λ (r q : FlatRule). r.name ≡ q.name → ⊥) flat_rules (λ i j r q h e f same.
        differ i j r q h (flat-at spec env T tables needs slots symbols flat_rules shapes root is i r e) (flat-at spec env T tables needs slots symbols flat_rules shapes root is j q f) (ap (λ (n : StrId). n.0) same))
      where
        differ : (i j : ℕ) (r q : FlatRule) → i < j → IsFlatAt spec env T tables needs slots symbols flat_rules shapes root is i r → IsFlatAt spec env T tables needs slots symbols flat_rules shapes root is j q → r.name.0 ≡ q.name.0 → ⊥
        differ i j r q h a b same =
            let p_is = is-rule spec env T tables i a.p a.fs a.of_ruled in
            let q_is = is-rule spec env T tables j b.p b.fs b.of_ruled in
            let word_r = names.rules a.is_flat.rule (place-contains spec.rules a.p.rule a.is_flat.rule a.is_flat.of_rule) in
            let word_q = names.rules b.is_flat.rule (place-contains spec.rules b.p.rule b.is_flat.rule b.is_flat.of_rule) in
            let (front, role) = same-name (text_of env a.is_flat.rule.name.0) (text_of env b.is_flat.rule.name.0) a.p.role b.p.role
            (rule_text (text_of env a.is_flat.rule.name.0) (text_of env) a.p.role) (rule_text (text_of env b.is_flat.rule.name.0) (text_of env) b.p.role)
            (no-dollar env a.is_flat.rule.name.0 word_r) (no-dollar env b.is_flat.rule.name.0 word_q) (link-word a.p p_is) (link-word b.p q_is)
            (named-as (text_of env a.is_flat.rule.name.0) a.p.role) (named-as (text_of env b.is_flat.rule.name.0) b.p.role)
            (sym a.is_flat.name ∙ ap (text_of env) same ∙ b.is_flat.name) in
            let rule = one-rule spec early env T tables accepted names a.p.rule b.p.rule a.is_flat.rule b.is_flat.rule a.is_flat.of_rule b.is_flat.of_rule front in
            rules-apart spec T.symbols i j a.p b.p a.of_ruled.plain b.of_ruled.plain h rule (one-written a.p b.p p_is q_is rule role)
