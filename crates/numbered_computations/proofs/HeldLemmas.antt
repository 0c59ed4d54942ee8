-- What the table holds after each computation, and in the end.
use Rattle.std.specs.Prelude.{nat_eq, map, flat_map, option_map, slice_get, Contains}
use Rattle.std.proofs.Common.{◌≡◌, ℕ, ◌+◌, ◌<◌, ◌⊎◌, inl, inr, Bool, true, false, if◌then◌else◌, List, [], ◌∷◌, ◌++◌, length, take, get_or, Option, Some, None, refl, ap, sym, subst, ◌∙◌, arith, eqb-true, eq-eqb}
use Rattle.std.proofs.lemmas.Bool.{cases_lt}
use Rattle.std.proofs.lemmas.List.{take_more, map-append, flat_map_more}
use Rattle.std.proofs.lemmas.List.Sums.{fold-append, fold_push}
use Rattle.std.proofs.lemmas.Option.{none-some, same_Some, slice_get_within, get_or_from_slice_get, slice_get-map}
use Rattle.lido_base.proofs.Lists.{contains-nil, contains-cons, contains-here, contains-later, contains-place, map-contains, flat-contains}
use Rattle.std.proofs.lemmas.List.Elements.{Contains-append_left, Contains-append_right}
use Rattle.lido_syntax.specs.declared.spec.Spec.{Spec}
use Rattle.lido_syntax.specs.declared.spec.Comp.{Comp}
use Rattle.lido_syntax.specs.declared.spec.RuleItem.{RuleItem}
use Rattle.lido_syntax.specs.declared.spec.SymbolItem.{SymbolItem}
use Rattle.lido_symbols.specs.FromText.{IsFromText, AreApart}
use Rattle.lido_symbols.specs.Uses.{computations}
use Rattle.numbered_computations.specs.declared.table.Holder.{Holder}
use Rattle.numbered_computations.specs.declared.table.Holder.TheVariants as holder
use Rattle.numbered_computations.specs.declared.table.Computations.{Computations}
use Rattle.numbered_computations.specs.Held.{held_by, all_held, last_of, held_at, AreComputationsOf}

-- ---- one more

abbrev step : ℕ → Option (Holder × Comp) → Holder × Comp → Option (Holder × Comp)
step n o h = if nat_eq h.1.number n then Some h else o

pub body-more : (n : ℕ) (h : Holder) (body : List Comp) (i : ℕ) (c : Comp) (before old new : Option (Holder × Comp)) → i < length body → c ≡ get_or body i c
    → old ≡ last_of n before (held_by h (take i body)) → new ≡ (if nat_eq c.number n then Some (h, c) else old) → new ≡ last_of n before (held_by h (take (i + 1) body))
body-more n h body i c before old new below is have made =
    let next : take (i + 1) body ≡ take i body ++ c ∷ [] = take_more body i c below ∙ ap (λ (z : Comp). take i body ++ z ∷ []) (sym is) in
    made ∙ ap (λ (o : Option (Holder × Comp)). step n o (h, c)) have ∙ sym (fold_push (step n) before (held_by h (take i body)) (h, c))
    ∙ ap (last_of n before) (sym (map-append (λ (k : Comp). (h, k)) (take i body) (c ∷ [])) ∙ ap (held_by h) (sym next))

pub flat-more : {X : Type 0} (f : X → List (Holder × Comp)) (n : ℕ) (xs : List X) (i : ℕ) (x : X) (before old new : Option (Holder × Comp)) → i < length xs → x ≡ get_or xs i x
    → old ≡ last_of n before (flat_map f (take i xs)) → new ≡ last_of n old (f x) → new ≡ last_of n before (flat_map f (take (i + 1) xs))
flat-more {X} f n xs i x before old new below is have made =
    let next : take (i + 1) xs ≡ take i xs ++ x ∷ [] = take_more xs i x below ∙ ap (λ (z : X). take i xs ++ z ∷ []) (sym is) in
    made ∙ ap (λ (o : Option (Holder × Comp)). last_of n o (f x)) have ∙ sym (fold-append (step n) before (flat_map f (take i xs)) (f x))
    ∙ ap (last_of n before) (flat_map_more f [] (take i xs) x ∙ ap (flat_map f) (sym next))

-- ---- of computations with different numbers each is found

kept : (n : ℕ) (list : List (Holder × Comp)) (h : Holder × Comp) → ((g : Holder × Comp) → Contains list g → g.1.number ≡ n → g ≡ h) → last_of n (Some h) list ≡ Some h
kept n [] h tells = refl
kept n (x ∷ xs) h tells = by (nat_eq x.1.number n) refl (kept n xs h (λ g m. tells g (contains-later x g xs m)))
  where
    by : (b : Bool) → nat_eq x.1.number n ≡ b → last_of n (Some h) xs ≡ Some h → last_of n (if b then Some x else Some h) xs ≡ Some h
    by false e later = later
    by true e later = ap (λ (o : Option (Holder × Comp)). last_of n o xs) (ap Some (tells x (contains-here x xs) (eqb-true x.1.number n e))) ∙ later

found : (n : ℕ) (list : List (Holder × Comp)) (before : Option (Holder × Comp)) (h : Holder × Comp) → Contains list h → h.1.number ≡ n
    → ((g : Holder × Comp) → Contains list g → g.1.number ≡ n → g ≡ h) → last_of n before list ≡ Some h
found n [] before h m e tells = absurd (contains-nil h m)
found n (x ∷ xs) before h m e tells = go (contains-cons x h xs m) (λ k. found n xs (step n before x) h k e (λ g l. tells g (contains-later x g xs l)))
  where
    go : (x ≡ h) ⊎ Contains xs h → (Contains xs h → last_of n (step n before x) xs ≡ Some h) → last_of n before (x ∷ xs) ≡ Some h
    go (inr k) later = later k
    go (inl same) later =
        let here : nat_eq x.1.number n ≡ true = eq-eqb x.1.number n (ap (λ (z : Holder × Comp). z.1.number) same ∙ e) in
        ap (λ (b : Bool). last_of n (if b then Some x else before) xs) here ∙ ap (λ (z : Holder × Comp). last_of n (Some z) xs) same
        ∙ kept n xs h (λ g l. tells g (contains-later x g xs l))

-- what is found is among them
among : (n : ℕ) (list : List (Holder × Comp)) (before : Option (Holder × Comp)) (h : Holder × Comp) → last_of n before list ≡ Some h
    → (before ≡ Some h) ⊎ (Contains list h × (h.1.number ≡ n))
among n [] before h e = inl e
among n (x ∷ xs) before h e = go (nat_eq x.1.number n) refl (among n xs (step n before x) h e)
  where
    go : (b : Bool) → nat_eq x.1.number n ≡ b → ((if b then Some x else before) ≡ Some h) ⊎ (Contains xs h × (h.1.number ≡ n)) → (before ≡ Some h) ⊎ (Contains (x ∷ xs) h × (h.1.number ≡ n))
    go b t (inr (m, f)) = inr (contains-later x h xs m, f)
    go false t (inl f) = inl f
    go true t (inl f) =
        let same : x ≡ h = same_Some x h f in
        inr (subst (Contains (x ∷ xs)) same (contains-here x xs), ap (λ (z : Holder × Comp). z.1.number) (sym same) ∙ eqb-true x.1.number n t)

-- ---- the computations of a text

comps-held : (h : Holder) (body : List Comp) → map (λ (x : Holder × Comp). x.1) (held_by h body) ≡ body
comps-held h [] = refl
comps-held h (c ∷ cs) = ap (λ (l : List Comp). c ∷ l) (comps-held h cs)

flat-held : {X : Type 0} (body : X → List Comp) (h : Holder) (xs : List X) → map (λ (x : Holder × Comp). x.1) (flat_map (λ x. held_by h (body x)) xs) ≡ flat_map body xs
flat-held body h [] = refl
flat-held body h (x ∷ xs) =
    map-append (λ (z : Holder × Comp). z.1) (held_by h (body x)) (flat_map (λ y. held_by h (body y)) xs)
    ∙ (λ i. comps-held h (body x) i ++ flat-held body h xs i)

module _ (spec : Spec) where
  abbrev of-rules : List (Holder × Comp)
  of-rules = flat_map (λ (r : RuleItem). held_by holder.Rule r.body) spec.rules

  abbrev of-items : List (Holder × Comp)
  of-items = flat_map (λ (item : SymbolItem). held_by holder.Symbol item.body) spec.symbols

  comps-all : map (λ (x : Holder × Comp). x.1) (all_held spec) ≡ computations spec
  comps-all =
      map-append (λ (x : Holder × Comp). x.1) (flat_map (λ (r : RuleItem). held_by holder.Rule r.body) spec.rules) (flat_map (λ (item : SymbolItem). held_by holder.Symbol item.body) spec.symbols)
      ∙ (λ i. flat-held (λ (r : RuleItem). r.body) holder.Rule spec.rules i ++ flat-held (λ (item : SymbolItem). item.body) holder.Symbol spec.symbols i)

  -- rules and then symbols
  pub both-held : (n : ℕ) (none rules all : Option (Holder × Comp)) → none ≡ None → rules ≡ last_of n none of-rules → all ≡ last_of n rules of-items → all ≡ last_of n None (all_held spec)
  both-held n none rules all e f g =
      g ∙ ap (λ (o : Option (Holder × Comp)). last_of n o of-items) (f ∙ ap (λ (o : Option (Holder × Comp)). last_of n o of-rules) e) ∙ sym (fold-append (step n) None of-rules of-items)

  at-place : (i : ℕ) (h : Holder × Comp) → slice_get (all_held spec) i ≡ Some h → slice_get (computations spec) i ≡ Some h.1
  at-place i h e =
      ap (λ (l : List Comp). slice_get l i) (sym comps-all) ∙ slice_get-map (λ (x : Holder × Comp). x.1) (all_held spec) i ∙ ap (option_map (λ (x : Holder × Comp). x.1)) e

  module _ (from : IsFromText spec) where
    -- computations at two places have two numbers
    apart : (i j : ℕ) (c d : Comp) → slice_get (computations spec) i ≡ Some c → slice_get (computations spec) j ≡ Some d → i < j → c.number ≡ d.number → ⊥
    apart i j c d at there less same =
        let within = slice_get_within (computations spec) j d there in
        let first : get_or (computations spec) i c ≡ c = get_or_from_slice_get (computations spec) i c c at in
        let second : get_or (computations spec) j c ≡ d = get_or_from_slice_get (computations spec) j d c there in
        by c d (subst (λ z. AreApart spec (z.number, z.at) (d.number, d.at)) first (subst (λ (z : Comp). AreApart spec ((get_or (computations spec) i c).number, (get_or (computations spec) i c).at) (z.number, z.at)) second
        (from.computations_apart i j c less within))) same
      where
        by : (c d : Comp) → AreApart spec (c.number, c.at) (d.number, d.at) → c.number ≡ d.number → ⊥
        by c d (inl h) e = omega (arith, h.0, e)
        by c d (inr h) e = omega (arith, h.0, e)

    tells : (g h : Holder × Comp) → Contains (all_held spec) g → Contains (all_held spec) h → g.1.number ≡ h.1.number → g ≡ h
    tells g h m k e =
        let (i, at) = contains-place (all_held spec) g m in
        let (j, there) = contains-place (all_held spec) h k in
        elim (cases_lt i j) [
          | inl l ↦ absurd (apart i j g.1 h.1 (at-place i g at) (at-place j h there) l e)
          | inr l ↦ elim (cases_lt j i) [
            | inl r ↦ absurd (apart j i h.1 g.1 (at-place j h there) (at-place i g at) r (sym e))
            | inr r ↦ same_Some g h (sym at ∙ ap (slice_get (all_held spec)) (omega (arith, l, r)) ∙ there)
          ]
        ]

    pub are-computations : (computations : Computations) → ((n : ℕ) → held_at computations n ≡ last_of n None (all_held spec)) → AreComputationsOf spec computations
    are-computations computations holds = record {
      of_rules = λ r c m k. here (holder.Rule, c)
          (Contains-append_left of-rules of-items (holder.Rule, c) (flat-contains (λ (r : RuleItem). held_by holder.Rule r.body) spec.rules r (holder.Rule, c) m (map-contains (λ (c : Comp). (holder.Rule, c)) r.body c k)));
      of_symbols = λ item c m k. here (holder.Symbol, c)
          (Contains-append_right of-rules of-items (holder.Symbol, c) (flat-contains (λ (item : SymbolItem). held_by holder.Symbol item.body) spec.symbols item (holder.Symbol, c) m (map-contains (λ (c : Comp). (holder.Symbol, c)) item.body c k)));
      only = λ n h e. only n h (among n (all_held spec) None h (sym (holds n) ∙ e));
    }
      where
        here : (h : Holder × Comp) → Contains (all_held spec) h → held_at computations h.1.number ≡ Some h
        here h m = holds h.1.number ∙ found h.1.number (all_held spec) None h m refl (λ g k e. tells g h k m e)

        only : (n : ℕ) (h : Holder × Comp) → (None ≡ Some h) ⊎ (Contains (all_held spec) h × (h.1.number ≡ n)) → Contains (all_held spec) h × (h.1.number ≡ n)
        only n h (inl e) = absurd (none-some h e)
        only n h (inr x) = x
