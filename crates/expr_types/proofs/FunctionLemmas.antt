-- The functions of patterns, by the ids of their names.
use Rattle.std.specs.Prelude.{◌≡◌, ◌<◌, ℕ, zero, suc, nat_eq, Bool, true, false, if◌then◌else◌, List, [], ◌∷◌, ◌++◌, length, take, drop, Option, Some, None, option_map, unwrap_or, slice_get, find, codes, Contains, refl}
use Rattle.std.specs.Option.{option_or}
use Rattle.std.specs.Str.{bytes_eq}
use Rattle.std.specs.List.{IsDistinct, AllByRecursion}
use Rattle.std.proofs.Common.{sym, ap, subst, ◌∙◌}
use Rattle.std.proofs.lemmas.Option.{none-some, same_Some}
use Rattle.std.proofs.lemmas.Bool.{false≢true, eqb-true, eq-eqb}
use Rattle.std.proofs.lemmas.List.{take-append-drop}
use Rattle.std.proofs.lemmas.List.Folds.{find-append}
use Rattle.std.proofs.lemmas.Slice.Eq.{bytes_eq-Decides}
use Rattle.lido_base.specs.declared.pattern.Pattern.{Pattern}
use Rattle.lido_base.specs.declared.operation.Op.{Op}
use Rattle.lido_base.specs.declared.operation.Op.TheVariants as op
use Rattle.lido_base.specs.Environment.{Environment}
use Rattle.lido_base.specs.Texts.{IsDistinctTexts}
use Rattle.lido_base.proofs.Lists.{contains-here, contains-later, place-below}
use Rattle.lido_syntax.specs.Functions.{text_of, pattern_names, operation_names, operation_of}
use Rattle.expr_types.specs.Named.{named_in, operation_named}
use Rattle.expr_types.specs.Functions.{first_pattern}

-- ---- a step of the table of names

pub step-number : (a b : Option ℕ) (same : Bool) (k : ℕ) (rest all : Option ℕ)
    → option_or a (if same then Some k else rest) ≡ all → b ≡ option_or a (if same then Some k else None) → option_or b rest ≡ all
step-number None b true k rest all h e = ap (λ o. option_or o rest) e ∙ h
step-number None b false k rest all h e = ap (λ o. option_or o rest) e ∙ h
step-number (Some x) b same k rest all h e = ap (λ o. option_or o rest) e ∙ h

pub or-none : (o : Option ℕ) → option_or o None ≡ o
or-none None = refl
or-none (Some x) = refl

-- ---- distinct texts

apart : (t : List ℕ) (texts : List (List ℕ)) (k : ℕ) → AllByRecursion (λ u. bytes_eq t u ≡ false) texts → slice_get texts k ≡ Some t → ⊥
apart t [] k h e = none-some t e
apart t (u ∷ us) zero h e =
    let same : u ≡ t = same_Some u t e in
    let equal : bytes_eq t u ≡ true = (bytes_eq-Decides t u).1 (sym same) in
    false≢true (sym h.0 ∙ equal)
apart t (u ∷ us) (suc k) h e = apart t us k h.1 e

pub one-place : (texts : List (List ℕ)) (i j : ℕ) (t : List ℕ) → IsDistinctTexts texts → slice_get texts i ≡ Some t → slice_get texts j ≡ Some t → i ≡ j
unfolding IsDistinct
one-place [] i j t d e f = absurd (none-some t e)
one-place (u ∷ us) zero zero t d e f = refl
one-place (u ∷ us) zero (suc j) t d e f = absurd (apart u us j d.0 (f ∙ sym e))
one-place (u ∷ us) (suc i) zero t d e f = absurd (apart u us i d.0 (e ∙ sym f))
one-place (u ∷ us) (suc i) (suc j) t d e f = ap suc (one-place us i j t d.1 e f)

-- ---- the names of patterns' functions

abbrev pub PTG : List ℕ → List ℕ
PTG name = codes "PTG" ++ name

module _ (env : Environment) where
  abbrev of_pattern : Pattern → List ℕ
  of_pattern p = text_of env p.name.0

  -- the first function has the name, or one behind it
  abbrev chosen : ℕ → List Pattern → List ℕ → Bool → Option Op
  chosen k ps name b = if b then Some (op.Pattern k) else named_in (pattern_names env (suc k) ps) name

  abbrev behind : (List ℕ × Op) → Option (List ℕ × Op) → Bool → Option Op
  behind first rest b = option_map (λ (o : List ℕ × Op). o.1) (if b then Some first else rest)

  map-if : (first : List ℕ × Op) (rest : Option (List ℕ × Op)) (b : Bool) → behind first rest b ≡ (if b then Some first.1 else option_map (λ (o : List ℕ × Op). o.1) rest)
  map-if first rest true = refl
  map-if first rest false = refl

  one-name : (k : ℕ) (p : Pattern) (ps : List Pattern) (name : List ℕ) (b : Bool) → bytes_eq (PTG (of_pattern p)) name ≡ b
      → named_in (pattern_names env k (p ∷ ps)) name ≡ chosen k ps name b
  one-name k p ps name b e =
      map-if (PTG (of_pattern p), op.Pattern k) (find (λ (o : List ℕ × Op). bytes_eq o.0 name) (pattern_names env (suc k) ps)) (bytes_eq (PTG (of_pattern p)) name)
      ∙ ap (chosen k ps name) e

  -- no pattern's function has the name
  no-name : (k : ℕ) (ps : List Pattern) (name : List ℕ) → ((p : Pattern) → Contains ps p → bytes_eq (PTG (of_pattern p)) name ≡ false) → named_in (pattern_names env k ps) name ≡ None
  no-name k [] name none = refl
  no-name k (p ∷ ps) name none = one-name k p ps name false (none p (contains-here p ps)) ∙ no-name (suc k) ps name (λ q m. none q (contains-later p q ps m))

  unequal : (a b : List ℕ) → (a ≡ b → ⊥) → bytes_eq a b ≡ false
  unequal a b not = go (bytes_eq a b) refl
    where
      go : (r : Bool) → bytes_eq a b ≡ r → r ≡ false
      go true e = absurd (not ((bytes_eq-Decides a b).0 e))
      go false e = refl

  -- the name doesn't begin with PTG
  pub other-name : (k : ℕ) (ps : List Pattern) (name : List ℕ) → bytes_eq (take 3 name) (codes "PTG") ≡ false → named_in (pattern_names env k ps) name ≡ None
  other-name k ps name e = no-name k ps name (λ p m. unequal (PTG (of_pattern p)) name
      (λ same. false≢true (sym e ∙ ap (λ n. bytes_eq (take 3 n) (codes "PTG")) (sym same))))

  -- what stands behind PTG is no text
  pub no-text : (k : ℕ) (ps : List Pattern) (rest : List ℕ) → ((p : Pattern) → Contains ps p → p.name.0 < length env.texts)
      → ((i : ℕ) → slice_get env.texts i ≡ Some rest → ⊥) → named_in (pattern_names env k ps) (PTG rest) ≡ None
  no-text k ps rest range none = no-name k ps (PTG rest) (λ p m. unequal (PTG (of_pattern p)) (PTG rest)
      (λ same.
      let found = place-below env.texts p.name.0 (range p m) in
      let text : of_pattern p ≡ found.0 = ap (λ o. unwrap_or o []) found.1 in
      none p.name.0 (found.1 ∙ ap Some (sym text ∙ ap (drop 3) same))))

  same-id : (p : Pattern) (id : ℕ) (rest : List ℕ) → IsDistinctTexts env.texts → p.name.0 < length env.texts → slice_get env.texts id ≡ Some rest
      → bytes_eq (PTG (of_pattern p)) (PTG rest) ≡ nat_eq p.name.0 id
  same-id p id rest distinct range there = go (nat_eq p.name.0 id) refl
    where
      go : (b : Bool) → nat_eq p.name.0 id ≡ b → bytes_eq (PTG (of_pattern p)) (PTG rest) ≡ b
      go true e = (bytes_eq-Decides (PTG (of_pattern p)) (PTG rest)).1 (ap PTG (ap (text_of env) (eqb-true p.name.0 id e) ∙ ap (λ o. unwrap_or o []) there))
      go false e = unequal (PTG (of_pattern p)) (PTG rest)
          (λ same.
          let found = place-below env.texts p.name.0 range in
          let text : of_pattern p ≡ found.0 = ap (λ o. unwrap_or o []) found.1 in
          let equal : p.name.0 ≡ id = one-place env.texts p.name.0 id rest distinct (found.1 ∙ ap Some (sym text ∙ ap (drop 3) same)) there in
          false≢true (sym e ∙ eq-eqb p.name.0 id equal))

  -- the first pattern that has the text's id for its name
  pub by-id : (k : ℕ) (ps : List Pattern) (id : ℕ) (rest : List ℕ) → IsDistinctTexts env.texts → ((p : Pattern) → Contains ps p → p.name.0 < length env.texts)
      → slice_get env.texts id ≡ Some rest → named_in (pattern_names env k ps) (PTG rest) ≡ option_map (λ n. op.Pattern n) (first_pattern id k ps)
  by-id k [] id rest distinct range there = refl
  by-id k (p ∷ ps) id rest distinct range there =
      one-name k p ps (PTG rest) (nat_eq p.name.0 id) (same-id p id rest distinct (range p (contains-here p ps)) there)
      ∙ go (nat_eq p.name.0 id) (by-id (suc k) ps id rest distinct (λ q m. range q (contains-later p q ps m)) there)
    where
      go : (b : Bool) → named_in (pattern_names env (suc k) ps) (PTG rest) ≡ option_map (λ n. op.Pattern n) (first_pattern id (suc k) ps)
          → chosen k ps (PTG rest) b ≡ option_map (λ n. op.Pattern n) (if b then Some k else first_pattern id (suc k) ps)
      go true later = refl
      go false later = later

-- a text that begins with PTG
pub with-prefix : (name : List ℕ) → bytes_eq (take 3 name) (codes "PTG") ≡ true → name ≡ PTG (drop 3 name)
with-prefix name e = sym (take-append-drop 3 name) ∙ ap (λ front. front ++ drop 3 name) ((bytes_eq-Decides (take 3 name) (codes "PTG")).0 e)

pub split : (prefix text rest : List ℕ) → prefix ≡ codes "PTG" → bytes_eq (take (length prefix) text) prefix ≡ true → rest ≡ drop (length prefix) text → text ≡ PTG rest
split prefix text rest e same r =
    with-prefix text (subst (λ w. bytes_eq (take (length w) text) w ≡ true) e same) ∙ ap PTG (sym (r ∙ ap (λ w. drop (length w) text) e))

pub unsplit : (prefix text : List ℕ) → prefix ≡ codes "PTG" → bytes_eq (take (length prefix) text) prefix ≡ false → bytes_eq (take 3 text) (codes "PTG") ≡ false
unsplit prefix text e other = subst (λ w. bytes_eq (take (length w) text) w ≡ false) e other

-- the operations of LIDO and PTG come before the functions of patterns
pub found-first : (env : Environment) (name : List ℕ) → option_or (operation_named name) (named_in (pattern_names env 0 env.patterns) name) ≡ operation_of env name
found-first env name =
    go (find (λ (o : List ℕ × Op). bytes_eq o.0 name) operation_names) (find (λ (o : List ℕ × Op). bytes_eq o.0 name) (pattern_names env 0 env.patterns))
    ∙ ap (option_map (λ (o : List ℕ × Op). o.1)) (sym (find-append (λ (o : List ℕ × Op). bytes_eq o.0 name) operation_names (pattern_names env 0 env.patterns)))
  where
    go : (a b : Option (List ℕ × Op)) → option_or (option_map (λ (o : List ℕ × Op). o.1) a) (option_map (λ (o : List ℕ × Op). o.1) b) ≡ option_map (λ (o : List ℕ × Op). o.1) (option_or a b)
    go None b = refl
    go (Some x) b = refl
