-- What a CONSTITUENTS joins, by the tables.
use Rattle.std.specs.Prelude.{Contains, is_none, is_some, not}
use Rattle.std.proofs.Common.{◌≡◌, ℕ, zero, suc, ◌≤◌, inl, inr, Bool, true, false, List, [], ◌∷◌, ◌++◌, length, map, take, get_or, Option, Some, None, refl, sym, ap, subst, ◌∙◌, arith}
use Rattle.lido_base.proofs.Lists.{contains-nil, contains-cons, contains-here, contains-later}
use Rattle.lido_syntax.specs.declared.spec.Cons.{Cons}
use Rattle.lido_syntax.specs.declared.spec.With.{With}
use Rattle.lido_syntax.specs.Computation.{Holder}
use Rattle.flat_grammar.specs.declared.flat.Occ.{Occ}
use Rattle.flat_grammar.specs.declared.flat.FlatExpr.{FlatExpr}
use Rattle.rule_tables.specs.PlainRules as plain
use Rattle.rule_tables.specs.Copies.{nothing}
use Rattle.rule_tables.specs.Shares as share
use Rattle.rule_tables.specs.Slots.{Con, has_con}
use Rattle.flat_slots.specs.Slots.{slots_in}
use Rattle.flat_terms.specs.declared.site.Role.{Role}
use Rattle.flat_terms.specs.declared.site.Role.TheVariants as role
use Rattle.flat_terms.specs.declared.site.Site.{Site}
use Rattle.flat_terms.specs.Scene.{Scene, occ, gives, made, constituents, needed, needed_below}
use Rattle.flat_terms.specs.Folds.{con_at, comb_at, onto_at, folded_at, joined_at, places_by}
use Rattle.flat_terms.specs.Sites.{IsSiteOf, IsGathered, IsRoleOf, is_among}
use Rattle.flat_terms.proofs.PlaceLemmas.{places-within}

pub none-is : {X : Type 0} (o : Option X) (b : Bool) → is_some o ≡ not b → b ≡ is_none o
none-is None true e = refl
none-is None false e = e
none-is (Some x) true e = e
none-is (Some x) false e = refl

taken : (n : ℕ) (js : List ℕ) (j : ℕ) → Contains (take n js) j → Contains js j
taken zero js j m = absurd (contains-nil j m)
taken (suc n) [] j m = m
taken (suc n) (i ∷ js) j m = elim (contains-cons i j (take n js) m) [ inl e ↦ subst (λ x. Contains (i ∷ js) x) e (contains-here i js) | inr l ↦ contains-later i j js (taken n js j l) ]

module _ (scene : Scene) where
  -- one child less
  pub onto-append : (number : ℕ) (with : With) (last : FlatExpr) (js : List ℕ) (j : ℕ) → onto_at scene number with last (js ++ j ∷ []) ≡ onto_at scene number with (comb_at scene number with (con_at scene number j) last) js
  onto-append number with last [] j = refl
  onto-append number with last (i ∷ js) j = ap (λ e. comb_at scene number with (con_at scene number i) e) (onto-append number with last js j)

  pub onto-less : (number : ℕ) (with : With) (last made : FlatExpr) (js items : List ℕ) (j : ℕ) → items ≡ js ++ j ∷ [] → made ≡ comb_at scene number with (con_at scene number j) last
      → onto_at scene number with made js ≡ onto_at scene number with last items
  onto-less number with last made js items j popped is =
      ap (λ m. onto_at scene number with m js) is ∙ sym (onto-append number with last js j) ∙ ap (onto_at scene number with last) (sym popped)

  pub listing-joined : (number : ℕ) (with : With) (js : List ℕ) → 1 ≤ length js → con_at scene number (get_or js 0 0) ≡ joined_at scene number role.Listing with js
  listing-joined number with [] h = absurd (omega (arith, h))
  listing-joined number with (j ∷ js) h = refl

  pub link-one : (number : ℕ) (with : With) (js : List ℕ) → length js ≡ 1 → con_at scene number (get_or js 0 0) ≡ joined_at scene number role.Link with js
  link-one number with [] h = absurd (omega (arith, h))
  link-one number with (j ∷ []) h = refl
  link-one number with (i ∷ j ∷ js) h = absurd (omega (arith, h))

  pub link-two : (number : ℕ) (with : With) (js : List ℕ) → 2 ≤ length js → comb_at scene number with (con_at scene number (get_or js 0 0)) (con_at scene number (get_or js 1 0)) ≡ joined_at scene number role.Link with js
  link-two number with [] h = absurd (omega (arith, h))
  link-two number with (j ∷ []) h = absurd (omega (arith, h))
  link-two number with (i ∷ j ∷ js) h = refl

  abbrev below_by : plain.Role → Cons → With → List ℕ → share.Term
  below_by = share.below_by scene.spec scene.tables scene.needs scene.plain scene.forces

  abbrev below_term : Cons → share.Term
  below_term = share.below_term scene.spec scene.tables scene.needs scene.plain scene.forces

  module _ (tail : ℕ → FlatExpr) (holder : Holder) (context : ℕ) (k : Cons) (with : With) where
    folded-made : (js : List ℕ) → folded_at scene k.number with js ≡ made scene tail holder context (share.folded scene.spec scene.tables scene.needs scene.plain scene.forces k with js)
    folded-made [] = refl
    folded-made (j ∷ js) = ap (λ e. comb_at scene k.number with (con_at scene k.number j) e) (folded-made js)

    joined-by : (p : plain.Role) (r : Role) (js : List ℕ) → IsRoleOf p r → joined_at scene k.number r with js ≡ made scene tail holder context (below_by p k with js)
    joined-by plain.Whole r js is = ap (λ q. joined_at scene k.number q with js) is ∙ folded-made js
    joined-by plain.Listing r [] is = ap (λ q. joined_at scene k.number q with []) is
    joined-by plain.Listing r (j ∷ js) is = ap (λ q. joined_at scene k.number q with (j ∷ js)) is
    joined-by (plain.Link s) r [] is = ap (λ q. joined_at scene k.number q with []) is
    joined-by (plain.Link s) r (j ∷ []) is = ap (λ q. joined_at scene k.number q with (j ∷ [])) is
    joined-by (plain.Link s) r (i ∷ j ∷ js) is = ap (λ q. joined_at scene k.number q with (i ∷ j ∷ js)) is
    joined-by plain.End r js is = ap (λ q. joined_at scene k.number q with js) is

  abbrev with_term : Cons → Option With → share.Term
  with_term k o = elim o [ None ↦ share.void_below scene.spec scene.tables scene.needs scene.plain scene.forces k | Some with ↦ below_by scene.plain.role k with (gives scene k) ]

  module _ (site : Site) (is : IsSiteOf scene site) (k : Cons) where
    pub joined-constituents : (tail : ℕ → FlatExpr) (holder : Holder) (context : ℕ) (with : With) (js : List ℕ) → k.with ≡ Some with → js ≡ gives scene k
        → joined_at scene k.number site.role with js ≡ constituents scene tail holder context k
    joined-constituents tail holder context with js e same =
        ap (joined_at scene k.number site.role with) same ∙ joined-by tail holder context k with scene.plain.role site.role (gives scene k) is.role
        ∙ ap (λ o. made scene tail holder context (with_term k o)) (sym e)

    pub void-constituents : (tail : ℕ → FlatExpr) (holder : Holder) (context : ℕ) → k.with ≡ None → nothing ≡ constituents scene tail holder context k
    void-constituents tail holder context e = ap (λ o. made scene tail holder context (with_term k o)) (sym e)

    -- the children that have the attribute, by the tables
    pub givers-are : IsGathered scene site k → share.places (λ x. is_among (Con k.number) (slots_in site.slots.now x)) scene.plain ≡ gives scene k
    givers-are gathered = ap (λ (t : ℕ → Bool). share.places t scene.plain) (λ i x. (ap (is_among (Con k.number)) (is.slots x) ∙ gathered.bearers x) i)

    pub gives-fit : (j : ℕ) → Contains (gives scene k) j → j ≤ 65535
    gives-fit j m = let h = places-within (has_con scene.spec scene.tables scene.needs k) 1 scene.plain.right j m in omega (arith, h, is.few)

    abbrev con_occ : ℕ → Occ
    con_occ j = occ scene j (Con k.number)

    void-needs : (js : List ℕ) → map con_occ js ≡ needed scene (λ chain. []) 0 (share.Void (map (λ j. (j, Con k.number)) js))
    void-needs [] = refl
    void-needs (j ∷ js) = ap (λ (l : List Occ). con_occ j ∷ l) (void-needs js)

    folded-needs : (with : With) (js : List ℕ) → map con_occ js ≡ needed scene (λ chain. []) 0 (share.folded scene.spec scene.tables scene.needs scene.plain scene.forces k with js)
    folded-needs with [] = refl
    folded-needs with (j ∷ js) = ap (λ (l : List Occ). con_occ j ∷ l) (folded-needs with js)

    joined-needs : (with : With) (p : plain.Role) (r : Role) (js : List ℕ) → IsRoleOf p r → map con_occ (places_by r false js) ≡ needed scene (λ chain. []) 0 (below_by p k with js)
    joined-needs with plain.Whole r js e = ap (λ q. map con_occ (places_by q false js)) e ∙ folded-needs with js
    joined-needs with plain.Listing r [] e = ap (λ q. map con_occ (places_by q false [])) e
    joined-needs with plain.Listing r (j ∷ js) e = ap (λ q. map con_occ (places_by q false (j ∷ js))) e
    joined-needs with (plain.Link s) r [] e = ap (λ q. map con_occ (places_by q false [])) e
    joined-needs with (plain.Link s) r (j ∷ []) e = ap (λ q. map con_occ (places_by q false (j ∷ []))) e
    joined-needs with (plain.Link s) r (i ∷ j ∷ js) e = ap (λ q. map con_occ (places_by q false (i ∷ j ∷ js))) e
    joined-needs with plain.End r js e = ap (λ q. map con_occ (places_by q false js)) e

    all-places : (r : Role) (js : List ℕ) → places_by r true js ≡ js
    all-places role.Whole js = refl
    all-places role.Listing js = refl
    all-places role.Link js = refl
    all-places role.End js = refl

    pub needs-below : (o : Option With) → k.with ≡ o → map con_occ (places_by site.role (is_none o) (gives scene k)) ≡ needed_below scene k
    needs-below None e = ap (map con_occ) (all-places site.role (gives scene k)) ∙ void-needs (gives scene k) ∙ ap (λ o. needed scene (λ chain. []) 0 (with_term k o)) (sym e)
    needs-below (Some with) e = joined-needs with scene.plain.role site.role (gives scene k) is.role ∙ ap (λ o. needed scene (λ chain. []) 0 (with_term k o)) (sym e)

    -- of the children that are joined each has a number that fits
    pub places-kept : (r : Role) (all : Bool) (js : List ℕ) (j : ℕ) → Contains (places_by r all js) j → Contains js j
    places-kept role.Whole all js j m = m
    places-kept role.Listing true js j m = m
    places-kept role.Listing false js j m = taken 1 js j m
    places-kept role.Link true js j m = m
    places-kept role.Link false js j m = taken 2 js j m
    places-kept role.End true js j m = m
    places-kept role.End false js j m = absurd (contains-nil j m)
