-- What a name in a computation gives and depends on, by the tables.
use Rattle.std.specs.Prelude.{ℤ, Contains, flat_map}
use Rattle.std.specs.Option.{option_map_or}
use Rattle.std.proofs.Common.{◌≡◌, ℕ, ◌+◌, ◌<◌, ◌≤◌, List, [], ◌∷◌, ◌++◌, length, map, take, get_or, Option, Some, None, refl, sym, ap, subst, ◌∙◌, arith, append_assoc, append-nil}
use Rattle.std.proofs.lemmas.List.{take_more, take_all, map-append}
use Rattle.std.proofs.lemmas.List.Elements.{Contains-append_right}
use Rattle.std.proofs.lemmas.Grind.{flat_map-append}
use Rattle.std.proofs.lemmas.Option.{none-some, same_Some}
use Rattle.lido_base.proofs.Lists.{contains-here, contains-flat}
use Rattle.lido_base.specs.declared.kinds.CoordPart.{CoordPart}
use Rattle.lido_syntax.specs.declared.spec.Name.{Name}
use Rattle.lido_syntax.specs.declared.spec.RuleItem.{RuleItem}
use Rattle.lido_syntax.specs.declared.spec.Place.{Place}
use Rattle.lido_syntax.specs.declared.spec.Place.TheVariants as place
use Rattle.lido_syntax.specs.declared.spec.Cons.{Cons}
use Rattle.lido_syntax.specs.declared.spec.Comp.{Comp}
use Rattle.lido_syntax.specs.declared.spec.Expr.{Expr}
use Rattle.lido_syntax.specs.declared.spec.Expr as whole
use Rattle.lido_syntax.specs.declared.spec.Expr.TheVariants as expr
use Rattle.lido_syntax.specs.Parts.{conditions, expressions_of, leaves, leaves_of}
use Rattle.lido_syntax.specs.Production.{name_of, occurrence}
use Rattle.lido_syntax.specs.Computation.{Holder}
use Rattle.lido_syntax.specs.Coordinates.{coordinate_named}
use Rattle.flat_grammar.specs.declared.flat.Occ.{Occ}
use Rattle.flat_grammar.specs.declared.flat.FlatExpr.{FlatExpr}
use Rattle.flat_grammar.specs.declared.flat.FlatExpr.TheVariants as flat
use Rattle.rule_tables.specs.Copies.{nothing, call}
use Rattle.rule_tables.specs.Shares.{Term, Copied, Void, Comb, Single, Null, Empty, below_term}
use Rattle.rule_tables.specs.Shares as share
use Rattle.flat_terms.specs.declared.site.Site.{Site}
use Rattle.flat_terms.specs.declared.tails.Tails.{Tails}
use Rattle.flat_terms.specs.Names.{tail_in}
use Rattle.flat_terms.specs.Scene.{Scene, occ, get, seen, bare, read, made, copy_of, tail_term, needed, needed_read, needed_by, needed_below}
use Rattle.flat_terms.specs.Sites.{IsSiteOf, IsNamed, IsNamedTerm, IsNamedTail, tail_chain}
use Rattle.flat_terms.proofs.PlaceLemmas.{occurrence-within}

module _ (scene : Scene) (site : Site) (is : IsSiteOf scene site) (x : Name) (i : Option ℤ) where
  pub occurrence-fits : (k : ℕ) → occurrence site.rule.now x i ≡ Some k → k ≤ 65535
  occurrence-fits k e = let h = occurrence-within scene.rule x i k (ap (λ (r : RuleItem). occurrence r x i) (sym is.rule) ∙ e) in omega (arith, h, is.few_named)

  module _ (tail : ℕ → FlatExpr) (holder : Holder) (context : ℕ) where
    abbrev bare_of : Option CoordPart → Option ℕ → FlatExpr
    bare_of c o = elim c [ Some part ↦ flat.Coord part | None ↦ option_map_or (λ k. flat.Terminal k) o nothing ]

    pub bare-terminal : (k : ℕ) → coordinate_named scene.env holder site.rule.now x i ≡ None → occurrence site.rule.now x i ≡ Some k → flat.Terminal k ≡ bare scene tail holder context x i
    bare-terminal k c e =
        ap (λ o. bare_of None o) (sym e) ∙ ap (λ o. bare_of o (occurrence site.rule.now x i)) (sym c)
        ∙ ap (λ (r : RuleItem). bare_of (coordinate_named scene.env holder r x i) (occurrence r x i)) is.rule

    pub read-named : (k a : ℕ) (p : Place) → p ≡ place.Named x i → occurrence site.rule.now x i ≡ Some k → get scene k (seen scene a) ≡ read scene tail holder context p a
    read-named k a p named e =
        ap (λ o. option_map_or (λ j. get scene j (seen scene a)) o nothing) (sym e ∙ ap (λ (r : RuleItem). occurrence r x i) is.rule)
        ∙ ap (λ q. read scene tail holder context q a) (sym named)

  pub read-needs : (tail : ℕ → List Occ) (context k a : ℕ) (p : Place) → p ≡ place.Named x i → occurrence site.rule.now x i ≡ Some k → occ scene k (seen scene a) ∷ [] ≡ needed_read scene tail context p a
  read-needs tail context k a p named e =
      ap (λ (o : Option ℕ). option_map_or (λ j. occ scene j (seen scene a) ∷ []) o []) (sym e ∙ ap (λ (r : RuleItem). occurrence r x i) is.rule)
      ∙ ap (λ q. needed_read scene tail context q a) (sym named)

-- TAIL alone gives what stands for it
module _ (scene : Scene) where
  made-same : (t u : ℕ → FlatExpr) (g h : Holder) (m n : ℕ) (e : Term) → made scene t g m e ≡ made scene u h n e
  made-same t u g h m n (share.Read k s) = refl
  made-same t u g h m n (Copied b c) = refl
  made-same t u g h m n (Void ds) = refl
  made-same t u g h m n (Comb number f a b) = λ i. call scene.env number (name_of f) (made-same t u g h m n a i ∷ made-same t u g h m n b i ∷ [])
  made-same t u g h m n (Single number f a) = λ i. call scene.env number (name_of f) (made-same t u g h m n a i ∷ [])
  made-same t u g h m n (Null number f) = refl
  made-same t u g h m n Empty = refl

  needed-same : (t u : ℕ → List Occ) (m n : ℕ) (e : Term) → needed scene t m e ≡ needed scene u n e
  needed-same t u m n (share.Read k s) = refl
  needed-same t u m n (Copied b c) = refl
  needed-same t u m n (Void ds) = refl
  needed-same t u m n (Comb number f a b) = λ i. needed-same t u m n a i ++ needed-same t u m n b i
  needed-same t u m n (Single number f a) = needed-same t u m n a
  needed-same t u m n (Null number f) = refl
  needed-same t u m n Empty = refl

  pub needed-below : (t : ℕ → List Occ) (m : ℕ) (k : Cons) → needed_below scene k ≡ needed_by scene t m (expr.Constituents k)
  needed-below t m k = needed-same (λ chain. []) t 0 m (below_term scene.spec scene.tables scene.needs scene.plain scene.forces k)

  module _ (site : Site) (tails : Tails) where
    pub other-copy : (t u : ℕ → FlatExpr) (h : Holder) (m n : ℕ) (e : Expr) → tail_chain e ≡ None → IsNamed scene site e → copy_of scene t h m n e ≡ copy_of scene u h m n e
    other-copy t u h m n (expr.Int at z) none named = refl
    other-copy t u h m n (expr.Str at s) none named = refl
    other-copy t u h m n (expr.Bool at b) none named = refl
    other-copy t u h m n (expr.Terminal x i) none named = refl
    other-copy t u h m n (expr.Read at (place.Named x i) a) none named = refl
    other-copy t u h m n (expr.Read at place.Synt a) none named = refl
    other-copy t u h m n (expr.Read at place.Inh a) none named = refl
    other-copy t u h m n (expr.Read at place.This a) none named = refl
    other-copy t u h m n (expr.Read at place.Tail a) none named = absurd (none-some (name_of a) (sym none))
    other-copy t u h m n (expr.Including at pairs) none named = refl
    other-copy t u h m n (expr.Constituents k) none named = made-same t u h h m m (below_term scene.spec scene.tables scene.needs scene.plain scene.forces k)
    other-copy t u h m n (whole.Call' f shape args) none named = absurd named

    pub tail-copy : (t : ℕ → FlatExpr) (h : Holder) (m n c : ℕ) (e : Expr) → tail_chain e ≡ Some c → t c ≡ copy_of scene t h m n e
    tail-copy t h m n c (expr.Int at z) some = absurd (none-some c some)
    tail-copy t h m n c (expr.Str at s) some = absurd (none-some c some)
    tail-copy t h m n c (expr.Bool at b) some = absurd (none-some c some)
    tail-copy t h m n c (expr.Terminal x i) some = absurd (none-some c some)
    tail-copy t h m n c (expr.Read at (place.Named x i) a) some = absurd (none-some c some)
    tail-copy t h m n c (expr.Read at place.Synt a) some = absurd (none-some c some)
    tail-copy t h m n c (expr.Read at place.Inh a) some = absurd (none-some c some)
    tail-copy t h m n c (expr.Read at place.This a) some = absurd (none-some c some)
    tail-copy t h m n c (expr.Read at place.Tail a) some = ap t (sym (same_Some _ _ some))
    tail-copy t h m n c (expr.Including at pairs) some = absurd (none-some c some)
    tail-copy t h m n c (expr.Constituents k) some = absurd (none-some c some)
    tail-copy t h m n c (whole.Call' f shape args) some = absurd (none-some c some)

    pub other-needs : (t u : ℕ → List Occ) (m : ℕ) (e : Expr) → tail_chain e ≡ None → needed_by scene t m e ≡ needed_by scene u m e
    other-needs t u m (expr.Int at z) none = refl
    other-needs t u m (expr.Str at s) none = refl
    other-needs t u m (expr.Bool at b) none = refl
    other-needs t u m (expr.Terminal x i) none = refl
    other-needs t u m (expr.Read at (place.Named x i) a) none = refl
    other-needs t u m (expr.Read at place.Synt a) none = refl
    other-needs t u m (expr.Read at place.Inh a) none = refl
    other-needs t u m (expr.Read at place.This a) none = refl
    other-needs t u m (expr.Read at place.Tail a) none = absurd (none-some (name_of a) (sym none))
    other-needs t u m (expr.Including at pairs) none = refl
    other-needs t u m (expr.Constituents k) none = needed-same t u m m (below_term scene.spec scene.tables scene.needs scene.plain scene.forces k)
    other-needs t u m (whole.Call' f shape args) none = refl

    pub tail-needs : (t : ℕ → List Occ) (m c : ℕ) (e : Expr) → tail_chain e ≡ Some c → t c ≡ needed_by scene t m e
    tail-needs t m c (expr.Int at z) some = absurd (none-some c some)
    tail-needs t m c (expr.Str at s) some = absurd (none-some c some)
    tail-needs t m c (expr.Bool at b) some = absurd (none-some c some)
    tail-needs t m c (expr.Terminal x i) some = absurd (none-some c some)
    tail-needs t m c (expr.Read at (place.Named x i) a) some = absurd (none-some c some)
    tail-needs t m c (expr.Read at place.Synt a) some = absurd (none-some c some)
    tail-needs t m c (expr.Read at place.Inh a) some = absurd (none-some c some)
    tail-needs t m c (expr.Read at place.This a) some = absurd (none-some c some)
    tail-needs t m c (expr.Read at place.Tail a) some = ap t (sym (same_Some _ _ some))
    tail-needs t m c (expr.Including at pairs) some = absurd (none-some c some)
    tail-needs t m c (expr.Constituents k) some = absurd (none-some c some)
    tail-needs t m c (whole.Call' f shape args) some = absurd (none-some c some)

    -- what the tables have for its chain
    abbrev pub IsChainThere : ℕ → Type 0
    IsChainThere c = (tail_in tails c ≡ Some (tail_term scene c)) × IsNamedTerm scene site (tail_term scene c)

    pub chain-there : (c : ℕ) (e : Expr) → tail_chain e ≡ Some c → IsNamedTail scene site tails e → IsChainThere c
    chain-there c (expr.Int at z) some named = absurd (none-some c some)
    chain-there c (expr.Str at s) some named = absurd (none-some c some)
    chain-there c (expr.Bool at b) some named = absurd (none-some c some)
    chain-there c (expr.Terminal x i) some named = absurd (none-some c some)
    chain-there c (expr.Read at (place.Named x i) a) some named = absurd (none-some c some)
    chain-there c (expr.Read at place.Synt a) some named = absurd (none-some c some)
    chain-there c (expr.Read at place.Inh a) some named = absurd (none-some c some)
    chain-there c (expr.Read at place.This a) some named = absurd (none-some c some)
    chain-there c (expr.Read at place.Tail a) some named = subst IsChainThere (same_Some _ _ some) named
    chain-there c (expr.Including at pairs) some named = absurd (none-some c some)
    chain-there c (expr.Constituents k) some named = absurd (none-some c some)
    chain-there c (whole.Call' f shape args) some named = absurd (none-some c some)

-- the value is among a computation's expressions
pub value-in : (c : Comp) → Contains (expressions_of c) c.value
value-in c = Contains-append_right (conditions c.target) (c.value ∷ c.after) c.value (contains-here c.value c.after)

-- each leaf of a computation is one of an expression of it
pub leaf-in : (c : Comp) (leaf : Expr) → Contains (leaves_of c) leaf → (e : Expr) × Contains (expressions_of c) e × Contains (leaves e) leaf
leaf-in c leaf m = contains-flat leaves (expressions_of c) leaf m

-- one more of what is needed
pub flat-more : {X : Type 0} (f : X → List Occ) (xs : List X) (i : ℕ) (x : X) (front old new : List Occ) → i < length xs → x ≡ get_or xs i x → old ≡ front ++ flat_map f (take i xs) → new ≡ old ++ f x
    → new ≡ front ++ flat_map f (take (i + 1) xs)
flat-more f xs i x front old new h at before after =
    after ∙ ap (λ (l : List Occ). l ++ f x) before ∙ append_assoc front (flat_map f (take i xs)) (f x)
    ∙ ap (λ (l : List Occ). front ++ l) (sym (ap (flat_map f) (take_more xs i x h ∙ ap (λ y. take i xs ++ y ∷ []) (sym at)) ∙ flat_map-append f (take i xs) (x ∷ []) ∙ ap (λ (l : List Occ). flat_map f (take i xs) ++ l) (append-nil (f x))))

pub map-more : (f : ℕ → Occ) (xs : List ℕ) (i : ℕ) (front old new : List Occ) (o : Occ) → i < length xs → old ≡ front ++ map f (take i xs) → new ≡ old ++ o ∷ [] → o ≡ f (get_or xs i 0)
    → new ≡ front ++ map f (take (i + 1) xs)
map-more f xs i front old new o h before after same =
    after ∙ ap (λ (l : List Occ). l ++ o ∷ []) before ∙ append_assoc front (map f (take i xs)) (o ∷ [])
    ∙ ap (λ (l : List Occ). front ++ l) (ap (λ (y : Occ). map f (take i xs) ++ y ∷ []) same ∙ sym (ap (map f) (take_more xs i 0 h) ∙ map-append f (take i xs) (get_or xs i 0 ∷ [])))

flat-of : {X : Type 0} (now : X → Expr) (f : Expr → List Occ) (xs : List X) → flat_map (λ x. f (now x)) xs ≡ flat_map f (map now xs)
flat-of now f [] = refl
flat-of now f (x ∷ xs) = ap (λ (l : List Occ). f (now x) ++ l) (flat-of now f xs)

-- all leaves are done
pub all-done : {X : Type 0} (now : X → Expr) (f : Expr → List Occ) (items parts : List X) (i : ℕ) (all : List Expr) → length items ≤ i → items ≡ parts → map now parts ≡ all
    → flat_map (λ x. f (now x)) (take i items) ≡ flat_map f all
all-done now f items parts i all h same are = ap (flat_map (λ x. f (now x))) (take_all i items h ∙ same) ∙ flat-of now f parts ∙ ap (flat_map f) are
