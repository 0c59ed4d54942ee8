-- What the uses of a computation name, by its target and its leaves.
use Rattle.std.specs.Prelude.{Contains, filter, flat_map}
use Rattle.std.proofs.Common.{◌≡◌, Bool, true, false, cond, ◌⊎◌, inl, inr, List, [], ◌∷◌, ◌++◌, refl, sym, ap, subst, ◌∙◌}
use Rattle.std.proofs.lemmas.List.Elements.{Contains-append_left, Contains-append_right, Contains-append_cases}
use Rattle.lido_base.proofs.Lists.{contains-nil, contains-cons, contains-here, contains-map, map-contains, contains-flat, flat-contains}
use Rattle.lido_syntax.specs.declared.spec.Name.{Name}
use Rattle.lido_syntax.specs.declared.spec.Comp.{Comp}
use Rattle.lido_syntax.specs.declared.spec.Target.{Target}
use Rattle.lido_syntax.specs.declared.spec.Target.TheVariants as target
use Rattle.lido_syntax.specs.declared.spec.Expr.{Expr, Int, Str, Bool as Truth, Terminal, Read, Including, Constituents, Call'}
use Rattle.lido_syntax.specs.Parts.{parts, is_leaf, leaves, leaves_of, expressions_of}
use Rattle.lido_syntax.specs.Attributes.{Use, use_of_pair, uses_of_part, reads, uses, target_uses}
use Rattle.kind_clashes.specs.declared.names.Names.{Names}
use Rattle.symbol_attributes.specs.Named.{named_at, named_by_pair, named_by_leaf, named_by_target, named_by}
use Rattle.symbol_attributes.specs.declared.named.SymbolAttribute.{SymbolAttribute}

-- what gives nothing may be left out
flat-filtered : {X Y : Type 0} (f : X → List Y) (p : X → Bool) → ((x : X) → p x ≡ false → f x ≡ []) → (xs : List X) → flat_map f (filter p xs) ≡ flat_map f xs
flat-filtered f p nothing [] = refl
flat-filtered {X} f p nothing (x ∷ xs) = by (p x) refl (flat-filtered f p nothing xs)
  where
    by : (b : Bool) → p x ≡ b → flat_map f (filter p xs) ≡ flat_map f xs → flat_map f (cond b (x ∷ filter p xs) (filter p xs)) ≡ f x ++ flat_map f xs
    by true e later = ap (λ l. f x ++ l) later
    by false e later = later ∙ ap (λ l. l ++ flat_map f xs) (sym (nothing x e))

no-use : (e : Expr) → is_leaf e ≡ false → uses_of_part e ≡ []
no-use (Int at z) h = refl
no-use (Str at s) h = refl
no-use (Truth at b) h = refl
no-use (Terminal x i) h = refl
no-use (Read at p a) h = absurd (cc)
no-use (Including at pairs) h = absurd (cc)
no-use (Constituents k) h = absurd (cc)
no-use (Call' f shape args) h = refl

leaf-reads : (e : Expr) → flat_map uses_of_part (leaves e) ≡ reads e
leaf-reads e = flat-filtered uses_of_part is_leaf no-use (parts e)

-- what a computation names it names in its target or in a leaf
pub of-target : (c : Comp) (u : Use) → Contains (target_uses c.target) u → Contains (uses c) u
of-target c u m = Contains-append_left (target_uses c.target) (flat_map reads (expressions_of c)) u m

pub of-leaf : (c : Comp) (leaf : Expr) (u : Use) → Contains (leaves_of c) leaf → Contains (uses_of_part leaf) u → Contains (uses c) u
of-leaf c leaf u ml mu =
    let (e, me, k) = contains-flat leaves (expressions_of c) leaf ml in
    Contains-append_right (target_uses c.target) (flat_map reads (expressions_of c)) u
    (flat-contains reads (expressions_of c) e u me (subst (λ (us : List Use). Contains us u) (leaf-reads e) (flat-contains uses_of_part (leaves e) leaf u k mu)))

pub use-found : (c : Comp) (u : Use) → Contains (uses c) u → Contains (target_uses c.target) u ⊎ ((leaf : Expr) × Contains (leaves_of c) leaf × Contains (uses_of_part leaf) u)
use-found c u m = elim (Contains-append_cases (target_uses c.target) (flat_map reads (expressions_of c)) u m) [
  | inl t ↦ inl t
  | inr l ↦ (let (e, me, k) = contains-flat reads (expressions_of c) u l in
      let (leaf, ml, n) = contains-flat uses_of_part (leaves e) u (subst (λ (us : List Use). Contains us u) (sym (leaf-reads e)) k) in
      inr (leaf, flat-contains leaves (expressions_of c) e leaf me ml, n))
]

module _ (chains : Names) (own : List Name) (x : SymbolAttribute) where
  -- the use names the attribute on the symbol
  abbrev pub IsBy : Use → Type 0
  IsBy u = Contains (named_at chains own u.0 u.1) x

  leaf-to : (leaf : Expr) → Contains (named_by_leaf chains own leaf) x → (u : Use) × Contains (uses_of_part leaf) u × IsBy u
  leaf-to (Int at z) m = absurd (contains-nil x m)
  leaf-to (Str at s) m = absurd (contains-nil x m)
  leaf-to (Truth at b) m = absurd (contains-nil x m)
  leaf-to (Terminal y i) m = absurd (contains-nil x m)
  leaf-to (Read at p a) m = ((p, a), contains-here (p, a) [], m)
  leaf-to (Including at pairs) m = let (q, mq, h) = contains-flat (named_by_pair chains own) pairs x m in (use_of_pair q, map-contains use_of_pair pairs q mq, h)
  leaf-to (Constituents k) m = let (q, mq, h) = contains-flat (named_by_pair chains own) k.pairs x m in (use_of_pair q, map-contains use_of_pair k.pairs q mq, h)
  leaf-to (Call' f shape args) m = absurd (contains-nil x m)

  leaf-from : (leaf : Expr) (u : Use) → Contains (uses_of_part leaf) u → IsBy u → Contains (named_by_leaf chains own leaf) x
  leaf-from (Int at z) u m h = absurd (contains-nil u m)
  leaf-from (Str at s) u m h = absurd (contains-nil u m)
  leaf-from (Truth at b) u m h = absurd (contains-nil u m)
  leaf-from (Terminal y i) u m h = absurd (contains-nil u m)
  leaf-from (Read at p a) u m h = elim (contains-cons (p, a) u [] m) [ inl e ↦ subst IsBy (sym e) h | inr n ↦ absurd (contains-nil u n) ]
  leaf-from (Including at pairs) u m h = let (q, mq, e) = contains-map use_of_pair pairs u m in flat-contains (named_by_pair chains own) pairs q x mq (subst IsBy (sym e) h)
  leaf-from (Constituents k) u m h = let (q, mq, e) = contains-map use_of_pair k.pairs u m in flat-contains (named_by_pair chains own) k.pairs q x mq (subst IsBy (sym e) h)
  leaf-from (Call' f shape args) u m h = absurd (contains-nil u m)

  target-to : (t : Target) → Contains (named_by_target chains own t) x → (u : Use) × Contains (target_uses t) u × IsBy u
  target-to (target.Attr p a) m = ((p, a), contains-here (p, a) [], m)
  target-to (target.Start a) m = absurd (contains-nil x m)
  target-to target.Out m = absurd (contains-nil x m)
  target-to (target.Message s c) m = absurd (contains-nil x m)

  target-from : (t : Target) (u : Use) → Contains (target_uses t) u → IsBy u → Contains (named_by_target chains own t) x
  target-from (target.Attr p a) u m h = elim (contains-cons (p, a) u [] m) [ inl e ↦ subst IsBy (sym e) h | inr n ↦ absurd (contains-nil u n) ]
  target-from (target.Start a) u m h = absurd (contains-nil u m)
  target-from target.Out u m h = absurd (contains-nil u m)
  target-from (target.Message s c) u m h = absurd (contains-nil u m)

  pub comp-to : (c : Comp) → Contains (named_by chains own c) x → (u : Use) × Contains (uses c) u × IsBy u
  comp-to c m = elim (Contains-append_cases (named_by_target chains own c.target) (flat_map (named_by_leaf chains own) (leaves_of c)) x m) [
    | inl t ↦ (let (u, mu, h) = target-to c.target t in (u, of-target c u mu, h))
    | inr l ↦ (let (leaf, ml, n) = contains-flat (named_by_leaf chains own) (leaves_of c) x l in
        let (u, mu, h) = leaf-to leaf n in (u, of-leaf c leaf u ml mu, h))
  ]

  pub comp-from : (c : Comp) (u : Use) → Contains (uses c) u → IsBy u → Contains (named_by chains own c) x
  comp-from c u m h = elim (use-found c u m) [
    | inl t ↦ Contains-append_left (named_by_target chains own c.target) (flat_map (named_by_leaf chains own) (leaves_of c)) x (target-from c.target u t h)
    | inr (leaf, ml, n) ↦ Contains-append_right (named_by_target chains own c.target) (flat_map (named_by_leaf chains own) (leaves_of c)) x
        (flat-contains (named_by_leaf chains own) (leaves_of c) leaf x ml (leaf-from leaf u n h))
  ]
