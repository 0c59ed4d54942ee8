-- What is found of a symbol and its classes is what the specification says.
use Rattle.std.specs.Prelude.{Bool, true, false, ◌&&◌, nat_eq, IsTrue, slice_get, is_some, flat_map}
use Rattle.std.proofs.Common.{◌≡◌, ℕ, ◌<◌, ◌≤◌, ◌⊎◌, inl, inr, ◌++◌, map, length, Option, Some, None, refl, sym, ap, ◌∙◌, subst, eqb-true, eq-eqb}
use Rattle.std.proofs.lemmas.Option.{none-some, same_Some, slice_get_within}
use Rattle.std.proofs.lemmas.List.Elements.{Contains-append_left, Contains-append_right}
use Rattle.lido_base.specs.Environment.{Environment}
use Rattle.lido_base.proofs.Lists.{contains-map, map-contains, flat-contains, contains-place, place-below}
use Rattle.lido_base.proofs.TreeLemmas.{contains-test}
use Rattle.lido_syntax.specs.declared.spec.Comp.{Comp}
use Rattle.lido_syntax.specs.declared.spec.Typed1.{Typed1}
use Rattle.lido_syntax.specs.Production.{name_of}
use Rattle.lido_syntax.specs.Sets.{names_of, Inherits}
use Rattle.lido_syntax.specs.Attributes.{InBody}
use Rattle.lido_syntax.specs.Computation.{InSymbol, HasInSymbol, IsLeft}
use Rattle.lido_syntax.specs.Completeness.{IsSingle}
use Rattle.lido_symbols.specs.Uses.{symbol_uses, symbols_of_rule, symbols_of_item, with_place}
use Rattle.rule_tables.specs.declared.table.Tables.{Tables}
use Rattle.rule_tables.specs.TablesOf.{named_symbols, AreTablesOf}
use Rattle.rule_tables.specs.Needs.{Tables as Numbered}
use Rattle.rule_tables.specs.InForceFaults.{IsLeftAt}
use Rattle.computation_aims.specs.Aims.{goal_of}
use Rattle.symbol_inherit.specs.Notes.{own_of}
use Rattle.symbol_inherit.specs.Index.{noted}
use Rattle.symbol_inherit.specs.Symbols.{HasOwn}
use Rattle.symbol_inherit.specs.Classes.{inherits_by, AreHeirs, is_candidate, IsLeftBy, IsNone}
use Rattle.symbol_inherit.specs.Standings.{IsFound, own, missing, one, two}
use Rattle.symbol_inherit.specs.BySymbol as by_symbol
use Rattle.symbol_inherit.specs.BySymbol.{BySymbol, Says}
use Rattle.computation_aims.specs.declared.aims.Aim.{Aim}
use Rattle.symbol_inherit.specs.declared.notes.Own.{Own}
use Rattle.symbol_inherit.specs.declared.left.Left.{Left}
use Rattle.symbol_inherit.specs.declared.classes.Classes.{Classes}
use Rattle.symbol_inherit.specs.declared.index.Index.{Index}
use Rattle.symbol_inherit.specs.declared.standing.Standing.{Standing}
use Rattle.symbol_inherit.proofs.RowLemmas.{one-number}

both : (a b : Bool) → IsTrue (a && b) → IsTrue a × IsTrue b
both true b h = (refl, h)
both false b h = cc

together : (a b : Bool) → IsTrue a → IsTrue b → IsTrue (a && b)
together true b p q = q
together false b p q = cc

there : {X : Type 0} (o : Option X) → IsTrue (is_some o) → (x : X) × (o ≡ Some x)
there None h = cc
there (Some x) h = (x, refl)

some-there : {X : Type 0} (o : Option X) (x : X) → o ≡ Some x → IsTrue (is_some o)
some-there o x e = ap is_some e

apart : (e y : ℕ) → (e ≡ y → ⊥) → nat_eq e y ≡ false
apart e y h = by (nat_eq e y) refl
  where
    by : (b : Bool) → nat_eq e y ≡ b → nat_eq e y ≡ false
    by true f = absurd (h (eqb-true e y f))
    by false f = f

apart-not : (e y : ℕ) → nat_eq e y ≡ false → e ≡ y → ⊥
apart-not e y f h = let g = eq-eqb e y h in cc

module _ (t : Tables) (env : Environment) (is : AreTablesOf env t) where
  -- who has a body has a number
  pub body-number : (s : ℕ) (c : Comp) → InBody t.spec s c → (x : ℕ) × (slice_get (named_symbols t) x ≡ Some s)
  body-number s c (item, among, of, in_body) =
      let (name, n, e) = contains-map name_of item.names s (contains-test s (names_of item) of) in
      let used = map-contains with_place (flat_map (symbols_of_rule t.spec env) t.spec.rules ++ flat_map (symbols_of_item t.spec env) t.spec.symbols ++ map (λ (x : Typed1). x.name) t.spec.terms) name
      (Contains-append_left (flat_map (symbols_of_rule t.spec env) t.spec.rules ++ flat_map (symbols_of_item t.spec env) t.spec.symbols) _ name
      (Contains-append_right (flat_map (symbols_of_rule t.spec env) t.spec.rules) (flat_map (symbols_of_item t.spec env) t.spec.symbols) name
      (flat-contains (symbols_of_item t.spec env) t.spec.symbols item name among
      (Contains-append_left (item.names ++ item.inherits) _ name (Contains-append_left item.names item.inherits name n))))) in
      let (l, m, same) = is.numbers.all name.at (name_of name) used in
      let (x, f) = contains-place (named_symbols t) l m in
      (x, f ∙ ap Some (sym (eqb-true _ _ same) ∙ e))

  module _ (single : IsSingle t.spec) (classes : Classes) (heirs : AreHeirs t classes) (index : Index) (owns : HasOwn t index)
      (count : ℕ) (counted : length (named_symbols t) ≡ count) (x s : ℕ) (at : slice_get (named_symbols t) x ≡ Some s) (aim : Aim) (T : Numbered t.spec) where
    abbrev IsFree : ℕ → Type 0
    IsFree = IsLeftBy classes index x aim count

    -- the computation that the index has
    its-own : (y q : ℕ) (o : Own) → slice_get (named_symbols t) y ≡ Some q → noted index y aim ≡ Some o → (c : Comp) × InSymbol t.spec q (goal_of aim) c × (own_of c ≡ o)
    its-own y q o e f =
        let (p, c, g, h, k) = owns.each y aim o f in
        (c, subst (λ r. InSymbol t.spec r (goal_of aim) c) (same_Some p q (sym g ∙ e)) h, k)

    own-there : (y q : ℕ) (c : Comp) → slice_get (named_symbols t) y ≡ Some q → InSymbol t.spec q (goal_of aim) c → noted index y aim ≡ Some (own_of c)
    own-there y q c e h =
        let (o, f) = owns.all y aim (own_of c) (q, c, e, h, refl) in
        let (d, g, k) = its-own y q o e f in
        f ∙ ap Some (sym k ∙ ap own_of (single.in_symbol q (goal_of aim) d c g h))

    candidate : (y q : ℕ) → slice_get (named_symbols t) y ≡ Some q → Inherits t.spec s q → HasInSymbol t.spec q (goal_of aim) → IsTrue (is_candidate classes index x aim y)
    candidate y q e inh (c, h) = together (inherits_by classes x y) (is_some (noted index y aim)) ((heirs x y s q at e).1 inh) (some-there _ (own_of c) (own-there y q c e h))

    is-left : (y q : ℕ) → slice_get (named_symbols t) y ≡ Some q → IsFree y → IsLeft t.spec s (goal_of aim) q
    is-left y q e (cand, free) =
        let b = both (inherits_by classes x y) (is_some (noted index y aim)) cand in
        let (o, f) = there (noted index y aim) b.1 in
        let (c, h, k) = its-own y q o e f in
        record {
          inherited = (heirs x y s q at e).0 b.0;
          computes = (c, h);
          not_dropped = λ other inh computes drops.
              let (z, g) = body-number other computes.0 computes.1.0 in
              let w = slice_get_within (named_symbols t) z other g in
              free (z, subst (λ n. z < n) counted w, together (is_candidate classes index x aim z) (inherits_by classes z y) (candidate z other g inh computes) ((heirs z y other q g e).1 drops));
        }

    left-is : (y q : ℕ) → slice_get (named_symbols t) y ≡ Some q → IsLeft t.spec s (goal_of aim) q → IsFree y
    left-is y q e left = (
      candidate y q e left.inherited left.computes,
      λ (z, w, h).
          let d = both (is_candidate classes index x aim z) (inherits_by classes z y) h in
          let b = both (inherits_by classes x z) (is_some (noted index z aim)) d.0 in
          let (o, f) = there (noted index z aim) b.1 in
          let (other, c, g, k, _) = owns.each z aim o f in
          left.not_dropped other ((heirs x z s other at g).0 b.0) (c, k) ((heirs z y other q g e).0 d.1),
    )

    -- who is left has a number below the count
    left-number : (q : ℕ) → IsLeft t.spec s (goal_of aim) q → (y : ℕ) × (y < count) × (slice_get (named_symbols t) y ≡ Some q)
    left-number q left =
        let (y, e) = body-number q left.computes.0 left.computes.1.0 in
        (y, subst (λ n. y < n) counted (slice_get_within (named_symbols t) y q e), e)

    not-own : noted index x aim ≡ None → ¬ HasInSymbol t.spec s (goal_of aim)
    not-own none (c, h) = none-some _ (sym none ∙ own-there x s c at h)

    numbered : (y : ℕ) → y < count → (q : ℕ) × (slice_get (named_symbols t) y ≡ Some q)
    numbered y h = place-below (named_symbols t) y (subst (λ n. y < n) (sym counted) h)

    none-left : IsNone classes index x aim count count None → (q : ℕ) → ¬ IsLeft t.spec s (goal_of aim) q
    none-left none q left = let (y, h, e) = left-number q left in none y h (left-is y q e left) refl

    left-at : (left : Left) (q : ℕ) → slice_get (named_symbols t) left.class ≡ Some q → IsFree left.class → noted index left.class aim ≡ Some left.own
        → IsLeftAt t.spec T s (goal_of aim) q left.own.at
    left-at left q e free f =
        let (c, h, k) = its-own left.class q left.own e f in (c, is-left left.class q e free, h, ap (λ (o : Own). o.at) k)

    pub found-says : (st : Standing) → IsFound classes index count x aim st → Says t.spec s (goal_of aim) T st
    found-says _ (own o e) = let (c, h, k) = its-own x s o at e in (c, by_symbol.own h, ap (λ (o : Own). o.number) k)
    found-says _ (missing none no_left) = (no, not-own none, none-left no_left)
      where
        no : (c : Comp) → ¬ BySymbol t.spec s (goal_of aim) c
        no c (by_symbol.own h) = not-own none (c, h)
        no c (by_symbol.inherited class mine left only h) = none-left no_left class left
    found-says _ (one left none best no_other) =
        let (q, e) = numbered left.class best.within in
        let (c, h, k) = its-own left.class q left.own e best.own in
        (c, by_symbol.inherited q (not-own none) (is-left left.class q e best.left) (λ p l. only q e p l) h, ap (λ (o : Own). o.number) k)
      where
        only : (q : ℕ) → slice_get (named_symbols t) left.class ≡ Some q → (p : ℕ) → IsLeft t.spec s (goal_of aim) p → p ≡ q
        only q e p l = let (y, w, f) = left-number p l in by y w f (nat_eq left.class y) refl
          where
            by : (y : ℕ) → y < count → slice_get (named_symbols t) y ≡ Some p → (b : Bool) → nat_eq left.class y ≡ b → p ≡ q
            by y w f true g = same_Some p q (sym f ∙ ap (slice_get (named_symbols t)) (sym (eqb-true left.class y g)) ∙ e)
            by y w f false g = absurd (no_other y w (left-is y p f l) g)
    found-says _ (two left other none best next) =
        let (q, e) = numbered left.class best.within in
        let (p, f) = numbered other.class next.within in (
          not-own none,
          record {
            one = q;
            other = p;
            is_first = left-at left q e best.left best.own;
            is_second = left-at other p f next.left next.own;
            two = λ same. apart-not left.class other.class next.other (one-number (symbol_uses t.spec env) (named_symbols t) is.numbers left.class other.class q e (f ∙ ap Some (sym same)));
            in_order = best.first other.class other.own next.within next.left refl next.own;
            no_other = λ class place l. rest q e class place l;
          },
        )
      where
        rest : (q : ℕ) → slice_get (named_symbols t) left.class ≡ Some q → (class place : ℕ) → IsLeftAt t.spec T s (goal_of aim) class place → (class ≡ q) ⊎ (other.own.at ≤ place)
        rest q e class place (c, l, h, k) = let (y, w, f) = left-number class l in by y w f (nat_eq left.class y) refl
          where
            by : (y : ℕ) → y < count → slice_get (named_symbols t) y ≡ Some class → (b : Bool) → nat_eq left.class y ≡ b → (class ≡ q) ⊎ (other.own.at ≤ place)
            by y w f true g = inl (same_Some class q (sym f ∙ ap (slice_get (named_symbols t)) (sym (eqb-true left.class y g)) ∙ e))
            by y w f false g = let b = next.first y (own_of c) w (left-is y class f l) g (own-there y class c f h) in inr (subst (λ n. other.own.at ≤ n) k b)
