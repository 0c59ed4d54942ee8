-- The index of all bodies has what symbols compute in their own bodies.
use Rattle.std.specs.Prelude.{Contains, slice_get, filter_map, option_map}
use Rattle.std.specs.List.{cons_option}
use Rattle.std.proofs.Common.{◌≡◌, ℕ, ◌⊎◌, inl, inr, List, [], ◌∷◌, Option, Some, None, refl, sym, ap, ◌∙◌, subst}
use Rattle.std.proofs.lemmas.Option.{none-some, same_Some}
use Rattle.lido_base.specs.Environment.{Environment}
use Rattle.lido_base.proofs.Lists.{contains-nil, contains-cons, contains-here, contains-later, contains-flat, flat-contains, map-contains, contains-map}
use Rattle.lido_base.proofs.TreeLemmas.{contains-test, test-contains}
use Rattle.lido_syntax.specs.declared.spec.Name.{Name}
use Rattle.lido_syntax.specs.declared.spec.Comp.{Comp}
use Rattle.lido_syntax.specs.declared.spec.SymbolItem.{SymbolItem}
use Rattle.lido_syntax.specs.Production.{name_of}
use Rattle.lido_syntax.specs.Sets.{names_of}
use Rattle.lido_syntax.specs.Computation.{IsSymbolTarget}
use Rattle.rule_tables.specs.declared.table.Tables.{Tables}
use Rattle.rule_tables.specs.TablesOf.{named_symbols, AreTablesOf}
use Rattle.computation_aims.specs.Aims.{goal_of, aim_in_symbol}
use Rattle.computation_aims.proofs.SymbolAims.{aim-target, target-aim}
use Rattle.symbol_inherit.specs.Rows.{row_number}
use Rattle.symbol_inherit.specs.Notes.{own_of, note, numbered_notes, item_notes, all_notes}
use Rattle.symbol_inherit.specs.Index.{Holds}
use Rattle.symbol_inherit.specs.Symbols.{IsOwn, HasOwn}
use Rattle.computation_aims.specs.declared.aims.Aim.{Aim}
use Rattle.symbol_inherit.specs.declared.notes.Own.{Own}
use Rattle.symbol_inherit.specs.declared.notes.Note.{Note}
use Rattle.symbol_inherit.specs.declared.index.Index.{Index}
use Rattle.symbol_inherit.proofs.RowLemmas.{looked-up, looked-for}

pub some-mapped : {X Y : Type 0} (f : X → Y) (o : Option X) (y : Y) → option_map f o ≡ Some y → (x : X) × (o ≡ Some x) × (f x ≡ y)
some-mapped f None y e = absurd (none-some y e)
some-mapped f (Some x) y e = (x, refl, same_Some _ _ e)

pub contains-filtered : {X Y : Type 0} (h : X → Option Y) (xs : List X) (y : Y) → Contains (filter_map h xs) y → (x : X) × Contains xs x × (h x ≡ Some y)
contains-filtered h [] y m = absurd (contains-nil y m)
contains-filtered {X} {Y} h (x ∷ xs) y m = by (h x) refl m (contains-filtered h xs y)
  where
    by : (o : Option Y) → h x ≡ o → Contains (cons_option o (filter_map h xs)) y → (Contains (filter_map h xs) y → (z : X) × Contains xs z × (h z ≡ Some y)) → (z : X) × Contains (x ∷ xs) z × (h z ≡ Some y)
    by None e m later = let (z, among, f) = later m in (z, contains-later x z xs among, f)
    by (Some v) e m later = kept (contains-cons v y (filter_map h xs) m)
      where
        kept : (v ≡ y) ⊎ Contains (filter_map h xs) y → (z : X) × Contains (x ∷ xs) z × (h z ≡ Some y)
        kept (inl s) = (x, contains-here x xs, e ∙ ap Some s)
        kept (inr n) = let (z, among, f) = later n in (z, contains-later x z xs among, f)

pub filtered-contains : {X Y : Type 0} (h : X → Option Y) (xs : List X) (x : X) (y : Y) → Contains xs x → h x ≡ Some y → Contains (filter_map h xs) y
filtered-contains h [] x y m e = absurd (contains-nil x m)
filtered-contains {X} {Y} h (z ∷ xs) x y m e = by (contains-cons z x xs m) (h z) refl (λ k. filtered-contains h xs x y k e)
  where
    by : (z ≡ x) ⊎ Contains xs x → (o : Option Y) → h z ≡ o → (Contains xs x → Contains (filter_map h xs) y) → Contains (cons_option o (filter_map h xs)) y
    by (inl s) o f later = subst (λ o. Contains (cons_option o (filter_map h xs)) y) (sym (sym f ∙ ap h s ∙ e)) (contains-here y (filter_map h xs))
    by (inr k) None f later = later k
    by (inr k) (Some v) f later = contains-later v y (filter_map h xs) (later k)

module _ (t : Tables) (env : Environment) (is : AreTablesOf env t) (index : Index) (holds : Holds (all_notes t.symbols t.spec.symbols) index) where
  own-noted : (x : ℕ) (aim : Aim) (own : Own) → Contains (all_notes t.symbols t.spec.symbols) (record { place = x; aim = aim; own = own }) → IsOwn t x aim own
  own-noted x aim own m =
      let (item, among, n) = contains-flat (item_notes t.symbols) t.spec.symbols _ m in
      let (name, of, k) = contains-flat (λ (name : Name). numbered_notes item.body (row_number t.symbols (name_of name))) item.names _ n in
      by item among name of (row_number t.symbols (name_of name)) refl k
    where
      by : (item : SymbolItem) → Contains t.spec.symbols item → (name : Name) → Contains item.names name → (o : Option ℕ) → row_number t.symbols (name_of name) ≡ o
          → Contains (numbered_notes item.body o) (record { place = x; aim = aim; own = own }) → IsOwn t x aim own
      by item among name of None e k = absurd (contains-nil _ k)
      by item among name of (Some y) e k =
          let (c, in_body, f) = contains-filtered (λ (c : Comp). option_map (note y c) (aim_in_symbol c.target)) item.body _ k in
          let (a, g, h) = some-mapped (note y c) (aim_in_symbol c.target) _ f in
          let place : y ≡ x = ap (λ (n : Note). n.place) h in
          let same : a ≡ aim = ap (λ (n : Note). n.aim) h in
          let its : own_of c ≡ own = ap (λ (n : Note). n.own) h in (
            name_of name,
            c,
            subst (λ z. slice_get (named_symbols t) z ≡ Some (name_of name)) place (looked-up t env is (name_of name) y e),
            (
              (item, among, test-contains (name_of name) (names_of item) (map-contains name_of item.names name of), in_body),
              subst (λ (b : Aim). IsSymbolTarget t.spec c.target (goal_of b)) same (aim-target t.spec c.target a g),
            ),
            its,
          )

  noted-own : (x : ℕ) (aim : Aim) (own : Own) → IsOwn t x aim own → Contains (all_notes t.symbols t.spec.symbols) (record { place = x; aim = aim; own = own })
  noted-own x aim own (s, c, at, ((item, among, of, in_body), goal), its) =
      let (name, n, e) = contains-map name_of item.names s (contains-test s (names_of item) of) in
      let number : row_number t.symbols (name_of name) ≡ Some x = looked-for t env is (name_of name) x (at ∙ ap Some (sym e)) in
      let made : option_map (note x c) (aim_in_symbol c.target) ≡ Some (record { place = x; aim = aim; own = own }) =
      ap (option_map (note x c)) (target-aim t.spec c.target aim goal) ∙ (λ i. Some (record { place = x; aim = aim; own = its i })) in
      flat-contains (item_notes t.symbols) t.spec.symbols item _ among
      (flat-contains (λ (name : Name). numbered_notes item.body (row_number t.symbols (name_of name))) item.names name _ n
      (subst (λ o. Contains (numbered_notes item.body o) (record { place = x; aim = aim; own = own })) (sym number)
      (filtered-contains (λ (c : Comp). option_map (note x c) (aim_in_symbol c.target)) item.body c _ in_body made)))

  pub has-own : HasOwn t index
  has-own = record {
    each = λ x aim own e. own-noted x aim own (holds.each x aim own e);
    all = λ x aim own is_own. holds.all (record { place = x; aim = aim; own = own }) (noted-own x aim own is_own);
  }
