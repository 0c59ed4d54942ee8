-- A written tree that fits the grammar suits it.
use Rattle.std.specs.Prelude.{Contains, slice_get, true, false, not, IsTrue, is_some, option_map}
use Rattle.std.proofs.Common.{◌≡◌, ℕ, ◌<◌, List, [], ◌∷◌, length, Some, refl, ap, sym, subst, ◌∙◌, arith, get_or}
use Rattle.std.proofs.lemmas.Option.{slice_get-map, slice_get_within, get_or_from_slice_get}
use Rattle.std.proofs.lemmas.List.{length-map}
use Rattle.std.proofs.lemmas.Slice.Zip.{AllZip-long}
use Rattle.lido_base.specs.declared.ids.SymId.{SymId}
use Rattle.lido_base.specs.declared.value.Value.{Value}
use Rattle.lido_base.specs.declared.value.ValueType.{ValueType}
use Rattle.lido_base.proofs.PlainLemmas.{plain_rule, plain_items, plain_length, stored_is_tree}
use Rattle.lido_base.specs.Plain.{Plain, plain, plain_item, plain_tree}
use Rattle.lido_base.specs.Tree.{Item, Child, Leaf, rule_at, items_of}
use Rattle.flat_grammar.specs.declared.flat.FlatSymbol.{FlatSymbol}
use Rattle.flat_grammar.specs.declared.flat.FlatRule.{FlatRule}
use Rattle.flat_grammar.specs.declared.flat.Shape.{Shape}
use Rattle.flat_grammar.specs.Rules.{HasRule}
use Rattle.flat_grammar.specs.WellFormed.{is_nonterminal, is_nonterminal_symbol, cell_of, IsWellFormed}
use Rattle.flat_grammar.specs.Fitting.{IsFitting, IsItem, HasSymbol, IsTerminal, node, int, string}
use Rattle.tree_flattener.specs.Drafts.{Table, Suits}
use Rattle.tree_flattener.proofs.GrowLemmas.{some_same}
use Rattle.tree_flattener.proofs.ShapeLemmas.{shape_rule, is_cell_of, element_has_rule, few_in_shape, element_nonterminal}

false_true : false ≡ true → ⊥
false_true e = cc

same_child : (c d : ℕ) → ◌≡◌ {A = Item Plain} (Child c) (Child d) → d ≡ c
same_child c d e = cc

leaf_child : (u : Plain) (d : ℕ) → ◌≡◌ {A = Item Plain} (Leaf u) (Child d) → ⊥
leaf_child u d e = cc

module _ (texts : List (List ℕ)) where
  module _ (symbols : List FlatSymbol) (rules : List FlatRule) (shapes : List Shape) (root : SymId) (well : IsWellFormed symbols rules shapes root) (W : Table) (fits : IsFitting symbols rules shapes root (plain_tree texts W)) where
    no_terminal : (s : SymId) (ty : ValueType) → IsTrue (is_nonterminal symbols s) → IsTerminal symbols s ty → ⊥
    no_terminal s ty non (x, at, is) = differ (subst (λ o. IsTrue (is_nonterminal_symbol o)) at non)
      where
        differ : IsTrue (not (is_some x.terminal)) → ⊥
        differ h = false_true (sym (ap (λ o. not (is_some o)) is) ∙ h)

    child_of : (s : SymId) → IsTrue (is_nonterminal symbols s) → (x : Item Value) (y : Item Plain) → plain_item texts x ≡ y → IsItem symbols rules (plain_tree texts W) s y → (c : ℕ) × (x ≡ Child c) × HasSymbol rules (plain_tree texts W) c s
    child_of s non (Child c) y e (node {c = d} h) = (c, refl, subst (λ z. HasSymbol rules (plain_tree texts W) z s) (same_child c d e) h)
    child_of s non (Leaf v) y e (node {c = d} h) = absurd (leaf_child (plain texts v) d e)
    child_of s non x y e (int h low high) = absurd (no_terminal s _ non h)
    child_of s non x y e (string h) = absurd (no_terminal s _ non h)

    -- each node of it has what the grammar asks for
    pub suits : Suits symbols rules shapes W
    suits = record {
      tree = stored_is_tree texts W fits.tree;
      shaped = shaped;
      ruled = λ n h. let s = shaped n h in let r = shape_rule symbols rules shapes root well s.0 s.1 in (r.0, (s.0.rule.0, s.2, r.1), r.2);
      few = λ n shape among is plain. (
        sym (length-map (items_of W n) (plain_item texts)) ∙ ap length (sym (plain_items texts W n)) ∙ AllZip-long _ shape.right (items_of (plain_tree texts W) n) (fits.plain n shape (among, plain_rule texts W n ∙ is) plain),
        few_in_shape symbols rules shapes root well shape among plain,
      );
      cells = λ n shape among is list. is_cell_of symbols rules shapes root well shape among list;
      elements = elements;
    }
      where
        shaped : (n : ℕ) → n < length W → (shape : Shape) × Contains shapes shape × (rule_at W n ≡ Some shape.rule.0)
        shaped n h = let (shape, has) = fits.shaped n (omega (arith, plain_length texts W)) in (shape, has.0, sym (plain_rule texts W n) ∙ has.1)

        elements : (n k : ℕ) (x : Item Value) (shape : Shape) → Contains shapes shape → rule_at W n ≡ Some shape.rule.0 → shape.list ≡ true → slice_get (items_of W n) k ≡ Some x
            → (c : ℕ) × (x ≡ Child c) × ((r : FlatRule) → HasRule rules W c r → (i : ℕ) × (q : FlatRule) × (slice_get rules i ≡ Some q) × (q.left ≡ cell_of rules shape) × (q.right ≡ r.left ∷ cell_of rules shape ∷ []))
        elements n k x shape among is list at =
            let there : slice_get (items_of (plain_tree texts W) n) k ≡ Some (plain_item texts x) = ap (λ xs. slice_get xs k) (plain_items texts W n) ∙ slice_get-map (plain_item texts) (items_of W n) k ∙ ap (option_map (plain_item texts)) at in
            let (s, m, item) = fits.lists n shape (among, plain_rule texts W n ∙ is) list k (plain_item texts x) (slice_get_within (items_of (plain_tree texts W) n) k (plain_item texts x) there) in
            let (c, same, has) = child_of s (element_nonterminal symbols rules shapes root well shape among list s m) x (get_or (items_of (plain_tree texts W) n) k (plain_item texts x)) (sym (get_or_from_slice_get (items_of (plain_tree texts W) n) k (plain_item texts x) (plain_item texts x) there)) item in
            (c, same, λ r known. rule_for s m c has r known)
          where
            rule_for : (s : SymId) → Contains shape.right s → (c : ℕ) → HasSymbol rules (plain_tree texts W) c s → (r : FlatRule) → HasRule rules W c r
                → (i : ℕ) × (q : FlatRule) × (slice_get rules i ≡ Some q) × (q.left ≡ cell_of rules shape) × (q.right ≡ r.left ∷ cell_of rules shape ∷ [])
            rule_for s m c (r0, (i0, e0, got0), left) r (i, e, got) =
                let number : i0 ≡ i = some_same (sym e0 ∙ plain_rule texts W c ∙ e) in
                let same : r0 ≡ r = some_same (sym got0 ∙ ap (slice_get rules) number ∙ got) in
                subst (λ z. (i : ℕ) × (q : FlatRule) × (slice_get rules i ≡ Some q) × (q.left ≡ cell_of rules shape) × (q.right ≡ z ∷ cell_of rules shape ∷ [])) (sym left ∙ ap (λ (z : FlatRule). z.left) same)
                (element_has_rule symbols rules shapes root well shape among list s m)
