-- Trees that fit an accepted specification fit its flat grammar.
use Rattle.std.specs.Prelude.{Contains, All, slice_get, map}
use Rattle.std.specs.List.{AllZip}
use Rattle.std.proofs.Common.{◌≡◌, ℕ, ◌<◌, inl, inr, true, false, List, [], ◌∷◌, length, Option, Some, None, sym, ap, subst, ◌∙◌}
use Rattle.std.proofs.lemmas.Option.{same_Some}
use Rattle.lido_base.specs.declared.ids.SymId.{SymId}
use Rattle.lido_base.specs.declared.value.ValueType.{ValueType}
use Rattle.lido_base.specs.Plain.{Plain}
use Rattle.lido_base.specs.Tree.{Tree, Item, items_of}
use Rattle.lido_base.proofs.Lists.{contains-here, contains-later, contains-place, place-contains}
use Rattle.lido_base.proofs.TreeLemmas.{contains-test}
use Rattle.lido_syntax.specs.Production.{left_of, right_of}
use Rattle.lido_syntax.specs.Symbols.{IsTerminal}
use Rattle.lido_syntax.specs.Nodes.{IsAt}
use Rattle.lido_syntax.specs.Fitting as written
use Rattle.lido_syntax.specs.declared.spec.RuleItem.{RuleItem}
use Rattle.flat_grammar.specs.declared.flat.Shape.{Shape}
use Rattle.flat_grammar.specs.Fitting as flat
use Rattle.flat_grammar.specs.Fitting.{HasShape}
use Rattle.lido_symbols.specs.Numbers.{enumerated}
use Rattle.rule_tables.specs.PlainRules.{number, written_rule, IsShapeOf}
use Rattle.rule_tables.specs.Flat.{IsSymbolType}
use Rattle.leaf_types.proofs.SingleLemmas.{single-types}
use Rattle.clear_tables.proofs.ClearLemmas.{are-clear}
use Rattle.flat_laws.proofs.Lists.{zip-right, mapped-place, mapped-back}
use Rattle.flat_laws.proofs.SymbolLemmas.{right-number, rule-numbered}
use Rattle.flat_laws.proofs.RuleLemmas.{plain-at, at-flat}
use Rattle.flat_laws.proofs.FaultLemmas.{no-clash}
use Rattle.flat_laws.proofs.FlatSymbolLemmas.{named-at}
use Rattle.flat_laws.proofs.ShapeLemmas.{one-id, shape-at}
use Rattle.carried_trees.specs.Flattening.{Flattening, IsFlattening}

module _ (f : Flattening) (is : IsFlattening f) (t : Tree Plain) where
  abbrev number_of : ℕ → ℕ
  number_of s = number f.spec f.tables.symbols s

  -- the flat rule of a node's rule
  rule-of : (n : ℕ) (r : RuleItem) (s : ℕ) → IsAt f.spec t n r → left_of r ≡ s → (id : SymId) → id.0 ≡ number_of s → flat.HasSymbol f.rules t n id
  rule-of n r s (i, at, of) left id e =
      let has = at-flat f.spec f.env f.tables is.tables f.needs f.slots f.symbols f.rules f.shapes f.root is.grammar i (written_rule f.spec f.tables.symbols (i, r)) (plain-at f.spec f.tables.symbols i r of) in
      (has.flat, (i, at, has.there), one-id has.flat.left id (has.is_flat.left ∙ ap number_of left ∙ sym e))

  -- a terminal has its type
  typed : (s : ℕ) (ty : ValueType) (o : Option ValueType) → IsTerminal f.spec s ty → IsSymbolType f.spec f.tables f.needs f.slots f.env s o → o ≡ Some ty
  typed s ty None terminal nonterminal = absurd (terminal.0 nonterminal)
  typed s ty (Some other) terminal (unlike, inl its) = ap (λ z. Some z) ((single-types f.spec f.early is.accepted.from_text (no-clash f.spec f.early f.tables is.accepted)).terminal s other ty its terminal)
  typed s ty (Some other) terminal (unlike, inr (none, e)) = absurd (none ty terminal)

  terminal-of : (r : RuleItem) → Contains f.spec.rules r → (s : ℕ) → Contains (right_of r) s → (id : SymId) → id.0 ≡ number_of s → (ty : ValueType) → IsTerminal f.spec s ty → flat.IsTerminal f.symbols id ty
  terminal-of r among s m id e ty terminal =
      let (y, its) = named-at f.spec f.env f.tables is.tables f.needs f.slots f.symbols f.rules f.shapes f.root is.grammar (number_of s) s (right-number f.spec f.env f.tables is.tables r among s m) in
      (y, ap (slice_get f.symbols) e ∙ its.there, typed s ty y.terminal terminal its.ty)

  item-of : (r : RuleItem) → Contains f.spec.rules r → (s : ℕ) → Contains (right_of r) s → (id : SymId) → id.0 ≡ number_of s → (x : Item Plain) → written.IsItem f.spec t s x → flat.IsItem f.symbols f.rules t id x
  item-of r among s m id e _ (written.node {c = c} (q, at, left)) = flat.node (rule-of c q s at left id e)
  item-of r among s m id e _ (written.int terminal low high) = flat.int (terminal-of r among s m id e _ terminal) low high
  item-of r among s m id e _ (written.string terminal) = flat.string (terminal-of r among s m id e _ terminal)

  items-of : (r : RuleItem) → Contains f.spec.rules r → (ss : List ℕ) → ((s : ℕ) → Contains ss s → Contains (right_of r) s) → (ids : List SymId) (xs : List (Item Plain))
      → map (λ (id : SymId). id.0) ids ≡ map number_of ss → AllZip (written.IsItem f.spec t) ss xs → AllZip (flat.IsItem f.symbols f.rules t) ids xs
  items-of r among [] within [] [] e all = tt
  items-of r among [] within [] (x ∷ xs) e all = absurd all
  items-of r among [] within (id ∷ ids) xs e all = cc
  items-of r among (s ∷ ss) within [] xs e all = cc
  items-of r among (s ∷ ss) within (id ∷ ids) [] e all = absurd all
  items-of r among (s ∷ ss) within (id ∷ ids) (x ∷ xs) e all =
      let first : id.0 ≡ number_of s = same_Some id.0 (number_of s) (ap (λ (l : List ℕ). slice_get l 0) e) in
      let rest : map (λ (id : SymId). id.0) ids ≡ map number_of ss = cc in
      (item-of r among s (within s (contains-here s ss)) id first x all.0, items-of r among ss (λ q m. within q (contains-later s q ss m)) ids xs rest all.1)

  module _ (fits : written.IsFitting f.spec t) where
    root-node : flat.HasSymbol f.rules t 0 f.root
    root-node =
        let (s, root, (r, at, left)) = fits.root in
        let (q, other, e) = is.grammar.root_symbol in
        let same = (are-clear f.spec f.early is.accepted.from_text is.accepted.tables).roots q s other root in
        rule-of 0 r s at left f.root (e ∙ ap number_of same)

    shaped : (n : ℕ) → n < length t → (shape : Shape) × HasShape f.shapes t n shape
    shaped n h =
        let (r, (i, at, of)) = fits.ruled n h in
        let (shape, there, its) = zip-right (IsShapeOf f.spec f.tables.symbols) (enumerated 0 f.spec.rules) f.shapes i (i, r) is.grammar.each_shape (rule-numbered f.spec f.tables.symbols i r of) in
        (shape, (place-contains f.shapes i shape there, at ∙ ap (λ k. Some k) (sym its.rule)))

    -- the rule of a node's shape
    record IsRuleOf (n : ℕ) (shape : Shape) : Type 0 where
      r : RuleItem
      among : Contains f.spec.rules r
      at : IsAt f.spec t n r
      list : shape.list ≡ r.list
      right : map (λ (id : SymId). id.0) shape.right ≡ map number_of (right_of r)

    of-shape : (n : ℕ) (shape : Shape) → HasShape f.shapes t n shape → IsRuleOf n shape
    of-shape n shape (m, at) =
        let (k, there) = contains-place f.shapes shape m in
        let its = shape-at f.spec f.env f.tables is.tables f.needs f.slots f.symbols f.rules f.shapes f.root is.grammar k shape there in
        record { r = its.r; among = place-contains f.spec.rules k its.r its.of; at = (k, at ∙ ap (λ k. Some k) its.rule, its.of); list = its.list; right = its.right }

    plain : (n : ℕ) (shape : Shape) → HasShape f.shapes t n shape → shape.list ≡ false → AllZip (flat.IsItem f.symbols f.rules t) shape.right (items_of t n)
    plain n shape has unlike =
        let its = of-shape n shape has in
        items-of its.r its.among (right_of its.r) (λ s m. m) shape.right (items_of t n) its.right (fits.plain n its.r its.at (sym its.list ∙ unlike))

    -- an element of a list
    element-of : (r : RuleItem) → Contains f.spec.rules r → (shape : Shape) → map (λ (id : SymId). id.0) shape.right ≡ map number_of (right_of r) → (x : Item Plain)
        → written.IsElement f.spec t (right_of r) x → (id : SymId) × Contains shape.right id × flat.IsItem f.symbols f.rules t id x
    element-of r among shape right x (c, s, is_child, is_element, (q, at, left)) =
        let (k, there) = contains-place (right_of r) s (contains-test s (right_of r) is_element) in
        let (id, here, e) = mapped-to k there in
        (id, place-contains shape.right k id here, subst (flat.IsItem f.symbols f.rules t id) (sym is_child) (flat.node (rule-of c q s at left id e)))
      where
        mapped-to : (k : ℕ) → slice_get (right_of r) k ≡ Some s → (id : SymId) × (slice_get shape.right k ≡ Some id) × (id.0 ≡ number_of s)
        mapped-to k there = mapped-back (λ (id : SymId). id.0) shape.right k (number_of s) (ap (λ (l : List ℕ). slice_get l k) right ∙ mapped-place number_of (right_of r) k s there)

    lists : (n : ℕ) (shape : Shape) → HasShape f.shapes t n shape → shape.list ≡ true → All (λ x. (id : SymId) × Contains shape.right id × flat.IsItem f.symbols f.rules t id x) (items_of t n)
    lists n shape has same k d below =
        let its = of-shape n shape has in
        element-of its.r its.among shape its.right _ (fits.lists n its.r its.at (sym its.list ∙ same) k d below)

pub fitting : (f : Flattening) → IsFlattening f → (t : Tree Plain) → written.IsFitting f.spec t → flat.IsFitting f.symbols f.rules f.shapes f.root t
fitting f is t fits = record {
  tree = fits.tree;
  root_node = root-node f is t fits;
  shaped = shaped f is t fits;
  plain = plain f is t fits;
  lists = lists f is t fits;
}
