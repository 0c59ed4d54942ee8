-- A computation in force has its value in the flat tree, where its TAILs and CONSTITUENTS have theirs.
use Rattle.std.specs.Prelude.{Contains, IsTrue, is_some, slice_get, option_and_then, unwrap_or, pos, if◌then◌else◌}
use Rattle.std.specs.Option.{option_map_or}
use Rattle.std.proofs.Common.{◌≡◌, ℕ, ℤ, zero, suc, ◌<◌, inl, inr, Bool, true, false, List, [], ◌∷◌, length, Option, Some, None, refl, sym, ap, subst, ◌∙◌, arith, true≢false}
use Rattle.std.proofs.lemmas.Option.{none-some, same_Some, slice_get_within}
use Rattle.lido_base.specs.Plain.{Plain, Void}
use Rattle.lido_base.specs.Plain as plain
use Rattle.lido_base.specs.Tree.{Item, child_number, item_at, coordinate, contains, ancestors}
use Rattle.lido_base.specs.declared.kinds.CoordPart.{CoordPart}
use Rattle.lido_base.proofs.PathLemmas.{above_before}
use Rattle.lido_syntax.specs.declared.spec.Name.{Name}
use Rattle.lido_syntax.specs.declared.spec.Pair.{Pair}
use Rattle.lido_syntax.specs.declared.spec.Cons.{Cons}
use Rattle.lido_syntax.specs.declared.spec.RuleItem.{RuleItem}
use Rattle.lido_syntax.specs.declared.spec.Place.{Place}
use Rattle.lido_syntax.specs.declared.spec.Place.TheVariants as place
use Rattle.lido_syntax.specs.declared.spec.Expr.{Expr, Int, Str, Bool as Truth, Terminal, Read, Including, Constituents, Call'}
use Rattle.lido_syntax.specs.Parts.{parts, is_leaf, leaves, leaves_of}
use Rattle.lido_syntax.specs.Functions.{text_of}
use Rattle.lido_syntax.specs.Production.{right_of, name_of, occurrence}
use Rattle.lido_syntax.specs.Coordinates.{part_named, coordinate_named}
use Rattle.lido_syntax.specs.Symbols.{IsChain, IsNonterminal}
use Rattle.lido_syntax.specs.Attributes.{IsOwn, InBody}
use Rattle.lido_syntax.specs.Computation.{Holder, by_rule, by_symbol, InForce}
use Rattle.lido_syntax.specs.Nodes.{IsAt}
use Rattle.lido_syntax.specs.Assignment.{Assignment, Attribute, value_at}
use Rattle.lido_syntax.specs.Assignment as front
use Rattle.lido_syntax.specs.Value.{value}
use Rattle.lido_syntax.specs.Value as written
use Rattle.lido_symbols.specs.Numbers.{place_in}
use Rattle.lido_symbols.specs.Uses.{is_same_set, is_coordinate_of_symbol}
use Rattle.kind_clashes.specs.KindClash as clash
use Rattle.table_faults.specs.Faults.{IsForeign, bare_in_symbol}
use Rattle.flat_grammar.specs.declared.flat.FlatExpr.{FlatExpr}
use Rattle.flat_grammar.specs.declared.flat.FlatExpr.TheVariants as flat
use Rattle.flat_grammar.specs.FlatAttribution.{value_of, leaf_or}
use Rattle.flat_grammar.specs.FlatTrees.{IsNodeOf}
use Rattle.flat_grammar.specs.Instances.{instance_at}
use Rattle.flat_grammar.specs.WholeOrder.{Instance, node_at}
use Rattle.tree_flattener.specs.Roles.{HasRole}
use Rattle.rule_tables.specs.PlainRules.{PlainRule, number}
use Rattle.rule_tables.specs.Forced.{Force, context_of}
use Rattle.rule_tables.specs.Needs.{is_tail}
use Rattle.rule_tables.specs.Slots.{Slot, Written, Inc, Front, is_same_slot, HasSlot, chains}
use Rattle.rule_tables.specs.Copies.{occ, get, bare, read, including, constituents, copy_of, nothing, slot_number}
use Rattle.flat_laws.proofs.SymbolLemmas.{nonterminal-number, filtered}
use Rattle.flat_laws.proofs.TerminalLemmas.{bare-of-item}
use Rattle.flat_laws.proofs.RuleLemmas.{IsRuled, ruled-at, is-rule}
use Rattle.flat_laws.proofs.FaultLemmas.{no-clash, no-unknown}
use Rattle.flat_laws.proofs.OccurrenceLemmas.{occurrence-names}
use Rattle.flat_laws.proofs.ForcedLemmas.{IsForcedAt, HasContext, Stands, in_rule, in_symbol, in_class, forced-at, has-context, text-of, of-written, IsOfWritten, of_whole, of_listing}
use Rattle.flat_laws.proofs.NeedLemmas.{including-there}
use Rattle.flat_laws.proofs.ReadLemmas.{IsThere, named-there, own-there, foreign, no-name, its-computation, read-used}
use Rattle.carried_trees.specs.Flattening.{Flattening, IsFlattening, Trees, AreTrees}
use Rattle.carried_trees.specs.Carry as carry
use Rattle.carried_trees.specs.Holds.{IsRuleAt}
use Rattle.carried_trees.proofs.NearestLemmas.{found-same}
use Rattle.carried_trees.proofs.NodeLemmas.{IsPlain, child-at, cell-at, written-at, plain-ruled}
use Rattle.tree_flattener.proofs.OnePathLemmas.{rule_inside}
use Rattle.carried_values.proofs.CopyLemmas.{copy-value}
use Rattle.carried_values.proofs.WrittenLemmas.{AgreesAtNodes, child-of, coordinate-same, terminal-same}

-- what stands at the first place at which a test passes passes it
at-place : {X : Type 0} (test : X → Bool) (xs : List X) (y : X) → slice_get xs (place_in test xs) ≡ Some y → IsTrue (test y)
at-place test [] y e = absurd (none-some y e)
at-place {X} test (z ∷ xs) y e = by (test z) refl e (at-place test xs y)
  where
    by : (b : Bool) → test z ≡ b → slice_get (z ∷ xs) (if b then 0 else suc (place_in test xs)) ≡ Some y → (slice_get xs (place_in test xs) ≡ Some y → IsTrue (test y)) → IsTrue (test y)
    by true g e later = ap test (sym (same_Some z y e)) ∙ g
    by false g e later = later e

module _ (f : Flattening) (is : IsFlattening f) (x : Trees) (are : AreTrees f x) (A : Assignment) (B : Instance → Plain) (agrees : AgreesAtNodes f is x are A B)
    (n : ℕ) (r : RuleItem) (p : PlainRule) (fs : List Force) (at : IsRuleAt f x n r p fs) (c : Force) (m : Contains fs c) where
  o : IsPlain f is x are n p
  o = plain-ruled f is x are n r p fs at

  of : IsRuled f.spec f.env f.tables is.tables at.number p fs
  of = ruled-at f.spec f.env f.tables is.tables at.number p fs at.rule

  its : IsForcedAt f.spec f.early f.tables is.accepted p c
  its = forced-at f.spec f.early f.tables is.accepted p (is-rule f.spec f.env f.tables is.tables at.number p fs of) c ((of.forced c).0 m)

  same-rule : its.r ≡ r
  same-rule = same_Some its.r r (sym its.rule ∙ at.written)

  its-context : HasContext f.spec f.early f.tables is.accepted p c
  its-context = has-context f.spec f.early f.tables is.accepted p (is-rule f.spec f.env f.tables is.tables at.number p fs of) c its

  abbrev There : ℕ → Slot → Type 0
  There = IsThere f.spec f.early f.env f.tables is.tables is.accepted f.needs at.number p fs of

  abbrev the_slot : ℕ → Slot
  the_slot a = if contains a (chains f.spec f.tables f.needs) then Front a else Written a

  abbrev at_written : ℕ → Slot → Plain
  at_written = carry.at_node f x A

  -- what an attribute or chain is at a written node
  seen-there : (w a : ℕ) → at_written w (the_slot a) ≡ written.seen f.spec f.tables.sets f.env x.written A a w
  seen-there w a = by (contains a (chains f.spec f.tables f.needs))
    where
      by : (b : Bool) → at_written w (if b then Front a else Written a) ≡ value_at A w (if b then front.Front a else Attribute a)
      by true = refl
      by false = refl

  -- a nonterminal's node is no cell
  written-role : (k w : ℕ) (q : PlainRule) → IsPlain f is x are k q → (s : ℕ) → IsNonterminal f.spec s → q.left ≡ number f.spec f.tables.symbols s → HasRole f.rules f.shapes x.written x.flat x.node_of k w
      → IsNodeOf f.rules f.shapes x.flat x.node_of k w
  written-role k w q plain s nonterminal left (inl stands) = stands
  written-role k w q plain s nonterminal left (inr cells) =
      let below = slice_get_within f.tables.symbols (number f.spec f.tables.symbols s) s (nonterminal-number f.spec f.env f.tables is.tables s nonterminal) in
      let past = (cell-at f is x are k w q plain cells).past in
      absurd (omega (arith, below, past, left))

  -- an attribute of a written node at an occurrence
  occurrence-value : (k v : ℕ) → IsNodeOf f.rules f.shapes x.flat x.node_of (node_at x.flat n k) v → (s : Slot) → There k s
      → B (instance_at x.flat n (occ f.spec f.tables f.needs f.slots f.env r p fs k s)) ≡ at_written v s
  occurrence-value zero v stands s there = agrees n v p o stands s (subst (λ z. HasSlot f.spec f.tables f.needs z s) (sym (same_Some p.left there.x there.at)) there.has)
  occurrence-value (suc j) v stands s there =
      let child = child-at f is x are n p o j there.x there.at s there.has in
      ap (λ (z : Option ℕ). B (node_at x.flat n (suc j), slot_number f.spec f.tables f.needs f.slots f.env r p fs z s)) there.at
      ∙ ap (λ k. B (k, place_in (is_same_slot s) (f.slots there.x))) child.there
      ∙ ap (λ z. B (child.c, place_in (is_same_slot s) (f.slots z))) (sym child.left)
      ∙ agrees child.c v child.p child.plain (subst (λ k. IsNodeOf f.rules f.shapes x.flat x.node_of k v) child.there stands) s (subst (λ z. HasSlot f.spec f.tables f.needs z s) (sym child.left) there.has)

  -- ---- in a rule's computation

  context-zero : c.holder ≡ by_rule → context_of c ≡ 0
  context-zero e = ap (λ (h : Holder). elim h as (λ _. ℕ) [ by_rule ↦ 0 | by_symbol ↦ c.occ ]) e

  module _ (w : ℕ) (rw : RuleItem) (is_at : IsAt f.spec x.written w rw) where
    module _ (stands : IsNodeOf f.rules f.shapes x.flat x.node_of n w) where
      node-rule : rw ≡ r
      node-rule =
          let its = written-at f is x are n w p o stands in
          let same : its.i ≡ is_at.0 = same_Some its.i is_at.0 (sym its.at ∙ is_at.1) in
          let rule : p.rule ≡ its.i = ap (λ (q : PlainRule). q.rule) its.plain in
          same_Some rw r (sym is_at.2 ∙ ap (slice_get f.spec.rules) (sym (rule ∙ same)) ∙ at.written)

      module _ (e : c.holder ≡ by_rule) where
        rule-kind : IsOfWritten f.spec f.early f.tables is.accepted p its.r
        rule-kind = of-written f.spec f.early f.tables is.accepted p (is-rule f.spec f.env f.tables is.tables at.number p fs of) its.r its.rule c.occ its.s c.goal c.comp its.written
            (subst (λ h. InForce f.spec its.r c.occ its.s c.goal h c.comp) e its.force)

        -- an occurrence on the right side is in a rule that is no list
        no-list : (z : Name) (i : Option ℤ) (k : ℕ) → occurrence r z i ≡ Some (suc k) → rw.list ≡ false
        no-list z i k at_right = by rule-kind
          where
            by : IsOfWritten f.spec f.early f.tables is.accepted p its.r → rw.list ≡ false
            by (of_whole role l left right) = ap (λ (q : RuleItem). q.list) (node-rule ∙ sym same-rule) ∙ l
            by (of_listing role l left) =
                absurd (none-some (name_of z) (ap (λ b. slice_get (if b then [] else right_of its.r) k) (sym l)
                ∙ occurrence-names its.r z i (suc k) (ap (λ (q : RuleItem). occurrence q z i) same-rule ∙ at_right)))

        read-at : (k a : ℕ) → ((j : ℕ) → k ≡ suc j → rw.list ≡ false) → There k (the_slot a)
            → B (instance_at x.flat n (occ f.spec f.tables f.needs f.slots f.env r p fs k (the_slot a)))
            ≡ option_map_or (written.seen f.spec f.tables.sets f.env x.written A a) (written.node_at f.spec f.tables.sets f.env x.written A by_rule rw c.comp.number w (λ chain. Void) k) Void
        read-at zero a whole there = occurrence-value zero w stands (the_slot a) there ∙ seen-there w a
        read-at (suc j) a whole there =
            let child = child-at f is x are n p o j there.x there.at (the_slot a) there.has in
            let (v, of_v, item) = child-of f is x are A n w p o stands rw is_at (whole j refl) j child.c child.item in
            occurrence-value (suc j) v (subst (λ k. IsNodeOf f.rules f.shapes x.flat x.node_of k v) (sym child.there) of_v) (the_slot a) there
            ∙ seen-there v a
            ∙ sym (ap (λ (i : Option (Item Plain)). option_map_or (written.seen f.spec f.tables.sets f.env x.written A a) (option_and_then {T = Item Plain} {U = ℕ} child_number i) Void) item)

        terminal-at : (z : Name) (i : Option ℤ) (k : ℕ) → occurrence r z i ≡ Some k → leaf_or (item_at x.flat n k) ≡ option_map_or written.leaf_of (item_at x.written w k) Void
        terminal-at z i zero at_k = refl
        terminal-at z i (suc j) at_k = terminal-same f is x are A n w p o stands rw is_at (no-list z i j at_k) (suc j)

    -- ---- leaves

    module _ (context : IsNodeOf f.rules f.shapes x.flat x.node_of (node_at x.flat n (context_of c)) w) (tail : ℕ → FlatExpr) (tail_value : ℕ → Plain) where
      abbrev given : FlatExpr → Plain
      given e = value_of f.env x.flat x.node_of B (node_at x.flat n (context_of c)) n e

      abbrev worth : Expr → Plain
      worth e = value f.spec f.tables.sets f.env x.written A c.holder rw c.comp.number w tail_value e

      abbrev copied : Expr → FlatExpr
      copied e = copy_of f.spec f.tables f.needs f.slots f.env r p fs tail c.holder (context_of c) c.comp.number e

      own-node : c.holder ≡ by_rule → IsNodeOf f.rules f.shapes x.flat x.node_of n w
      own-node e = subst (λ k. IsNodeOf f.rules f.shapes x.flat x.node_of (node_at x.flat n k) w) (context-zero e) context

      own-value : (a : ℕ) → There (context_of c) (the_slot a) → given (get f.spec f.tables f.needs f.slots f.env r p fs (context_of c) (the_slot a)) ≡ written.seen f.spec f.tables.sets f.env x.written A a w
      own-value a there = occurrence-value (context_of c) w context (the_slot a) there ∙ seen-there w a

      own-read : (first : ℕ) (q : Place) (a : Name) → Contains (leaves_of c.comp) (Read first q a) → IsOwn q → is_tail f.spec f.tables q ≡ false → IsForeign f.spec f.early its.r q → (IsChain f.spec (name_of a) → q ≡ place.This)
          → There (context_of c) (the_slot (name_of a))
      own-read first q a ml own no_tail strange this = by c.holder refl its.stands_in
        where
          by : (h : Holder) → c.holder ≡ h → Stands f.spec its.r its.s c.comp h → There (context_of c) (the_slot (name_of a))
          by _ holder (in_rule mr) = absurd (foreign f.spec f.early f.env f.tables is.tables is.accepted f.needs at.number p fs of c m its first q a ml mr strange)
          by _ holder (in_symbol body) = own-there f.spec f.early f.env f.tables is.tables is.accepted f.needs at.number p fs of c m its first q a ml own no_tail this holder
          by _ holder (in_class class heir body) = own-there f.spec f.early f.env f.tables is.tables is.accepted f.needs at.number p fs of c m its first q a ml own no_tail this holder

      -- a chain is read by THIS, TAIL or the left side's name alone
      no-synt : (first : ℕ) (a : Name) → Contains (leaves_of c.comp) (Read first place.Synt a) → IsChain f.spec (name_of a) → place.Synt ≡ place.This
      no-synt first a ml chain = absurd (no-clash f.spec f.early f.tables is.accepted a.at (clash.chain_elsewhere (clash.synt c.comp a (text-of f.spec its.r its.among its.s c.comp c.holder its.stands_in) (read-used c.comp first place.Synt a ml) chain refl)))

      no-inh : (first : ℕ) (a : Name) → Contains (leaves_of c.comp) (Read first place.Inh a) → IsChain f.spec (name_of a) → place.Inh ≡ place.This
      no-inh first a ml chain = absurd (no-clash f.spec f.early f.tables is.accepted a.at (clash.chain_elsewhere (clash.inh c.comp a (text-of f.spec its.r its.among its.s c.comp c.holder its.stands_in) (read-used c.comp first place.Inh a ml) chain refl)))

      -- a place with a name
      named-value : (first : ℕ) (z : Name) (i : Option ℤ) (a : Name) → Contains (leaves_of c.comp) (Read first (place.Named z i) a) → given (copied (Read first (place.Named z i) a)) ≡ worth (Read first (place.Named z i) a)
      named-value first z i a ml = by c.holder refl its.stands_in
        where
          there : (e : c.holder ≡ by_rule) → Contains its.r.body c.comp → (k : ℕ) → occurrence r z i ≡ Some k → There k (the_slot (name_of a))
          there e mr k at_k = named-there f.spec f.early f.env f.tables is.tables is.accepted f.needs at.number p fs of c m its first z i a ml mr e k (ap (λ (q : RuleItem). occurrence q z i) same-rule ∙ at_k)

          in-rule : (e : c.holder ≡ by_rule) → Contains its.r.body c.comp → (k : Option ℕ) → occurrence r z i ≡ k
              → given (option_map_or (λ k. get f.spec f.tables f.needs f.slots f.env r p fs k (the_slot (name_of a))) k nothing)
              ≡ option_map_or (written.seen f.spec f.tables.sets f.env x.written A (name_of a)) (option_and_then (written.node_at f.spec f.tables.sets f.env x.written A by_rule rw c.comp.number w (λ chain. Void)) k) Void
          in-rule e mr None at_k = refl
          in-rule e mr (Some k) at_k =
              read-at (own-node e) e k (name_of a) (λ j same. no-list (own-node e) e z i j (at_k ∙ ap (λ n. Some n) same)) (there e mr k at_k)

          by : (h : Holder) → c.holder ≡ h → Stands f.spec its.r its.s c.comp h → given (copied (Read first (place.Named z i) a)) ≡ worth (Read first (place.Named z i) a)
          by _ holder (in_rule mr) =
              in-rule holder mr (occurrence r z i) refl
              ∙ ap (λ (q : RuleItem). option_map_or (written.seen f.spec f.tables.sets f.env x.written A (name_of a)) (option_and_then (written.node_at f.spec f.tables.sets f.env x.written A by_rule rw c.comp.number w (λ chain. Void)) (occurrence q z i)) Void)
              (sym (node-rule (own-node holder)))
          by _ holder (in_symbol body) = absurd (no-name f.spec f.early f.env f.tables is.tables is.accepted f.needs at.number p fs of c m its first z i a ml its.s body)
          by _ holder (in_class class heir body) = absurd (no-name f.spec f.early f.env f.tables is.tables is.accepted f.needs at.number p fs of c m its first z i a ml class body)

      -- a node above has a rule
      ruled-above : (v : ℕ) → Contains (ancestors x.written w) v → (q : RuleItem) × IsAt f.spec x.written v q
      ruled-above v mv =
          let below : v < w = above_before x.written are.fits.tree w v mv in
          let inside : w < length x.written = rule_inside x.written w is_at.0 is_at.1 in
          are.fits.ruled v (omega (arith, below, inside))

      including-value : (first : ℕ) (pairs : List Pair) → Contains (leaves_of c.comp) (Including first pairs) → given (copied (Including first pairs)) ≡ worth (Including first pairs)
      including-value first pairs ml =
          let number_of : ℕ = place_in (is_same_set f.spec f.tables.sets pairs) f.tables.includings in
          let computation = its-computation f.spec f.early f.env f.tables is.tables is.accepted f.needs at.number p fs of c m its in
          let has : HasSlot f.spec f.tables f.needs (number f.spec f.tables.symbols its-context.c) (Inc number_of) = including-there f.spec f.env f.tables is.tables f.needs at.number p fs of c m computation (number f.spec f.tables.symbols its-context.c) its-context.at first pairs ml in
          occurrence-value (context_of c) w context (Inc number_of) (record { x = number f.spec f.tables.symbols its-context.c; at = its-context.at; has = has })
          ∙ ap (carry.value_of_nearest f x A (ancestors x.written w)) has.1
          ∙ sym (found-same f.spec f.tables.sets x.written A pairs has.0 (at-place (is_same_set f.spec f.tables.sets pairs) f.tables.includings has.0 has.1) (ancestors x.written w) ruled-above)

      -- a bare name, by the coordinate and the occurrence that it means
      abbrev flat_of : Option CoordPart → Option ℕ → Plain
      flat_of q k = given (elim q as (λ _. FlatExpr) [ Some part ↦ flat.Coord part | None ↦ option_map_or (λ k. flat.Terminal k) k nothing ])

      abbrev worth_of : Option CoordPart → Option ℕ → Plain
      worth_of q k = elim q as (λ _. Plain) [ Some part ↦ plain.Int (pos (coordinate x.written w part)) | None ↦ option_map_or written.leaf_of (option_and_then (item_at x.written w) k) Void ]

      bare-value : (z : Name) (i : Option ℤ) → Contains (leaves_of c.comp) (Terminal z i) → given (copied (Terminal z i)) ≡ worth (Terminal z i)
      bare-value z i ml = by c.holder refl its.stands_in
        where
          coordinate-value : (part : CoordPart) → plain.Int (pos (coordinate x.flat (node_at x.flat n (context_of c)) part)) ≡ plain.Int (pos (coordinate x.written w part))
          coordinate-value part = ap (λ k. plain.Int (pos k)) (coordinate-same f is x are A (node_at x.flat n (context_of c)) w context.1 part)

          of-part : (q : Option CoordPart) (k : Option ℕ) → (q ≡ None → flat_of None k ≡ worth_of None k) → flat_of q k ≡ worth_of q k
          of-part (Some part) k bare = coordinate-value part
          of-part None k bare = bare refl

          in-rule : (e : c.holder ≡ by_rule) (k : Option ℕ) → occurrence r z i ≡ k → flat_of None k ≡ worth_of None k
          in-rule e None at_k = refl
          in-rule e (Some k) at_k = terminal-at (own-node e) e z i k at_k

          symbol-same : (q : RuleItem) → coordinate_named f.env by_symbol r z i ≡ coordinate_named f.env by_symbol q z i
          symbol-same q = each i
            where
              each : (i : Option ℤ) → coordinate_named f.env by_symbol r z i ≡ coordinate_named f.env by_symbol q z i
              each None = refl
              each (Some i) = refl

          in-body : (s : ℕ) → InBody f.spec s c.comp → coordinate_named f.env by_symbol r z i ≡ None → ⊥
          in-body s (item, mi, h, mc) none =
              no-unknown f.spec f.early f.tables is.accepted z.at
              (bare_in_symbol item c.comp z i mi mc (ml, no-coordinate i (is.names.kept z (bare-of-item f.spec item c.comp z i mi mc ml)) none) refl)
            where
              no-coordinate : (i : Option ℤ) → text_of f.early (name_of z) ≡ text_of f.env (name_of z) → coordinate_named f.env by_symbol r z i ≡ None → ¬ IsTrue (is_coordinate_of_symbol f.early z i)
              no-coordinate None e none h = true≢false (sym h ∙ ap (λ (o : Option CoordPart). is_some o) (ap part_named e ∙ none))
              no-coordinate (Some i) e none h = true≢false (sym h)

          in-symbol : (e : c.holder ≡ by_symbol) (s : ℕ) → InBody f.spec s c.comp → given (copied (Terminal z i)) ≡ worth (Terminal z i)
          in-symbol e s body = subst (λ h. flat_of (coordinate_named f.env h r z i) (occurrence r z i) ≡ worth_of (coordinate_named f.env h rw z i) (occurrence rw z i)) (sym e)
              (step (coordinate_named f.env by_symbol r z i) refl ∙ ap (λ q. worth_of q (occurrence rw z i)) (symbol-same rw))
            where
              step : (q : Option CoordPart) → coordinate_named f.env by_symbol r z i ≡ q → flat_of q (occurrence r z i) ≡ worth_of q (occurrence rw z i)
              step (Some part) none = coordinate-value part
              step None none = absurd (in-body s body none)

          by : (h : Holder) → c.holder ≡ h → Stands f.spec its.r its.s c.comp h → given (copied (Terminal z i)) ≡ worth (Terminal z i)
          by _ holder (in_rule mr) =
              of-part (coordinate_named f.env c.holder r z i) (occurrence r z i) (λ none. in-rule holder (occurrence r z i) refl)
              ∙ ap (λ (q : RuleItem). worth_of (coordinate_named f.env c.holder q z i) (occurrence q z i)) (sym (node-rule (own-node holder)))
          by _ holder (in_symbol body) = in-symbol holder its.s body
          by _ holder (in_class class heir body) = in-symbol holder class body

      -- an expression of the computation has its value, if what it reads below has
      module _ (v : Expr) (within : (l : Expr) → Contains (leaves v) l → Contains (leaves_of c.comp) l)
          (tails : (first : ℕ) (a : Name) → Contains (leaves v) (Read first place.Tail a) → given (tail (name_of a)) ≡ tail_value (name_of a))
          (gathers : (k : Cons) → Contains (leaves v) (Constituents k) → given (copied (Constituents k)) ≡ worth (Constituents k)) where
        read-value : (first : ℕ) (q : Place) (a : Name) → Contains (leaves v) (Read first q a) → given (copied (Read first q a)) ≡ worth (Read first q a)
        read-value first place.Tail a ml = tails first a ml
        read-value first place.Synt a ml = let here = within (Read first place.Synt a) ml in own-value (name_of a) (own-read first place.Synt a here tt refl tt (no-synt first a here))
        read-value first place.Inh a ml = let here = within (Read first place.Inh a) ml in own-value (name_of a) (own-read first place.Inh a here tt refl tt (no-inh first a here))
        read-value first place.This a ml = own-value (name_of a) (own-read first place.This a (within (Read first place.This a) ml) tt refl tt (λ chain. refl))
        read-value first (place.Named z i) a ml = named-value first z i a (within (Read first (place.Named z i) a) ml)

        leaf-value : (l : Expr) → Contains (leaves v) l → given (copied l) ≡ worth l
        leaf-value (Int first z) ml = refl
        leaf-value (Str first s) ml = refl
        leaf-value (Truth first b) ml = refl
        leaf-value (Terminal z i) ml = bare-value z i (within (Terminal z i) ml)
        leaf-value (Read first q a) ml = read-value first q a ml
        leaf-value (Including first pairs) ml = including-value first pairs (within (Including first pairs) ml)
        leaf-value (Constituents k) ml = gathers k ml
        leaf-value (Call' g shape args) ml = absurd (true≢false (sym (filtered is_leaf (parts v) (Call' g shape args) ml).1))

        pub expression-value : given (copied v) ≡ worth v
        expression-value =
            copy-value f.env x.flat x.node_of B (node_at x.flat n (context_of c)) n c.comp.number w (ap (λ (k : Option ℕ). unwrap_or k 0) context.1)
            (bare f.spec f.tables f.needs f.slots f.env r p fs tail c.holder (context_of c)) (read f.spec f.tables f.needs f.slots f.env r p fs tail c.holder (context_of c))
            (including f.spec f.tables f.needs f.slots f.env r p fs tail c.holder (context_of c)) (constituents f.spec f.tables f.needs f.slots f.env r p fs tail c.holder (context_of c))
            f.spec f.tables.sets x.written A c.holder rw tail_value v leaf-value
