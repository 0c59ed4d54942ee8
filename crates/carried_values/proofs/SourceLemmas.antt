-- The weights of nodes: of sources, of shields, and of all others.
use Rattle.std.specs.Prelude.{Contains, IsTrue, find, slice_get, option_and_then, option_map, unwrap_or, not, ◌||◌, if◌then◌else◌}
use Rattle.std.specs.List.{list_any}
use Rattle.std.proofs.Common.{◌≡◌, ℕ, inl, inr, Bool, true, false, List, [], ◌∷◌, Option, Some, None, refl, sym, ap, subst, ◌∙◌, arith, true≢false}
use Rattle.std.proofs.lemmas.Option.{none-some, slice_get_within}
use Rattle.lido_base.specs.Plain.{Plain, Void}
use Rattle.lido_base.specs.Reach.{source, edge}
use Rattle.lido_base.specs.Tree.{children}
use Rattle.lido_base.proofs.Lists.{place-contains}
use Rattle.lido_base.proofs.TreeLemmas.{both}
use Rattle.lido_syntax.specs.declared.spec.Cons.{Cons}
use Rattle.lido_syntax.specs.declared.spec.Pair.{Pair}
use Rattle.lido_syntax.specs.declared.spec.With.{With}
use Rattle.lido_syntax.specs.declared.spec.RuleItem.{RuleItem}
use Rattle.lido_syntax.specs.declared.spec.Expr.{Constituents}
use Rattle.lido_syntax.specs.Production.{left_of, name_of}
use Rattle.lido_syntax.specs.Assignment.{Assignment, Attribute, value_at}
use Rattle.lido_syntax.specs.Computation.{by_rule}
use Rattle.lido_syntax.specs.Sets.{is_source, is_shield, stands_for}
use Rattle.lido_syntax.specs.Including as including
use Rattle.lido_syntax.specs.Including.{listed}
use Rattle.lido_syntax.specs.Constituents.{call, weigh}
use Rattle.lido_syntax.proofs.ConstituentsLemmas.{weight_of-step}
use Rattle.flat_grammar.specs.FlatAttribution.{value_of}
use Rattle.flat_grammar.specs.FlatTrees.{IsNodeOf}
use Rattle.flat_grammar.specs.WholeOrder.{Instance}
use Rattle.tree_flattener.specs.Roles.{IsCellOfList, HasRole}
use Rattle.tree_flattener.proofs.OnePathLemmas.{rule_inside}
use Rattle.rule_tables.specs.PlainRules.{PlainRule, Role, Whole, Listing, Link, End, is_child}
use Rattle.rule_tables.specs.Forced.{Force}
use Rattle.rule_tables.specs.Needs.{rules, listed_at, shield_at, CanReach}
use Rattle.rule_tables.specs.Slots.{Slot, Written, Con, HasSlot, has_con}
use Rattle.rule_tables.specs.Shares.{Term, Read, Comb, Single, ConstituentsShare, gathered, gives, below_term, weight_term, source_term, void_source, void_below}
use Rattle.rule_tables.specs.Shares as share
use Rattle.rule_tables.specs.Copies.{given, nothing}
use Rattle.flat_laws.proofs.SymbolLemmas.{left-number, left-nonterminal}
use Rattle.flat_laws.proofs.NeedLemmas.{listed-has}
use Rattle.flat_laws.proofs.ShareLemmas.{pair-named, constituents-leaf}
use Rattle.carried_trees.specs.Flattening.{Flattening, IsFlattening, Trees, AreTrees}
use Rattle.carried_trees.specs.Carry as carry
use Rattle.carried_trees.specs.Holds.{IsRuleAt, Holds}
use Rattle.carried_trees.proofs.NodeLemmas.{IsPlain, IsWritten, plain-ruled, written-at, cell-at, role-of, carried-at, carried-node, carried-cell, origin-is}
use Rattle.carried_trees.proofs.NearestLemmas.{symbol-is}
use Rattle.carried_values.proofs.ReachLemmas.{both-hold, leads}
use Rattle.carried_values.proofs.FoldLemmas.{worth, single-value, comb-value, con-node, con-cell, by-none}
use Rattle.carried_values.proofs.GatherLemmas.{weights, fold_at}
use Rattle.carried_values.proofs.WeightLemmas.{carried-child, node-below, cell-below}

-- where a test finds nothing nothing passes
none-passes : {X : Type 0} (test : X → Bool) (xs : List X) → find test xs ≡ None → list_any test xs ≡ false
none-passes test [] e = refl
none-passes {X} test (y ∷ ys) e = by (test y) refl e (none-passes test ys)
  where
    by : (b : Bool) → test y ≡ b → (if b then Some y else find test ys) ≡ None → (find test ys ≡ None → list_any test ys ≡ false) → (test y || list_any test ys) ≡ false
    by true g e later = absurd (none-some y (sym e))
    by false g e later = ap (λ b. b || list_any test ys) g ∙ later e

map-none : {X Y : Type 0} (f : X → Y) (o : Option X) → option_map f o ≡ None → o ≡ None
map-none f None e = refl
map-none f (Some x) e = absurd (none-some (f x) (sym e))

module _ (f : Flattening) (is : IsFlattening f) (x : Trees) (are : AreTrees f x) (A : Assignment) (k : Cons) (numbered : Contains f.tables.constituents k) where
  abbrev shield_of : Option ℕ → Bool
  shield_of o = elim o as (λ _. Bool) [ None ↦ false | Some s ↦ is_shield f.spec f.tables.sets.inherits k s ]

  abbrev source_of : Option ℕ → Bool
  source_of o = elim o as (λ _. Bool) [ None ↦ false | Some s ↦ is_source f.spec f.tables.sets.inherits k s ]

  abbrev listed_of : Option ℕ → Option ℕ
  listed_of o = option_and_then (listed f.spec f.tables.sets k.pairs) o

  -- what isn't listed is no source
  unlisted-source : (o : Option ℕ) → listed_of o ≡ None → source_of o ≡ false
  unlisted-source None e = refl
  unlisted-source (Some s) e =
      none-passes (λ (q : Pair). stands_for f.spec f.tables.sets.inherits s q.sym) k.pairs
      (map-none (λ (q : Pair). name_of q.attr) (find (λ (q : Pair). stands_for f.spec f.tables.sets.inherits s q.sym) k.pairs) e)

  -- so that it can reach a source it is no shield
  reaching-unshielded : (y : ℕ) → CanReach f.spec f.tables k y → listed_at f.spec f.tables k.pairs y ≡ None → IsTrue (not (shield_at f.spec f.tables k y))
  reaching-unshielded y (source h) e = absurd (true≢false (sym h ∙ unlisted-source (slice_get f.tables.symbols y) e))
  reaching-unshielded y (edge {c = z} h later) e = (both (not (shield_at f.spec f.tables k y)) (is_child (rules f.spec f.tables) y z) h).0

  module _ (n : ℕ) (r : RuleItem) (p : PlainRule) (fs : List Force) (at : IsRuleAt f x n r p fs) (holds : has_con f.spec f.tables f.needs k p.left ≡ true) where
    o : IsPlain f is x are n p
    o = plain-ruled f is x are n r p fs at

    abbrev B : Instance → Plain
    B i = unwrap_or (carry.carry f x A i) Void

    abbrev given_by : Term → Plain
    given_by e = value_of f.env x.flat x.node_of B n n (given f.spec f.tables f.needs f.slots f.env r p fs e)

    rule-in : Contains (rules f.spec f.tables) p
    rule-in = subst (Contains (rules f.spec f.tables)) o.plain (place-contains (rules f.spec f.tables) o.j o.its.p o.its.of_ruled.plain)

    -- what stands below is wanted, but below a shield
    below-wanted : IsTrue (not (shield_at f.spec f.tables k p.left)) → (y : ℕ) → Contains p.right y → IsTrue (f.needs.wanted k y)
    below-wanted unshielded y m =
        (f.needs.wanted_exactly k y).1
        (edge (both-hold (is_child (rules f.spec f.tables) p.left y) (not (shield_at f.spec f.tables k p.left)) (leads f is p rule-in p.left y refl m) unshielded)
        ((f.needs.wanted_exactly k p.left).0 (both (f.needs.wanted k p.left) (f.needs.reaches k p.left) holds).0))

    can-reach : CanReach f.spec f.tables k p.left
    can-reach = (f.needs.reaches_exactly k p.left).0 (both (f.needs.wanted k p.left) (f.needs.reaches k p.left) holds).1

    has : HasSlot f.spec f.tables f.needs p.left (Con k.number)
    has = (k, numbered, refl, holds)

    module _ (with : With) (its_with : k.with ≡ Some with) (w : ℕ) (role : HasRole f.rules f.shapes x.written x.flat x.node_of n w) where
      abbrev value : Term → Plain
      value = worth f is x are A k numbered with its_with B n w (origin-is f is x are n w role) r p fs (λ chain. nothing) by_rule 0

      abbrev the_below : Term
      the_below = share.below_by f.spec f.tables f.needs p fs p.role k with (gives f.spec f.tables f.needs p fs k)

      below-is : below_term f.spec f.tables f.needs p fs k ≡ the_below
      below-is = ap (λ (q : Option With). elim q as (λ _. Term) [ None ↦ void_below f.spec f.tables f.needs p fs k | Some with ↦ share.below_by f.spec f.tables f.needs p fs p.role k with (gives f.spec f.tables f.needs p fs k) ]) its_with

      -- no written computation stands in such a term
      given-made : (role : Role) (js : List ℕ) → given_by (share.below_by f.spec f.tables f.needs p fs role k with js) ≡ value (share.below_by f.spec f.tables f.needs p fs role k with js)
      given-made Whole [] = refl
      given-made Whole (j ∷ js) = refl
      given-made Listing [] = refl
      given-made Listing (j ∷ js) = refl
      given-made (Link s) [] = refl
      given-made (Link s) (j ∷ []) = refl
      given-made (Link s) (i ∷ j ∷ js) = refl
      given-made End js = refl

      -- at a written node
      module _ (stands : IsNodeOf f.rules f.shapes x.flat x.node_of n w) where
        its : IsWritten f is x are n w p
        its = written-at f is x are n w p o stands

        among : Contains f.spec.rules its.r
        among = place-contains f.spec.rules its.i its.r its.rule

        symbol : slice_get f.tables.symbols p.left ≡ Some (including.symbol_at f.spec f.tables.sets x.written w)
        symbol =
            ap (λ (q : PlainRule). slice_get f.tables.symbols q.left) its.plain ∙ left-number f.spec f.env f.tables is.tables its.r among
            ∙ ap (λ s. Some s) (sym (symbol-is f.spec f.tables.sets x.written w its.r (its.i, its.at, its.rule)))

        fold-value : IsTrue (not (shield_at f.spec f.tables k p.left)) → value the_below ≡ fold_at f is x are A k numbered with its_with w (children x.written w)
        fold-value unshielded =
            node-below f is x are A k numbered with its_with B n w p o r fs (λ chain. nothing) by_rule 0 (origin-is f is x are n w role)
            (λ j y right has. carried-child f is x are A n p o r fs (Con k.number) j y right has) (below-wanted unshielded) stands

        weight-is : weights f is x are A k numbered with its_with w ≡ weigh f.spec f.tables.sets f.env x.written A k with (weights f is x are A k numbered with its_with) w
        weight-is = weight_of-step f.spec f.tables.sets f.env x.written A k with are.fits.tree w (rule_inside x.written w its.i its.at)

        abbrev weigh_by : Option ℕ → Bool → Plain
        weigh_by l b = elim l as (λ _. Plain) [
          | Some a ↦ (let own = call f.spec f.tables.sets f.env x.written A k with with.single w (value_at A w (Attribute a) ∷ []) in
              if b then own else call f.spec f.tables.sets f.env x.written A k with with.comb w (own ∷ fold_at f is x are A k numbered with its_with w (children x.written w) ∷ []))
          | None ↦ if b then call f.spec f.tables.sets f.env x.written A k with with.null w [] else fold_at f is x are A k numbered with its_with w (children x.written w)
        ]

        -- its weight, by what is listed for it and whether it is a shield
        weight-by : weights f is x are A k numbered with its_with w ≡ weigh_by (listed_at f.spec f.tables k.pairs p.left) (shield_at f.spec f.tables k p.left)
        weight-by =
            weight-is
            ∙ sym (ap (λ (q : Option ℕ). weigh_by (listed_of q) (shield_of q)) symbol)

        abbrev term_by : Option ℕ → Bool → Term
        term_by l b = elim l as (λ _. Term) [
          | None ↦ the_below
          | Some a ↦ if b then Single k.number with.single (Read 0 (Written a)) else Comb k.number with.comb (Single k.number with.single (Read 0 (Written a))) the_below
        ]

        own-value : (a : ℕ) → listed_at f.spec f.tables k.pairs p.left ≡ Some a → value (Single k.number with.single (Read 0 (Written a))) ≡ call f.spec f.tables.sets f.env x.written A k with with.single w (value_at A w (Attribute a) ∷ [])
        own-value a e = single-value f is x are A k numbered with its_with B n w (origin-is f is x are n w role) r p fs (λ chain. nothing) by_rule 0 (Read 0 (Written a)) (value_at A w (Attribute a))
            (ap (λ (v : Option Plain). unwrap_or v Void) (carried-at f is x are A n p o (Written a) slot) ∙ carried-node f is x are A n w p o stands (Written a))
          where
            slot : HasSlot f.spec f.tables f.needs p.left (Written a)
            slot = (
              left_of its.r,
              ap (λ (q : PlainRule). slice_get f.tables.symbols q.left) its.plain ∙ left-number f.spec f.env f.tables is.tables its.r among,
              left-nonterminal f.spec its.r among,
              listed-has f.spec f.env f.tables is.tables f.needs k.pairs
                  (λ q mq. pair-named f.spec f.early f.tables is.accepted (Constituents k) (constituents-leaf f.spec f.early f.env f.tables is.tables is.accepted f.needs k numbered) q mq) (left_of its.r) a
                  (sym (ap listed_of (ap (λ (q : PlainRule). slice_get f.tables.symbols q.left) its.plain ∙ left-number f.spec f.env f.tables is.tables its.r among)) ∙ e),
            )

        node-value : (l : Option ℕ) → listed_at f.spec f.tables k.pairs p.left ≡ l → (b : Bool) → shield_at f.spec f.tables k p.left ≡ b → given_by (term_by l b) ≡ weigh_by l b
        node-value None e true g = absurd (true≢false (sym (reaching-unshielded p.left can-reach e) ∙ ap not g))
        node-value None e false g = given-made p.role (gives f.spec f.tables f.needs p fs k) ∙ fold-value (ap not g)
        node-value (Some a) e true g = own-value a e
        node-value (Some a) e false g =
            comb-value f is x are A k numbered with its_with B n w (origin-is f is x are n w role) r p fs (λ chain. nothing) by_rule 0 (Single k.number with.single (Read 0 (Written a))) the_below
            (call f.spec f.tables.sets f.env x.written A k with with.single w (value_at A w (Attribute a) ∷ [])) (fold_at f is x are A k numbered with its_with w (children x.written w)) (own-value a e) (fold-value (ap not g))

        term-is : weight_term f.spec f.tables f.needs p fs k ≡ term_by (listed_at f.spec f.tables k.pairs p.left) (shield_at f.spec f.tables k p.left)
        term-is =
            ap (λ (q : Option With). elim (listed_at f.spec f.tables k.pairs p.left) as (λ _. Term) [
              | None ↦ elim q as (λ _. Term) [ None ↦ void_below f.spec f.tables f.needs p fs k | Some with ↦ share.below_by f.spec f.tables f.needs p fs p.role k with (gives f.spec f.tables f.needs p fs k) ]
              | Some a ↦ elim q as (λ _. Term) [ None ↦ void_source f.spec f.tables f.needs p fs k a | Some with ↦ source_term f.spec f.tables f.needs p fs k with a ]
            ]) its_with
            ∙ ap (λ t. elim (listed_at f.spec f.tables k.pairs p.left) as (λ _. Term) [
              | None ↦ the_below
              | Some a ↦ if shield_at f.spec f.tables k p.left then Single k.number with.single (Read 0 (Written a)) else Comb k.number with.comb (Single k.number with.single (Read 0 (Written a))) t
            ]) below-is

        at-node : given_by (weight_term f.spec f.tables f.needs p fs k) ≡ carry.carried f x A n (Con k.number)
        at-node =
            ap given_by term-is
            ∙ node-value (listed_at f.spec f.tables k.pairs p.left) refl (shield_at f.spec f.tables k p.left) refl
            ∙ sym weight-by ∙ sym (con-node f is x are A k numbered with its_with n w p o stands)

      -- at a cell
      at-cell : (of : IsCellOfList f.rules f.shapes x.written x.flat x.node_of n w) → given_by (weight_term f.spec f.tables f.needs p fs k) ≡ carry.carried f x A n (Con k.number)
      at-cell of =
          ap given_by (ap (λ (l : Option ℕ). elim l as (λ _. Term) [
            | None ↦ below_term f.spec f.tables f.needs p fs k
            | Some a ↦ elim k.with as (λ _. Term) [ None ↦ void_source f.spec f.tables f.needs p fs k a | Some with ↦ source_term f.spec f.tables f.needs p fs k with a ]
          ]) (ap listed_of none) ∙ below-is)
          ∙ given-made p.role (gives f.spec f.tables f.needs p fs k)
          ∙ cell-below f is x are A k numbered with its_with B n w p o r fs (λ chain. nothing) by_rule 0 (origin-is f is x are n w role)
          (λ j y right has. carried-child f is x are A n p o r fs (Con k.number) j y right has) (below-wanted (ap (λ q. not (shield_of q)) none)) holds of
          ∙ sym (con-cell f is x are A k numbered with its_with n w p o of)
        where
          none : slice_get f.tables.symbols p.left ≡ None
          none = by (slice_get f.tables.symbols p.left) refl
            where
              by : (q : Option ℕ) → slice_get f.tables.symbols p.left ≡ q → q ≡ None
              by None e = refl
              by (Some s) e = let past = (cell-at f is x are n w p o of).past in let below = slice_get_within f.tables.symbols p.left s e in absurd (omega (arith, past, below))

      with-value : given_by (weight_term f.spec f.tables f.needs p fs k) ≡ carry.carried f x A n (Con k.number)
      with-value = elim role [ inl stands ↦ at-node stands | inr of ↦ at-cell of ]

    -- without a WITH
    module _ (none : k.with ≡ None) (w : ℕ) where
      void-value : (l : Option ℕ)
          → given_by (elim l as (λ _. Term) [ None ↦ void_below f.spec f.tables f.needs p fs k | Some a ↦ void_source f.spec f.tables f.needs p fs k a ]) ≡ Void
      void-value None = refl
      void-value (Some a) = refl

      carried-void : HasRole f.rules f.shapes x.written x.flat x.node_of n w → carry.carried f x A n (Con k.number) ≡ Void
      carried-void (inl stands) = carried-node f is x are A n w p o stands (Con k.number) ∙ by-none f is x are A k numbered none (carry.weight f x A w)
      carried-void (inr of) = carried-cell f is x are A n w p o of (Con k.number) ∙ by-none f is x are A k numbered none (carry.gathered f x A w of.rest)

      none-value : HasRole f.rules f.shapes x.written x.flat x.node_of n w → given_by (weight_term f.spec f.tables f.needs p fs k) ≡ carry.carried f x A n (Con k.number)
      none-value role =
          ap given_by (ap (λ (q : Option With). elim (listed_at f.spec f.tables k.pairs p.left) as (λ _. Term) [
            | None ↦ elim q as (λ _. Term) [ None ↦ void_below f.spec f.tables f.needs p fs k | Some with ↦ share.below_by f.spec f.tables f.needs p fs p.role k with (gives f.spec f.tables f.needs p fs k) ]
            | Some a ↦ elim q as (λ _. Term) [ None ↦ void_source f.spec f.tables f.needs p fs k a | Some with ↦ source_term f.spec f.tables f.needs p fs k with a ]
          ]) none)
          ∙ void-value (listed_at f.spec f.tables k.pairs p.left) ∙ sym (carried-void role)

    weight-holds : Holds f x (carry.carry f x A) n r p fs 0 (Con k.number) (weight_term f.spec f.tables f.needs p fs k)
    weight-holds = carried-at f is x are A n p o (Con k.number) has ∙ ap (λ v. Some v) (sym (by k.with refl))
      where
        by : (q : Option With) → k.with ≡ q → given_by (weight_term f.spec f.tables f.needs p fs k) ≡ carry.carried f x A n (Con k.number)
        by None e = let (w, role) = role-of f is x are n p o in none-value e w role
        by (Some with) e = let (w, role) = role-of f is x are n p o in with-value with e w role

pub constituents-hold : (f : Flattening) → IsFlattening f → (x : Trees) → AreTrees f x → (A : Assignment) → (n : ℕ) (r : RuleItem) (p : PlainRule) (fs : List Force) → IsRuleAt f x n r p fs
    → (j : ℕ) (s : Slot) (e : Term) → ConstituentsShare f.spec f.tables f.needs p fs j s e → Holds f x (carry.carry f x A) n r p fs j s e
constituents-hold f is x are A n r p fs at _ _ _ (gathered k numbered holds) = weight-holds f is x are A k numbered n r p fs at holds
