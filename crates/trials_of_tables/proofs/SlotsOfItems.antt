-- The attributes of each symbol of counted items.
use Rattle.std.specs.Prelude.{◌≡◌, ◌↔◌, ℕ, zero, suc, ◌<◌, Bool, true, false, not, ◌&&◌, nat_eq, IsTrue, [], ◌∷◌, Some, None, slice_get, length, Contains, AllPairs, refl}
use Rattle.std.specs.List.{AllByRecursion, list_any}
use Rattle.std.proofs.Common.{ap, sym, subst, ◌∙◌, arith, inl, inr}
use Rattle.std.proofs.lemmas.Option.{none-some, same_Some}
use Rattle.std.proofs.lemmas.Bool.{ne_eqb}
use Rattle.lido_base.specs.Tree.{contains}
use Rattle.lido_base.specs.Reach.{source, edge}
use Rattle.lido_syntax.specs.declared.spec.Cons.{Cons}
use Rattle.lido_syntax.specs.declared.spec.RuleItem.{RuleItem}
use Rattle.lido_syntax.specs.declared.spec.Place.TheVariants as place
use Rattle.lido_syntax.specs.Production.{left_of}
use Rattle.lido_syntax.specs.Sets.{Sets}
use Rattle.lido_syntax.specs.Symbols.{IsRoot, IsNonterminal}
use Rattle.lido_syntax.specs.Attributes.{Has}
use Rattle.lido_syntax.specs.Attributes as attributes
use Rattle.lido_syntax.specs.Computation.{messages_of}
use Rattle.trials_of_grammar.proofs.Finite.{pairs-of}
use Rattle.trials_of_syntax.proofs.Members.{every}
use Rattle.rule_tables.specs.PlainRules.{PlainRule, is_child}
use Rattle.rule_tables.specs.Needs.{Tables, Needs, rules, uses_including, passes_including, NeedsIncluding, IsWanted, NeedsChain, uses_constituents, shield_at, uses_chain, passes_chain}
use Rattle.rule_tables.specs.Slots.{Slot, Written, Inc, Con, Front, Behind, Msg, Out, HasSlot, AreSlots, IsBefore, has_con, chains}
use Rattle.trials_of_tables.specs.CountedItems.{spec, tables, symbols, cell, Num, Counted, Top, Item, b, t, no, pairs, sum, give_b, give_t, top_rule, item_rule, class_item, is_below, slots}
use Rattle.trials_of_tables.specs.Writing.{name}
use Rattle.trials_of_tables.proofs.NoFaultLemmas.{each_rule, its_root}
use Rattle.trials_of_tables.proofs.ItemsLemmas.{item_needs, cell_needs, item_wanted, cell_wanted, item_reaches, cell_reaches, item_chain, cell_chain}
use Rattle.trials_of_tables.proofs.InForceLemmas.{top_has, item_has, symbol_of}

-- two tests of one thing agree
agrees : {P : Type 0} (x y : Bool) → (IsTrue x ↔ P) → (IsTrue y → P) → (P → IsTrue y) → x ≡ y
agrees true true a f g = refl
agrees false false a f g = refl
agrees true false a f g = sym (g (a.0 refl))
agrees false true a f g = a.1 (f refl)

pub top_has_b : Has spec Top b
top_has_b = inl (attributes.by_name give_b (name 177 Top) None (inl (top_rule, (0, omega arith, refl), (0, omega arith, refl))) (name 181 b, (0, omega arith, refl), refl, (λ h. cc)) refl)

pub item_has_t : Has spec Item t
item_has_t = inr (Counted, source refl, attributes.in_body give_t place.Synt (class_item, (0, omega arith, refl), refl, (0, omega arith, refl)) (name 80 t, (0, omega arith, refl), refl, (λ h. cc)) tt)

-- numbers from 5 on are none of the symbols
off : (k x : ℕ) → k < 5 → nat_eq k (suc (suc (suc (suc (suc x))))) ≡ false
off k x l = ne_eqb k (suc (suc (suc (suc (suc x))))) (λ e. omega (arith, e, l))

off' : (k x : ℕ) → k < 5 → nat_eq (suc (suc (suc (suc (suc x))))) k ≡ false
off' k x l = ne_eqb (suc (suc (suc (suc (suc x))))) k (λ e. omega (arith, e, l))

module _ (sets : Sets spec) (needs : Needs spec (tables sets)) where
  abbrev T : Tables spec
  T = tables sets

  below : (x : ℕ) → IsTrue (is_below x) → (P : ℕ → Type 0) → P Item → P cell → P x
  below zero h P p q = cc
  below (suc zero) h P p q = cc
  below (suc (suc zero)) h P p q = cc
  below (suc (suc (suc zero))) h P p q = p
  below (suc (suc (suc (suc zero)))) h P p q = q
  below (suc (suc (suc (suc (suc x))))) h P p q = cc

  -- INCLUDING
  no_use : (x : ℕ) → uses_including spec T pairs (suc (suc (suc (suc (suc x))))) ≡ false
  no_use x = rw (off 2 x (omega arith), off 3 x (omega arith)) refl

  no_pass : (x c : ℕ) → passes_including spec T pairs (suc (suc (suc (suc (suc x))))) c ≡ false
  no_pass x c = rw (off 2 x (omega arith), off 3 x (omega arith), off 4 x (omega arith)) refl

  includes_only : (x : ℕ) → NeedsIncluding spec T pairs x → IsTrue (is_below x)
  includes_only zero (source h) = cc
  includes_only zero (edge h r) = cc
  includes_only (suc zero) (source h) = cc
  includes_only (suc zero) (edge h r) = cc
  includes_only (suc (suc zero)) (source h) = cc
  includes_only (suc (suc zero)) (edge h r) = cc
  includes_only (suc (suc (suc zero))) h = refl
  includes_only (suc (suc (suc (suc zero)))) h = refl
  includes_only (suc (suc (suc (suc (suc x))))) (source h) = sym (no_use x) ∙ h
  includes_only (suc (suc (suc (suc (suc x))))) (edge {c = c} h r) = sym (no_pass x c) ∙ h

  pub including : (x : ℕ) → needs.including pairs x ≡ is_below x
  including x = agrees (needs.including pairs x) (is_below x) (needs.including_exactly pairs x) (λ h. below x h (NeedsIncluding spec T pairs) (item_needs sets) (cell_needs sets)) (includes_only x)

  -- CHAIN
  no_chain_use : (x : ℕ) → uses_chain spec T no (suc (suc (suc (suc (suc x))))) ≡ false
  no_chain_use x = rw (off 2 x (omega arith), off 3 x (omega arith)) refl

  no_chain_pass : (x c : ℕ) → passes_chain spec T no (suc (suc (suc (suc (suc x))))) c ≡ false
  no_chain_pass x c = rw (off 2 x (omega arith), off 3 x (omega arith), off 4 x (omega arith)) refl

  chains_only : (x : ℕ) → NeedsChain spec T no x → IsTrue (is_below x)
  chains_only zero (source h) = cc
  chains_only zero (edge h r) = cc
  chains_only (suc zero) (source h) = cc
  chains_only (suc zero) (edge h r) = cc
  chains_only (suc (suc zero)) (source h) = cc
  chains_only (suc (suc zero)) (edge h r) = cc
  chains_only (suc (suc (suc zero))) h = refl
  chains_only (suc (suc (suc (suc zero)))) h = refl
  chains_only (suc (suc (suc (suc (suc x))))) (source h) = sym (no_chain_use x) ∙ h
  chains_only (suc (suc (suc (suc (suc x))))) (edge {c = c} h r) = sym (no_chain_pass x c) ∙ h

  pub chain : (x : ℕ) → needs.chain no x ≡ is_below x
  chain x = agrees (needs.chain no x) (is_below x) (needs.chain_exactly no x) (λ h. below x h (NeedsChain spec T no) (item_chain sets) (cell_chain sets)) (chains_only x)

  -- CONSTITUENTS
  abbrev IsEdge : ℕ → ℕ → Bool
  IsEdge y x = is_child (rules spec T) x y && not (shield_at spec T sum x)

  none_above_0 : (x : ℕ) → IsEdge 0 x ≡ false
  none_above_0 zero = refl
  none_above_0 (suc zero) = refl
  none_above_0 (suc (suc zero)) = refl
  none_above_0 (suc (suc (suc zero))) = refl
  none_above_0 (suc (suc (suc (suc zero)))) = refl
  none_above_0 (suc (suc (suc (suc (suc x))))) = rw (off 2 x (omega arith), off 3 x (omega arith), off 4 x (omega arith)) refl

  none_above_1 : (x : ℕ) → IsEdge 1 x ≡ false
  none_above_1 zero = refl
  none_above_1 (suc zero) = refl
  none_above_1 (suc (suc zero)) = refl
  none_above_1 (suc (suc (suc zero))) = refl
  none_above_1 (suc (suc (suc (suc zero)))) = refl
  none_above_1 (suc (suc (suc (suc (suc x))))) = rw (off 2 x (omega arith), off 3 x (omega arith), off 4 x (omega arith)) refl

  none_above_2 : (x : ℕ) → IsEdge 2 x ≡ false
  none_above_2 zero = refl
  none_above_2 (suc zero) = refl
  none_above_2 (suc (suc zero)) = refl
  none_above_2 (suc (suc (suc zero))) = refl
  none_above_2 (suc (suc (suc (suc zero)))) = refl
  none_above_2 (suc (suc (suc (suc (suc x))))) = rw (off 2 x (omega arith), off 3 x (omega arith), off 4 x (omega arith)) refl

  none_at : (y x : ℕ) → IsEdge (suc (suc (suc (suc (suc y))))) x ≡ false
  none_at y zero = refl
  none_at y (suc zero) = refl
  none_at y (suc (suc zero)) = rw (off' 4 y (omega arith)) refl
  none_at y (suc (suc (suc zero))) = rw (off' 0 y (omega arith)) refl
  none_at y (suc (suc (suc (suc zero)))) = rw (off' 3 y (omega arith), off' 4 y (omega arith)) refl
  none_at y (suc (suc (suc (suc (suc x))))) = rw (off 2 x (omega arith), off 3 x (omega arith), off 4 x (omega arith)) refl

  no_source : (x : ℕ) → list_any (λ (p : PlainRule). contains (suc (suc (suc (suc (suc x))))) p.right && uses_constituents spec T sum p.left) (rules spec T) ≡ false
  no_source x = rw (off' 0 x (omega arith), off' 3 x (omega arith), off' 4 x (omega arith)) refl

  wants_only : (x : ℕ) → IsWanted spec T sum x → IsTrue (is_below x)
  wants_only zero (source h) = cc
  wants_only zero (edge {c = c} h r) = sym (none_above_0 c) ∙ h
  wants_only (suc zero) (source h) = cc
  wants_only (suc zero) (edge {c = c} h r) = sym (none_above_1 c) ∙ h
  wants_only (suc (suc zero)) (source h) = cc
  wants_only (suc (suc zero)) (edge {c = c} h r) = sym (none_above_2 c) ∙ h
  wants_only (suc (suc (suc zero))) h = refl
  wants_only (suc (suc (suc (suc zero)))) h = refl
  wants_only (suc (suc (suc (suc (suc x))))) (source h) = sym (no_source x) ∙ h
  wants_only (suc (suc (suc (suc (suc x))))) (edge {c = c} h r) = sym (none_at x c) ∙ h

  pub wanted : (x : ℕ) → needs.wanted sum x ≡ is_below x
  wanted x = agrees (needs.wanted sum x) (is_below x) (needs.wanted_exactly sum x) (λ h. below x h (IsWanted spec T sum) (item_wanted sets) (cell_wanted sets)) (wants_only x)

  pub reaches : (x : ℕ) → IsTrue (is_below x) → needs.reaches sum x ≡ true
  reaches x h = below x h (λ x. needs.reaches sum x ≡ true) ((needs.reaches_exactly sum Item).1 (item_reaches sets)) ((needs.reaches_exactly sum cell).1 (cell_reaches sets))

  pub con : (x : ℕ) → has_con spec T needs sum x ≡ is_below x
  con x = ap (λ w. w && needs.reaches sum x) (wanted x) ∙ go (is_below x) (reaches x)
    where
      go : (w : Bool) → (IsTrue w → needs.reaches sum x ≡ true) → (w && needs.reaches sum x) ≡ w
      go true h = h refl
      go false h = refl

  -- the attributes of each symbol
  con_is : (k : Cons) → Contains (sum ∷ []) k → k ≡ sum
  con_is k m = every (λ l. l ≡ sum) (sum ∷ []) (refl, tt) k m

  chain_is : (c : ℕ) → Contains (no ∷ []) c → c ≡ no
  chain_is c m = every (λ d. d ≡ no) (no ∷ []) (refl, tt) c m

  has_inc : (x : ℕ) → IsTrue (is_below x) → HasSlot spec T needs x (Inc 0)
  has_inc x h = (pairs, refl, including x ∙ h)

  has_its_con : (x : ℕ) → IsTrue (is_below x) → HasSlot spec T needs x (Con 4)
  has_its_con x h = (sum, (0, omega arith, refl), refl, con x ∙ h)

  has_chain : (x : ℕ) → IsTrue (is_below x) → Contains (chains spec T needs) no × IsTrue (needs.chain no x)
  has_chain x h = ((0, omega arith, refl), chain x ∙ h)

  has_message : HasSlot spec T needs Item (Msg 1)
  has_message = (Item, refl, (item_rule, (1, omega arith, refl), refl, omega arith))

  there : (x : ℕ) → AllByRecursion (HasSlot spec T needs x) (slots x)
  there zero = tt
  there (suc zero) = tt
  there (suc (suc zero)) = ((Top, refl, refl, top_has_b), ((Top, refl, its_root), tt))
  there (suc (suc (suc zero))) = ((Item, refl, refl, item_has_t), (has_inc Item refl, (has_its_con Item refl, (has_chain Item refl, (has_chain Item refl, (has_message, tt))))))
  there (suc (suc (suc (suc zero)))) = (has_inc cell refl, (has_its_con cell refl, (has_chain cell refl, (has_chain cell refl, tt))))
  there (suc (suc (suc (suc (suc x))))) = tt

  written_at : (x s a : ℕ) → slice_get symbols x ≡ Some s → IsNonterminal spec s → Has spec s a → Contains (slots x) (Written a)
  written_at zero s a e n h = let wrong : IsNonterminal spec Num = subst (IsNonterminal spec) (sym (same_Some _ _ e)) n in cc
  written_at (suc zero) s a e n h = let wrong : IsNonterminal spec Counted = subst (IsNonterminal spec) (sym (same_Some _ _ e)) n in cc
  written_at (suc (suc zero)) s a e n h = subst (λ d. Contains (slots 2) (Written d)) (sym (top_has a (subst (λ s. Has spec s a) (sym (same_Some _ _ e)) h))) (0, omega arith, refl)
  written_at (suc (suc (suc zero))) s a e n h = subst (λ d. Contains (slots 3) (Written d)) (sym (item_has a (subst (λ s. Has spec s a) (sym (same_Some _ _ e)) h))) (0, omega arith, refl)
  written_at (suc (suc (suc (suc x)))) s a e n h = absurd (none-some _ e)

  -- Item's rule alone has a message, and one
  abbrev IsOfMessage : ℕ → RuleItem → Type 0
  IsOfMessage j r = j < length (messages_of r) → (left_of r ≡ Item) × (j ≡ 0)

  one_message : (j : ℕ) (r : RuleItem) → Contains spec.rules r → IsOfMessage j r
  one_message j = each_rule (IsOfMessage j) (λ h. absurd (omega (arith, h))) (λ h. (refl, omega (arith, h)))

  only : (x : ℕ) (s : Slot) → HasSlot spec T needs x s → Contains (slots x) s
  only x (Written a) (s, e, n, h) = written_at x s a e n h
  only x (Inc zero) (ps, e, h) = below x (sym (including x) ∙ subst (λ q. IsTrue (needs.including q x)) (sym (same_Some _ _ e)) h) (λ y. Contains (slots y) (Inc 0)) (1, omega arith, refl) (0, omega arith, refl)
  only x (Inc (suc i)) (ps, e, h) = absurd (none-some _ e)
  only x (Con n) (k, m, e, h) =
      let f : k ≡ sum = con_is k m in
      subst (λ d. Contains (slots x) (Con d)) (ap (λ (l : Cons). l.number) (sym f) ∙ e)
      (below x (sym (con x) ∙ subst (λ l. IsTrue (has_con spec T needs l x)) f h) (λ y. Contains (slots y) (Con 4)) (2, omega arith, refl) (1, omega arith, refl))
  only x (Front c) (m, h) =
      let f : c ≡ no = chain_is c m in
      subst (λ d. Contains (slots x) (Front d)) (sym f) (below x (sym (chain x) ∙ subst (λ d. IsTrue (needs.chain d x)) f h) (λ y. Contains (slots y) (Front no)) (3, omega arith, refl) (2, omega arith, refl))
  only x (Behind c) (m, h) =
      let f : c ≡ no = chain_is c m in
      subst (λ d. Contains (slots x) (Behind d)) (sym f) (below x (sym (chain x) ∙ subst (λ d. IsTrue (needs.chain d x)) f h) (λ y. Contains (slots y) (Behind no)) (4, omega arith, refl) (3, omega arith, refl))
  only x (Msg zero) (s, e, h) = absurd h
  only x (Msg (suc j)) (s, e, (r, m, f, l)) =
      let k = one_message j r m l in
      let at : x ≡ Item = symbol_of sets x s e ∙ sym f ∙ k.0 in
      rw (at, k.1) (5, omega arith, refl)
  only x Out (s, e, r) = go x e
    where
      go : (x : ℕ) → slice_get symbols x ≡ Some s → Contains (slots x) Out
      go zero e = let wrong = (subst (IsRoot spec) (sym (same_Some _ _ e)) r).0 in cc
      go (suc zero) e = let wrong = (subst (IsRoot spec) (sym (same_Some _ _ e)) r).0 in cc
      go (suc (suc zero)) e = (1, omega arith, refl)
      go (suc (suc (suc zero))) e = absurd ((subst (IsRoot spec) (sym (same_Some _ _ e)) r).1 refl)
      go (suc (suc (suc (suc x)))) e = absurd (none-some _ e)

  abbrev B : Slot → Slot → Type 0
  B = IsBefore spec T needs

  ordered : (x : ℕ) → AllPairs B (slots x)
  ordered zero = pairs-of B [] tt
  ordered (suc zero) = pairs-of B [] tt
  ordered (suc (suc zero)) = pairs-of B (slots 2) ((inl (omega arith), tt), (tt, tt))
  ordered (suc (suc (suc zero))) = pairs-of B (slots 3) ((inl (omega arith), (inl (omega arith), (inl (omega arith), (inl (omega arith), (inl (omega arith), tt))))), ((inl (omega arith), (inl (omega arith), (inl (omega arith), (inl (omega arith), tt)))), ((inl (omega arith), (inl (omega arith), (inl (omega arith), tt))), ((inr (refl, omega arith), (inl (omega arith), tt)), ((inl (omega arith), tt), (tt, tt))))))
  ordered (suc (suc (suc (suc zero)))) = pairs-of B (slots 4) ((inl (omega arith), (inl (omega arith), (inl (omega arith), tt))), ((inl (omega arith), (inl (omega arith), tt)), ((inr (refl, omega arith), tt), (tt, tt))))
  ordered (suc (suc (suc (suc (suc x))))) = pairs-of B [] tt

  pub are_slots : AreSlots spec T needs slots
  are_slots = record { all = λ x s. (every (HasSlot spec T needs x) (slots x) (there x) s, only x s); in_order = ordered }
