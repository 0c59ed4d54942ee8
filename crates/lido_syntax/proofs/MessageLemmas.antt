-- The messages of a tree are those in force, and an attributed tree has one output, one text of notes and one result.
use Rattle.std.specs.Prelude.{Contains, slice_get, Option, Some, None, option_map, option_and_then, Result, Ok, Err}
use Rattle.std.specs.Option.{option_map_or}
use Rattle.std.specs.List.{AllZip, concat, range_with_len}
use Rattle.std.proofs.Common.{◌≡◌, ℕ, zero, suc, ◌<◌, ◌≤◌, ◌+◌, inl, inr, ◌⊎◌, List, [], ◌∷◌, length, map, refl, arith, ap, subst, sym, ◌∙◌}
use Rattle.std.proofs.lemmas.Bool.{cases_lt}
use Rattle.lido_base.specs.declared.value.Origin.{Origin}
use Rattle.lido_base.specs.Environment.{Environment}
use Rattle.lido_base.specs.Plain.{Plain, Void, Str, Text}
use Rattle.lido_base.specs.Operations.{chosen}
use Rattle.lido_base.specs.Tree.{Tree, Node, rule_at}
use Rattle.lido_base.proofs.Lists.{contains-here, contains-later, map-contains, contains-map, flat-contains, contains-flat, contains-place, place-contains}
use Rattle.lido_base.proofs.OriginsLemmas.{antisymmetric}
use Rattle.lido_syntax.specs.declared.spec.Spec.{Spec}
use Rattle.lido_syntax.specs.declared.spec.Comp.{Comp}
use Rattle.lido_syntax.specs.declared.spec.RuleItem.{RuleItem}
use Rattle.lido_syntax.specs.Assignment.{Assignment}
use Rattle.lido_syntax.specs.Production.{left_of}
use Rattle.lido_syntax.specs.Sets.{Sets}
use Rattle.lido_syntax.specs.Completeness.{IsSingle}
use Rattle.lido_syntax.specs.Computation.{Holder, by_rule, Message, Output, messages_of, InForce, of_rule, of_symbol, of_class}
use Rattle.lido_syntax.specs.Nodes.{InForceAt}
use Rattle.lido_syntax.specs.Chains.{IsValue}
use Rattle.lido_syntax.specs.Messages.{IsMessage, unconditional, conditional, IsNote, silent, written, AreNotes, all_messages, message_bytes}
use Rattle.lido_syntax.specs.Output.{IsOutput, WentWrong, IsResult}
use Rattle.lido_syntax.proofs.ChainsLemmas.{one_value, same_in_force}
use Rattle.lido_syntax.proofs.DecidedLemmas.{from_message, message_within, message_target}

range-contains : (a k n : ℕ) → a ≤ n → n < a + k → Contains (range_with_len a k) n
range-contains a zero n h l = absurd (omega (arith, h, l))
range-contains a (suc k) n h l = go (cases_lt a n) (λ m. range-contains (a + 1) k n (omega (arith, m)) (omega (arith, l)))
  where
    go : (a < n) ⊎ (n ≤ a) → (a < n → Contains (range_with_len (a + 1) k) n) → Contains (a ∷ range_with_len (a + 1) k) n
    go (inl m) later = contains-later a n (range_with_len (a + 1) k) (later m)
    go (inr m) later = let same : a ≡ n = omega (arith, h, m) in subst (λ n. Contains (a ∷ range_with_len (a + 1) k) n) same (contains-here a (range_with_len (a + 1) k))

inside : (t : Tree Plain) (n i : ℕ) → option_map (λ (node : Node Plain). node.rule) (slice_get t n) ≡ Some i → n < length t
inside [] n i e = cc
inside (x ∷ t) zero i e = omega arith
inside (x ∷ t) (suc n) i e = let more = inside t n i e in omega (arith, more)

module _ (spec : Spec) (t : Tree Plain) where
  abbrev messages_at : ℕ → List Comp
  messages_at n = option_map_or messages_of (option_and_then (slice_get spec.rules) (rule_at t n)) []

  of_a_rule : (r : RuleItem) (k s j : ℕ) (h : Holder) (c : Comp) → InForce spec r k s (Message j) h c → h ≡ by_rule → Contains (messages_of r) c
  of_a_rule r k s j _ c (of_rule is a) e = let found = from_message spec r c c.target k j a.1 in place-contains (messages_of r) found.0 c found.3
  of_a_rule r k s j _ c (of_symbol is none a) e = cc
  of_a_rule r k s j _ c (of_class class is none own left one a) e = cc

  pub message_listed : (n j : ℕ) (c : Comp) → InForceAt spec t n (Message j) by_rule c → Contains (all_messages spec t) (n, c)
  message_listed n j c (r, (i, e, f), force) =
      let node : Contains (range_with_len 0 (length t)) n = range-contains 0 (length t) n (omega arith) (omega (arith, inside t n i e)) in
      let found : Contains (messages_at n) c = rw (e, f) (of_a_rule r 0 (left_of r) j by_rule c force refl) in
      flat-contains (λ n. map (λ c. (n, c)) (messages_at n)) (range_with_len 0 (length t)) n (n, c) node (map-contains (λ c. (n, c)) (messages_at n) c found)

  in_force_by : (n : ℕ) (c : Comp) (o : Option ℕ) → rule_at t n ≡ o → (q : Option RuleItem) → option_and_then (slice_get spec.rules) o ≡ q → Contains (option_map_or messages_of q []) c → (j : ℕ) × InForceAt spec t n (Message j) by_rule c
  in_force_by n c o e None f m = absurd (omega (arith, m.1))
  in_force_by n c None e (Some r) f m = cc
  in_force_by n c (Some i) e (Some r) f m =
      let place = contains-place (messages_of r) c m in
      let is = message_within spec r.body place.0 c place.1 in
      (suc place.0, (r, (i, e, f), of_rule (refl, tt) (is.0, message_target spec r c place.0 place.1 c.target refl is.1)))

  pub listed_in_force : (n : ℕ) (c : Comp) → Contains (all_messages spec t) (n, c) → (j : ℕ) × InForceAt spec t n (Message j) by_rule c
  listed_in_force n c m =
      let at = contains-flat (λ n. map (λ c. (n, c)) (messages_at n)) (range_with_len 0 (length t)) (n, c) m in
      let of = contains-map (λ c. (at.0, c)) (messages_at at.0) (n, c) at.2 in
      let same_node : at.0 ≡ n = λ i. (of.2 i).0 in
      let same_comp : of.0 ≡ c = λ i. (of.2 i).1 in
      in_force_by n c (rule_at t n) refl (option_and_then (slice_get spec.rules) (rule_at t n)) refl (subst (λ n. Contains (messages_at n) c) same_node (subst (λ c. Contains (messages_at at.0) c) same_comp of.1))

module _ (spec : Spec) (single : IsSingle spec) (sets : Sets spec) (env : Environment) (t : Tree Plain) (A : Assignment) where
  pub one_message : (n : ℕ) (c : Comp) (v w : Plain) → IsMessage spec sets env t A n c v → IsMessage spec sets env t A n c w → v ≡ w
  one_message n c v w (unconditional e x) (unconditional f y) = one_value spec single sets env t A n by_rule c.number c.value v w x y
  one_message n c v _ (unconditional e x) (conditional f y z) = cc
  one_message n c _ w (conditional e x y) (unconditional f z) = cc
  one_message n c _ _ (conditional {e = a} {condition = p} {text = u} e x y) (conditional {e = b} {condition = q} {text = v} f z w) =
      let same : a ≡ b = cc in
      let conditions : p ≡ q = one_value spec single sets env t A n by_rule c.number b p q (subst (λ a. IsValue spec sets env t A n by_rule c.number a p) same x) z in
      let texts : u ≡ v = one_value spec single sets env t A n by_rule c.number c.value u v y w in
      λ i. chosen (conditions i ∷ texts i ∷ Void ∷ [])

  one_note : (n : ℕ) (c : Comp) (x y : List ℕ) → IsNote spec sets env t A n c x → IsNote spec sets env t A n c y → x ≡ y
  one_note n c _ _ (silent a) (silent b) = refl
  one_note n c _ _ (silent a) (written {text = u} e b) = let wrong : Void ≡ Str u = one_message n c Void (Str u) a b in cc
  one_note n c _ _ (written {text = u} e a) (silent b) = let wrong : Str u ≡ Void = one_message n c (Str u) Void a b in cc
  one_note n c _ _ (written {s = s} {text = u} e a) (written {s = q} {text = v} f b) =
      let both : Str u ≡ Str v = one_message n c (Str u) (Str v) a b in
      let texts : u ≡ v = cc in
      let severities : s ≡ q = cc in
      λ i. message_bytes spec t n (severities i) (texts i)

  one_row : (ms : List (ℕ × Comp)) (xs ys : List (List ℕ)) → AllZip (λ (m : ℕ × Comp) piece. IsNote spec sets env t A m.0 m.1 piece) ms xs → AllZip (λ (m : ℕ × Comp) piece. IsNote spec sets env t A m.0 m.1 piece) ms ys → xs ≡ ys
  one_row [] [] [] a b = refl
  one_row [] [] (y ∷ ys) a b = absurd b
  one_row [] (x ∷ xs) ys a b = absurd a
  one_row (m ∷ ms) [] ys a b = absurd a
  one_row (m ∷ ms) (x ∷ xs) [] a b = absurd b
  one_row (m ∷ ms) (x ∷ xs) (y ∷ ys) a b = let first = one_note m.0 m.1 x y a.0 b.0 in let more = one_row ms xs ys a.1 b.1 in λ i. first i ∷ more i

  pub one_notes : (x y : List ℕ) → AreNotes spec sets env t A x → AreNotes spec sets env t A y → x ≡ y
  one_notes x y (xs, a, e) (ys, b, f) = e ∙ ap concat (one_row (all_messages spec t) xs ys a b) ∙ sym f

  one_output : (v w : Plain) → IsOutput spec sets env t A v → IsOutput spec sets env t A w → v ≡ w
  one_output v w (inl (c, f, x)) (inl (d, g, y)) =
      let same = same_in_force spec single sets env t A 0 Output by_rule by_rule c d f g in
      one_value spec single sets env t A 0 by_rule d.number d.value v w (subst (λ (c : Comp). IsValue spec sets env t A 0 by_rule c.number c.value v) same.1 x) y
  one_output v w (inl (c, f, x)) (inr b) = absurd (b.0 (by_rule, c, f))
  one_output v w (inr a) (inl (d, g, y)) = absurd (a.0 (by_rule, d, g))
  one_output v w (inr a) (inr b) = a.1 ∙ sym b.1

  pub one_result : (x y : Result (List ℕ × List ℕ) Origin) → IsResult spec sets env t A x → IsResult spec sets env t A y → x ≡ y
  one_result (Ok (u, m)) (Ok (v, n)) a b =
      let texts : Text u ≡ Text v = one_output (Text u) (Text v) a.0 b.0 in
      let outputs : u ≡ v = cc in
      let notes : m ≡ n = one_notes m n a.1 b.1 in
      λ i. Ok (outputs i, notes i)
  one_result (Ok (u, m)) (Err p) a (out, is, wrong, least) = absurd (a.2 p (subst (λ out. WentWrong spec sets env t A out p) (one_output out (Text u) is a.0) wrong))
  one_result (Err o) (Ok (v, n)) (out, is, wrong, least) b = absurd (b.2 o (subst (λ out. WentWrong spec sets env t A out o) (one_output out (Text v) is b.0) wrong))
  one_result (Err o) (Err p) (out, is, wrong, least) (other, is', wrong', least') =
      let same : out ≡ other = one_output out other is is' in
      ap Err (antisymmetric o p (least p (subst (λ out. WentWrong spec sets env t A out p) (sym same) wrong')) (least' o (subst (λ out. WentWrong spec sets env t A out o) same wrong)))
