-- What the evaluation of an expression gives stands for its plain value.
use Rattle.std.specs.Prelude.{slice_get}
use Rattle.std.specs.List.{AllZip}
use Rattle.std.proofs.Common.{◌≡◌, ℕ, zero, suc, List, [], ◌∷◌, ◌++◌, true, false, Option, Some, None, refl, ap, sym, subst, ◌∙◌, append-nil, append_assoc}
use Rattle.lido_base.specs.declared.value.Value.{Value}
use Rattle.lido_base.specs.declared.value.Value.TheVariants as value
use Rattle.lido_base.specs.declared.value.Origin.{Origin}
use Rattle.lido_base.specs.declared.pattern.Pattern.{Pattern}
use Rattle.lido_base.specs.Plain.{Plain, Int, Truth, Void, Bad, plain}
use Rattle.lido_base.specs.Operations.{unless_bad}
use Rattle.string_librarian.specs.Rooms.{RoomState, Deposit, HaveGrown}
use Rattle.value_ops.specs.Outcome.{StandsFor, first_bad}
use Rattle.value_ops.proofs.OutcomeLemmas.{bad_first, none_bad}
use Rattle.value_ops.specs.Results.{IsFamily, StandsAfter}
use Rattle.value_ops.proofs.StandsLemmas.{stands-grows, reading-of, result-stands}
use Rattle.lido_base.specs.Operations.{chosen, last}
use Rattle.lido_base.specs.Environment.{Environment}
use Rattle.lido_base.specs.Tree.{Tree, item_at, coordinate}
use Rattle.flat_grammar.specs.declared.flat.FlatExpr.{FlatExpr, Value as Constant, Terminal, Read, Coord, Apply', If', Order', Row_of-FlatExpr, end_of-FlatExpr, more_of-FlatExpr}
use Rattle.flat_grammar.specs.FlatAttribution.{value_of, values_of, leaf_or}
use Rattle.flat_grammar.specs.WholeOrder.{Instance}
use Rattle.flat_grammar.specs.Instances.{instance_at}
use Rattle.std.specs.Prelude.{unwrap_or, pos}
use Rattle.core_machine.specs.Evaluation.{evaluate, evaluate_all, evaluate_if, evaluate_at, leaf_value, decided, in_turn, last_value}

module _ (texts : List (List ℕ)) (patterns : List Pattern) (number : ℕ) (R : List Deposit → List RoomState) (family : IsFamily number R)
    (t : Tree Value) (p : Tree Plain) (node_of : List ℕ) (origin n : ℕ) (values : Instance → Value) (B : Instance → Plain) (start : List Deposit) where
  abbrev env : Environment
  env = record { texts = texts; patterns = patterns }

  abbrev Good : Value → Plain → Type 0
  Good v q = StandsFor texts patterns (R start) v q

  -- what the expression is made of stands for what it is in plain values, when its evaluation begins
  abbrev mutual
    pub Fine : FlatExpr → Type 0
    Fine (Constant v) = StandsFor texts patterns (R start) v (plain texts v)
    Fine (Terminal k) = StandsFor texts patterns (R start) (leaf_value (item_at t n k)) (leaf_or (item_at p n k))
    Fine (Read o) = StandsFor texts patterns (R start) (values (instance_at t n o)) (B (instance_at p n o))
    Fine (Coord part) = coordinate p origin part ≡ coordinate t origin part
    Fine (Apply' comp op shape args) = AllFine args
    Fine (If' shape args) = AllFine args
    Fine (Order' shape args) = AllFine args

    pub AllFine : {m : _} → Row_of-FlatExpr m → Type 0
    AllFine end_of-FlatExpr = Unit {0}
    AllFine (more_of-FlatExpr e es) = Fine e × AllFine es

  abbrev Gone : List Deposit → Value × List Deposit → Plain → Type 0
  Gone ds a q = StandsAfter texts patterns R ds a q

  record AllGone (ds : List Deposit) (a : List Value × List Deposit) (qs : List Plain) : Type 0 where
    more : List Deposit
    is : a.1 ≡ ds ++ more
    stands : AllZip (StandsFor texts patterns (R a.1)) a.0 qs

  abbrev written : ℕ
  written = unwrap_or (slice_get node_of origin) 0

  abbrev Begun : List Deposit → Type 0
  Begun ds = (more : List Deposit) × (ds ≡ start ++ more)

  begun-more : (ds : List Deposit) (b : Begun ds) (a : List Deposit) (more : List Deposit) → a ≡ ds ++ more → Begun a
  begun-more ds b a more e = (b.0 ++ more, e ∙ (ap (λ l. l ++ more) b.1 ∙ append_assoc start b.0 more))

  as-begun : (ds : List Deposit) → Begun ds → (v : Value) (q : Plain) → StandsFor texts patterns (R start) v q → Gone ds (v, ds) q
  as-begun ds b v q s = record { more = []; is = sym (append-nil ds); stands = stands-grows texts patterns (R start) (R ds) v q (subst (λ l. HaveGrown (R start) (R l)) (sym b.1) (family.grow start b.0)) s }

  further : (ds : List Deposit) (a : Value × List Deposit) (q : Plain) (g : Gone ds a q) (c : Value × List Deposit) (r : Plain) → Gone a.1 c r → Gone ds c r
  further ds a q g c r h = record { more = g.more ++ h.more; is = h.is ∙ (ap (λ l. l ++ h.more) g.is ∙ append_assoc ds g.more h.more); stands = h.stands }

  first-bad : (rooms : List RoomState) (vs : List Value) (qs : List Plain) (o : Origin) (q : Plain) → AllZip (StandsFor texts patterns rooms) vs qs → first_bad vs ≡ Some o → unless_bad qs q ≡ Bad o
  first-bad rooms vs qs o q z e = let r = reading-of texts patterns rooms vs qs z in subst (λ x. unless_bad x q ≡ Bad o) r.is (bad_first texts r.reading vs q o e)

  none-of-bad : (rooms : List RoomState) (vs : List Value) (qs : List Plain) (q : Plain) → AllZip (StandsFor texts patterns rooms) vs qs → first_bad vs ≡ None → unless_bad qs q ≡ q
  none-of-bad rooms vs qs q z e = let r = reading-of texts patterns rooms vs qs z in subst (λ x. unless_bad x q ≡ q) r.is (none_bad texts r.reading vs q e)

  last-stands : (rooms : List RoomState) (vs : List Value) (qs : List Plain) → AllZip (StandsFor texts patterns rooms) vs qs → StandsFor texts patterns rooms (last_value vs) (last qs)
  last-stands rooms [] [] z = refl
  last-stands rooms [] (q ∷ qs) z = absurd z
  last-stands rooms (v ∷ vs) [] z = absurd z
  last-stands rooms (v ∷ []) (q ∷ []) z = z.0
  last-stands rooms (v ∷ []) (q ∷ r ∷ qs) z = absurd z.1
  last-stands rooms (v ∷ w ∷ vs) (q ∷ []) z = absurd z.1
  last-stands rooms (v ∷ w ∷ vs) (q ∷ r ∷ qs) z = last-stands rooms (w ∷ vs) (r ∷ qs) z.1

  turn-stands : (ds : List Deposit) (a : List Value × List Deposit) (qs : List Plain) → AllGone ds a qs → Gone ds (in_turn a) (unless_bad qs (last qs))
  turn-stands ds (vs, room) qs g = go (first_bad vs) refl
    where
      go : (x : Option Origin) → first_bad vs ≡ x → Gone ds (elim x [ None ↦ last_value vs | Some o ↦ value.Bad o ], room) (unless_bad qs (last qs))
      go None e = record { more = g.more; is = g.is; stands = subst (λ z. StandsFor texts patterns (R room) (last_value vs) z) (sym (none-of-bad (R room) vs qs (last qs) g.stands e)) (last-stands (R room) vs qs g.stands) }
      go (Some o) e = record { more = g.more; is = g.is; stands = first-bad (R room) vs qs o (last qs) g.stands e }

  abbrev Branches : List Plain → (ℕ → List Deposit → Value × List Deposit) → Type 0
  Branches qs branch = (k : ℕ) (ds : List Deposit) → Begun ds → Gone ds (branch k ds) (unwrap_or (slice_get qs k) Void)

  -- the chosen branch of an IF, once the condition has its value
  decided-stands : (ds : List Deposit) (b : Begun ds) (a : Value × List Deposit) (c : Plain) (qs : List Plain) (branch : ℕ → List Deposit → Value × List Deposit) → Gone ds a c → Branches qs branch → Gone ds (decided branch a) (chosen (c ∷ qs))
  decided-stands ds b (value.Bad o, room) c qs branch g h = record { more = g.more; is = g.is; stands = ap (λ z. chosen (z ∷ qs)) g.stands }
  decided-stands ds b (value.Int z, room) c qs branch g h = record { more = g.more; is = g.is; stands = ap (λ z. chosen (z ∷ qs)) g.stands }
  decided-stands ds b (value.Str s, room) c qs branch g h = record { more = g.more; is = g.is; stands = ap (λ z. chosen (z ∷ qs)) g.stands }
  decided-stands ds b (value.Text d, room) c qs branch g h = record { more = g.more; is = g.is; stands = ap (λ z. chosen (z ∷ qs)) g.stands.2 }
  decided-stands ds b (value.Void, room) c qs branch g h = record { more = g.more; is = g.is; stands = ap (λ z. chosen (z ∷ qs)) g.stands }
  decided-stands ds b (value.Bool true, room) c qs branch g h =
      let x = further ds (value.Bool true, room) c g (branch 0 room) (unwrap_or (slice_get qs 0) Void) (h 0 room (begun-more ds b room g.more g.is)) in
      subst (λ z. Gone ds (branch 0 room) z) (yes-branch qs ∙ ap (λ z. chosen (z ∷ qs)) (sym g.stands)) x
    where
      yes-branch : (qs : List Plain) → unwrap_or (slice_get qs 0) Void ≡ chosen (Truth true ∷ qs)
      yes-branch [] = refl
      yes-branch (q ∷ qs) = refl
  decided-stands ds b (value.Bool false, room) c qs branch g h =
      let x = further ds (value.Bool false, room) c g (branch 1 room) (unwrap_or (slice_get qs 1) Void) (h 1 room (begun-more ds b room g.more g.is)) in
      subst (λ z. Gone ds (branch 1 room) z) (no-branch qs ∙ ap (λ z. chosen (z ∷ qs)) (sym g.stands)) x
    where
      no-branch : (qs : List Plain) → unwrap_or (slice_get qs 1) Void ≡ chosen (Truth false ∷ qs)
      no-branch [] = refl
      no-branch (q ∷ []) = refl
      no-branch (q ∷ r ∷ qs) = refl

  mutual
    pub evaluate-stands : (e : FlatExpr) (ds : List Deposit) → Begun ds → Fine e → Gone ds (evaluate texts patterns number t written origin n values e ds) (value_of env p node_of B origin n e)
    evaluate-stands (Constant v) ds b f = as-begun ds b v (plain texts v) f
    evaluate-stands (Terminal k) ds b f = as-begun ds b (leaf_value (item_at t n k)) (leaf_or (item_at p n k)) f
    evaluate-stands (Read o) ds b f = as-begun ds b (values (instance_at t n o)) (B (instance_at p n o)) f
    evaluate-stands (Coord part) ds b f = as-begun ds b (value.Int (pos (coordinate t origin part))) (Int (pos (coordinate p origin part))) (ap (λ k. Int (pos k)) f)
    evaluate-stands (Apply' comp o shape args) ds b f =
        let g = all-stand args ds b f in
        let a = evaluate_all texts patterns number t written origin n values args ds in
        let r = result-stands texts patterns number R family written comp o a.0 (values_of env p node_of B origin n args) a.1 g.stands in
        record { more = g.more ++ r.more; is = r.is ∙ (ap (λ l. l ++ r.more) g.is ∙ append_assoc ds g.more r.more); stands = r.stands }
    evaluate-stands (If' shape args) ds b f = if-stands args ds b f
    evaluate-stands (Order' shape args) ds b f = turn-stands ds (evaluate_all texts patterns number t written origin n values args ds) (values_of env p node_of B origin n args) (all-stand args ds b f)

    all-stand : {m : _} (es : Row_of-FlatExpr m) (ds : List Deposit) → Begun ds → AllFine es → AllGone ds (evaluate_all texts patterns number t written origin n values es ds) (values_of env p node_of B origin n es)
    all-stand end_of-FlatExpr ds b f = record { more = []; is = sym (append-nil ds); stands = tt }
    all-stand (more_of-FlatExpr e es) ds b f =
        let g = evaluate-stands e ds b f.0 in
        let a = evaluate texts patterns number t written origin n values e ds in
        let r = all-stand es a.1 (begun-more ds b a.1 g.more g.is) f.1 in
        record {
          more = g.more ++ r.more;
          is = r.is ∙ (ap (λ l. l ++ r.more) g.is ∙ append_assoc ds g.more r.more);
          stands = (stands-grows texts patterns (R a.1) (R (evaluate_all texts patterns number t written origin n values es a.1).1) a.0 (value_of env p node_of B origin n e) (subst (λ l. HaveGrown (R a.1) (R l)) (sym r.is) (family.grow a.1 r.more)) g.stands, r.stands);
        }

    if-stands : {m : _} (es : Row_of-FlatExpr m) (ds : List Deposit) → Begun ds → AllFine es → Gone ds (evaluate_if texts patterns number t written origin n values es ds) (chosen (values_of env p node_of B origin n es))
    if-stands end_of-FlatExpr ds b f = record { more = []; is = sym (append-nil ds); stands = refl }
    if-stands (more_of-FlatExpr e es) ds b f =
        decided-stands ds b (evaluate texts patterns number t written origin n values e ds) (value_of env p node_of B origin n e) (values_of env p node_of B origin n es)
        (λ k room. evaluate_at texts patterns number t written origin n values es k room) (evaluate-stands e ds b f.0) (λ k room c. branch-stands es k room c f.1)

    branch-stands : {m : _} (es : Row_of-FlatExpr m) (k : ℕ) (ds : List Deposit) → Begun ds → AllFine es → Gone ds (evaluate_at texts patterns number t written origin n values es k ds) (unwrap_or (slice_get (values_of env p node_of B origin n es) k) Void)
    branch-stands end_of-FlatExpr k ds b f = record { more = []; is = sym (append-nil ds); stands = refl }
    branch-stands (more_of-FlatExpr e es) zero ds b f = evaluate-stands e ds b f.0
    branch-stands (more_of-FlatExpr e es) (suc k) ds b f = branch-stands es k ds b f.1
