-- Each value of the final state stands, in its rooms, for what the attribution of the flat tree has.
use Rattle.std.specs.Prelude.{Contains, slice_get, unwrap_or, IsSome}
use Rattle.std.proofs.lemmas.List.Sums.{fold-append}
use Rattle.std.proofs.Common.{◌≡◌, ℕ, suc, ◌<◌, inl, inr, List, [], ◌∷◌, ◌++◌, length, map, fold, Bool, true, false, eqb, cond, Option, Some, None, refl, arith, ap, sym, subst, ◌∙◌, append-nil, append_assoc, eqb-true}
use Rattle.std.proofs.lemmas.Option.{none-some}
use Rattle.std.proofs.lemmas.List.Elements.{Contains-append_left, Contains-push_cases}
use Rattle.lido_base.specs.declared.value.Value.{Value}
use Rattle.lido_base.specs.declared.value.Value.TheVariants as value
use Rattle.lido_base.specs.Plain.{Plain, Void, plain_tree}
use Rattle.lido_base.specs.Equations.{value_in}
use Rattle.string_librarian.specs.Rooms.{RoomState, Deposit, HaveGrown}
use Rattle.value_ops.specs.Outcome.{StandsFor}
use Rattle.tree_store.specs.Regions.{region}
use Rattle.lido_base.proofs.Lists.{map-contains}
use Rattle.flat_grammar.specs.declared.flat.Occ.{Occ}
use Rattle.flat_grammar.specs.Rules.{dependencies, reads}
use Rattle.flat_grammar.specs.WellFormed.{attribute_of}
use Rattle.flat_grammar.specs.FlatAttribution.{value_of, as_typed, IsFlatAttribution}
use Rattle.flat_grammar.specs.WholeOrder.{Instance, node_at}
use Rattle.flat_grammar.proofs.Lists.{held, contains-nil, contains-slice_get}
use Rattle.flat_grammar.specs.Instances.{IsInstance, instance_at}
use Rattle.core_machine.specs.Machine.{Item, State, eval_of, put_of, after, opening, final, given}
use Rattle.core_machine.specs.Evaluation.{evaluate, kept_value}
use Rattle.core_machine.specs.Core.{Task, environment, IsTask, Computation, computation_of, home, needs, outcome, instances_in_order, items, machine, rooms_of, IsReadAs, Reads}
use Rattle.core_machine.proofs.Lists.{split-among}
use Rattle.core_machine.proofs.Moves.{values_else, values_new}
use Rattle.core_machine.proofs.Ends.{fold_made}
use Rattle.core_machine.proofs.Tasks.{computed, computes, among-eval, eval-among}
use Rattle.core_machine.proofs.Jobs.{grown, sound}
use Rattle.core_machine.proofs.Only.{all, one, meant, step, among, order, node-plain, solves, solved-by}
use Rattle.value_ops.specs.Results.{IsFamily, StandsAfter}
use Rattle.value_ops.proofs.StandsLemmas.{stands-grows}
use Rattle.core_machine.proofs.Expressions.{evaluate-stands}
use Rattle.core_machine.proofs.FinalLemmas.{typed-stands, rooms-by, rooms-grow, changed, changed-grows, changed-there, changed-from, region-few, fine}

module _ (j : Task) (task : IsTask j) where
  abbrev S : Type 0
  S = State Instance Value Deposit

  abbrev sol : Instance → Option Plain
  sol = (one j task).0

  abbrev many : ℕ
  many = suc (length j.nodes)

  record Stood (s : S) (i : Instance) : Type 0 where
    given : Value
    has : s.values i ≡ Some given
    meaning : Plain
    solved : sol i ≡ Some meaning
    stands : StandsFor j.texts j.patterns (rooms-by many s.rooms) given meaning

  changed-self : (number : ℕ) (d : ℕ → List Deposit) (r : ℕ) → (extra : List Deposit) × (changed number (d number) d r ≡ d r ++ extra)
  changed-self number d r = go (eqb number r) refl
    where
      go : (b : Bool) → eqb number r ≡ b → (extra : List Deposit) × (cond b (d number) (d r) ≡ d r ++ extra)
      go true e = ([], ap d (eqb-true number r e) ∙ sym (append-nil (d r)))
      go false e = ([], sym (append-nil (d r)))

  pub home-few : (i : Instance) → home j i < many
  home-few i = go (computation_of j i)
    where
      go : (x : Option Computation) → elim x [ None ↦ 0 | Some c ↦ region j.flat j.nodes c.0 ] < many
      go None = omega arith
      go (Some c) = region-few j.flat j.nodes c.0

  module _ (front back : List (Item Instance)) (i : Instance) (whole : items j ≡ front ++ eval_of i ∷ back) (s : S) (before : (d : Instance) → Contains front (eval_of d) → Stood s d) where
    abbrev R : List Deposit → List RoomState
    R ds = rooms-by many (changed (home j i) ds s.rooms)

    R-grows : (ds more : List Deposit) → HaveGrown (rooms-by many (changed (home j i) ds s.rooms)) (rooms-by many (changed (home j i) (ds ++ more) s.rooms))
    R-grows ds more = rooms-grow many (changed (home j i) ds s.rooms) (changed (home j i) (ds ++ more) s.rooms) (changed-grows (home j i) s.rooms ds more)

    R-there : (ds : List Deposit) → (room : RoomState) × (slice_get (rooms-by many (changed (home j i) ds s.rooms)) (home j i) ≡ Some room) × (room.deposits ≡ ds)
    R-there ds = changed-there many (home j i) s.rooms (home-few i) ds

    family : IsFamily (home j i) (λ ds. rooms-by many (changed (home j i) ds s.rooms))
    family = record { grow = R-grows; there = R-there }

    is-instance : IsInstance j.symbols j.rules j.flat i
    is-instance = ((order j task).instances i).0 (among-eval j (instances_in_order j) i (subst (λ l. Contains l (eval_of i)) (sym whole) (split-among front back (eval_of i))))

    abbrev values : Instance → Value
    values d = unwrap_or (s.values d) value.Void

    abbrev B : Instance → Plain
    B d = unwrap_or (sol d) Void

    -- the evaluation of its computation
    eval-gone : (c : Computation) → computation_of j i ≡ Some c → StandsAfter j.texts j.patterns R (s.rooms (home j i))
        (evaluate j.texts j.patterns (home j i) j.flat (unwrap_or (slice_get j.node_of (node_at j.flat c.0 c.2.origin)) 0) (node_at j.flat c.0 c.2.origin) c.0 values c.2.value (s.rooms (home j i)))
        (value_of (environment j) (plain_tree j.texts j.flat) j.node_of B (node_at j.flat c.0 c.2.origin) c.0 c.2.value)
    eval-gone c e =
        let k = computed j task (grown j task) (order j task) i c e in
        evaluate-stands j.texts j.patterns (home j i) R family j.flat (plain_tree j.texts j.flat) j.node_of (node_at j.flat c.0 c.2.origin) c.0 values B (s.rooms (home j i)) c.2.value (s.rooms (home j i)) ([], sym (append-nil (s.rooms (home j i))))
        (fine j.texts j.patterns (home j i) R family j.flat task.leaves j.node_of (node_at j.flat c.0 c.2.origin) c.0 values B (s.rooms (home j i)) c.2.value (task.constants c.1 c.2 (contains-slice_get j.rules k.at.0 c.1 k.at.2) k.comp) stand)
      where
        stand : (o : Occ) → Contains (reads c.2.value) o → StandsFor j.texts j.patterns (rooms-by many (changed (home j i) (s.rooms (home j i)) s.rooms)) (values (instance_at j.flat c.0 o)) (B (instance_at (plain_tree j.texts j.flat) c.0 o))
        stand o m =
            let d : Instance = instance_at j.flat c.0 o in
            let there : Contains (map (instance_at j.flat c.0) (dependencies c.2)) d = map-contains (instance_at j.flat c.0) (dependencies c.2) o (Contains-append_left (reads c.2.value) c.2.after o m) in
            let need : Contains (needs j i) d = subst (λ (x : Option Computation). Contains (elim x [ None ↦ [] | Some z ↦ map (instance_at j.flat z.0) (dependencies z.2) ]) d) (sym e) there in
            let t = before d ((sound j task).behind front back i d whole need) in
            let grown-here = stands-grows j.texts j.patterns (rooms-by many s.rooms) (rooms-by many (changed (home j i) (s.rooms (home j i)) s.rooms)) t.given t.meaning (rooms-grow many s.rooms (changed (home j i) (s.rooms (home j i)) s.rooms) (changed-self (home j i) s.rooms)) t.stands in
            let v : unwrap_or (s.values d) value.Void ≡ t.given = ap (λ z. unwrap_or z value.Void) t.has in
            let q : B (instance_at (plain_tree j.texts j.flat) c.0 o) ≡ t.meaning = ap (λ z. B (z, o.attr.0)) (node-plain j.texts j.flat c.0 o.occ) ∙ ap (λ z. unwrap_or z Void) t.solved in
            subst (λ z. StandsFor j.texts j.patterns (rooms-by many (changed (home j i) (s.rooms (home j i)) s.rooms)) z (B (instance_at (plain_tree j.texts j.flat) c.0 o))) (sym v)
            (subst (λ z. StandsFor j.texts j.patterns (rooms-by many (changed (home j i) (s.rooms (home j i)) s.rooms)) t.given z) (sym q) grown-here)

    abbrev next : S
    next = after (machine j) s (eval_of i)

    record Step : Type 0 where
      new : Stood (after (machine j) s (eval_of i)) i
      more : List Deposit
      grew : (given (machine j) s (eval_of i)).1 ≡ s.rooms (home j i) ++ more

    stepped : Step
    stepped = go (computes j task (grown j task) (order j task) i is-instance)
      where
        go : (k : Computation) × (computation_of j i ≡ Some k) → Step
        go (c, e) =
            let g = eval-gone c e in
            let a = evaluate j.texts j.patterns (home j i) j.flat (unwrap_or (slice_get j.node_of (node_at j.flat c.0 c.2.origin)) 0) (node_at j.flat c.0 c.2.origin) c.0 values c.2.value (s.rooms (home j i)) in
            let attr = attribute_of j.symbols c.1 c.2.goal in
            let is : given (machine j) s (eval_of i) ≡ (kept_value attr a.0, a.1) = ap (λ x. outcome j (home j i) s.values (s.rooms (home j i)) x) e in
            let p = value_of (environment j) (plain_tree j.texts j.flat) j.node_of B (node_at j.flat c.0 c.2.origin) c.0 c.2.value in
            let solution : sol i ≡ Some (meant j task (value_in Void (step j task) sol) (Some c)) = (one j task).1.equations i ((among j task i).1 is-instance) ∙ ap (λ x. Some (meant j task (value_in Void (step j task) sol) x)) e in
            let same : meant j task (value_in Void (step j task) sol) (Some c) ≡ as_typed attr p = ap (λ z. as_typed attr (value_of (environment j) (plain_tree j.texts j.flat) j.node_of B z c.0 c.2.value)) (node-plain j.texts j.flat c.0 c.2.origin) in
            let typed = typed-stands j.texts j.patterns (R a.1) attr a.0 p g.stands in
            record {
              new = record {
                given = kept_value attr a.0;
                has = values_new (machine j) (sound j task) s (eval_of i) refl ∙ ap (λ (z : Value × List Deposit). Some z.0) is;
                meaning = as_typed attr p;
                solved = solution ∙ ap Some same;
                stands = subst (λ ds. StandsFor j.texts j.patterns (rooms-by many (changed (home j i) ds s.rooms)) (kept_value attr a.0) (as_typed attr p)) (sym (ap (λ (z : Value × List Deposit). z.1) is)) typed;
              };
              more = g.more;
              grew = ap (λ (z : Value × List Deposit). z.1) is ∙ g.is;
            }

    behind-eval : (d : Instance) → Contains (front ++ eval_of i ∷ []) (eval_of d) → Stood (after (machine j) s (eval_of i)) d
    behind-eval d m = elim (Contains-push_cases front (eval_of i) (eval_of d) m) [
      | inl old ↦ kept old (before d old)
      | inr e ↦ subst (λ z. Stood (after (machine j) s (eval_of i)) z) (ap (λ (z : Item Instance). z.makes) e) stepped.new
    ]
      where
        kept : Contains front (eval_of d) → Stood s d → Stood (after (machine j) s (eval_of i)) d
        kept old t = record {
          given = t.given;
          has = values_else (machine j) (sound j task) s (eval_of i) d (λ e. (sound j task).once front back i whole (subst (λ z. Contains front (eval_of z)) (sym e) old)) ∙ t.has;
          meaning = t.meaning;
          solved = t.solved;
          stands = stands-grows j.texts j.patterns (rooms-by many s.rooms) (rooms-by many (changed (home j i) (given (machine j) s (eval_of i)).1 s.rooms)) t.given t.meaning
              (rooms-grow many s.rooms (changed (home j i) (given (machine j) s (eval_of i)).1 s.rooms)
              (λ r. subst (λ ds. (extra : List Deposit) × (changed (home j i) ds s.rooms r ≡ s.rooms r ++ extra)) (sym stepped.grew) (changed-from (home j i) s.rooms stepped.more r))) t.stands;
        }

  abbrev along : List (Item Instance) → S
  along l = fold (after (machine j)) opening l

  one-more : (front back : List (Item Instance)) (b : Bool) (i : Instance) → items j ≡ front ++ record { is_put = b; makes = i } ∷ back → ((d : Instance) → Contains front (eval_of d) → Stood (along front) d)
      → (d : Instance) → Contains (front ++ record { is_put = b; makes = i } ∷ []) (eval_of d) → Stood (after (machine j) (along front) (record { is_put = b; makes = i })) d
  one-more front back false i whole h d m = behind-eval front back i whole (along front) h d m
  one-more front back true i whole h d m = elim (Contains-push_cases front (put_of i) (eval_of d) m) [
    | inl old ↦ (let t = h d old in record { given = t.given; has = t.has; meaning = t.meaning; solved = t.solved; stands = t.stands })
    | inr e ↦ (let f : true ≡ false = ap (λ (z : Item Instance). z.is_put) e in absurd (cc))
  ]

  walked : (back front : List (Item Instance)) → items j ≡ front ++ back → ((d : Instance) → Contains front (eval_of d) → Stood (along front) d) → (d : Instance) → Contains (front ++ back) (eval_of d) → Stood (along (front ++ back)) d
  walked [] front whole h = subst (λ l. (d : Instance) → Contains l (eval_of d) → Stood (along l) d) (sym (append-nil front)) h
  walked (x ∷ back) front whole h =
      let step-on : (d : Instance) → Contains (front ++ x ∷ []) (eval_of d) → Stood (along (front ++ x ∷ [])) d
      = λ d m. subst (λ s. Stood s d) (sym (fold-append (after (machine j)) opening front (x ∷ []))) (one-more front back x.is_put x.makes whole h d m) in
      subst (λ l. (d : Instance) → Contains l (eval_of d) → Stood (along l) d) (append_assoc front (x ∷ []) back) (walked back (front ++ x ∷ []) (whole ∙ sym (append_assoc front (x ∷ []) back)) step-on)

  all-stood : (d : Instance) → Contains (items j) (eval_of d) → Stood (final (machine j)) d
  all-stood = walked (items j) [] refl (λ d m. absurd (contains-nil (eval_of d) m))

  pub final-reads : Reads j (final (machine j)) sol
  final-reads i = go ((final (machine j)).values i) refl
    where
      none-there : (x : Option Plain) → sol i ≡ x → (final (machine j)).values i ≡ None → sol i ≡ None
      none-there None f e = f
      none-there (Some p) f e =
          let is = ((one j task).1.domain i).0 (subst (λ z. IsSome z) (sym f) refl) in
          let there = ((all j task).same i).0 is in
          let t = all-stood i (eval-among j (instances_in_order j) i there) in absurd (none-some _ (sym e ∙ t.has))

      go : (x : Option Value) → (final (machine j)).values i ≡ x → IsReadAs j (rooms_of j (final (machine j))) x (sol i)
      go None e = none-there (sol i) refl e
      go (Some v) e =
          let t = all-stood i (fold_made (machine j) (sound j task) (items j) [] opening (λ k w g. absurd (none-some _ g)) i v e) in
          (t.meaning, t.solved, subst (λ z. StandsFor j.texts j.patterns (rooms_of j (final (machine j))) z t.meaning) (held (sym t.has ∙ e)) t.stands)

  -- the law for this job
  pub only-attribution : (B : Instance → Option Plain) × Reads j (final (machine j)) B
      × IsFlatAttribution j.symbols j.rules (environment j) (plain_tree j.texts j.flat) j.node_of B
      × ((C : Instance → Option Plain) → IsFlatAttribution j.symbols j.rules (environment j) (plain_tree j.texts j.flat) j.node_of C → C ≡ B)
  only-attribution = (sol, final-reads, solves j task sol (one j task).1, λ C a. (one j task).2 C (solved-by j task C a))
