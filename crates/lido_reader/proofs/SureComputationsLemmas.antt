-- Computations: two at the same tokens are the same.
use Rattle.std.proofs.Common.{◌≡◌, ℕ, ◌+◌, ◌||◌, List, [], ◌∷◌, ◌++◌, refl}
use Rattle.lido_base.specs.Reading.{GoesOn, nothing}
use Rattle.lido_base.specs.Texts.{IsDistinctTexts}
use Rattle.lido_lexer.specs.Seen.{token, Signs, Keys}
use Rattle.lido_lexer.specs.declared.keyword.Keyword.TheVariants as key
use Rattle.lido_lexer.specs.declared.sign.Sign.TheVariants as sign
use Rattle.lido_lexer.specs.declared.token.Token.{Token}
use Rattle.lido_lexer.specs.declared.token.TokenKind.TheVariants as kind
use Rattle.lido_syntax.specs.declared.spec.Comp.{Comp}
use Rattle.lido_syntax.specs.declared.spec.Cons.{Cons}
use Rattle.lido_syntax.specs.declared.spec.Expr.{Expr}
use Rattle.lido_syntax.specs.declared.spec.Expr.TheVariants as expr
use Rattle.lido_syntax.specs.declared.spec.Target.{Target}
use Rattle.lido_syntax.specs.declared.spec.Target.TheVariants as target
use Rattle.lido_computations.specs.Phrases.{Done, Then, IsName, is_comma_kind}
use Rattle.lido_computations.specs.Places.{IsPlace, in_reads, in_targets, IsRead, IsIncluding, AreConstituents, is_bracket_kind, is_option, is_option_kind}
use Rattle.lido_computations.specs.Counting.{most_operators}
use Rattle.lido_computations.specs.Expressions.{infix_of, is_at_least, follows_primary, continues}
use Rattle.lido_computations.specs.Computations as grammar
use Rattle.lido_computations.specs.Computations.{IsDependency, AreMoreDependencies, AreSomeDependencies, AreDependencies, AreAfter, IsTarget, IsValue, IsComputation, is_arrow_kind, continues_after, continues_dependencies, continues_computation}
use Rattle.lido_computations.proofs.PhrasesLemmas.{done_stops as last_stops}
use Rattle.lido_reader.proofs.PartsLemmas.{both, done, seen_stops, seen_goes, done_stops}
use Rattle.lido_computations.proofs.ComputationsLemmas.{place_apart, keys_apart, further_stops, comma_in_list, dependency_apart, after_wider, value_stops, option_continues, target_apart}
use Rattle.lido_reader.proofs.SureLemmas.{Rests, IsOnly, IsSure, done_only, done_sure, then_only, then_sure, lead_only, lead_sure, wide_sure, only_by, optional_sure, sees_only, sees_sure, name_sure}
use Rattle.lido_reader.proofs.SurePlacesLemmas.{place_sure, read_sure, including_sure, constituents_sure}
use Rattle.lido_reader.proofs.SureExpressionsLemmas.{expr_only}

-- ---- one dependency

module _ (number : ℕ) (ts us : List Token) where
  read_only : (e : Expr) → IsRead ts e us → IsOnly (IsDependency number) is_option ts (e, number) us
  read_only e p = let whole : IsOnly (Then IsRead (λ y. Done (y, number))) is_option ts (e, number) us = lead_only (read_sure.sure ts e us p) done_only in only_by (grammar.read p) go whole
    where
      go : (y : Expr × ℕ) (vs : List Token) → IsDependency number ts y vs → Rests is_option vs → Then IsRead (λ y. Done (y, number)) ts y vs
      go y vs (grammar.read q) r = both _ _ q done
      go y vs (grammar.including q) r = absurd (place_apart in_reads key.Including ts p.between q.between p.value q.value refl p.first q.first)
      go y vs (grammar.constituents q) r = absurd (place_apart in_reads key.Constituents ts p.between q.between p.value q.value refl p.first q.first)

  including_only : (e : Expr) → IsIncluding ts e us → IsOnly (IsDependency number) is_option ts (e, number) us
  including_only e p = let whole : IsOnly (Then IsIncluding (λ y. Done (y, number))) is_option ts (e, number) us = lead_only (including_sure.sure ts e us p) done_only in only_by (grammar.including p) go whole
    where
      go : (y : Expr × ℕ) (vs : List Token) → IsDependency number ts y vs → Rests is_option vs → Then IsIncluding (λ y. Done (y, number)) ts y vs
      go y vs (grammar.read q) r = absurd (place_apart in_reads key.Including ts q.between p.between q.value p.value refl q.first p.first)
      go y vs (grammar.including q) r = both _ _ q done
      go y vs (grammar.constituents q) r = absurd (keys_apart key.Including key.Constituents ts p.between q.between p.value q.value (λ d. cc) p.first q.first)

  constituents_only : (k : Cons) → AreConstituents number ts k us → IsOnly (IsDependency number) is_option ts (expr.Constituents k, number + 1) us
  constituents_only k p =
      let whole : IsOnly (Then (AreConstituents number) (λ k. Done (expr.Constituents k, number + 1))) is_option ts (expr.Constituents k, number + 1) us =
      then_only (done_stops is_option (λ (k : Cons). (expr.Constituents k, number + 1))) ((constituents_sure number).sure ts k us p) done_only in
      only_by (grammar.constituents p) go whole
    where
      go : (y : Expr × ℕ) (vs : List Token) → IsDependency number ts y vs → Rests is_option vs → Then (AreConstituents number) (λ k. Done (expr.Constituents k, number + 1)) ts y vs
      go y vs (grammar.read q) r = absurd (place_apart in_reads key.Constituents ts q.between p.between q.value p.value refl q.first p.first)
      go y vs (grammar.including q) r = absurd (keys_apart key.Including key.Constituents ts q.between p.between q.value p.value (λ d. cc) q.first p.first)
      go y vs (grammar.constituents q) r = both _ _ q done

dependency_at : (number : ℕ) (ts : List Token) (x : Expr × ℕ) (us : List Token) → IsDependency number ts x us → IsOnly (IsDependency number) is_option ts x us
dependency_at number ts x us (grammar.read {e = e} p) = read_only number ts us e p
dependency_at number ts x us (grammar.including {e = e} p) = including_only number ts us e p
dependency_at number ts x us (grammar.constituents {k = k} p) = constituents_only number ts us k p

dependency_sure : (number : ℕ) → IsSure (IsDependency number) is_option
dependency_sure number = record { sure = dependency_at number }

-- ---- dependencies with commas between them

abbrev Further : List Expr × ℕ → List Token → List Expr × ℕ → List Token → Type 0
Further found = Then (Signs sign.Comma) (λ t. Then (IsDependency found.1) (λ x. AreMoreDependencies (found.0 ++ x.0 ∷ [], x.1)))

comma_goes : (ts us : List Token) (t : Token) → Signs sign.Comma ts t us → GoesOn continues_dependencies ts
comma_goes ts us t (token d) = comma_in_list t d

last_only : (found : List Expr × ℕ) (ts : List Token) → Rests continues_dependencies ts → (z : List Expr × ℕ) (vs : List Token) → AreMoreDependencies found ts z vs → (z ≡ found) × (vs ≡ ts)
last_only found ts r z vs grammar.last = (refl, refl)
last_only found ts r z vs (grammar.further {us = us} {t = t} s p q) = absurd (r (comma_goes ts us t s))

to_further : (found : List Expr × ℕ) (ts us : List Token) (t : Token) → Signs sign.Comma ts t us → (z : List Expr × ℕ) (vs : List Token) → AreMoreDependencies found ts z vs → Rests continues_dependencies vs → Further found ts z vs
to_further found ts us t s z vs grammar.last q = absurd (q (comma_goes ts us t s))
to_further found ts us t s z vs (grammar.further a p m) q = both _ _ a (both _ _ p m)

more_at : (found : List Expr × ℕ) (ts : List Token) (all : List Expr × ℕ) (us : List Token) → AreMoreDependencies found ts all us → IsOnly (AreMoreDependencies found) continues_dependencies ts all us
more_at found ts all us grammar.last = record { phrase = grammar.last; only = λ r z vs h q. last_only found ts r z vs h }
more_at found ts all ws (grammar.further {e = e} {us = us} {vs = vs} {t = t} s p q) =
    let whole : IsOnly (Further found) continues_dependencies ts all ws = lead_only (sees_only s) (then_only (further_stops (λ x. (found.0 ++ x.0 ∷ [], x.1))) (dependency_at found.1 us e vs p) (more_at (found.0 ++ e.0 ∷ [], e.1) vs all ws q)) in
    only_by (grammar.further s p q) (to_further found ts us t s) whole

some_sure : (number : ℕ) → IsSure (AreSomeDependencies number) continues_dependencies
some_sure number = then_sure (further_stops (λ x. (x.0 ∷ [], x.1))) (dependency_sure number) (λ x. record { sure = more_at (x.0 ∷ [], x.1) })

-- ---- one dependency, or several in parentheses

module _ (number : ℕ) where
  abbrev Single : List Token → List Expr × ℕ → List Token → Type 0
  Single = Then (IsDependency number) (λ x. Done (x.0 ∷ [], x.1))

  single_sure : IsSure Single is_option
  single_sure = then_sure (done_stops is_option (λ (x : Expr × ℕ). (x.0 ∷ [], x.1))) (dependency_sure number) (λ x. done_sure _)

  abbrev Several : List Token → List Expr × ℕ → List Token → Type 0
  Several = Then (Signs sign.ParenOpen) (λ opening. Then (AreSomeDependencies number) (λ found. Then (Signs sign.ParenClose) (λ closing. Done found)))

  several_sure : IsSure Several is_option
  several_sure = lead_sure sees_sure (λ opening. then_sure (seen_stops (kind.Sign sign.ParenClose) (λ k. is_comma_kind k || is_option_kind k) refl _ is_option) (some_sure number) (λ found. lead_sure sees_sure (λ closing. done_sure found)))

  to_single : (ts us : List Token) (e : Expr × ℕ) → IsDependency number ts e us → (y : List Expr × ℕ) (vs : List Token) → AreDependencies number ts y vs → Rests is_option vs → Single ts y vs
  to_single ts us e p y vs (grammar.single q) r = both _ _ q done
  to_single ts us e p y vs (grammar.several q) r = absurd (dependency_apart number ts us q.between e q.value p q.first)

  to_several : (ts us : List Token) (x : List Expr × ℕ) → Several ts x us → (y : List Expr × ℕ) (vs : List Token) → AreDependencies number ts y vs → Rests is_option vs → Several ts y vs
  to_several ts us x p y vs (grammar.single {e = e} q) r = absurd (dependency_apart number ts vs p.between e p.value q p.first)
  to_several ts us x p y vs (grammar.several q) r = q

  dependencies_at : (ts : List Token) (x : List Expr × ℕ) (us : List Token) → AreDependencies number ts x us → IsOnly (AreDependencies number) is_option ts x us
  dependencies_at ts x us (grammar.single {e = e} p) = only_by (grammar.single p) (to_single ts us e p) (single_sure.sure ts (e.0 ∷ [], e.1) us (both _ _ p done))
  dependencies_at ts x us (grammar.several p) = only_by (grammar.several p) (to_several ts us x p) (several_sure.sure ts x us p)

  pub after_sure : IsSure (AreAfter number) continues_after
  after_sure = optional_sure ([], number) (λ ts y us p. seen_goes (kind.Sign sign.Arrow) (λ k. is_arrow_kind k || is_option_kind k) refl ts p.between p.value p.first)
      (lead_sure sees_sure (λ arrow. wide_sure after_wider (record { sure = dependencies_at })))

-- ---- targets

abbrev At_place : List Token → ℕ × Target → List Token → Type 0
At_place = Then (IsPlace in_targets) (λ p. Then (Signs sign.Dot) (λ dot. Then IsName (λ a. Done (p.0, target.Attr p.1 a))))

abbrev Of_chain : List Token → ℕ × Target → List Token → Type 0
Of_chain = Then (Keys key.Chainstart) (λ t. Then (Keys key.Head) (λ head. Then (Signs sign.Dot) (λ dot. Then IsName (λ c. Done (t.from, target.Start c)))))

at_place_sure : IsSure At_place nothing
at_place_sure = then_sure (seen_stops (kind.Sign sign.Dot) is_bracket_kind refl _ nothing) (place_sure in_targets) (λ p. lead_sure sees_sure (λ dot. lead_sure name_sure (λ a. done_sure _)))

of_chain_sure : IsSure Of_chain nothing
of_chain_sure = lead_sure sees_sure (λ t. lead_sure sees_sure (λ head. lead_sure sees_sure (λ dot. lead_sure name_sure (λ c. done_sure _))))

to_place : (ts us : List Token) (x : ℕ × Target) → At_place ts x us → (y : ℕ × Target) (vs : List Token) → IsTarget ts y vs → Rests nothing vs → At_place ts y vs
to_place ts us x p y vs (grammar.attribute q) r = q
to_place ts us x p y vs (grammar.chain_start q) r = absurd (place_apart in_targets key.Chainstart ts p.between q.between p.value q.value refl p.first q.first)

to_chain : (ts us : List Token) (x : ℕ × Target) → Of_chain ts x us → (y : ℕ × Target) (vs : List Token) → IsTarget ts y vs → Rests nothing vs → Of_chain ts y vs
to_chain ts us x p y vs (grammar.attribute q) r = absurd (place_apart in_targets key.Chainstart ts q.between p.between q.value p.value refl q.first p.first)
to_chain ts us x p y vs (grammar.chain_start q) r = q

target_at : (ts : List Token) (x : ℕ × Target) (us : List Token) → IsTarget ts x us → IsOnly IsTarget nothing ts x us
target_at ts x us (grammar.attribute p) = only_by (grammar.attribute p) (to_place ts us x p) (at_place_sure.sure ts x us p)
target_at ts x us (grammar.chain_start p) = only_by (grammar.chain_start p) (to_chain ts us x p) (of_chain_sure.sure ts x us p)

-- ---- computations

module _ (texts : List (List ℕ)) (distinct : IsDistinctTexts texts) (number : ℕ) where
  value_sure : IsSure (IsValue texts number) (continues 0)
  value_sure = record { sure = expr_only texts distinct 0 (record { budget = most_operators; number = number + 1 }) }

  abbrev Assigned : List Token → Comp × ℕ → List Token → Type 0
  Assigned = Then IsTarget (λ t. Then (Signs sign.Equal) (λ equal. Then (IsValue texts number) (λ value. Then (AreAfter value.1.number) (λ after.
      Done (record { at = t.0; number = number; target = t.1; value = value.0; after = after.0 }, after.1)))))

  assigned_sure : IsSure Assigned continues_computation
  assigned_sure = lead_sure (record { sure = target_at }) (λ t. lead_sure sees_sure (λ equal. then_sure
      (value_stops (λ value after. (record { at = t.0; number = number; target = t.1; value = value.0; after = after.0 }, after.1))) value_sure (λ value. then_sure
      (last_stops continues_after continues_computation (λ (after : List Expr × ℕ). (record { at = t.0; number = number; target = t.1; value = value.0; after = after.0 }, after.1)) option_continues) (after_sure value.1.number) (λ after. done_sure _))))

  abbrev Put_out : List Token → Comp × ℕ → List Token → Type 0
  Put_out = Then (Keys key.PtgOut) (λ t. Then (Signs sign.ParenOpen) (λ opening. Then (IsValue texts number) (λ value. Then (Signs sign.ParenClose) (λ closing. Then (AreAfter value.1.number) (λ after.
      Done (record { at = t.from; number = number; target = target.Out; value = value.0; after = after.0 }, after.1))))))

  put_out_sure : IsSure Put_out continues_computation
  put_out_sure = lead_sure sees_sure (λ t. lead_sure sees_sure (λ opening. then_sure (seen_stops (kind.Sign sign.ParenClose) (λ k. is_at_least 0 (infix_of k) || follows_primary k) refl _ continues_computation) value_sure (λ value. lead_sure sees_sure (λ closing. then_sure
      (last_stops continues_after continues_computation (λ (after : List Expr × ℕ). (record { at = t.from; number = number; target = target.Out; value = value.0; after = after.0 }, after.1)) option_continues) (after_sure value.1.number) (λ after. done_sure _)))))

  to_assigned : (ts us : List Token) (x : Comp × ℕ) → Assigned ts x us → (y : Comp × ℕ) (vs : List Token) → IsComputation texts number ts y vs → Rests continues_computation vs → Assigned ts y vs
  to_assigned ts us x p y vs (grammar.assignment q) r = q
  to_assigned ts us x p y vs (grammar.output q) r = absurd (target_apart texts number ts p.between q.between p.value q.value p.first q.first)

  to_put_out : (ts us : List Token) (x : Comp × ℕ) → Put_out ts x us → (y : Comp × ℕ) (vs : List Token) → IsComputation texts number ts y vs → Rests continues_computation vs → Put_out ts y vs
  to_put_out ts us x p y vs (grammar.assignment q) r = absurd (target_apart texts number ts q.between p.between q.value p.value q.first p.first)
  to_put_out ts us x p y vs (grammar.output q) r = q

  computation_at : (ts : List Token) (x : Comp × ℕ) (us : List Token) → IsComputation texts number ts x us → IsOnly (IsComputation texts number) continues_computation ts x us
  computation_at ts x us (grammar.assignment p) = only_by (grammar.assignment p) (to_assigned ts us x p) (assigned_sure.sure ts x us p)
  computation_at ts x us (grammar.output p) = only_by (grammar.output p) (to_put_out ts us x p) (put_out_sure.sure ts x us p)

  pub computation_sure : IsSure (IsComputation texts number) continues_computation
  computation_sure = record { sure = computation_at }
