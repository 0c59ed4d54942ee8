-- Bodies: computations one behind the other.
use Rattle.std.specs.Prelude.{◌≡◌, ◌↔◌, ℕ, Bool, true, false, not, ◌||◌, IsTrue, List, [], ◌∷◌, Some, refl}
use Rattle.std.proofs.Common.{sym, subst}
use Rattle.lido_base.specs.Reading.{GoesOn, Leads, Finds, nothing}
use Rattle.lido_lexer.specs.Seen.{Sees, token, Keys, Signs}
use Rattle.lido_lexer.specs.declared.keyword.Keyword.{Keyword}
use Rattle.lido_lexer.specs.declared.keyword.Keyword.TheVariants as key
use Rattle.lido_lexer.specs.declared.sign.Sign.TheVariants as sign
use Rattle.lido_lexer.specs.declared.token.Token.{Token}
use Rattle.lido_lexer.specs.declared.token.TokenKind.{TokenKind}
use Rattle.lido_lexer.specs.declared.token.TokenKind.TheVariants as kind
use Rattle.lido_syntax.specs.declared.spec.Comp.{Comp}
use Rattle.lido_syntax.specs.declared.spec.Place.{Place}
use Rattle.lido_syntax.specs.declared.spec.Target.{Target}
use Rattle.lido_computations.specs.Phrases.{Then, IsName, word}
use Rattle.lido_computations.specs.Places.{absent, present, IsPlace, named, by_word, context, in_targets}
use Rattle.lido_computations.specs.Expressions.{infix_of, is_at_least, follows_primary}
use Rattle.lido_computations.specs.Computations.{is_arrow_kind, continues_computation, IsTarget, attribute, chain_start, IsComputation, assignment, output}
use Rattle.lido_computations.specs.Messages.{IsRuleComputation, usual, message, conditional, IsComputationIn}
use Rattle.lido_computations.specs.declared.messages.MessageWords.{MessageWords}
use Rattle.lido_computations.specs.declared.owners.Owner.{Owner}
use Rattle.lido_computations.specs.declared.owners.Owner.TheVariants as owner
use Rattle.lido_reader.specs.Items.{AreComputations, IsBody, IsFurtherComputation, Repeats, is_not_end, is_not_end_kind}
use Rattle.lido_computations.proofs.PhrasesLemmas.{Completable, Stops, sees_completable, sees_finds, sees_said, sees_some}
use Rattle.lido_reader.proofs.PartsLemmas.{finish, then_finish, Steps, go_on, seen_goes, seen_stops, present_leads, absent_finds, optional_completable}
use Rattle.lido_reader.proofs.DeclarationsLemmas.{semicolon_completable}

-- ---- no computation begins with END

name_starts : (ts us : List Token) (n : _) → IsName ts n us → GoesOn is_not_end ts
name_starts ts us n (word e) = rw e refl

target_word : (w : Keyword) (p : Place) → in_targets w ≡ Some p → is_not_end_kind (kind.Key w) ≡ true
target_word key.End p e = cc
target_word _ p e = refl

place_starts : (ts us : List Token) (p : ℕ × Place) → IsPlace in_targets ts p us → GoesOn is_not_end ts
place_starts ts us p (named n) = name_starts ts n.between n.value n.first
place_starts ts us p (by_word (context {w = w} {p = q} e d)) = rw e (target_word w q d)

target_starts : (ts us : List Token) (x : ℕ × Target) → IsTarget ts x us → GoesOn is_not_end ts
target_starts ts us x (attribute p) = place_starts ts p.between p.value p.first
target_starts ts us x (chain_start p) = seen_goes (kind.Key key.Chainstart) is_not_end_kind refl ts p.between p.value p.first

computation_starts : (texts : List (List ℕ)) (n : ℕ) (ts us : List Token) (x : Comp × ℕ) → IsComputation texts n ts x us → GoesOn is_not_end ts
computation_starts texts n ts us x (assignment p) = target_starts ts p.between p.value p.first
computation_starts texts n ts us x (output p) = seen_goes (kind.Key key.PtgOut) is_not_end_kind refl ts p.between p.value p.first

rule_starts : (words : MessageWords) (texts : List (List ℕ)) (n : ℕ) (ts us : List Token) (x : Comp × ℕ) → IsRuleComputation words texts n ts x us → GoesOn is_not_end ts
rule_starts words texts n ts us x (usual p) = computation_starts texts n ts us x p
rule_starts words texts n ts us x (message p) = seen_goes (kind.Word words.message) is_not_end_kind refl ts p.between p.value p.first
rule_starts words texts n ts us x (conditional p) = seen_goes (kind.Key key.If) is_not_end_kind refl ts p.between p.value p.first

starts_in : (words : MessageWords) (texts : List (List ℕ)) (o : Owner) (n : ℕ) (ts us : List Token) (x : Comp × ℕ) → IsComputationIn words texts o n ts x us → GoesOn is_not_end ts
starts_in words texts owner.Rule n ts us x p = rule_starts words texts n ts us x p
starts_in words texts owner.Symbol n ts us x p = computation_starts texts n ts us x p.usual

pub computation_steps : (words : MessageWords) (texts : List (List ℕ)) (o : Owner) → Steps (IsFurtherComputation (IsComputationIn words texts o)) is_not_end nothing is_not_end
computation_steps words texts o = record {
  starting = λ y z ts us p. starts_in words texts o y.1 ts p.between p.value p.first;
  continues = λ t h. h;
  apart = λ t h g. cc;
  wider = λ t g. cc;
}

abbrev continues_kind : TokenKind → Bool
continues_kind k = is_arrow_kind k || (is_at_least 0 (infix_of k) || follows_primary k)

-- a semicolon continues no computation
pub semicolon_computations : {X Y : Type 0} (Rest : Y → Token → List Token → X → List Token → Type 0) (c : Token → Bool) → Stops continues_computation c (λ comp. Then (Signs sign.Semicolon) (Rest comp))
semicolon_computations Rest c = seen_stops (kind.Sign sign.Semicolon) continues_kind refl Rest c

-- ---- what the code asks

pub not_end_none : (ts : List Token) → ts ≡ [] → IsTrue false ↔ GoesOn is_not_end ts
not_end_none ts e = (λ h. cc, λ h. absurd (subst (GoesOn is_not_end) e h))

end_only : (k : TokenKind) → (k ≡ kind.Key key.End → ⊥) → IsTrue (is_not_end_kind k)
end_only (kind.Key key.End) a = absurd (a refl)
end_only (kind.Key _) a = refl
end_only _ a = refl

pub not_end_some : (ts us : List Token) (t : Token) (b : Bool) → ts ≡ t ∷ us → (IsTrue b ↔ (t.what ≡ kind.Key key.End)) → IsTrue (not b) ↔ GoesOn is_not_end ts
not_end_some ts us t true e is_it = (
  λ h. cc,
  λ h. let g : IsTrue (is_not_end_kind t.what) = subst (GoesOn is_not_end) e h in let k : t.what ≡ kind.Key key.End = is_it.0 refl in let no_such : IsTrue (is_not_end_kind (kind.Key key.End)) = rw k at g in cc,
)
not_end_some ts us t false e is_it = (λ h. subst (GoesOn is_not_end) (sym e) (end_only t.what (λ d. let yes_it_is : IsTrue false = is_it.1 d in cc)), λ h. refl)

-- ---- COMPUTE

compute_goes : (ts us : List Token) (t : Token) → Keys key.Compute ts t us → GoesOn is_not_end ts
compute_goes ts us t n = seen_goes (kind.Key key.Compute) is_not_end_kind refl ts us t n

pub computed_leads : (One : ℕ → List Token → Comp × ℕ → List Token → Type 0) (number : ℕ) (ts us : List Token) (t : Token) → Keys key.Compute ts t us
    → Leads (Repeats (IsFurtherComputation One) ([], number)) is_not_end us (AreComputations One number) is_not_end ts
computed_leads One number ts us t n = go_on (present_leads (Keys key.Compute) (λ word. Repeats (IsFurtherComputation One) ([], number)) ([], number) is_not_end ts (compute_goes ts us t n)) (sees_finds (kind.Key key.Compute) nothing ts us t n)

pub computed_none : (One : ℕ → List Token → Comp × ℕ → List Token → Type 0) (number : ℕ) (ts : List Token) → ((t : Token) (us : List Token) → Keys key.Compute ts t us → ⊥) → Finds (AreComputations One number) is_not_end ts ([], number) ts
computed_none One number ts none = absent_finds (Keys key.Compute) (λ word. Repeats (IsFurtherComputation One) ([], number)) ([], number) is_not_end (sees_said (kind.Key key.Compute)) (sees_some (kind.Key key.Compute)) ts none

-- ---- END

-- END continues no computations
pub end_stops : {X Y : Type 0} (Rest : Y → Token → List Token → X → List Token → Type 0) (c : Token → Bool) → Stops is_not_end c (λ all. Then (Keys key.End) (Rest all))
end_stops Rest c = seen_stops (kind.Key key.End) is_not_end_kind refl Rest c

pub end_completable : Completable (Keys key.End)
end_completable = sees_completable (kind.Key key.End)

pub body_completable : (One : ℕ → List Token → Comp × ℕ → List Token → Type 0) (number : ℕ) → Completable (IsBody One number)
body_completable One number = then_finish optional_completable (λ all. then_finish end_completable (λ word. then_finish semicolon_completable (λ semicolon. finish)))

-- ---- what begins a body

pub seen_not : (k : TokenKind) (goes : TokenKind → Bool) → goes k ≡ false → (ts us : List Token) (t : Token) → Sees k ts t us → GoesOn (λ t. goes t.what) ts → ⊥
seen_not k goes other ts us t (token e) h = cc

body_begins : (One : ℕ → List Token → Comp × ℕ → List Token → Type 0) (n : ℕ) (goes : TokenKind → Bool) → goes (kind.Key key.Compute) ≡ false → goes (kind.Key key.End) ≡ false
    → (ts ms vs : List Token) (all : List Comp × ℕ) (t : Token) → AreComputations One n ts all ms → Keys key.End ms t vs → GoesOn (λ t. goes t.what) ts → ⊥
body_begins One n goes a b ts ms vs all t (absent e) p h = seen_not (kind.Key key.End) goes b ms vs t p h
body_begins One n goes a b ts ms vs all t (present q) p h = seen_not (kind.Key key.Compute) goes a ts q.between q.value q.first h

-- a body begins with COMPUTE or END
pub body_apart : (One : ℕ → List Token → Comp × ℕ → List Token → Type 0) (n : ℕ) (goes : TokenKind → Bool) → goes (kind.Key key.Compute) ≡ false → goes (kind.Key key.End) ≡ false
    → (ts us : List Token) (all : List Comp × ℕ) → IsBody One n ts all us → GoesOn (λ t. goes t.what) ts → ⊥
body_apart One n goes a b ts us all p h = body_begins One n goes a b ts p.between p.rest.between p.value p.rest.value p.first p.rest.first h

pub body_stops : {X Y : Type 0} (One : ℕ → List Token → Comp × ℕ → List Token → Type 0) (n : ℕ) (goes : TokenKind → Bool) → goes (kind.Key key.Compute) ≡ false → goes (kind.Key key.End) ≡ false
    → (Rest : Y → List Comp × ℕ → List Token → X → List Token → Type 0) (c : Token → Bool) → Stops (λ t. goes t.what) c (λ a. Then (IsBody One n) (Rest a))
body_stops One n goes a b Rest c y us vs x p h = absurd (body_apart One n goes a b us p.between p.value p.first h)
