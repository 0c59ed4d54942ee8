-- The parts of SYMBOL items.
use Rattle.std.specs.Prelude.{◌≡◌, ◌⊎◌, ◌↔◌, ℕ, Bool, true, false, IsTrue, ◌||◌, List, [], ◌∷◌, refl}
use Rattle.std.proofs.Common.{sym, ap, subst, inl}
use Rattle.lido_base.specs.Reading.{SameHead, GoesOn, Finds, Leads, nothing}
use Rattle.lido_lexer.specs.Seen.{Keys, Signs}
use Rattle.lido_lexer.specs.declared.keyword.Keyword.TheVariants as key
use Rattle.lido_lexer.specs.declared.sign.Sign.TheVariants as sign
use Rattle.lido_lexer.specs.declared.token.Token.{Token}
use Rattle.lido_lexer.specs.declared.token.TokenKind.{TokenKind}
use Rattle.lido_lexer.specs.declared.token.TokenKind.TheVariants as kind
use Rattle.lido_syntax.specs.declared.spec.Name.{Name}
use Rattle.lido_computations.specs.declared.fault.ReadSpecFault.{ReadSpecFault}
use Rattle.lido_syntax.specs.declared.spec.Comp.{Comp}
use Rattle.lido_syntax.specs.declared.spec.SymbolItem.{SymbolItem}
use Rattle.lido_computations.specs.Places.{absent, present}
use Rattle.lido_computations.specs.Phrases.{Done, Then, AreMore, end, comma, IsName, is_comma, is_comma_kind, RefusesAt}
use Rattle.lido_reader.specs.Items.{IsBody, IsDeclaring, IsComputing, IsAbout, declaring, computing, AreNames, AreInherited, IsSymbolHead, class, plain, is_inherits_kind, continues_inherited, is_declaring, is_declaring_kind}
use Rattle.lido_computations.proofs.PhrasesLemmas.{Completable, Stops, chosen, refused_by, sees_said, sees_some, sees_finds}
use Rattle.lido_reader.proofs.BodiesLemmas.{seen_not, body_apart, body_stops, body_completable}
use Rattle.lido_reader.proofs.PartsLemmas.{finish, then_finish, optional_completable, goes_same, goes_back, go_on, widely, or_right, seen_goes, seen_apart, unseen_head, present_leads, absent_finds}

abbrev Comps : Type 0
Comps = List Comp × ℕ

-- ---- how an item begins

abbrev ClassParts : List Token → ℕ × Bool → List Token → Type 0
ClassParts = Then (Keys key.Class) (λ word. Then (Keys key.Symbol) (λ symbol. Done (word.from, true)))

abbrev PlainParts : List Token → ℕ × Bool → List Token → Type 0
PlainParts = Then (Keys key.Symbol) (λ symbol. Done (symbol.from, false))

class_from : (ts us : List Token) (t : Token) → Keys key.Class ts t us → (ws vs : List Token) (x : ℕ × Bool) → SameHead ts ws → IsSymbolHead ws x vs → ClassParts ws x vs ⊎ GoesOn nothing vs
class_from ts us t n ws vs x s (class p) = inl p
class_from ts us t n ws vs x s (plain p) = absurd (seen_apart (kind.Key key.Class) (kind.Key key.Symbol) (λ e. cc) ts us ws p.between t p.value n s p.first)

pub class_leads : (ts us : List Token) (t : Token) → Keys key.Class ts t us → Leads ClassParts nothing ts IsSymbolHead nothing ts
class_leads ts us t n = chosen ClassParts IsSymbolHead nothing ts (λ us vs x p. class p) (class_from ts us t n)

plain_from : (ts : List Token) → ((t : Token) (us : List Token) → Keys key.Class ts t us → ⊥) → (ws vs : List Token) (x : ℕ × Bool) → SameHead ts ws → IsSymbolHead ws x vs → PlainParts ws x vs ⊎ GoesOn nothing vs
plain_from ts none ws vs x s (plain p) = inl p
plain_from ts none ws vs x s (class p) = absurd (unseen_head (Keys key.Class) (sees_said (kind.Key key.Class)) (sees_some (kind.Key key.Class)) ts ws none s p.value p.between p.first)

pub plain_leads : (ts : List Token) → ((t : Token) (us : List Token) → Keys key.Class ts t us → ⊥) → Leads PlainParts nothing ts IsSymbolHead nothing ts
plain_leads ts none = chosen PlainParts IsSymbolHead nothing ts (λ us vs x p. plain p) (plain_from ts none)

-- ---- classes

pub comma_continues : (t : Token) → IsTrue (is_comma t) → IsTrue (continues_inherited t)
comma_continues t h = or_right (is_inherits_kind t.what) (is_comma_kind t.what) h

pub inherits_goes : (ts us : List Token) (t : Token) → Keys key.Inherits ts t us → GoesOn continues_inherited ts
inherits_goes ts us t n = seen_goes (kind.Key key.Inherits) (λ k. is_inherits_kind k || is_comma_kind k) refl ts us t n

inherited_leads : (ts us : List Token) (t : Token) → Keys key.Inherits ts t us → Leads AreNames is_comma us AreInherited continues_inherited ts
inherited_leads ts us t n =
    let l = go_on (present_leads (Keys key.Inherits) (λ word. AreNames) [] continues_inherited ts (inherits_goes ts us t n)) (sees_finds (kind.Key key.Inherits) nothing ts us t n) in
    let w = widely AreNames is_comma continues_inherited comma_continues us in
    record { finds = λ x rest f. l.finds x rest (w.finds x rest f); refuses = λ bad r. l.refuses bad (w.refuses bad r) }

pub inherited_finds : (ts us rest : List Token) (t : Token) (names : List Name) → Keys key.Inherits ts t us → Finds AreNames is_comma us names rest → Finds AreInherited continues_inherited ts names rest
inherited_finds ts us rest t names n f = (inherited_leads ts us t n).finds names rest f

pub inherited_refuses : (text_end : ℕ) (ts us : List Token) (t : Token) → Keys key.Inherits ts t us → (fault : ReadSpecFault) → RefusesAt AreNames is_comma text_end us fault → RefusesAt AreInherited continues_inherited text_end ts fault
inherited_refuses text_end ts us t n fault h = refused_by AreNames AreInherited is_comma continues_inherited text_end us ts (λ bad r. (inherited_leads ts us t n).refuses bad r) fault h

pub inherited_none : (ts : List Token) → ((t : Token) (us : List Token) → Keys key.Inherits ts t us → ⊥) → Finds AreInherited continues_inherited ts [] ts
inherited_none ts none = absent_finds (Keys key.Inherits) (λ word. AreNames) [] continues_inherited (sees_said (kind.Key key.Inherits)) (sees_some (kind.Key key.Inherits)) ts none

-- ---- what begins declarations

pub not_declaring_end : (ts : List Token) → ts ≡ [] → IsTrue false ↔ GoesOn is_declaring ts
not_declaring_end ts e = (λ h. cc, λ h. absurd (subst (GoesOn is_declaring) e h))

pub declaring_comma : (ts us : List Token) (t : Token) → ts ≡ t ∷ us → t.what ≡ kind.Sign sign.Comma → IsTrue true ↔ GoesOn is_declaring ts
declaring_comma ts us t e d = (λ h. subst (GoesOn is_declaring) (sym e) (ap is_declaring_kind d), λ h. refl)

only_colon : (k : TokenKind) → (k ≡ kind.Sign sign.Comma → ⊥) → IsTrue (is_declaring_kind k) → k ≡ kind.Sign sign.Colon
only_colon (kind.Sign sign.Comma) a h = absurd (a refl)
only_colon (kind.Sign sign.Colon) a h = refl
only_colon (kind.Sign _) a h = cc
only_colon _ a h = cc

pub declaring_colon : (ts us : List Token) (t : Token) (b : Bool) → ts ≡ t ∷ us → (t.what ≡ kind.Sign sign.Comma → ⊥) → (IsTrue b ↔ (t.what ≡ kind.Sign sign.Colon)) → IsTrue b ↔ GoesOn is_declaring ts
declaring_colon ts us t b e other is_it = (
  λ h. subst (GoesOn is_declaring) (sym e) (ap is_declaring_kind (is_it.0 h)),
  λ h. is_it.1 (only_colon t.what other (subst (GoesOn is_declaring) e h)),
)

-- ---- what stands behind the first name

further_goes : (first : Name) (ts ms us : List Token) (names : List Name) (t : Token) → AreMore IsName (first ∷ []) ts names ms → Signs sign.Colon ms t us → GoesOn is_declaring ts
further_goes first ts ms us names t end n = seen_goes (kind.Sign sign.Colon) is_declaring_kind refl ts us t n
further_goes first ts ms us names t (comma {us = behind} {t = u} n p q) m = seen_goes (kind.Sign sign.Comma) is_declaring_kind refl ts behind u n

pub declaring_goes : (head : ℕ × Bool) (first : Name) (n : ℕ) (ts us : List Token) (x : SymbolItem × ℕ) → IsDeclaring head first n ts x us → GoesOn is_declaring ts
declaring_goes head first n ts us x p = further_goes first ts p.between p.rest.between p.value p.rest.value p.first p.rest.first

module _ (One : ℕ → List Token → Comp × ℕ → List Token → Type 0) (head : ℕ × Bool) (first : Name) (n : ℕ) where
  pub computing_apart : (ts ms us : List Token) (names : List Name) (all : Comps) → AreInherited ts names ms → IsBody One n ms all us → GoesOn is_declaring ts → ⊥
  computing_apart ts ms us names all (absent e) b g = body_apart One n is_declaring_kind refl refl ts us all b g
  computing_apart ts ms us names all (present p) b g = seen_not (kind.Key key.Inherits) is_declaring_kind refl ts p.between p.value p.first g

  declaring_from : (ts : List Token) → GoesOn is_declaring ts → (ws vs : List Token) (x : SymbolItem × ℕ) → SameHead ts ws → IsAbout One head first n ws x vs → IsDeclaring head first n ws x vs ⊎ GoesOn nothing vs
  declaring_from ts g ws vs x s (declaring p) = inl p
  declaring_from ts g ws vs x s (computing p) = absurd (computing_apart ws p.between p.rest.between p.value p.rest.value p.first p.rest.first (goes_back is_declaring ts ws s g))

  pub declaring_leads : (ts : List Token) → GoesOn is_declaring ts → Leads (IsDeclaring head first n) nothing ts (IsAbout One head first n) nothing ts
  declaring_leads ts g = chosen (IsDeclaring head first n) (IsAbout One head first n) nothing ts (λ us vs x p. declaring p) (declaring_from ts g)

  computing_from : (ts : List Token) → (GoesOn is_declaring ts → ⊥) → (ws vs : List Token) (x : SymbolItem × ℕ) → SameHead ts ws → IsAbout One head first n ws x vs → IsComputing One head first n ws x vs ⊎ GoesOn nothing vs
  computing_from ts none ws vs x s (computing p) = inl p
  computing_from ts none ws vs x s (declaring p) = absurd (none (goes_same is_declaring ts ws s (declaring_goes head first n ws vs x p)))

  pub computing_leads : (ts : List Token) → (GoesOn is_declaring ts → ⊥) → Leads (IsComputing One head first n) nothing ts (IsAbout One head first n) nothing ts
  computing_leads ts none = chosen (IsComputing One head first n) (IsAbout One head first n) nothing ts (λ us vs x p. computing p) (computing_from ts none)

  pub about_completable : Completable (IsAbout One head first n)
  about_completable = let p : Completable (IsComputing One head first n) = then_finish optional_completable (λ inherited. then_finish (body_completable One n) (λ all. finish)) in
      let (more, x, whole) = p in (more, x, (λ vs. computing (whole vs)))

-- a body begins with no more classes
pub inherited_stops : {X : Type 0} (One : ℕ → List Token → Comp × ℕ → List Token → Type 0) (n : ℕ) (Rest : List Name → Comps → List Token → X → List Token → Type 0) (c : Token → Bool)
    → Stops continues_inherited c (λ names. Then (IsBody One n) (Rest names))
inherited_stops One n Rest c = body_stops One n (λ k. is_inherits_kind k || is_comma_kind k) refl refl Rest c

pub further_completable : (first : Name) → Completable (AreMore IsName (first ∷ []))
further_completable first = ([], first ∷ [], (λ vs. end))
