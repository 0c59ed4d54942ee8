-- Texts of ids once more texts are there.
use Rattle.std.specs.Prelude.{slice_get, unwrap_or, if◌then◌else◌}
use Rattle.std.specs.List.{list_any}
use Rattle.std.specs.Str.{bytes_eq}
use Rattle.std.proofs.Common.{◌≡◌, ℕ, ◌≤◌, Bool, true, false, List, [], ◌∷◌, ◌++◌, length, Option, Some, refl, ap, sym, subst, ◌∙◌, arith, append_assoc, append-nil, length-append}
use Rattle.lido_base.proofs.Lists.{place-append}
use Rattle.lido_base.specs.Texts.{Gains, with_text}
use Rattle.lido_base.specs.Environment.{Environment}
use Rattle.lido_syntax.specs.Functions.{text_of}

pub no-more : (texts : List (List ℕ)) → Gains texts texts
no-more texts = record { added = []; behind = sym (append-nil texts) }

pub more-again : (old new later : List (List ℕ)) → Gains old new → Gains new later → Gains old later
more-again old new later a b = record { added = a.added ++ b.added; behind = b.behind ∙ ap (λ (l : List (List ℕ)). l ++ b.added) a.behind ∙ append_assoc old a.added b.added }

pub no-fewer : (old new : List (List ℕ)) → Gains old new → length old ≤ length new
no-fewer old new gains = omega (arith, ap length gains.behind, length-append old gains.added)

pub one-text : (texts : List (List ℕ)) (t : List ℕ) → Gains texts (with_text texts t)
one-text texts t = by (list_any (bytes_eq t) texts)
  where
    by : (b : Bool) → Gains texts (if b then texts else (texts ++ t ∷ []))
    by true = no-more texts
    by false = record { added = t ∷ []; behind = refl }

-- an id keeps its text
pub later-text : (texts : List (List ℕ)) (env : Environment) (id : ℕ) (t : List ℕ) → Gains texts env.texts → slice_get texts id ≡ Some t → text_of env id ≡ t
later-text texts env id t gains e = ap (λ (o : Option (List ℕ)). unwrap_or o []) (ap (λ (l : List (List ℕ)). slice_get l id) gains.behind ∙ place-append texts gains.added id t e)

-- the text that was added
pub added-text : (old new : List (List ℕ)) (t : List ℕ) → new ≡ with_text old t → Gains old new
added-text old new t e = subst (Gains old) (sym e) (one-text old t)
