-- A whole specification, from its items.
use Rattle.std.specs.Prelude.{◌≡◌, ℕ, zero, suc, Bool, true, false, List, [], ◌∷◌, ◌++◌, length, take, drop, refl, Result, Ok, Err}
use Rattle.std.proofs.Common.{sym, ◌∙◌, ap, subst, inl, inr, arith, ◌<◌, ◌≤◌, ◌+◌, append_assoc, leb-true, le-leb, nat_le}
use Rattle.std.proofs.lemmas.List.{take-append-drop}
use Rattle.lido_base.specs.Phases.{Gives, IsThe}
use Rattle.lido_base.specs.Reading.{Finds, Begins, IsFaultPlace}
use Rattle.lido_base.proofs.ReadingLemmas.{refuses_whole, stops_whole, finds_whole}
use Rattle.lido_lexer.specs.declared.token.Token.{Token}
use Rattle.lido_syntax.specs.declared.spec.Spec.{Spec}
use Rattle.lido_computations.specs.declared.fault.ReadSpecFault.{ReadSpecFault}
use Rattle.lido_computations.specs.declared.fault.ReadSpecFault.TheVariants.{Syntax, Memory}
use Rattle.lido_computations.specs.Phrases.{place_of, RefusesAt}
use Rattle.lido_computations.specs.Messages.{IsComputationIn}
use Rattle.lido_reader.specs.Items.{Repeats, IsFurtherItem, IsSpec, begins_item, called_in, no_items}
use Rattle.lido_reader.specs.Specification.{IsSpecOf, IsSpecification, IsReading, words_in}
use Rattle.lido_computations.proofs.PhrasesLemmas.{leads_self}
use Rattle.lido_reader.proofs.PartsLemmas.{go_past, stuck_in, read_whole, done_stops, finish}

-- ---- one fault place at most, and none in a list of the language

shorter_front : {T : Type 0} (i j : ℕ) (ts : List T) → i ≤ j → take i (take j ts) ≡ take i ts
shorter_front zero j ts h = refl
shorter_front (suc i) zero ts h = absurd (omega arith)
shorter_front (suc i) (suc j) [] h = refl
shorter_front (suc i) (suc j) (t ∷ ts) h = let less : i ≤ j = omega arith in ap (λ z. t ∷ z) (shorter_front i j ts less)

drop_front : {T : Type 0} (front rest : List T) → drop (length front) (front ++ rest) ≡ rest
drop_front [] rest = refl
drop_front (t ∷ front) rest = drop_front front rest

module _ {T : Type 0} (L : List T → Type 0) where
  begins_shorter : (i j : ℕ) (ts : List T) → i ≤ j → Begins L (take j ts) → Begins L (take i ts)
  begins_shorter i j ts h (more, l) =
      let parts : take i ts ++ drop i (take j ts) ≡ take j ts = ap (λ z. z ++ drop i (take j ts)) (sym (shorter_front i j ts h)) ∙ take-append-drop i (take j ts) in
      (drop i (take j ts) ++ more, subst L (sym (ap (λ z. z ++ more) parts) ∙ append_assoc (take i ts) (drop i (take j ts)) more) l)

  begins_whole : (i : ℕ) (ts : List T) → L ts → Begins L (take i ts)
  begins_whole i ts l = (drop i ts, subst L (sym (take-append-drop i ts)) l)

  pub no_fault : (ts : List T) (k : ℕ) → L ts → IsFaultPlace L ts k → ⊥
  no_fault ts k l f = go (nat_le (k + 1) (length ts)) refl
    where
      go : (b : Bool) → nat_le (k + 1) (length ts) ≡ b → ⊥
      go true e = let below : k + 1 ≤ length ts = leb-true (k + 1) (length ts) e in f.next_fits_none (omega arith) (begins_whole (k + 1) ts l)
      go false e = f.end_fits_none (is_end (λ h. let less : nat_le (k + 1) (length ts) ≡ true = le-leb (k + 1) (length ts) h in cc) f.within) l
        where
          is_end : (k + 1 ≤ length ts → ⊥) → k ≤ length ts → k ≡ length ts
          is_end a b = omega arith

  not_before : (ts : List T) (k j : ℕ) → IsFaultPlace L ts k → IsFaultPlace L ts j → k < j → ⊥
  not_before ts k j f g h = let within : j ≤ length ts = g.within in f.next_fits_none (omega arith) (begins_shorter (k + 1) j ts (omega arith) g.begins)

  pub one_fault : (ts : List T) (k j : ℕ) → IsFaultPlace L ts k → IsFaultPlace L ts j → j ≡ k
  one_fault ts k j f g = go (not_before ts k j f g) (not_before ts j k g f)
    where
      go : (k < j → ⊥) → (j < k → ⊥) → j ≡ k
      go a b = omega arith

-- ---- what the whole reading is, and nothing else

module _ (texts : List (List ℕ)) (ts : List Token) (text_end : ℕ) where
  pub only_fault : (k at : ℕ) → IsFaultPlace (IsSpecification texts) ts k → at ≡ place_of text_end (drop k ts) → (r : Result Spec ReadSpecFault) → IsReading texts ts text_end r → r ≡ Err (Syntax at)
  only_fault k at f e (Ok spec) p = absurd (no_fault (IsSpecification texts) ts k (spec, p) f)
  only_fault k at f e (Err (Syntax other)) (j, g, d) =
      let same : j ≡ k = one_fault (IsSpecification texts) ts k j f g in
      ap (λ (i : ℕ). Err (Syntax i)) (d ∙ ap (λ (i : ℕ). place_of text_end (drop i ts)) same ∙ sym e)
  only_fault k at f e (Err Memory) p = absurd p

  fault_reading : (k at : ℕ) → IsFaultPlace (IsSpecification texts) ts k → at ≡ place_of text_end (drop k ts) → IsThe (IsReading texts ts text_end) (Err (Syntax at))
  fault_reading k at f e = record { is = (k, f, e); only = only_fault k at f e }

  pub only_spec : (spec : Spec) → IsSpecOf texts ts spec → ((other : Spec) → IsSpecOf texts ts other → other ≡ spec) → (r : Result Spec ReadSpecFault) → IsReading texts ts text_end r → r ≡ Ok spec
  only_spec spec q only (Ok other) p = ap (λ (s : Spec). Ok s) (only other p)
  only_spec spec q only (Err (Syntax at)) (k, f, e) = absurd (no_fault (IsSpecification texts) ts k (spec, q) f)
  only_spec spec q only (Err Memory) p = absurd p

  abbrev Whole : List Token → Spec → List Token → Type 0
  Whole = IsSpec (called_in texts) (IsComputationIn (words_in texts) texts)

  abbrev Items : List Token → Spec × ℕ → List Token → Type 0
  Items = Repeats (IsFurtherItem (called_in texts) (IsComputationIn (words_in texts) texts)) (no_items, 0)

  whole_refused : (fault : ReadSpecFault) → RefusesAt Whole begins_item text_end ts fault → Gives (λ spec. spec) (IsReading texts ts text_end) Memory (Err fault)
  whole_refused (Syntax at) (bad, r, e) = inr (fault_reading (length r.taken) at (refuses_whole Whole begins_item ts bad r) (e ∙ ap (place_of text_end) (sym (ap (drop (length r.taken)) r.parts ∙ drop_front r.taken bad))))
  whole_refused Memory h = inl refl

  -- an item is refused
  pub items_refused : (fault : ReadSpecFault) → RefusesAt Items begins_item text_end ts fault → Gives (λ spec. spec) (IsReading texts ts text_end) Memory (Err fault)
  items_refused fault h = whole_refused fault (stuck_in text_end (done_stops begins_item (λ (found : Spec × ℕ). found.0)) (leads_self Whole begins_item ts) (λ found. finish) fault h)

  whole_found : (found : Spec × ℕ) (rest : List Token) → Finds Items begins_item ts found rest → Finds Whole begins_item ts found.0 rest
  whole_found found rest f = read_whole (go_past (done_stops begins_item (λ (found : Spec × ℕ). found.0)) (leads_self Whole begins_item ts) f)

  -- something follows that begins no item
  pub items_stopped : (found : Spec × ℕ) (rest us : List Token) (u : Token) → Finds Items begins_item ts found rest → rest ≡ u ∷ us → Gives (λ spec. spec) (IsReading texts ts text_end) Memory (Err (Syntax u.from))
  items_stopped found rest us u f e =
      let g : Finds Whole begins_item ts found.0 (u ∷ us) = subst (λ z. Finds Whole begins_item ts found.0 z) e (whole_found found rest f) in
      inr (fault_reading (length g.taken) u.from (stops_whole Whole begins_item ts us u found.0 g) (ap (place_of text_end) (sym (ap (drop (length g.taken)) g.parts ∙ drop_front g.taken (u ∷ us)))))

  -- nothing follows
  pub items_whole : (found : Spec × ℕ) (rest : List Token) → Finds Items begins_item ts found rest → rest ≡ [] → Gives (λ spec. spec) (IsReading texts ts text_end) Memory (Ok found.0)
  items_whole found rest f e =
      let g : Finds Whole begins_item ts found.0 [] = subst (λ z. Finds Whole begins_item ts found.0 z) e (whole_found found rest f) in
      let p = finds_whole Whole begins_item ts found.0 g in
      record { is = p.0; only = only_spec found.0 p.0 p.1 }
