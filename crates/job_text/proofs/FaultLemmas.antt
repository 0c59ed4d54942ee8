-- What is wrong at an index, and what follows where nothing is.
use Rattle.std.proofs.Common.{◌≡◌, ◌<◌, ◌≤◌, ℕ, Bool, true, false, ◌||◌, cond, List, [], ◌∷◌, length, take, if◌then◌else◌, Option, Some, None, option_map, find, slice_get, Result, Ok, Err, IfSome, ap, sym, ◌∙◌, refl, subst, arith, eqb, ltb, ⊎_elim, ◌&&◌, ◌^◌, lit<}
use Rattle.std.specs.List.{list_any, position_or_len}
use Rattle.std.proofs.lemmas.Bool.{cases_order, ne_eqb, and_cases, or_parts, ltb-false}
use Rattle.std.proofs.lemmas.Option.{same_Some, none-some, slice_get_past}
use Rattle.std.proofs.lemmas.List.Folds.{find_at}
use Rattle.lido_base.specs.Phases.{IsThe}
use Rattle.lido_base.specs.declared.kinds.WordKind.{WordKind}
use Rattle.lido_base.specs.declared.kinds.WordKind.TheVariants.{Missing, Unknown, Repeated, Range}
use Rattle.job_text.specs.declared.forms.Verb.{Verb}
use Rattle.job_text.specs.declared.forms.Verb.TheVariants.{Check, Order, Run, Big}
use Rattle.job_text.specs.declared.forms.Form.{Form}
use Rattle.job_text.specs.declared.forms.Form.TheVariants.{First, Count, Workers, Split, Min, Patience}
use Rattle.job_text.specs.declared.command_line.Command.{Command}
use Rattle.job_text.specs.declared.command_line.WordsFault.{WordsFault}
use Rattle.job_text.specs.declared.command_line.WordsFault.TheVariants as fault
use Rattle.job_text.specs.Forms.{first_verb, has_form, number_of, most_of, is_outside, is_needed, allowed}
use Rattle.job_text.specs.CommandLine.{fault_of, fault_at, IsInside, command_of, IsFirstFault, WordsOf}
use Rattle.job_text.proofs.FormLemmas.{one_form}
use Rattle.job_text.proofs.WordLemmas.{find_passes}

-- a word at an index
pub fault_at_word : (ws : List (List ℕ)) (k : ℕ) (before : List (List ℕ)) (w : List ℕ) (found : Option Form) → slice_get ws k ≡ Some w → before ≡ take k ws
    → found ≡ find (λ form. has_form form w) (allowed (first_verb ws) k) → fault_of before w found ≡ fault_at ws k
unfolding fault_at
fault_at_word ws k before w found got front first = rw (got, front, first) refl

-- no word at an index
pub fault_at_none : (ws : List (List ℕ)) (k : ℕ) → slice_get ws k ≡ None → cond (list_any is_needed (allowed (first_verb ws) k)) (Some Missing) None ≡ fault_at ws k
unfolding fault_at
fault_at_none ws k none = rw none refl

needed_late : (v : Option Verb) (k : ℕ) → 1 < k → list_any is_needed (allowed v k) ≡ false
needed_late None k l = let e : eqb k 0 ≡ false = ne_eqb k 0 (λ z. omega arith) in rw e
needed_late (Some Check) k l = let e : eqb k 0 ≡ false = ne_eqb k 0 (λ z. omega arith) in rw e
needed_late (Some Order) k l = let e : eqb k 0 ≡ false = ne_eqb k 0 (λ z. omega arith) in rw e
needed_late (Some Run) k l = let e : eqb k 0 ≡ false = ne_eqb k 0 (λ z. omega arith) in rw e
needed_late (Some Big) k l = let e : eqb k 0 ≡ false = ne_eqb k 0 (λ z. omega arith) in let o : eqb k 1 ≡ false = ne_eqb k 1 (λ z. omega arith) in rw (e, o)

-- nothing is wrong behind the place of the next word
pub fault_at_past : (ws : List (List ℕ)) (k : ℕ) → length ws < k → fault_at ws k ≡ None
fault_at_past [] k l = let e : eqb k 0 ≡ false = ne_eqb k 0 (λ z. omega arith) in sym (fault_at_none [] k refl) ∙ rw e
fault_at_past (w ∷ ws) k l =
    let late : list_any is_needed (allowed (first_verb (w ∷ ws)) k) ≡ false = needed_late (first_verb (w ∷ ws)) k (omega arith) in
    sym (fault_at_none (w ∷ ws) k (slice_get_past (w ∷ ws) k (omega arith))) ∙ ap (λ b. cond b (Some Missing) None) late

inside_part : (repeated outside : Bool) → (if repeated then Some Repeated else if outside then Some Range else None) ≡ None → outside ≡ false
inside_part true outside h = cc
inside_part false true h = cc
inside_part false false h = refl

faultless : (before : List (List ℕ)) (w : List ℕ) (found : Option Form) → fault_of before w found ≡ None → IfSome found (λ g. has_form g w ≡ true)
    → (form : Form) → has_form form w ≡ true → is_outside form w ≡ false
faultless before w None h has form own = cc
faultless before w (Some g) h has form own = subst (λ f. is_outside f w ≡ false) (one_form g form w has own) (inside_part _ _ h)

found_has : (w : List ℕ) (forms : List Form) (found : Option Form) → found ≡ find (λ form. has_form form w) forms → IfSome found (λ g. has_form g w ≡ true)
found_has w forms None h = tt
found_has w forms (Some g) h = find_passes (λ form. has_form form w) forms g (sym h)

-- where nothing is wrong, the numbers are in their ranges
pub inside : (ws : List (List ℕ)) → ((k : ℕ) → fault_at ws k ≡ None) → (form : Form) → IsInside form ws
inside ws right form w h =
    let k : ℕ = position_or_len (has_form form) ws in
    let found : Option Form = find (λ g. has_form g w) (allowed (first_verb ws) k) in
    faultless (take k ws) w found (fault_at_word ws k (take k ws) w found (sym (find_at (has_form form) ws) ∙ h) refl refl ∙ right k)
    (found_has w (allowed (first_verb ws) k) found refl) form (find_passes (has_form form) ws w h)

inside_most : (most n : ℕ) → 0 < most → (ltb 0 most && (eqb n 0 || ltb most n)) ≡ false → n ≤ most
inside_most most n some h =
    ⊎_elim (λ e. let none : most ≤ 0 = ltb-false 0 most e in omega arith) (λ e. ltb-false most n (or_parts (eqb n 0) (ltb most n) e).1) (and_cases (ltb 0 most) (eqb n 0 || ltb most n) h)

most_fits : (form : Form) → most_of form < 2 ^ 32
most_fits First = lit< tt
most_fits Count = lit< tt
most_fits Workers = lit< tt
most_fits Split = lit< tt
most_fits Min = lit< tt
most_fits Patience = lit< tt

-- a number in its range has 32 bits
pub inside_fits : (form : Form) (w : List ℕ) → 0 < most_of form → is_outside form w ≡ false → number_of form w < 2 ^ 32
inside_fits form w some h = omega (arith, inside_most (most_of form) (number_of form w) some h, most_fits form)

-- where nothing is wrong, there is a verb
pub some_verb : (ws : List (List ℕ)) → fault_at ws 0 ≡ None → first_verb ws ≡ None → ⊥
unfolding fault_at has_form
some_verb [] h none = cc
some_verb (w ∷ ws) h none = let unknown : Some Unknown ≡ None = rw none at h in cc

only_command : (ws : List (List ℕ)) (v : Verb) → ((k : ℕ) → fault_at ws k ≡ None) → first_verb ws ≡ Some v → (s : Result Command WordsFault) → WordsOf ws s → s ≡ Ok (command_of v ws)
only_command ws v right verb (Ok c) p = ap Ok (same_Some c (command_of v ws) (sym p.is ∙ ap (option_map (λ u. command_of u ws)) verb))
only_command ws v right verb (Err (fault.Words i kind)) p = absurd (none-some kind (sym (right i) ∙ p.wrong))
only_command ws v right verb (Err fault.Memory) p = absurd p

pub gives_command : (ws : List (List ℕ)) (v : Verb) → ((k : ℕ) → fault_at ws k ≡ None) → first_verb ws ≡ Some v → IsThe (WordsOf ws) (Ok (command_of v ws))
gives_command ws v right verb = record {
  is = record { right = right; is = ap (option_map (λ u. command_of u ws)) verb };
  only = only_command ws v right verb;
}

only_fault : (ws : List (List ℕ)) (index : ℕ) (kind : WordKind) → IsFirstFault ws index kind → (s : Result Command WordsFault) → WordsOf ws s → s ≡ Err (fault.Words index kind)
only_fault ws index kind first (Ok c) p = absurd (none-some kind (sym (p.right index) ∙ first.wrong))
only_fault ws index kind first (Err (fault.Words j other)) p =
    ⊎_elim (λ e. let same : kind ≡ other = same_Some kind other (sym first.wrong ∙ ap (fault_at ws) e ∙ p.wrong) in cc)
    (⊎_elim (λ l. absurd (none-some kind (sym (p.before index l) ∙ first.wrong))) (λ l. absurd (none-some other (sym (first.before j l) ∙ p.wrong))))
    (cases_order index j)
only_fault ws index kind first (Err fault.Memory) p = absurd p

pub gives_fault : (ws : List (List ℕ)) (index : ℕ) (kind : WordKind) → IsFirstFault ws index kind → IsThe (WordsOf ws) (Err (fault.Words index kind))
gives_fault ws index kind first = record { is = first; only = only_fault ws index kind first }

-- words say one thing
pub one_command : (ws : List (List ℕ)) (first second : Result Command WordsFault) → WordsOf ws first → WordsOf ws second → first ≡ second
one_command ws (Ok c) (Ok d) p q = ap Ok (same_Some c d (sym p.is ∙ q.is))
one_command ws (Ok c) (Err (fault.Words i kind)) p q = absurd (none-some kind (sym (p.right i) ∙ q.wrong))
one_command ws (Ok c) (Err fault.Memory) p q = absurd q
one_command ws (Err (fault.Words i kind)) second p q = sym (only_fault ws i kind p second q)
one_command ws (Err fault.Memory) second p q = absurd p
