-- The toy's inputs, and its answers to them.
use Rattle.std.proofs.Common.{◌≡◌, ◌⊎◌, ◌<◌, ℕ, List, [], ◌∷◌, codes, Some, Result, Ok, Err, refl, ap, sym, ◌∙◌, arith, inl, inr}
use Rattle.lido_base.specs.Inputs.{TakesAll}
use Rattle.lido_base.specs.Phases.{IsThe, OneOf, Then}
use Rattle.order_report.specs.declared.status.Status.TheVariants as status
use Rattle.lido_top.specs.Answers.{Answer, refusal}
use Rattle.lido_top.specs.Endings.{Ending, ending, plainly}
use Rattle.trials_of_answers.specs.Toy.{Command, Check, Said, To, IsAlike, IsCycle, SizeOf, CycleOf, command_of, cycle, names}

-- the words say what they say, and nothing else
pub says : (words : List (List ℕ)) (r : Result Command Ending) → r ≡ command_of words → IsThe (Said words) r
says words r is = record { is = is; only = λ s given. given ∙ sym is }

-- the input of one byte is taken
pub takes_one : TakesAll (Some (codes "x")) (Some []) (codes "x")
takes_one = record { told = refl; taken = refl; ended = refl; fits = omega arith }

-- another input of one byte is taken
pub takes_y : TakesAll (Some (codes "y")) (Some []) (codes "y")
takes_y = record { told = refl; taken = refl; ended = refl; fits = omega arith }

-- the empty input is taken
pub takes_none : TakesAll (Some []) (Some []) []
takes_none = record { told = refl; taken = refl; ended = refl; fits = omega arith }

-- a cycle is an answer to the input of one byte
pub is_cycle : (path : List ℕ) → IsCycle path → To Check (Some (codes "x")) (refusal (ending names (cycle path)))
unfolding OneOf
is_cycle path is = (Err (ending names (cycle path)), inl (1, (refl, omega arith), (path, is, refl)), refl)

-- each answer to the input of one byte tells a cycle
pub others : (path : List ℕ) → IsCycle path → (other : Answer) → To Check (Some (codes "x")) other → IsAlike other (refusal (ending names (cycle path)))
unfolding OneOf
others path is other (Ok text, inl (n, size, none), same) = absurd none
others path is other (Ok text, inr (s, fault, wrong), same) = absurd (cc)
others path is other (Err e, inl (n, size, (told, found, tells)), same) =
    inr (ap (λ (a : Answer). a.out) same, ap (λ (a : Answer). a.notes) same, (told, found, ap (λ (a : Answer). a.ending) same ∙ tells), (path, is, refl))
others path is other (Err e, inr (s, (no_size, none), told), same) = absurd (none 1 (refl, omega arith))

-- the empty input has no size
pub is_empty : To Check (Some []) (refusal (plainly status.NoPtg))
unfolding OneOf
is_empty = (Err (plainly status.NoPtg), inr (plainly status.NoPtg, (refl, λ n size. omega (arith, size.0, size.1)), refl), refl)

pub empty_alone : (other : Answer) → To Check (Some []) other → IsAlike other (refusal (plainly status.NoPtg))
unfolding OneOf
empty_alone other (r, inl (n, size, next), same) = absurd (omega (arith, size.0, size.1))
empty_alone other (Ok text, inr (s, fault, wrong), same) = absurd (cc)
empty_alone other (Err e, inr (s, (no_size, none), told), same) = let is : e ≡ s = cc in inl (same ∙ ap refusal (is ∙ no_size))
