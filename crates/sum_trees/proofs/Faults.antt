-- The two faults of the form.
use Rattle.std.proofs.Common.{◌≡◌, ◌⊎◌, refl, inl, inr}
use Rattle.sum_trees.specs.declared.form.FormFault.{FormFault}
use Rattle.sum_trees.specs.declared.form.FormFault.TheVariants as fault

pub fault_is : (e : FormFault) → (e ≡ fault.Memory) ⊎ (e ≡ fault.Outside)
fault_is fault.Outside = inr refl
fault_is fault.Memory = inl refl
