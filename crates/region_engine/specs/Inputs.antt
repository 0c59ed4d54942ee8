-- What looks at the table give to a region.
use Rattle.std.specs.Prelude.{◌≡◌, ℕ, true, List, Some, slice_get, Contains}
use Rattle.lido_base.specs.Tree.{contains}
use Rattle.lido_base.specs.declared.value.Value.{Value}
use Rattle.boundary_table.specs.Desk.{Held, Knows, GoesOn, StoresNothing, Missed}
use Rattle.flat_grammar.specs.declared.flat.Occ.{Occ}
use Rattle.flat_grammar.specs.WholeOrder.{Instance}
use Rattle.flat_grammar.specs.Instances.{instance_at}
use Rattle.core_machine.specs.Core.{Task}
use Rattle.core_machine.specs.Keys.{key_of, contents_of}
use Rattle.region_engine.specs.declared.marks.Mark.{Mark}
use Rattle.region_engine.specs.declared.marks.Mark.TheVariants.{Missing}
use Rattle.region_engine.specs.Kept.{IsRefreshed}

module _ (j : Task) where
  -- Values of the final state joined what was there, and the desk went on.
  pub record IsLook (before : List Value) (d : Held) (after : List Value) (e : Held) : Type 0 where
    pub refreshed : IsRefreshed j before after
    pub goes_on : GoesOn d e
    pub stores : StoresNothing d e

  -- nothing is there under the key of this attribute of a split node
  pub record IsMissing (marks : List Mark) (i : Instance) : Type 0 where
    pub split : contains i.0 j.nodes ≡ true
    pub missing : slice_get marks (key_of j i) ≡ Some Missing

  module _ (n : ℕ) (marks : List Mark) where
    -- where nothing is there under the key of an occurrence, its value was found
    abbrev pub IsAtHand : List Value → Held → Occ → Type 0
    IsAtHand shared d o = let i = instance_at j.flat n o in
        IsMissing marks i → (slice_get shared (key_of j i) ≡ slice_get (contents_of j) (key_of j i)) × Knows d (key_of j i)

    pub record AllAtHand (shared : List Value) (d : Held) (list : List Occ) : Type 0 where
      pub each : (o : Occ) → Contains list o → IsAtHand shared d o

    -- nothing is there under the key of an occurrence, and a look didn't find it
    pub record IsMissed (d e : Held) (o : Occ) : Type 0 where
      pub nothing : IsMissing marks (instance_at j.flat n o)
      pub missed : Missed d e (key_of j (instance_at j.flat n o))

    pub record OneMissed (d e : Held) (list : List Occ) : Type 0 where
      pub occ : Occ
      pub among : Contains list occ
      pub missed : IsMissed d e occ
