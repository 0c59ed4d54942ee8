-- What was found, or that there is nothing.
use Rattle.std.specs.Prelude.{IfSome, IfNone}
use Rattle.std.proofs.Common.{Option, Some, None}

pub some-on : {X : Type 0} (P Q : X → Type 0) (o : Option X) → ((x : X) → P x → Q x) → IfSome o P → IfSome o Q
some-on P Q None f h = h
some-on P Q (Some x) f h = f x h

pub none-on : {X : Type 0} (P Q : Type 0) (o : Option X) → (P → Q) → IfNone o P → IfNone o Q
none-on P Q None f h = f h
none-on P Q (Some x) f h = h
