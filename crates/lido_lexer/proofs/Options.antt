-- What holds of a value, where there is one.
use Rattle.std.proofs.Common.{Option, Some, None, IfSome, IfNone}

pub if_some : {X : Type 0} (r : Option X) (P Q : X → Type 0) → ((x : X) → P x → Q x) → IfSome r P → IfSome r Q
if_some None P Q f h = h
if_some (Some x) P Q f h = f x h

pub if_none : {X P Q : Type 0} (r : Option X) → (P → Q) → IfNone r P → IfNone r Q
if_none None f h = f h
if_none (Some x) f h = h
