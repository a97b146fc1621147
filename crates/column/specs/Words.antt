-- A refusal in words.
use Rattle.std.specs.Prelude.{ℕ, List, ◌++◌, codes, decimal}
use Rattle.column.specs.declared.fault.Cause.{Cause}
use Rattle.column.specs.declared.fault.Cause.TheVariants.{Room, Short, Bad}
use Rattle.column.specs.declared.fault.Fault.{Fault}

abbrev pub cause_words : Cause → List ℕ
cause_words Room = codes "ROOM, the image passes the output's end"
cause_words Short = codes "SHORT, the input ends before the last value does"
cause_words Bad = codes "BAD, a width that is not listed, or a value or form that it does not admit"

-- the cause, and the layer that found it
abbrev pub fault_words : Fault → List ℕ
fault_words refusal = cause_words refusal.cause ++ (codes "; found at layer " ++ decimal refusal.layer)
