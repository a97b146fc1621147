-- The words of the command line.
use Rattle.std.specs.Prelude.{◌≢◌, List, ℕ, codes}
use Rattle.bench.specs.declared.plan.Shape.{Shape}
use Rattle.bench.specs.declared.plan.Shape.TheVariants.{Seats, Numbers, Plain, Scripts}
use Rattle.bench.specs.declared.plan.Phase.{Phase}
use Rattle.bench.specs.declared.plan.Phase.TheVariants.{Calls, Room, Write, Read, Trip}

-- a shape's name
abbrev pub shape_name : Shape → List ℕ
shape_name Seats = codes "seats"
shape_name Numbers = codes "numbers"
shape_name Plain = codes "plain"
shape_name Scripts = codes "scripts"

-- no shape has this name
abbrev pub IsNoShape : List ℕ → Type 0
IsNoShape name = (shape : Shape) → name ≢ shape_name shape

-- a phase's name
abbrev pub phase_name : Phase → List ℕ
phase_name Calls = codes "calls"
phase_name Room = codes "room"
phase_name Write = codes "write"
phase_name Read = codes "read"
phase_name Trip = codes "trip"

-- no phase has this name
abbrev pub IsNoPhase : List ℕ → Type 0
IsNoPhase name = (phase : Phase) → name ≢ phase_name phase
