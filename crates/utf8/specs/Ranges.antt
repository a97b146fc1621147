-- A byte and the range in which it is to lie.
use Rattle.std.specs.Prelude.{Bool, ◌&&◌, nat_le}
use Rattle.utf8.specs.declared.ranges.Test.{Test}

-- whether the byte lies there
abbrev pub holds : Test → Bool
holds test = nat_le test.low test.byte.now && nat_le test.byte.now test.high
