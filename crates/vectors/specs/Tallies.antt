-- Counts that add up.
use Rattle.std.specs.Prelude.{◌≡◌, ℕ, ◌+◌}
use Rattle.vectors.specs.declared.known.Known.{Known}
use Rattle.vectors.specs.declared.known.Known.TheVariants.{UnitBeside, NoneBeside, EarlyEnd, TooMany, OtherKind, Sums, Places, Tables}
use Rattle.vectors.specs.declared.known.Names.{Names}
use Rattle.vectors.specs.declared.verdict.Verdict.{Verdict}
use Rattle.vectors.specs.declared.verdict.Verdict.TheVariants.{Same, Listed, Unlisted}

-- all differences that have a name
abbrev pub all_named : Names → ℕ
all_named n = n.unit_beside + n.none_beside + n.early_end + n.too_many + n.other_kind + n.sums + n.places + n.tables

-- one more of this name
abbrev pub one_more : Names → Known → Names
one_more n UnitBeside = record n { unit_beside = n.unit_beside + 1 }
one_more n NoneBeside = record n { none_beside = n.none_beside + 1 }
one_more n EarlyEnd = record n { early_end = n.early_end + 1 }
one_more n TooMany = record n { too_many = n.too_many + 1 }
one_more n OtherKind = record n { other_kind = n.other_kind + 1 }
one_more n Sums = record n { sums = n.sums + 1 }
one_more n Places = record n { places = n.places + 1 }
one_more n Tables = record n { tables = n.tables + 1 }

-- two counts of each name, added
abbrev pub both_named : Names → Names → Names
both_named n m = record {
  unit_beside = n.unit_beside + m.unit_beside;
  none_beside = n.none_beside + m.none_beside;
  early_end = n.early_end + m.early_end;
  too_many = n.too_many + m.too_many;
  other_kind = n.other_kind + m.other_kind;
  sums = n.sums + m.sums;
  places = n.places + m.places;
  tables = n.tables + m.tables;
}

-- one where the codec agrees, by a verdict
abbrev pub one_same : Verdict → ℕ
one_same Same = 1
one_same (Listed k) = 0
one_same Unlisted = 0

-- one that is on no list
abbrev pub one_unlisted : Verdict → ℕ
one_unlisted Same = 0
one_unlisted (Listed k) = 0
one_unlisted Unlisted = 1

-- the names after a verdict
abbrev pub names_after : Names → Verdict → Names
names_after n Same = n
names_after n (Listed k) = one_more n k
names_after n Unlisted = n
