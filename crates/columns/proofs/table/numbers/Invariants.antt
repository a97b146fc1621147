use Rattle.std.proofs.Common.{◌≤◌, vec_len, vec_items}
use Rattle.std.specs.Str.Iter.{split_whitespace_rest}
use Rattle.columns.proofs.Listed.{ListsBefore}
use Rattle.columns.proofs.table.numbers.Given as goal

abbrev pub invariant-loop-word : goal.invariant-loop-word
invariant-loop-word l = (vec_len l.values ≤ 64) × ListsBefore l.text (split_whitespace_rest l.word-iterator) (vec_items l.values)
