-- Some texts at the edges of the table, and whether they are well-formed.
use Rattle.std.specs.Prelude.{Bool, not, ◌&&◌, [], ◌∷◌}
use Rattle.utf8.specs.Passes.{passes}

-- what is well-formed passes: nothing, U+00E9 and the last scalar value
abbrev pub passing : Bool
passing = passes [] && passes (0xc3 ∷ 0xa9 ∷ []) && passes (0xf4 ∷ 0x8f ∷ 0xbf ∷ 0xbf ∷ [])

-- what is cut short, overlong, a surrogate or past the last scalar value does not
abbrev pub failing : Bool
failing =
    not (passes (0xc3 ∷ []))
    && not (passes (0xc0 ∷ 0x80 ∷ []))
    && not (passes (0xe0 ∷ 0x9f ∷ 0x80 ∷ []))
    && not (passes (0xf0 ∷ 0x8f ∷ 0xbf ∷ 0xbf ∷ []))
    && not (passes (0xed ∷ 0xa0 ∷ 0x80 ∷ []))
    && not (passes (0xf4 ∷ 0x90 ∷ 0x80 ∷ 0x80 ∷ []))

-- all of them together
abbrev pub examples : Bool
examples = passing && failing
