-- Worked examples of the definitions, as one test that computes.
use Rattle.std.specs.Prelude.{ℕ, Bool, true, false, not, ◌&&◌, List, [], ◌∷◌, ◌==◌}
use Rattle.column.specs.Parsed.{Parsed, got, short, bad}
use Rattle.column.specs.Flat.{flat}
use Rattle.column.specs.Short.{short_kind}
use Rattle.column.specs.Steps.{steps}
use Rattle.utf8.specs.Passes.{passes}

-- whether two lists of numbers are equal
abbrev pub same : List ℕ → List ℕ → Bool
same [] [] = true
same [] (y ∷ ys) = false
same (x ∷ xs) [] = false
same (x ∷ xs) (y ∷ ys) = x == y && same xs ys

-- whether these values were read, from so many bytes
abbrev pub reads : Parsed (List ℕ) → List ℕ → ℕ → Bool
reads (got found taken) values used = same found values && taken == used
reads (short depth) values used = false
reads (bad depth) values used = false

-- the low byte first; and minus one, in two's complement of eight bits
abbrev pub flat_examples : Bool
flat_examples = same (flat.image 16 (258 ∷ [])) (0x02 ∷ 0x01 ∷ []) && same (flat.image 8 (255 ∷ [])) (0xff ∷ [])

-- 300 in two groups, and read from a form of three
abbrev pub short_examples : Bool
short_examples =
    same (short_kind.image 32 (300 ∷ [])) (0xac ∷ 0x02 ∷ [])
    && reads (short_kind.parse 32 1 (0xac ∷ 0x82 ∷ 0x00 ∷ [])) (300 ∷ []) 3

-- up by two, and down by three
abbrev pub steps_examples : Bool
steps_examples = same ((steps flat).image 8 (10 ∷ 12 ∷ 9 ∷ [])) (0x0a ∷ 0x02 ∷ 0xfd ∷ [])

-- U+00E9 whole, and cut short
abbrev pub text_examples : Bool
text_examples = passes (0xc3 ∷ 0xa9 ∷ []) && not (passes (0xc3 ∷ []))

-- all of them together
abbrev pub examples : Bool
examples = flat_examples && short_examples && steps_examples && text_examples
