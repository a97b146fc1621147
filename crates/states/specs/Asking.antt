-- Which question asks for how much follows, and the call that says it.
use Rattle.std.specs.Prelude.{ℕ, false}
use Rattle.document.specs.declared.questions.Question.{Question}
use Rattle.document.specs.declared.questions.Question.TheVariants as questions
use Rattle.document.specs.Calls.{Call, val, seq, map}
use Rattle.states.specs.declared.asking.Items.{Items}
use Rattle.states.specs.declared.asking.Items.TheVariants.{Elements, Pairs}

-- the question for the number of a list's elements, or of a map's pairs
abbrev pub asks_length : Items → Question
asks_length Elements = questions.Seq false
asks_length Pairs = questions.Map false

-- the call that announces so many
abbrev pub announces : Items → ℕ → Call
announces Elements n = val (seq n)
announces Pairs n = val (map n)
