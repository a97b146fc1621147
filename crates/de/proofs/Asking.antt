-- A question by itself: the mark that it asks for.
use Rattle.std.proofs.Common.{◌≡◌, refl}
use Rattle.document.specs.Reader.{Ask, scalar?, text?, option?, variant?, seq?, map?, tuple?, asks}
use Rattle.nodes.specs.Marks.{mark_of}
use Rattle.de.specs.Asked.{marking}
use Rattle.de.specs.Answered.{question_of}

-- a question asks for the mark of the kind that it asks a node for
pub marking_is : (a : Ask) → marking (question_of a) ≡ mark_of (asks a)
marking_is (scalar? k) = refl
marking_is text? = refl
marking_is option? = refl
marking_is variant? = refl
marking_is (seq? flag) = refl
marking_is (map? flag) = refl
marking_is (tuple? n) = refl
