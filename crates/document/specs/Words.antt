-- What a refusal says in words.
use Rattle.std.specs.Prelude.{ℕ, List, [], ◌++◌, codes, decimal}
use Rattle.document.specs.declared.refusals.Refusal.{Refusal}
use Rattle.document.specs.declared.refusals.Refusal.TheVariants.{Complete, Count, Depth, Kind, Index, Nodes, Cells, Short, Past, Bad, Sum, Text, TextTable, Option, NoSize, Early, Scratch, Room, Left}
use Rattle.document.specs.Refusals.{number_of}

-- what it says, without its number and its place
abbrev pub words_of : Refusal → List ℕ
words_of Complete = codes "COMPLETE, the document has its value already"
words_of Count = codes "COUNT, an end before the declared number of values, or a value past it"
words_of Depth = codes "DEPTH, more than 32 open places"
words_of Kind = codes "KIND, the node is of another kind"
words_of Index = codes "INDEX, a variant above 255"
words_of Nodes = codes "NODES, too few node records"
words_of Cells = codes "CELLS, too few cells or slots"
words_of (Short layer column) = codes "SHORT, the input ends too early"
words_of Past = codes "PAST, a text that passes the input"
words_of (Bad layer column) = codes "BAD, bytes that stand for no value"
words_of Sum = codes "SUM, the lengths at a node come to too much"
words_of Text = codes "TEXT, bytes that are no text"
words_of TextTable = codes "TEXT TABLE, too few bytes for text"
words_of Option = codes "OPTION, neither none nor some"
words_of NoSize = codes "NO SIZE, too many elements that take no memory"
words_of Early = codes "EARLY, the document is not complete"
words_of Scratch = codes "SCRATCH, fewer elements than cells taken"
words_of Room = codes "ROOM, more bytes than the output has"
words_of Left = codes "LEFT, bytes after the document"

-- the column and the layer of a column's fault
abbrev pub place_words : Refusal → List ℕ
place_words (Short layer column) = codes ", in column " ++ decimal column ++ codes " at layer " ++ decimal layer
place_words (Bad layer column) = codes ", in column " ++ decimal column ++ codes " at layer " ++ decimal layer
place_words Complete = []
place_words Count = []
place_words Depth = []
place_words Kind = []
place_words Index = []
place_words Nodes = []
place_words Cells = []
place_words Past = []
place_words Sum = []
place_words Text = []
place_words TextTable = []
place_words Option = []
place_words NoSize = []
place_words Early = []
place_words Scratch = []
place_words Room = []
place_words Left = []

-- a refusal as it is printed: its words, the column and the layer of a column's fault, and its number
abbrev pub refusal_text : Refusal → List ℕ
refusal_text r = words_of r ++ place_words r ++ codes "; refusal " ++ decimal (number_of r)
