-- Where an image was put, reading finds the values again.
use Rattle.std.proofs.Common.{◌≡◌, ℕ, ◌+◌, true, ◌&&◌, leb, List, ◌++◌, length, take, drop, Ok, sym, ap, ◌∙◌, arith}
use Rattle.std.proofs.lemmas.List.{drop_at, length-take-le}
use Rattle.std.proofs.lemmas.Bool.{le-leb, leb-true, and_parts}
use Rattle.column.specs.Widths.{listed, below}
use Rattle.column.specs.Parsed.{got}
use Rattle.column.specs.Meaning.{Meaning, Lawful}
use Rattle.column.specs.Interface.{overlaid, writing, reading}
use Rattle.column.proofs.Choice.{chose-both}
use Rattle.column.proofs.Widths.{below-decides}
use Rattle.column.proofs.Overlaid.{length-overlaid}

pub read_again : (kind : Meaning) → Lawful kind → (layer w : ℕ) (vs old new : List ℕ) (place n : ℕ) → Ok n ≡ writing kind layer w vs (length old) place → new ≡ overlaid place (kind.image w vs) old
    → reading kind w (length vs) new place ≡ got vs n
read_again kind law layer w vs old new place n h e =
    let image = kind.image w vs in
    let ok = chose-both (listed w && below w vs) (leb (place + length image) (length old)) (length image) n _ _ h in
    let parts = and_parts (listed w) (below w vs) ok.0 in
    let room = leb-true (place + length image) (length old) ok.1 in
    let rest : List ℕ = drop (place + length image) old in
    let there : drop place new ≡ image ++ rest = ap (drop place) e ∙ drop_at (take place old) (image ++ rest) place (length-take-le place old (omega (arith, room))) in
    let long : length new ≡ length old = ap length e ∙ length-overlaid place image old room in
    let within : leb place (length new) ≡ true = le-leb place (length new) (omega (arith, long, room)) in
    let all : kind.parse w (length vs) (drop place new) ≡ got vs n =
    ap (kind.parse w (length vs)) there ∙ law.reads w vs rest parts.0 ((below-decides w vs).0 parts.1) ∙ ap (got vs) (sym ok.2) in
    rw within all
