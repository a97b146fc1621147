-- The laws of accepted documents.
use Rattle.std.proofs.Common.{[], ap, ◌∙◌, append-nil}
use Rattle.document.specs.Bytes.{bytes}
use Rattle.document.specs.Replay.{finish}
use Rattle.document.specs.Theorems.{Conservation, ReplaysWithin, Replays, Faithful}
use Rattle.document.proofs.Accepting.{accepted-sane}
use Rattle.document.proofs.Count.{counted, counted-root}
use Rattle.document.proofs.Heard.{heard-within}
use Rattle.document.proofs.Faith.{apart-within}

pub conservation : Conservation
conservation sizes cs a d = let s = (accepted-sane sizes cs a d).complete in (counted-root cs s, counted cs s)

pub replays-within : ReplaysWithin
replays-within col law sizes cs a d = heard-within col law sizes cs (accepted-sane sizes cs a d)

pub replays : Replays
replays col law sizes cs a d qs asks nodes slots n c = ap finish (rw (append-nil (bytes col cs)) at (replays-within col law sizes cs a d qs asks nodes slots n c []))

pub faithful : Faithful
faithful col law one two cs ds a d b e alike =
    (λ same. apart-within col law one two cs ds (accepted-sane one cs a d) (accepted-sane two ds b e) alike [] (append-nil (bytes col cs) ∙ same), λ same. ap (bytes col) same)
