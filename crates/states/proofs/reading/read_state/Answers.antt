use Rattle.std.proofs.Common.{Err}
use Rattle.states.proofs.Awaited.{whole-read, finish-accepted, wanting}
use Rattle.states.proofs.reading.read_state.Goals as goal

pub returns-in_err-seats-clause-reads : goal.returns-in_err-seats-clause-reads
returns-in_err-seats-clause-reads g c s w =
    wanting _ c.from_residual.result c.in_err-seats.field-0.0 c.from_residual.ensures.1 (whole-read c.in_err-seats.ensures s.seats.now w)

pub returns-in_err-finish-clause-reads : goal.returns-in_err-finish-clause-reads
returns-in_err-finish-clause-reads g c s w =
    let read = whole-read c.in_ok-seats.ensures s.seats.now w in
    let accepted = finish-accepted c.read_seats.new.reader (Err c.in_err-finish.field-0.0) c.in_err-finish.ensures read.1 in
    cc accepted

pub returns-clause-reads : goal.returns-clause-reads
returns-clause-reads g c s w = (whole-read c.in_ok-seats.ensures s.seats.now w).0
