use Rattle.std.proofs.Common.{refl}
use Rattle.ser.proofs.Closing.{kept-ready, writes}
use Rattle.ser.proofs.writer.Closed.write_out.Goals as goal

pub write_out-requires : goal.write_out-requires
write_out-requires g c = kept-ready c.args.self.now.desk c.args.self.now.stands

pub returns : goal.returns
returns g c cs S =
    writes (g.C.Column.meaning c.args.kind.now) c.args.self.now.desk cs _ c.args.scratch.now c.write_out.new.scratch c.args.output.now c.write_out.new.output c.write_out.result S refl c.write_out.ensures.answer c.write_out.ensures.scratch-is c.write_out.ensures.output-is
